-- What a link's coming into service leaves: all as it was where it is refused, before its pairs are looked at or because its CBD
-- finds no place or number, and else the link's record, the CBD and the reports. Assumes nothing.
use mathlib.Core.Path.{◌≡◌, sym, ap, ◌∙◌}
use mathlib.Core.Bool.{Bool, true, false, cond}
use mathlib.Core.List.{List}
use Prim.Native.Nat.{ℕ, ◌≤◌, ◌<◌}
use native.Mathlib.Omega.{arith}
use lib.Dec.{eqb}
use lib.ListN.{get_or}
use borrow.Author.Tests.{eq-eqb, ne_eqb}
use Rattle.plan.specs.declared.data.Plan.{Plan}
use Rattle.area_links.specs.declared.LinkRecord.{LinkRecord}
use Rattle.area_links.specs.LinkRecords.{with_record}
use Rattle.replies.specs.declared.Answer.{Answer}
use Rattle.replies.specs.Reply.{plain, done, if_done}
use Rattle.replies.specs.Areas.{Areas, areas, Outcome, outcome, Leaves}
use Rattle.replies.proofs.Judging.{is_refused, is_done}
use Rattle.replies.proofs.Leaving.{leaves}
use Rattle.reports.specs.Report.{Log, log}
use Rattle.route_access.specs.Change.{accesses_of, is_accessible, changes_told}
use Rattle.route_access.proofs.Filled.{says_each}
use Rattle.route_access.proofs.Same.{told_same}
use Rattle.management_making.specs.Make.{Held, held, held_in}
use Rattle.changeback_pairs.specs.declared.Sources.{Sources}
use Rattle.changeback_service.specs.InService.{comes_as, sources_in, links_in, reply_first}
use Rattle.changeback.specs.Service.{declare_reply, reply_of, declared, resumed, into_service}
use Rattle.changeback.proofs.Declaring.{DeclareLeaves, declared_kept}

module _ (plan : Plan) (a : Areas) (link : ℕ) where
  -- refused before its pairs are looked at
  module _ (reply : ℕ) (is : reply ≡ reply_first plan a.links link a.reports) where
    reply_by : (test : Bool) → eqb reply 0 ≡ test
        → cond test (declare_reply a.spans a.arrivals (sources_in plan a.links a.marks link)) reply ≡ reply_of plan a link
    unfolding reply_of
    reply_by test e =
        let later = declare_reply a.spans a.arrivals (sources_in plan a.links a.marks link) in
        ap (λ (t : Bool). cond t later reply) (sym e) ∙ ap (λ (n : ℕ). if_done n later n) is

    pub refused_first : (answer : Answer) → 0 < reply → answer ≡ plain reply → Leaves (into_service plan a link) answer a
    unfolding into_service
    refused_first answer h e =
        leaves (into_service plan a link) answer a
        (ap (λ (r : Answer). outcome r a) e
        ∙ is_refused reply (reply_of plan a link) (reply_by false (ne_eqb reply 0 (omega arith))) _ a h)

    -- its pairs come from these links, and the CBD was judged
    module _ (None-first : reply ≤ 0) (from : Sources) (found : from ≡ sources_in plan a.links a.marks link)
        (lacking : ℕ) (spans rings rows arrivals : List ℕ)
        (left : DeclareLeaves plan link from a.spans a.rings a.rows a.arrivals lacking spans rings rows arrivals) where
      reply_is : lacking ≡ reply_of plan a link
      reply_is =
          left.0
          ∙ ap (λ (f : Sources). declare_reply a.spans a.arrivals f) found
          ∙ reply_by true (eq-eqb reply 0 (omega arith))

      -- what is held then
      now_held : held spans rings rows arrivals ≡ declared plan link from (held_in a)
      now_held = left.1

      -- refused because the CBD finds no place or number
      pub refused_lacking : (answer : Answer) → 0 < lacking → answer ≡ plain lacking
          → Leaves (into_service plan a link) answer (areas a.links a.marks spans rings rows arrivals a.reports)
      unfolding into_service
      refused_lacking answer h e =
          let lacks : eqb (declare_reply a.spans a.arrivals from) 0 ≡ false =
          ap (λ (n : ℕ). eqb n 0) (sym left.0) ∙ ne_eqb lacking 0 (omega arith)
          in
          let kept : held spans rings rows arrivals ≡ held_in a = now_held ∙ declared_kept plan link from (held_in a) lacks in
          leaves (into_service plan a link) answer (areas a.links a.marks spans rings rows arrivals a.reports)
          (ap (λ (r : Answer). outcome r (areas a.links a.marks spans rings rows arrivals a.reports)) e
          ∙ ap
          (λ (n : Held).
          outcome (plain lacking)
          (areas a.links a.marks n.queues.spans n.queues.rings n.rows n.arrivals a.reports))
          kept
          ∙ is_refused lacking (reply_of plan a link) reply_is _ a h)

      -- done: the link has its record, and what has access now is reported
      module _ (all_held : lacking ≤ 0) (known : LinkRecord) (comes : known ≡ comes_as from) (links : List ℕ)
          (stored : links ≡ with_record a.links link known) (table : List Bool)
          (accessed : table ≡ accesses_of plan a.links a.marks) where
        links_are : links ≡ links_in plan a.links a.marks link
        unfolding links_in
        links_are =
            stored
            ∙ ap (λ (r : LinkRecord). with_record a.links link r) comes
            ∙ ap (λ (f : Sources). with_record a.links link (comes_as f)) found

        told_is : changes_told plan (λ (d : ℕ). get_or table d false) (is_accessible plan links a.marks) (log a.reports 0)
            ≡ resumed plan a link
        unfolding resumed
        told_is =
            told_same plan (λ (d : ℕ). get_or table d false) (is_accessible plan a.links a.marks)
            (is_accessible plan links a.marks) (is_accessible plan (links_in plan a.links a.marks link) a.marks)
            (log a.reports 0) (says_each plan a.links a.marks table accessed)
            (λ d h. ap (λ (l : List ℕ). is_accessible plan l a.marks d) links_are)

        pub comes_in : (answer : Answer) (count : ℕ) (reports : List ℕ)
            → (let told =
            changes_told plan (λ (d : ℕ). get_or table d false) (is_accessible plan links a.marks) (log a.reports 0)
            in
            (count ≡ told.count) × (reports ≡ told.area))
            → answer ≡ done count
            → Leaves (into_service plan a link) answer (areas links a.marks spans rings rows arrivals reports)
        unfolding into_service
        comes_in answer count reports told e =
            let all : Answer → List ℕ → Held → List ℕ → Outcome =
            λ r l n p. outcome r (areas l a.marks n.queues.spans n.queues.rings n.rows n.arrivals p)
            in
            let now : Held = declared plan link (sources_in plan a.links a.marks link) (held_in a) in
            let held_is : held spans rings rows arrivals ≡ now =
            now_held ∙ ap (λ (f : Sources). declared plan link f (held_in a)) found
            in
            let counted : count ≡ (resumed plan a link).count = told.0 ∙ ap (λ (t : Log). t.count) told_is in
            let written : reports ≡ (resumed plan a link).area = told.1 ∙ ap (λ (t : Log). t.area) told_is in
            leaves (into_service plan a link) answer (areas links a.marks spans rings rows arrivals reports)
            (ap (λ (r : Answer). all r links (held spans rings rows arrivals) reports) (e ∙ ap done counted)
            ∙ ap (λ (l : List ℕ). all (done (resumed plan a link).count) l (held spans rings rows arrivals) reports) links_are
            ∙ ap (λ (n : Held). all (done (resumed plan a link).count) (links_in plan a.links a.marks link) n reports) held_is
            ∙ ap (λ (p : List ℕ). all (done (resumed plan a link).count) (links_in plan a.links a.marks link) now p) written
            ∙ is_done lacking (reply_of plan a link) reply_is _ a (omega arith))
