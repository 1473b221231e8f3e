-- What a link's failure leaves: all as it was where it is refused; a waiting link is out; an open one is changing, with a COO and T2,
-- or with T1. Assumes nothing.
use mathlib.Core.Path.{◌≡◌, sym, ap, ◌∙◌}
use mathlib.Core.Bool.{Bool, true, false, cond}
use mathlib.Core.List.{List}
use Prim.Native.Nat.{ℕ}
use lib.Dec.{eqb}
use borrow.Author.Tests.{eq-eqb, ne_eqb}
use Rattle.plan.specs.declared.data.Plan.{Plan}
use Rattle.area_links.specs.declared.LinkRecord.{LinkRecord}
use Rattle.area_links.specs.LinkRecords.{record_at, with_record}
use Rattle.std.specs.Prelude.{Result, Err, Ok}
use Rattle.std.specs.Result.{result_unwrap_or}
use Rattle.replies.specs.declared.Answer.{Answer}
use Rattle.replies.specs.declared.Refusal.{Refusal}
use Rattle.replies.proofs.Numbers.{over, none, answers}
use Rattle.replies.specs.Reply.{plain, done, number, number_of}
use Rattle.replies.specs.Areas.{Areas, areas, Outcome, outcome, Leaves}
use Rattle.replies.proofs.Leaving.{leaves}
use Rattle.management_making.specs.declared.Draft.{Draft}
use Rattle.management_making.specs.Make.{Held, held, held_in, made, is_made}
use Rattle.management_making.proofs.Making.{MakeLeaves, told_made}
use Rattle.changeover_cuts.specs.declared.Cut.{Cut}
use Rattle.changeover_cuts.specs.Cuts.{cut_none}
use Rattle.changeover_ending.specs.End.{out_of_service}
use Rattle.changeover_failure.specs.Failure.{state_at, reply_of, order_of, changing, timer_by}
use Rattle.changeover.specs.Fail.{timer_of, open_failed, failed}
use Rattle.replies.proofs.Judging.{leaves_refused, leaves_done, whole}
use Rattle.changeover_ending.proofs.Ended.{EndLeaves, out_whole}

module _ (plan : Plan) (a : Areas) (link : ℕ) where
  -- the COO was made, or not, and the record read is stored as that of a changing link
  module _ (order : Draft) (says : order ≡ order_of plan a.links link) (sent : Result Bool Refusal) (spans rings rows arrivals : List ℕ)
      (left : MakeLeaves plan a.links a.marks order a.spans a.rings a.rows a.arrivals sent spans rings rows arrivals)
      (told : Bool) (taken : told ≡ result_unwrap_or sent false) where
    now_held : held spans rings rows arrivals ≡ made plan a.links a.marks (order_of plan a.links link) (held_in a)
    now_held = left.2 ∙ ap (λ (d : Draft). made plan a.links a.marks d (held_in a)) says

    -- T2 with a COO, else T1
    timer_is : timer_by told ≡ timer_of plan a link
    unfolding timer_of
    timer_is =
        ap timer_by taken
        ∙ ap (λ (m : Result Bool Refusal). timer_by (result_unwrap_or m false)) left.0
        ∙ ap timer_by (told_made plan a.links a.marks order a.spans a.arrivals)
        ∙ ap (λ (d : Draft). timer_by (is_made plan a.links a.marks a.spans a.arrivals d)) says

    pub open_fails : (known : LinkRecord) → known ≡ record_at a.links link
        → (next : LinkRecord) → next ≡ changing known (timer_by told)
        → (links : List ℕ) → links ≡ with_record a.links link next
        → (answer : Answer) → answer ≡ done 0
        → Leaves (open_failed plan a link) answer (areas links a.marks spans rings rows arrivals a.reports)
    unfolding open_failed
    open_fails known loaded next changes links stored answer tells =
        let all : Answer → List ℕ → Held → Outcome =
        λ r l n. outcome r (areas l a.marks n.queues.spans n.queues.rings n.rows n.arrivals a.reports)
        in
        let links_are : links ≡ with_record a.links link (changing (record_at a.links link) (timer_of plan a link)) =
        stored
        ∙ ap (λ (r : LinkRecord). with_record a.links link r) changes
        ∙ ap (λ (r : LinkRecord). with_record a.links link (changing r (timer_by told))) loaded
        ∙ ap (λ (t : ℕ). with_record a.links link (changing (record_at a.links link) t)) timer_is
        in
        leaves (open_failed plan a link) answer (areas links a.marks spans rings rows arrivals a.reports)
        (ap (λ (r : Answer). all r links (held spans rings rows arrivals)) tells
        ∙ ap (λ (l : List ℕ). all (done 0) l (held spans rings rows arrivals)) links_are
        ∙ ap (λ (n : Held). all (done 0) (with_record a.links link (changing (record_at a.links link) (timer_of plan a link))) n) now_held)

  module _ (told : Result Unit Refusal) (is : number_of told ≡ reply_of plan a.links link a.reports) where
    -- what it does, by whether the link waits
    abbrev does : Bool → Outcome
    does waits = cond waits (out_of_service plan a link cut_none) (open_failed plan a link)

    pub failure_refused : (refusal : Refusal) → told ≡ Err refusal → (answer : Answer) → answer ≡ plain (number refusal)
        → Leaves (failed plan a link) answer a
    unfolding failed
    failure_refused refusal refuses answer says =
        leaves_refused (number_of told) (reply_of plan a.links link a.reports) is (does (eqb (state_at a.links link) 1)) a
        (over told refusal refuses) answer (answers told refusal refuses answer says)

    module _ (fits : told ≡ Ok tt) (known : LinkRecord) (loaded : known ≡ record_at a.links link) where
      by_state : (waits : Bool) → eqb known.state 1 ≡ waits → (answer : Answer) (after : Areas)
          → outcome answer after ≡ does waits → Leaves (failed plan a link) answer after
      unfolding failed
      by_state waits e answer after did =
          leaves_done (number_of told) (reply_of plan a.links link a.reports) is (does (eqb (state_at a.links link) 1)) a (none told tt fits) answer after
          (did ∙ ap does (sym e) ∙ ap (λ (r : LinkRecord). does (eqb r.state 1)) loaded)

      -- a waiting link: "out, its timers stop, its queue moves at once"
      pub waiting_fails : known.state ≡ 1 → (parts : Cut) → parts ≡ cut_none → (count : ℕ) (reports links spans rings : List ℕ)
          → EndLeaves plan a link parts count reports links spans rings → (answer : Answer) → answer ≡ done count
          → Leaves (failed plan a link) answer (areas links a.marks spans rings a.rows a.arrivals reports)
      waiting_fails waits parts cut count reports links spans rings left answer says =
          by_state true (eq-eqb known.state 1 waits) answer (areas links a.marks spans rings a.rows a.arrivals reports)
          (out_whole plan a link parts count reports links spans rings left answer says cut_none cut)

      -- an open one
      pub other_fails : (known.state ≡ 1 → ⊥) → (answer : Answer) (links spans rings rows arrivals : List ℕ)
          → (let after = areas links a.marks spans rings rows arrivals a.reports in
          Leaves (open_failed plan a link) answer after → Leaves (failed plan a link) answer after)
      other_fails other answer links spans rings rows arrivals left =
          by_state false (ne_eqb known.state 1 other) answer (areas links a.marks spans rings rows arrivals a.reports)
          (whole (open_failed plan a link) answer links a.marks spans rings rows arrivals a.reports left)
