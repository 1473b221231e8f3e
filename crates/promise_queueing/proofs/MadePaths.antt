-- The path of a message that the node makes is the link that the rule gives where only those links serve that the call leaves open.
-- Assumes nothing.
use mathlib.Core.Path.{◌≡◌, refl, sym, ap, fun_ext, ◌∙◌}
use mathlib.Core.Bool.{Bool, true, false, cond, not, ◌&&◌, and-false}
use mathlib.Core.List.{List}
use Prim.Native.Nat.{ℕ, ◌+◌, ◌*◌, ◌%◌, ◌<◌}
use native.Mathlib.Omega.{arith}
use lib.Dec.{eqb, ltb}
use lib.ListN.{length}
use lib.Seq.{get_or-set_other}
use borrow.Author.Tests.{ltb-true, eqb-true, eq-eqb, ne_eqb}
use borrow.Table.Steps.{cases}
use Rattle.plan.specs.declared.data.Plan.{Plan}
use Rattle.plan.specs.Find.{place_of, is_found}
use Rattle.plan.proofs.Split.{alike}
use Rattle.area_links.specs.declared.LinkRecord.{LinkRecord}
use Rattle.area_links.specs.LinkRecords.{record_at, with_record}
use Rattle.wire_messages.specs.declared.management.Message.{Message}
use Rattle.wire_messages.specs.declared.management.Message.TheVariants.{COO, COA, CBD, CBA, ECO, ECA, TFP, TFA, RST}
use Rattle.route_serving.specs.State.{is_open, serves, is_marked}
use Rattle.route_choice.specs.Which.{none, chosen}
use Rattle.route_ways.specs.Way.{for_management, link_for, way_of}
use Rattle.lookup.specs.Lookup.{link_named}
use Rattle.replies.specs.Areas.{Areas}
use Rattle.numbers.specs.Numbers.{taken}
use Rattle.management_making.specs.declared.Draft.{Draft}
use Rattle.management_making.specs.Make.{path_of}
use Rattle.changeover_cuts.specs.declared.Cut.{Cut}
use Rattle.changeover_cuts.specs.Cuts.{cut_at, cut_unknown, cut_none, out_of}
use Rattle.changeover_ending.specs.End.{links_out}
use Rattle.changeover_failure.specs.Failure.{order_of, changing}
use Rattle.management_steps.specs.declared.Step.{Step}
use Rattle.management_steps.specs.Step.{nothing, answer, answer_and_end, end, draft, order_step, ack_step}
use Rattle.management_asking.specs.Ask.{last_received, emergency_of, ask_coo, ask_eco, ask_coa, ask_eca}
use Rattle.management_requests.specs.Request.{ask_cbd, allows, ask_rst}
use Rattle.managing.specs.Managed.{asked, step_asked}
use Rattle.promise_runs.proofs.Outcomes.{by_test, unmet}
use Rattle.changeback_service.proofs.Carries.{state_read}
use Rattle.promise_runs.proofs.Records.{record_rewritten}
use Rattle.promise_queueing.specs.Making.{open_path, path_by, path_for}

module _ (links : List ℕ) where
  -- what serves a message of the node, but for a link that it never uses: an open link
  open_serves : (never link : ℕ) → eqb link never ≡ false → serves links (for_management never) link ≡ is_open links link
  open_serves never link other =
      ap (λ (t : Bool). ltb link 32 && (not t && is_open links link)) other
      ∙ cases (ltb link 32) (λ e. simp e) (λ e. simp e)

  -- that link doesn't
  never_serves : (never link : ℕ) → eqb link never ≡ true → serves links (for_management never) link ≡ false
  never_serves never link same = ap (λ (t : Bool). ltb link 32 && (not t && is_open links link)) same ∙ and-false (ltb link 32)

  -- so that where it isn't open just the open links serve
  shut_serves : (never : ℕ) → is_open links never ≡ false → (link : ℕ) → serves links (for_management never) link ≡ is_open links link
  shut_serves never shut link =
      cases (eqb link never)
      (λ same. never_serves never link same ∙ sym (ap (is_open links) (eqb-true link never same) ∙ shut))
      (open_serves never link)

  -- a link that is out isn't open
  out_shut : (link : ℕ) → eqb (record_at links link).state 0 ≡ true → is_open links link ≡ false
  out_shut link out = ap (λ (n : ℕ). eqb n 2) (state_read links link ∙ eqb-true (record_at links link).state 0 out)

  -- where a link isn't open any more, and all others are as they were, those serve that are open then, but for that link
  rewritten_serves : (link : ℕ) (new : LinkRecord) → eqb (new.state % 4) 2 ≡ false → length links ≡ 256 → link < 32 → (other : ℕ)
      → serves links (for_management link) other ≡ is_open (with_record links link new) other
  rewritten_serves link new shut long within other =
      let after = with_record links link new in
      let rewritten = record_rewritten links link new in
      alike other link
      (λ same.
      never_serves link other (eq-eqb other link same)
      ∙ sym
      (ap (is_open after) same
      ∙ ap (λ (n : ℕ). eqb n 2) (state_read after link)
      ∙ ap (λ (known : LinkRecord). eqb known.state 2) (rewritten.there long within)
      ∙ shut))
      (λ apart.
      open_serves link other (ne_eqb other link apart)
      ∙ ap (λ (n : ℕ). eqb n 2)
      (state_read links other ∙ ap (λ (known : LinkRecord). known.state) (sym (rewritten.others other apart)) ∙ sym (state_read after other)))

  -- a message that is taken leaves every link's state
  taken_open : (arriving fsn link : ℕ) → is_open (taken links arriving fsn) link ≡ is_open links link
  unfolding taken
  taken_open arriving fsn link =
      cases (ltb arriving 32)
      (λ e.
      simp e
      (ap (λ (n : ℕ). eqb (cond (ltb link 32) (n % 4) 0) 2) (get_or-set_other links (8 * arriving + 2) (8 * link) fsn 0 (λ same. omega arith))))
      (λ e. simp e)

module _ (plan : Plan) (marks : List ℕ) where
  -- the path of a message is that of the links which serve it
  on_open : (links after : List ℕ) (draft : Draft)
      → ((link : ℕ) → serves links (for_management draft.never) link ≡ is_open after link)
      → path_of plan links marks draft ≡ open_path plan after marks draft.point draft.slc
  unfolding path_of way_of link_for open_path
  on_open links after draft same =
      let to = place_of plan draft.point in
      ap (λ (f : ℕ → Bool). cond (is_found plan draft.point) (chosen f (is_marked marks to) plan to draft.slc) none) (fun_ext same)

  -- a message that may use any link
  pub any_open : (links : List ℕ) (draft : Draft) → draft.never ≡ none
      → path_of plan links marks draft ≡ open_path plan links marks draft.point draft.slc
  any_open links draft any = on_open links links draft (shut_serves links draft.never (ap (is_open links) any))

  -- the COO of a link that fails
  pub order_path : (links : List ℕ) (link timer : ℕ) → length links ≡ 256 → link < 32
      → let order = order_of plan links link in
      path_of plan links marks order
      ≡ path_by (open_path plan (with_record links link (changing (record_at links link) timer)) marks) order.message order.point order.slc
  unfolding order_of path_by
  order_path links link timer long within =
      on_open links (with_record links link (changing (record_at links link) timer)) (order_of plan links link)
      (rewritten_serves links link (changing (record_at links link) timer) refl long within)

  -- a message that is taken leaves every path
  open_taken : (links : List ℕ) (arriving fsn point sls : ℕ)
      → open_path plan (taken links arriving fsn) marks point sls ≡ open_path plan links marks point sls
  unfolding open_path
  open_taken links arriving fsn point sls =
      let to = place_of plan point in
      ap (λ (f : ℕ → Bool). cond (is_found plan point) (chosen f (is_marked marks to) plan to sls) none) (fun_ext (taken_open links arriving fsn))

  pub path_taken : (links : List ℕ) (arriving fsn : ℕ) (draft : Draft)
      → path_by (open_path plan (taken links arriving fsn) marks) draft.message draft.point draft.slc
      ≡ path_by (open_path plan links marks) draft.message draft.point draft.slc
  path_taken links arriving fsn draft =
      ap (λ (linkTo : ℕ → ℕ → ℕ). path_by linkTo draft.message draft.point draft.slc)
      (fun_ext (λ (point : ℕ). fun_ext (λ (sls : ℕ). open_taken links arriving fsn point sls)))

-- the answer to a message
module _ (plan : Plan) (a : Areas) (long : length a.links ≡ 256) where
  -- the links that a step leaves: one goes out, or none does
  abbrev pub links_left : Step → List ℕ
  links_left step = cond step.ends (links_out a.links step.link) a.links

  -- its path is that of the links left
  abbrev pub Fits : Step → Type 0
  Fits step =
      step.answers ≡ true
      → path_of plan a.links a.marks step.draft
      ≡ path_by (open_path plan (links_left step) a.marks) step.draft.message step.draft.point step.draft.slc

  -- an ECA about a link that is out
  out_path : (point slc link : ℕ) → eqb (record_at a.links link).state 0 ≡ true
      → path_of plan a.links a.marks (emergency_of point slc link) ≡ path_for plan a a (emergency_of point slc link)
  unfolding emergency_of path_by
  out_path point slc link out =
      on_open plan a.marks a.links a.links (draft ECA point slc link) (shut_serves a.links link (out_shut a.links link out))

  -- an answer that never uses the link that goes out
  spared_path : (answer : Draft) → answer.never < 32
      → path_of plan a.links a.marks answer ≡ open_path plan (links_out a.links answer.never) a.marks answer.point answer.slc
  unfolding links_out
  spared_path answer within =
      let link = answer.never in
      on_open plan a.marks a.links (with_record a.links link (out_of (record_at a.links link))) answer
      (rewritten_serves a.links link (out_of (record_at a.links link)) refl long within)

  order_fits : (point slc link : ℕ) (own : Draft) (parts : Cut)
      → path_of plan a.links a.marks own ≡ path_by (open_path plan (links_out a.links link) a.marks) own.message own.point own.slc
      → Fits (order_step (record_at a.links link) link own (emergency_of point slc link) parts)
  unfolding order_step
  order_fits point slc link own parts spared =
      let known = record_at a.links link in
      by_test Fits (eqb known.state 0) (answer (emergency_of point slc link))
      (answer_and_end own link (cond (eqb known.state 1) cut_none parts))
      (λ out answers. out_path point slc link out)
      (λ e answers. spared)

  ack_fits : (link : ℕ) (known : LinkRecord) (parts : Cut) → Fits (ack_step link known parts)
  unfolding ack_step
  ack_fits link known parts = by_test Fits (ltb link 32 && eqb known.timer 2) (end link parts) nothing (λ e. unmet) (λ e. unmet)

  pub asked_fits : (arriving fsn point slc : ℕ) (message : Message) → Fits (step_asked plan a.links a.marks arriving fsn point slc message)
  unfolding asked ask_coo ask_coa ask_cbd ask_eco ask_eca ask_rst emergency_of path_by
  asked_fits arriving fsn point slc (COO f) =
      let link = link_named plan point slc in
      let known = record_at a.links link in
      let own = draft (COA (last_received a.links arriving fsn link)) point slc link in
      by_test Fits (ltb link 32) (order_step known link own (emergency_of point slc link) (cut_at known f)) nothing
      (λ e. order_fits point slc link own (cut_at known f) (spared_path own (ltb-true link 32 e)))
      (λ e. unmet)
  asked_fits arriving fsn point slc (COA f) =
      let known = record_at a.links (link_named plan point slc) in ack_fits (link_named plan point slc) known (cut_at known f)
  asked_fits arriving fsn point slc (CBD code) =
      by_test Fits (ltb (link_named plan point slc) 32) (answer (draft (CBA code) point slc 32)) nothing
      (λ e answers. any_open plan a.marks a.links (draft (CBA code) point slc 32) refl)
      (λ e. unmet)
  asked_fits arriving fsn point slc (CBA code) = unmet
  asked_fits arriving fsn point slc ECO =
      let link = link_named plan point slc in
      let known = record_at a.links link in
      let own = draft ECA point slc link in
      by_test Fits (ltb link 32) (order_step known link own (emergency_of point slc link) (cut_unknown known)) nothing
      (λ e. order_fits point slc link own (cut_unknown known) (spared_path own (ltb-true link 32 e)))
      (λ e. unmet)
  asked_fits arriving fsn point slc ECA =
      let known = record_at a.links (link_named plan point slc) in ack_fits (link_named plan point slc) known (cut_unknown known)
  asked_fits arriving fsn point slc (TFP x) = unmet
  asked_fits arriving fsn point slc (TFA x) = unmet
  asked_fits arriving fsn point slc (RST x) =
      by_test Fits (allows plan a.links a.marks point x) (answer (draft (TFA x) point 0 32)) nothing
      (λ e answers. any_open plan a.marks a.links (draft (TFA x) point 0 32) refl)
      (λ e. unmet)
