-- A message that is made or queued stands behind those that were there; a link that goes out takes nothing from the others; and those held
-- apart that move stand behind too.
-- Assumes nothing.
use mathlib.Core.Path.{◌≡◌, refl, sym, ap, ◌∙◌}
use mathlib.Core.Bool.{true, false}
use mathlib.Core.List.{List, [], ◌∷◌, ◌++◌, map, append-nil, append_assoc}
use Prim.Native.Nat.{ℕ, ◌<◌}
use native.Mathlib.Omega.{arith}
use lib.Dec.{eqb, ltb}
use borrow.Author.Tests.{ltb-true}
use borrow.Table.Elements.{map_app}
use borrow.Table.Steps.{cases}
use Rattle.plan.specs.declared.data.Plan.{Plan}
use Rattle.plan.proofs.Split.{alike}
use Rattle.area_links.specs.LinkRecords.{record_at}
use Rattle.queue_rings.specs.Ring.{count_of}
use Rattle.reports.specs.Report.{short}
use Rattle.replies.specs.Areas.{Areas}
use Rattle.route_choice.specs.Which.{none}
use Rattle.queue_heads.specs.Head.{both, head_of, moved, freed}
use Rattle.queue_retiring.specs.Leave.{State, dropped_one}
use Rattle.wire_messages.specs.Management.{heading_of, field_of}
use Rattle.management_making.specs.declared.Draft.{Draft}
use Rattle.management_making.specs.Make.{Held, path_of, has_path, made, held_in, with_held, with_made}
use Rattle.queue_moving.specs.Move.{apart, point_of, goes_to, moved_one}
use Rattle.rerouting_releasing.specs.Release.{released_one, released}
use Rattle.changeover_cuts.specs.declared.Cut.{Cut}
use Rattle.changeover_cuts.specs.Cuts.{out_of}
use Rattle.changeover_ending.specs.End.{links_out, out_of_service}
use Rattle.promise_runs.proofs.Records.{record_rewritten}
use Rattle.promise_runs.proofs.Outcomes.{RegularIn, by_test}
use Rattle.promise_runs.proofs.Leaving.{repeated}
use Rattle.promise_ledger.specs.Held.{arrival_of, numbers}
use Rattle.promise_ledger.proofs.Balance.{moved_none}
use Rattle.promise_ledger.proofs.Behind.{management_joined}
use Rattle.promise_ledger.proofs.Gone.{Ready}
use Rattle.promise_ledger.proofs.Moving.{released_one_even}
use Rattle.promise_leaving.specs.Going.{slots_of}
use Rattle.promise_leaving.proofs.Queues.{head_found, head_none, moved_to, moved_other, freed_other}
use Rattle.promise_accounts.proofs.EvenMaking.{joined}
use Rattle.promise_accounts.proofs.Endings.{out_exactly}
use Rattle.promise_farend.proofs.Onward.{same_if, same_self, Onward, onward_none}

module _ (a : Areas) (octets : List ℕ) (regular : RegularIn a octets) where
  -- a management message at the end of a queue
  pub joined_onward : (ring : ℕ) → ring < 33 → (heading point slc field : ℕ)
      → Onward 32 a (with_held a (joined a octets regular ring heading point slc field))
  joined_onward ring h heading point slc field = record {
    queues =
        λ link l apart.
        management_joined a.rows octets (both a.spans a.rings) regular.store a.arrivals ring h heading point slc field link
        (omega arith);
    records = λ link l apart. same_self (record_at a.links link);
  }

  -- that the node makes
  pub made_onward : (plan : Plan) (draft : Draft) → Onward 32 a (with_made plan draft a)
  unfolding made
  made_onward plan draft =
      let path = path_of plan a.links a.marks draft in
      by_test (λ (now : Held). Onward 32 a (with_held a now)) (has_path plan a.links a.marks draft)
      (joined a octets regular path (heading_of draft.message) draft.point draft.slc (field_of draft.message))
      (held_in a)
      (λ e.
      let h = ltb-true path none e in
      joined_onward path (omega arith) (heading_of draft.message) draft.point draft.slc (field_of draft.message))
      (λ e. record { queues = (onward_none 32 a).queues; records = (onward_none 32 a).records })

  -- a link goes out
  pub out_onward : (plan : Plan) (link : ℕ) → link < 32 → short a.reports ≡ false → (parts : Cut)
      → Onward link a (out_of_service plan a link parts).after
  unfolding out_of_service links_out
  out_onward plan link h wide parts =
      let exact = out_exactly plan a octets regular true false 32 link h wide parts in
      record {
        queues = λ other l apart. (_, exact.ended.cleared.joined other l apart);
        records =
            λ other l apart. same_if _ _ ((record_rewritten a.links link (out_of (record_at a.links link))).others other apart);
      }

-- the queues of links with what is new behind what they had
abbrev Grows : List ℕ → State → State → Type 0
Grows rows before after =
    (link : ℕ) → link < 32 → (new : List ℕ) × (numbers rows after.queues link ≡ numbers rows before.queues link ++ new)

module _ (rows octets : List ℕ) (plan : Plan) (links marks : List ℕ) where
  grows_none : (now : State) → Grows rows now now
  grows_none now link h = ([], sym (append-nil (numbers rows now.queues link)))

  grows_on : (first next last : State) → Grows rows first next → Grows rows next last → Grows rows first last
  grows_on first next last one two link h =
      let here = one link h in
      let there = two link h in (
        here.0 ++ there.0,
        there.1
            ∙ ap (λ (l : List ℕ). l ++ there.0) here.1
            ∙ append_assoc (numbers rows first.queues link) here.0 there.0,
      )

  -- the first of those held apart goes to a link, is dropped, or goes behind the others
  module _ (now : State) (ready : Ready rows octets apart now) (slot : ℕ) (later : List ℕ) (e : slots_of now.queues apart ≡ slot ∷ later) where
    to_link : (to : ℕ) → to < 33 → (link : ℕ) → link < 32
        → (new : List ℕ) × (numbers rows (moved now.queues apart to) link ≡ numbers rows now.queues link ++ new)
    unfolding numbers
    to_link to h link l =
        alike link to
        (λ same.
        let there =
        moved_to now.queues rows octets ready.sound apart slot later e to (omega arith) (λ back. omega arith)
        in (
          arrival_of rows slot ∷ [],
          ap (λ (r : ℕ). map (arrival_of rows) (slots_of (moved now.queues apart to) r)) same
              ∙ ap (map (arrival_of rows)) there
              ∙ map_app (arrival_of rows) (slots_of now.queues to) (slot ∷ [])
              ∙ ap (λ (r : ℕ). map (arrival_of rows) (slots_of now.queues r) ++ (arrival_of rows slot ∷ [])) (sym same),
        ))
        (λ other.
        let there =
        moved_other now.queues rows octets ready.sound apart slot later e to (omega arith) link (λ back. omega arith) other
        in
        ([], ap (map (arrival_of rows)) there ∙ sym (append-nil (map (arrival_of rows) (slots_of now.queues link)))))

    given_up : (link : ℕ) → link < 32
        → (new : List ℕ) × (numbers rows (freed now.queues apart) link ≡ numbers rows now.queues link ++ new)
    unfolding numbers
    given_up link l =
        let there =
        freed_other now.queues rows octets ready.sound apart slot later e (omega arith) link (omega arith) (λ back. omega arith)
        in
        ([], ap (map (arrival_of rows)) there ∙ sym (append-nil (map (arrival_of rows) (slots_of now.queues link))))

    one_grows : (point : ℕ) → Grows rows now (released_one plan links marks rows point now)
    unfolding released_one moved_one dropped_one
    one_grows point link l =
        let found = head_found now.queues apart slot later e in
        let to = goes_to plan links marks rows (head_of now.queues apart).slot in
        cases (eqb (point_of rows (head_of now.queues apart).slot) point)
        (λ here.
        cases (ltb to none)
        (λ goes. simp (here, found, goes) (to_link to (omega (arith, ltb-true to none goes)) link l))
        (λ lost. simp (here, found, lost) (given_up link l)))
        (λ other. simp other (to_link apart (omega arith) link l))

  -- with none held apart nothing moves
  none_grows : (now : State) → (head_of now.queues apart).found ≡ false → (point : ℕ)
      → Grows rows now (released_one plan links marks rows point now)
  unfolding released_one moved_one
  none_grows now gone point link l =
      let still = append-nil (numbers rows now.queues link) in
      cases (eqb (point_of rows (head_of now.queues apart).slot) point)
      (λ here. ([], simp (here, gone, still)))
      (λ other. ([], simp (other, moved_none now.queues apart apart gone, still)))

  one_step : (now : State) → Ready rows octets apart now → (point : ℕ) → Grows rows now (released_one plan links marks rows point now)
  one_step now ready point =
      first_of (slots_of now.queues apart) refl
    where
      first_of : (slots : List ℕ) → slots_of now.queues apart ≡ slots → Grows rows now (released_one plan links marks rows point now)
      first_of [] e = none_grows now (head_none now.queues apart e) point
      first_of (slot ∷ later) e = one_grows now ready slot later e point

  -- each of them in turn
  pub released_grows : (point : ℕ) (now : State) → Ready rows octets apart now → Grows rows now (released plan links marks rows point now)
  unfolding released
  released_grows point now ready =
      repeated (released_one plan links marks rows point) (Ready rows octets apart)
      (λ (n : ℕ) (s last : State). Grows rows s last)
      (λ s ready. (released_one_even (λ n. true) rows octets plan links marks point s ready).ready)
      (λ s ready. grows_none s)
      (λ n s last ready rest.
      grows_on s (released_one plan links marks rows point s) last (one_step s ready point) rest)
      (count_of now.queues.spans apart)
      now
      ready
