-- What leaves the messages held apart as they are: a message that is queued elsewhere, a queue that is cleared, and flags but T6.
-- Assumes nothing.
use mathlib.Core.Path.{◌≡◌, refl, sym, ap, ◌∙◌, subst}
use mathlib.Core.Bool.{true}
use mathlib.Core.List.{List}
use Prim.Native.Nat.{ℕ, zero, suc, ◌%◌, ◌≤◌, ◌<◌}
use native.Mathlib.Omega.{arith}
use lib.Dec.{eqb, ltb}
use lib.ListN.{get_or}
use borrow.Author.Tests.{ltb-true, eqb-true}
use borrow.Table.Steps.{cases}
use Rattle.constants.specs.Constants.{apart_ring, t6}
use Rattle.plan.specs.declared.data.Plan.{Plan}
use Rattle.plan.specs.Find.{place_of, is_found}
use Rattle.area_flags.specs.Flags.{flag_at}
use Rattle.area_slots.specs.declared.Slot.{Slot}
use Rattle.area_slots.specs.SlotRows.{slot_at}
use Rattle.queue_rings.specs.Ring.{count_of, queue, spans_taken}
use Rattle.queue_rings.proofs.Queues.{queue_length, taken_other, put_other}
use Rattle.queue_slots.specs.Message.{management_rows}
use Rattle.queue_slots.specs.Write.{Write}
use Rattle.queue_slots.proofs.ReadBack.{row_kept}
use Rattle.queue_store.specs.Sound.{Sound}
use Rattle.wire_messages.specs.Management.{heading_of, field_of}
use Rattle.replies.specs.Areas.{Areas}
use Rattle.route_choice.specs.Which.{none}
use Rattle.queue_heads.specs.Head.{Queues, both, head_of, moved, free_ring, freed, repeat}
use Rattle.queue_retiring.specs.Leave.{State, state, retired, dropped_one, dropped}
use Rattle.queue_moving.specs.Move.{point_of, goes_to, moved_one, moved_all}
use Rattle.queue_joining.specs.Queue.{next_of, management_reply, management_queues, rows_with_management}
use Rattle.management_making.specs.declared.Draft.{Draft}
use Rattle.management_making.specs.Make.{Held, path_of, has_path, made, held_in, with_held, with_made}
use Rattle.changeover_cuts.specs.declared.Cut.{Cut}
use Rattle.changeover_ending.specs.End.{links_out, cleared, ended, out_of_service}
use Rattle.promise_runs.proofs.Outcomes.{RegularIn, by_test}
use Rattle.promise_ledger.proofs.Balance.{moved_some, moved_none, free_apart}
use Rattle.promise_ledger.proofs.Free.{slot_apart}
use Rattle.promise_ledger.proofs.Joined.{management_found}
use Rattle.promise_leaving.specs.Going.{slots_of}
use Rattle.promise_accounts.proofs.EvenMaking.{joined}
use Rattle.promise_leaving.specs.Apart.{held_apart}
use Rattle.promise_apart.specs.WhileT6.{Each, Waits}
use Rattle.promise_apart.proofs.Each.{each_both, each_place}

-- the messages held apart are the same, with the same rows, and a T6 that runs runs on
pub record Steady (a b : Areas) : Type 0 where
  pub slots : held_apart b ≡ held_apart a
  pub rows : Each (λ (slot : ℕ). slot_at b.rows slot ≡ slot_at a.rows slot) (held_apart a)
  pub flags : (destination : ℕ) → flag_at a.marks destination t6 ≡ true → flag_at b.marks destination t6 ≡ true

-- rows that are the same
pub same_rows : (rows : List ℕ) (slots : List ℕ) → Each (λ (slot : ℕ). slot_at rows slot ≡ slot_at rows slot) slots
same_rows rows slots = each_place (λ (slot : ℕ). slot_at rows slot ≡ slot_at rows slot) slots (λ place h. refl)

pub steady_none : (a : Areas) → Steady a a
steady_none a = record { slots = refl; rows = same_rows a.rows (held_apart a); flags = λ destination e. e }

pub steady_on : (a b c : Areas) → Steady a b → Steady b c → Steady a c
steady_on a b c one two = record {
  slots = two.slots ∙ one.slots;
  rows =
      each_both (λ (slot : ℕ). slot_at c.rows slot ≡ slot_at b.rows slot) (λ (slot : ℕ). slot_at b.rows slot ≡ slot_at a.rows slot)
      (λ (slot : ℕ). slot_at c.rows slot ≡ slot_at a.rows slot)
      (λ slot next first. next ∙ first)
      (held_apart a)
      (subst (Each (λ (slot : ℕ). slot_at c.rows slot ≡ slot_at b.rows slot)) one.slots two.rows)
      one.rows;
  flags = λ destination e. two.flags destination (one.flags destination e);
}

-- a message that waits, waits on
pub waits_on : (plan : Plan) (a b : Areas) → ((destination : ℕ) → flag_at a.marks destination t6 ≡ true → flag_at b.marks destination t6 ≡ true)
    → (slot : ℕ) → slot_at b.rows slot ≡ slot_at a.rows slot → Waits plan a slot → Waits plan b slot
waits_on plan a b flags slot same waits =
    let point : point_of b.rows slot ≡ point_of a.rows slot = ap (λ (s : Slot). s.point % 16384) same in
    record {
      user = waits.user;
      configured = ap (is_found plan) point ∙ waits.configured;
      runs = ap (λ (p : ℕ). flag_at b.marks (place_of plan p) t6) point ∙ flags (place_of plan (point_of a.rows slot)) waits.runs;
    }

pub steady_waits : (plan : Plan) (a b : Areas) → Steady a b → Each (Waits plan a) (held_apart a) → Each (Waits plan b) (held_apart b)
steady_waits plan a b steady all =
    subst (Each (Waits plan b)) (sym steady.slots)
    (each_both (λ (slot : ℕ). slot_at b.rows slot ≡ slot_at a.rows slot) (Waits plan a) (Waits plan b)
    (waits_on plan a b steady.flags)
    (held_apart a)
    steady.rows
    all)

-- a head that moves from a queue to another leaves every other queue, whatever they hold
pub elsewhere : (queues : Queues) (from to ring : ℕ) → (ring ≡ from → ⊥) → (ring ≡ to → ⊥)
    → slots_of (moved queues from to) ring ≡ slots_of queues ring
elsewhere queues from to ring left other =
    cases (head_of queues from).found
    (λ found.
    ap (λ (q : Queues). slots_of q ring) (moved_some queues from to found)
    ∙ put_other (spans_taken queues.spans from) queues.rings to (head_of queues from).slot ring other
    ∙ taken_other queues.spans queues.rings from ring left)
    (λ gone. ap (λ (q : Queues). slots_of q ring) (moved_none queues from to gone))

-- a step that leaves those held apart, done so many times
many_stay : {A : Type 0} (queues : A → Queues) (step : A → A)
    → ((now : A) → slots_of (queues (step now)) apart_ring ≡ slots_of (queues now) apart_ring) → (n : ℕ) (now : A)
    → slots_of (queues (repeat step n now)) apart_ring ≡ slots_of (queues now) apart_ring
unfolding repeat
many_stay queues step one zero now = refl
many_stay queues step one (suc n) now = many_stay queues step one n (step now) ∙ one now

module _ (link : ℕ) (h : link < 32) where
  -- a message of a link that is given up
  freed_stay : (queues : Queues) → slots_of (freed queues link) apart_ring ≡ slots_of queues apart_ring
  unfolding freed
  freed_stay queues =
      let high = free_apart (head_of queues link).slot in
      elsewhere queues link (free_ring (head_of queues link).slot) apart_ring (λ e. omega arith) (λ e. omega arith)

  pub retired_stay : (n : ℕ) (queues : Queues) → slots_of (retired link n queues) apart_ring ≡ slots_of queues apart_ring
  unfolding retired
  retired_stay = many_stay (λ (q : Queues). q) (λ (q : Queues). freed q link) freed_stay

  module _ (rows : List ℕ) where
    dropped_one_stay : (reason : ℕ) (now : State) → slots_of (dropped_one rows link reason now).queues apart_ring ≡ slots_of now.queues apart_ring
    unfolding dropped_one
    dropped_one_stay reason now =
        by_test (λ (s : State). slots_of s.queues apart_ring ≡ slots_of now.queues apart_ring) (head_of now.queues link).found _ now
        (λ e. freed_stay now.queues)
        (λ e. refl)

    dropped_stay : (reason n : ℕ) (now : State) → slots_of (dropped rows link reason n now).queues apart_ring ≡ slots_of now.queues apart_ring
    unfolding dropped
    dropped_stay reason = many_stay (λ (s : State). s.queues) (dropped_one rows link reason) (dropped_one_stay reason)

    module _ (plan : Plan) (links marks : List ℕ) where
      moved_one_stay : (now : State) → slots_of (moved_one plan links marks rows link now).queues apart_ring ≡ slots_of now.queues apart_ring
      unfolding moved_one
      moved_one_stay now =
          let to = goes_to plan links marks rows (head_of now.queues link).slot in
          by_test (λ (s : State). slots_of s.queues apart_ring ≡ slots_of now.queues apart_ring) (head_of now.queues link).found _ now
          (λ found.
          by_test (λ (s : State). slots_of s.queues apart_ring ≡ slots_of now.queues apart_ring) (ltb to none)
          (record { queues = moved now.queues link to; log = now.log })
          (dropped_one rows link 1 now)
          (λ e.
          let there = ltb-true to none e in
          elsewhere now.queues link to apart_ring (λ e. omega arith) (λ e. omega arith))
          (λ e. dropped_one_stay 1 now))
          (λ gone. refl)

      cleared_stay : (parts : Cut) (now : State)
          → slots_of (cleared plan links marks rows link parts now).queues apart_ring ≡ slots_of now.queues apart_ring
      unfolding cleared moved_all
      cleared_stay parts now =
          let one : State = record { queues = retired link parts.retired now.queues; log = now.log } in
          let two : State = dropped rows link 2 parts.dropped one in
          many_stay (λ (s : State). s.queues) (moved_one plan links marks rows link) moved_one_stay (count_of two.queues.spans link) two
          ∙ dropped_stay 2 parts.dropped one
          ∙ retired_stay parts.retired now.queues

  -- a link goes out
  pub out_steady : (plan : Plan) (a : Areas) (parts : Cut) → Steady a (out_of_service plan a link parts).after
  unfolding out_of_service ended
  out_steady plan a parts = record {
    slots = cleared_stay a.rows plan (links_out a.links link) a.marks parts (state a.spans a.rings a.reports 0);
    rows = same_rows a.rows (held_apart a);
    flags = λ destination e. e;
  }

-- the slot that is free of a kind is none of those held apart, so that a row written there leaves theirs
pub rows_apart : (rows octets : List ℕ) (queues : Queues) → Sound queues.spans queues.rings rows octets → (free : ℕ) → 33 ≤ free
    → (head_of queues free).found ≡ true → (after : List ℕ)
    → ((slot : ℕ) → (slot ≡ (head_of queues free).slot → ⊥) → slot_at after slot ≡ slot_at rows slot)
    → Each (λ (slot : ℕ). slot_at after slot ≡ slot_at rows slot) (slots_of queues apart_ring)
rows_apart rows octets queues sound free empty found after others =
    let taken = queue (spans_taken queues.spans free) queues.rings apart_ring in
    subst (Each (λ (slot : ℕ). slot_at after slot ≡ slot_at rows slot))
    (taken_other queues.spans queues.rings free apart_ring (λ e. omega arith))
    (each_place (λ (slot : ℕ). slot_at after slot ≡ slot_at rows slot) taken
    (λ place h.
    others (get_or taken place 0)
    (slot_apart rows octets queues sound free found apart_ring place
    (omega (arith, queue_length (spans_taken queues.spans free) queues.rings apart_ring)))))

module _ (a : Areas) (octets : List ℕ) (regular : RegularIn a octets) where
  abbrev queues : Queues
  queues = both a.spans a.rings

  -- a management message at the end of a link's queue
  pub joined_steady : (ring : ℕ) → ring < 32 → (heading point slc field : ℕ)
      → Steady a (with_held a (joined a octets regular ring heading point slc field))
  unfolding management_queues rows_with_management
  joined_steady ring h heading point slc field =
      let free : ℕ = (head_of queues 34).slot in
      cases (eqb (management_reply a.spans a.arrivals) 0)
      (λ e.
      let done = eqb-true (management_reply a.spans a.arrivals) 0 e in
      let found = management_found (λ n. true) a.rows octets queues regular.store a.arrivals done in
      simp e
      (record {
        slots = elsewhere queues 34 ring apart_ring (λ e. omega arith) (λ e. omega arith);
        rows =
            rows_apart a.rows octets queues regular.store 34 (omega arith) found
            (management_rows a.rows free (next_of a.arrivals) heading point slc field)
            (row_kept a.rows (Write.management free (next_of a.arrivals) heading point slc field));
        flags = λ destination e. e;
      }))
      (λ e. simp e (record { slots = refl; rows = same_rows a.rows (held_apart a); flags = λ destination e. e }))

  -- that the node makes
  pub made_steady : (plan : Plan) (draft : Draft) → Steady a (with_made plan draft a)
  unfolding made
  made_steady plan draft =
      let path = path_of plan a.links a.marks draft in
      by_test (λ (now : Held). Steady a (with_held a now)) (has_path plan a.links a.marks draft)
      (joined a octets regular path (heading_of draft.message) draft.point draft.slc (field_of draft.message))
      (held_in a)
      (λ e. joined_steady path (ltb-true path none e) (heading_of draft.message) draft.point draft.slc (field_of draft.message))
      (λ e. record { slots = refl; rows = same_rows a.rows (held_apart a); flags = λ destination e. e })
