-- A message for another point, from a link or from the host: it is held apart only where T6 runs for its destination.
-- Assumes nothing.
use mathlib.Core.Path.{◌≡◌, sym, ap, ◌∙◌, subst}
use mathlib.Core.Bool.{true, false, not}
use mathlib.Core.List.{List, [], ◌∷◌, ◌++◌}
use Prim.Native.Nat.{ℕ, ◌%◌, ◌≤◌, ◌<◌}
use native.Mathlib.Nat.{mod-eq_of_lt}
use native.Mathlib.Omega.{arith}
use lib.Dec.{eqb, ltb}
use lib.ListN.{length}
use borrow.Author.Tests.{ltb-true, eqb-true, eq-eqb, not-false}
use Rattle.constants.specs.Constants.{apart_ring, t6, t8}
use Rattle.plan.specs.declared.data.Plan.{Plan}
use Rattle.plan.specs.Find.{place_of, is_found}
use Rattle.plan.proofs.Split.{both_false}
use Rattle.area_flags.specs.Flags.{flag_at, with_flag}
use Rattle.area_slots.specs.declared.Slot.{Slot}
use Rattle.area_slots.specs.SlotRows.{slot_at}
use Rattle.queue_rings.proofs.Queues.{taken_other}
use Rattle.queue_slots.specs.Message.{user_rows}
use Rattle.queue_slots.specs.Write.{Write}
use Rattle.queue_slots.proofs.Messages.{fits_there}
use Rattle.queue_slots.proofs.ReadBack.{user_read, row_kept}
use Rattle.queue_store.specs.Sound.{Kinds}
use Rattle.queue_store.proofs.KindsApart.{taken_user}
use Rattle.queue_store.proofs.Moves.{moved_queue}
use Rattle.wire.specs.declared.header.Label.{Label}
use Rattle.replies.specs.Reply.{plain, done}
use Rattle.replies.specs.Areas.{Areas, Outcome, outcome, judged, refused, with_marks}
use Rattle.route_choice.specs.Which.{none}
use Rattle.route_ways.specs.Way.{for_users, link_for, way_of}
use Rattle.queue_heads.specs.Head.{Queues, both, head_of, moved}
use Rattle.queue_joining.specs.Queue.{next_of, user_reply, user_queues, rows_with_user, user_arrivals}
use Rattle.management_making.specs.Make.{is_made, with_made, makes_reply}
use Rattle.queue_moving.specs.Move.{point_of}
use Rattle.discrimination.specs.declared.Came.{Came}
use Rattle.discrimination.specs.declared.Came.TheVariants.{Malformed, Foreign, Delivered, Managed, Passed}
use Rattle.discrimination.specs.Discrimination.{from_host_by, from_host}
use Rattle.passing_passage.specs.Passage.{link_of, unreachable, ring_by, ring_of, place_reply, queued, prohibited_to, tells, with_t8}
use Rattle.passing.specs.Pass.{marks_told, not_reached, passed}
use Rattle.passing_offering.specs.Host.{refuses, offered, sent}
use Rattle.passing_offering.specs.Host as Host
use Rattle.promise_runs.proofs.Outcomes.{RegularIn, by_test}
use Rattle.promise_ledger.proofs.Balance.{moved_some}
use Rattle.promise_ledger.proofs.Joined.{user_found}
use Rattle.promise_leaving.specs.Going.{slots_of}
use Rattle.promise_accounts.proofs.Small.{Small, host_small}
use Rattle.promise_leaving.specs.Apart.{held_apart}
use Rattle.promise_apart.specs.WhileT6.{Each, Waits}
use Rattle.promise_apart.proofs.Coded.{Coded, host_coded}
use Rattle.promise_apart.proofs.Flags.{flag_other}
use Rattle.promise_apart.proofs.Each.{each_on, each_one, each_both}
use Rattle.promise_apart.proofs.Steady.{Steady, steady_waits, waits_on, elsewhere, rows_apart, made_steady}

module _ (plan : Plan) (a : Areas) (octets : List ℕ) (regular : RegularIn a octets) where
  -- a TFP joins a link's queue, perhaps, and T8 starts
  pub told_steady : (arriving x : ℕ) → Steady a (with_marks (with_made plan (prohibited_to plan arriving x) a) (marks_told plan a arriving x))
  unfolding marks_told with_t8
  told_steady arriving x =
      let draft = prohibited_to plan arriving x in
      let made = made_steady a octets regular plan draft in
      record {
        slots = made.slots;
        rows = made.rows;
        flags =
            λ destination e.
            by_test (λ (marks : List ℕ). flag_at marks destination t6 ≡ true)
            (is_made plan a.links a.marks a.spans a.arrivals draft)
            (with_flag a.marks (place_of plan x) t8 true)
            a.marks
            (λ yes. flag_other a.marks (place_of plan x) t8 true destination t6 (λ same there. omega arith) ∙ e)
            (λ no. e);
      }

module _
    (plan : Plan)
    (a : Areas)
    (octets : List ℕ)
    (regular : RegularIn a octets)
    (kinds : Kinds a.spans a.rings)
    (all : Each (Waits plan a) (held_apart a)) where
  -- each message held apart waits, in areas and by an outcome
  abbrev pub WaitIn : Areas → Type 0
  WaitIn b = Each (Waits plan b) (held_apart b)

  abbrev pub WaitBy : Outcome → Type 0
  WaitBy o = WaitIn o.after

  -- one that has no way
  not_reached_waits : (arriving x : ℕ) → WaitBy (not_reached plan arriving x a)
  unfolding not_reached
  not_reached_waits arriving x =
      let draft = prohibited_to plan arriving x in
      let then : Areas = with_marks (with_made plan draft a) (marks_told plan a arriving x) in
      by_test WaitBy (tells plan a.marks x) (judged (makes_reply plan draft a) (outcome (plain 9) then) a) (outcome (plain 9) a)
      (λ e.
      by_test WaitBy (eqb (makes_reply plan draft a) 0) (outcome (plain 9) then) (refused (makes_reply plan draft a) a)
      (λ made. steady_waits plan a then (told_steady plan a octets regular arriving x) all)
      (λ not. all))
      (λ e. all)

  module _ (message : List ℕ) (small : length message ≤ 273) (label : Label) (coded : label.dpc < 16384) where
    -- one that has a way is for a configured destination
    configured : unreachable plan a label ≡ false → is_found plan label.dpc ≡ true
    unfolding link_of way_of
    configured reached =
        let far = link_for plan a.links a.marks for_users (place_of plan label.dpc) label.sls in
        by_test (λ (link : ℕ). ltb link none ≡ true → is_found plan label.dpc ≡ true) (is_found plan label.dpc) far none (λ e there. e)
        (λ e there. absurd (omega (arith, ltb-true none none there)))
        (not-false (ltb (link_of plan a label) none) reached)

    module _ (placed : user_reply a.spans a.arrivals ≡ 0) where
      abbrev queues : Queues
      queues = both a.spans a.rings

      -- the slot that is free, and the rows with the message in it
      abbrev free : ℕ
      free = (head_of queues 33).slot

      abbrev rows : List ℕ
      rows = user_rows a.rows free (next_of a.arrivals) label.dpc label.sls (length message)

      found : (head_of queues 33).found ≡ true
      found = user_found (λ n. true) a.rows octets queues regular.store a.arrivals placed

      user : free < 192
      unfolding head_of
      user = taken_user a.spans a.rings a.rows octets regular.store kinds found

      row : (slot_at rows free).point ≡ label.dpc
      row =
          ap (λ (s : Slot). s.point)
          (user_read a.rows free (next_of a.arrivals) label.dpc label.sls (length message) regular.store.rows_long
          (fits_there free (length message) user small))

      others : Each (λ (slot : ℕ). slot_at rows slot ≡ slot_at a.rows slot) (held_apart a)
      others =
          rows_apart a.rows octets queues regular.store 33 (omega arith) found rows
          (row_kept a.rows (Write.user free (next_of a.arrivals) label.dpc label.sls message))

      -- the areas with the message at the end of a ring
      abbrev with : ℕ → Areas
      with ring = record {
        links = a.links;
        marks = a.marks;
        spans = (moved queues 33 ring).spans;
        rings = (moved queues 33 ring).rings;
        rows = rows;
        arrivals = user_arrivals a.spans a.arrivals;
        reports = a.reports;
      }

      -- those held apart before wait on
      wait_on : (ring : ℕ) → Each (Waits plan (with ring)) (held_apart a)
      wait_on ring =
          each_both (λ (slot : ℕ). slot_at rows slot ≡ slot_at a.rows slot) (Waits plan a) (Waits plan (with ring))
          (waits_on plan a (with ring) (λ destination e. e))
          (held_apart a)
          others
          all

      -- on a link's queue
      on_link : (link : ℕ) → link < 32 → Each (Waits plan (with link)) (held_apart (with link))
      on_link link h =
          subst (Each (Waits plan (with link))) (sym (elsewhere queues 33 link apart_ring (λ e. omega arith) (λ e. omega arith))) (wait_on link)

      -- held apart, while T6 runs
      at_end : slots_of (moved queues 33 apart_ring) apart_ring ≡ held_apart a ++ (free ∷ [])
      unfolding head_of
      at_end =
          ap (λ (q : Queues). slots_of q apart_ring) (moved_some queues 33 apart_ring found)
          ∙ moved_queue a.spans a.rings a.rows octets regular.store 33 found apart_ring (omega arith)
          ∙ ap (λ (l : List ℕ). l ++ (free ∷ [])) (taken_other a.spans a.rings 33 apart_ring (λ e. omega arith))

      held_apart_lem : is_found plan label.dpc ≡ true → flag_at a.marks (place_of plan label.dpc) t6 ≡ true
          → Each (Waits plan (with apart_ring)) (held_apart (with apart_ring))
      held_apart_lem there runs =
          let point : point_of rows free ≡ label.dpc = ap (λ (n : ℕ). n % 16384) row ∙ mod-eq_of_lt coded in
          subst (Each (Waits plan (with apart_ring))) (sym at_end)
          (each_on (Waits plan (with apart_ring)) (held_apart a) (free ∷ []) (wait_on apart_ring)
          (each_one (Waits plan (with apart_ring)) free
          (record {
            user = user;
            configured = ap (is_found plan) point ∙ there;
            runs = ap (λ (p : ℕ). flag_at a.marks (place_of plan p) t6) point ∙ runs;
          })))

      -- one or the other
      ring_waits : unreachable plan a label ≡ false → Each (Waits plan (with (ring_of plan a label))) (held_apart (with (ring_of plan a label)))
      unfolding ring_by
      ring_waits reached =
          let h = ltb-true (link_of plan a label) none (not-false (ltb (link_of plan a label) none) reached) in
          by_test (λ (ring : ℕ). Each (Waits plan (with ring)) (held_apart (with ring))) (flag_at a.marks (place_of plan label.dpc) t6)
          apart_ring
          (link_of plan a label)
          (held_apart_lem (configured reached))
          (λ e. on_link (link_of plan a label) h)

      queued_waits : unreachable plan a label ≡ false → WaitIn (queued plan a label (length message))
      unfolding queued user_queues rows_with_user
      queued_waits reached = simp (eq-eqb (user_reply a.spans a.arrivals) 0 placed) (ring_waits reached)

    -- a message that has a way: queued, or refused
    place_waits : unreachable plan a label ≡ false
        → WaitBy (judged (place_reply a) (outcome (done 0) (queued plan a label (length message))) a)
    place_waits reached =
        by_test WaitBy (eqb (place_reply a) 0) (outcome (done 0) (queued plan a label (length message))) (refused (place_reply a) a)
        (λ e. queued_waits (eqb-true (place_reply a) 0 e) reached)
        (λ e. all)

    -- from a link
    pub passed_waits : (arriving : ℕ) → WaitBy (passed plan arriving label (length message) a)
    unfolding passed
    passed_waits arriving =
        by_test WaitBy (unreachable plan a label) (not_reached plan arriving label.dpc a)
        (judged (place_reply a) (outcome (done 0) (queued plan a label (length message))) a)
        (λ e. not_reached_waits arriving label.dpc)
        place_waits

    -- from the host
    offered_waits : WaitBy (offered plan label (length message) a)
    unfolding offered refuses
    offered_waits =
        by_test WaitBy (refuses plan a label) (refused 9 a)
        (judged (place_reply a) (outcome (done 0) (queued plan a label (length message))) a)
        (λ e. all)
        (λ e. place_waits (both_false (eqb label.dpc plan.code) (unreachable plan a label) e).1)

  -- by what it is
  host_waits : (message : List ℕ) (came : Came) → Small came (length message) → Coded came
      → WaitBy (Host.from_host_by plan came (length message) a)
  unfolding Host.from_host_by Small Coded
  host_waits message Malformed small coded = all
  host_waits message Foreign small coded = all
  host_waits message Delivered small coded = all
  host_waits message (Managed order) small coded = all
  host_waits message (Passed label) small coded = offered_waits message small.1 label coded

  pub sent_waits : (message : List ℕ) → WaitBy (sent plan message a)
  unfolding sent
  sent_waits message =
      by_test WaitBy plan.given (Host.from_host_by plan (from_host plan message) (length message) a) (refused 2 a)
      (λ e. host_waits message (from_host plan message) (host_small plan message) (host_coded plan message))
      (λ e. all)
