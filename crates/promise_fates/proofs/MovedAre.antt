-- The lines `moved` of every call, from one queue to another, are the messages that the promises say move there, in order: those of a link that goes out, and
-- at the end of T6 those held apart; over any run of calls from any configuration. Assumes nothing.
use mathlib.Core.Path.{◌≡◌, refl, sym, ap, ap₂, subst, ◌∙◌}
use mathlib.Core.Logic.{inl, inr, ⊎_elim}
use mathlib.Core.Bool.{Bool, true, false, cond, ◌&&◌}
use mathlib.Core.List.{List, [], ◌∷◌, ◌++◌, map, append-nil}
use Prim.Native.Nat.{ℕ, ◌+◌, ◌≤◌, ◌<◌}
use native.Mathlib.Omega.{arith}
use lib.Dec.{eqb, ltb}
use lib.ListN.{length}
use borrow.Author.Tests.{lt-ltb, le-ltb, eq-eqb, ne_eqb, eqb-true, eqb-false}
use borrow.Table.Steps.{cases}
use Rattle.plan.specs.declared.data.Plan.{Plan}
use Rattle.plan.proofs.Split.{split, alike}
use Rattle.queue_store.specs.Sound.{bit, tally, is}
use Rattle.queue_store.proofs.Sums.{sum_part, sum_none}
use Rattle.queue_heads.specs.Head.{both}
use Rattle.replies.specs.Areas.{Areas, Outcome, refused}
use Rattle.queue_joining.specs.Queue.{next_of}
use Rattle.queue_moving.specs.Move.{point_of}
use Rattle.rerouting.specs.Timer.{reply_t6, expired_t6}
use Rattle.plan_configuration.specs.Configure.{configured}
use Rattle.plan_configuration.proofs.Made.{configured_sound}
use Rattle.node.specs.declared.call.Event.{Event}
use Rattle.node.specs.declared.call.Event.TheVariants.{IntoService, Failure, Send, Acknowledgement, Received, FromHost, T1, T2, T3, T4, T6, T8, T10}
use Rattle.node.specs.View.{view_of}
use Rattle.node.specs.Memory.{Memory, Result}
use Rattle.node.specs.Call.{call_of}
use Rattle.fate_places.specs.Places.{held, message_at, nowhere, whither}
use Rattle.fate_lines.specs.declared.Fate.TheVariants.{Unchanged, Moved}
use Rattle.replay_fates.specs.declared.deciding.Part.TheVariants.{Moving}
use Rattle.replay_fates.specs.Holds.{Seen}
use Rattle.promise_runs.specs.Run.{Call, lent, called, ran, fresh, Whole}
use Rattle.promise_runs.proofs.Outcomes.{by_test, unmet}
use Rattle.promise_runs.proofs.Reached.{configured_regular}
use Rattle.promise_ledger.specs.Held.{arrival_of, numbers, held_of}
use Rattle.promise_leaving.specs.Going.{going, rest}
use Rattle.promise_leaving.specs.Apart.{held_apart, let_go}
use Rattle.promise_accounts.specs.Gone.{queue_of, acknowledged_by, retired_by}
use Rattle.promise_accounts.specs.Ending.{Ending, ending_of, answered_on}
use Rattle.promise_accounts.proofs.OnePlace.{tally_on}
use Rattle.promise_changeover.specs.ChangedOver.{ending_by, retiring, dropping, leaving, slots_then, goes_by, moved_to, ChangedOver}
use Rattle.promise_changeover.proofs.Asking.{ending_asks}
use Rattle.promise_changeover.proofs.ChangedOver.{changed_over}
use Rattle.promise_apart.specs.LetGo.{for_others, goes, EndsT6}
use Rattle.promise_apart.specs.WhileT6.{is_t6}
use Rattle.promise_apart.proofs.T6Ends.{t6_ends}
use Rattle.promise_apart.proofs.StayApart.{stay_apart}
use Rattle.promise_farend.specs.History.{result_of, is_done}
use Rattle.promise_fates.specs.Told.{seen_of}
use Rattle.promise_fates.specs.Lines.{picked, moved_line}
use Rattle.promise_fates.specs.History.{fates_by, left_for, let_go_for, MovedAre}
use Rattle.promise_fates.proofs.Counting.{counts_slot}
use Rattle.promise_fates.proofs.Walked.{picked_on, picked_none, picked_map, picked_same, in_queues, in_none, in_one, walked_in}
use Rattle.promise_fates.proofs.Settled.{all_of, queue_part, Settled, call_settles}
use Rattle.promise_fates.proofs.Parts.{by_either, to, four, no_new, no_sent, no_left}
use Rattle.promise_fates.proofs.GoneLines.{apart_queues}
use Rattle.promise_fates.proofs.MovedLines.{counts_going, picked_going, picked_both, Keeps}
use Rattle.promise_fates.proofs.MovedLines.{moves, stays_none, unheld_none, none_moves, shared_one, shared_none}
use Rattle.promise_fates.proofs.Keeping.{keeps_on, call_keeps}
use Rattle.promise_fates.proofs.FatesTrue.{at_most}

-- those of some slots that are for others, and those that aren't, are all
module _ (rows : List ℕ) (x : ℕ) (f : ℕ → ℕ) where
  parted : (n : ℕ) (l : List ℕ)
      → tally (is n) (map f l) ≡ tally (is n) (map f (going (point_of rows) x l)) + tally (is n) (map f (for_others rows x l))
  unfolding tally going for_others
  parted n [] = refl
  parted n (slot ∷ l) =
      let later = parted n l in
      cases (eqb (point_of rows slot) x) (λ e. simp e (omega (arith, later))) (λ e. simp e (omega (arith, later)))

  counts_others : (slot : ℕ) (l : List ℕ) → eqb (point_of rows slot) x ≡ false → 1 ≤ tally (is slot) l → 1 ≤ tally (is slot) (for_others rows x l)
  unfolding tally for_others
  counts_others slot [] other h = h
  counts_others slot (first ∷ l) other h =
      alike first slot
      (λ same.
      let e : eqb (point_of rows first) x ≡ false = ap (λ (k : ℕ). eqb (point_of rows k) x) same ∙ other in
      let here : eqb first slot ≡ true = eq-eqb first slot same in
      simp (e, here) (omega arith))
      (λ differ.
      let past : bit (eqb first slot) ≡ 0 = ap bit (ne_eqb first slot differ) in
      let later = counts_others slot l other (omega (arith, h, past)) in
      cases (eqb (point_of rows first) x) (λ e. simp e later) (λ e. simp e (omega (arith, later))))

none_either : (test : Bool) → cond {A = List ℕ} test [] [] ≡ []
none_either true = refl
none_either false = refl

-- the answer has another number than any message before it
not_answer : (a : Areas) (ending : Ending) (other number : ℕ) → number < next_of a.arrivals → tally (is number) (answered_on a ending other) ≡ 0
unfolding answered_on tally
not_answer a ending other number old =
    by_test (λ (l : List ℕ). tally (is number) l ≡ 0) (ending.answers && eqb other ending.path) (next_of a.arrivals ∷ []) []
    (λ e. ap (λ (t : Bool). bit t + 0) (ne_eqb (next_of a.arrivals) number (λ same. omega (arith, same, old))))
    (λ e. refl)

module _ (m : Memory) (whole : Whole m) (one : length m.areas.arrivals ≡ 1) (text : List ℕ) (calls : List Call) where
  abbrev plan : Plan
  plan = (configured text).plan

  abbrev before : Memory
  before = ran plan calls (fresh m)

  module _ (call : Call) where
    abbrev r : Result
    r = result_of plan call before

    abbrev a : Areas
    a = (lent call before).areas

    abbrev b : Areas
    b = r.after.areas

    abbrev s : Seen
    s = seen_of plan call before

    abbrev ending : Ending
    ending = ending_by plan call before

    abbrev gone : List ℕ
    gone = acknowledged_by plan a (view_of call.event) ++ retired_by plan a call.message (view_of call.event)

    all : Settled a b r.answer.reports gone
    all = call_settles m whole one text calls call

    module _ (from goal : ℕ) where
      -- the number of a line, by the queue that it leaves
      abbrev give : ℕ → ℕ → List ℕ
      give queue number =
          let w = whither (held b.spans b.rings b.rows) b.reports r.answer.reports queue number in
          cond (ltb w nowhere) (cond (eqb queue from && eqb w goal) (number ∷ []) []) []

      walked : picked (moved_line from goal) (fates_by plan call before) ≡ in_queues (λ (queue : ℕ). picked (give queue) (queue_of a queue)) 0 33
      walked =
          let read = moved_line from goal in
          four read s
          ∙ ap₂ (λ (x y : List ℕ). x ++ y) (no_new read s refl (λ n l h. refl))
          (ap₂ (λ (x y : List ℕ). x ++ y) (no_sent read s refl (λ n l f. refl))
          (ap₂ (λ (x y : List ℕ). x ++ y) (no_left read s refl (λ n l. refl) (λ n l. refl))
          (walked_in Moving s.before s.after s.reports s.told.reports read give
          (λ queue place.
          let w = to read s s.before queue place in
          by_either read (ltb w nowhere) (Moved (message_at s.before queue place).arrival queue w) Unchanged)
          all.short_before
          (at_most before (configured_regular text m whole calls)))))

      -- no line of another queue
      other_none : (queue : ℕ) → (queue ≡ from → ⊥) → picked (give queue) (queue_of a queue) ≡ []
      other_none queue differ =
          picked_none (give queue) (queue_of a queue)
          (λ number h.
          let w = whither (held b.spans b.rings b.rows) b.reports r.answer.reports queue number in
          ap (λ (t : Bool). cond (ltb w nowhere) (cond (t && eqb w goal) (number ∷ []) []) []) (ne_eqb queue from differ)
          ∙ none_either (ltb w nowhere))

      past_all : 33 ≤ from → picked (moved_line from goal) (fates_by plan call before) ≡ []
      past_all high =
          walked ∙ in_none (λ (queue : ℕ). picked (give queue) (queue_of a queue)) 0 33 (λ queue low below. other_none queue (λ e. omega (arith, e)))

      of_one : (below : from < 33)
          → picked (moved_line from goal) (fates_by plan call before) ≡ picked (moves a b r.answer.reports gone all from goal below) (queue_of a from)
      of_one below =
          walked
          ∙ in_one (λ (queue : ℕ). picked (give queue) (queue_of a queue)) from 0 33 (omega arith) (omega (arith, below))
          (λ queue low lower differ. other_none queue differ)
          ∙ picked_same (give from) (moves a b r.answer.reports gone all from goal below) (queue_of a from)
          (λ number.
          let w = whither (held b.spans b.rings b.rows) b.reports r.answer.reports from number in
          ap (λ (t : Bool). cond (ltb w nowhere) (cond (t && eqb w goal) (number ∷ []) []) []) (eq-eqb from from refl))

      -- where the queue keeps its messages there is none
      kept_none : Keeps a b gone from → picked (moved_line from goal) (fates_by plan call before) ≡ []
      kept_none keeps =
          split from 33
          (λ below. of_one below ∙ none_moves a b r.answer.reports gone all from goal below keeps)
          past_all

      -- a link goes out
      module _ (ends : ending.ends ≡ true) where
        changed : ChangedOver plan a ending (retired_by plan a call.message (view_of call.event)) r
        changed = changed_over m whole one text calls call ends

        low : ending.link < 32
        low = (ending_asks plan a before.octets (configured_regular text m whole calls) call.message (view_of call.event) ends).within

        -- another queue keeps its messages
        pub others_keep : (from ≡ ending.link → ⊥) → picked (moved_line from goal) (fates_by plan call before) ≡ []
        others_keep differ =
            split from 32
            (λ link. kept_none (keeps_on a b gone from _ (changed.joined from link differ)))
            (λ high.
            split from 33
            (λ below.
            let is-apart : from ≡ 32 = omega (arith, high, below) in
            kept_none
            (keeps_on a b gone from []
            (ap (queue_of b) is-apart ∙ changed.apart ∙ sym (ap (queue_of a) is-apart) ∙ sym (append-nil (queue_of a from)))))
            past_all)

        -- its own goes as the rule says
        module _ (own : from ≡ ending.link) where
          abbrev f : ℕ → ℕ
          f slot = arrival_of ending.from.rows slot

          abbrev slots : List ℕ
          slots = rest ending.parts (slots_then ending)

          below : from < 33
          below = omega (arith, own, low)

          stood : (n : ℕ) → tally (is n) (queue_of a from) ≡ tally (is n) (queue_of a ending.link)
          stood n = ap (λ (q : ℕ). tally (is n) (queue_of a q)) own

          gained_by : (t n : ℕ) → t < 32 → (t ≡ from → ⊥) → 1 ≤ tally (is n) (queue_of a from)
              → tally (is n) (queue_of b t) ≡ tally (is n) (moved_to plan ending t)
          gained_by t n link differ here =
              let apart : t ≡ ending.link → ⊥ = λ e. differ (e ∙ sym own) in
              omega (
                arith,
                here,
                ap (tally (is n)) (changed.joined t link apart),
                tally_on (is n) (queue_of a t) (answered_on a ending t ++ moved_to plan ending t),
                tally_on (is n) (answered_on a ending t) (moved_to plan ending t),
                not_answer a ending t n (all.named n (omega (arith, here, queue_part a from n below))),
                apart_queues a t from n (omega (arith, link)) below differ,
                all.once_before n,
              )

          apart_none : (n : ℕ) → 1 ≤ tally (is n) (queue_of a from) → tally (is n) (queue_of b 32) ≡ 0
          apart_none n here =
              omega (
                arith,
                here,
                ap (tally (is n)) changed.apart,
                apart_queues a 32 from n (omega arith) below (λ e. omega (arith, e, own, low)),
                all.once_before n,
              )

          own_none : (n : ℕ) → tally (is n) (queue_of b from) ≡ 0
          unfolding tally
          own_none n = ap (λ (q : ℕ). tally (is n) (queue_of b q)) own ∙ ap (tally (is n)) changed.emptied

          -- what stands before those that leave isn't held any more
          not_held : (n : ℕ) → 1 ≤ tally (is n) (queue_of a from) → tally (is n) (leaving a ending) ≡ 0 → all_of b n ≡ 0
          unfolding held_of
          not_held n here none =
              sum_none (λ ring. tally (is n) (numbers b.rows (both b.spans b.rings) ring)) 33
              (λ ring ring-low.
              alike ring from
              (λ same. ap (λ (q : ℕ). tally (is n) (queue_of b q)) same ∙ own_none n)
              (λ differ.
              split ring 32
              (λ link.
              omega (
                arith,
                none,
                gained_by ring n link differ here,
                changed.each_once n,
                sum_part (λ (other : ℕ). tally (is n) (moved_to plan ending other)) 32 ring link,
              ))
              (λ high.
              let is-apart : ring ≡ 32 = omega (arith, high, ring-low) in
              ap (λ (q : ℕ). tally (is n) (queue_of b q)) is-apart ∙ apart_none n here)))

          in_leaving : (n : ℕ) → tally (is n) (map f slots) ≡ tally (is n) (leaving a ending)
          in_leaving n = ap (tally (is n)) (sym changed.leaving_are)

          three : (n : ℕ) → tally (is n) (queue_of a from)
              ≡ tally (is n) (retiring a ending) + (tally (is n) (dropping a ending) + tally (is n) (leaving a ending))
          three n =
              omega (
                arith,
                stood n,
                ap (tally (is n)) changed.in_three,
                tally_on (is n) (retiring a ending) (dropping a ending ++ leaving a ending),
                tally_on (is n) (dropping a ending) (leaving a ending),
              )

          once_own : (n : ℕ) → tally (is n) (queue_of a from) ≤ 1
          once_own n = omega (arith, stood n, changed.not_twice n)

          not_back : (slot : ℕ) → 1 ≤ tally (is slot) slots → goes_by plan ending slot < 32 → from ≡ goes_by plan ending slot → ⊥
          unfolding tally
          not_back slot h link same =
              let there = counts_slot f slot (going (goes_by plan ending) from slots) (counts_going (goes_by plan ending) slot from (sym same) slots h) in
              let none = ap (λ (q : ℕ). tally (is (f slot)) (moved_to plan ending q)) own ∙ ap (tally (is (f slot))) changed.none_back in
              omega (arith, there, none)

          abbrev mine : ℕ → List ℕ
          mine = moves a b r.answer.reports gone all from goal below

          first_none : (l : List ℕ) → ((n : ℕ) → 1 ≤ tally (is n) l → (1 ≤ tally (is n) (queue_of a from)) × (tally (is n) (leaving a ending) ≡ 0))
              → picked mine l ≡ []
          first_none l each =
              picked_none mine l
              (λ n h.
              let known = each n h in
              unheld_none a b r.answer.reports gone all from goal below n (not_held n known.0 known.1))

          three_parts : picked mine (queue_of a from) ≡ picked mine (map f slots)
          three_parts =
              ap (λ (q : ℕ). picked mine (queue_of a q)) own
              ∙ ap (picked mine) changed.in_three
              ∙ picked_on mine (retiring a ending) (dropping a ending ++ leaving a ending)
              ∙ ap₂ (λ (x y : List ℕ). x ++ y)
              (first_none (retiring a ending) (λ n h. (omega (arith, h, three n), omega (arith, h, three n, once_own n))))
              (picked_on mine (dropping a ending) (leaving a ending)
              ∙ ap₂ (λ (x y : List ℕ). x ++ y)
              (first_none (dropping a ending) (λ n h. (omega (arith, h, three n), omega (arith, h, three n, once_own n))))
              (ap (picked mine) changed.leaving_are))

          pub own_moves : picked (moved_line from goal) (fates_by plan call before) ≡ cond (ltb goal 32) (moved_to plan ending goal) []
          own_moves =
              let rule = goes_by plan ending in
              of_one below
              ∙ three_parts
              ∙ split goal 32
              (λ link.
              picked_going f mine rule goal slots
              (shared_one a b r.answer.reports gone all from goal below f rule slots (λ n h. own_none n)
              (λ t t-low differ n h. gained_by t n t-low differ (stands_there n h))
              (λ differ n h. apart_none n (stands_there n h))
              not_back
              (λ n. omega (arith, in_leaving n, three n, once_own n))
              link)
              ∙ sym (ap (λ (t : Bool). cond t (moved_to plan ending goal) []) (lt-ltb goal 32 link)))
              (λ high.
              picked_map mine f slots
              ∙ picked_none (λ (slot : ℕ). mine (f slot)) slots
              (shared_none a b r.answer.reports gone all from goal below f rule slots (λ n h. own_none n)
              (λ t t-low differ n h. gained_by t n t-low differ (stands_there n h))
              (λ differ n h. apart_none n (stands_there n h))
              not_back
              (λ n. omega (arith, in_leaving n, three n, once_own n))
              high)
              ∙ sym (ap (λ (t : Bool). cond t (moved_to plan ending goal) []) (le-ltb goal 32 high)))
            where
              stands_there : (n : ℕ) → 1 ≤ tally (is n) (map f slots) → 1 ≤ tally (is n) (queue_of a from)
              stands_there n h = omega (arith, h, in_leaving n, three n)

  -- at the end of T6
  module _ (call : Call) (x : ℕ) (event-is : call.event ≡ T6 x) (done : (result_of plan call before).answer.reply ≡ 0) (goal : ℕ) where
    ends_t6 : EndsT6 plan x before.areas (b call) (r call).answer.reports
    ends_t6 =
        subst
        (λ (event : Event).
        let result = call_of plan event call.message (lent call before) in
        EndsT6 plan x before.areas result.after.areas result.answer.reports)
        (sym event-is)
        (t6_ends m whole text calls call x
        (subst (λ (event : Event). (call_of plan event call.message (lent call before)).answer.reply ≡ 0) event-is done))

    abbrev number : ℕ → ℕ
    number slot = arrival_of (a call).rows slot

    abbrev apart : List ℕ
    apart = held_apart (a call)

    abbrev freed : List ℕ
    freed = let_go (a call) x

    abbrev rule : ℕ → ℕ
    rule = goes plan (a call) (b call).marks

    abbrev others : List ℕ
    others = for_others (a call).rows x apart

    low_apart : 32 < 33
    low_apart = omega arith

    abbrev leave : ℕ → List ℕ
    leave = moves (a call) (b call) (r call).answer.reports (gone call) (all call) 32 goal low_apart

    once_apart : (n : ℕ) → tally (is n) (map number apart) ≤ 1
    unfolding numbers
    once_apart n = omega (arith, queue_part (a call) 32 n low_apart, (all call).once_before n)

    stay_others : (n : ℕ) → tally (is n) (queue_of (b call) 32) ≡ tally (is n) (map number others)
    stay_others n = ap (tally (is n)) ends_t6.others_stay

    none_left : (n : ℕ) → 1 ≤ tally (is n) (map number freed) → tally (is n) (queue_of (b call) 32) ≡ 0
    none_left n h = omega (arith, h, stay_others n, parted (a call).rows x number n apart, once_apart n)

    gained_there : (t : ℕ) → t < 32 → (t ≡ 32 → ⊥) → (n : ℕ) → 1 ≤ tally (is n) (map number freed)
        → tally (is n) (queue_of (b call) t) ≡ tally (is n) (map number (going rule t freed))
    unfolding numbers
    gained_there t link differ n h =
        omega (
          arith,
          h,
          ap (tally (is n)) (ends_t6.move t link),
          tally_on (is n) (queue_of (a call) t) (map number (going rule t freed)),
          apart_queues (a call) t 32 n (omega (arith, link)) low_apart differ,
          parted (a call).rows x number n apart,
          (all call).once_before n,
        )

    once_freed : (n : ℕ) → tally (is n) (map number freed) ≤ 1
    once_freed n = omega (arith, parted (a call).rows x number n apart, once_apart n)

    -- one for another destination stays
    other_stays : (slot : ℕ) → 1 ≤ tally (is slot) apart → eqb (point_of (a call).rows slot) x ≡ false → leave (number slot) ≡ []
    other_stays slot h other =
        let there = counts_slot number slot others (counts_others (a call).rows x number slot apart other h) in
        stays_none (a call) (b call) (r call).answer.reports (gone call) (all call) 32 goal low_apart (number slot)
        (omega (arith, there, stay_others (number slot)))

    is_freed : (slot : ℕ) → 1 ≤ tally (is slot) apart → eqb (point_of (a call).rows slot) x ≡ true → 1 ≤ tally (is slot) freed
    is_freed slot h same = counts_going (point_of (a call).rows) slot x (eqb-true (point_of (a call).rows slot) x same) apart h

    each_leaves : goal < 32 → (slot : ℕ) → 1 ≤ tally (is slot) apart
        → leave (number slot) ≡ cond (eqb (point_of (a call).rows slot) x) (cond (eqb (rule slot) goal) (number slot ∷ []) []) []
    each_leaves link slot h =
        let then : List ℕ = cond (eqb (rule slot) goal) (number slot ∷ []) [] in
        cases (eqb (point_of (a call).rows slot) x)
        (λ e.
        shared_one (a call) (b call) (r call).answer.reports (gone call) (all call) 32 goal low_apart number rule freed none_left gained_there
        (λ differ n among. absurd (differ refl))
        (λ one-slot among to_link same. omega (arith, to_link, same))
        once_freed
        link
        slot
        (is_freed slot h e)
        ∙ sym (ap (λ (t : Bool). cond t then []) e))
        (λ e. other_stays slot h e ∙ sym (ap (λ (t : Bool). cond t then []) e))

    none_leaves : 32 ≤ goal → (slot : ℕ) → 1 ≤ tally (is slot) apart → leave (number slot) ≡ []
    none_leaves high slot h =
        cases (eqb (point_of (a call).rows slot) x)
        (λ e.
        shared_none (a call) (b call) (r call).answer.reports (gone call) (all call) 32 goal low_apart number rule freed none_left gained_there
        (λ differ n among. absurd (differ refl))
        (λ one-slot among to_link same. omega (arith, to_link, same))
        once_freed
        high
        slot
        (is_freed slot h e))
        (other_stays slot h)

    pub freed_moves : picked (moved_line 32 goal) (fates_by plan call before) ≡ cond (ltb goal 32) (map number (going rule goal freed)) []
    unfolding numbers
    freed_moves =
        of_one call 32 goal low_apart
        ∙ split goal 32
        (λ link.
        picked_both number leave rule goal (point_of (a call).rows) x apart (each_leaves link)
        ∙ sym (ap (λ (t : Bool). cond t (map number (going rule goal freed)) []) (lt-ltb goal 32 link)))
        (λ high.
        picked_map leave number apart
        ∙ picked_none (λ (slot : ℕ). leave (number slot)) apart (none_leaves high)
        ∙ sym (ap (λ (t : Bool). cond t (map number (going rule goal freed)) []) (le-ltb goal 32 high)))

  -- by every call
  module _ (call : Call) (from goal : ℕ) where
    abbrev Goal : List ℕ → List ℕ → Type 0
    Goal left freed = picked (moved_line from goal) (fates_by plan call before) ≡ cond (ltb goal 32) (left ++ freed) []

    -- nothing leaves by either
    neither_moves : picked (moved_line from goal) (fates_by plan call before) ≡ [] → Goal [] []
    neither_moves none = none ∙ sym (none_either (ltb goal 32))

    no_link : ((ending call).ends ≡ true → from ≡ (ending call).link → ⊥) → left_for plan (ending call) from goal ≡ []
    unfolding left_for
    no_link never =
        cases (ending call).ends
        (λ e.
        let past : eqb from (ending call).link ≡ false = ne_eqb from (ending call).link (never e) in
        ap₂ (λ (u v : Bool). cond (u && v) (moved_to plan (ending call) goal) []) e past)
        (λ e. ap (λ (u : Bool). cond (u && eqb from (ending call).link) (moved_to plan (ending call) goal) []) e)

    the_link : (ending call).ends ≡ true → from ≡ (ending call).link → left_for plan (ending call) from goal ≡ moved_to plan (ending call) goal
    unfolding left_for
    the_link e same =
        ap₂ (λ (u v : Bool). cond (u && v) (moved_to plan (ending call) goal) []) e (eq-eqb from (ending call).link same)

    -- no end of T6
    not_t6 : (event : Event) → is_t6 event ≡ false → let_go_for plan (a call) (r call) event from goal ≡ []
    unfolding is_t6 let_go_for
    not_t6 (T6 x) e = unmet (sym e)
    not_t6 (IntoService link) e = refl
    not_t6 (Failure link) e = refl
    not_t6 (Send link) e = refl
    not_t6 (Acknowledgement link b) e = refl
    not_t6 (Received link fsn) e = refl
    not_t6 FromHost e = refl
    not_t6 (T1 link) e = refl
    not_t6 (T2 link) e = refl
    not_t6 (T3 link) e = refl
    not_t6 (T4 link) e = refl
    not_t6 (T8 x) e = refl
    not_t6 (T10 x set) e = refl

    -- a link's queue keeps its messages where no link goes out
    keeps : from < 32 → (ending call).ends ≡ false → picked (moved_line from goal) (fates_by plan call before) ≡ []
    keeps link stays =
        let kept =
        call_keeps plan (configured_sound text) call.message (lent call before) (configured_regular text m whole calls) from link call.event stays
        in
        kept_none call from goal
        (λ number h.
        ⊎_elim inl
        (λ (left : 1 ≤ tally (is number) (acknowledged_by plan (a call) (view_of call.event))).
        inr
        (omega (
          arith,
          left,
          tally_on (is number) (acknowledged_by plan (a call) (view_of call.event))
              (retired_by plan (a call) call.message (view_of call.event)),
        )))
        (kept number h))

    -- a call that isn't the end of a T6
    no_t6 : is_t6 call.event ≡ false → Goal (left_for plan (ending call) from goal) (let_go_for plan (a call) (r call) call.event from goal)
    unfolding called
    no_t6 other =
        let freed = not_t6 call.event other in
        subst (Goal (left_for plan (ending call) from goal)) (sym freed)
        (cases (ending call).ends
        (λ e.
        alike from (ending call).link
        (λ same.
        subst (λ (l : List ℕ). Goal l []) (sym (the_link e same))
        (own_moves call from goal e same ∙ sym (ap (λ (l : List ℕ). cond (ltb goal 32) l []) (append-nil (moved_to plan (ending call) goal)))))
        (λ differ. subst (λ (l : List ℕ). Goal l []) (sym (no_link (λ is_out. differ))) (neither_moves (others_keep call from goal e differ))))
        (λ e.
        subst (λ (l : List ℕ). Goal l []) (sym (no_link (λ is_out. unmet (sym e ∙ is_out))))
        (neither_moves
        (split from 32
        (λ link. keeps link e)
        (λ high.
        split from 33
        (λ below.
        let is-apart : from ≡ 32 = omega (arith, high, below) in
        let stay = stay_apart m whole text calls call other in
        kept_none call from goal
        (keeps_on (a call) (b call) (gone call) from stay.new
        (ap (queue_of (b call)) is-apart ∙ stay.behind ∙ ap (λ (q : ℕ). queue_of (a call) q ++ stay.new) (sym is-apart))))
        (past_all call from goal))))))

    -- the end of a T6: no link goes out
    module _ (x : ℕ) (event-is : call.event ≡ T6 x) where
      none_out : (ending call).ends ≡ false
      unfolding ending_of
      none_out = ap (λ (event : Event). (ending_of plan (a call) call.message (view_of event)).ends) event-is

      expired_same : ((call_of plan (T6 x) call.message (lent call before)).answer.reply ≡ 0 → ⊥)
          → queue_of (call_of plan (T6 x) call.message (lent call before)).after.areas 32 ≡ queue_of (a call) 32
      unfolding call_of expired_t6
      expired_same =
          let reply = reply_t6 plan (a call).marks x (a call).reports in
          by_test (λ (o : Outcome). (o.answer.reply ≡ 0 → ⊥) → queue_of o.after 32 ≡ queue_of (a call) 32) (eqb reply 0) _
          (refused reply (a call))
          (λ e never. absurd (never refl))
          (λ e never. refl)

      refused_same : ((r call).answer.reply ≡ 0 → ⊥) → queue_of (b call) 32 ≡ queue_of (a call) 32
      refused_same =
          subst
          (λ (event : Event).
          ((call_of plan event call.message (lent call before)).answer.reply ≡ 0 → ⊥)
          → queue_of (call_of plan event call.message (lent call before)).after.areas 32 ≡ queue_of (a call) 32)
          (sym event-is)
          expired_same

      abbrev told : List ℕ
      told = map (arrival_of (a call).rows) (going (goes plan (a call) (b call).marks) goal (let_go (a call) x))

      -- those held apart
      from_apart : from ≡ 32 → Goal [] (cond (is_done (r call) && eqb from 32) told [])
      from_apart is-apart =
          cases (is_done (r call))
          (λ done.
          ap (λ (q : ℕ). picked (moved_line q goal) (fates_by plan call before)) is-apart
          ∙ freed_moves call x event-is (eqb-true (r call).answer.reply 0 done) goal
          ∙ sym (ap₂ (λ (u v : Bool). cond (ltb goal 32) (cond (u && v) told []) []) done (eq-eqb from 32 is-apart)))
          (λ not_done.
          kept_none call from goal
          (keeps_on (a call) (b call) (gone call) from []
          (ap (queue_of (b call)) is-apart
          ∙ refused_same (eqb-false (r call).answer.reply 0 not_done)
          ∙ sym (ap (queue_of (a call)) is-apart)
          ∙ sym (append-nil (queue_of (a call) from))))
          ∙ sym (none_either (ltb goal 32))
          ∙ sym (ap (λ (u : Bool). cond (ltb goal 32) (cond (u && eqb from 32) told []) []) not_done))

      -- a link's
      from_link : (from ≡ 32 → ⊥) → Goal [] (cond (is_done (r call) && eqb from 32) told [])
      from_link differ =
          split from 32
          (λ link. keeps link none_out)
          (λ high. past_all call from goal (omega (arith, high, differ)))
          ∙ sym (none_either (ltb goal 32))
          ∙ sym (ap (λ (l : List ℕ). cond (ltb goal 32) l []) none_told)
        where
          none_told : cond (is_done (r call) && eqb from 32) told [] ≡ []
          none_told =
              cases (is_done (r call))
              (λ e. ap₂ (λ (u v : Bool). cond (u && v) told []) e (ne_eqb from 32 differ))
              (λ e. ap (λ (u : Bool). cond (u && eqb from 32) told []) e)

      by_t6 : Goal (left_for plan (ending call) from goal) (let_go_for plan (a call) (r call) (T6 x) from goal)
      unfolding let_go_for
      by_t6 =
          subst (λ (l : List ℕ). Goal l (let_go_for plan (a call) (r call) (T6 x) from goal)) (sym (no_link (λ is_out. unmet (sym none_out ∙ is_out))))
          (alike from 32 from_apart from_link)

    -- every event
    by_event : (event : Event) → call.event ≡ event
        → Goal (left_for plan (ending call) from goal) (let_go_for plan (a call) (r call) call.event from goal)
    unfolding is_t6
    by_event (T6 x) is-it =
        subst (λ (event : Event). Goal (left_for plan (ending call) from goal) (let_go_for plan (a call) (r call) event from goal)) (sym is-it) (by_t6 x is-it)
    by_event (IntoService link) is-it = no_t6 (ap is_t6 is-it)
    by_event (Failure link) is-it = no_t6 (ap is_t6 is-it)
    by_event (Send link) is-it = no_t6 (ap is_t6 is-it)
    by_event (Acknowledgement link b) is-it = no_t6 (ap is_t6 is-it)
    by_event (Received link fsn) is-it = no_t6 (ap is_t6 is-it)
    by_event FromHost is-it = no_t6 (ap is_t6 is-it)
    by_event (T1 link) is-it = no_t6 (ap is_t6 is-it)
    by_event (T2 link) is-it = no_t6 (ap is_t6 is-it)
    by_event (T3 link) is-it = no_t6 (ap is_t6 is-it)
    by_event (T4 link) is-it = no_t6 (ap is_t6 is-it)
    by_event (T8 x) is-it = no_t6 (ap is_t6 is-it)
    by_event (T10 x set) is-it = no_t6 (ap is_t6 is-it)

  pub moved_are : (call : Call) → MovedAre plan call before
  moved_are call from goal = by_event call from goal call.event refl
