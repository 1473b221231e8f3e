-- Every fate that is told of a call is so: what its line says holds in the queues before and after the call and in its reports, whatever they hold.
-- Assumes nothing.
use mathlib.Core.Path.{◌≡◌, refl}
use mathlib.Core.Bool.{Bool, true, false, cond}
use mathlib.Core.List.{List, [], ◌∷◌, ◌++◌}
use Prim.Native.Nat.{ℕ, zero, suc, ◌+◌, ◌-◌, ◌≤◌, ◌<◌, min}
use native.Mathlib.Omega.{arith}
use lib.Dec.{eqb, ltb}
use borrow.Author.Tests.{eqb-true, ltb-true, ltb-false}
use Rattle.fate_places.specs.Places.{Held, places, message_at, nowhere, whither}
use Rattle.fate_places.proofs.WhereTold as WhereTold
use Rattle.fate_lines.specs.declared.Fate.{Fate}
use Rattle.fate_lines.specs.declared.Fate.TheVariants.{Unchanged, Queued, Sent, Acknowledged, Retired, Moved}
use Rattle.replay_fates.specs.declared.deciding.Part.{Part}
use Rattle.replay_fates.specs.declared.deciding.Part.TheVariants.{Arriving, Acknowledging, Retiring, Moving}
use Rattle.replay_fates.specs.Fates.{fate_at, fates_at, fates_from, fates_in, sent_fate, leaving_part, fates_of}
use Rattle.replay_fates.specs.Holds.{Seen, Left, Holds, AllHold}
use Rattle.replay_fates.specs.Holds.Holds.{unchanged, queued, sent, acknowledged, retired, moved}
use Rattle.replay_fates.specs.Holds.AllHold.{none, more}

-- what holds of each outcome of a test holds of what it decides
by_test : {A : Type 0} (P : A → Type 0) (test : Bool) (x y : A) → (test ≡ true → P x) → (test ≡ false → P y) → P (cond test x y)
by_test P true x y on off = on refl
by_test P false x y on off = off refl

both : (s : Seen) (one other : List Fate) → AllHold s one → AllHold s other → AllHold s (one ++ other)
both s [] other (none s') rest = rest
both s (fate ∷ one) other (more s' fate' one' here later) rest = more s fate (one ++ other) here (both s one other later rest)

module _ (s : Seen) where
  abbrev count : ℕ
  count = s.told.reports

  abbrev to : Held → ℕ → ℕ → ℕ
  to walked queue place = whither s.after s.reports count queue (message_at walked queue place).arrival

  -- what is told of the messages of a queue that is walked, each
  abbrev Each : Part → Held → Type 0
  Each part walked =
      (queue place : ℕ) → place < places walked queue → Holds s (fate_at part walked s.after s.reports count queue place)

  each_new : Each (Arriving s.told.next) s.after
  each_new queue place below =
      let known = message_at s.after queue place in
      by_test (Holds s) (ltb known.arrival s.told.next) Unchanged (Queued known.arrival queue known.heading)
      (λ old. unchanged s)
      (λ new. queued s known.arrival queue known.heading (WhereTold.at_stands s.after queue place below) (ltb-false known.arrival s.told.next new))

  left_it : (queue place : ℕ) → place < places s.before queue → eqb (to s.before queue place) nowhere ≡ true
      → Left s (message_at s.before queue place).arrival queue
  left_it queue place below e =
      let gone = WhereTold.gone s.after s.reports count queue (message_at s.before queue place).arrival (eqb-true (to s.before queue place) nowhere e) in
      record { stood = WhereTold.at_stands s.before queue place below; in_none = gone.in_none; not_dropped = gone.not_told }

  each_acknowledged : s.told.acknowledges ≡ true → Each Acknowledging s.before
  each_acknowledged is queue place below =
      let arrival = (message_at s.before queue place).arrival in
      by_test (Holds s) (eqb (to s.before queue place) nowhere) (Acknowledged arrival queue) Unchanged
      (λ e. acknowledged s arrival queue is (left_it queue place below e))
      (λ e. unchanged s)

  each_retired : s.told.acknowledges ≡ false → Each Retiring s.before
  each_retired is queue place below =
      let arrival = (message_at s.before queue place).arrival in
      by_test (Holds s) (eqb (to s.before queue place) nowhere) (Retired arrival queue) Unchanged
      (λ e. retired s arrival queue is (left_it queue place below e))
      (λ e. unchanged s)

  each_moved : Each Moving s.before
  each_moved queue place below =
      let arrival = (message_at s.before queue place).arrival in
      by_test (Holds s) (ltb (to s.before queue place) nowhere) (Moved arrival queue (to s.before queue place)) Unchanged
      (λ e.
      let there = WhereTold.moved s.after s.reports count queue arrival (ltb-true (to s.before queue place) nowhere e) in
      moved s arrival queue (to s.before queue place) (WhereTold.at_stands s.before queue place below) there.left there.there)
      (λ e. unchanged s)

  -- a part: of each queue, each message
  module _ (part : Part) (walked : Held) (each : Each part walked) where
    all_at : (queue place many : ℕ) → place + many ≤ places walked queue
        → AllHold s (fates_at part walked s.after s.reports count queue place many)
    unfolding fates_at
    all_at queue place zero short = none s
    all_at queue place (suc many) short =
        more s (fate_at part walked s.after s.reports count queue place) (fates_at part walked s.after s.reports count queue (place + 1) many)
        (each queue place (omega arith)) (all_at queue (place + 1) many (omega arith))

    all_from : (queue queues left : ℕ) → AllHold s (fates_from part walked s.after s.reports count queue queues left)
    unfolding fates_from
    all_from queue zero left = none s
    all_from queue (suc queues) left =
        let many : ℕ = min (places walked queue) left in
        both s (fates_at part walked s.after s.reports count queue 0 many) (fates_from part walked s.after s.reports count (queue + 1) queues (left - many))
        (all_at queue 0 many (omega arith)) (all_from (queue + 1) queues (left - many))

    all_in : AllHold s (fates_in part walked s.after s.reports count)
    unfolding fates_in
    all_in = all_from 0 33 256

  sent_holds : Holds s (sent_fate s.told s.links s.after)
  unfolding sent_fate
  sent_holds =
      by_test (Holds s) (ltb s.told.sender 32) (Sent _ s.told.sender s.told.fsn) Unchanged
      (λ e. sent s (ltb-true s.told.sender 32 e))
      (λ e. unchanged s)

  leaving_holds : AllHold s (fates_in (leaving_part s.told) s.before s.after s.reports count)
  leaving_holds =
      by_test (λ (part : Part). AllHold s (fates_in part s.before s.after s.reports count)) s.told.acknowledges Acknowledging Retiring
      (λ e. all_in Acknowledging s.before (each_acknowledged e))
      (λ e. all_in Retiring s.before (each_retired e))

  -- all that is told of a call is so
  pub fates_hold : AllHold s (fates_of s.told s.links s.before s.after s.reports)
  unfolding fates_of
  fates_hold =
      let new = fates_in (Arriving s.told.next) s.after s.after s.reports count in
      let left = fates_in (leaving_part s.told) s.before s.after s.reports count in
      let moves = fates_in Moving s.before s.after s.reports count in
      both s new (sent_fate s.told s.links s.after ∷ (left ++ moves)) (all_in (Arriving s.told.next) s.after each_new)
      (more s (sent_fate s.told s.links s.after) (left ++ moves) sent_holds (both s left moves leaving_holds (all_in Moving s.before each_moved)))
