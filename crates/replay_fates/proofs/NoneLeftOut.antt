-- No message is left out: where the queues hold at most 256 together, each that is new, is gone or has moved is told, with the queue that it stands in or left.
-- Assumes nothing.
use mathlib.Core.Path.{◌≡◌, sym, ap, subst}
use mathlib.Core.Bool.{Bool, true, false, cond}
use mathlib.Core.List.{List, [], ◌∷◌, ◌++◌}
use Prim.Native.Nat.{ℕ, zero, suc, ◌+◌, ◌-◌, ◌≤◌, ◌<◌, min}
use native.Mathlib.Omega.{arith}
use lib.Dec.{ltb}
use borrow.Author.Tests.{eq-eqb, lt-ltb, le-ltb, ltb-true, ltb-false}
use borrow.Table.Steps.{cases}
use Rattle.fate_places.specs.Places.{Held, places, message_at, nowhere, whither}
use Rattle.fate_lines.specs.declared.Fate.{Fate}
use Rattle.fate_lines.specs.declared.Fate.TheVariants.{Queued, Acknowledged, Retired, Moved}
use Rattle.replay_fates.specs.declared.deciding.Part.{Part}
use Rattle.replay_fates.specs.declared.deciding.Part.TheVariants.{Arriving, Acknowledging, Retiring, Moving}
use Rattle.replay_fates.specs.Fates.{fate_at, fates_at, fates_from, fates_in, sent_fate, leaving_part, fates_of}
use Rattle.replay_fates.specs.Holds.{Seen, Among, together}
use Rattle.replay_fates.specs.Holds.Among.{here, there}

among_first : (fate : Fate) (one other : List Fate) → Among fate one → Among fate (one ++ other)
among_first fate [] other is = elim is [ ]
among_first fate (now ∷ one) other (here fate' one') = here fate (one ++ other)
among_first fate (now ∷ one) other (there fate' now' one' later) = there fate now (one ++ other) (among_first fate one other later)

among_last : (fate : Fate) (one other : List Fate) → Among fate other → Among fate (one ++ other)
among_last fate [] other is = is
among_last fate (now ∷ one) other is = there fate now (one ++ other) (among_last fate one other is)

module _ (part : Part) (walked after : Held) (reports : List ℕ) (count : ℕ) where
  abbrev one : ℕ → ℕ → Fate
  one queue place = fate_at part walked after reports count queue place

  among_at : (queue place from many : ℕ) → from ≤ place → place < from + many
      → Among (one queue place) (fates_at part walked after reports count queue from many)
  unfolding fates_at
  among_at queue place from zero h below = absurd (omega arith)
  among_at queue place from (suc many) h below =
      let rest = fates_at part walked after reports count queue (from + 1) many in
      cases (ltb from place)
      (λ e. there (one queue place) (one queue from) rest (among_at queue place (from + 1) many (omega (arith, ltb-true from place e)) (omega arith)))
      (λ e.
      let same : from ≡ place = omega (arith, ltb-false from place e) in
      subst (λ (k : ℕ). Among (one queue k) (one queue from ∷ rest)) same (here (one queue from) rest))

  among_from : (queue place from queues left : ℕ) → from ≤ queue → queue < from + queues → place < places walked queue
      → together walked from queues ≤ left → Among (one queue place) (fates_from part walked after reports count from queues left)
  unfolding fates_from together
  among_from queue place from zero left h below held few = absurd (omega arith)
  among_from queue place from (suc queues) left h below held few =
      let many : ℕ = min (places walked from) left in
      let all : many ≡ places walked from = omega arith in
      let first = fates_at part walked after reports count from 0 many in
      let rest = fates_from part walked after reports count (from + 1) queues (left - many) in
      cases (ltb from queue)
      (λ e. among_last (one queue place) first rest (among_from queue place (from + 1) queues (left - many) (omega (arith, ltb-true from queue e)) (omega arith) held (omega (arith, all, few))))
      (λ e.
      let same : from ≡ queue = omega (arith, ltb-false from queue e) in
      let below-it : place < places walked from = subst (λ (q : ℕ). place < places walked q) (sym same) held in
      among_first (one queue place) first rest
      (subst (λ (q : ℕ). Among (one q place) first) same (among_at from place 0 many (omega arith) (omega (arith, all, below-it)))))

  told_in : (queue place : ℕ) → queue < 33 → place < places walked queue → together walked 0 33 ≤ 256
      → Among (one queue place) (fates_in part walked after reports count)
  unfolding fates_in
  told_in queue place below held few = among_from queue place 0 33 256 (omega arith) below held few

module _ (s : Seen) (queue place : ℕ) (below : queue < 33) where
  abbrev all : List Fate
  all = fates_of s.told s.links s.before s.after s.reports

  abbrev new : List Fate
  new = fates_in (Arriving s.told.next) s.after s.after s.reports s.told.reports

  abbrev left : List Fate
  left = fates_in (leaving_part s.told) s.before s.after s.reports s.told.reports

  abbrev moves : List Fate
  moves = fates_in Moving s.before s.after s.reports s.told.reports

  -- a message that stands in a queue after the call with a new number is told as queued there
  pub new_told : place < places s.after queue → together s.after 0 33 ≤ 256 →
      let known = message_at s.after queue place in
      s.told.next ≤ known.arrival → Among (Queued known.arrival queue known.heading) all
  unfolding fates_of
  new_told held few is =
      let known = message_at s.after queue place in
      let fate : fate_at (Arriving s.told.next) s.after s.after s.reports s.told.reports queue place ≡ Queued known.arrival queue known.heading =
      simp (le-ltb known.arrival s.told.next is)
      in
      among_first (Queued known.arrival queue known.heading) new _
      (subst (λ (f : Fate). Among f new) fate (told_in (Arriving s.told.next) s.after s.after s.reports s.told.reports queue place below held few))

  module _ (held : place < places s.before queue) (few : together s.before 0 33 ≤ 256) where
    abbrev arrival : ℕ
    arrival = (message_at s.before queue place).arrival

    abbrev to : ℕ
    to = whither s.after s.reports s.told.reports queue arrival

    left_told : (fate : Fate) → Among fate left → Among fate all
    unfolding fates_of
    left_told fate is = among_last fate new _ (there fate (sent_fate s.told s.links s.after) (left ++ moves) (among_first fate left moves is))

    leaving_is : {b : Bool} → s.told.acknowledges ≡ b → leaving_part s.told ≡ cond b Acknowledging Retiring
    leaving_is e = ap (λ (b : Bool). cond b Acknowledging Retiring) e

    by_part : (part : Part) → leaving_part s.told ≡ part → (fate : Fate)
        → fate_at part s.before s.after s.reports s.told.reports queue place ≡ fate → Among fate all
    by_part part is fate e =
        left_told fate
        (subst (λ (p : Part). Among fate (fates_in p s.before s.after s.reports s.told.reports)) (sym is)
        (subst (λ (f : Fate). Among f (fates_in part s.before s.after s.reports s.told.reports)) e
        (told_in part s.before s.after s.reports s.told.reports queue place below held few)))

    -- one that stood in a queue and is nowhere is told as acknowledged, or as retired
    pub acknowledged_told : s.told.acknowledges ≡ true → to ≡ nowhere → Among (Acknowledged arrival queue) all
    acknowledged_told is gone = by_part Acknowledging (leaving_is is) (Acknowledged arrival queue) (simp (eq-eqb to nowhere gone))

    pub retired_told : s.told.acknowledges ≡ false → to ≡ nowhere → Among (Retired arrival queue) all
    retired_told is gone = by_part Retiring (leaving_is is) (Retired arrival queue) (simp (eq-eqb to nowhere gone))

    -- one that has another queue is told as moved
    pub moved_told : to < nowhere → Among (Moved arrival queue to) all
    unfolding fates_of
    moved_told lower =
        let fate : fate_at Moving s.before s.after s.reports s.told.reports queue place ≡ Moved arrival queue to = simp (lt-ltb to nowhere lower) in
        among_last (Moved arrival queue to) new _
        (there (Moved arrival queue to) (sent_fate s.told s.links s.after) (left ++ moves)
        (among_last (Moved arrival queue to) left moves
        (subst (λ (f : Fate). Among f moves) fate (told_in Moving s.before s.after s.reports s.told.reports queue place below held few))))
