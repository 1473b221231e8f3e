-- The records are searched in order. Assumes nothing.
use mathlib.Core.Path.{◌≡◌, sym, ap, ◌∙◌}
use mathlib.Core.Bool.{true, false}
use Prim.Native.Nat.{ℕ, ◌/◌, min}
use Rattle.std.proofs.Common.{rules}
use lib.ListN.{length}
use Rattle.fate_places.specs.Places.{seek, tells_drop, dropped}
use Rattle.fate_places.proofs.Seek.{sought_none, sought_on, sought_hit, sought_end}
use Rattle.fate_places.proofs.dropped.Goals as goal

pub loop-k-init : goal.loop-k-init
loop-k-init c =
    let a = c.args in
    let few : c.min-count.result ≡ min a.count (length a.reports.now / 2) = search rules in
    (few, sought_none _ _ _ _)

pub returns-then-tells_drop : goal.returns-then-tells_drop
unfolding dropped
returns-then-tells_drop c =
    let a = c.args in
    let l = c.loop-k in
    sought_hit (tells_drop a.reports.now a.arrival) (λ (k : ℕ). true) false _ l.k l.invariant.1 c.loop-k-test.true
    (sym c.tells_drop.ensures ∙ c.if-tells_drop.true)
    ∙ ap (seek (tells_drop a.reports.now a.arrival) (λ (k : ℕ). true) false 0) l.invariant.0

pub loop-k-preserved : goal.loop-k-preserved
loop-k-preserved c =
    let a = c.args in
    let l = c.loop-k in (
      l.invariant.0,
      sought_on (tells_drop a.reports.now a.arrival) (λ (k : ℕ). true) false _ l.k l.invariant.1 c.loop-k-test.true
          (sym c.tells_drop.ensures ∙ c.if-tells_drop.false),
    )

pub returns : goal.returns
unfolding dropped
returns c =
    let a = c.args in
    let l = c.loop-k in
    sought_end (tells_drop a.reports.now a.arrival) (λ (k : ℕ). true) false _ l.k l.invariant.1 c.loop-k-test.false
    ∙ ap (seek (tells_drop a.reports.now a.arrival) (λ (k : ℕ). true) false 0) l.invariant.0
