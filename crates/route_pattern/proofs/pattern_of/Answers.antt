-- `route_pattern::pattern_of` meets its contract: each bit is at most 1, and a set of four has no bits behind the fourth.
-- Assumes nothing.
use mathlib.Core.Path.{◌≡◌, refl}
use mathlib.Core.List.{List}
use Prim.Native.Nat.{ℕ, ◌≤◌}
use native.Mathlib.Omega.{arith}
use lib.ListN.{length, take, length-take}
use Rattle.plan.specs.Data.{set_at}
use Rattle.plan_words.specs.Words.{plan_at}
use Rattle.route_serving.specs.State as State
use Rattle.route_round.specs.Table.{bit_at}
use Rattle.route_round.proofs.ByTable.{lows, no_bit}
use Rattle.route_pattern.proofs.pattern_of.Goals as goal

pub overflow_add-first-3 : goal.overflow_add-first-3
overflow_add-first-3 c =
    let a = c.args in
    let each = lows (State.serves a.links.now a.need) (take a.m (set_at (plan_at a.plan.now) a.set).links) in
    omega arith

pub overflow_add-result : goal.overflow_add-result
overflow_add-result c =
    let a = c.args in
    let each = lows (State.serves a.links.now a.need) (take a.m (set_at (plan_at a.plan.now) a.set).links) in
    omega arith

pub overflow_add-result-2 : goal.overflow_add-result-2
overflow_add-result-2 c =
    let a = c.args in
    let each = lows (State.serves a.links.now a.need) (take a.m (set_at (plan_at a.plan.now) a.set).links) in
    omega arith

pub overflow_add-result-3 : goal.overflow_add-result-3
overflow_add-result-3 c =
    let a = c.args in
    let each = lows (State.serves a.links.now a.need) (take a.m (set_at (plan_at a.plan.now) a.set).links) in
    omega arith

pub overflow_add-result-4 : goal.overflow_add-result-4
overflow_add-result-4 c =
    let a = c.args in
    let each = lows (State.serves a.links.now a.need) (take a.m (set_at (plan_at a.plan.now) a.set).links) in
    omega arith

pub returns-then-m-le4 : goal.returns-then-m-le4
returns-then-m-le4 c =
    let a = c.args in
    let members : List ℕ = (set_at (plan_at a.plan.now) a.set).links in
    let few : length (take a.m members) ≤ 4 = omega (arith, length-take a.m members) in
    let no : (place : ℕ) → 4 ≤ place → 0 ≡ bit_at (State.serves a.links.now a.need) (take a.m members) place =
    λ place h. no_bit (State.serves a.links.now a.need) (take a.m members) refl place (omega arith)
    in
    omega
    (arith, no 4 (omega arith), no 5 (omega arith), no 6 (omega arith), no 7 (omega arith), c.bit_at-4.ensures, c.bit_at-3.ensures, c.bit_at-2.ensures, c.bit_at.ensures)
