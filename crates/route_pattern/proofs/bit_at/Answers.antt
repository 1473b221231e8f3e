-- `route_pattern::bit_at` meets its contract: where there is a link at the place, the test of it is the bit.
-- Assumes nothing.
use mathlib.Core.Path.{◌≡◌, refl, sym, ap, ◌∙◌}
use mathlib.Core.List.{List}
use Prim.Native.Nat.{ℕ}
use native.Mathlib.Omega.{arith}
use lib.ListN.{length, take, get_or, length-take}
use Rattle.plan.specs.declared.data.LinkSet.{LinkSet}
use Rattle.plan.specs.Data.{set_at}
use Rattle.plan_words.specs.Words.{plan_at}
use Rattle.plan_words.proofs.Said.{eight_places, set_past}
use Rattle.route_serving.specs.State as State
use Rattle.route_round.specs.Round.{none}
use Rattle.route_round.proofs.ByTable.{no_bit}
use Rattle.route_round.proofs.Lists.{in_front}
use Rattle.route_pattern.proofs.bit_at.Goals as goal

pub returns-then-set-ge8 : goal.returns-then-set-ge8
returns-then-set-ge8 c =
    let a = c.args in
    let members : List ℕ = (set_at (plan_at a.plan.now) a.set).links in
    let past = set_past a.plan.now a.set c.if-set-ge8.true in
    no_bit (State.serves a.links.now a.need) (take a.m members) refl a.place
    (omega (arith, length-take a.m members, ap (λ (set : LinkSet). length set.links) past))

pub returns-then-place-ge8 : goal.returns-then-place-ge8
returns-then-place-ge8 c =
    let a = c.args in
    let members : List ℕ = (set_at (plan_at a.plan.now) a.set).links in
    no_bit (State.serves a.links.now a.need) (take a.m members) refl a.place
    (omega (arith, eight_places a.plan.now a.set c.if-set-ge8.false, length-take a.m members))

pub returns-then-serves : goal.returns-then-serves
returns-then-serves c =
    let a = c.args in
    let members : List ℕ = (set_at (plan_at a.plan.now) a.set).links in
    let eight : length members ≡ 8 = eight_places a.plan.now a.set c.if-set-ge8.false in
    let tested : c.serves.result ≡ State.serves a.links.now a.need (get_or (take a.m members) a.place none) =
    c.serves.ensures
    ∙ ap (State.serves a.links.now a.need)
    (c.set_link.ensures ∙ in_front a.m members a.place 0 none (omega arith) (omega arith))
    in
    simp (sym tested, c.if-serves.true)

pub returns-else-serves : goal.returns-else-serves
returns-else-serves c =
    let a = c.args in
    let members : List ℕ = (set_at (plan_at a.plan.now) a.set).links in
    let eight : length members ≡ 8 = eight_places a.plan.now a.set c.if-set-ge8.false in
    let tested : c.serves.result ≡ State.serves a.links.now a.need (get_or (take a.m members) a.place none) =
    c.serves.ensures
    ∙ ap (State.serves a.links.now a.need)
    (c.set_link.ensures ∙ in_front a.m members a.place 0 none (omega arith) (omega arith))
    in
    simp (sym tested, c.if-serves.false)
