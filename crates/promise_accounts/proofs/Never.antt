-- The node's own messages never use the one link that they are never to use.
-- Assumes nothing.
use mathlib.Core.Path.{◌≡◌, sym, ◌∙◌}
use mathlib.Core.Bool.{true, false, not, ◌&&◌, true≢false, and-eq-true_iff}
use mathlib.Core.List.{List}
use Prim.Native.Nat.{ℕ, ◌<◌}
use native.Mathlib.Omega.{arith}
use lib.Dec.{eqb, ltb}
use borrow.Author.Tests.{eq-eqb, not-true}
use borrow.Table.Steps.{cases}
use Rattle.plan.specs.declared.data.Plan.{Plan}
use Rattle.plan.specs.Find.{place_of, is_found}
use Rattle.route_serving.specs.State.{serves, is_marked, is_open}
use Rattle.route_choice.specs.Which.{none}
use Rattle.route_choice.proofs.Used.{chosen_is}
use Rattle.route_ways.specs.Way.{for_management, link_for, way_of}

module _ (plan : Plan) (links marks : List ℕ) (never : ℕ) where
  -- that link doesn't serve
  never_serves : (link : ℕ) → serves links (for_management never) link ≡ true → link ≡ never → ⊥
  never_serves link on same =
      let rest = ((and-eq-true_iff (ltb link 32) (not (eqb link never) && is_open links link)).0 on).1 in
      let other = not-true (eqb link never) ((and-eq-true_iff (not (eqb link never)) (is_open links link)).0 rest).0 in
      true≢false (sym (eq-eqb link never same) ∙ other)

  link_never : (destination sls : ℕ) → link_for plan links marks (for_management never) destination sls < none
      → link_for plan links marks (for_management never) destination sls ≡ never → ⊥
  unfolding link_for
  link_never destination sls yielded same =
      let is = chosen_is (serves links (for_management never)) (is_marked marks destination) plan destination sls yielded in
      never_serves (link_for plan links marks (for_management never) destination sls) is.first_going_round.serves_there same

  -- so the way to a point isn't that link
  pub way_never : (point sls : ℕ) → way_of plan links marks (for_management never) point sls < none
      → way_of plan links marks (for_management never) point sls ≡ never → ⊥
  unfolding way_of
  way_never point sls =
      cases (is_found plan point)
      (λ e. simp e (link_never (place_of plan point) sls))
      (λ e. simp e (λ yielded. absurd (omega arith)))
