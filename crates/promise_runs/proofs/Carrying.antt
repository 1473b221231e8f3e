-- A link that the rule gives a message carries: it isn't out.
-- Assumes nothing.
use mathlib.Core.Path.{◌≡◌, refl, sym, ◌∙◌}
use mathlib.Core.Bool.{true, true≢false}
use mathlib.Core.List.{List}
use Prim.Native.Nat.{ℕ, ◌<◌}
use native.Mathlib.Omega.{arith}
use borrow.Table.Steps.{cases}
use Rattle.plan.specs.declared.data.Plan.{Plan}
use Rattle.plan.specs.Find.{place_of, is_found}
use Rattle.area_links.specs.LinkRecords.{record_at}
use Rattle.route_serving.specs.declared.Need.{Need}
use Rattle.route_serving.specs.State.{serves, is_marked}
use Rattle.route_choice.specs.Which.{none}
use Rattle.route_choice.proofs.Loss.{lost_state}
use Rattle.route_choice.proofs.Used.{chosen_is}
use Rattle.route_ways.specs.Way.{link_for, way_of}
use Rattle.changeback_service.proofs.Carries.{state_read}

module _ (plan : Plan) (links marks : List ℕ) (need : Need) where
  -- an out link doesn't serve
  out_serves_not : (link : ℕ) → (record_at links link).state ≡ 0 → serves links need link ≡ true → ⊥
  out_serves_not link out on =
      true≢false (sym on ∙ (lost_state links links need link (state_read links link ∙ out) (λ other apart. refl)).lost)

  -- the link of a destination
  pub link_carries : (destination sls : ℕ) → link_for plan links marks need destination sls < none
      → (record_at links (link_for plan links marks need destination sls)).state ≡ 0 → ⊥
  unfolding link_for
  link_carries destination sls yielded out =
      let is = chosen_is (serves links need) (is_marked marks destination) plan destination sls yielded in
      out_serves_not (link_for plan links marks need destination sls) out is.first_going_round.serves_there

  -- the way to a point
  pub way_carries : (point sls : ℕ) → way_of plan links marks need point sls < none
      → (record_at links (way_of plan links marks need point sls)).state ≡ 0 → ⊥
  unfolding way_of
  way_carries point sls =
      cases (is_found plan point)
      (λ e. simp e (link_carries (place_of plan point) sls))
      (λ e. simp e (λ yielded. absurd (omega arith)))
