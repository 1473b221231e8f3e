-- What is found is there: a set to the point, a link of that set with the SLC, a route by the set. Assumes nothing.
use mathlib.Core.Path.{◌≡◌, refl}
use mathlib.Core.Bool.{Bool, true, false, cond, ◌&&◌, and-eq-true_iff}
use Prim.Native.Nat.{ℕ, ◌<◌}
use native.Mathlib.Omega.{arith}
use lib.Dec.{ltb, eqb}
use lib.ListN.{length, get_or, length-take}
use lib.Seq.{get_or-take}
use borrow.Author.Tests.{eqb-true}
use Rattle.plan.specs.declared.data.Plan.{Plan}
use Rattle.plan.specs.Data.{absent_route, set_at, link_at, links_of, routes_of}
use Rattle.plan.specs.Sound.{Sound}
use Rattle.lookup.specs.Lookup.{set_to, link_named, rank_by, set_of}
use Rattle.lookup.proofs.Walks.{yielded, sets_walk, links_walk, routes_walk}

-- what a test of two says
both : (a : Bool) (x y : ℕ) → (a && eqb x y) ≡ true → (a ≡ true) × (x ≡ y)
both a x y e = let each = (and-eq-true_iff a (eqb x y)).0 e in (each.0, eqb-true x y each.1)

-- what holds of either holds of the one that a test takes
either : (P : ℕ → Type 0) (test : Bool) (x y : ℕ) → P x → P y → P (cond test x y)
either P true x y p q = p
either P false x y p q = q

module _ (plan : Plan) where
  -- a set that is found is given, and goes to the point
  pub set_in_range : (point : ℕ) → set_to plan point < 8
      → ((set_at plan (set_to plan point)).given ≡ true) × ((set_at plan (set_to plan point)).adjacent ≡ point)
  unfolding set_to
  set_in_range point =
      yielded (sets_walk plan point)
      (λ (set : ℕ). set < 8 → ((set_at plan set).given ≡ true) × ((set_at plan set).adjacent ≡ point))
      (λ set h passes within. both (set_at plan set).given (set_at plan set).adjacent point passes)
      (λ within. absurd (omega arith))

  -- a route whose rank is found is given, and goes by the set
  pub rank_in_range : (destination set : ℕ) → rank_by plan destination set < 4
      → let route = get_or (routes_of plan destination) (rank_by plan destination set) absent_route in
      (route.given ≡ true) × (route.set ≡ set)
  unfolding rank_by
  rank_in_range destination set =
      let routes = routes_of plan destination in
      let Found : ℕ → Type 0 = λ rank. rank < 4 → ((get_or routes rank absent_route).given ≡ true) × ((get_or routes rank absent_route).set ≡ set) in
      let none : Found 4 = λ within. absurd (omega arith) in
      either Found (ltb destination 64) _ 4
      (yielded (routes_walk set routes (length routes) refl) Found
      (λ rank h passes within. both (get_or routes rank absent_route).given (get_or routes rank absent_route).set set passes)
      none)
      none

  -- "A link is named by the message's OPC, as adjacent point, and its SLC": it is given, and has that SLC and the set to that point
  pub named_is_configured : Sound plan → (point slc : ℕ) → link_named plan point slc < 32
      → ((link_at plan (link_named plan point slc)).given ≡ true)
      × ((link_at plan (link_named plan point slc)).slc ≡ slc)
      × (set_of plan (link_named plan point slc) ≡ set_to plan point)
  unfolding link_named set_of
  named_is_configured sound point slc =
      let s = set_to plan point in
      let those = set_at plan s in
      let Found : ℕ → Type 0 = λ link. link < 32 → ((link_at plan link).given ≡ true) × ((link_at plan link).slc ≡ slc) × (set_of plan link ≡ s) in
      let none : Found 32 = λ within. absurd (omega arith) in
      either Found (ltb s 8) _ 32
      (yielded (links_walk plan slc those (length (links_of plan s)) refl) Found
      (λ i h passes within.
      let link = get_or those.links i 0 in
      let inside : i < those.count = omega (arith, length-take those.count those.links) in
      let here = get_or-take those.count those.links i 0 inside in
      let test = both (ltb link 32) (link_at plan link).slc slc passes in (
        simp here at (sound.is_given s i h),
        test.1,
        simp test.0 (simp here at (sound.own_set s i h)),
      ))
      none)
      none
