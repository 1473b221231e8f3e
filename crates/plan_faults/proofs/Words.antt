-- The fault of a statement by its word, where its numbers are read: the first of its faults that applies. Assumes nothing.
use mathlib.Core.Path.{◌≡◌, refl, sym, ap, ◌∙◌}
use mathlib.Core.Bool.{Bool, true, false, cond, not, ◌&&◌, ◌||◌, and-eq-true_iff}
use mathlib.Core.List.{List, [], ◌∷◌}
use Prim.Native.Nat.{ℕ}
use native.Mathlib.Omega.{arith}
use lib.Dec.{eqb, ltb, leb}
use lib.ListN.{length, get_or, take, length-take, get_or-eq_default}
use borrow.Author.Tests.{eq-eqb, eqb-true, le-leb, lt-leb}
use borrow.Table.Steps.{cases}
use Rattle.plan.specs.declared.data.Plan.{Plan}
use Rattle.plan.specs.declared.data.LinkSet.{LinkSet}
use Rattle.plan.specs.declared.data.Destination.{Destination}
use Rattle.plan.specs.Data.{absent_set, absent_route, set_at, routes_of, destination_at}
use Rattle.plan.specs.Find.{given, place_of, is_found}
use Rattle.plan.specs.Sound.{Sound}
use Rattle.plan.proofs.Split.{split}
use Rattle.plan.proofs.Found.{found_stands}
use Rattle.replies.specs.Reply.{Row, row, first}
use Rattle.plan_repeats.specs.Search.{one}
use Rattle.plan_repeats.specs.Taken.{set_taken}
use Rattle.plan_building.specs.Building.{fault_of}
use Rattle.plan_sets.specs.SetLines.{add_node, add_set}
use Rattle.plan_links.specs.LinkLines.{add_link}
use Rattle.plan_routes.specs.RouteLines.{add_route}
use Rattle.plan_faults.specs.Given.{node_given, is_ours, set_given, adjacent_given, link_given, slc_given, set_full, destinations_of, destination_given, route_by_set, route_of_rank, destinations_full}
use Rattle.plan_faults.proofs.Destinations.{found_one, missing_one}
use Rattle.plan_building.specs.declared.Fault.TheVariants.{OutOfRange, Repeat, NotGiven, Full}
use Rattle.std.specs.Prelude.{Ok, Err}

-- the tests of each in their order, whatever they say and whatever plan is made
module _ (plan : Plan) where
  node_order : (next : Plan) (a b given : Bool)
      → fault_of (cond (a || b) (Err OutOfRange) (cond given (Err Repeat) (Ok next))) ≡ first (row 21 a ∷ row 21 b ∷ row 22 given ∷ [])
  unfolding first
  node_order next true b given = refl
  node_order next false true given = refl
  node_order next false false true = refl
  node_order next false false false = refl

  set_order : (next : Plan) (a b given taken ours : Bool)
      → fault_of (cond (a || b) (Err OutOfRange) (cond (given || (taken || ours)) (Err Repeat) (Ok next)))
      ≡ first (row 21 a ∷ row 21 b ∷ row 22 given ∷ row 22 taken ∷ row 22 ours ∷ [])
  unfolding first
  set_order next true b given taken ours = refl
  set_order next false true given taken ours = refl
  set_order next false false true taken ours = refl
  set_order next false false false true ours = refl
  set_order next false false false false true = refl
  set_order next false false false false false = refl

  link_order : (next : Plan) (a b c unknown given taken full : Bool)
      → fault_of (cond (a || (b || c)) (Err OutOfRange)
      (cond unknown (Err NotGiven) (cond (given || taken) (Err Repeat) (cond full (Err Full) (Ok next)))))
      ≡ first (row 21 a ∷ row 21 b ∷ row 21 c ∷ row 23 unknown ∷ row 22 given ∷ row 22 taken ∷ row 24 full ∷ [])
  unfolding first
  link_order next true b c unknown given taken full = refl
  link_order next false true c unknown given taken full = refl
  link_order next false false true unknown given taken full = refl
  link_order next false false false true given taken full = refl
  link_order next false false false false true taken full = refl
  link_order next false false false false false true full = refl
  link_order next false false false false false false true = refl
  link_order next false false false false false false false = refl

  route_order : (known new : Plan) (a b c unknown ours found by-set of-rank full : Bool)
      → fault_of (cond (a || (b || c)) (Err OutOfRange)
      (cond unknown (Err NotGiven)
      (cond ours (Err Repeat)
      (cond found (cond (by-set || of-rank) (Err Repeat) (Ok known)) (cond full (Err Full) (Ok new))))))
      ≡ first (row 21 a ∷ row 21 b ∷ row 21 c ∷ row 23 unknown ∷ row 22 ours ∷ row 22 (found && by-set) ∷ row 22 (found && of-rank) ∷ row 24 (not found && full) ∷ [])
  unfolding first
  route_order known new true b c unknown ours found by-set of-rank full = refl
  route_order known new false true c unknown ours found by-set of-rank full = refl
  route_order known new false false true unknown ours found by-set of-rank full = refl
  route_order known new false false false true ours found by-set of-rank full = refl
  route_order known new false false false false true found by-set of-rank full = refl
  route_order known new false false false false false true true of-rank full = refl
  route_order known new false false false false false true false true full = refl
  route_order known new false false false false false true false false full = refl
  route_order known new false false false false false false by-set of-rank true = refl
  route_order known new false false false false false false by-set of-rank false = refl

-- a table with its first n values given is full if n is its length or more
full_by_count : {A : Type 0} (n size : ℕ) (values : List A) → length values ≡ size → leb size n ≡ leb size (length (take n values))
full_by_count n size values whole =
    let taken = length-take n values in
    split n size
    (λ less. lt-leb size n less ∙ sym (lt-leb size (length (take n values)) (omega arith)))
    (λ more. le-leb size n more ∙ sym (le-leb size (length (take n values)) (omega arith)))

set_full_lem : (plan : Plan) → Sound plan → (those : ℕ) → leb 8 (set_at plan those).count ≡ set_full plan those
set_full_lem plan sound those =
    let s = set_at plan those in
    split those 8
    (λ h. full_by_count s.count 8 s.links (sound.eight_places those h))
    (λ h.
    ap (λ (one : LinkSet). leb 8 one.count) (get_or-eq_default plan.sets absent_set {n = those} (omega (arith, sound.eight_sets)))
    ∙ sym (ap (λ (one : LinkSet). leb 8 (length (take one.count one.links))) (get_or-eq_default plan.sets absent_set {n = those} (omega (arith, sound.eight_sets)))))

destinations_full_lem : (plan : Plan) → Sound plan → leb 64 plan.count ≡ leb 64 (length (destinations_of plan))
destinations_full_lem plan sound =
    let taken = length-take (given plan) plan.destinations in
    split plan.count 64
    (λ less. lt-leb 64 plan.count less ∙ sym (lt-leb 64 (length (destinations_of plan)) (omega (arith, sound.all_destinations))))
    (λ more. le-leb 64 plan.count more ∙ sym (le-leb 64 (length (destinations_of plan)) (omega (arith, sound.all_destinations))))

-- `node`, `set`, `link`
module _ (plan : Plan) (a b : ℕ) where
  pub node_fault : fault_of (add_node plan a b) ≡ first (row 21 (ltb 16383 a) ∷ row 21 (ltb 3 b) ∷ row 22 (node_given plan) ∷ [])
  node_fault = node_order plan _ (ltb 16383 a) (ltb 3 b) plan.given

  pub set_fault : (fault_of (add_set plan a b))
      ≡ first (row 21 (ltb 7 a) ∷ row 21 (ltb 16383 b) ∷ row 22 (set_given plan a) ∷ row 22 (adjacent_given plan b) ∷ row 22 (is_ours plan b) ∷ [])
  set_fault = set_order plan _ (ltb 7 a) (ltb 16383 b) (set_given plan a) (adjacent_given plan b) (is_ours plan b)

  pub link_fault : Sound plan → (c : ℕ) → fault_of (add_link plan a b c)
      ≡ first (row 21 (ltb 31 a) ∷ row 21 (ltb 7 b) ∷ row 21 (ltb 15 c) ∷ row 23 (not (set_given plan b)) ∷ row 22 (link_given plan a) ∷ row 22 (slc_given plan b c) ∷ row 24 (set_full plan b) ∷ [])
  link_fault sound c =
      let rows : Bool → List Row =
      λ full. row 21 (ltb 31 a) ∷ row 21 (ltb 7 b) ∷ row 21 (ltb 15 c) ∷ row 23 (not (set_given plan b)) ∷ row 22 (link_given plan a) ∷ row 22 (slc_given plan b c) ∷ row 24 full ∷ []
      in
      link_order plan _ (ltb 31 a) (ltb 7 b) (ltb 15 c) (not (set_given plan b)) (link_given plan a) (slc_given plan b c) (leb 8 (set_at plan b).count)
      ∙ ap (λ (t : Bool). first (rows t)) (set_full_lem plan sound b)

-- what a sound plan says of a destination, by the search that the plan is built with
module _ (plan : Plan) (sound : Sound plan) (code : ℕ) where
  -- a test of the destination with that code
  by_search : (test : Destination → Bool) → one (λ (d : Destination). eqb d.code code && test d) (destinations_of plan)
      ≡ is_found plan code && test (destination_at plan (place_of plan code))
  by_search test =
      let all : Destination → Bool = λ d. eqb d.code code && test d in
      let of_code : (d : Destination) → all d ≡ true → d.code ≡ code = λ d e. eqb-true d.code code ((and-eq-true_iff (eqb d.code code) (test d)).0 e).0 in
      let there = destination_at plan (place_of plan code) in
      cases (is_found plan code)
      (λ found.
      found_one plan sound code all of_code found
      ∙ ap (λ (t : Bool). t && test there) (eq-eqb there.code code (found_stands plan sound code found).has_code)
      ∙ ap (λ (t : Bool). t && test there) (sym found))
      (λ missing. missing_one plan sound code all of_code missing ∙ ap (λ (t : Bool). t && test there) (sym missing))

  is_given : destination_given plan code ≡ is_found plan code
  is_given =
      let there = destination_at plan (place_of plan code) in
      cases (is_found plan code)
      (λ found.
      found_one plan sound code (λ (d : Destination). eqb d.code code) (λ d. eqb-true d.code code) found
      ∙ eq-eqb there.code code (found_stands plan sound code found).has_code
      ∙ sym found)
      (λ missing. missing_one plan sound code (λ (d : Destination). eqb d.code code) (λ d. eqb-true d.code code) missing ∙ sym missing)

  -- `route`
  pub route_fault : (b c : ℕ) → fault_of (add_route plan code b c)
      ≡ first (row 21 (ltb 16383 code) ∷ row 21 (ltb 7 b) ∷ row 21 (ltb 3 c) ∷ row 23 (not (set_given plan b)) ∷ row 22 (is_ours plan code) ∷ row 22 (route_by_set plan code b) ∷ row 22 (route_of_rank plan code c) ∷ row 24 (destinations_full plan code) ∷ [])
  route_fault b c =
      let routes = routes_of plan (place_of plan code) in
      let rows : Bool → Bool → Bool → Bool → List Row =
      λ by-set of-rank found full. row 21 (ltb 16383 code) ∷ row 21 (ltb 7 b) ∷ row 21 (ltb 3 c) ∷ row 23 (not (set_given plan b)) ∷ row 22 (is_ours plan code) ∷ row 22 by-set ∷ row 22 of-rank ∷ row 24 (not found && full) ∷ []
      in
      route_order plan _ _ (ltb 16383 code) (ltb 7 b) (ltb 3 c) (not (set_given plan b)) (is_ours plan code) (is_found plan code) (set_taken routes b) (get_or routes c absent_route).given (leb 64 plan.count)
      ∙ ap (λ (t : Bool). first (rows t (is_found plan code && (get_or routes c absent_route).given) (is_found plan code) (leb 64 plan.count))) (sym (by_search (λ d. set_taken d.routes b)))
      ∙ ap (λ (t : Bool). first (rows (route_by_set plan code b) t (is_found plan code) (leb 64 plan.count))) (sym (by_search (λ d. (get_or d.routes c absent_route).given)))
      ∙ ap (λ (t : Bool). first (rows (route_by_set plan code b) (route_of_rank plan code c) t (leb 64 plan.count))) (sym is_given)
      ∙ ap (λ (t : Bool). first (rows (route_by_set plan code b) (route_of_rank plan code c) (destination_given plan code) t)) (destinations_full_lem plan sound)
