-- Facts on the walk over ranks: what a route that is passed over or taken says of the link. Assumes nothing.
use mathlib.Core.Path.{◌≡◌, refl, sym, ap, ◌∙◌}
use mathlib.Core.Bool.{Bool, true, false, cond, not, ◌&&◌, false≢true}
use mathlib.Core.List.{List, [], ◌∷◌}
use Prim.Native.Nat.{ℕ, ◌+◌, ◌≤◌, ◌<◌}
use native.Mathlib.Numerals.{add-one}
use lib.Dec.{ltb}
use lib.ListN.{length, get_or, drop, drop_of_length-le, get_or-eq_default}
use lib.Seq.{drop-cons}
use borrow.Author.Tests.{lt-ltb, le-ltb}
use borrow.Table.Steps.{cases}
use Rattle.plan.specs.declared.data.Destination.{Destination}
use Rattle.plan.specs.declared.data.Plan.{Plan}
use Rattle.plan.specs.declared.data.Route.{Route}
use Rattle.plan.specs.Data.{absent_route, links_of}
use Rattle.route_choice.specs.Which.{none, Proper, of_sets, in_turn, some_serves, link_of_set, usable, link_from, chosen}
use Rattle.route_choice.proofs.Serving.{some_round, serving_exactly}

-- a route that isn't usable stays so where its set doesn't come to serve, and a usable one where its set still does
unusable_with : (given unmarked some some' : Bool) → (some ≡ false → some' ≡ false)
    → given && (unmarked && some) ≡ false → given && (unmarked && some') ≡ false
unusable_with false unmarked some some' less e = refl
unusable_with true false some some' less e = refl
unusable_with true true some some' less e = less e

usable_with : (given unmarked some some' : Bool) → (some ≡ true → some' ≡ true)
    → given && (unmarked && some) ≡ true → given && (unmarked && some') ≡ true
usable_with false unmarked some some' more e = e
usable_with true false some some' more e = e
usable_with true true some some' more e = more e

module _ (serves serves' marked : ℕ → Bool) (plan : Plan) (rank : ℕ) (route : Route) where
  pub stays_unusable :
      (some_serves serves (links_of plan route.set) ≡ false → some_serves serves' (links_of plan route.set) ≡ false)
      → usable serves marked plan rank route ≡ false → usable serves' marked plan rank route ≡ false
  stays_unusable less e = unusable_with route.given (not (marked rank)) _ _ less e

  pub stays_usable :
      (some_serves serves (links_of plan route.set) ≡ true → some_serves serves' (links_of plan route.set) ≡ true)
      → usable serves marked plan rank route ≡ true → usable serves' marked plan rank route ≡ true
  stays_usable more e = usable_with route.given (not (marked rank)) _ _ more e

module _ (serves marked : ℕ → Bool) (plan : Plan) where
  -- past the last destination there is no link
  pub no_destination : (destination sls : ℕ) → length plan.destinations ≤ destination
      → none ≡ chosen serves marked plan destination sls
  unfolding link_from
  no_destination destination sls past =
      let nowhere : Destination = record { code = 0; routes = [] } in
      sym
      (ap
      (λ (there : Destination). link_from serves marked plan sls 0 there.routes)
      (get_or-eq_default plan.destinations nowhere {n = destination} past))

  -- of the plan only the sets count
  pub sets_alone : (sls rank : ℕ) (routes : List Route)
      → link_from serves marked (of_sets plan.sets) sls rank routes ≡ link_from serves marked plan sls rank routes
  unfolding link_from
  sets_alone sls rank [] = refl
  sets_alone sls rank (route ∷ worse) =
      ap
      (cond (usable serves marked plan rank route) (link_of_set serves (links_of plan route.set) sls))
      (sets_alone sls (rank + 1) worse)

  -- a route is usable exactly if one of the links that it has to go round serves
  pub usable_turn : (rank : ℕ) (route : Route)
      → usable serves marked plan rank route ≡ some_serves serves (in_turn plan route (marked rank))
  unfolding some_serves
  usable_turn rank route =
      cases route.given
      (λ e. cases (marked rank) (λ f. simp (e, f)) (λ f. simp (e, f)))
      (λ e. simp e)

  -- going round them finds a link exactly if the route is usable
  pub usable_exactly : Proper serves → (rank : ℕ) (route : Route) (sls : ℕ)
      → ltb (link_of_set serves (in_turn plan route (marked rank)) sls) none ≡ usable serves marked plan rank route
  usable_exactly proper rank route sls =
      simp (serving_exactly serves proper, some_round serves) (sym (usable_turn rank route))

  -- a usable route has all links of its set to go round
  pub usable_all : (rank : ℕ) (route : Route) → usable serves marked plan rank route ≡ true
      → in_turn plan route (marked rank) ≡ links_of plan route.set
  usable_all rank route ready =
      cases route.given
      (λ e. cases (marked rank) (λ f. absurd (false≢true (simp (e, f) at ready))) (λ f. simp (e, f)))
      (λ e. absurd (false≢true (simp e at ready)))

  -- the links of its set hold one that serves
  pub usable_some : (rank : ℕ) (route : Route) → usable serves marked plan rank route ≡ true
      → some_serves serves (links_of plan route.set) ≡ true
  usable_some rank route ready =
      ap (some_serves serves) (sym (usable_all rank route ready)) ∙ sym (usable_turn rank route) ∙ ready

  -- and the rule yields it
  pub usable_link : Proper serves → (rank : ℕ) (route : Route) (sls : ℕ) → usable serves marked plan rank route ≡ true
      → ltb (link_of_set serves (links_of plan route.set) sls) none ≡ true
  usable_link proper rank route sls ready =
      ap (λ (links : List ℕ). ltb (link_of_set serves links sls) none) (sym (usable_all rank route ready))
      ∙ usable_exactly proper rank route sls
      ∙ ready

  module _ (sls : ℕ) (routes : List Route) where
    -- what is left of the walk from a rank on
    abbrev pub onward : ℕ → ℕ
    onward rank = link_from serves marked plan sls rank (drop rank routes)

    pub at_rank : (rank : ℕ) → rank < length routes
        → onward rank
        ≡ cond (usable serves marked plan rank (get_or routes rank absent_route))
        (link_of_set serves (links_of plan (get_or routes rank absent_route).set) sls)
        (onward (rank + 1))
    unfolding link_from
    at_rank rank h = simp (add-one, drop-cons routes rank absent_route h)

    -- past the last rank there is no link
    pub past_ranks : (rank : ℕ) → length routes ≤ rank → none ≡ onward rank
    unfolding link_from
    past_ranks rank h = simp (drop_of_length-le routes {i = rank} h)

    module _ (proper : Proper serves) (rank link : ℕ) (ranked : rank < length routes)
        (found : link ≡ link_of_set serves (in_turn plan (get_or routes rank absent_route) (marked rank)) sls) where
      usable_now : ltb link none ≡ usable serves marked plan rank (get_or routes rank absent_route)
      usable_now = ap (λ (l : ℕ). ltb l none) found ∙ usable_exactly proper rank (get_or routes rank absent_route) sls

      -- a route whose set yields no link is passed over
      pub rank_passed : none ≤ link → onward (rank + 1) ≡ onward rank
      rank_passed h = sym (at_rank rank ranked ∙ simp (sym usable_now, le-ltb link none h))

      -- the link of the first that yields one is taken
      pub rank_taken : link < none → link ≡ onward rank
      rank_taken h =
          let ready = sym usable_now ∙ lt-ltb link none h in
          found
          ∙ ap (λ (links : List ℕ). link_of_set serves links sls) (usable_all rank (get_or routes rank absent_route) ready)
          ∙ sym (at_rank rank ranked ∙ simp ready)
