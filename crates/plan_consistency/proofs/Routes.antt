-- A route line put into a plan that fits leaves one that does. Assumes nothing.
use mathlib.Core.Path.{◌≡◌, refl, sym, ap, subst, ◌∙◌}
use mathlib.Core.Bool.{Bool, true, false, ◌&&◌, false≢true}
use mathlib.Core.List.{List}
use Prim.Native.Nat.{ℕ, ◌<◌}
use native.Mathlib.Omega.{arith}
use lib.Dec.{eqb}
use lib.ListN.{length, get_or, set, replicate, get_or-eq_default}
use lib.Seq.{get_or-set_same, get_or-set_other}
use borrow.Author.Tests.{eqb-false}
use Rattle.plan.specs.declared.data.Plan.{Plan}
use Rattle.plan.specs.declared.data.LinkSet.{LinkSet}
use Rattle.plan.specs.declared.data.Route.{Route}
use Rattle.plan.specs.declared.data.Destination.{Destination}
use Rattle.plan.specs.Data.{absent_set, absent_route, absent_destination, set_at, routes_of}
use Rattle.plan.specs.Find.{given, place_of, is_found}
use Rattle.plan.specs.Sound.{Sound}
use Rattle.plan.proofs.Found.{parted, found_stands}
use Rattle.plan.proofs.Split.{split, alike}
use Rattle.plan_repeats.specs.Search.{one}
use Rattle.plan_repeats.specs.Taken.{set_taken}
use Rattle.plan_repeats.proofs.Searches.{none_passes}
use Rattle.plan_entries.proofs.InOrder.{inserted_each}
use Rattle.plan_routes.specs.RouteLines.{with_route, known_route, new_route}
use Rattle.plan_consistency.proofs.Fits.{Served, Fits, same_all}

-- a route more of a destination, by a given set that none of its routes goes by
module _ (code destination those rank : ℕ) (sets : List LinkSet) (routes : List Route) (whole : length routes ≡ 4) (in-ranks : rank < 4)
    (known : (get_or sets those absent_set).given ≡ true) (free : set_taken routes those ≡ false)
    (served : Served code sets (record { code = destination; routes = routes })) where
  abbrev route : Route
  route = record { given = true; set = those }

  abbrev more : List Route
  more = with_route routes those rank

  here : get_or more rank absent_route ≡ route
  here = get_or-set_same routes rank route absent_route (omega arith)

  there : (r : ℕ) → (r ≡ rank → ⊥) → get_or more r absent_route ≡ get_or routes r absent_route
  there r e = get_or-set_other routes rank r route absent_route e

  -- no route that was given goes by that set
  not_taken : (r : ℕ) → (get_or routes r absent_route).given ≡ true → (get_or routes r absent_route).set ≡ those → ⊥
  not_taken r e same =
      let inside : r < length routes =
      split r (length routes) (λ h. h)
      (λ h. absurd (false≢true (sym (ap (λ (one : Route). one.given) (get_or-eq_default routes absent_route {n = r} h)) ∙ e)))
      in
      let fails = none_passes (λ (one : Route). one.given && eqb one.set those) absent_route routes free r inside in
      eqb-false (get_or routes r absent_route).set those (sym (ap (λ (t : Bool). t && eqb (get_or routes r absent_route).set those) e) ∙ fails) same

  -- a route is the new one, or was given
  either : {P : Type 0} (r : ℕ) → (get_or more r absent_route).given ≡ true
      → (r ≡ rank → (get_or more r absent_route).set ≡ those → P)
      → ((get_or routes r absent_route).given ≡ true → (get_or more r absent_route).set ≡ (get_or routes r absent_route).set → P)
      → P
  either r e new_one old-one =
      alike r rank
      (λ same. new_one same (ap (λ (n : ℕ). (get_or more n absent_route).set) same ∙ ap (λ (one : Route). one.set) here))
      (λ differs. old-one (ap (λ (one : Route). one.given) (sym (there r differs)) ∙ e) (ap (λ (one : Route). one.set) (there r differs)))

  pub served_more : Served code sets (record { code = destination; routes = more })
  served_more =
      record {
        other = served.other;
        by_given =
            λ r e.
            either r e
            (λ new set_new. ap (λ (s : ℕ). (get_or sets s absent_set).given) set_new ∙ known)
            (λ old set-old. ap (λ (s : ℕ). (get_or sets s absent_set).given) set-old ∙ served.by_given r old);
        by_once =
            λ r o e f same.
            either r e
            (λ r-new r-set.
            either o f
            (λ o-new o-set. r-new ∙ sym o-new)
            (λ o-old o-set. absurd (not_taken o o-old (sym o-set ∙ sym same ∙ r-set))))
            (λ r-old r-set.
            either o f
            (λ o-new o-set. absurd (not_taken r r-old (sym r-set ∙ same ∙ o-set)))
            (λ o-old o-set. served.by_once r o r-old o-old (sym r-set ∙ same ∙ o-set)));
      }

-- a destination without routes
no_routes : (code destination : ℕ) (sets : List LinkSet) → (destination ≡ code → ⊥) → Served code sets (record { code = destination; routes = replicate 4 absent_route })
no_routes code destination sets differs =
    let none : (r : ℕ) → (get_or (replicate 4 absent_route) r absent_route).given ≡ true → ⊥ =
    λ r e. false≢true (sym (same_all 4 absent_route absent_route (λ one. one.given ≡ false) refl refl r) ∙ e)
    in
    record { other = differs; by_given = λ r e. absurd (none r e); by_once = λ r o e f same. absurd (none r e) }

none_taken : (those : ℕ) → set_taken (replicate 4 absent_route) those ≡ false
unfolding one
none_taken those = refl

module _ (plan : Plan) (sound : Sound plan) (fits : Fits plan) (destination those rank : ℕ) (in-ranks : rank < 4)
    (has : plan.given ≡ true) (known : (set_at plan those).given ≡ true) (differs : destination ≡ plan.code → ⊥) where
  abbrev place : ℕ
  place = place_of plan destination

  -- a route more of a destination that is found
  pub known_fits : is_found plan destination ≡ true → set_taken (routes_of plan place) those ≡ false → Fits (known_route plan place destination those rank)
  known_fits found free =
      let stands = found_stands plan sound destination found in
      let next : Destination = record { code = destination; routes = with_route (routes_of plan place) those rank } in
      let old : Served plan.code plan.sets (record { code = destination; routes = routes_of plan place }) =
      let before = fits.served place stands.within in
      record { other = differs; by_given = before.by_given; by_once = before.by_once }
      in
      let new = served_more plan.code destination those rank plan.sets (routes_of plan place) (sound.four_ranks place (omega (arith, stands.within))) in-ranks known free old in
      record {
        node_first = λ e. absurd (false≢true (sym e ∙ has));
        standing = fits.standing;
        apart = fits.apart;
        served =
            λ i h.
            alike i place
            (λ e.
            subst (Served plan.code plan.sets)
            (sym
            (ap (λ (n : ℕ). get_or (set plan.destinations place next) n absent_destination) e
            ∙ get_or-set_same plan.destinations place next absent_destination (omega (arith, sound.all_destinations, stands.within))))
            new)
            (λ e.
            subst (Served plan.code plan.sets) (sym (get_or-set_other plan.destinations place i next absent_destination e)) (fits.served i h));
      }

  -- the first route of one that isn't
  pub new_fits : plan.count < 64 → Fits (new_route plan place destination those rank)
  new_fits room =
      let next : Destination = record { code = destination; routes = with_route (replicate 4 absent_route) those rank } in
      let new = served_more plan.code destination those rank plan.sets (replicate 4 absent_route) refl in-ranks known (none_taken those) (no_routes plan.code destination plan.sets differs) in
      record {
        node_first = λ e. absurd (false≢true (sym e ∙ has));
        standing = fits.standing;
        apart = fits.apart;
        served =
            λ i h.
            inserted_each absent_destination plan.destinations (given plan) place next (omega (arith, sound.all_destinations)) (parted plan sound destination).within
            (Served plan.code plan.sets)
            new
            fits.served
            i
            (omega arith);
      }
