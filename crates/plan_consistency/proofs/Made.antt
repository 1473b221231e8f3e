-- Every plan that a configuration makes is consistent, whatever its text. Assumes nothing.
use mathlib.Core.Path.{◌≡◌, refl, sym, ap, subst, ◌∙◌}
use mathlib.Core.Bool.{Bool, true, false, not, ◌||◌, true≢false}
use mathlib.Core.List.{List}
use Prim.Native.Nat.{ℕ, ◌≤◌}
use native.Mathlib.Omega.{arith}
use lib.Dec.{ltb, leb, eqb}
use lib.ListN.{get_or}
use borrow.Author.Tests.{ltb-false, leb-false, eqb-false}
use Rattle.plan.specs.declared.data.Plan.{Plan}
use Rattle.plan.specs.Data.{absent_route, set_at, link_at, links_of, routes_of}
use Rattle.plan.specs.Find.{place_of, is_found}
use Rattle.plan.specs.Sound.{Sound, link_in}
use Rattle.plan.proofs.Split.{split, both_false}
use Rattle.plan_repeats.specs.Taken.{adjacent_taken, slc_taken, set_taken}
use Rattle.plan_routes.specs.RouteLines.{route_taken}
use Rattle.plan_keywords.specs.declared.Word.{Word}
use Rattle.plan_keywords.specs.declared.Word.TheVariants.{Node, Set, Link, Route}
use Rattle.plan_configuration.specs.Configure.{is_node, add_by, configured}
use Rattle.plan_configuration.proofs.Made.{configured_sound}
use Rattle.plan_consistency.specs.Consistent.{InItsSet, Consistent}
use Rattle.plan_consistency.proofs.Fits.{InSet, Fits, node_alone, empty_fits}
use Rattle.plan_consistency.proofs.Leaves.{Leaves, choose, refuse, put_in, each_made}
use Rattle.plan_consistency.proofs.Sets.{set_fits}
use Rattle.plan_consistency.proofs.Links.{link_fits}
use Rattle.plan_consistency.proofs.Routes.{known_fits, new_fits}
use Rattle.plan_building.specs.declared.Fault.{Fault}
use Rattle.plan_building.specs.declared.Fault.TheVariants.{OutOfRange, Repeat, NotGiven, Full}
use Rattle.std.specs.Prelude.{Some, Err}

known_true : (b : Bool) → not b ≡ false → b ≡ true
known_true true e = refl
known_true false e = absurd (true≢false e)

module _ (plan : Plan) (sound : Sound plan) (fits : Fits plan) where
  told : (fault : Fault) → Leaves Fits plan (Err fault)
  told = refuse Fits plan fits

  by_word : (word : Word) → (is_node (Some word) ≡ false → plan.given ≡ true) → (a b c : ℕ) → Leaves Fits plan (add_by word plan a b c)
  by_word Node has code ni c =
      choose Fits plan (ltb 16383 code || ltb 3 ni) _ _ (λ e. told OutOfRange)
      (λ e. choose Fits plan plan.given _ _ (λ f. told Repeat)
      (λ f.
      let empty = fits.node_first f in
      put_in Fits plan _ (node_alone _ (ap (λ (p : Plan). p.sets) empty) (ap (λ (p : Plan). p.links) empty) (ap (λ (p : Plan). p.count) empty) (λ none. absurd (true≢false none)))))
  by_word Set has number adjacent c =
      choose Fits plan (ltb 7 number || ltb 16383 adjacent) _ _ (λ e. told OutOfRange)
      (λ e.
      let within : number ≤ 7 = ltb-false 7 number (both_false (ltb 7 number) (ltb 16383 adjacent) e).0 in
      choose Fits plan ((set_at plan number).given || (adjacent_taken plan.sets adjacent || eqb adjacent plan.code)) _ _ (λ f. told Repeat)
      (λ f.
      let new = both_false (set_at plan number).given (adjacent_taken plan.sets adjacent || eqb adjacent plan.code) f in
      let free = both_false (adjacent_taken plan.sets adjacent) (eqb adjacent plan.code) new.1 in
      put_in Fits plan _ (set_fits plan sound fits number adjacent (omega arith) (has refl) new.0 free.0 (eqb-false adjacent plan.code free.1))))
  by_word Link has number those slc =
      choose Fits plan (ltb 31 number || (ltb 7 those || ltb 15 slc)) _ _ (λ e. told OutOfRange)
      (λ e.
      let range = both_false (ltb 31 number) (ltb 7 those || ltb 15 slc) e in
      let in_table : number ≤ 31 = ltb-false 31 number range.0 in
      let in_sets : those ≤ 7 = ltb-false 7 those (both_false (ltb 7 those) (ltb 15 slc) range.1).0 in
      choose Fits plan (not (set_at plan those).given) _ _ (λ f. told NotGiven)
      (λ f. choose Fits plan ((link_at plan number).given || slc_taken plan (links_of plan those) slc) _ _ (λ g. told Repeat)
      (λ g.
      let new = (both_false (link_at plan number).given (slc_taken plan (links_of plan those) slc) g).0 in
      choose Fits plan (leb 8 (set_at plan those).count) _ _ (λ full. told Full)
      (λ room.
      put_in Fits plan _
      (link_fits plan sound fits number those slc (omega arith) (omega arith) (has refl) (known_true (set_at plan those).given f) new
      (leb-false 8 (set_at plan those).count room))))))
  by_word Route has destination those rank =
      let place = place_of plan destination in
      choose Fits plan (ltb 16383 destination || (ltb 7 those || ltb 3 rank)) _ _ (λ e. told OutOfRange)
      (λ e.
      let range = both_false (ltb 7 those) (ltb 3 rank) (both_false (ltb 16383 destination) (ltb 7 those || ltb 3 rank) e).1 in
      let in-ranks : rank ≤ 3 = ltb-false 3 rank range.1 in
      choose Fits plan (not (set_at plan those).given) _ _ (λ f. told NotGiven)
      (λ f. choose Fits plan (eqb destination plan.code) _ _ (λ g. told Repeat)
      (λ g.
      let known = known_true (set_at plan those).given f in
      let differs = eqb-false destination plan.code g in
      choose Fits plan (is_found plan destination) _ _
      (λ found. choose Fits plan (route_taken (routes_of plan place) those rank) _ _ (λ taken. told Repeat)
      (λ free.
      put_in Fits plan _
      (known_fits plan sound fits destination those rank (omega arith) (has refl) known differs found
      (both_false (set_taken (routes_of plan place) those) (get_or (routes_of plan place) rank absent_route).given free).0)))
      (λ missing. choose Fits plan (leb 64 plan.count) _ _ (λ full. told Full)
      (λ room. put_in Fits plan _ (new_fits plan sound fits destination those rank (omega arith) (has refl) known differs (leb-false 64 plan.count room)))))))

-- a plan that is sound and fits is consistent
module _ (plan : Plan) (sound : Sound plan) (fits : Fits plan) where
  in_its_set : (link : ℕ) → (link_at plan link).given ≡ true → InItsSet plan link
  in_its_set link e =
      let stands = fits.standing link e in
      record { set_given = stands.is_given; place = stands.place; within = stands.within; there = stands.there }

  slcs : (link other : ℕ) → (link_at plan link).given ≡ true → (link_at plan other).given ≡ true
      → (link_at plan link).set ≡ (link_at plan other).set → (link_at plan link).slc ≡ (link_at plan other).slc → link ≡ other
  slcs link other e f one_set one-slc =
      let s = (link_at plan other).set in
      let here : InSet (set_at plan s) link = subst (λ (n : ℕ). InSet (set_at plan n) link) one_set (fits.standing link e) in
      let there : InSet (set_at plan s) other = fits.standing other f in
      let i : ℕ = here.place in
      let j : ℕ = there.place in
      let slc-i : (link_at plan (link_in plan s i)).slc ≡ (link_at plan link).slc = ap (λ (n : ℕ). (link_at plan n).slc) here.there in
      let slc-j : (link_at plan (link_in plan s j)).slc ≡ (link_at plan other).slc = ap (λ (n : ℕ). (link_at plan n).slc) there.there in
      let same : i ≡ j =
      split i j
      (λ less. absurd (omega (arith, sound.slc_order s i j less there.within, slc-i, slc-j, one-slc)))
      (λ least.
      split j i
      (λ more. absurd (omega (arith, sound.slc_order s j i more here.within, slc-i, slc-j, one-slc)))
      (λ most. omega arith))
      in
      sym here.there ∙ ap (link_in plan s) same ∙ there.there

  consistent : Consistent plan
  consistent =
      record {
        node_first = fits.node_first;
        links_in_sets = in_its_set;
        slcs_apart = slcs;
        adjacent_apart = fits.apart.once;
        adjacent_not_ours = fits.apart.not_ours;
        routes_by_given = λ destination rank h. (fits.served destination h).by_given rank;
        routes_apart = λ destination rank other h. (fits.served destination h).by_once rank other;
        destination_not_ours = λ destination h. (fits.served destination h).other;
      }

pub configured_consistent : (text : List ℕ) → Consistent (configured text).plan
configured_consistent text = consistent (configured text).plan (configured_sound text) (each_made Fits empty_fits by_word text)
