-- Every number in a plan that a configuration makes is in its range, whatever the text. Assumes nothing.
use mathlib.Core.Path.{◌≡◌, sym, ap, subst, ◌∙◌}
use mathlib.Core.Bool.{true, not, ◌||◌}
use mathlib.Core.List.{List}
use Prim.Native.Nat.{ℕ, ◌≤◌, ◌<◌}
use native.Mathlib.Omega.{arith}
use lib.Dec.{ltb, leb, eqb}
use lib.ListN.{length, get_or, set, replicate, get_or-eq_default}
use lib.Seq.{get_or-set_same, get_or-set_other}
use borrow.Author.Tests.{ltb-false, leb-false}
use Rattle.plan.specs.declared.data.Plan.{Plan}
use Rattle.plan.specs.declared.data.Destination.{Destination}
use Rattle.plan.specs.Data.{absent_set, absent_link, absent_route, absent_destination, empty_set, empty_destination, empty_plan, set_at, link_at, links_of, routes_of}
use Rattle.plan.specs.Find.{place_of, is_found}
use Rattle.plan.specs.Sound.{Sound}
use Rattle.plan.proofs.Found.{parted, found_stands}
use Rattle.plan.proofs.Split.{split, alike, both_false}
use Rattle.plan_repeats.specs.Taken.{adjacent_taken, slc_taken}
use Rattle.plan_entries.specs.Insert.{inserted}
use Rattle.plan_entries.proofs.InOrder.{inserted_each}
use Rattle.plan_entries.proofs.Inserted.{inserted_length}
use Rattle.plan_sets.specs.SetLines.{new_set}
use Rattle.plan_routes.specs.RouteLines.{with_route, route_taken}
use Rattle.plan_keywords.specs.declared.Word.{Word}
use Rattle.plan_keywords.specs.declared.Word.TheVariants.{Node, Set, Link, Route}
use Rattle.plan_configuration.specs.Configure.{add_by, configured}
use Rattle.plan_consistency.specs.Consistent.{InRange}
use Rattle.plan_consistency.proofs.Fits.{same_all}
use Rattle.plan_consistency.proofs.Leaves.{Leaves, choose, refuse, put_in, each_made}
use Rattle.plan_building.specs.declared.Fault.{Fault}
use Rattle.plan_building.specs.declared.Fault.TheVariants.{OutOfRange, Repeat, NotGiven, Full}
use Rattle.std.specs.Prelude.{Err}

-- what holds of each value and of a new one holds of each with the new one in its place
set_each : {A : Type 0} (P : A → Type 0) (values : List A) (i : ℕ) (value none : A) → i < length values → P value
    → ((j : ℕ) → P (get_or values j none)) → (j : ℕ) → P (get_or (set values i value) j none)
set_each P values i value none inside new old j =
    alike j i
    (λ e. subst P (sym (ap (λ (n : ℕ). get_or (set values i value) n none) e ∙ get_or-set_same values i value none inside)) new)
    (λ e. subst P (sym (get_or-set_other values i j value none e)) (old j))

-- and with the new one put in among them
inserted_all : (P : Destination → Type 0) (values : List Destination) (place : ℕ) (value : Destination) → length values ≡ 64 → place ≤ 63 → P value → P absent_destination
    → ((j : ℕ) → P (get_or values j absent_destination)) → (j : ℕ) → P (get_or (inserted place value values) j absent_destination)
inserted_all P values place value whole within new past old j =
    split j 64
    (λ h. inserted_each absent_destination values 63 place value (omega arith) within P new (λ i k. old i) j (omega arith))
    (λ h. subst P (sym (get_or-eq_default (inserted place value values) absent_destination {n = j} (omega (arith, inserted_length place value values)))) past)

empty_range : InRange empty_plan
empty_range =
    record {
      code_range = omega arith;
      ni_range = omega arith;
      adjacent_range = same_all 8 empty_set absent_set (λ those. those.adjacent ≤ 16383) (omega arith) (omega arith);
      slc_range = same_all 32 absent_link absent_link (λ link. link.slc ≤ 15) (omega arith) (omega arith);
      destination_range = same_all 64 empty_destination absent_destination (λ d. d.code ≤ 16383) (omega arith) (omega arith);
    }

module _ (plan : Plan) (sound : Sound plan) (range : InRange plan) where
  told : (fault : Fault) → Leaves InRange plan (Err fault)
  told = refuse InRange plan range

  by_word : (word : Word) (a b c : ℕ) → Leaves InRange plan (add_by word plan a b c)
  by_word Node code ni c =
      choose InRange plan (ltb 16383 code || ltb 3 ni) _ _ (λ e. told OutOfRange)
      (λ e.
      let within = both_false (ltb 16383 code) (ltb 3 ni) e in
      choose InRange plan plan.given _ _ (λ f. told Repeat)
      (λ f.
      put_in InRange plan _
      (record {
        code_range = ltb-false 16383 code within.0;
        ni_range = ltb-false 3 ni within.1;
        adjacent_range = range.adjacent_range;
        slc_range = range.slc_range;
        destination_range = range.destination_range;
      })))
  by_word Set number adjacent c =
      choose InRange plan (ltb 7 number || ltb 16383 adjacent) _ _ (λ e. told OutOfRange)
      (λ e.
      let within = both_false (ltb 7 number) (ltb 16383 adjacent) e in
      let inside : number ≤ 7 = ltb-false 7 number within.0 in
      choose InRange plan ((set_at plan number).given || (adjacent_taken plan.sets adjacent || eqb adjacent plan.code)) _ _ (λ f. told Repeat)
      (λ f.
      put_in InRange plan _
      (record {
        code_range = range.code_range;
        ni_range = range.ni_range;
        adjacent_range =
            set_each (λ those. those.adjacent ≤ 16383) plan.sets number (new_set adjacent) absent_set (omega (arith, sound.eight_sets))
            (ltb-false 16383 adjacent within.1)
            range.adjacent_range;
        slc_range = range.slc_range;
        destination_range = range.destination_range;
      })))
  by_word Link number those slc =
      choose InRange plan (ltb 31 number || (ltb 7 those || ltb 15 slc)) _ _ (λ e. told OutOfRange)
      (λ e.
      let first = both_false (ltb 31 number) (ltb 7 those || ltb 15 slc) e in
      let others = both_false (ltb 7 those) (ltb 15 slc) first.1 in
      let in_table : number ≤ 31 = ltb-false 31 number first.0 in
      let in_sets : those ≤ 7 = ltb-false 7 those others.0 in
      choose InRange plan (not (set_at plan those).given) _ _ (λ f. told NotGiven)
      (λ f. choose InRange plan ((link_at plan number).given || slc_taken plan (links_of plan those) slc) _ _ (λ g. told Repeat)
      (λ g. choose InRange plan (leb 8 (set_at plan those).count) _ _ (λ full. told Full)
      (λ room.
      put_in InRange plan _
      (record {
        code_range = range.code_range;
        ni_range = range.ni_range;
        adjacent_range = set_each (λ s. s.adjacent ≤ 16383) plan.sets those _ absent_set (omega (arith, sound.eight_sets)) (range.adjacent_range those) range.adjacent_range;
        slc_range =
            set_each (λ link. link.slc ≤ 15) plan.links number (record { given = true; set = those; slc = slc }) absent_link (omega (arith, sound.all_links))
            (ltb-false 15 slc others.1)
            range.slc_range;
        destination_range = range.destination_range;
      })))))
  by_word Route destination those rank =
      let place = place_of plan destination in
      choose InRange plan (ltb 16383 destination || (ltb 7 those || ltb 3 rank)) _ _ (λ e. told OutOfRange)
      (λ e.
      let code : destination ≤ 16383 = ltb-false 16383 destination (both_false (ltb 16383 destination) (ltb 7 those || ltb 3 rank) e).0 in
      choose InRange plan (not (set_at plan those).given) _ _ (λ f. told NotGiven)
      (λ f. choose InRange plan (eqb destination plan.code) _ _ (λ g. told Repeat)
      (λ g. choose InRange plan (is_found plan destination) _ _
      (λ found. choose InRange plan (route_taken (routes_of plan place) those rank) _ _ (λ taken. told Repeat)
      (λ free.
      put_in InRange plan _
      (record {
        code_range = range.code_range;
        ni_range = range.ni_range;
        adjacent_range = range.adjacent_range;
        slc_range = range.slc_range;
        destination_range =
            (set_each (λ d. d.code ≤ 16383) plan.destinations place (record { code = destination; routes = with_route (routes_of plan place) those rank }) absent_destination
            (omega (arith, sound.all_destinations, (found_stands plan sound destination found).within))
            code
            range.destination_range);
      })))
      (λ missing. choose InRange plan (leb 64 plan.count) _ _ (λ full. told Full)
      (λ room.
      let few : plan.count < 64 = leb-false 64 plan.count room in
      put_in InRange plan _
      (record {
        code_range = range.code_range;
        ni_range = range.ni_range;
        adjacent_range = range.adjacent_range;
        slc_range = range.slc_range;
        destination_range =
            (inserted_all (λ d. d.code ≤ 16383) plan.destinations place (record { code = destination; routes = with_route (replicate 4 absent_route) those rank }) sound.all_destinations
            (omega (arith, (parted plan sound destination).within))
            code
            (omega arith)
            range.destination_range);
      }))))))

pub configured_in_range : (text : List ℕ) → InRange (configured text).plan
configured_in_range = each_made InRange empty_range (λ plan sound range word has. by_word plan sound range word)
