-- A search place by place for the first one that passes a test: one law for those of sets, links and routes. Assumes nothing.
use mathlib.Core.Path.{◌≡◌, refl, sym, ap, subst, ◌∙◌}
use mathlib.Core.Bool.{Bool, true, false, cond, ◌&&◌}
use mathlib.Core.List.{List, [], ◌∷◌}
use Prim.Native.Nat.{ℕ, zero, suc, ◌+◌, ◌-◌, ◌≤◌, ◌<◌, zero-le}
use native.Mathlib.Numerals.{add-one}
use native.Mathlib.Omega.{arith}
use lib.Dec.{ltb, eqb}
use lib.ListN.{length, get_or, drop, length-take, drop_of_length-le}
use lib.Seq.{drop-cons, get_or-take}
use borrow.Table.Steps.{cases}
use Rattle.std.specs.Prelude.{Option, position}
use Rattle.std.specs.Option.{unwrap_or}
use Rattle.std.specs.List.{position_from}
use Rattle.std.proofs.lemmas.Iterator.Adapters.{position_from-zero}
use Rattle.plan.specs.declared.data.Plan.{Plan}
use Rattle.plan.specs.declared.data.LinkSet.{LinkSet}
use Rattle.plan.specs.declared.data.Link.{Link}
use Rattle.plan.specs.declared.data.Route.{Route}
use Rattle.plan.specs.Data as Data
use Rattle.plan.proofs.Split.{split}
use Rattle.constants.specs.Constants.{no_link}
use Rattle.lookup.specs.Lookup.{no_set, no_rank, set_from, link_with, by_set, rank_from, all_of}

-- what a search yields from each of n places on: the value at the first that passes, and behind the last none
pub record Walk (test : ℕ → Bool) (value : ℕ → ℕ) (none n : ℕ) (left : ℕ → ℕ) : Type 0 where
  pub step : (i : ℕ) → i < n → left i ≡ cond (test i) (value i) (left (i + 1))
  pub end : (i : ℕ) → n ≤ i → left i ≡ none

-- a loop over n places has passed those below i
pub record Passed (test : ℕ → Bool) (n i : ℕ) : Type 0 where
  pub within : i ≤ n
  pub failed : (k : ℕ) → k < i → test k ≡ false

module _ (test : ℕ → Bool) (n : ℕ) where
  pub passed_none : Passed test n 0
  passed_none = record { within = zero-le; failed = λ k h. absurd (omega arith) }

  pub passed_one : (i : ℕ) → Passed test n i → i < n → test i ≡ false → Passed test n (i + 1)
  passed_one i so_far h e =
      record {
        within = omega arith;
        failed = λ k l. split k i (so_far.failed k) (λ last. ap test (omega arith) ∙ e);
      }

module _ {test : ℕ → Bool} {value : ℕ → ℕ} {none n : ℕ} {left : ℕ → ℕ} (walk : Walk test value none n left) where
  on : (i : ℕ) → i < n → test i ≡ false → left i ≡ left (i + 1)
  on i h e = simp e at (walk.step i h)

  hit : (i : ℕ) → i < n → test i ≡ true → left i ≡ value i
  hit i h e = simp e at (walk.step i h)

  -- what is left behind the places that failed is what the whole yields
  left_of_all : (i : ℕ) → i ≤ n → ((k : ℕ) → k < i → test k ≡ false) → left i ≡ left 0
  left_of_all zero h failed = refl
  left_of_all (suc i) h failed =
      sym (rw add-one at (on i h (failed i (omega arith)))) ∙ left_of_all i (omega arith) (λ k l. failed k (omega arith))

  module _ (i : ℕ) (so_far : Passed test n i) where
    pub walk_hit : i < n → test i ≡ true → value i ≡ left 0
    walk_hit h e = sym (hit i h e) ∙ left_of_all i so_far.within so_far.failed

    pub walk_last : n ≤ i → none ≡ left 0
    walk_last h = sym (walk.end i h) ∙ left_of_all i so_far.within so_far.failed

  -- what holds of the value at each place that passes, and of none, holds of what the search yields
  module _ (P : ℕ → Type 0) (passes : (i : ℕ) → i < n → test i ≡ true → P (value i)) (otherwise : P none) where
    yielded_from : (more i : ℕ) → i + more ≡ n → P (left i)
    yielded_from zero i e = subst P (sym (walk.end i (omega arith))) otherwise
    yielded_from (suc more) i e =
        let h : i < n = omega arith in
        cases (test i)
        (λ yes. subst P (sym (hit i h yes)) (passes i h yes))
        (λ no. subst P (sym (on i h no)) (yielded_from more (i + 1) (omega arith)))

    pub yielded : P (left 0)
    yielded = yielded_from n 0 (omega arith)

-- the tests: a set to the point, a link with the SLC, a route by the set
abbrev pub set_passes : List LinkSet → ℕ → ℕ → Bool
set_passes sets point set = (get_or sets set Data.absent_set).given && eqb (get_or sets set Data.absent_set).adjacent point

abbrev pub link_passes : List Link → ℕ → ℕ → Bool
link_passes all slc link = ltb link 32 && eqb (get_or all link Data.absent_link).slc slc

abbrev pub route_passes : List Route → ℕ → ℕ → Bool
route_passes routes set rank = (get_or routes rank Data.absent_route).given && eqb (get_or routes rank Data.absent_route).set set

-- the three searches
pub sets_walk : (plan : Plan) (point : ℕ)
    → Walk (set_passes plan.sets point) (λ (set : ℕ). set) no_set 8 (λ (set : ℕ). set_from plan point set (8 - set))
unfolding set_from
sets_walk plan point =
    record {
      step = λ i h. let more : 8 - i ≡ suc (8 - (i + 1)) = omega arith in simp more;
      end = λ i h. let none_left : 8 - i ≡ 0 = omega arith in simp none_left;
    }

pub links_walk : (plan : Plan) (slc : ℕ) (those : LinkSet) (n : ℕ) → length (all_of those) ≡ n
    → Walk (λ (i : ℕ). link_passes plan.links slc (get_or those.links i 0)) (λ (i : ℕ). get_or those.links i 0) no_link n
    (λ (i : ℕ). link_with plan slc (drop i (all_of those)))
unfolding link_with
links_walk plan slc those n all =
    record {
      step =
          λ i h.
          let inside : i < those.count = omega (arith, length-take those.count those.links) in
          simp (add-one, drop-cons (all_of those) i 0 (omega arith), get_or-take those.count those.links i 0 inside);
      end = λ i h. simp (drop_of_length-le (all_of those) {i = i} (omega arith));
    }

pub routes_walk : (set : ℕ) (routes : List Route) (n : ℕ) → length routes ≡ n
    → Walk (route_passes routes set) (λ (rank : ℕ). rank) no_rank n (λ (rank : ℕ). rank_from set rank (drop rank routes))
unfolding rank_from
routes_walk set routes n all =
    record {
      step = λ i h. simp (add-one, drop-cons routes i Data.absent_route (omega arith));
      end = λ i h. simp (drop_of_length-le routes {i = i} (omega arith));
    }

-- the first route that goes by a set, of those from a rank on
first_by_set : (set rank : ℕ) (routes : List Route) → unwrap_or (position_from (by_set set) rank routes) no_rank ≡ rank_from set rank routes
unfolding rank_from
first_by_set set rank [] = refl
first_by_set set rank (route ∷ worse) =
    cases (by_set set route) (λ yes. simp yes) (λ no. simp no (first_by_set set (rank + 1) worse))

-- and of all
pub rank_found : (set : ℕ) (routes : List Route) → unwrap_or (position (by_set set) routes) no_rank ≡ rank_from set 0 routes
rank_found set routes =
    ap (λ (o : Option ℕ). unwrap_or o no_rank) (position_from-zero (by_set set) routes) ∙ first_by_set set 0 routes
