-- Which link a pair comes from, and what the sources are with it, as the code finds them one pair after the other.
-- Assumes nothing.
use mathlib.Core.Path.{◌≡◌, refl, sym, ap, ◌∙◌}
use mathlib.Core.Bool.{Bool, true, false, cond, not, ◌&&◌, and-false}
use mathlib.Core.List.{List}
use Prim.Native.Nat.{ℕ, suc, ◌+◌, ◌-◌, ◌/◌, ◌%◌, ◌<◌, ◌≤◌}
use native.Mathlib.Nat.{sub-zero}
use native.Mathlib.Omega.{arith}
use lib.Dec.{eqb, ltb}
use borrow.Author.Tests.{lt-ltb, le-ltb, eq-eqb, ne_eqb}
use Rattle.plan.specs.declared.data.Plan.{Plan}
use Rattle.route_choice.specs.Which.{none}
use Rattle.route_ways.specs.Way.{current_link}
use Rattle.lookup.specs.Lookup.{set_of}
use Rattle.changeback_pairs.specs.declared.Sources.{Sources}
use Rattle.changeback_pairs.specs.Pairs.{sources, came_from, with_source, sources_from}

module _ (plan : Plan) (before after marks : List ℕ) (link : ℕ) where
  module _ (destination sls from : ℕ) (was : from ≡ current_link plan before marks destination sls) where
    -- by the tests on the link after and the link before
    by_tests : (on here : Bool) → eqb (current_link plan after marks destination sls) link ≡ on → eqb from link ≡ here
        → cond (on && not here) from none ≡ came_from plan before after marks link destination sls
    unfolding came_from
    by_tests on here is_on was_here =
        sym
        (ap (λ (f : ℕ). cond (eqb (current_link plan after marks destination sls) link && not (eqb f link)) f none) (sym was)
        ∙ ap (λ (t : Bool). cond (t && not (eqb from link)) from none) is_on
        ∙ ap (λ (t : Bool). cond (on && not t) from none) was_here)

    -- a pair that was on the link comes from none
    pub was_here : from ≡ link → none ≡ came_from plan before after marks link destination sls
    was_here e =
        let on = eqb (current_link plan after marks destination sls) link in
        ap (λ (t : Bool). cond t from none) (sym (and-false on)) ∙ by_tests on true refl (eq-eqb from link e)

    module _ (now : ℕ) (is : now ≡ current_link plan after marks destination sls) where
      on_is : (said : Bool) → eqb now link ≡ said → eqb (current_link plan after marks destination sls) link ≡ said
      on_is said e = ap (λ (n : ℕ). eqb n link) (sym is) ∙ e

      -- one that is on it now, and wasn't, comes from where it was
      pub comes_here : (from ≡ link → ⊥) → now ≡ link → from ≡ came_from plan before after marks link destination sls
      comes_here apart e = by_tests true false (on_is true (eq-eqb now link e)) (ne_eqb from link apart)

      -- one that isn't on it comes from none
      pub not_here : (from ≡ link → ⊥) → (now ≡ link → ⊥) → none ≡ came_from plan before after marks link destination sls
      not_here apart e = by_tests false false (on_is false (ne_eqb now link e)) (ne_eqb from link apart)

  -- the sources with one pair more, and then with the rest, are those from that pair on
  pub sources_next : (pair all from : ℕ) (known next : Sources) → pair < all
      → from ≡ came_from plan before after marks link (pair / 16) (pair % 16) → next ≡ with_source plan link from known
      → sources_from plan before after marks link (pair + 1) (all - (pair + 1)) next
      ≡ sources_from plan before after marks link pair (all - pair) known
  unfolding sources_from
  sources_next pair all from known next h came with =
      let left : all - pair ≡ suc (all - (pair + 1)) = omega arith in
      ap (λ (s : Sources). sources_from plan before after marks link (pair + 1) (all - (pair + 1)) s)
      (with ∙ ap (λ (f : ℕ). with_source plan link f known) came)
      ∙ ap (λ (n : ℕ). sources_from plan before after marks link pair n known) (sym left)

  -- before the first all are left, and behind the last none
  pub sources_first : (all : ℕ) (known : Sources)
      → sources_from plan before after marks link 0 (all - 0) known ≡ sources_from plan before after marks link 0 all known
  sources_first all known = simp sub-zero

  pub sources_last : (pair all : ℕ) (known : Sources) → all ≤ pair
      → known ≡ sources_from plan before after marks link pair (all - pair) known
  unfolding sources_from
  sources_last pair all known h = let left : all - pair ≡ 0 = omega arith in simp left

module _ (plan : Plan) (link from : ℕ) (known : Sources) where
  -- no link is no source
  pub no_source : none ≤ from → known ≡ with_source plan link from known
  unfolding with_source
  no_source h = simp (le-ltb from none h)

  module _ (h : from < none) (own other : ℕ) (is-own : own ≡ set_of plan from) (is-other : other ≡ set_of plan link) where
    by_sets : (said : Bool) → eqb own other ≡ said
        → with_source plan link from known
        ≡ cond said (sources (cond (ltb known.own none) known.own from) known.other) (sources known.own true)
    unfolding with_source
    by_sets said e = simp (lt-ltb from none h, sym is-own, sym is-other, e)

    -- a link of another set
    pub other_source : (own ≡ other → ⊥) → sources known.own true ≡ with_source plan link from known
    other_source apart = sym (by_sets false (ne_eqb own other apart))

    -- a link of its own set, where one is known
    pub known_source : own ≡ other → known.own < none → known ≡ with_source plan link from known
    known_source same there = sym (by_sets true (eq-eqb own other same) ∙ simp (lt-ltb known.own none there))

    -- and where none is
    pub first_source : own ≡ other → none ≤ known.own → sources from known.other ≡ with_source plan link from known
    first_source same gone = sym (by_sets true (eq-eqb own other same) ∙ simp (le-ltb known.own none gone))
