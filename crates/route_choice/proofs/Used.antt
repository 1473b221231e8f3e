-- A link that the rule yields is the first that serves, going round the set of the usable route of best rank; so equal places
-- share their link. Assumes nothing.
use mathlib.Core.Path.{◌≡◌, refl, sym, ap, ◌∙◌}
use mathlib.Core.Bool.{Bool, true, false, false≢true}
use mathlib.Core.List.{List, [], ◌∷◌}
use mathlib.Core.Logic.{◌⊎◌, inl, inr, ⊎_elim}
use Prim.Native.Nat.{ℕ, zero, suc, ◌+◌, ◌%◌, ◌≤◌, ◌<◌}
use native.Mathlib.Numerals.{add-one}
use native.Mathlib.Omega.{arith}
use lib.ListN.{length, get_or}
use borrow.Author.Count.{below_more}
use borrow.Table.Steps.{cases}
use Rattle.plan.specs.declared.data.Plan.{Plan}
use Rattle.route_choice.specs.Chosen.{route_of, used_links, turn_of, Uses, First, Chosen}
use Rattle.plan.specs.Data.{routes_of}
use Rattle.route_choice.specs.Which.{none, going_round, first_serving, some_serves, link_of_set, usable, chosen}
use Rattle.route_choice.proofs.Ranks.{usable_some, onward, at_rank, past_ranks}
use Rattle.route_choice.proofs.Serving.{some_round}

-- none serves before a place that is one further on
none_one_more : (serves : ℕ → Bool) (link : ℕ) (rest : List ℕ) (place : ℕ) → serves link ≡ false
    → ((before : ℕ) → before < place → serves (get_or rest before none) ≡ false)
    → (before : ℕ) → before < suc place → serves (get_or (link ∷ rest) before none) ≡ false
none_one_more serves link rest place e passed zero h = e
none_one_more serves link rest place e passed (suc k) h = passed k (omega arith)

-- where some serve, the first that serves has a place
first_in : (serves : ℕ → Bool) (turn : List ℕ) → some_serves serves turn ≡ true → First serves turn (first_serving serves turn)
unfolding some_serves first_serving
first_in serves [] some = absurd (false≢true some)
first_in serves (link ∷ rest) some =
    cases (serves link)
    (λ e. simp e (record {
      place = 0;
      in_turn = omega arith;
      stands_there = refl;
      serves_there = e;
      none_before = λ before h. absurd (omega arith);
    }))
    (λ e. simp e (behind e (first_in serves rest (simp e at some))))
  where
    behind : serves link ≡ false → First serves rest (first_serving serves rest)
        → First serves (link ∷ rest) (first_serving serves rest)
    behind e found = record {
      place = suc found.place;
      in_turn = omega (arith, found.in_turn);
      stands_there = found.stands_there;
      serves_there = found.serves_there;
      none_before = none_one_more serves link rest found.place e found.none_before;
    }

module _ (serves marked : ℕ → Bool) (plan : Plan) (destination : ℕ) where
  abbrev Unusable : ℕ → Type 0
  Unusable rank = usable serves marked plan rank (route_of plan destination rank) ≡ false

  -- no route of a rank below is usable
  abbrev pub NoneBelow : ℕ → Type 0
  NoneBelow rank = (better : ℕ) → better < rank → Unusable better

  -- so these ranks are walked over
  passed_over : (sls rank : ℕ) → rank ≤ length (routes_of plan destination) → NoneBelow rank
      → chosen serves marked plan destination sls ≡ onward serves marked plan sls (routes_of plan destination) rank
  passed_over sls zero h below = refl
  passed_over sls (suc rank) h below =
      passed_over sls rank (omega arith) (λ better k. below better (omega arith))
      ∙ at_rank serves marked plan sls (routes_of plan destination) rank (omega arith)
      ∙ simp (below rank (omega arith), add-one)

  -- the link is that of the set that is used
  pub used_link : (sls rank : ℕ) → Uses serves marked plan destination rank
      → chosen serves marked plan destination sls ≡ link_of_set serves (used_links plan destination rank) sls
  used_link sls rank uses =
      passed_over sls rank (omega (arith, uses.ranked)) uses.none_better
      ∙ at_rank serves marked plan sls (routes_of plan destination) rank uses.ranked
      ∙ simp uses.usable_there

  -- some route is used, or none is usable
  pub some_used : (more rank : ℕ) → rank + more ≡ length (routes_of plan destination) → NoneBelow rank
      → ((best : ℕ) × Uses serves marked plan destination best) ⊎ NoneBelow (length (routes_of plan destination))
  some_used zero rank end below = inr (λ better h. below better (omega arith))
  some_used (suc more) rank end below =
      cases (usable serves marked plan rank (route_of plan destination rank))
      (λ e. inl (rank, record { ranked = omega arith; usable_there = e; none_better = below }))
      (λ e. some_used more (rank + 1) (omega arith) (below_more Unusable rank below e))

  module _ (sls : ℕ) (yielded : chosen serves marked plan destination sls < none) where
    -- where a link is yielded, a route is used
    pub route_used : (best : ℕ) × Uses serves marked plan destination best
    route_used =
        ⊎_elim
        (λ used. used)
        (λ unusable.
        let last = length (routes_of plan destination) in
        let no_link : chosen serves marked plan destination sls ≡ none =
        passed_over sls last (omega arith) unusable
        ∙ sym (past_ranks serves marked plan sls (routes_of plan destination) last (omega arith))
        in
        absurd (omega arith))
        (some_used (length (routes_of plan destination)) 0 (omega arith) (λ better h. absurd (omega arith)))

  -- the link of the set that is used is the first that serves, going round
  pub used_first : (sls rank : ℕ) → Uses serves marked plan destination rank
      → First serves (turn_of plan destination rank sls) (chosen serves marked plan destination sls)
  used_first sls rank uses =
      let some =
      some_round serves (sls % length (used_links plan destination rank)) (used_links plan destination rank)
      ∙ usable_some serves marked plan rank (route_of plan destination rank) uses.usable_there
      in
      simp (used_link sls rank uses) (first_in serves (turn_of plan destination rank sls) some)

  -- a link that is yielded is the first that serves, going round the set of the usable route of best rank
  pub chosen_is : (sls : ℕ) → chosen serves marked plan destination sls < none
      → Chosen serves marked plan destination sls (chosen serves marked plan destination sls)
  chosen_is sls yielded =
      let used = route_used sls yielded in
      record {
        rank = used.0;
        best_route = used.1;
        of_its_set = used_link sls used.0 used.1;
        first_going_round = used_first sls used.0 used.1;
      }

  -- "an SLS has its normal link at place SLS mod m": two of one place share their link, whichever links serve
  pub same_place_same_link : (sls sls' rank : ℕ) → Uses serves marked plan destination rank
      → sls % length (used_links plan destination rank) ≡ sls' % length (used_links plan destination rank)
      → chosen serves marked plan destination sls ≡ chosen serves marked plan destination sls'
  same_place_same_link sls sls' rank uses same =
      used_link sls rank uses
      ∙ ap (λ (start : ℕ). first_serving serves (going_round start (used_links plan destination rank))) same
      ∙ sym (used_link sls' rank uses)
