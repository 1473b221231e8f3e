-- "So a link's loss moves only the pairs (destination, SLS) that were on it." Assumes nothing.
use mathlib.Core.Path.{◌≡◌, refl, sym, ap, ◌∙◌}
use mathlib.Core.Bool.{Bool, true, false, cond, not, ◌&&◌, and-false, true≢false}
use mathlib.Core.List.{List, [], ◌∷◌}
use Prim.Native.Nat.{ℕ, ◌+◌, ◌%◌}
use lib.Dec.{eqb, ltb}
use lib.ListN.{length}
use borrow.Author.Tests.{eqb-true, eqb-false}
use borrow.Table.Steps.{cases}
use Rattle.plan.specs.declared.data.Plan.{Plan}
use Rattle.plan.specs.declared.data.Route.{Route}
use Rattle.route_serving.specs.declared.Need.{Need}
use Rattle.route_choice.specs.Chosen.{Lost}
use Rattle.route_serving.specs.State as State
use Rattle.plan.specs.Data.{links_of, routes_of}
use Rattle.route_choice.specs.Which.{going_round, first_serving, some_serves, usable, link_from, chosen}
use Rattle.route_choice.proofs.Ranks.{stays_usable, stays_unusable}
use Rattle.route_choice.proofs.Serving.{some_round}

module _ (serves serves' : ℕ → Bool) (link : ℕ) (loss : Lost serves serves' link) where
  -- what didn't serve still doesn't
  pub still_not : (other : ℕ) → serves other ≡ false → serves' other ≡ false
  still_not other e =
      cases (eqb other link)
      (λ same. ap serves' (eqb-true other link same) ∙ loss.lost)
      (λ apart. loss.others other (eqb-false other link apart) ∙ e)

  -- what served and isn't the link still does
  still_serves : (other : ℕ) → (other ≡ link → ⊥) → serves other ≡ true → serves' other ≡ true
  still_serves other apart e = loss.others other apart ∙ e

  -- where the first that serves isn't the link, it is the first as before
  same_first : (links : List ℕ) → (first_serving serves links ≡ link → ⊥)
      → first_serving serves' links ≡ first_serving serves links
  unfolding first_serving
  same_first [] apart = refl
  same_first (other ∷ rest) apart =
      cases (serves other)
      (λ e. simp (e, still_serves other (λ same. apart (simp e same)) e))
      (λ e. simp (e, still_not other e) (same_first rest (λ same. apart (simp e same))))

  -- where none served, none does
  pub none_more : (links : List ℕ) → some_serves serves links ≡ false → some_serves serves' links ≡ false
  unfolding some_serves
  none_more [] e = refl
  none_more (other ∷ rest) e =
      cases (serves other)
      (λ f. absurd (true≢false (simp f at e)))
      (λ f. simp (still_not other f) (none_more rest (simp f at e)))

  -- where the first that served isn't the link, some still does
  some_still : (links : List ℕ) → (first_serving serves links ≡ link → ⊥)
      → some_serves serves links ≡ true → some_serves serves' links ≡ true
  unfolding first_serving some_serves
  some_still [] apart some = some
  some_still (other ∷ rest) apart some =
      cases (serves other)
      (λ e. simp (still_serves other (λ same. apart (simp e same)) e))
      (λ e. simp (still_not other e) (some_still rest (λ same. apart (simp e same)) (simp e at some)))

  module _ (marked : ℕ → Bool) (plan : Plan) (sls : ℕ) where
    loss_from : (rank : ℕ) (routes : List Route) → (link_from serves marked plan sls rank routes ≡ link → ⊥)
        → link_from serves' marked plan sls rank routes ≡ link_from serves marked plan sls rank routes
    unfolding link_from
    loss_from rank [] apart = refl
    loss_from rank (route ∷ worse) apart =
        let links = links_of plan route.set in
        let turn = going_round (sls % length links) links in
        cases (usable serves marked plan rank route)
        (λ e.
        let off : first_serving serves turn ≡ link → ⊥ = λ same. apart (simp e same) in
        let still : some_serves serves links ≡ true → some_serves serves' links ≡ true =
        λ some.
        sym (some_round serves' (sls % length links) links)
        ∙ some_still turn off (some_round serves (sls % length links) links ∙ some)
        in
        simp (e, stays_usable serves serves' marked plan rank route still e) (same_first turn off))
        (λ e.
        simp (e, stays_unusable serves serves' marked plan rank route (none_more links) e)
        (loss_from (rank + 1) worse (λ same. apart (simp e same))))

    -- a pair that wasn't on the link keeps its own
    pub loss_moves_only_its_own : (destination : ℕ) → (chosen serves marked plan destination sls ≡ link → ⊥)
        → chosen serves' marked plan destination sls ≡ chosen serves marked plan destination sls
    loss_moves_only_its_own destination apart = loss_from 0 (routes_of plan destination) apart

-- whether a link in a state serves
abbrev serves_in : Need → ℕ → ℕ → Bool
serves_in need link state = ltb link 32 && (not (eqb link need.never) && cond need.«open» (eqb state 2) (ltb 0 state))

out_serves_not : (need : Need) (link : ℕ) → serves_in need link 0 ≡ false
out_serves_not need link = cases need.«open» (λ e. simp (e, and-false)) (λ e. simp (e, and-false))

-- the same of two areas of links: one link is out in the second, and every other is in the same state
module _ (links links' : List ℕ) (need : Need) (link : ℕ)
    (out : State.state_of links' link ≡ 0)
    (others : (other : ℕ) → (other ≡ link → ⊥) → State.state_of links' other ≡ State.state_of links other) where
  pub lost_state : Lost (State.serves links need) (State.serves links' need) link
  lost_state = record {
    lost = ap (serves_in need link) out ∙ out_serves_not need link;
    others = λ other apart. ap (serves_in need other) (others other apart);
  }

  pub out_moves_only_its_own : (marked : ℕ → Bool) (plan : Plan) (sls destination : ℕ)
      → (chosen (State.serves links need) marked plan destination sls ≡ link → ⊥)
      → chosen (State.serves links' need) marked plan destination sls
      ≡ chosen (State.serves links need) marked plan destination sls
  out_moves_only_its_own marked plan sls destination apart =
      loss_moves_only_its_own (State.serves links need) (State.serves links' need) link lost_state
      marked plan sls destination apart
