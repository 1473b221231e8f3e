-- A link that comes back takes pairs from at most one link of its own set, and then from no other: never from its own set and
-- from another together. Assumes nothing.
use mathlib.Core.Path.{◌≡◌, sym, ap, ◌∙◌}
use mathlib.Core.Bool.{Bool, true, true≢false}
use mathlib.Core.List.{List, [], ◌∷◌}
use mathlib.Core.Logic.{⊎_elim}
use Prim.Native.Nat.{ℕ, zero, suc, ◌+◌, ◌%◌, ◌<◌}
use native.Mathlib.Nat.{mod-lt}
use native.Mathlib.Omega.{arith}
use lib.ListN.{length, get_or}
use borrow.Table.Steps.{cases}
use Rattle.plan.specs.declared.data.Plan.{Plan}
use Rattle.plan.specs.Sound.{Sound}
use Rattle.plan.proofs.Sound.{one_place}
use Rattle.route_round.proofs.Lists.{there_alone}
use Rattle.route_choice.specs.Chosen.{route_of, used_links, Uses, Lost, Back, Takes, StandsInSet, EachInOnePlace}
use Rattle.plan.specs.Data.{links_of, routes_of}
use Rattle.route_choice.specs.Which.{none, going_round, first_serving, some_serves, usable}
use Rattle.route_choice.proofs.Loss.{still_not, none_more}
use Rattle.route_choice.proofs.Ranks.{stays_usable, stays_unusable}
use Rattle.route_choice.proofs.Serving.{round_length, round_at, round_on}
use Rattle.route_choice.proofs.Used.{used_link, used_first, route_used, some_used}

-- a link that stands among some and serves makes them serve
some_there : (serves : ℕ → Bool) (links : List ℕ) (place : ℕ) → place < length links → serves (get_or links place none) ≡ true
    → some_serves serves links ≡ true
unfolding some_serves
some_there serves [] place h e = absurd (omega arith)
some_there serves (link ∷ rest) zero h e = simp e
some_there serves (link ∷ rest) (suc place) h e =
    cases (serves link) (λ f. simp f) (λ f. simp f (some_there serves rest place (omega arith) e))

module _ (serves serves' : ℕ → Bool) (link : ℕ) (back : Back serves serves' link) where
  -- seen the other way, the link is lost
  seen_back : Lost serves' serves link
  seen_back = record { lost = back.was_out; others = λ other apart. sym (back.others other apart) }

  -- where some served, some do
  some_again : (links : List ℕ) → some_serves serves links ≡ true → some_serves serves' links ≡ true
  some_again links some =
      cases (some_serves serves' links)
      (λ e. e)
      (λ e. absurd (true≢false (sym some ∙ none_more serves' serves link seen_back links e)))

  module _ (plan : Plan) (sound : EachInOnePlace plan) where
    module _ (marked : ℕ → Bool) (destination sls from : ℕ)
        (takes : Takes serves serves' marked plan destination sls link from) where
      -- the pair had a link, so its destination used a route, and it uses one now
      used_before : (rank : ℕ) × Uses serves marked plan destination rank
      used_before = route_used serves marked plan destination sls (omega (arith, takes.was_on, takes.was_a_link))

      uses_now : (rank : ℕ) × Uses serves' marked plan destination rank
      uses_now =
          let before = used_before in
          let rank = before.0 in
          let still : usable serves' marked plan rank (route_of plan destination rank) ≡ true =
          stays_usable serves serves' marked plan rank (route_of plan destination rank)
          (some_again (used_links plan destination rank)) before.1.usable_there
          in
          ⊎_elim
          (λ used. used)
          (λ unusable. absurd (true≢false (sym still ∙ unusable rank before.1.ranked)))
          (some_used serves' marked plan destination (length (routes_of plan destination)) 0 (omega arith)
          (λ better h. absurd (omega arith)))

      -- the link that the pair was on makes its set serve
      pub own_set : (set : ℕ) → StandsInSet plan from set → some_serves serves (links_of plan set) ≡ true
      own_set set stands =
          let before = used_before in
          let first = used_first serves marked plan destination sls before.0 before.1 in
          some_there serves (links_of plan set) stands.place stands.in_the_set
          (ap serves (stands.stands_there ∙ sym takes.was_on) ∙ first.serves_there)

      -- where the link's own set served, the pair was on the first that serves behind the link, going round
      pub came_from : (set : ℕ) (stands : StandsInSet plan link set) → some_serves serves (links_of plan set) ≡ true
          → from ≡ first_serving serves (going_round stands.place (links_of plan set))
      came_from set stands some =
          let now = uses_now in
          let rank = now.0 in
          let links : List ℕ = used_links plan destination rank in
          let start : ℕ = sls % length links in
          let first = used_first serves' marked plan destination sls rank now.1 in
          let inside : first.place < length links = omega (arith, first.in_turn, round_length links start) in
          let all : 0 < length links = omega arith in
          let here : start < length links = mod-lt sls all in
          let place : ℕ = (start + first.place) % length links in
          let there : get_or links place none ≡ link =
          sym (round_at links start here first.place none inside) ∙ first.stands_there ∙ takes.is_on
          in
          let same =
          sound (route_of plan destination rank).set set place stands.place (mod-lt (start + first.place) all)
          stands.in_the_set (there ∙ sym stands.stands_there)
          in
          let served : some_serves serves links ≡ true = ap (λ (s : ℕ). some_serves serves (links_of plan s)) same.0 ∙ some in
          let used : Uses serves marked plan destination rank = record {
            ranked = now.1.ranked;
            usable_there =
                stays_usable serves' serves marked plan rank (route_of plan destination rank)
                (λ _. served) now.1.usable_there;
            none_better = λ better h.
                stays_unusable serves' serves marked plan better (route_of plan destination better)
                (none_more serves' serves link seen_back (used_links plan destination better)) (now.1.none_better better h);
          } in
          sym takes.was_on
          ∙ used_link serves marked plan destination sls rank used
          ∙ sym
          (round_on serves links start here first.place inside
          (λ before h. still_not serves' serves link seen_back _ (first.none_before before h)))
          ∙ ap (λ (p : ℕ). first_serving serves (going_round p links)) same.1
          ∙ ap (λ (s : ℕ). first_serving serves (going_round stands.place (links_of plan s))) same.0

    -- where one of two pairs that the link takes comes from the link's own set, both come from one link
    pub taken_from_one : (set : ℕ) → StandsInSet plan link set
        → (marked marked' : ℕ → Bool) (destination destination' sls sls' from from' : ℕ)
        → Takes serves serves' marked plan destination sls link from
        → Takes serves serves' marked' plan destination' sls' link from'
        → StandsInSet plan from set → from' ≡ from
    taken_from_one set stands marked marked' destination destination' sls sls' from from' takes takes' own =
        let some = own_set marked destination sls from takes set own in
        came_from marked' destination' sls' from' takes' set stands some
        ∙ sym (came_from marked destination sls from takes set stands some)

-- in a sound plan each link stands in one place
pub sound_apart : (plan : Plan) → Sound plan → EachInOnePlace plan
sound_apart plan sound set set' place place' h h' same =
    one_place plan sound set set' place place' h h'
    (there_alone (links_of plan set) place 0 none h ∙ same ∙ there_alone (links_of plan set') place' none 0 h')
