-- `route_choice::choose_by` meets its contract. The invariant of the walk over ranks: what is left of it yields the pair's link. The
-- measure is what is left.
-- Assumes nothing.
use borrow.Author.Rules.{rules}
use mathlib.Core.Path.{◌≡◌, ap, ◌∙◌}
use mathlib.Core.Bool.{Bool}
use mathlib.Core.List.{List}
use Prim.Native.Nat.{ℕ}
use native.Mathlib.Omega.{arith}
use lib.ListN.{length, get_or}
use Rattle.plan.specs.declared.data.Route.{Route}
use Rattle.route_serving.specs.State as State
use Rattle.plan.specs.Data.{absent_route, links_of}
use Rattle.plan_words.specs.Words.{plan_at}
use Rattle.plan_words.proofs.Said.{eight_sets}
use Rattle.route_choice.specs.Which.{in_turn, link_of_set, set_for}
use Rattle.plan.proofs.Tables.{unmapped}
use Rattle.route_choice.proofs.InTurn.{set_links}
use Rattle.route_choice.proofs.Ranks.{past_ranks, rank_passed, rank_taken}
use Rattle.route_serving.proofs.Proper.{serves_proper}
use Rattle.route_choice.proofs.choose_by.Goals as goal

-- the link is that of the route's set
found : (words : List ℕ) (serving marks : ℕ → Bool) (route : Route) (sls rank link set : ℕ) (mark : Bool)
    → link ≡ link_of_set serving (links_of (plan_at words) set) sls → set ≡ set_for route mark → mark ≡ marks rank
    → link ≡ link_of_set serving (in_turn (plan_at words) route (marks rank)) sls
found words serving marks route sls rank link set mark is of said =
    is
    ∙ ap (λ (set : ℕ). link_of_set serving (links_of (plan_at words) set) sls) of
    ∙ ap (λ (links : List ℕ). link_of_set serving links sls) (set_links (plan_at words) route mark (eight_sets words))
    ∙ ap (λ (mark : Bool). link_of_set serving (in_turn (plan_at words) route mark) sls) said

pub ranks-preserved : goal.ranks-preserved
ranks-preserved c =
    let a = c.args in
    let rank : ℕ = c.ranks.rank in
    let four : length a.routes ≡ 4 = search (rules, unmapped) in
    let is =
    found a.plan.now (State.serves a.links.now a.need) (State.is_marked a.marks.now a.destination) (get_or a.routes rank absent_route) a.sls rank _ _ _
    c.link_for-link.ensures c.set_for.ensures c.marked-prohibited.ensures
    in (
      omega arith,
      rank_passed (State.serves a.links.now a.need) (State.is_marked a.marks.now a.destination) (plan_at a.plan.now) a.sls a.routes
          (serves_proper a.links.now a.need) rank _ (omega arith) is c.if-link-lt-NO_LINK.false
          ∙ c.ranks.invariant.1,
    )

pub returns-then-rank-ge4 : goal.returns-then-rank-ge4
returns-then-rank-ge4 c =
    let a = c.args in
    let four : length a.routes ≡ 4 = search (rules, unmapped) in
    past_ranks (State.serves a.links.now a.need) (State.is_marked a.marks.now a.destination) (plan_at a.plan.now) a.sls a.routes c.ranks.rank (omega arith)
    ∙ c.ranks.invariant.1

pub returns-then-link-lt-NO_LINK : goal.returns-then-link-lt-NO_LINK
returns-then-link-lt-NO_LINK c =
    let a = c.args in
    let rank : ℕ = c.ranks.rank in
    let four : length a.routes ≡ 4 = search (rules, unmapped) in
    let is =
    found a.plan.now (State.serves a.links.now a.need) (State.is_marked a.marks.now a.destination) (get_or a.routes rank absent_route) a.sls rank _ _ _
    c.link_for-link.ensures c.set_for.ensures c.marked-prohibited.ensures
    in
    rank_taken (State.serves a.links.now a.need) (State.is_marked a.marks.now a.destination) (plan_at a.plan.now) a.sls a.routes
    (serves_proper a.links.now a.need) rank _ (omega arith) is c.if-link-lt-NO_LINK.true
    ∙ c.ranks.invariant.1
