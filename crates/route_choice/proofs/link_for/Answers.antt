-- `route_choice::link_for` meets its contract: the normal link, if it serves, is the rule's, and else the rule's link stands at the place
-- that the table has.
-- Assumes nothing.
use mathlib.Core.Path.{◌≡◌, refl, sym, ap, ap₂, ◌∙◌}
use mathlib.Core.Bool.{Bool, true, false}
use mathlib.Core.List.{List}
use Prim.Native.Nat.{ℕ, ◌%◌, ◌≤◌, ◌<◌}
use native.Mathlib.Nat.{mod-lt}
use native.Mathlib.Omega.{arith}
use lib.ListN.{length, take, get_or, length-take, get_or-eq_default}
use Rattle.plan.specs.declared.data.LinkSet.{LinkSet}
use Rattle.plan.specs.Data.{set_at, links_of}
use Rattle.plan.proofs.Tables as Tables
use Rattle.plan_words.specs.Words.{plan_at}
use Rattle.plan_words.proofs.Said.{eight_sets, eight_places}
use Rattle.route_serving.specs.State as State
use Rattle.route_choice.specs.Which.{none, link_of_set}
use Rattle.route_round.specs.Table.{pattern_of, place_for}
use Rattle.route_round.proofs.ByTable.{by_table, no_links, normal_taken}
use Rattle.route_round.proofs.Lists.{in_front, taken_all}
use Rattle.route_choice.proofs.link_for.Goals as goal

-- a set that there is has at most eight links
module _ (words : List ℕ) (set : ℕ) (h : set < 8) where
  abbrev own : LinkSet
  own = set_at (plan_at words) set

  abbrev those : List ℕ
  those = links_of (plan_at words) set

  few : length those ≤ 8
  few = omega (arith, eight_places words set h, length-take own.count own.links)

  -- a link at a place of the set
  there : (place : ℕ) → place < length those → get_or own.links place 0 ≡ get_or those place none
  there place k =
      in_front own.count own.links place 0 none
      (omega (arith, length-take own.count own.links))
      (omega (arith, few, eight_places words set h))

  module _ (serving : ℕ → Bool) (no_link : serving none ≡ false) (m sls : ℕ) (all : m ≡ length those) (some : 0 < length those) where
    -- a normal link that serves is the rule's
    by_normal : (normal : ℕ) → normal ≡ get_or own.links (sls % m) 0 → serving normal ≡ true → normal ≡ link_of_set serving those sls
    by_normal normal is test =
        let inside : sls % m < length those = omega (arith, all, mod-lt sls {m = m} (omega arith)) in
        let here : normal ≡ get_or those (sls % length those) none =
        is ∙ there (sls % m) inside ∙ ap (λ (n : ℕ). get_or those (sls % n) none) all
        in
        here ∙ normal_taken serving those sls some (ap serving (sym here) ∙ test)

    -- the rule's link stands at the table's place
    by_place : (place : ℕ) → place ≡ place_for (pattern_of serving (take m own.links)) (sls % m)
        → link_of_set serving those sls ≡ get_or those place none
    by_place place is =
        let count : take m own.links ≡ those = ap (λ (n : ℕ). take n own.links) all ∙ taken_all own.count own.links in
        let same : place ≡ place_for (pattern_of serving those) (sls % length those) =
        is ∙ ap₂ place_for (ap (pattern_of serving) count) (ap (λ (n : ℕ). sls % n) all)
        in
        by_table serving those no_link few sls some ∙ ap (λ (p : ℕ). get_or those p none) (sym same)

pub returns-then-set-ge8 : goal.returns-then-set-ge8
returns-then-set-ge8 c =
    let a = c.args in
    let sets = eight_sets a.plan.now in
    let past = Tables.no_links (plan_at a.plan.now) a.set (omega arith) in
    no_links (State.serves a.links.now a.need) (links_of (plan_at a.plan.now) a.set) a.sls (ap length past)

pub returns-then-m-eq0 : goal.returns-then-m-eq0
returns-then-m-eq0 c =
    let a = c.args in
    no_links (State.serves a.links.now a.need) (links_of (plan_at a.plan.now) a.set) a.sls
    (omega (arith, c.places_of-m.ensures))

pub returns-then-serves : goal.returns-then-serves
returns-then-serves c =
    let a = c.args in
    let all = c.places_of-m.ensures in
    by_normal a.plan.now a.set c.if-set-ge8.false (State.serves a.links.now a.need) refl c.places_of-m.result a.sls all (omega (arith, all))
    c.set_link-normal.result c.set_link-normal.ensures (sym c.serves.ensures ∙ c.if-serves.true)

pub returns-then-m-place : goal.returns-then-m-place
returns-then-m-place c =
    let a = c.args in
    let all = c.places_of-m.ensures in
    let place : ℕ = c.place_for-place.result in
    let same = c.place_for-place.ensures ∙ ap (λ (p : ℕ). place_for p (a.sls % c.places_of-m.result)) c.pattern_of.ensures in
    let rule =
    by_place a.plan.now a.set c.if-set-ge8.false (State.serves a.links.now a.need) refl c.places_of-m.result a.sls all (omega (arith, all)) place same
    in
    sym (get_or-eq_default (links_of (plan_at a.plan.now) a.set) none {n = place} (omega (arith, all))) ∙ sym rule

pub returns : goal.returns
returns c =
    let a = c.args in
    let all = c.places_of-m.ensures in
    let place : ℕ = c.place_for-place.result in
    let same = c.place_for-place.ensures ∙ ap (λ (p : ℕ). place_for p (a.sls % c.places_of-m.result)) c.pattern_of.ensures in
    let rule =
    by_place a.plan.now a.set c.if-set-ge8.false (State.serves a.links.now a.need) refl c.places_of-m.result a.sls all (omega (arith, all)) place same
    in
    c.set_link.ensures ∙ there a.plan.now a.set c.if-set-ge8.false place (omega (arith, all)) ∙ sym rule
