-- A link that comes into service: each pair that it takes from another of its own set was on the link that its CBD names, and a CBD names no link that
-- no pair was taken from. Assumes nothing.
use mathlib.Core.Path.{◌≡◌, refl, sym, ap, ap₂, ◌∙◌}
use mathlib.Core.Bool.{Bool, true, false, cond, not, ◌&&◌, and-eq-true_iff}
use mathlib.Core.List.{List}
use Prim.Native.Nat.{ℕ, zero, suc, ◌+◌, ◌*◌, ◌/◌, ◌%◌, ◌<◌}
use native.Mathlib.Omega.{arith}
use lib.Dec.{eqb, ltb}
use borrow.Author.Tests.{lt-ltb, ltb-true, eqb-true, eqb-false, eq-eqb, ne_eqb, not-true}
use Rattle.plan.specs.declared.data.Plan.{Plan}
use Rattle.plan.specs.Find.{given}
use Rattle.plan.specs.Sound as Plan
use Rattle.area_links.specs.LinkRecords.{record_at, with_record}
use Rattle.replies.specs.Areas.{Areas}
use Rattle.route_choice.specs.Which.{none}
use Rattle.route_ways.specs.Way.{current_link}
use Rattle.lookup.specs.Lookup.{set_of}
use Rattle.wire_messages.specs.declared.management.Message.TheVariants.{CBD}
use Rattle.changeback_pairs.specs.declared.Sources.{Sources}
use Rattle.changeback_pairs.specs.Pairs.{sources, came_from, with_source, sources_from}
use Rattle.changeback_service.specs.InService.{in_service_record, declares, comes_as, sources_in, links_in}
use Rattle.changeback_service.proofs.Carries.{same_way, comes_carrying}
use Rattle.changeback_service.proofs.OneSource.{one_source}
use Rattle.changeback.specs.Service as Service
use Rattle.promise_runs.proofs.Outcomes.{RegularIn, by_test}
use Rattle.promise_runs.proofs.KeepsService.{was_out, first_done}
use Rattle.promise_contents.specs.Made.{declaration_of}
use Rattle.promise_queueing.specs.Making.{ComesFrom, DeclaresTo}

-- what holds of every link of its own set that a pair comes from holds of the one that the sources name
module _ (plan : Plan) (before after marks : List ℕ) (link : ℕ) (P : ℕ → Type 0) where
  abbrev from : ℕ → ℕ
  from pair = came_from plan before after marks link (pair / 16) (pair % 16)

  abbrev Named : Sources → Type 0
  Named known = known.own < none → P known.own

  own_more : (source : ℕ) (known : Sources) → (source < none → set_of plan source ≡ set_of plan link → P source) → Named known
      → Named (with_source plan link source known)
  unfolding with_source
  own_more source known here there =
      by_test Named (ltb source none) _ known
      (λ e.
      by_test Named (eqb (set_of plan source) (set_of plan link)) _ (sources known.own true)
      (λ same.
      by_test (λ (n : ℕ). n < none → P n) (ltb known.own none) known.own source (λ k. there)
      (λ k h. here h (eqb-true (set_of plan source) (set_of plan link) same)))
      (λ other. there))
      (λ e. there)

  own_all : (pair more : ℕ) (known : Sources)
      → ((k : ℕ) → k < pair + more → from k < none → set_of plan (from k) ≡ set_of plan link → P (from k)) → Named known
      → Named (sources_from plan before after marks link pair more known)
  unfolding sources_from
  own_all pair zero known each there = there
  own_all pair (suc more) known each there =
      own_all (pair + 1) more (with_source plan link (from pair) known) (λ k h. each k (omega arith))
      (own_more (from pair) known (each pair (omega arith)) there)

module _ (plan : Plan) (sound : Plan.Sound plan) (a : Areas) (octets : List ℕ) (regular : RegularIn a octets) (link : ℕ)
    (done : Service.reply_of plan a link ≡ 0)
    (b : Areas)
    (links-left : b.links ≡ links_in plan a.links a.marks link)
    (marks-left : b.marks ≡ a.marks) where
  abbrev named : Sources
  named = sources_in plan a.links a.marks link

  abbrev was : ℕ → ℕ → ℕ
  was destination sls = current_link plan a.links a.marks destination sls

  -- it was out
  out : (link < 32) × ((record_at a.links link).state ≡ 0)
  out = was_out plan sound a octets regular link (first_done plan sound a octets regular link done)

  -- the current links after it
  left : (destination sls : ℕ)
      → current_link plan b.links b.marks destination sls ≡ current_link plan (links_in plan a.links a.marks link) a.marks destination sls
  left destination sls = ap₂ (λ (links marks : List ℕ). current_link plan links marks destination sls) links-left marks-left

  -- the same as if it were open
  as_open : (destination sls : ℕ)
      → current_link plan b.links b.marks destination sls
      ≡ current_link plan (with_record a.links link (in_service_record 2 false 0)) a.marks destination sls
  unfolding links_in
  as_open destination sls =
      left destination sls
      ∙ same_way a.links link regular.links_long out.0 plan (comes_as named) (in_service_record 2 false 0) (comes_carrying named) (omega arith) a.marks
      destination
      sls

  -- a pair that comes from another of its own set
  comes_named : (m : ℕ) → ComesFrom plan a b link m → set_of plan m ≡ set_of plan link → m ≡ named.own
  unfolding came_from
  comes_named m comes own =
      let d = comes.destination in
      let s = comes.sls in
      let now = current_link plan (links_in plan a.links a.marks link) a.marks d s in
      let here : eqb now link ≡ true = eq-eqb now link (sym (left d s) ∙ comes.is_on) in
      let elsewhere : eqb (was d s) link ≡ false = ne_eqb (was d s) link (λ same. comes.another (sym comes.was_on ∙ same)) in
      let came : came_from plan a.links (links_in plan a.links a.marks link) a.marks link d s ≡ m =
      ap₂ (λ (t u : Bool). cond (t && not u) (was d s) none) here elsewhere ∙ comes.was_on
      in
      sym came
      ∙ one_source plan sound a.links a.marks link regular.links_long out.0 out.1 d s comes.a_destination comes.an_sls
      (omega (arith, came, comes.a_link))
      (ap (set_of plan) came ∙ own)

  -- where a pair comes to an open link in its place, it comes to it
  pair_comes : (k : ℕ) → k < 16 * given plan
      → let came = came_from plan a.links (with_record a.links link (in_service_record 2 false 0)) a.marks link (k / 16) (k % 16) in
      came < none → ComesFrom plan a b link came
  unfolding came_from
  pair_comes k low =
      let d : ℕ = k / 16 in
      let s : ℕ = k % 16 in
      let now = current_link plan (with_record a.links link (in_service_record 2 false 0)) a.marks d s in
      by_test (λ (m : ℕ). m < none → ComesFrom plan a b link m) (eqb now link && not (eqb (was d s) link)) (was d s) none
      (λ e h.
      let both = (and-eq-true_iff (eqb now link) (not (eqb (was d s) link))).0 e in
      record {
        destination = d;
        sls = s;
        a_destination = omega arith;
        an_sls = omega arith;
        was_on = refl;
        is_on = as_open d s ∙ eqb-true now link both.0;
        a_link = h;
        another = eqb-false (was d s) link (not-true (eqb (was d s) link) both.1);
      })
      (λ e h. absurd (omega arith))

  names_one : declares named ≡ true → ComesFrom plan a b link named.own × (set_of plan named.own ≡ set_of plan link)
  unfolding sources_in
  names_one e =
      own_all plan a.links (with_record a.links link (in_service_record 2 false 0)) a.marks link
      (λ (m : ℕ). ComesFrom plan a b link m × (set_of plan m ≡ set_of plan link))
      0
      (16 * given plan)
      (sources none false)
      (λ k low h own. (pair_comes k (omega arith) h, own))
      (λ h. absurd (omega arith))
      (ltb-true named.own none e)

  pub service_declares : DeclaresTo plan link (declaration_of plan a link) (eqb (Service.reply_of plan a link) 0 && declares named) a b
  service_declares =
      let reply = Service.reply_of plan a link in
      let zero_there = eq-eqb reply 0 done in
      record {
        each =
            λ m comes own.
            let same = comes_named m comes own in (
              ap₂ (λ (t u : Bool). t && u) zero_there (lt-ltb named.own none (omega (arith, same, comes.a_link))),
              ap CBD (sym same),
            );
        no_other =
            λ made.
            let one = names_one ((and-eq-true_iff (eqb reply 0) (declares named)).0 made).1 in
            (named.own, one.0, one.1, refl);
      }
