-- A link that comes into service takes pairs of its own set from one link only, the one that its sources name, and never from its
-- own set and from another together: so one CBD is enough, and T3 and T4 never both start. Assumes nothing.
use mathlib.Core.Path.{◌≡◌, refl, sym, ap, subst, ◌∙◌}
use mathlib.Core.Bool.{Bool, true, false, cond, not, ◌&&◌, and-eq-true_iff, true≢false}
use mathlib.Core.List.{List}
use Prim.Native.Nat.{ℕ, zero, suc, ◌+◌, ◌*◌, ◌/◌, ◌%◌, ◌≤◌, ◌<◌}
use native.Mathlib.Nat.{mod-lt}
use native.Mathlib.Omega.{arith}
use lib.Dec.{eqb, ltb}
use lib.ListN.{length, get_or}
use lib.Seq.{drop-cons}
use borrow.Author.Tests.{lt-ltb, ltb-true, ltb-false, eqb-true, eqb-false}
use borrow.Table.Steps.{cases}
use Rattle.plan.proofs.Split.{split}
use Rattle.plan.specs.declared.data.Plan.{Plan}
use Rattle.plan.specs.Data.{link_at, links_of}
use Rattle.plan.specs.Find.{given}
use Rattle.plan.specs.Sound.{Sound, link_in}
use Rattle.area_links.specs.LinkRecords.{record_at, with_record}
use Rattle.route_choice.specs.Which.{none, chosen}
use Rattle.route_serving.specs.State.{serves, is_marked}
use Rattle.route_choice.specs.Chosen.{used_links, Back, Takes, StandsInSet}
use Rattle.route_choice.proofs.Serving.{round_length, round_at}
use Rattle.route_serving.proofs.Proper.{serves_proper}
use Rattle.route_choice.proofs.Used.{route_used, used_first}
use Rattle.route_choice.proofs.ComingBack.{taken_from_one, sound_apart}
use Rattle.lookup.specs.Lookup.{no_set, set_of}
use Rattle.route_ways.specs.Way.{for_users, link_for, current_link}
use Rattle.changeback_pairs.specs.declared.Sources.{Sources}
use Rattle.changeback_pairs.specs.Pairs.{sources, came_from, with_source, sources_from, sources_of}
use Rattle.changeback_service.specs.InService.{in_service_record, comes_as, declares, sources_in, links_in}
use Rattle.changeback_service.proofs.Carries.{comes_back, same_way, comes_carrying}
use Rattle.changeback_pairs.proofs.Coming.{no_source, other_source, known_source, first_source}

module _ (plan : Plan) (sound : Sound plan) where
  -- the set that a link stands in is its own
  own_set : (link set : ℕ) → StandsInSet plan link set → set_of plan link ≡ set
  unfolding set_of
  own_set link set stands =
      let links = links_of plan set in
      let place = stands.place in
      let inside = stands.in_the_set in
      let here : link_in plan set place ≡ link =
      ap (λ (l : List ℕ). get_or l 0 0) (sym (drop-cons links place 0 inside) ∙ drop-cons links place none inside)
      ∙ stands.stands_there
      in
      let below : link < 32 = omega (arith, sound.in_table set place inside, here) in
      ap (λ (t : Bool). cond t (link_at plan link).set no_set) (lt-ltb link 32 below)
      ∙ ap (λ (l : ℕ). (link_at plan l).set) (sym here)
      ∙ sound.own_set set place inside

  -- a link that the rule yields stands in its set
  stands_in : (serves marked : ℕ → Bool) (destination sls link : ℕ) → chosen serves marked plan destination sls ≡ link
      → link < none → StandsInSet plan link (set_of plan link)
  stands_in serves marked destination sls link is h =
      let used = route_used serves marked plan destination sls (omega arith) in
      let rank = used.0 in
      let links : List ℕ = used_links plan destination rank in
      let start : ℕ = sls % length links in
      let first = used_first serves marked plan destination sls rank used.1 in
      let inside : first.place < length links = omega (arith, first.in_turn, round_length links start) in
      let all : 0 < length links = omega arith in
      let there : StandsInSet plan link _ = record {
        place = (start + first.place) % length links;
        in_the_set = mod-lt (start + first.place) all;
        stands_there = sym (round_at links start (mod-lt sls all) first.place none inside) ∙ first.stands_there ∙ is;
      } in
      subst (λ (set : ℕ). StandsInSet plan link set) (sym (own_set link _ there)) there

module _ (plan : Plan) (sound : Sound plan) (before after marks : List ℕ) (link : ℕ)
    (back : Back (serves before for_users) (serves after for_users) link) where
  -- a pair that comes from a link is taken from it
  takes : (destination sls : ℕ) → came_from plan before after marks link destination sls < none
      → Takes (serves before for_users) (serves after for_users) (is_marked marks destination) plan destination sls link
      (came_from plan before after marks link destination sls)
  unfolding came_from link_for
  takes destination sls h =
      let was = current_link plan before marks destination sls in
      let is = current_link plan after marks destination sls in
      cases (eqb is link && not (eqb was link))
      (λ e. record {
        was_on = sym (ap (λ (t : Bool). cond t was none) e);
        was_a_link = h;
        is_on = eqb-true is link ((and-eq-true_iff (eqb is link) (not (eqb was link))).0 e).0;
      })
      (λ e. absurd (omega (arith, h, ap (λ (t : Bool). cond t was none) e)))

  -- the link that a pair comes from, and whether that is of the link's own set or of another
  abbrev from : ℕ → ℕ
  from pair = came_from plan before after marks link (pair / 16) (pair % 16)

  abbrev Own : ℕ → Type 0
  Own pair = (from pair < none) × (set_of plan (from pair) ≡ set_of plan link)

  abbrev Other : ℕ → Type 0
  Other pair = (from pair < none) × (set_of plan (from pair) ≡ set_of plan link → ⊥)

  -- where a pair comes from its own set, all come from one link
  from_one_link : (pair pair' : ℕ) → Own pair → from pair' < none → from pair' ≡ from pair
  from_one_link pair pair' own h =
      let one = takes (pair / 16) (pair % 16) own.0 in
      let other = takes (pair' / 16) (pair' % 16) h in
      let there =
      stands_in plan sound (serves after for_users) (is_marked marks (pair / 16)) (pair / 16) (pair % 16) link one.is_on
      (serves_proper after for_users link back.serves_again)
      in
      let came =
      stands_in plan sound (serves before for_users) (is_marked marks (pair / 16)) (pair / 16) (pair % 16) (from pair)
      one.was_on own.0
      in
      taken_from_one (serves before for_users) (serves after for_users) link back plan (sound_apart plan sound) (set_of plan link)
      there (is_marked marks (pair / 16)) (is_marked marks (pair' / 16)) (pair / 16) (pair' / 16) (pair % 16) (pair' % 16)
      (from pair) (from pair') one other (subst (λ (set : ℕ). StandsInSet plan (from pair) set) own.1 came)

  -- sources that some pairs have
  record Found (known : Sources) : Type 0 where
    own_found : known.own < none → (pair : ℕ) × Own pair × (known.own ≡ from pair)
    other_found : known.other ≡ true → (pair : ℕ) × Other pair

  -- a pair more finds no others
  found_more : (pair : ℕ) (known : Sources) → Found known → Found (with_source plan link (from pair) known)
  found_more pair known found =
      let own = set_of plan (from pair) in
      let its = set_of plan link in
      cases (ltb (from pair) none)
      (λ f.
      let h = ltb-true (from pair) none f in
      cases (eqb own its)
      (λ s.
      let same = eqb-true own its s in
      cases (ltb known.own none)
      (λ k.
      subst Found (known_source plan link (from pair) known h own its refl refl same (ltb-true known.own none k)) found)
      (λ k.
      subst Found (first_source plan link (from pair) known h own its refl refl same (ltb-false known.own none k))
      (record { own_found = λ _. (pair, (h, same), refl); other_found = found.other_found })))
      (λ s.
      let apart = eqb-false own its s in
      subst Found (other_source plan link (from pair) known h own its refl refl apart)
      (record { own_found = found.own_found; other_found = λ _. (pair, (h, apart)) })))
      (λ f. subst Found (no_source plan link (from pair) known (ltb-false (from pair) none f)) found)

  found_all : (pair more : ℕ) (known : Sources) → Found known → Found (sources_from plan before after marks link pair more known)
  unfolding sources_from
  found_all pair zero known found = found
  found_all pair (suc more) known found =
      found_all (pair + 1) more (with_source plan link (from pair) known) (found_more pair known found)

  -- a source of its own set that is known stays known
  kept_more : (f : ℕ) (known : Sources) → known.own < none → (with_source plan link f known).own < none
  unfolding with_source
  kept_more f known h =
      let k = lt-ltb known.own none h in
      cases (ltb f none)
      (λ e. cases (eqb (set_of plan f) (set_of plan link)) (λ s. simp (e, s, k) h) (λ s. simp (e, s) h))
      (λ e. simp e h)

  kept_all : (pair more : ℕ) (known : Sources) → known.own < none
      → (sources_from plan before after marks link pair more known).own < none
  unfolding sources_from
  kept_all pair zero known h = h
  kept_all pair (suc more) known h =
      kept_all (pair + 1) more (with_source plan link (from pair) known) (kept_more (from pair) known h)

  -- one that a pair has becomes known
  known_now : (pair : ℕ) (known : Sources) → Own pair → (with_source plan link (from pair) known).own < none
  known_now pair known own =
      let its = set_of plan link in
      cases (ltb known.own none)
      (λ k. kept_more (from pair) known (ltb-true known.own none k))
      (λ k.
      subst (λ (s : Sources). s.own < none)
      (first_source plan link (from pair) known own.0 (set_of plan (from pair)) its refl refl own.1
      (ltb-false known.own none k))
      own.0)

  known_then : (pair more : ℕ) (known : Sources) (some : ℕ) → Own some → pair ≤ some → some < pair + more
      → (sources_from plan before after marks link pair more known).own < none
  unfolding sources_from
  known_then pair zero known some own h k = absurd (omega arith)
  known_then pair (suc more) known some own h k =
      let next = with_source plan link (from pair) known in
      split pair some
      (λ less. known_then (pair + 1) more next some own (omega arith) (omega arith))
      (λ least.
      let same : some ≡ pair = omega arith in
      kept_all (pair + 1) more next (known_now pair known (subst Own same own)))

  abbrev all : Sources
  all = sources_of plan before after marks link

  all_found : Found all
  all_found =
      found_all 0 (16 * given plan) (sources none false)
      (record { own_found = λ h. absurd (omega arith); other_found = λ e. absurd (true≢false (sym e)) })

  is_named : (one pair : ℕ) → Own one → all.own ≡ from one → from pair < none → from pair ≡ all.own
  is_named one pair own named h = from_one_link one pair own h ∙ sym named

  -- a pair that comes from its own set comes from the link that the sources name
  pub comes_from_own : (destination sls : ℕ) → destination < given plan → sls < 16
      → let came = came_from plan before after marks link destination sls in
      came < none → set_of plan came ≡ set_of plan link → came ≡ all.own
  comes_from_own destination sls d s h same =
      let pair : ℕ = 16 * destination + sls in
      let its-place : pair / 16 ≡ destination = omega arith in
      let its-sls : pair % 16 ≡ sls = omega arith in
      let is : from pair ≡ came_from plan before after marks link destination sls =
      ap (λ (n : ℕ). came_from plan before after marks link n (pair % 16)) its-place
      ∙ ap (λ (n : ℕ). came_from plan before after marks link destination n) its-sls
      in
      let own : Own pair = (omega arith, ap (λ (f : ℕ). set_of plan f) is ∙ same) in
      let known = known_then 0 (16 * given plan) (sources none false) pair own (omega arith) (omega arith) in
      let one = all_found.own_found known in
      sym is ∙ is_named one.0 pair one.1 one.2 own.0

  -- and then no pair comes from another set
  pub not_both : all.own < none → all.other ≡ false
  not_both h =
      cases all.other
      (λ e.
      let one = all_found.own_found h in
      let another = all_found.other_found e in
      let same = from_one_link one.0 another.0 one.1 another.1.0 in
      absurd (another.1.1 (ap (λ (f : ℕ). set_of plan f) same ∙ one.1.1)))
      (λ e. e)

-- so it is of a link that was out
module _ (plan : Plan) (sound : Sound plan) (links marks : List ℕ) (link : ℕ) (size : length links ≡ 256) (h : link < 32)
    (out : (record_at links link).state ≡ 0) where
  opened : Back (serves links for_users) (serves (with_record links link (in_service_record 2 false 0)) for_users) link
  opened = comes_back links link size h (in_service_record 2 false 0) (omega arith) out

  -- the links after it carry as if it were open
  as_open : (destination sls : ℕ)
      → came_from plan links (links_in plan links marks link) marks link destination sls
      ≡ came_from plan links (with_record links link (in_service_record 2 false 0)) marks link destination sls
  unfolding came_from links_in
  as_open destination sls =
      let from = sources_in plan links marks link in
      let was = current_link plan links marks destination sls in
      ap (λ (l : ℕ). cond (eqb l link && not (eqb was link)) was none)
      (same_way links link size h plan (comes_as from) (in_service_record 2 false 0) (comes_carrying from) (omega arith) marks destination
      sls)

  -- a pair that comes to it from its own set comes from the link that gets its CBD
  pub one_source : (destination sls : ℕ) → destination < given plan → sls < 16
      → let came = came_from plan links (links_in plan links marks link) marks link destination sls in
      came < none → set_of plan came ≡ set_of plan link → came ≡ (sources_in plan links marks link).own
  unfolding sources_in
  one_source destination sls d s k same =
      let is = as_open destination sls in
      is
      ∙ comes_from_own plan sound links (with_record links link (in_service_record 2 false 0)) marks link opened destination sls d s
      (omega (arith, is, k)) (ap (λ (f : ℕ). set_of plan f) (sym is) ∙ same)

  -- and where it sends one, T3 doesn't start
  pub never_both : declares (sources_in plan links marks link) ≡ true → (sources_in plan links marks link).other ≡ false
  unfolding sources_in
  never_both e =
      not_both plan sound links (with_record links link (in_service_record 2 false 0)) marks link opened
      (ltb-true (sources_of plan links (with_record links link (in_service_record 2 false 0)) marks link).own none e)
