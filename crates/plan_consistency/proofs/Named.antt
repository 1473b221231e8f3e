-- A point and an SLC name a link exactly if the link is configured with that SLC in the set to that point. Assumes nothing.
use mathlib.Core.Path.{◌≡◌, refl, sym, ap, ◌∙◌}
use mathlib.Core.Bool.{Bool, true, false, cond, ◌&&◌, and-eq-true_iff, false≢true}
use mathlib.Core.List.{List}
use Prim.Native.Nat.{ℕ, ◌<◌}
use native.Mathlib.Omega.{arith}
use lib.Dec.{ltb, eqb}
use lib.ListN.{length, get_or, length-take}
use lib.Seq.{get_or-take}
use borrow.Author.Tests.{lt-ltb, eq-eqb, eqb-true}
use borrow.Table.Steps.{cases}
use Rattle.plan.specs.declared.data.Plan.{Plan}
use Rattle.plan.specs.Data.{absent_link, set_at, link_at, links_of}
use Rattle.plan.specs.Sound.{Sound, link_in}
use Rattle.plan_configuration.specs.Configure.{configured}
use Rattle.plan_configuration.proofs.Made.{configured_sound}
use Rattle.lookup.specs.Lookup.{set_to, link_named, link_with, all_of, is_link, set_of, slc_of, adjacent_of}
use Rattle.lookup.proofs.Walks.{walk_hit, sets_walk, links_walk, set_passes, link_passes}
use Rattle.lookup.proofs.Named.{set_in_range, named_is_configured}
use Rattle.plan_consistency.specs.Consistent.{Consistent, NamesExactly}
use Rattle.plan_consistency.proofs.Fits.{same_all}
use Rattle.plan_consistency.proofs.Sets.{given_inside}
use Rattle.plan_consistency.proofs.Made.{configured_consistent}

both : (a b : Bool) → (a && b) ≡ true → (a ≡ true) × (b ≡ true)
both a b = (and-eq-true_iff a b).0

module _ (plan : Plan) (sound : Sound plan) (consistent : Consistent plan) where
  set_below : (those : ℕ) → (set_at plan those).given ≡ true → those < 8
  set_below those e = omega (arith, given_inside plan.sets those e, sound.eight_sets)

  -- the set to its adjacent point
  set_found : (those : ℕ) → (set_at plan those).given ≡ true → set_to plan (set_at plan those).adjacent ≡ those
  unfolding set_to
  set_found those e =
      let point = (set_at plan those).adjacent in
      let fails : (k : ℕ) → k < those → set_passes plan.sets point k ≡ false =
      λ k h.
      cases (set_passes plan.sets point k)
      (λ passes.
      let test = both (set_at plan k).given (eqb (set_at plan k).adjacent point) passes in
      absurd (omega (arith, consistent.adjacent_apart k those test.0 e (eqb-true (set_at plan k).adjacent point test.1))))
      (λ no. no)
      in
      sym
      (walk_hit (sets_walk plan point) those (record { within = omega (arith, set_below those e); failed = fails }) (set_below those e)
      ((and-eq-true_iff (set_at plan those).given (eqb point point)).1 (e, eq-eqb point point refl)))

  -- what a configured link's own words are
  module _ (link : ℕ) (below : link < 32) (e : (link_at plan link).given ≡ true) where
    abbrev those : ℕ
    those = (link_at plan link).set

    own_set : set_of plan link ≡ those
    unfolding set_of
    own_set = ap (λ (t : Bool). cond t those 8) (lt-ltb link 32 below)

    own_slc : slc_of plan link ≡ (link_at plan link).slc
    unfolding slc_of
    own_slc = ap (λ (t : Bool). cond t (link_at plan link).slc 0) (lt-ltb link 32 below)

    in_sets : those < 8
    in_sets = set_below those (consistent.links_in_sets link e).set_given

    own_point : adjacent_of plan link ≡ (set_at plan those).adjacent
    unfolding adjacent_of
    own_point =
        ap (λ (s : ℕ). cond (ltb s 8) (set_at plan s).adjacent 0) own_set
        ∙ ap (λ (t : Bool). cond t (set_at plan those).adjacent 0) (lt-ltb those 8 in_sets)

    -- among the links of its set it is the one with its SLC
    link_found : link_with plan (link_at plan link).slc (all_of (set_at plan those)) ≡ link
    link_found =
        let stands = consistent.links_in_sets link e in
        let i : ℕ = stands.place in
        let s = set_at plan those in
        let slc = (link_at plan link).slc in
        let entry : (k : ℕ) → k < length (links_of plan those) → link_in plan those k ≡ get_or s.links k 0 =
        λ k h. get_or-take s.count s.links k 0 (omega (arith, length-take s.count s.links))
        in
        let here : get_or s.links i 0 ≡ link = sym (entry i stands.within) ∙ stands.there in
        let passes : link_passes plan.links slc (get_or s.links i 0) ≡ true =
        ap (link_passes plan.links slc) here ∙ (and-eq-true_iff (ltb link 32) (eqb slc slc)).1 (lt-ltb link 32 below, eq-eqb slc slc refl)
        in
        let fails : (k : ℕ) → k < i → link_passes plan.links slc (get_or s.links k 0) ≡ false =
        λ k h.
        let inside : k < length (links_of plan those) = omega (arith, stands.within) in
        cases (link_passes plan.links slc (get_or s.links k 0))
        (λ yes.
        let l = get_or s.links k 0 in
        let same : (link_at plan l).slc ≡ slc = eqb-true (link_at plan l).slc slc (both (ltb l 32) (eqb (link_at plan l).slc slc) yes).1 in
        absurd (omega (
          arith,
          sound.slc_order those k i h stands.within,
          ap (λ (n : ℕ). (link_at plan n).slc) (entry k inside),
          same,
          ap (λ (n : ℕ). (link_at plan n).slc) stands.there,
        )))
        (λ no. no)
        in
        sym
        (walk_hit (links_walk plan slc s (length (links_of plan those)) refl) i (record { within = omega (arith, stands.within); failed = fails }) stands.within passes)
        ∙ here

    is_named : link_named plan (set_at plan those).adjacent (link_at plan link).slc ≡ link
    unfolding link_named
    is_named =
        ap (λ (s : ℕ). cond (ltb s 8) (link_with plan (link_at plan link).slc (all_of (set_at plan s))) 32) (set_found those (consistent.links_in_sets link e).set_given)
        ∙ ap (λ (t : Bool). cond t (link_with plan (link_at plan link).slc (all_of (set_at plan those))) 32) (lt-ltb those 8 in_sets)
        ∙ link_found

  has_node : (link : ℕ) → (link_at plan link).given ≡ true → plan.given ≡ true
  has_node link e =
      cases plan.given
      (λ yes. yes)
      (λ no.
      absurd
      (false≢true
      (sym (ap (λ (p : Plan). (link_at p link).given) (consistent.node_first no) ∙ same_all 32 absent_link absent_link (λ entry. entry.given ≡ false) refl refl link) ∙ e)))

  pub names_exactly : NamesExactly plan
  unfolding is_link
  names_exactly point slc link below = (
    λ named.
        let known = named_is_configured plan sound point slc (omega arith) in
        let e : (link_at plan link).given ≡ true = ap (λ (n : ℕ). (link_at plan n).given) (sym named) ∙ known.0 in
        let to_set : (link_at plan link).set ≡ set_to plan point =
        sym (own_set link below e) ∙ ap (set_of plan) (sym named) ∙ known.2
        in (
          (and-eq-true_iff plan.given (ltb link 32 && (link_at plan link).given)).1
              (has_node link e, (and-eq-true_iff (ltb link 32) (link_at plan link).given).1 (lt-ltb link 32 below, e)),
          own_point link below e ∙ ap (λ (s : ℕ). (set_at plan s).adjacent) to_set ∙ (set_in_range plan point (omega (arith, in_sets link below e))).1,
          own_slc link below e ∙ ap (λ (n : ℕ). (link_at plan n).slc) (sym named) ∙ known.1,
        ),
    λ words.
        let e = (both (ltb link 32) (link_at plan link).given (both plan.given (ltb link 32 && (link_at plan link).given) words.0).1).1 in
        ap (λ (p : ℕ). link_named plan p slc) (sym words.1 ∙ own_point link below e)
        ∙ ap (link_named plan (set_at plan (link_at plan link).set).adjacent) (sym words.2 ∙ own_slc link below e)
        ∙ is_named link below e,
  )

pub configured_names : (text : List ℕ) → NamesExactly (configured text).plan
configured_names text = names_exactly (configured text).plan (configured_sound text) (configured_consistent text)
