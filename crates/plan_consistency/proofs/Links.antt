-- A link line put into a plan that fits leaves one that does. Assumes nothing.
use mathlib.Core.Path.{◌≡◌, refl, sym, ap, subst, ◌∙◌}
use mathlib.Core.Bool.{true, false, false≢true}
use mathlib.Core.List.{List}
use Prim.Native.Nat.{ℕ, suc, ◌+◌, ◌≤◌, ◌<◌}
use native.Mathlib.Omega.{arith}
use lib.ListN.{length, get_or, set, take}
use lib.Seq.{get_or-take, length-take-le, get_or-set_same, get_or-set_other}
use Rattle.plan.specs.declared.data.Plan.{Plan}
use Rattle.plan.specs.declared.data.Link.{Link}
use Rattle.plan.specs.declared.data.LinkSet.{LinkSet}
use Rattle.plan.specs.Data.{absent_set, absent_link, set_at, link_at, links_of}
use Rattle.plan.specs.Sound.{Sound}
use Rattle.plan.proofs.Split.{split, alike}
use Rattle.plan_repeats.specs.Taken.{lower}
use Rattle.plan_repeats.proofs.Lower.{many_parts}
use Rattle.plan_entries.specs.Insert.{inserted}
use Rattle.plan_entries.proofs.Inserted.{inserted_length, inserted_before, inserted_at, inserted_behind}
use Rattle.plan_links.specs.LinkLines.{links_with, with_link}
use Rattle.plan_consistency.proofs.Fits.{InSet, Fits, serves_still}

-- a link more among those of a set: it stands there, and so do the others
module _ (n at number adjacent : ℕ) (places : List ℕ) (eight : length places ≡ 8) (room : n < 8) (within : at ≤ n) where
  abbrev more : List ℕ
  more = inserted at number places

  abbrev next : LinkSet
  next = record { given = true; adjacent = adjacent; count = n + 1; links = more }

  long : length (take (n + 1) more) ≡ n + 1
  long = length-take-le (n + 1) more (omega (arith, inserted_length at number places))

  stands : (i link : ℕ) → i < n + 1 → get_or more i 0 ≡ link → InSet next link
  stands i link h e = record { is_given = refl; place = i; within = omega (arith, long); there = get_or-take (n + 1) more i 0 h ∙ e }

  pub new_stands : InSet next number
  new_stands = stands at number (omega arith) (inserted_at at number places 0 (omega arith))

  pub old_stands : (link i : ℕ) → i < n → get_or places i 0 ≡ link → InSet next link
  old_stands link i h e =
      split i at
      (λ before. stands i link (omega arith) (inserted_before at number places 0 i before (omega arith) ∙ e))
      (λ behind. stands (suc i) link (omega arith) (inserted_behind at number places 0 i behind (omega arith) ∙ e))

module _ (plan : Plan) (sound : Sound plan) (fits : Fits plan) (number those slc : ℕ) (in_table : number < 32) (in_sets : those < 8)
    (has : plan.given ≡ true) (known : (set_at plan those).given ≡ true) (new : (link_at plan number).given ≡ false) (room : (set_at plan those).count < 8) where
  abbrev link : Link
  link = record { given = true; set = those; slc = slc }

  abbrev full : LinkSet
  full = record { given = true; adjacent = (set_at plan those).adjacent; count = (set_at plan those).count + 1; links = links_with plan number those slc }

  abbrev sets : List LinkSet
  sets = set plan.sets those full

  abbrev links : List Link
  links = set plan.links number link

  set_here : get_or sets those absent_set ≡ full
  set_here = get_or-set_same plan.sets those full absent_set (omega (arith, sound.eight_sets))

  set_there : (s : ℕ) → (s ≡ those → ⊥) → get_or sets s absent_set ≡ set_at plan s
  set_there s e = get_or-set_other plan.sets those s full absent_set e

  link_here : get_or links number absent_link ≡ link
  link_here = get_or-set_same plan.links number link absent_link (omega (arith, sound.all_links))

  link_there : (l : ℕ) → (l ≡ number → ⊥) → get_or links l absent_link ≡ link_at plan l
  link_there l e = get_or-set_other plan.links number l link absent_link e

  -- each set is given as it was, and goes where it went
  same_given : (s : ℕ) → (get_or sets s absent_set).given ≡ (set_at plan s).given
  same_given s =
      alike s those
      (λ e.
      ap (λ (n : ℕ). (get_or sets n absent_set).given) e
      ∙ ap (λ (t : LinkSet). t.given) set_here
      ∙ sym known
      ∙ ap (λ (n : ℕ). (set_at plan n).given) (sym e))
      (λ e. ap (λ (t : LinkSet). t.given) (set_there s e))

  same_adjacent : (s : ℕ) → (get_or sets s absent_set).adjacent ≡ (set_at plan s).adjacent
  same_adjacent s =
      alike s those
      (λ e.
      ap (λ (n : ℕ). (get_or sets n absent_set).adjacent) e
      ∙ ap (λ (t : LinkSet). t.adjacent) set_here
      ∙ ap (λ (n : ℕ). (set_at plan n).adjacent) (sym e))
      (λ e. ap (λ (t : LinkSet). t.adjacent) (set_there s e))

  abbrev count : ℕ
  count = (set_at plan those).count

  size : length (links_of plan those) ≡ count
  size = length-take-le count (set_at plan those).links (omega (arith, sound.eight_places those in_sets))

  -- the place of the new link is one of those of the set
  few : lower plan (links_of plan those) slc ≤ count
  few = omega (arith, size, (many_parts (λ m. (link_at plan m).slc) 0 slc (links_of plan those) (sound.slc_order those)).within)

  -- what stood in a set stands there still
  stands_still : (l s : ℕ) → InSet (set_at plan s) l → InSet (get_or sets s absent_set) l
  stands_still l s old =
      alike s those
      (λ e.
      let old-there : InSet (set_at plan those) l = subst (λ (n : ℕ). InSet (set_at plan n) l) e old in
      let i : ℕ = old-there.place in
      let inside : i < count = omega (arith, size, old-there.within) in
      subst (λ (n : ℕ). InSet (get_or sets n absent_set) l) (sym e)
      (subst (λ (t : LinkSet). InSet t l) (sym set_here)
      (old_stands count (lower plan (links_of plan those) slc) number (set_at plan those).adjacent (set_at plan those).links (sound.eight_places those in_sets) room few l i inside
      (sym (get_or-take count (set_at plan those).links i 0 inside) ∙ old-there.there))))
      (λ e. subst (λ (t : LinkSet). InSet t l) (sym (set_there s e)) old)

  stands_each : (l : ℕ) → (get_or links l absent_link).given ≡ true → InSet (get_or sets (get_or links l absent_link).set absent_set) l
  stands_each l e =
      alike l number
      (λ same.
      subst (λ (n : ℕ). InSet (get_or sets (get_or links n absent_link).set absent_set) n) (sym same)
      (subst (λ (entry : Link). InSet (get_or sets entry.set absent_set) number) (sym link_here)
      (subst (λ (t : LinkSet). InSet t number) (sym set_here)
      (new_stands count (lower plan (links_of plan those) slc) number (set_at plan those).adjacent (set_at plan those).links (sound.eight_places those in_sets) room few))))
      (λ differs.
      let as_it_was = link_there l differs in
      subst (λ (entry : Link). InSet (get_or sets entry.set absent_set) l) (sym as_it_was)
      (stands_still l (link_at plan l).set (fits.standing l (ap (λ (entry : Link). entry.given) (sym as_it_was) ∙ e))))

  pub link_fits : Fits (with_link plan number those slc (links_with plan number those slc))
  link_fits =
      record {
        node_first = λ e. absurd (false≢true (sym e ∙ has));
        standing = stands_each;
        apart =
            record {
              once = λ s o e f same. fits.apart.once s o (sym (same_given s) ∙ e) (sym (same_given o) ∙ f) (sym (same_adjacent s) ∙ same ∙ same_adjacent o);
              not_ours = λ s e same. fits.apart.not_ours s (sym (same_given s) ∙ e) (sym (same_adjacent s) ∙ same);
            };
        served = λ place h. serves_still plan.code plan.sets sets (λ s e. same_given s ∙ e) _ (fits.served place h);
      }
