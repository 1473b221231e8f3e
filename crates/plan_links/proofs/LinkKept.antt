-- A link put into tables of sets and links that agree leaves them so. Assumes nothing.
use mathlib.Core.Path.{◌≡◌, sym, ap, subst, ◌∙◌}
use mathlib.Core.Bool.{true, false, false≢true}
use mathlib.Core.List.{List}
use Prim.Native.Nat.{ℕ, ◌+◌, ◌<◌}
use native.Mathlib.Omega.{arith}
use lib.Dec.{ltb, eqb}
use lib.ListN.{length, get_or, set, take}
use lib.Seq.{get_or-take, get_or-set_same, get_or-set_other, length-take-le}
use borrow.Author.Tests.{eqb-false}
use Rattle.plan.specs.declared.data.Link.{Link}
use Rattle.plan.specs.Data.{absent_link}
use Rattle.plan_entries.specs.Insert.{inserted}
use Rattle.plan_repeats.specs.Search.{one, many}
use Rattle.plan_entries.proofs.Inserted.{inserted_length}
use Rattle.plan_entries.proofs.InOrder.{inserted_each, inserted_ascending}
use Rattle.plan.proofs.Order.{Ascending, Parts, parts_same}
use Rattle.plan_repeats.proofs.Lower.{many_parts}
use Rattle.plan_repeats.proofs.Searches.{none_passes}
use Rattle.plan.proofs.Sound.{Holds}

-- a link that wasn't given stands in no set, so that its entry may change
module _ (links : List Link) (number : ℕ) (link : Link) (absent : (get_or links number absent_link).given ≡ false) where
  other_link : (those : ℕ) (own : List ℕ) → Holds links those own → (i : ℕ) → i < length own
      → get_or (set links number link) (get_or own i 0) absent_link ≡ get_or links (get_or own i 0) absent_link
  other_link those own holds i h =
      get_or-set_other links number (get_or own i 0) link absent_link
      (λ same. false≢true (sym absent ∙ ap (λ (n : ℕ). (get_or links n absent_link).given) (sym same) ∙ holds.present i h))

  pub holds_still : (those : ℕ) (own : List ℕ) → Holds links those own → Holds (set links number link) those own
  holds_still those own holds =
      let same = other_link those own holds in
      record {
        order = λ i j h k. omega (arith, ap (λ (l : Link). l.slc) (same i (omega arith)), ap (λ (l : Link). l.slc) (same j k), holds.order i j h k);
        table = holds.table;
        present = λ i h. ap (λ (l : Link). l.given) (same i h) ∙ holds.present i h;
        belongs = λ i h. ap (λ (l : Link). l.set) (same i h) ∙ holds.belongs i h;
      }

-- a link more among those of its set, behind those of a lower SLC
module _ (links : List Link) (those number slc n : ℕ) (places : List ℕ)
    (whole : length links ≡ 32) (eight : length places ≡ 8) (is_in_range : number < 32) (room : n < 8)
    (absent : (get_or links number absent_link).given ≡ false)
    (holds : Holds links those (take n places))
    (new-slc : one (λ (link : ℕ). eqb (get_or links link absent_link).slc slc) (take n places) ≡ false) where
  abbrev link : Link
  link = record { given = true; set = those; slc = slc }

  abbrev next : List Link
  next = set links number link

  abbrev lower : ℕ
  lower = many (λ (m : ℕ). ltb (get_or links m absent_link).slc slc) (take n places)

  abbrev key : ℕ → ℕ
  key m = (get_or next m absent_link).slc

  entry : get_or next number absent_link ≡ link
  entry = get_or-set_same links number link absent_link (omega arith)

  size : length (take n places) ≡ n
  size = length-take-le n places (omega arith)

  still : Holds next those (take n places)
  still = holds_still links number link absent those (take n places) holds

  old : (i : ℕ) → i < n → get_or (take n places) i 0 ≡ get_or places i 0
  old i h = get_or-take n places i 0 h

  -- the SLCs are as they were
  same_slc : (i : ℕ) → i < n → (get_or links (get_or (take n places) i 0) absent_link).slc ≡ key (get_or places i 0)
  same_slc i h =
      sym (ap (λ (l : Link). l.slc) (other_link links number link absent those (take n places) holds i (omega (arith, size))))
      ∙ ap key (old i h)

  parted : Parts (λ i. key (get_or places i 0)) n (key number) lower
  parted =
      let own_slc : slc ≡ key number = ap (λ (l : Link). l.slc) (sym entry) in
      let before = many_parts (λ m. (get_or links m absent_link).slc) 0 slc (take n places) holds.order in
      parts_same (λ i. (get_or links (get_or (take n places) i 0) absent_link).slc) (λ i. key (get_or places i 0)) n (key number) lower same_slc
      (subst (λ (x : ℕ). Parts (λ i. (get_or links (get_or (take n places) i 0) absent_link).slc) n x lower) own_slc
      (subst (λ (m : ℕ). Parts (λ i. (get_or links (get_or (take n places) i 0) absent_link).slc) m slc lower) size before))

  fresh : (i : ℕ) → i < n → key (get_or places i 0) ≡ key number → ⊥
  fresh i h same =
      eqb-false _ _ (none_passes (λ (m : ℕ). eqb (get_or links m absent_link).slc slc) 0 (take n places) new-slc i (omega (arith, size)))
      (same_slc i h ∙ same ∙ ap (λ (l : Link). l.slc) entry)

  order : Ascending (λ i. key (get_or places i 0)) n
  order i j h k = omega (arith, holds.order i j h (omega (arith, size)), same_slc i (omega arith), same_slc j k)

  abbrev more : List ℕ
  more = inserted lower number places

  long : length (take (n + 1) more) ≡ n + 1
  long = length-take-le (n + 1) more (omega (arith, inserted_length lower number places))

  there : (i : ℕ) → i < n + 1 → get_or (take (n + 1) more) i 0 ≡ get_or more i 0
  there i h = get_or-take (n + 1) more i 0 h

  -- what holds of the new link and of the others holds of all
  each : (P : ℕ → Type 0) → P number → ((i : ℕ) → i < length (take n places) → P (get_or (take n places) i 0))
      → (i : ℕ) → i < length (take (n + 1) more) → P (get_or (take (n + 1) more) i 0)
  each P new others i h =
      subst P (sym (there i (omega (arith, long))))
      (inserted_each 0 places n lower number (omega arith) parted.within P new (λ m k. subst P (old m k) (others m (omega (arith, size)))) i (omega (arith, long)))

  pub holds_more : Holds next those (take (n + 1) more)
  holds_more =
      record {
        order =
            λ i j h k.
            omega (
              arith,
              ap key (there i (omega (arith, long))),
              ap key (there j (omega (arith, long))),
              inserted_ascending 0 places n lower number (omega arith) parted.within key order parted fresh i j h (omega (arith, long)),
            );
        table = each (λ m. m < 32) is_in_range still.table;
        present = each (λ m. (get_or next m absent_link).given ≡ true) (ap (λ (l : Link). l.given) entry) still.present;
        belongs = each (λ m. (get_or next m absent_link).set ≡ those) (ap (λ (l : Link). l.set) entry) still.belongs;
      }
