-- Facts on octets laid into an area: one part behind another, and that what has room is laid as a whole. Assumes nothing.
use mathlib.Core.Path.{◌≡◌, refl, sym, ap, ◌∙◌}
use mathlib.Core.Bool.{true}
use mathlib.Core.List.{List, [], ◌++◌, append_assoc}
use Prim.Native.Nat.{ℕ, ◌+◌, ◌≤◌}
use native.Mathlib.Nat.{add_assoc, add-zero}
use native.Mathlib.Omega.{arith}
use lib.ListN.{length, take, drop, length-append, length-take, length-drop, take-append-drop}
use lib.Seq.{take_at, drop-append-add, drop-drop}
use borrow.Author.Tests.{le-leb}
use Rattle.text.specs.Put.{room, written, past}
use Rattle.route_list.specs.RouteList.{laid}

-- what has room is put as a whole
pub put_done : (out : List ℕ) (at : ℕ) (octets : List ℕ) → at + length octets ≤ length out → (end : ℕ) (out' : List ℕ)
    → (end ≡ past out at octets) × (out' ≡ written out at octets)
    → (end ≡ at + length octets) × (out' ≡ laid out at octets)
put_done out at octets fits end out' done =
    let has : room out at octets ≡ true = le-leb (at + length octets) (length out) fits in
    (done.0 ∙ simp has, done.1 ∙ simp has)

module _ (out : List ℕ) (at : ℕ) (octets : List ℕ) (fits : at + length octets ≤ length out) where
  -- the area stays as long as it was
  pub laid_length : length (laid out at octets) ≡ length out
  laid_length = simp (length-append, length-take, length-drop) (omega arith)

  front : length (take at out ++ octets) ≡ at + length octets
  front = simp (length-append, length-take) (omega arith)

  whole : laid out at octets ≡ (take at out ++ octets) ++ drop (at + length octets) out
  whole = sym (append_assoc (take at out) octets (drop (at + length octets) out))

  kept : take (at + length octets) (laid out at octets) ≡ take at out ++ octets
  kept =
      ap (take (at + length octets)) whole
      ∙ take_at (take at out ++ octets) (drop (at + length octets) out) (at + length octets) front

  behind : (k : ℕ) → drop (at + length octets + k) (laid out at octets) ≡ drop (at + length octets + k) out
  behind k =
      ap (drop (at + length octets + k)) whole
      ∙ ap (λ (n : ℕ). drop (n + k) ((take at out ++ octets) ++ drop (at + length octets) out)) (sym front)
      ∙ drop-append-add (take at out ++ octets) (drop (at + length octets) out) k
      ∙ drop-drop k (at + length octets) out

  laid_behind : (more : List ℕ) → laid (laid out at octets) (at + length octets) more ≡ laid out at (octets ++ more)
  laid_behind more = simp (kept, behind) (simp (append_assoc, length-append, add_assoc))

  -- one part laid behind another is both laid
  pub laid_on : (more : List ℕ) (end end' : ℕ) (out' out'' : List ℕ)
      → (end ≡ at + length octets) × (out' ≡ laid out at octets)
      → (end' ≡ end + length more) × (out'' ≡ laid out' end more)
      → (end' ≡ at + length (octets ++ more)) × (out'' ≡ laid out at (octets ++ more))
  laid_on more end end' out' out'' first second = (
    simp length-append (omega (arith, first.0, second.0)),
    second.1
        ∙ ap (λ (place : ℕ). laid out' place more) first.0
        ∙ ap (λ (area : List ℕ). laid area (at + length octets) more) first.1
        ∙ laid_behind more,
  )

  -- and so of two that are put, where both have room
  pub put_behind : (more : List ℕ) (end end' : ℕ) (out' out'' : List ℕ) → at + length octets + length more ≤ length out
      → (end ≡ past out at octets) × (out' ≡ written out at octets)
      → (end' ≡ past out' end more) × (out'' ≡ written out' end more)
      → (end' ≡ at + length (octets ++ more)) × (out'' ≡ laid out at (octets ++ more))
  put_behind more end end' out' out'' both first second =
      let done = put_done out at octets fits end out' first in
      laid_on more end end' out' out'' done
      (put_done out' end more (omega (arith, done.0, ap length done.1, laid_length)) end' out'' second)

-- what a loop that writes has left: from its place on, the rest would make the whole
pub record Left (out₀ : List ℕ) (at : ℕ) (all : List ℕ) (out : List ℕ) (end : ℕ) (rest : List ℕ) : Type 0 where
  pub long : length out ≡ length out₀
  pub place : end + length rest ≡ at + length all
  pub area : laid out end rest ≡ laid out₀ at all

pub left_all : (out : List ℕ) (at : ℕ) (all : List ℕ) → Left out at all out at all
left_all out at all = record { long = refl; place = refl; area = refl }

module _ {out₀ all out rest : List ℕ} {at end : ℕ} (left : Left out₀ at all out end rest) where
  -- a turn lays the next part
  pub left_on : (octets more : List ℕ) (end' : ℕ) (out' : List ℕ) → rest ≡ octets ++ more → end + length octets ≤ length out
      → (end' ≡ end + length octets) × (out' ≡ laid out end octets) → Left out₀ at all out' end' more
  left_on octets more end' out' next fits done =
      let both = laid_on out end octets fits more end' (end' + length more) out' (laid out' end' more) done (refl, refl) in
      record {
        long = ap length done.1 ∙ laid_length out end octets fits ∙ left.long;
        place = both.0 ∙ ap (λ (l : List ℕ). end + length l) (sym next) ∙ left.place;
        area = both.1 ∙ ap (laid out end) (sym next) ∙ left.area;
      }

  -- the last part is laid
  pub left_last : (octets : List ℕ) (end' : ℕ) (out' : List ℕ) → rest ≡ octets
      → (end' ≡ end + length octets) × (out' ≡ laid out end octets) → (end' ≡ at + length all) × (out' ≡ laid out₀ at all)
  left_last octets end' out' last done = (
    done.0 ∙ ap (λ (l : List ℕ). end + length l) (sym last) ∙ left.place,
    done.1 ∙ ap (laid out end) (sym last) ∙ left.area,
  )

  -- nothing is left
  pub left_none : rest ≡ [] → (end ≡ at + length all) × (out ≡ laid out₀ at all)
  left_none none = left_last [] end out none (simp add-zero, simp (add-zero, take-append-drop))
