-- Facts on a page: pieces written one by one are pieces written together, the area keeps its length, and where all of them have room
-- they stand in it one behind the other.
-- Assumes nothing.
use mathlib.Core.Path.{◌≡◌, refl, sym, ap, ap₂, ◌∙◌}
use mathlib.Core.Bool.{true}
use mathlib.Core.List.{List, [], ◌∷◌, ◌++◌, append-nil, append_assoc}
use Prim.Native.Nat.{ℕ, ◌+◌, ◌≤◌}
use native.Mathlib.Nat.{add-zero}
use native.Mathlib.Omega.{arith}
use lib.ListN.{length, take, drop, take-append-drop, length-append, length-take, length-drop}
use lib.Seq.{take_at, drop_at, drop-drop}
use borrow.Author.Tests.{le-leb, leb-true}
use borrow.Table.Steps.{cases}
use Rattle.text.specs.Put.{room, written, past}
use Rattle.text_pages.specs.Page.{Page, page, put, puts, joined}

-- pieces behind pieces
pub puts_append : (p : Page) (before behind : List (List ℕ)) → puts p (before ++ behind) ≡ puts (puts p before) behind
unfolding puts
puts_append p [] behind = refl
puts_append p (piece ∷ before) behind = puts_append (put p piece) before behind

-- what a page is after some pieces
pub record Wrote (p : Page) (pieces : List (List ℕ)) (q : Page) : Type 0 where
  pub as_put : q ≡ puts p pieces

-- nothing more is put
pub ends : {p : Page} → Wrote p [] p
unfolding puts
ends = record { as_put = refl }

-- what is put last
pub last : {p q : Page} {pieces : List (List ℕ)} → q ≡ puts p pieces → Wrote p pieces q
last e = record { as_put = e }

module _ (area : List ℕ) (at : ℕ) {later : List ℕ} {past-it : ℕ} {more : List (List ℕ)} {q : Page} where
  -- one piece is put, then others
  pub next : (piece : List ℕ) → (past-it ≡ past area at piece) × (later ≡ written area at piece)
      → Wrote (page later past-it) more q → Wrote (page area at) (piece ∷ more) q
  unfolding puts
  next piece e rest = record { as_put = rest.as_put ∙ ap₂ (λ (a : List ℕ) (n : ℕ). puts (page a n) more) e.1 e.0 }

  -- some pieces are put, then others
  pub follow : (pieces : List (List ℕ)) → page later past-it ≡ puts (page area at) pieces
      → Wrote (page later past-it) more q → Wrote (page area at) (pieces ++ more) q
  follow pieces e rest = record { as_put = rest.as_put ∙ ap (λ (p : Page). puts p more) e ∙ sym (puts_append (page area at) pieces more) }

-- what is put goes by something that is known
pub put_by : {A : Type 0} (p : Page) (told : A → List (List ℕ)) {a b : A} {pieces : List (List ℕ)} → a ≡ b → pieces ≡ told b
    → puts p pieces ≡ puts p (told a)
put_by p told e f = ap (puts p) (f ∙ ap told (sym e))

-- of the pieces left some are put: those left then lead to the same page
pub left_on : (area : List ℕ) (at : ℕ) {later : List ℕ} {past-it : ℕ} (left pieces more : List (List ℕ)) {whole : Page}
    → left ≡ pieces ++ more → puts (page area at) left ≡ whole → page later past-it ≡ puts (page area at) pieces
    → puts (page later past-it) more ≡ whole
left_on area at left pieces more parts so_far e =
    ap (λ (p : Page). puts p more) e
    ∙ sym (puts_append (page area at) pieces more)
    ∙ ap (puts (page area at)) (sym parts)
    ∙ so_far

-- none is left
pub left_none : (p : Page) (left : List (List ℕ)) {whole : Page} → left ≡ [] → puts p left ≡ whole → p ≡ whole
unfolding puts
left_none p left none so_far = ap (puts p) (sym none) ∙ so_far

-- the area keeps its length
written_length : (area : List ℕ) (at : ℕ) (piece : List ℕ) → length (written area at piece) ≡ length area
written_length area at piece =
    cases (room area at piece)
    (λ e.
    let fits : at + length piece ≤ length area = leb-true _ _ e in
    simp (e, length-append, length-take, length-drop) (omega arith))
    (λ e. simp e)

pub puts_length : (p : Page) (pieces : List (List ℕ)) → length (puts p pieces).area ≡ length p.area
unfolding puts
puts_length p [] = refl
puts_length p (piece ∷ more) = puts_length (put p piece) more ∙ written_length p.area p.at piece

-- a piece that has room is written
fits : (area : List ℕ) (at : ℕ) (piece : List ℕ) → at + length piece ≤ length area
    → written area at piece ≡ take at area ++ piece ++ drop (at + length piece) area
fits area at piece h =
    simp (le-leb (at + length piece) (length area) h) (sym (append_assoc (take at area) piece (drop (at + length piece) area)))

-- two pieces that have room are written as one
written_both : (area : List ℕ) (at : ℕ) (piece more : List ℕ) → at + length piece + length more ≤ length area
    → written (written area at piece) (at + length piece) more ≡ written area at (piece ++ more)
written_both area at piece more h =
    let start : List ℕ = take at area ++ piece in
    let end : List ℕ = drop (at + length piece) area in
    let long : length start ≡ at + length piece = length-append (take at area) piece ∙ omega (arith, length-take at area) in
    let all : at + length (piece ++ more) ≡ at + length piece + length more = omega (arith, length-append piece more) in
    let room-left : at + length piece + length more ≤ length (start ++ end) = omega (arith, written_length area at piece, ap length (fits area at piece (omega arith))) in
    let kept : drop (at + length piece + length more) (start ++ end) ≡ drop (at + length (piece ++ more)) area =
    sym (drop-drop (length more) (at + length piece) (start ++ end))
    ∙ ap (drop (length more)) (drop_at start end (at + length piece) long)
    ∙ drop-drop (length more) (at + length piece) area
    ∙ ap (λ (n : ℕ). drop n area) (sym all)
    in
    ap (λ (w : List ℕ). written w (at + length piece) more) (fits area at piece (omega arith))
    ∙ fits (start ++ end) (at + length piece) more room-left
    ∙ ap₂ (λ (s e : List ℕ). s ++ more ++ e) (take_at start end (at + length piece) long) kept
    ∙ ap (λ (s : List ℕ). s ++ drop (at + length (piece ++ more)) area) (append_assoc (take at area) piece more)
    ∙ sym (fits area at (piece ++ more) (omega arith))

-- where all pieces have room they stand in the area one behind the other, and the place is past the last
pub puts_joined : (area : List ℕ) (at : ℕ) (pieces : List (List ℕ)) → at + length (joined pieces) ≤ length area
    → puts (page area at) pieces ≡ page (written area at (joined pieces)) (at + length (joined pieces))
unfolding puts joined
puts_joined area at [] h =
    let none : written area at [] ≡ area = fits area at [] h ∙ simp (append-nil, add-zero) (take-append-drop at area) in
    ap₂ page (sym none) (sym (add-zero at))
puts_joined area at (piece ∷ more) h =
    let both = length-append piece (joined more) in
    let here : room area at piece ≡ true = le-leb (at + length piece) (length area) (omega arith) in
    let past-both : at + length piece + length (joined more) ≡ at + length (piece ++ joined more) = omega arith in
    let past-it : past area at piece ≡ at + length piece = simp here in
    ap (λ (n : ℕ). puts (page (written area at piece) n) more) past-it
    ∙ puts_joined (written area at piece) (at + length piece) more (omega (arith, written_length area at piece))
    ∙ ap₂ page (written_both area at piece (joined more) (omega arith)) past-both
