-- No second outcome: a contract that says what page is left determines the area and the place. Assumes nothing.
use Prim.Native.Nat.{ℕ}
use mathlib.Core.Path.{◌≡◌, sym, ap, ◌∙◌}
use mathlib.Core.List.{List}
use Rattle.text_pages.specs.Page.{Page, page}

pub page_once : {left : Page} {area area' : List ℕ} {at at' : ℕ} → page area at ≡ left → page area' at' ≡ left
    → (area ≡ area') × (at ≡ at')
page_once one other = let same = one ∙ sym other in (ap (λ (p : Page). p.area) same, ap (λ (p : Page). p.at) same)
