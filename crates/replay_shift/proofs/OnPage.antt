-- Pieces that have room on a page stand behind the text there, and what stood behind them stays. Assumes nothing.
use Rattle.std.proofs.Common.{◌≡◌, ℕ, ◌+◌, ◌≤◌, List, ◌++◌, length, take, drop, sym, ap, ◌∙◌, append_assoc, arith, length-append, length-take, take_at, drop_at, le-leb}
use Rattle.text_pages.specs.Page.{Page, page, puts, joined}
use Rattle.text_pages.proofs.Pages.{puts_joined}

pub record StandsOnPage (before : List ℕ) (at : ℕ) (pieces : List (List ℕ)) (out : List ℕ) (pending : ℕ) : Type 0 where
  pub pending_is : pending ≡ at + length (joined pieces)
  pub text_is : take pending out ≡ take at before ++ joined pieces
  pub rest_is : drop pending out ≡ drop pending before

pub stands : (before : List ℕ) (at : ℕ) (pieces : List (List ℕ)) (out : List ℕ) (pending : ℕ)
    → page out pending ≡ puts (page before at) pieces → at + length (joined pieces) ≤ length before → StandsOnPage before at pieces out pending
stands before at pieces out pending put room =
    let text = joined pieces in
    let all = put ∙ puts_joined before at pieces room in
    let past : pending ≡ at + length text = ap (λ (p : Page). p.at) all in
    let whole : out ≡ take at before ++ (text ++ drop (at + length text) before) =
    ap (λ (p : Page). p.area) all ∙ simp (le-leb (at + length text) (length before) room) in
    let parted : out ≡ (take at before ++ text) ++ drop (at + length text) before =
    whole ∙ sym (append_assoc (take at before) text (drop (at + length text) before)) in
    let long : length (take at before ++ text) ≡ pending =
    omega (arith, past, length-append (take at before) text, length-take at before) in
    record {
      pending_is = past;
      text_is = ap (take pending) parted ∙ take_at (take at before ++ text) (drop (at + length text) before) pending long;
      rest_is = ap (drop pending) parted ∙ drop_at (take at before ++ text) (drop (at + length text) before) pending long ∙ ap (λ (n : ℕ). drop n before) (sym past);
    }
