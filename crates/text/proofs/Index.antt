-- A search for a mark, place by place: where it stands, and where it doesn't. Assumes nothing.
use Rattle.std.proofs.Common.{◌≡◌, ℕ, suc, ◌+◌, ◌<◌, cond, eqb, List, length, drop, get_or, ap, ◌∙◌, arith, eq-eqb, ne_eqb}
use Rattle.std.proofs.lemmas.List.{at_drop_more, at_drop_all}
use Rattle.text.specs.Index.{index_of}

-- from a place on
step : (mark : ℕ) (text : List ℕ) (i : ℕ) → i < length text
    → index_of mark (drop i text) ≡ cond (eqb (get_or text i 0) mark) 0 (suc (index_of mark (drop (i + 1) text)))
unfolding index_of
step mark text i h = at_drop_more (index_of mark) text i 0 h

-- the mark stands here
pub index_here : (mark : ℕ) (text : List ℕ) (i : ℕ) → i < length text → get_or text i 0 ≡ mark
    → index_of mark text ≡ i + index_of mark (drop i text) → i ≡ index_of mark text
index_here mark text i h e all =
    let here : index_of mark (drop i text) ≡ 0 = step mark text i h ∙ ap (λ t. cond t 0 (suc (index_of mark (drop (i + 1) text)))) (eq-eqb _ _ e) in
    omega arith

-- another octet stands here
pub index_past : (mark : ℕ) (text : List ℕ) (i : ℕ) → i < length text → (get_or text i 0 ≡ mark → ⊥)
    → index_of mark text ≡ i + index_of mark (drop i text) → index_of mark text ≡ i + 1 + index_of mark (drop (i + 1) text)
index_past mark text i h e all =
    let on : index_of mark (drop i text) ≡ suc (index_of mark (drop (i + 1) text))
    = step mark text i h ∙ ap (λ t. cond t 0 (suc (index_of mark (drop (i + 1) text)))) (ne_eqb _ _ e) in
    omega arith

-- no mark stands in the text
pub index_none : (mark : ℕ) (text : List ℕ)
    → index_of mark text ≡ length text + index_of mark (drop (length text) text) → length text ≡ index_of mark text
unfolding index_of
index_none mark text all =
    let none : index_of mark (drop (length text) text) ≡ 0 = at_drop_all (index_of mark) text (length text) (omega arith) in
    omega arith
