-- Facts on runs, and on an area in which words are set one after the other. Assumes nothing.
use mathlib.Core.Path.{◌≡◌, refl, ap, ap₂, ◌∙◌}
use mathlib.Core.List.{List, [], ◌∷◌, ◌++◌}
use Prim.Native.Nat.{ℕ, zero, suc, ◌+◌, ◌<◌}
use native.Mathlib.Nat.{add-zero, zero-add}
use native.Mathlib.Numerals.{add-one}
use native.Mathlib.Omega.{arith}
use lib.ListN.{length, get_or, take, set}
use lib.Seq.{sets, take-suc, length-take-le, ext_get_or}
use Rattle.queue_rings.specs.Run.{run}

-- a run has as many places as it says
pub run_length : (f : ℕ → ℕ) (k n : ℕ) → length (run f k n) ≡ n
unfolding run
run_length f k zero = refl
run_length f k (suc n) = ap suc (run_length f (suc k) n)

-- two runs are the same where the same stands at each place
pub run_same : (f g : ℕ → ℕ) (j k n : ℕ) → ((i : ℕ) → i < n → f (j + i) ≡ g (k + i)) → run f j n ≡ run g k n
unfolding run
run_same f g j k zero h = refl
run_same f g j k (suc n) h =
    let first : f j ≡ g k = simp add-zero at (h 0 (omega arith)) in
    let later : (i : ℕ) → i < n → f (suc j + i) ≡ g (suc k + i) =
    λ i l. ap f (omega arith) ∙ h (suc i) (omega arith) ∙ ap g (omega arith)
    in
    ap₂ ◌∷◌ first (run_same f g (suc j) (suc k) n later)

-- a run with a place more has it at its end
pub run_end : (f : ℕ → ℕ) (k n : ℕ) → run f k (suc n) ≡ run f k n ++ (f (k + n) ∷ [])
unfolding run
run_end f k zero = simp add-zero
run_end f k (suc n) =
    let on : suc k + n ≡ k + suc n = omega arith in
    ap (λ (l : List ℕ). f k ∷ l) (run_end f (suc k) n ∙ simp on)

-- what stands at a place of a run
pub run_at : (f : ℕ → ℕ) (k n i : ℕ) → i < n → get_or (run f k n) i 0 ≡ f (k + i)
unfolding run
run_at f k zero i h = absurd (omega arith)
run_at f k (suc n) zero h = simp add-zero
run_at f k (suc n) (suc i) h = run_at f (suc k) n i (omega arith) ∙ ap f (omega arith)

-- a list is the run of what stands at its places
pub run_of : (f : ℕ → ℕ) (words : List ℕ) → ((i : ℕ) → i < length words → f i ≡ get_or words i 0)
    → run f 0 (length words) ≡ words
run_of f words h =
    ext_get_or 0 (run f 0 (length words)) words (run_length f 0 (length words))
    (λ i l.
    let there : i < length words = omega (arith, run_length f 0 (length words)) in
    run_at f 0 (length words) i there ∙ ap f (zero-add i) ∙ h i there)

-- a word set behind others
sets_end : (words area : List ℕ) (at word : ℕ)
    → sets area at (words ++ (word ∷ [])) ≡ set (sets area at words) (at + length words) word
sets_end [] area at word = simp add-zero
sets_end (first ∷ words) area at word =
    let on : suc at + length words ≡ at + suc (length words) = omega arith in
    sets_end words (set area at first) (suc at) word ∙ simp on

-- the first words being set, the next one is
pub sets_next : (words area : List ℕ) (at i word : ℕ) → i < length words → word ≡ get_or words i 0
    → set (sets area at (take i words)) (at + i) word ≡ sets area at (take (i + 1) words)
sets_next words area at i word h next =
    let so_far : length (take i words) ≡ i = length-take-le i words (omega arith) in
    simp (add-one, take-suc words i 0 h, sets_end, so_far, next)
