-- An area whose words are all 0 is emptied. Assumes nothing.
use Rattle.std.proofs.Common.{◌≡◌, ℕ, zero, suc, List, [], ◌∷◌, length, drop, replicate, refl, sym, ap, ◌∙◌, zero-add, arith, append-nil, drop_of_length-le}
use Rattle.std.proofs.lemmas.List.{length-replicate}
use lib.Seq.{sets-eq}
use Rattle.queue_rings.specs.Run.{run}
use Rattle.queue_store.specs.Fresh.{emptied}
use Rattle.queue_rings.proofs.Runs.{run_length}

-- a run of 0 is 0 so many times
zeros : (k n : ℕ) → run (λ i. 0) k n ≡ replicate n 0
unfolding run
zeros k zero = refl
zeros k (suc n) = ap (λ (l : List ℕ). 0 ∷ l) (zeros (suc k) n)

-- with 0 in each of its words an area is emptied
pub all_emptied : (before : List ℕ) (words : ℕ) → length before ≡ words → replicate (length before) 0 ≡ emptied before words
unfolding emptied
all_emptied before words long =
    let run_long : length (run (λ i. 0) 0 words) ≡ words = run_length (λ i. 0) 0 words in
    let all = sets-eq (run (λ i. 0) 0 words) before 0 (omega arith) in
    let none : drop words before ≡ [] = drop_of_length-le before {i = words} (omega arith) in
    sym (all ∙ simp (zero-add, zeros 0 words, length-replicate, none, append-nil, long))
