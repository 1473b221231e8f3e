-- What is told as moved from a queue, by where its messages are then: nothing of those that stay or are gone, and of those that are shared out by a rule the
-- ones that go to a queue, in order. Assumes nothing.
use mathlib.Core.Path.{◌≡◌, refl, sym, ap, ap₂, ◌∙◌}
use mathlib.Core.Logic.{◌⊎◌, ⊎_elim}
use mathlib.Core.Bool.{Bool, true, false, cond}
use mathlib.Core.List.{List, [], ◌∷◌, ◌++◌, map}
use Prim.Native.Nat.{ℕ, ◌≤◌, ◌<◌}
use native.Mathlib.Omega.{arith}
use lib.Dec.{eqb, ltb}
use borrow.Author.Tests.{lt-ltb, le-ltb, eq-eqb, ne_eqb}
use borrow.Table.Steps.{cases}
use Rattle.plan.proofs.Split.{split, alike}
use Rattle.queue_store.specs.Sound.{bit, tally, is}
use Rattle.queue_store.proofs.Sums.{sum_part, sum_none}
use Rattle.queue_heads.specs.Head.{both}
use Rattle.replies.specs.Areas.{Areas}
use Rattle.fate_places.specs.Places.{held, nowhere, whither}
use Rattle.promise_ledger.specs.Held.{numbers, held_of}
use Rattle.promise_leaving.specs.Going.{going, stranded}
use Rattle.promise_accounts.specs.Gone.{queue_of}
use Rattle.promise_changeover.proofs.Sharing.{shared_out}
use Rattle.promise_fates.specs.Lines.{picked}
use Rattle.promise_fates.proofs.Counting.{counts_first, counts_later, counts_slot}
use Rattle.promise_fates.proofs.Walked.{picked_none}
use Rattle.promise_fates.proofs.Whither as Whither
use Rattle.promise_fates.proofs.Settled.{all_of, queue_part, Settled}

module _ (goes : ℕ → ℕ) (slot : ℕ) where
  -- a slot is among those that go where it goes
  pub counts_going : (link : ℕ) → goes slot ≡ link → (l : List ℕ) → 1 ≤ tally (is slot) l → 1 ≤ tally (is slot) (going goes link l)
  unfolding going tally
  counts_going link to [] h = h
  counts_going link to (first ∷ l) h =
      alike first slot
      (λ same.
      let e : eqb (goes first) link ≡ true = eq-eqb (goes first) link (ap goes same ∙ to) in
      let here : eqb first slot ≡ true = eq-eqb first slot same in
      simp (e, here) (omega arith))
      (λ other.
      let past : bit (eqb first slot) ≡ 0 = ap bit (ne_eqb first slot other) in
      let later = counts_going link to l (omega (arith, h, past)) in
      cases (eqb (goes first) link) (λ e. simp e (omega (arith, later))) (λ e. simp e later))

  counts_stranded : 32 ≤ goes slot → (l : List ℕ) → 1 ≤ tally (is slot) l → 1 ≤ tally (is slot) (stranded goes l)
  unfolding stranded tally
  counts_stranded none [] h = h
  counts_stranded none (first ∷ l) h =
      alike first slot
      (λ same.
      let e : ltb (goes first) 32 ≡ false = le-ltb (goes first) 32 (omega (arith, none, ap goes same)) in
      let here : eqb first slot ≡ true = eq-eqb first slot same in
      simp (e, here) (omega arith))
      (λ other.
      let past : bit (eqb first slot) ≡ 0 = ap bit (ne_eqb first slot other) in
      let later = counts_stranded none l (omega (arith, h, past)) in
      cases (ltb (goes first) 32) (λ e. simp e later) (λ e. simp e (omega (arith, later))))

module _ (f : ℕ → ℕ) (give : ℕ → List ℕ) (goes : ℕ → ℕ) (to : ℕ) where
  -- where each gives itself if it goes there, all give those that go there
  pub picked_going : (l : List ℕ) → ((slot : ℕ) → 1 ≤ tally (is slot) l → give (f slot) ≡ cond (eqb (goes slot) to) (f slot ∷ []) [])
      → picked give (map f l) ≡ map f (going goes to l)
  unfolding picked going
  picked_going [] each = refl
  picked_going (first ∷ l) each =
      let here = each first (counts_first first l) in
      let rest = picked_going l (λ slot h. each slot (counts_later slot first l h)) in
      cases (eqb (goes first) to)
      (λ e.
      let one : give (f first) ≡ f first ∷ [] = here ∙ ap (λ (t : Bool). cond t (f first ∷ []) []) e in
      simp e (ap₂ (λ (x y : List ℕ). x ++ y) one rest))
      (λ e.
      let none : give (f first) ≡ [] = here ∙ ap (λ (t : Bool). cond t (f first ∷ []) []) e in
      simp e (ap₂ (λ (x y : List ℕ). x ++ y) none rest))

  -- if it is of one kind, and goes there
  pub picked_both : (kind : ℕ → ℕ) (x : ℕ) (l : List ℕ)
      → ((slot : ℕ) → 1 ≤ tally (is slot) l → give (f slot) ≡ cond (eqb (kind slot) x) (cond (eqb (goes slot) to) (f slot ∷ []) []) [])
      → picked give (map f l) ≡ map f (going goes to (going kind x l))
  unfolding picked going
  picked_both kind x [] each = refl
  picked_both kind x (first ∷ l) each =
      let here = each first (counts_first first l) in
      let rest = picked_both kind x l (λ slot h. each slot (counts_later slot first l h)) in
      cases (eqb (kind first) x)
      (λ k.
      cases (eqb (goes first) to)
      (λ e.
      let one : give (f first) ≡ f first ∷ [] = here ∙ ap₂ (λ (s t : Bool). cond s (cond t (f first ∷ []) []) []) k e in
      simp (k, e) (ap₂ (λ (u v : List ℕ). u ++ v) one rest))
      (λ e.
      let none : give (f first) ≡ [] = here ∙ ap₂ (λ (s t : Bool). cond s (cond t (f first ∷ []) []) []) k e in
      simp (k, e) (ap₂ (λ (u v : List ℕ). u ++ v) none rest)))
      (λ k.
      let none : give (f first) ≡ [] = here ∙ ap (λ (s : Bool). cond s (cond (eqb (goes first) to) (f first ∷ []) []) []) k in
      simp k (ap₂ (λ (u v : List ℕ). u ++ v) none rest))

-- each message of a queue stays in it, or is one of those gone
abbrev pub Keeps : Areas → Areas → List ℕ → ℕ → Type 0
Keeps a b gone queue =
    (number : ℕ) → 1 ≤ tally (is number) (queue_of a queue) → (1 ≤ tally (is number) (queue_of b queue)) ⊎ (1 ≤ tally (is number) gone)

module _ (a b : Areas) (count : ℕ) (gone : List ℕ) (all : Settled a b count gone) (from to : ℕ) (below : from < 33) where
  abbrev pub whither_to : ℕ → ℕ
  whither_to number = whither (held b.spans b.rings b.rows) b.reports count from number

  -- the number of a line from this queue to that
  abbrev pub moves : ℕ → List ℕ
  moves number = cond (ltb (whither_to number) nowhere) (cond (eqb (whither_to number) to) (number ∷ []) []) []

  -- none of one that stays, or isn't held
  pub stays_none : (number : ℕ) → 1 ≤ tally (is number) (queue_of b from) → moves number ≡ []
  stays_none number here =
      let is-there = Whither.stays_if b count all.short_after all.within from number here in
      let e : ltb (whither_to number) nowhere ≡ false = le-ltb (whither_to number) nowhere (omega (arith, is-there)) in
      simp e

  pub unheld_none : (number : ℕ) → all_of b number ≡ 0 → moves number ≡ []
  unheld_none number none =
      let e : ltb (whither_to number) nowhere ≡ false =
      le-ltb (whither_to number) nowhere (Whither.unheld_if b count all.short_after all.within from number below none)
      in
      simp e

  -- of one in another queue, if it is that
  there_one : (number queue : ℕ) → queue < 33 → (from ≡ queue → ⊥) → 1 ≤ tally (is number) (queue_of b queue)
      → moves number ≡ cond (eqb queue to) (number ∷ []) []
  there_one number queue low differ there =
      let w = Whither.at_if b count all.short_after all.within from number queue low below differ there (all.once_after number) in
      let e : ltb (whither_to number) nowhere ≡ true = lt-ltb (whither_to number) nowhere (omega (arith, w, low)) in
      simp e (ap (λ (k : ℕ). cond (eqb k to) (number ∷ []) []) w)

  -- where each message of the queue stays in it or is gone
  pub none_moves : Keeps a b gone from → picked moves (queue_of a from) ≡ []
  none_moves keeps =
      picked_none moves (queue_of a from)
      (λ number h.
      ⊎_elim (stays_none number)
      (λ (left : 1 ≤ tally (is number) gone).
      unheld_none number (omega (arith, left, all.settled number (omega (arith, h, queue_part a from number below)))))
      (keeps number h))

  -- some messages of it are shared out by a rule
  module _ (f : ℕ → ℕ) (goes : ℕ → ℕ) (slots : List ℕ)
      (none_here : (n : ℕ) → 1 ≤ tally (is n) (map f slots) → tally (is n) (queue_of b from) ≡ 0)
      (gained : (t : ℕ) → t < 32 → (t ≡ from → ⊥) → (n : ℕ) → 1 ≤ tally (is n) (map f slots)
      → tally (is n) (queue_of b t) ≡ tally (is n) (map f (going goes t slots)))
      (none_Apart : (from ≡ 32 → ⊥) → (n : ℕ) → 1 ≤ tally (is n) (map f slots) → tally (is n) (queue_of b 32) ≡ 0)
      (none_back : (slot : ℕ) → 1 ≤ tally (is slot) slots → goes slot < 32 → from ≡ goes slot → ⊥)
      (once : (n : ℕ) → tally (is n) (map f slots) ≤ 1) where
    -- one that goes to no link isn't held
    no_route : (slot : ℕ) → 1 ≤ tally (is slot) slots → 32 ≤ goes slot → all_of b (f slot) ≡ 0
    unfolding held_of
    no_route slot h none =
        let n : ℕ = f slot in
        let among = counts_slot f slot slots h in
        let strays = counts_slot f slot (stranded goes slots) (counts_stranded goes slot none slots h) in
        let shared = shared_out goes (is n) f slots in
        sum_none (λ ring. tally (is n) (numbers b.rows (both b.spans b.rings) ring)) 33
        (λ ring low.
        alike ring from
        (λ same. ap (λ (q : ℕ). tally (is n) (queue_of b q)) same ∙ none_here n among)
        (λ differ.
        split ring 32
        (λ link.
        let part = sum_part (λ (t : ℕ). tally (is n) (map f (going goes t slots))) 32 ring link in
        omega (arith, gained ring link differ n among, part, shared, strays, once n))
        (λ last.
        let is-apart : ring ≡ 32 = omega (arith, last, low) in
        ap (λ (q : ℕ). tally (is n) (queue_of b q)) is-apart ∙ none_Apart (λ e. differ (is-apart ∙ sym e)) n among)))

    -- what each gives
    pub shared_one : to < 32 → (slot : ℕ) → 1 ≤ tally (is slot) slots → moves (f slot) ≡ cond (eqb (goes slot) to) (f slot ∷ []) []
    shared_one low slot h =
        split (goes slot) 32
        (λ link.
        let among = counts_slot f slot slots h in
        let there = counts_slot f slot (going goes (goes slot) slots) (counts_going goes slot (goes slot) refl slots h) in
        let differ = none_back slot h link in
        there_one (f slot) (goes slot) (omega (arith, link)) differ
        (omega (arith, there, gained (goes slot) link (λ e. differ (sym e)) (f slot) among)))
        (λ none.
        let past : eqb (goes slot) to ≡ false = ne_eqb (goes slot) to (λ e. omega (arith, e, none, low)) in
        unheld_none (f slot) (no_route slot h none) ∙ sym (ap (λ (t : Bool). cond t (f slot ∷ []) []) past))

    -- to those held apart none
    pub shared_none : 32 ≤ to → (slot : ℕ) → 1 ≤ tally (is slot) slots → moves (f slot) ≡ []
    shared_none high slot h =
        split (goes slot) 32
        (λ link.
        let among = counts_slot f slot slots h in
        let there = counts_slot f slot (going goes (goes slot) slots) (counts_going goes slot (goes slot) refl slots h) in
        let differ = none_back slot h link in
        let past : eqb (goes slot) to ≡ false = ne_eqb (goes slot) to (λ e. omega (arith, e, link, high)) in
        there_one (f slot) (goes slot) (omega (arith, link)) differ
        (omega (arith, there, gained (goes slot) link (λ e. differ (sym e)) (f slot) among))
        ∙ ap (λ (t : Bool). cond t (f slot ∷ []) []) past)
        (λ none. unheld_none (f slot) (no_route slot h none))
