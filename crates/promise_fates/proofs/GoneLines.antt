-- The lines of messages that are gone are the first of the queue of the link that they are acknowledged over or that goes out, in order: over any run of
-- calls from any configuration. Assumes nothing.
use mathlib.Core.Path.{◌≡◌, sym, ap, ap₂, ◌∙◌}
use mathlib.Core.Bool.{true, false, cond}
use mathlib.Core.List.{List, [], ◌∷◌, ◌++◌, map, append-nil}
use Prim.Native.Nat.{ℕ, ◌+◌, ◌≤◌, ◌<◌}
use native.Mathlib.Omega.{arith}
use lib.Dec.{eqb}
use lib.ListN.{take, drop, take-append-drop}
use borrow.Author.Tests.{eq-eqb}
use Rattle.queue_store.specs.Sound.{tally, is}
use Rattle.queue_store.proofs.Sums.{sum_parts}
use Rattle.queue_heads.specs.Head.{both}
use Rattle.replies.specs.Areas.{Areas}
use Rattle.fate_places.specs.Places.{held, nowhere, whither}
use Rattle.fate_lines.specs.declared.Fate.{Fate}
use Rattle.promise_ledger.specs.Held.{numbers, held_of}
use Rattle.promise_accounts.specs.Gone.{queue_of}
use Rattle.promise_accounts.proofs.OnePlace.{tally_on}
use Rattle.promise_fates.specs.Lines.{picked}
use Rattle.promise_fates.proofs.Walked.{picked_on, picked_all, picked_none, in_queues, in_one}
use Rattle.promise_fates.proofs.Whither as Whither
use Rattle.promise_fates.proofs.Settled.{all_of, queue_part, Settled}

-- no number is in two queues
pub apart_queues : (a : Areas) (one other number : ℕ) → one < 33 → other < 33 → (one ≡ other → ⊥)
    → tally (is number) (queue_of a one) + tally (is number) (queue_of a other) ≤ all_of a number
unfolding held_of
apart_queues a one other number low below differ =
    sum_parts (λ ring. tally (is number) (numbers a.rows (both a.spans a.rings) ring)) 33 one other low below differ

-- what is taken of a list and what is left are all
pub taken_left : (many number : ℕ) (l : List ℕ) → tally (is number) (take many l) + tally (is number) (drop many l) ≡ tally (is number) l
taken_left many number l =
    sym (tally_on (is number) (take many l) (drop many l)) ∙ ap (tally (is number)) (take-append-drop many l)

module _ (a b : Areas) (count : ℕ) (gone : List ℕ) (all : Settled a b count gone) (line : ℕ → ℕ → Fate) where
  -- the line of a number of a queue
  abbrev pub give : ℕ → ℕ → List Fate
  give queue number =
      cond (eqb (whither (held b.spans b.rings b.rows) b.reports count queue number) nowhere) (line number queue ∷ []) []

  gives_line : (queue number : ℕ) → queue < 33 → 1 ≤ tally (is number) (queue_of a queue) → 1 ≤ tally (is number) gone
      → give queue number ≡ line number queue ∷ []
  gives_line queue number below stood among =
      let was = all.settled number (omega (arith, queue_part a queue number below)) in
      let to : ℕ = whither (held b.spans b.rings b.rows) b.reports count queue number in
      let e : eqb to nowhere ≡ true = eq-eqb to nowhere
      (Whither.gone_if b count all.short_after all.within queue number below (omega (arith, was)) (omega (arith, was)))
      in
      simp e

  gives_none : (queue number : ℕ) → queue < 33 → 1 ≤ tally (is number) (queue_of a queue) → tally (is number) gone ≡ 0 → give queue number ≡ []
  gives_none queue number below stood none =
      let was = all.settled number (omega (arith, queue_part a queue number below)) in
      let to : ℕ = whither (held b.spans b.rings b.rows) b.reports count queue number in
      let e : eqb to nowhere ≡ false = Whither.held_if b count all.short_after all.within queue number below (omega (arith, was, none)) in
      simp e

  -- where those gone are the first of one queue
  pub gone_lines : (link many : ℕ) → link < 33 → gone ≡ take many (queue_of a link)
      → in_queues (λ (queue : ℕ). picked (give queue) (queue_of a queue)) 0 33 ≡ map (λ (number : ℕ). line number link) gone
  gone_lines link many below are =
      let q : List ℕ = queue_of a link in
      in_one (λ (queue : ℕ). picked (give queue) (queue_of a queue)) link 0 33 (omega arith) (omega arith)
      (λ queue low lower differ.
      picked_none (give queue) (queue_of a queue)
      (λ number stood.
      gives_none queue number (omega arith) stood
      (omega (
        arith,
        stood,
        all.once_before number,
        apart_queues a queue link number (omega arith) below differ,
        taken_left many number q,
        ap (tally (is number)) are,
      ))))
      ∙ ap (picked (give link)) (sym (take-append-drop many q))
      ∙ picked_on (give link) (take many q) (drop many q)
      ∙ ap₂ (λ (x y : List Fate). x ++ y)
      (picked_all (give link) (λ (number : ℕ). line number link) (take many q)
      (λ number first. gives_line link number below (omega (arith, taken_left many number q)) (omega (arith, first, ap (tally (is number)) are))))
      (picked_none (give link) (drop many q)
      (λ number behind.
      gives_none link number below (omega (arith, taken_left many number q))
      (omega (
        arith,
        behind,
        taken_left many number q,
        all.once_before number,
        queue_part a link number below,
        ap (tally (is number)) are,
      ))))
      ∙ append-nil (map (λ (number : ℕ). line number link) (take many q))
      ∙ ap (map (λ (number : ℕ). line number link)) (sym are)

  -- or where none is gone
  pub none_lines : gone ≡ [] → in_queues (λ (queue : ℕ). picked (give queue) (queue_of a queue)) 0 33 ≡ []
  none_lines none = gone_lines 0 0 (omega arith) none ∙ ap (map (λ (number : ℕ). line number 0)) none
