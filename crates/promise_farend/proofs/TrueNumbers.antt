-- True numbers: a true changeover number is in range, and what the far end took and what is left are all that was queued; a true
-- acknowledgement is never refused.
-- Assumes nothing.
use mathlib.Core.Path.{◌≡◌, sym, ap, ◌∙◌}
use mathlib.Core.Bool.{Bool, true, cond}
use mathlib.Core.List.{List, ◌++◌, append_assoc}
use Prim.Native.Nat.{ℕ, ◌+◌, ◌-◌, ◌≤◌}
use native.Mathlib.Omega.{arith}
use lib.Dec.{lit<}
use lib.ListN.{length, take, drop, take-append-drop}
use lib.Seq.{take-append-add, take-take}
use borrow.Author.Tests.{le-leb}
use Rattle.counting.specs.Counting.{in_range, distance, onward}
use Rattle.counting.proofs.Laws.{onward_more, distance_steps, is_in_range}
use Rattle.area_links.specs.declared.LinkRecord.{LinkRecord}
use Rattle.area_links.specs.LinkRecords.{record_at}
use Rattle.replies.specs.Areas.{Areas}
use Rattle.changeover_cuts.specs.declared.Cut.{Cut}
use Rattle.changeover_cuts.specs.Cuts.{cut, cut_none, cut_at}
use Rattle.promise_runs.proofs.Keeping.{loaded_in_range}
use Rattle.promise_accounts.specs.Gone.{queue_of}
use Rattle.promise_farend.specs.History.{History, number_after, Serving, InOrder}
use Rattle.promise_farend.specs.FarEnd.{took_of, Honest, Truly}

-- the far end took what was acknowledged, and some first of what is still queued
pub took_is : (a : Areas) (link : ℕ) (s : History) → InOrder a link s → (taken : ℕ) → Honest s taken
    → took_of s taken ≡ s.acknowledged ++ take (taken - length s.acknowledged) (queue_of a link)
took_is a link s order taken honest =
    let so_far : ℕ = length s.acknowledged in
    let here : so_far + (taken - so_far) ≡ taken = omega (arith, honest.acknowledged_taken) in
    ap (take taken) order.sent_in_order
    ∙ take-take taken (length s.sent) s.queued honest.taken_sent
    ∙ ap (take taken) order.history_is
    ∙ ap (λ (n : ℕ). take n (s.acknowledged ++ queue_of a link)) (sym here)
    ∙ take-append-add s.acknowledged (queue_of a link) (taken - so_far)

module _ (a : Areas) (link : ℕ) (s : History) (serving : Serving a link s) where
  abbrev known : LinkRecord
  known = record_at a.links link

  abbrev so_far : ℕ
  so_far = length s.acknowledged

  -- the number of the message that many on from the last acknowledged
  pub number_on : (more : ℕ) → number_after (so_far + more) ≡ onward 128 known.acknowledged more
  number_on more = onward_more 128 (lit< tt) 127 so_far more ∙ ap (λ (n : ℕ). onward 128 n more) (sym serving.acknowledged_is)

  module _ (count : ℕ) (from : so_far ≤ count) (to : count ≤ length s.sent) where
    abbrev more : ℕ
    more = count - so_far

    few : more ≤ known.sent
    few = omega (arith, serving.sent_is)

    -- a number of one that was sent lies as far on
    pub lies_on : distance 128 known.acknowledged (number_after count) ≡ more
    lies_on =
        let here : so_far + more ≡ count = omega arith in
        ap (λ (n : ℕ). distance 128 known.acknowledged n) (ap number_after (sym here) ∙ number_on more)
        ∙ distance_steps 128 (lit< tt) known.acknowledged more (omega (arith, few, (loaded_in_range a.links link).sent_low))

    -- and is in range
    pub true_in_range : in_range 128 known.acknowledged known.sent (number_after count) ≡ true
    true_in_range =
        is_in_range 128 (lit< tt) known.acknowledged known.sent (number_after count)
        ∙ le-leb (distance 128 known.acknowledged (number_after count)) known.sent (omega (arith, lies_on, few))

  -- a true changeover number
  pub true_number : InOrder a link s → (taken : ℕ) → Honest s taken → Truly a link s taken (number_after taken)
  unfolding cut_at
  true_number order taken honest =
      let from = honest.acknowledged_taken in
      let to = honest.taken_sent in
      let on = true_in_range taken from to in
      let far : ℕ = distance 128 known.acknowledged (number_after taken) in
      let is : cut_at known (number_after taken) ≡ cut far 0 = ap (λ (t : Bool). cond t (cut far 0) cut_none) on in
      let retired : (cut_at known (number_after taken)).retired ≡ taken - so_far = ap (λ (c : Cut). c.retired) is ∙ lies_on taken from to in
      let took = took_is a link s order taken honest in
      record {
        is_in_range = on;
        none_dropped = ap (λ (c : Cut). c.dropped) is;
        makes_up =
            order.history_is
            ∙ ap (λ (l : List ℕ). s.acknowledged ++ l) (sym (take-append-drop (taken - so_far) (queue_of a link)))
            ∙ sym (append_assoc s.acknowledged (take (taken - so_far) (queue_of a link)) (drop (taken - so_far) (queue_of a link)))
            ∙ ap (λ (l : List ℕ). l ++ drop (taken - so_far) (queue_of a link)) (sym took)
            ∙ ap (λ (n : ℕ). took_of s taken ++ drop n (queue_of a link)) (sym retired);
      }
