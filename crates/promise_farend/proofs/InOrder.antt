-- A history in order: what was queued on a link is what is acknowledged and behind it what is still queued, and what was sent is its beginning. So
-- it stays with what is new behind its queue, a message sent or some acknowledged.
-- Assumes nothing.
use mathlib.Core.Path.{◌≡◌, refl, sym, ap, ◌∙◌}
use mathlib.Core.List.{List, [], ◌∷◌, ◌++◌, append_assoc}
use Prim.Native.Nat.{ℕ, suc, ◌+◌, ◌≤◌, ◌<◌}
use native.Mathlib.Nat.{min-le_right}
use native.Mathlib.Numerals.{add-one}
use native.Mathlib.Omega.{arith}
use lib.ListN.{length, get_or, take, drop, length-map, length-append, length-take, take-append-drop}
use lib.Seq.{take-append-le, take-suc, get_or-append-add}
use borrow.Table.Elements.{map_app}
use Rattle.area_links.specs.LinkRecords.{record_at}
use Rattle.queue_rings.specs.Run.{run}
use Rattle.queue_rings.proofs.Runs.{run_end}
use Rattle.replies.specs.Areas.{Areas}
use Rattle.promise_accounts.specs.Gone.{queue_of}
use Rattle.promise_farend.specs.History.{Sending, History, begun, with_queued, with_sending, with_acknowledged, arrivals, number_after, Serving, InOrder}

-- no more was sent than was queued
pub sent_queued : (s : History) → arrivals s.sent ≡ take (length s.sent) s.queued → length s.sent ≤ length s.queued
sent_queued s first =
    let few = min-le_right (length s.sent) (length s.queued) in
    omega (
      arith,
      few,
      length-map s.sent (λ (k : Sending). k.arrival),
      ap length first,
      length-take (length s.sent) s.queued,
    )

-- a history begins with what is put on the empty queue
pub begun_in_order : (a : Areas) (link : ℕ) (put : List ℕ) → put ≡ queue_of a link → InOrder a link (with_queued begun put)
unfolding run
begun_in_order a link put is = record { history_is = is; sent_in_order = refl; sent_numbered = refl }

module _ (a : Areas) (link : ℕ) (s : History) (order : InOrder a link s) where
  -- messages more stand behind in the queue
  pub queued_in_order : (b : Areas) (new put : List ℕ) → queue_of b link ≡ queue_of a link ++ new → put ≡ new
      → InOrder b link (with_queued s put)
  queued_in_order b new put behind is = record {
    history_is =
        ap (λ (l : List ℕ). s.queued ++ l) is
        ∙ ap (λ (l : List ℕ). l ++ new) order.history_is
        ∙ append_assoc s.acknowledged (queue_of a link) new
        ∙ ap (λ (l : List ℕ). s.acknowledged ++ l) (sym behind);
    sent_in_order =
        order.sent_in_order ∙ sym (take-append-le (length s.sent) s.queued put (sent_queued s order.sent_in_order));
    sent_numbered = order.sent_numbered;
  }

  -- the first unsent message is sent: the one behind the sent ones
  pub sent_in_order : Serving a link s → (new : Sending) → (record_at a.links link).sent < length (queue_of a link)
      → new.arrival ≡ get_or (queue_of a link) (record_at a.links link).sent 0
      → new.fsn ≡ number_after (length s.sent + 1)
      → InOrder a link (with_sending s new)
  sent_in_order serving new unsent first number =
      let many : ℕ = length s.sent in
      let more : length (s.sent ++ (new ∷ [])) ≡ suc many = length-append s.sent (new ∷ []) ∙ add-one many in
      let within : many < length s.queued =
      omega (arith, unsent, serving.sent_is, ap length order.history_is, length-append s.acknowledged (queue_of a link))
      in
      let here : get_or s.queued many 0 ≡ new.arrival =
      ap (λ (n : ℕ). get_or s.queued n 0) serving.sent_is
      ∙ ap (λ (l : List ℕ). get_or l (length s.acknowledged + (record_at a.links link).sent) 0) order.history_is
      ∙ get_or-append-add s.acknowledged (queue_of a link) (record_at a.links link).sent 0
      ∙ sym first
      in
      record {
        history_is = order.history_is;
        sent_in_order =
            map_app (λ (k : Sending). k.arrival) s.sent (new ∷ [])
            ∙ ap (λ (l : List ℕ). l ++ (new.arrival ∷ [])) order.sent_in_order
            ∙ ap (λ (n : ℕ). take many s.queued ++ (n ∷ [])) (sym here)
            ∙ sym (take-suc s.queued many 0 within)
            ∙ ap (λ (n : ℕ). take n s.queued) (sym more);
        sent_numbered =
            let next : new.fsn ≡ number_after (1 + many) = number ∙ ap number_after (omega arith) in
            map_app (λ (k : Sending). k.fsn) s.sent (new ∷ [])
            ∙ ap (λ (l : List ℕ). l ++ (new.fsn ∷ [])) order.sent_numbered
            ∙ ap (λ (n : ℕ). run number_after 1 many ++ (n ∷ [])) next
            ∙ sym (run_end number_after 1 many)
            ∙ ap (run number_after 1) (sym more);
      }

  -- the first so many are acknowledged and leave the queue
  pub acknowledged_in_order : (b : Areas) (many : ℕ) (retired : List ℕ) → retired ≡ take many (queue_of a link)
      → queue_of b link ≡ drop many (queue_of a link)
      → InOrder b link (with_acknowledged s retired)
  acknowledged_in_order b many retired first left = record {
    history_is =
        order.history_is
        ∙ ap (λ (l : List ℕ). s.acknowledged ++ l) (sym (take-append-drop many (queue_of a link)))
        ∙ sym (append_assoc s.acknowledged (take many (queue_of a link)) (drop many (queue_of a link)))
        ∙ ap (λ (l : List ℕ). (s.acknowledged ++ l) ++ drop many (queue_of a link)) (sym first)
        ∙ ap (λ (l : List ℕ). (s.acknowledged ++ retired) ++ l) (sym left);
    sent_in_order = order.sent_in_order;
    sent_numbered = order.sent_numbered;
  }
