-- A link in service: what was done over it in this time agrees with its own numbers, after every call.
-- Assumes nothing.
use mathlib.Core.Path.{◌≡◌, sym, ap, ◌∙◌}
use mathlib.Core.Bool.{Bool, cond, not}
use mathlib.Core.List.{List, [], ◌∷◌, ◌++◌}
use Prim.Native.Nat.{ℕ, ◌+◌, ◌<◌}
use native.Mathlib.Nat.{mod-lt, mod-eq_of_lt}
use native.Mathlib.Omega.{arith}
use lib.Dec.{leb, lit<}
use lib.ListN.{length, take, length-map, length-append}
use lib.Seq.{length-take-le}
use borrow.Author.Tests.{eq-eqb, leb-false}
use Rattle.plan.specs.declared.data.Plan.{Plan}
use Rattle.plan.proofs.Split.{both_false}
use Rattle.counting.specs.Counting.{onward}
use Rattle.counting.proofs.Laws.{onward_distance, onward_more}
use Rattle.area_links.specs.declared.LinkRecord.{LinkRecord}
use Rattle.area_links.specs.LinkRecords.{record_at}
use Rattle.queue_rings.specs.Ring.{count_of, queue}
use Rattle.queue_rings.proofs.Queues.{queue_length}
use Rattle.replies.specs.Areas.{Areas}
use Rattle.lookup.specs.Lookup.{is_link}
use Rattle.numbers.specs.Numbers.{one_more, up_to, left_sent}
use Rattle.acknowledging.specs.Acknowledge as Acknowledge
use Rattle.sending.specs.Send as Send
use Rattle.sending.proofs.Window.{one_more_sent}
use Rattle.acknowledging.proofs.Window.{retired_and_left}
use Rattle.changeback_pairs.specs.declared.Sources.{Sources}
use Rattle.changeback_service.specs.InService.{comes_as}
use Rattle.promise_runs.proofs.Records.{with_numbers, Rewritten}
use Rattle.promise_runs.proofs.Outcomes.{RegularIn, rows_passed}
use Rattle.promise_ledger.specs.Held.{arrival_of, numbers}
use Rattle.promise_accounts.specs.Gone.{queue_of, up_to_b}
use Rattle.promise_accounts.proofs.EvenEnding.{sent_queued}
use Rattle.promise_farend.specs.History.{Sending, History, begun, with_sending, with_acknowledged, number_after, Serving}
use Rattle.promise_farend.proofs.Onward.{Same}

module _ (plan : Plan) (a : Areas) (octets : List ℕ) (regular : RegularIn a octets) (link : ℕ) (h : link < 32) where
  abbrev known : LinkRecord
  known = record_at a.links link

  -- a queue has as many numbers as slots
  pub queue_counts : length (queue_of a link) ≡ count_of a.spans link
  unfolding numbers
  queue_counts =
      length-map (queue a.spans a.rings link) (arrival_of a.rows) ∙ queue_length a.spans a.rings link

  -- an acknowledgement that is done
  module _ (b : ℕ) (done : Acknowledge.reply_of plan a.links link b ≡ 0) where
    -- its number is one of the 128
    pub b_below : b < 128
    unfolding Acknowledge.reply_of
    b_below =
        let passed =
        rows_passed (Acknowledge.out_of_range link b) (not (is_link plan link)) (not (Acknowledge.link_open a.links link)) _ done
        in
        leb-false 128 b (both_false (leb 32 link) (leb 128 b) passed.0).1

    -- those that it retires are as many as it says
    retires_so_many : length (up_to_b plan a link b) ≡ up_to known b
    unfolding up_to_b
    retires_so_many =
        let left = retired_and_left plan a.links link b done in
        let fits = sent_queued known (count_of a.spans link) (regular.each_link link h) in
        ap length (ap (λ (t : Bool). cond t (take (up_to known b) (queue_of a link)) []) (eq-eqb (Acknowledge.reply_of plan a.links link b) 0 done))
        ∙ length-take-le (up_to known b) (queue_of a link) (omega (arith, left, fits, queue_counts))

    module _ (s : History) (serving : Serving a link s) where
      -- so many are acknowledged with them
      all_acknowledged : length (s.acknowledged ++ up_to_b plan a link b) ≡ length s.acknowledged + up_to known b
      all_acknowledged =
          length-append s.acknowledged (up_to_b plan a link b) ∙ ap (λ (n : ℕ). length s.acknowledged + n) retires_so_many

      -- and b is the number of the last of them
      pub acknowledged_number : number_after (length (s.acknowledged ++ up_to_b plan a link b)) ≡ b
      acknowledged_number =
          ap number_after all_acknowledged
          ∙ onward_more 128 (lit< tt) 127 (length s.acknowledged) (up_to known b)
          ∙ ap (λ (n : ℕ). onward 128 n (up_to known b)) (sym serving.acknowledged_is)
          ∙ onward_distance 128 (lit< tt) known.acknowledged b
          ∙ mod-eq_of_lt b_below

      pub acknowledged_serving : (after : Areas)
          → Rewritten a.links link (with_numbers known b known.received (left_sent known b)) after.links
          → Serving after link (with_acknowledged s (up_to_b plan a link b))
      acknowledged_serving after rewritten =
          let there = rewritten.there regular.links_long h in
          let left = retired_and_left plan a.links link b done in
          let few : left_sent known b < 128 = mod-lt _ (lit< tt) in
          let sent-now : (record_at after.links link).sent ≡ left_sent known b =
          ap (λ (k : LinkRecord). k.sent) there ∙ mod-eq_of_lt few
          in
          record {
            sent_is = omega (arith, all_acknowledged, left, sent-now, serving.sent_is);
            acknowledged_is = ap (λ (k : LinkRecord). k.acknowledged) there ∙ mod-eq_of_lt b_below ∙ sym acknowledged_number;
          }

  -- a send that is done
  pub sent_serving : (spans : List ℕ) (room : ℕ) → Send.reply_of plan a.links spans link room ≡ 0 → (s : History) → Serving a link s
      → (after : Areas)
      → Rewritten a.links link (with_numbers known known.acknowledged known.received (one_more known)) after.links
      → (new : Sending)
      → Serving after link (with_sending s new)
  sent_serving spans room done s serving after rewritten new =
      let there = rewritten.there regular.links_long h in
      let one = one_more_sent plan a.links spans link room done in
      let few : one_more known < 128 = mod-lt _ (lit< tt) in
      let low : known.acknowledged < 128 = mod-lt _ (lit< tt) in
      let sent-now : (record_at after.links link).sent ≡ one_more known =
      ap (λ (k : LinkRecord). k.sent) there ∙ mod-eq_of_lt few
      in
      record {
        sent_is = omega (arith, one, sent-now, serving.sent_is, length-append s.sent (new ∷ []));
        acknowledged_is = ap (λ (k : LinkRecord). k.acknowledged) there ∙ mod-eq_of_lt low ∙ serving.acknowledged_is;
      }

  -- a link that has come into service
  pub begun_serving : (from : Sources) (after : Areas) → Rewritten a.links link (comes_as from) after.links → Serving after link begun
  begun_serving from after rewritten =
      let there = rewritten.there regular.links_long h in
      let none : (record_at after.links link).sent ≡ 0 = ap (λ (k : LinkRecord). k.sent) there in
      record {
        sent_is = omega (arith, none);
        acknowledged_is = ap (λ (k : LinkRecord). k.acknowledged) there;
      }

-- a link whose numbers stay
pub same_serving : (a b : Areas) (link : ℕ) (s : History) → Same (record_at a.links link) (record_at b.links link) → Serving a link s
    → Serving b link s
same_serving a b link s same serving = record {
  sent_is = omega (arith, same.sent_same, serving.sent_is);
  acknowledged_is = same.acknowledged_same ∙ serving.acknowledged_is;
}
