-- A message taken, a send and an acknowledgement leave a regular state regular.
-- Assumes nothing.
use mathlib.Core.Path.{◌≡◌}
use mathlib.Core.Bool.{true, not, ◌||◌}
use mathlib.Core.List.{List, []}
use Prim.Native.Nat.{ℕ, ◌≤◌, ◌<◌}
use native.Mathlib.Nat.{mod-lt}
use native.Mathlib.Omega.{arith}
use lib.Dec.{eqb, ltb, leb, lit<}
use borrow.Author.Tests.{eqb-true, leb-false, not-false}
use Rattle.plan.specs.declared.data.Plan.{Plan}
use Rattle.plan.proofs.Split.{both_false}
use Rattle.area_links.specs.declared.LinkRecord.{LinkRecord}
use Rattle.area_numbers.specs.LinkWords.{with_acknowledged, with_sent}
use Rattle.area_links.specs.LinkRecords.{record_at}
use Rattle.queue_rings.specs.Ring.{count_of}
use Rattle.lookup.specs.Lookup.{is_link}
use Rattle.queue_heads.specs.Head.{Queues, both}
use Rattle.queue_retiring.specs.Leave.{retired}
use Rattle.numbers.specs.Numbers.{one_more, up_to, left_sent, taken}
use Rattle.sending.specs.Send as Send
use Rattle.acknowledging.specs.Acknowledge.{out_of_range, link_open}
use Rattle.acknowledging.specs.Acknowledge as Acknowledge
use Rattle.sending.proofs.Window.{one_more_sent}
use Rattle.acknowledging.proofs.Window.{retired_and_left}
use Rattle.promise_runs.specs.Regular.{regular_link, Regular}
use Rattle.promise_runs.proofs.Records.{with_numbers, received_rewritten, sent_rewritten, acknowledged_rewritten}
use Rattle.promise_runs.proofs.ByState.{open_is, is_open}
use Rattle.promise_runs.proofs.Keeping.{InRange, loaded_in_range, changed, relinked}
use Rattle.promise_runs.proofs.Leaving.{left_retired}
use Rattle.promise_runs.proofs.Outcomes.{if_done_lem, if_both_done, rows_passed, link_within}

module _ (links spans rings rows octets : List ℕ) (regular : Regular links spans rings rows octets) where
  -- "Taken" moves the last received number on: nothing that a regular link needs hangs on it
  pub taken_regular : (link fsn : ℕ) → Regular (taken links link fsn) spans rings rows octets
  unfolding taken regular_link
  taken_regular link fsn =
      let low = loaded_in_range links link in
      relinked links spans rings rows octets regular (received_rewritten links link fsn)
      (record { state_low = low.state_low; sent_low = low.sent_low; timer_low = low.timer_low; code_low = low.code_low })
      (λ h. regular.each_link link h)

  -- a link, with its record
  module _ (plan : Plan) (link : ℕ) where
    abbrev known : LinkRecord
    known = record_at links link

    abbrev count : ℕ
    count = count_of spans link

    -- an open link whose numbers move on and whose sent messages are in its queue
    still_open : link < 32 → known.state ≡ 2 → (acknowledged sent more : ℕ) → sent ≤ more
        → regular_link (with_numbers known acknowledged known.received sent) more ≡ true
    still_open h is acknowledged sent more queued =
        let opened = open_is known count is (regular.each_link link h) in
        is_open (with_numbers known acknowledged known.received sent) more is
        (record {
          no_change = opened.no_change;
          still = record { no_t3 = opened.still.no_t3; no_code = opened.still.no_code };
          sent_queued = queued;
        })

    numbers_low : (acknowledged sent : ℕ) → sent < 128 → InRange (with_numbers known acknowledged known.received sent)
    numbers_low acknowledged sent below =
        let low = loaded_in_range links link in
        record { state_low = low.state_low; sent_low = below; timer_low = low.timer_low; code_low = low.code_low }

    module _ (room : ℕ) where
      unsent : Send.reply_of plan links spans link room ≡ 0 → (link < 32) × (known.state ≡ 2) × (known.sent < count)
      unfolding Send.reply_of
      unsent done =
          let none = leb count known.sent in
          let full = leb 127 known.sent in
          let shut = not (eqb known.state 2) in
          let passed = rows_passed (leb 32 link || ltb room 273) (not (is_link plan link)) (shut || (none || full)) [] done in
          let fits = both_false shut (none || full) passed.2 in (
            link_within link (ltb room 273) passed.0,
            eqb-true known.state 2 (not-false (eqb known.state 2) fits.0),
            leb-false count known.sent (both_false none full fits.1).0,
          )

      -- a send
      pub send_regular : Regular (Send.links_after plan links spans link room) spans rings rows octets
      unfolding Send.links_after
      send_regular =
          if_done_lem (λ (l : List ℕ). Regular l spans rings rows octets) (Send.reply_of plan links spans link room)
          (with_sent links link (one_more known))
          links
          (λ done.
          let is = unsent done in
          let more = one_more_sent plan links spans link room done in
          relinked links spans rings rows octets regular (sent_rewritten links link (one_more known))
          (numbers_low known.acknowledged (one_more known) (mod-lt _ (lit< tt)))
          (λ h. still_open h is.1 known.acknowledged (one_more known) count (omega arith)))
          regular

    module _ (b : ℕ) where
      fits_open : Acknowledge.reply_of plan links link b ≡ 0 → (link < 32) × (known.state ≡ 2)
      unfolding Acknowledge.reply_of
      fits_open done =
          let passed = rows_passed (out_of_range link b) (not (is_link plan link)) (not (link_open links link)) _ done in
          (link_within link (leb 128 b) passed.0, eqb-true known.state 2 (not-false (link_open links link) passed.2))

      acknowledged_done : Acknowledge.reply_of plan links link b ≡ 0
          → let after = retired link (up_to known b) (both spans rings) in
          Regular (with_acknowledged (with_sent links link (left_sent known b)) link b) after.spans after.rings rows octets
      acknowledged_done done =
          let is = fits_open done in
          let after = retired link (up_to known b) (both spans rings) in
          let left = retired_and_left plan links link b done in
          let gone = left_retired links link rows octets (omega (arith, is.0)) (up_to known b) (both spans rings) regular.store in
          let opened = open_is known count is.1 (regular.each_link link is.0) in
          changed links spans rings rows octets regular (acknowledged_rewritten links link b (left_sent known b))
          (numbers_low b (left_sent known b) (mod-lt _ (lit< tt)))
          is.0
          rows
          octets
          after
          gone.kept
          (still_open is.0 is.1 b (left_sent known b) (count_of after.spans link)
          (omega (arith, gone.fewer, opened.sent_queued)))

      -- an acknowledgement
      pub acknowledge_regular :
          let after = Acknowledge.queues_after plan links (both spans rings) link b in
          Regular (Acknowledge.links_after plan links link b) after.spans after.rings rows octets
      unfolding Acknowledge.links_after Acknowledge.queues_after
      acknowledge_regular =
          if_both_done (λ (l : List ℕ) (q : Queues). Regular l q.spans q.rings rows octets)
          (Acknowledge.reply_of plan links link b)
          (with_acknowledged (with_sent links link (left_sent known b)) link b)
          links
          (retired link (up_to known b) (both spans rings))
          (both spans rings)
          acknowledged_done
          regular
