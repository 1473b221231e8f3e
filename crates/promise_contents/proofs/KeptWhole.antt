-- "Messages passed on keep all their octets.": over any run of calls from any configuration, the octets that leave with the message of an
-- arrival number are those of the message that was queued with it.
-- Assumes nothing.
use mathlib.Core.Path.{◌≡◌, sym, ap, ◌∙◌}
use mathlib.Core.List.{List}
use Prim.Native.Nat.{ℕ}
use native.Mathlib.Omega.{arith}
use lib.ListN.{length}
use Rattle.queue_store.specs.Sound.{is}
use Rattle.plan_configuration.specs.Configure.{configured}
use Rattle.plan_configuration.proofs.Made.{configured_sound}
use Rattle.node.specs.declared.call.Event.TheVariants.{Send}
use Rattle.node.specs.View.{view_of}
use Rattle.node.specs.Memory.{Memory}
use Rattle.node.specs.Call.{call_of}
use Rattle.promise_runs.specs.Run.{Call, lent, called, ran, fresh, Whole}
use Rattle.promise_ledger.specs.Held.{held_of}
use Rattle.promise_accounts.proofs.OnePlace.{everything_in_one_place}
use Rattle.promise_contents.specs.Content.{content_of, row_in, next_in, free_slot, next_slot, PassedOn, Leave}
use Rattle.promise_contents.proofs.FreeEvents.{queues_in}
use Rattle.promise_contents.proofs.OctetsKept.{octets_kept}
use Rattle.promise_contents.proofs.Ready.{call_ready, run_ready, fresh_ready}
use Rattle.promise_contents.proofs.Unsent.{sent_slot, sent_not_free}
use Rattle.promise_contents.proofs.Named.{number_names}

module _ (m : Memory) (whole : Whole m) (one : length m.areas.arrivals ≡ 1) (text : List ℕ) where
  -- the next number isn't held yet
  pub next_unheld : (earlier : List Call)
      → let before = ran (configured text).plan earlier (fresh m) in
      held_of (is (next_in (content_of before))) before.areas.rows (queues_in before.areas) ≡ 0
  next_unheld earlier =
      let before : Memory = ran (configured text).plan earlier (fresh m) in
      let places = (everything_in_one_place m whole one text earlier).not_given (next_in (content_of before)) (omega arith) in
      omega (arith, places)

  -- a message that is passed on at any time, and sent at any later time under the number that it got, leaves whole
  pub passed_on_whole : (earlier : List Call) (queueing : Call)
      → let plan = (configured text).plan in
      let before = ran plan earlier (fresh m) in
      PassedOn plan queueing.message (view_of queueing.event)
      → (call_of plan queueing.event queueing.message (lent queueing before)).answer.reply ≡ 0
      → (calls : List Call) (sending : Call) (link : ℕ)
      → let later = ran plan calls (called plan queueing before) in
      (call_of plan (Send link) sending.message (lent sending later)).answer.reply ≡ 0
      → (row_in (content_of later) (next_slot later link)).arrival ≡ next_in (content_of before)
      → Leave (call_of plan (Send link) sending.message (lent sending later)) queueing.message
  passed_on_whole earlier queueing passed none calls sending link sent named =
      let plan = (configured text).plan in
      let sound = configured_sound text in
      let before : Memory = ran plan earlier (fresh m) in
      let later : Memory = ran plan calls (called plan queueing before) in
      let ready = run_ready plan sound earlier (fresh m) (fresh_ready m whole one) in
      let now = run_ready plan sound calls (called plan queueing before) (call_ready plan sound queueing before ready) in
      let there : next_slot later link ≡ free_slot before =
      number_names plan sound before ready (next_unheld earlier) queueing passed none calls (next_slot later link)
      (sent_slot plan link sending.message (lent sending later) now.regular sent)
      (sent_not_free plan link sending.message (lent sending later) now.regular sent)
      named
      in
      octets_kept plan before ready.regular ready.apart ready.one queueing passed none calls sending link there
      (ap (λ (slot : ℕ). (row_in (content_of later) slot).arrival) (sym there) ∙ named)
      sent
