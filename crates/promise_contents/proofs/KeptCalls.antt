-- Every call keeps what is held, whatever it is and whatever its reply: a slot's row and octets stay, or a message with a new number
-- took the slot.
-- Assumes nothing.
use mathlib.Core.Path.{◌≡◌}
use mathlib.Core.List.{List}
use Prim.Native.Nat.{ℕ}
use lib.Dec.{eqb}
use lib.ListN.{length}
use Rattle.plan.specs.declared.data.Plan.{Plan}
use Rattle.wire_messages.specs.declared.management.Message.TheVariants.{CBD}
use Rattle.wire_messages.specs.Management.{heading_of}
use Rattle.replies.specs.Reply.{done}
use Rattle.replies.specs.Areas.{Areas, areas, Outcome, outcome, judged}
use Rattle.lookup.specs.Lookup.{slc_of, adjacent_of}
use Rattle.management_making.specs.Make.{Held, held_in, with_made, makes_reply}
use Rattle.changeover_cuts.specs.Cuts.{cut_none}
use Rattle.changeover_ending.specs.End.{out_of_service}
use Rattle.changeover_failure.specs.Failure.{state_at, order_of}
use Rattle.changeover.specs.Fail.{open_failed, failed}
use Rattle.changeover_failure.specs.Failure as Failure
use Rattle.changeover_failure.specs.Overdue as Overdue
use Rattle.changeover_overdue.specs.Expire as Change
use Rattle.changeback_pairs.specs.declared.Sources.{Sources}
use Rattle.changeback_service.specs.InService.{declares, sources_in}
use Rattle.changeback.specs.Service.{declared, into_service}
use Rattle.changeback.specs.Service as Service
use Rattle.rerouting.specs.Timer.{reply_t6, expired_t6, expired_t10}
use Rattle.rerouting_expiry.specs.Expiry.{reply_t10, test_of}
use Rattle.node.specs.declared.call.Event.{Event}
use Rattle.node.specs.declared.call.Event.TheVariants.{IntoService, Failure, Send, Acknowledgement, Received, FromHost, T1, T2, T3, T4, T6, T8, T10}
use Rattle.node.specs.Memory.{Memory}
use Rattle.node.specs.Call.{sends, acknowledges, wait_ends, t8_ends, receives, takes_over, call_of}
use Rattle.promise_runs.proofs.Outcomes.{by_test}
use Rattle.promise_contents.specs.Content.{Content, content, content_of, Kept}
use Rattle.promise_contents.proofs.Kept.{content_in, kept_none}
use Rattle.promise_contents.proofs.KeptMaking.{KeptBy, judged_kept, out_kept, joined, joined_kept, made_kept}
use Rattle.promise_contents.proofs.KeptPassing.{sent_kept}
use Rattle.promise_contents.proofs.KeptReceiving.{received_kept}

module _ (plan : Plan) (a : Areas) (octets : List ℕ) (all : length a.rows ≡ 2048) where
  abbrev now : Content
  now = content_in a octets

  -- an open link fails: its COO is written
  open_fails : (link : ℕ) → KeptBy a octets (open_failed plan a link)
  unfolding open_failed
  open_fails link = made_kept a octets all plan (order_of plan a.links link)

  -- the failure of a link
  failure_kept : (link : ℕ) → KeptBy a octets (failed plan a link)
  unfolding failed
  failure_kept link =
      judged_kept a octets (Failure.reply_of plan a.links link a.reports) _
      (by_test (KeptBy a octets) (eqb (state_at a.links link) 1) (out_of_service plan a link cut_none) (open_failed plan a link)
      (λ e. out_kept a octets plan a (kept_none now) link cut_none)
      (λ e. open_fails link))

  -- T1, or T2, expires
  change_ends_kept : (link timer : ℕ) → KeptBy a octets (Change.expired plan a link timer)
  unfolding Change.expired
  change_ends_kept link timer =
      judged_kept a octets (Overdue.reply_of plan a.links link timer a.reports) (out_of_service plan a link cut_none)
      (out_kept a octets plan a (kept_none now) link cut_none)

  -- a link comes into service: its CBD is written
  declared_kept : (link : ℕ) (from : Sources)
      → let then = declared plan link from (held_in a) in
      Kept now (content then.rows octets then.arrivals)
  unfolding declared
  declared_kept link from =
      by_test (λ (then : Held). Kept now (content then.rows octets then.arrivals)) (declares from)
      (joined a octets all from.own (heading_of (CBD from.own)) (adjacent_of plan link) (slc_of plan link) from.own)
      (held_in a)
      (λ e. joined_kept a octets all from.own (heading_of (CBD from.own)) (adjacent_of plan link) (slc_of plan link) from.own)
      (λ e. kept_none now)

  -- with the link in service
  service_kept : (link : ℕ) → KeptBy a octets (into_service plan a link)
  unfolding into_service
  service_kept link =
      judged_kept a octets (Service.reply_of plan a link) _ (declared_kept link (sources_in plan a.links a.marks link))

  -- T6 expires: those held apart move
  t6_kept : (x : ℕ) → KeptBy a octets (expired_t6 plan a x)
  unfolding expired_t6
  t6_kept x = judged_kept a octets (reply_t6 plan a.marks x a.reports) _ (kept_none now)

  -- T10 expires: its RST is written
  t10_kept : (x set : ℕ) → KeptBy a octets (expired_t10 plan a x set)
  unfolding expired_t10
  t10_kept x set =
      let draft = test_of plan x set in
      let sent : Outcome = outcome (done 0) (with_made plan draft a) in
      judged_kept a octets (reply_t10 plan a.marks x set) (judged (makes_reply plan draft a) sent a)
      (judged_kept a octets (makes_reply plan draft a) sent (made_kept a octets all plan draft))

module _ (plan : Plan) (message : List ℕ) (m : Memory) (all : length m.areas.rows ≡ 2048) where
  -- every event
  pub call_keeps : (event : Event) → Kept (content_of m) (content_of (call_of plan event message m).after)
  unfolding call_of sends acknowledges wait_ends t8_ends receives takes_over
  call_keeps (IntoService link) = service_kept plan m.areas m.octets all link
  call_keeps (Failure link) = failure_kept plan m.areas m.octets all link
  call_keeps (Send link) = kept_none (content_of m)
  call_keeps (Acknowledgement link b) = kept_none (content_of m)
  call_keeps (Received link fsn) = received_kept plan m.areas m.octets all link fsn message
  call_keeps FromHost = sent_kept plan m.areas m.octets all message
  call_keeps (T1 link) = change_ends_kept plan m.areas m.octets all link 1
  call_keeps (T2 link) = change_ends_kept plan m.areas m.octets all link 2
  call_keeps (T3 link) = kept_none (content_of m)
  call_keeps (T4 link) = kept_none (content_of m)
  call_keeps (T6 x) = t6_kept plan m.areas m.octets all x
  call_keeps (T8 x) = kept_none (content_of m)
  call_keeps (T10 x set) = t10_kept plan m.areas m.octets all x set
