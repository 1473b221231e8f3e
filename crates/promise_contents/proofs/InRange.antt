-- Every message that a call makes is in range, if the octets that came with the call are octets: an FSN is below 128, a code below 256, points and
-- destinations below 16384, an SLC below 16. So another point reads it as what was made.
-- Assumes nothing.
use mathlib.Core.Path.{◌≡◌, refl, subst}
use mathlib.Core.Bool.{true, cond, not, ◌&&◌, ◌||◌, and-eq-true_iff}
use mathlib.Core.List.{List, [], ◌∷◌}
use Prim.Native.Nat.{ℕ, ◌/◌, ◌<◌}
use native.Mathlib.Nat.{mod-lt}
use native.Mathlib.Omega.{arith}
use lib.Dec.{eqb, ltb, leb, lit<}
use lib.ListN.{length, take, drop}
use borrow.Author.Tests.{eqb-true, ltb-true, leb-false}
use Rattle.std.specs.Prelude.{Option, Some, None}
use Rattle.plan.specs.declared.data.Plan.{Plan}
use Rattle.plan.specs.Data.{set_at, link_at}
use Rattle.plan.specs.Find.{place_of}
use Rattle.plan.proofs.Split.{both_false}
use Rattle.plan_configuration.specs.Configure.{configured}
use Rattle.plan_consistency.specs.Consistent as Plan
use Rattle.plan_consistency.proofs.Ranges.{configured_in_range}
use Rattle.area_rows.specs.Rows.{word_at}
use Rattle.area_flags.specs.Flags.{flag_at}
use Rattle.area_links.specs.declared.LinkRecord.{LinkRecord}
use Rattle.area_links.specs.LinkRecords.{record_at}
use Rattle.wire.specs.declared.header.Header.{Header}
use Rattle.wire.specs.Header.{from_low, header_of, Octets}
use Rattle.wire_messages.specs.declared.management.Message.{Message}
use Rattle.wire_messages.specs.declared.management.Message.TheVariants.{COO, COA, CBD, CBA, ECO, ECA, TFP, TFA, RST}
use Rattle.wire_messages.specs.Management.{read_message}
use Rattle.wire_writing.specs.Writing.{FieldInRange}
use Rattle.wire_writing.proofs.SpareBits.{read_in_range}
use Rattle.wire_writing.proofs.ReadBack.{message_back, header_back}
use Rattle.replies.specs.Reply.{row}
use Rattle.replies.specs.Areas.{Areas}
use Rattle.reports.specs.Report.{short}
use Rattle.lookup.specs.Lookup.{link_named, is_link, is_set, rank_by, set_of, slc_of, adjacent_of}
use Rattle.management_making.specs.declared.Draft.{Draft}
use Rattle.changeover_cuts.specs.declared.Cut.{Cut}
use Rattle.changeover_cuts.specs.Cuts.{cut_at, cut_unknown, cut_none}
use Rattle.management_steps.specs.declared.Step.{Step}
use Rattle.management_steps.specs.Step.{nothing, answer, answer_and_end, end, draft, order_step, ack_step}
use Rattle.management_asking.specs.Ask.{last_received, emergency_of, ask_coo, ask_eco, ask_coa, ask_eca}
use Rattle.management_requests.specs.Request.{ask_cbd, allows, ask_rst}
use Rattle.managing.specs.Managed.{asked, step_asked}
use Rattle.counting.specs.Counting.{next}
use Rattle.changeover_failure.specs.Failure.{order_of}
use Rattle.changeback_service.specs.InService.{declares, sources_in}
use Rattle.changeback.specs.Service as Service
use Rattle.rerouting_expiry.specs.Expiry.{is_destination, reply_t10, test_of}
use Rattle.passing_passage.specs.Passage.{unreachable, prohibited_to}
use Rattle.receiving.specs.Receive as Receive
use Rattle.discrimination.specs.declared.Came.{Came}
use Rattle.discrimination.specs.declared.Came.TheVariants.{Malformed, Foreign, Delivered, Managed, Passed}
use Rattle.discrimination.specs.Discrimination.{managed, ours, from_link_by, from_link}
use Rattle.node.specs.declared.call.Event.{Event}
use Rattle.node.specs.declared.call.Event.TheVariants.{IntoService, Failure, Send, Acknowledgement, Received, FromHost, T1, T2, T3, T4, T6, T8, T10}
use Rattle.promise_runs.proofs.Outcomes.{by_test, rows_passed}
use Rattle.promise_contents.specs.Made.{New, Nothing, User, Made, label_to, DraftInRange, Understood, new_by, new_of}
use Rattle.promise_contents.specs.Given.{gives_by, gives}

-- a link's last received number
received_range : (links : List ℕ) (link : ℕ) → (record_at links link).received < 128
received_range links link = mod-lt (word_at 32 8 links link 2) (lit< tt)

-- a link's adjacent point, and its SLC
module _ (plan : Plan) (range : Plan.InRange plan) where
  adjacent_range : (link : ℕ) → adjacent_of plan link < 16384
  unfolding adjacent_of
  adjacent_range link =
      by_test (λ (n : ℕ). n < 16384) (ltb (set_of plan link) 8) (set_at plan (set_of plan link)).adjacent 0
      (λ e. omega (arith, range.adjacent_range (set_of plan link)))
      (λ e. lit< tt)

  slc_range : (link : ℕ) → slc_of plan link < 16
  unfolding slc_of
  slc_range link =
      by_test (λ (n : ℕ). n < 16) (ltb link 32) (link_at plan link).slc 0 (λ e. omega (arith, range.slc_range link)) (λ e. lit< tt)

-- what a step would make
abbrev StepRanged : Step → Type 0
StepRanged step = DraftInRange step.draft

module _ (plan : Plan) (links marks : List ℕ) (arriving fsn point slc : ℕ) (below : fsn < 128) (near : point < 16384) (narrow : slc < 16) where
  -- an answer goes back to the point that asked, with its SLC
  back : (message : Message) (never : ℕ) → FieldInRange message → DraftInRange (draft message point slc never)
  back message never h = record { field_fits = h; point_fits = near; slc_fits = narrow }

  none : StepRanged nothing
  none = record { field_fits = lit< tt; point_fits = lit< tt; slc_fits = lit< tt }

  last_range : (link : ℕ) → last_received links arriving fsn link < 128
  unfolding last_received
  last_range link =
      by_test (λ (n : ℕ). n < 128) (eqb link arriving) fsn (record_at links link).received (λ e. below) (λ e. received_range links link)

  order_ranged : (known : LinkRecord) (link : ℕ) (own emergency : Draft) (parts : Cut)
      → DraftInRange own → DraftInRange emergency → StepRanged (order_step known link own emergency parts)
  unfolding order_step
  order_ranged known link own emergency parts mine eca =
      by_test StepRanged (eqb known.state 0) (answer emergency) (answer_and_end own link (cond (eqb known.state 1) cut_none parts))
      (λ e. eca)
      (λ e. mine)

  ack_ranged : (link : ℕ) (known : LinkRecord) (parts : Cut) → StepRanged (ack_step link known parts)
  unfolding ack_step
  ack_ranged link known parts =
      by_test StepRanged (ltb link 32 && eqb known.timer 2) (end link parts) nothing (λ e. none) (λ e. none)

  -- each of the nine: COA carries a last received number, CBA and TFA what was read
  asked_ranged : (message : Message) → FieldInRange message → StepRanged (step_asked plan links marks arriving fsn point slc message)
  unfolding asked ask_coo ask_eco ask_coa ask_eca ask_cbd ask_rst emergency_of
  asked_ranged (COO f) h =
      let link = link_named plan point slc in
      let known = record_at links link in
      by_test StepRanged (ltb link 32) _ nothing
      (λ e.
      order_ranged known link (draft (COA (last_received links arriving fsn link)) point slc link) (emergency_of point slc link) (cut_at known f)
      (back (COA (last_received links arriving fsn link)) link (last_range link))
      (back ECA link (lit< tt)))
      (λ e. none)
  asked_ranged (COA f) h =
      let link = link_named plan point slc in
      ack_ranged link (record_at links link) (cut_at (record_at links link) f)
  asked_ranged (CBD code) h =
      by_test StepRanged (ltb (link_named plan point slc) 32) (answer (draft (CBA code) point slc 32)) nothing (λ e. back (CBA code) 32 h)
      (λ e. none)
  asked_ranged (CBA code) h = none
  asked_ranged ECO h =
      let link = link_named plan point slc in
      let known = record_at links link in
      by_test StepRanged (ltb link 32) _ nothing
      (λ e.
      order_ranged known link (emergency_of point slc link) (emergency_of point slc link) (cut_unknown known) (back ECA link (lit< tt))
      (back ECA link (lit< tt)))
      (λ e. none)
  asked_ranged ECA h =
      let link = link_named plan point slc in
      ack_ranged link (record_at links link) (cut_unknown (record_at links link))
  asked_ranged (TFP x) h = none
  asked_ranged (TFA x) h = none
  asked_ranged (RST x) h =
      by_test StepRanged (allows plan links marks point x) (answer (draft (TFA x) point 0 32)) nothing
      (λ e. record { field_fits = h; point_fits = near; slc_fits = lit< tt })
      (λ e. none)

-- what came in is in range
unfoldable pub CameRanged : Came → Type 0
CameRanged Malformed = Unit {0}
CameRanged Foreign = Unit {0}
CameRanged Delivered = Unit {0}
CameRanged (Managed order) = FieldInRange order.message × (order.point < 16384) × (order.slc < 16)
CameRanged (Passed label) = label.dpc < 16384

module _ (plan : Plan) (message : List ℕ) (octets : Octets message) where
  managed_ranged : (read : Option Message) → read_message message ≡ read → CameRanged (managed plan (header_of message) read)
  unfolding managed CameRanged
  managed_ranged None e = tt
  managed_ranged (Some order) e =
      let word = from_low (take 4 (drop 1 message)) in
      by_test CameRanged (eqb (header_of message).ni plan.ni) _ Foreign
      (λ same. (read_in_range message order octets e, mod-lt (word / 16384) (lit< tt), mod-lt (word / 268435456) (lit< tt)))
      (λ other. tt)

  ours_ranged : CameRanged (ours plan (header_of message) message)
  unfolding ours CameRanged
  ours_ranged =
      let header = header_of message in
      by_test CameRanged (eqb header.si 0) _ _ (λ e. managed_ranged (read_message message) refl)
      (λ e. by_test CameRanged (eqb header.ni plan.ni) Delivered Foreign (λ same. tt) (λ other. tt))

  pub came_in_range : CameRanged (from_link plan message)
  unfolding from_link_by CameRanged
  came_in_range =
      let header = header_of message in
      by_test (λ (read : Option Header). CameRanged (from_link_by plan message read)) (leb 5 (length message) && leb (length message) 273)
      (Some header)
      None
      (λ e.
      by_test CameRanged (eqb header.label.dpc plan.code) (ours plan header message) _ (λ same. ours_ranged)
      (λ other.
      by_test CameRanged (eqb header.ni plan.ni) (Passed header.label) Foreign
      (λ same. mod-lt (from_low (take 4 (drop 1 message))) (lit< tt))
      (λ foreign. tt)))
      (λ e. tt)

-- what is new, if the node makes it
unfoldable pub Ranged : New → Type 0
Ranged Nothing = Unit {0}
Ranged (User size) = Unit {0}
Ranged (Made draft) = DraftInRange draft

module _ (plan : Plan) (range : Plan.InRange plan) (message : List ℕ) (octets : Octets message) (a : Areas) where
  came_ranged : (arriving fsn : ℕ) → fsn < 128 → (came : Came) → CameRanged came → Ranged (new_by plan arriving fsn (length message) came a)
  unfolding new_by CameRanged Ranged prohibited_to
  came_ranged arriving fsn below Malformed ranged = tt
  came_ranged arriving fsn below Foreign ranged = tt
  came_ranged arriving fsn below Delivered ranged = tt
  came_ranged arriving fsn below (Managed order) ranged =
      let step = step_asked plan a.links a.marks arriving fsn order.point order.slc order.message in
      by_test Ranged step.answers (Made step.draft) Nothing
      (λ e. asked_ranged plan a.links a.marks arriving fsn order.point order.slc below ranged.1 ranged.2 order.message ranged.0)
      (λ e. tt)
  came_ranged arriving fsn below (Passed label) ranged =
      by_test Ranged (unreachable plan a label) (Made (prohibited_to plan arriving label.dpc)) (User (length message))
      (λ e. record { field_fits = ranged; point_fits = adjacent_range plan range arriving; slc_fits = lit< tt })
      (λ e. tt)

  -- a number that is taken is one
  fsn_range : (link fsn : ℕ) → Receive.reply_of plan a.links link fsn a.reports ≡ 0 → fsn < 128
  unfolding Receive.reply_of
  fsn_range link fsn done =
      let known = record_at a.links link in
      let passed =
      rows_passed (leb 32 link || (leb 128 fsn || short a.reports)) (not (is_link plan link)) (not (eqb known.state 2 || eqb known.state 1))
      (row 6 (not (eqb fsn (next 128 known.received))) ∷ [])
      done
      in
      leb-false 128 fsn (both_false (leb 128 fsn) (short a.reports) (both_false (leb 32 link) (leb 128 fsn || short a.reports) passed.0).1).0

  -- and so is a destination whose T10 expires
  destination_range : (x set : ℕ) → reply_t10 plan a.marks x set ≡ 0 → x < 16384
  unfolding reply_t10
  destination_range x set done =
      let passed =
      rows_passed (leb 16384 x || leb 8 set) (not (is_destination plan x && is_set plan set))
      (not (ltb (rank_by plan (place_of plan x) set) 4 && flag_at a.marks (place_of plan x) (rank_by plan (place_of plan x) set)))
      []
      done
      in
      leb-false 16384 x (both_false (leb 16384 x) (leb 8 set) passed.0).0

  new_in_range : (event : Event) → gives plan event message a ≡ true → Ranged (new_of plan event message a)
  unfolding gives new_of Ranged order_of test_of
  new_in_range (IntoService link) e =
      let from = sources_in plan a.links a.marks link in
      let there = ltb-true from.own 32 ((and-eq-true_iff (eqb (Service.reply_of plan a link) 0) (declares from)).0 e).1 in
      record { field_fits = omega (arith, there); point_fits = adjacent_range plan range link; slc_fits = slc_range plan range link }
  new_in_range (Failure link) e =
      record { field_fits = received_range a.links link; point_fits = adjacent_range plan range link; slc_fits = slc_range plan range link }
  new_in_range (Send link) e = tt
  new_in_range (Acknowledgement link b) e = tt
  new_in_range (Received link fsn) e =
      let reply = Receive.reply_of plan a.links link fsn a.reports in
      let done = eqb-true reply 0 ((and-eq-true_iff (eqb reply 0) (gives_by plan link fsn (from_link plan message) a)).0 e).0 in
      came_ranged link fsn (fsn_range link fsn done) (from_link plan message) (came_in_range plan message octets)
  new_in_range FromHost e = tt
  new_in_range (T1 link) e = tt
  new_in_range (T2 link) e = tt
  new_in_range (T3 link) e = tt
  new_in_range (T4 link) e = tt
  new_in_range (T6 x) e = tt
  new_in_range (T8 x) e = tt
  new_in_range (T10 x set) e =
      let reply = reply_t10 plan a.marks x set in
      record {
        field_fits = destination_range x set (eqb-true reply 0 ((and-eq-true_iff (eqb reply 0) _).0 e).0);
        point_fits = omega (arith, range.adjacent_range set);
        slc_fits = lit< tt;
      }

-- every message that a call makes, with the plan of any configuration's text
module _ (text : List ℕ) (message : List ℕ) (octets : Octets message) (a : Areas) (event : Event) (draft : Draft)
    (makes : new_of (configured text).plan event message a ≡ Made draft)
    (given : gives (configured text).plan event message a ≡ true) where
  pub made_in_range : DraftInRange draft
  unfolding Ranged
  made_in_range = subst Ranged makes (new_in_range (configured text).plan (configured_in_range text) message octets a event given)

  -- so another point reads it as what was made
  pub made_understood : Understood (configured text).plan draft
  made_understood =
      let plan = (configured text).plan in
      let range = configured_in_range text in
      let label = label_to plan draft.point draft.slc in
      record {
        header_read =
            header_back plan.ni label draft.message (omega (arith, range.ni_range))
            (record { dpc_fits = made_in_range.point_fits; opc_fits = omega (arith, range.code_range); sls_fits = made_in_range.slc_fits });
        message_read = message_back plan.ni label draft.message made_in_range.field_fits;
      }
