-- The line `sent` of a send with reply 0 is what the link's history gains by it, and no other call has one: over any run of calls from any configuration.
-- Assumes nothing.
use mathlib.Core.Path.{◌≡◌, refl, ap, ap₂, ◌∙◌}
use mathlib.Core.Bool.{Bool, true, false, cond, ◌||◌}
use mathlib.Core.List.{List, [], ◌∷◌, ◌++◌, append-nil}
use Prim.Native.Nat.{ℕ, ◌-◌, ◌%◌, ◌<◌}
use native.Mathlib.Nat.{mod-eq_of_lt}
use native.Mathlib.Omega.{arith}
use lib.Dec.{eqb, ltb, leb}
use lib.ListN.{length}
use borrow.Author.Tests.{lt-ltb, eqb-true}
use Rattle.plan.specs.declared.data.Plan.{Plan}
use Rattle.area_links.specs.declared.LinkRecord.{LinkRecord}
use Rattle.area_numbers.specs.LinkWords.{with_sent}
use Rattle.area_links.specs.LinkRecords.{record_at}
use Rattle.replies.specs.declared.Answer.{Answer}
use Rattle.replies.specs.Reply.{plain}
use Rattle.replies.specs.Areas.{Areas}
use Rattle.numbers.specs.Numbers.{one_more, next_number}
use Rattle.queue_joining.specs.Queue.{next_of}
use Rattle.sending.specs.Send as Send
use Rattle.sending.proofs.Window.{room_for_one, one_more_sent}
use Rattle.plan_configuration.specs.Configure.{configured}
use Rattle.node.specs.declared.call.Event.{Event}
use Rattle.node.specs.declared.call.Event.TheVariants.{IntoService, Failure, Send, Acknowledgement, Received, FromHost, T1, T2, T3, T4, T6, T8, T10}
use Rattle.node.specs.View.{view_of}
use Rattle.node.specs.Memory.{Memory}
use Rattle.node.specs.Call.{sends, call_of}
use Rattle.fate_places.specs.Places.{Held, held, message_at}
use Rattle.fate_lines.specs.declared.Fate.{Fate}
use Rattle.fate_lines.specs.declared.Fate.TheVariants.{Unchanged, Sent}
use Rattle.replay_fates.specs.declared.deciding.Told.{Told}
use Rattle.replay_fates.specs.Fates.{sent_fate}
use Rattle.replay_answers.specs.Answers.{sender_of, told_of}
use Rattle.promise_runs.specs.Run.{Call, lent, ran, fresh, Whole}
use Rattle.promise_runs.proofs.Outcomes.{RegularIn, both_by_test, rows_passed, link_within}
use Rattle.promise_runs.proofs.Records.{sent_rewritten}
use Rattle.promise_runs.proofs.Reached.{configured_regular}
use Rattle.promise_ledger.specs.Held.{arrival_of}
use Rattle.promise_fates.specs.Told.{seen_of}
use Rattle.promise_fates.specs.Lines.{sent_line}
use Rattle.promise_fates.specs.History.{sent_by, SentAre}
use Rattle.promise_fates.proofs.Parts.{four, no_new, no_left, no_moved}

-- without a sender nothing is told as sent
unsent : (told : Told) (links : List ℕ) (h : Held) → told.sender ≡ 32 → sent_line (sent_fate told links h) ≡ []
unfolding sent_fate
unsent told links h none =
    let fate = Sent (message_at h told.sender ((record_at links told.sender).sent - 1)).arrival told.sender told.fsn in
    ap (λ (n : ℕ). sent_line (cond (ltb n 32) fate Unchanged)) none

same_either : (test : Bool) → cond {A = ℕ} test 32 32 ≡ 32
same_either true = refl
same_either false = refl

module _ (plan : Plan) (message : List ℕ) (m : Memory) (regular : RegularIn m.areas m.octets) where
  abbrev a : Areas
  a = m.areas

  -- what is told as sent by an event
  abbrev told : Event → Fate
  told event =
      let r = call_of plan event message m in
      let b = r.after.areas in
      sent_fate (told_of (view_of event) r.answer (next_of a.arrivals)) b.links (held b.spans b.rings b.rows)

  -- an event that sends nothing
  quiet : (event : Event) → sender_of (view_of event) ≡ 32 → sent_line (told event) ≡ []
  quiet event none =
      let r = call_of plan event message m in
      let b = r.after.areas in
      let done = eqb r.answer.reply 0 in
      unsent (told_of (view_of event) r.answer (next_of a.arrivals)) b.links (held b.spans b.rings b.rows)
      (ap (λ (n : ℕ). cond done n 32) none ∙ same_either done)

  module _ (link : ℕ) where
    abbrev reply : ℕ
    reply = Send.reply_of plan a.links a.spans link (length m.out)

    abbrev more : ℕ
    more = one_more (record_at a.links link)

    within : reply ≡ 0 → link < 32
    unfolding Send.reply_of
    within done = link_within link (ltb (length m.out) 273) (rows_passed (leb 32 link || ltb (length m.out) 273) _ _ [] done).0

    -- the last sent after it is the first unsent before it
    last_sent : reply ≡ 0 → (record_at (with_sent a.links link more) link).sent - 1 ≡ (record_at a.links link).sent
    last_sent done =
        let there = ap (λ (k : LinkRecord). k.sent) ((sent_rewritten a.links link more).there regular.links_long (within done)) in
        let one = one_more_sent plan a.links a.spans link (length m.out) done in
        let room = room_for_one plan a.links a.spans link (length m.out) done in
        let kept : more % 128 ≡ more = mod-eq_of_lt (omega (arith, one, room)) in
        omega (arith, there, one, kept)

    send_is : sent_line (told (Send link)) ≡ sent_by a (call_of plan (Send link) message m) (view_of (Send link))
    unfolding sent_fate sent_by call_of sends Send.answer_of Send.links_after Send.first_unsent message_at
    send_is =
        both_by_test
        (λ (answer : Answer) (links : List ℕ).
        let sender = cond (eqb answer.reply 0) link 32 in
        sent_line
        (cond (ltb sender 32)
        (Sent (message_at (held a.spans a.rings a.rows) sender ((record_at links sender).sent - 1)).arrival sender answer.fsn)
        Unchanged)
        ≡ cond (eqb answer.reply 0)
        (Sent (arrival_of a.rows (Send.first_unsent a.links a.spans a.rings link)) link answer.fsn ∷ [])
        [])
        (eqb reply 0)
        _
        (plain reply)
        (with_sent a.links link more)
        a.links
        (λ done.
        let is = eqb-true reply 0 done in
        let h = held a.spans a.rings a.rows in
        let fsn = next_number (record_at a.links link) in
        let place = (record_at (with_sent a.links link more) link).sent - 1 in
        ap (λ (t : Bool). sent_line (cond t (Sent (message_at h link place).arrival link fsn) Unchanged)) (lt-ltb link 32 (within is))
        ∙ ap (λ (k : ℕ). Sent (message_at h link k).arrival link fsn ∷ []) (last_sent is))
        (λ refused. simp refused)

  sent_is : (event : Event) → sent_line (told event) ≡ sent_by a (call_of plan event message m) (view_of event)
  unfolding sent_by
  sent_is (Send link) = send_is link
  sent_is (IntoService link) = quiet (IntoService link) refl
  sent_is (Failure link) = quiet (Failure link) refl
  sent_is (Acknowledgement link b) = quiet (Acknowledgement link b) refl
  sent_is (Received link fsn) = quiet (Received link fsn) refl
  sent_is FromHost = quiet FromHost refl
  sent_is (T1 link) = quiet (T1 link) refl
  sent_is (T2 link) = quiet (T2 link) refl
  sent_is (T3 link) = quiet (T3 link) refl
  sent_is (T4 link) = quiet (T4 link) refl
  sent_is (T6 x) = quiet (T6 x) refl
  sent_is (T8 x) = quiet (T8 x) refl
  sent_is (T10 x set) = quiet (T10 x set) refl

pub sent_are : (m : Memory) → Whole m → (text : List ℕ) (calls : List Call) (call : Call)
    → let plan = (configured text).plan in SentAre plan call (ran plan calls (fresh m))
sent_are m whole text calls call =
    let plan = (configured text).plan in
    let before : Memory = ran plan calls (fresh m) in
    let s = seen_of plan call before in
    four sent_line s
    ∙ ap₂ (λ (x y : List Fate). x ++ y) (no_new sent_line s refl (λ n l h. refl))
    (ap₂ (λ (x y : List Fate). x ++ y) (sent_is plan call.message (lent call before) (configured_regular text m whole calls) call.event)
    (ap₂ (λ (x y : List Fate). x ++ y) (no_left sent_line s refl (λ n l. refl) (λ n l. refl)) (no_moved sent_line s refl (λ n f t. refl))))
    ∙ append-nil _
