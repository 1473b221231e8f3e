-- Every send with reply 0 writes a message of 5 to 273 octets: over any run of calls from any configuration, each slot that isn't free holds one.
-- Assumes nothing.
use mathlib.Core.Path.{◌≡◌, sym, ap, subst}
use mathlib.Core.Logic.{⊎_elim}
use mathlib.Core.List.{List, [], ◌∷◌}
use Prim.Native.Nat.{ℕ, ◌<◌}
use native.Mathlib.Omega.{arith}
use lib.ListN.{length}
use Rattle.plan.specs.declared.data.Plan.{Plan}
use Rattle.plan.specs.Sound as Plan
use Rattle.plan.proofs.Split.{split}
use Rattle.area_slots.specs.declared.Slot.{Slot}
use Rattle.queue_slots.proofs.Messages.{octets_length}
use Rattle.queue_store.specs.Sound.{tally, is}
use Rattle.queue_store.proofs.Sums.{sum_none}
use Rattle.queue_store.proofs.FreshStore.{other_queue}
use Rattle.wire_writing.specs.Writing.{octets_of}
use Rattle.wire_writing.proofs.Written.{eight}
use Rattle.sending.specs.Send.{held_label}
use Rattle.plan_configuration.specs.Configure.{configured}
use Rattle.plan_configuration.proofs.Made.{configured_sound}
use Rattle.node.specs.declared.call.Event.TheVariants.{Send}
use Rattle.node.specs.Memory.{Memory}
use Rattle.node.specs.Call.{call_of}
use Rattle.promise_runs.specs.Run.{Call, lent, called, ran, fresh, Whole}
use Rattle.promise_runs.proofs.KeepsCalls.{RegularAt}
use Rattle.promise_contents.specs.Content.{content_of, row_in, octets_in, next_in, next_slot}
use Rattle.promise_contents.specs.Made.{New, new_of, Written, WritesMessage}
use Rattle.promise_contents.proofs.Fitting.{Fit, written_fits}
use Rattle.promise_contents.proofs.Free.{stands_in, free_in}
use Rattle.promise_contents.proofs.FreeEvents.{queues_in, StillAt}
use Rattle.promise_contents.proofs.FreeCalls.{call_stays}
use Rattle.promise_contents.proofs.Sent.{user_writes, made_writes}
use Rattle.promise_contents.proofs.Ready.{Ready, call_ready, run_ready, fresh_ready}
use Rattle.promise_contents.proofs.Unsent.{one_place, sent_slot, sent_not_free}

-- each slot that isn't free holds a message that can be sent
abbrev pub AllFit : Memory → Type 0
AllFit m = (slot : ℕ) → slot < 256 → free_in (queues_in m.areas) slot ≡ 0 → Fit slot (row_in (content_of m) slot)

module _ (plan : Plan) (sound : Plan.Sound plan) where
  -- a call leaves it so
  call_fits : (call : Call) (m : Memory) → Ready m → AllFit m → AllFit (called plan call m)
  unfolding called
  call_fits call m ready fit slot h busy =
      let next : Memory = called plan call m in
      let new : New = new_of plan call.event call.message (lent call m).areas in
      ⊎_elim
      (λ (still : StillAt (queues_in m.areas) (queues_in next.areas) m.areas.rows next.areas.rows slot).
      subst (Fit slot) (sym still.0) (fit slot h (omega (arith, still.1, busy))))
      (λ (written : Written new (next_in (content_of m)) slot (row_in (content_of next) slot)).
      written_fits new (next_in (content_of m)) slot (row_in (content_of next) slot) written)
      (call_stays plan call.message (lent call m) ready.regular ready.apart call.event slot h)

  -- and so does a run
  pub run_fits : (calls : List Call) (m : Memory) → Ready m → AllFit m → AllFit (ran plan calls m)
  unfolding ran
  run_fits [] m ready fit = fit
  run_fits (call ∷ later) m ready fit =
      run_fits later (called plan call m) (call_ready plan sound call m ready) (call_fits call m ready fit)

-- of a fresh node every slot is free
pub fresh_fits : (m : Memory) → Whole m → RegularAt (fresh m) → AllFit (fresh m)
unfolding tally
fresh_fits m whole regular slot h busy =
    let a = (fresh m).areas in
    let none =
    sum_none (stands_in (queues_in a) slot) 33
    (λ ring l. ap (tally (is slot)) (other_queue m.areas.spans m.areas.rings whole.spans_long whole.rings_long ring l))
    in
    absurd (omega (arith, one_place a.rows m.octets (queues_in a) regular.store slot h, none, busy))

-- a send that takes a message that fits
sent_whole : (plan : Plan) (link : ℕ) (given : List ℕ) (m : Memory) → (call_of plan (Send link) given m).answer.reply ≡ 0
    → Fit (next_slot m link) (row_in (content_of m) (next_slot m link)) → WritesMessage (call_of plan (Send link) given m) m.out
sent_whole plan link given m none fit =
    let slot : ℕ = next_slot m link in
    let row : Slot = row_in (content_of m) slot in
    split slot 192
    (λ user.
    let size = octets_length m.octets slot row.field in
    record {
      octets = octets_in (content_of m) slot row.field;
      least = omega (arith, size, (fit.user user).0);
      most = omega (arith, size, (fit.user user).1);
      writes = user_writes plan link given m none user (fit.user user).1;
    })
    (λ there.
    let message = (fit.management there).0 in
    let total = eight plan.ni (held_label plan row) message in
    record {
      octets = octets_of plan.ni (held_label plan row) message;
      least = omega (arith, total.total, total.least);
      most = omega (arith, total.total, total.most);
      writes = made_writes plan link given m none there message (fit.management there).1;
    })

-- every send with reply 0, after any calls from any configuration
pub every_send_written : (m : Memory) → Whole m → length m.areas.arrivals ≡ 1 → (text : List ℕ) (earlier : List Call) (sending : Call) (link : ℕ)
    → let plan = (configured text).plan in
    let before = ran plan earlier (fresh m) in
    (call_of plan (Send link) sending.message (lent sending before)).answer.reply ≡ 0
    → WritesMessage (call_of plan (Send link) sending.message (lent sending before)) sending.out
every_send_written m whole one text earlier sending link none =
    let plan = (configured text).plan in
    let sound = configured_sound text in
    let start = fresh_ready m whole one in
    let before : Memory = ran plan earlier (fresh m) in
    let ready = run_ready plan sound earlier (fresh m) start in
    let fit = run_fits plan sound earlier (fresh m) start (fresh_fits m whole start.regular) in
    let now : Memory = lent sending before in
    sent_whole plan link sending.message now none
    (fit (next_slot now link) (sent_slot plan link sending.message now ready.regular none)
    (sent_not_free plan link sending.message now ready.regular none))
