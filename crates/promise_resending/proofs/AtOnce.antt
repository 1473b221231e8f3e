-- Each message that was sent and not acknowledged may have arrived: a far end that takes every message as soon as it is sent is a true one, over
-- every run of calls from every configuration.
-- Assumes nothing.
use mathlib.Core.Path.{◌≡◌, refl, ap}
use mathlib.Core.List.{List, [], ◌∷◌}
use Prim.Native.Nat.{ℕ, ◌-◌, ◌≤◌, ◌<◌}
use native.Mathlib.Omega.{arith}
use lib.ListN.{length, length-append, length-drop, length-map}
use lib.Seq.{take_all}
use Rattle.plan.specs.declared.data.Plan.{Plan}
use Rattle.plan.specs.Sound as Plan
use Rattle.plan.proofs.Split.{alike}
use Rattle.area_links.specs.LinkRecords.{record_at}
use Rattle.plan_configuration.specs.Configure.{configured}
use Rattle.plan_configuration.proofs.Made.{configured_sound}
use Rattle.node.specs.Memory.{Memory}
use Rattle.promise_runs.specs.Run.{Call, called, ran, fresh, Whole}
use Rattle.promise_accounts.specs.Gone.{Gone, nothing_gone, gone_by, gone_in}
use Rattle.promise_farend.specs.History.{History, Sending, begun, history_by, history_in, arrivals}
use Rattle.promise_farend.specs.FarEnd.{TrueRun, taken_in}
use Rattle.promise_farend.proofs.Appended.{call_grows}
use Rattle.promise_farend.proofs.WhileOut.{call_out}
use Rattle.promise_farend.proofs.HistoryCalls.{SoFar, call_so_far}
use Rattle.promise_farend.proofs.History.{so_far}
use Rattle.promise_resending.specs.Twice.{sent_in_doubt, took_in_doubt, taken_at_once}

module _ (plan : Plan) (link : ℕ) where
  -- in the end it has taken all that was sent
  taken_all : (calls : List Call) (m : Memory) (s : History)
      → taken_in calls (taken_at_once plan link calls m s) (length s.sent) ≡ length (history_in plan calls m link s).sent
  unfolding taken_in taken_at_once history_in
  taken_all [] m s = refl
  taken_all (call ∷ later) m s = taken_all later (called plan call m) (history_by plan call m link s)

  module _ (sound : Plan.Sound plan) (h : link < 32) where
    -- what is acknowledged by a call was sent: the link is in service, or its history stays
    acknowledged_sent : (call : Call) (m : Memory) (s : History) (gone : Gone) → SoFar link m s gone
        → let after = history_by plan call m link s in
        length s.acknowledged < length after.acknowledged → length after.acknowledged ≤ length after.sent
    acknowledged_sent call m s gone so more =
        alike (record_at (called plan call m).areas.links link).state 0
        (λ out.
        let same = call_out plan sound call m so.regular link h s out in
        absurd (omega (arith, more, ap (λ (now : History). length now.acknowledged) same)))
        (λ up. omega (arith, ((call_so_far plan sound link h call m s gone so).serving up).sent_is))

    at_once_true : (calls : List Call) (m : Memory) (s : History) (gone : Gone) → SoFar link m s gone
        → TrueRun plan link calls (taken_at_once plan link calls m s) m s (length s.sent)
    unfolding TrueRun taken_at_once
    at_once_true [] m s gone so = tt
    at_once_true (call ∷ later) m s gone so =
        let after : History = history_by plan call m link s in (
          record {
            grows =
                λ goes.
                let more = (call_grows plan link call m s goes).sent_on in
                omega (arith, ap length more.1, length-append s.sent more.0);
            of_sent = omega arith;
            acknowledged_truly = acknowledged_sent call m s gone so;
          },
          at_once_true later (called plan call m) after (gone_by plan call m gone) (call_so_far plan sound link h call m s gone so),
        )

module _ (m : Memory) (whole : Whole m) (one : length m.areas.arrivals ≡ 1) (text : List ℕ) (calls : List Call) (link : ℕ) (h : link < 32) where
  abbrev its : Plan
  its = (configured text).plan

  abbrev history : History
  history = history_in its calls (fresh m) link begun

  abbrev takings : List ℕ
  takings = taken_at_once its link calls (fresh m) begun

  fresh_so_far : SoFar link (fresh m) begun nothing_gone
  unfolding ran history_in gone_in
  fresh_so_far = so_far m whole one text [] link h

  -- it is a true one
  pub all_taken_truly : TrueRun its link calls takings (fresh m) begun 0
  all_taken_truly = at_once_true its link (configured_sound text) h calls (fresh m) begun nothing_gone fresh_so_far

  -- and took all that was sent and isn't acknowledged
  pub all_can_arrive : took_in_doubt history (taken_in calls takings 0) ≡ sent_in_doubt history
  all_can_arrive =
      let so-many = taken_all its link calls (fresh m) begun in
      take_all (taken_in calls takings 0 - length history.acknowledged) (sent_in_doubt history)
      (omega (
        arith,
        so-many,
        length-drop (length history.acknowledged) (arrivals history.sent),
        length-map history.sent (λ (s : Sending). s.arrival),
      ))
