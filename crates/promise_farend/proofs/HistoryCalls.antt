-- A link's history after every run of calls: it agrees with the link's own numbers and is in order while the link is in service, and nothing is
-- twice in it.
-- Assumes nothing.
use mathlib.Core.Path.{◌≡◌, ap}
use mathlib.Core.Bool.{Bool}
use mathlib.Core.List.{List, [], ◌∷◌}
use Prim.Native.Nat.{ℕ, ◌≤◌, ◌<◌}
use native.Mathlib.Omega.{arith}
use Rattle.plan.specs.declared.data.Plan.{Plan}
use Rattle.plan.specs.Sound as Plan
use Rattle.plan.proofs.Split.{alike}
use Rattle.area_links.specs.LinkRecords.{record_at}
use Rattle.queue_store.specs.Sound.{tally, is}
use Rattle.node.specs.View.{view_of}
use Rattle.node.specs.Memory.{Memory, Result}
use Rattle.promise_runs.specs.Run.{Call, lent, called, ran}
use Rattle.promise_runs.proofs.KeepsCalls.{RegularAt, call_regular}
use Rattle.promise_ledger.specs.Held.{put_on}
use Rattle.promise_accounts.specs.Gone.{queue_of, acknowledged_by, Gone, gone_by, gone_in}
use Rattle.promise_accounts.proofs.OnePlace.{tally_on, Accounted, call_accounted}
use Rattle.promise_farend.specs.History.{History, result_of, event_by, put_by, history_by, history_in}
use Rattle.promise_farend.specs.FarEnd.{Once}
use Rattle.promise_farend.proofs.Once.{event_part, event_queued, once_in_all}
use Rattle.promise_farend.proofs.ServedCalls.{InService, call_served}
use Rattle.promise_farend.proofs.InOrderCalls.{Ordered, out_empty, call_in_order}

-- what holds of a memory, a link's history in it, and what has gone
pub record SoFar (link : ℕ) (m : Memory) (s : History) (gone : Gone) : Type 0 where
  pub regular : RegularAt m
  pub accounted : Accounted m gone
  pub serving : InService m.areas link s
  pub ordered : Ordered m.areas link s
  pub part : (test : ℕ → Bool) → tally test s.acknowledged ≤ tally test gone.acknowledged
  pub once : Once s

module _ (plan : Plan) (sound : Plan.Sound plan) (link : ℕ) (h : link < 32) where
  -- after a call more
  pub call_so_far : (call : Call) (m : Memory) (s : History) (gone : Gone) → SoFar link m s gone
      → SoFar link (called plan call m) (history_by plan call m link s) (gone_by plan call m gone)
  unfolding called history_by gone_by put_on tally
  call_so_far call m s gone before =
      let now : Memory = lent call m in
      let r : Result = result_of plan call m in
      let after : Memory = r.after in
      let view = view_of call.event in
      let was-serving : InService now.areas link s =
      λ up. let was = before.serving up in record { sent_is = was.sent_is; acknowledged_is = was.acknowledged_is }
      in
      let was-ordered : Ordered now.areas link s =
      λ up.
      let was = before.ordered up in
      record { history_is = was.history_is; sent_in_order = was.sent_in_order; sent_numbered = was.sent_numbered }
      in
      let regular = call_regular plan sound call.message now before.regular call.event in
      let accounted = call_accounted plan sound call m gone before.regular before.accounted in
      let in_all = once_in_all after (gone_by plan call m gone) accounted link h in
      let ordered =
      call_in_order plan sound call.message now before.regular link h s was-serving was-ordered call.event
      (λ n. omega (arith, in_all n))
      in
      let part : (test : ℕ → Bool) → tally test (history_by plan call m link s).acknowledged ≤ tally test (gone_by plan call m gone).acknowledged =
      λ test.
      omega (
        arith,
        before.part test,
        event_part plan link test now.areas r s view,
        tally_on test gone.acknowledged (acknowledged_by plan now.areas view),
      )
      in
      record {
        regular = regular;
        accounted = accounted;
        serving =
            λ up.
            let is = call_served plan call.message now before.regular link h s was-serving call.event up in
            record { sent_is = is.sent_is; acknowledged_is = is.acknowledged_is };
        ordered = ordered;
        part = part;
        once = record {
          nothing_twice =
              λ number.
              alike (record_at after.areas.links link).state 0
              (λ out.
              let none : put_by now.areas link r ≡ [] =
              ap (put_on (queue_of now.areas link)) (out_empty after.areas after.octets regular link h out)
              in
              omega (
                arith,
                event_queued plan link (is number) now.areas r s view,
                before.once.nothing_twice number,
                tally_on (is number) (event_by plan now.areas link r s view).queued (put_by now.areas link r),
                ap (tally (is number)) none,
              ))
              (λ up.
              omega (
                arith,
                in_all number,
                part (is number),
                ap (tally (is number)) (ordered up).history_is,
                tally_on (is number) (history_by plan call m link s).acknowledged (queue_of after.areas link),
              ));
        };
      }

  -- after a run more
  pub run_so_far : (calls : List Call) (m : Memory) (s : History) (gone : Gone) → SoFar link m s gone
      → SoFar link (ran plan calls m) (history_in plan calls m link s) (gone_in plan calls m gone)
  unfolding ran history_in gone_in
  run_so_far [] m s gone before = before
  run_so_far (call ∷ later) m s gone before =
      run_so_far later (called plan call m) (history_by plan call m link s) (gone_by plan call m gone) (call_so_far call m s gone before)
