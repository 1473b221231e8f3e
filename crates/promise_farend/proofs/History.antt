-- A link's history, over every run of calls from every configuration: it begins empty and only grows; nothing that was queued is lost while the
-- link is in service, what was sent is its beginning, in order and numbered on from 127, and nothing is twice; out, it stays as it was.
-- Assumes nothing.
use mathlib.Core.Path.{◌≡◌, sym, ap, ◌∙◌, subst}
use mathlib.Core.Bool.{true}
use mathlib.Core.List.{List, [], ◌∷◌, ◌++◌}
use Prim.Native.Nat.{ℕ, ◌<◌}
use native.Mathlib.Omega.{arith}
use lib.ListN.{length}
use Rattle.plan.specs.declared.data.Plan.{Plan}
use Rattle.area_links.specs.declared.LinkRecord.{LinkRecord}
use Rattle.area_links.specs.LinkRecords.{record_at}
use Rattle.queue_store.specs.Sound.{tally}
use Rattle.replies.specs.Areas.{Areas}
use Rattle.plan_configuration.specs.Configure.{configured}
use Rattle.plan_configuration.proofs.Made.{configured_sound}
use Rattle.node.specs.View.{view_of}
use Rattle.node.specs.Memory.{Memory}
use Rattle.promise_runs.specs.Run.{Call, lent, called, ran, fresh, Whole}
use Rattle.promise_runs.proofs.Reached.{fresh_record, fresh_regular}
use Rattle.promise_accounts.specs.Gone.{nothing_gone, gone_in}
use Rattle.promise_accounts.proofs.OnePlace.{fresh_accounted}
use Rattle.promise_farend.specs.History.{History, begun, result_of, is_done, history_by, history_in, begins, Serving, InOrder, BeginsEmpty, GoesOn, Grows}
use Rattle.promise_farend.specs.FarEnd.{Once}
use Rattle.promise_farend.proofs.Appended.{run_grows, history_on}
use Rattle.promise_farend.proofs.Beginning.{call_begins}
use Rattle.promise_farend.proofs.WhileOut.{call_out}
use Rattle.promise_farend.proofs.HistoryCalls.{SoFar, run_so_far}

module _ (m : Memory) (whole : Whole m) (one : length m.areas.arrivals ≡ 1) (text : List ℕ) (calls : List Call) (link : ℕ) (h : link < 32) where
  abbrev plan : Plan
  plan = (configured text).plan

  abbrev after : Areas
  after = (ran plan calls (fresh m)).areas

  -- what was done over the link since it came into service
  abbrev history : History
  history = history_in plan calls (fresh m) link begun

  -- of a fresh node no link is in service
  fresh_out : ((record_at (fresh m).areas.links link).state ≡ 0 → ⊥) → ⊥
  fresh_out up = up (ap (λ (k : LinkRecord). k.state) (fresh_record m.areas.links whole.links_long link h))

  pub so_far : SoFar link (ran plan calls (fresh m)) history (gone_in plan calls (fresh m) nothing_gone)
  unfolding tally
  so_far =
      run_so_far plan (configured_sound text) link h calls (fresh m) begun nothing_gone
      (record {
        regular = fresh_regular m whole;
        accounted = fresh_accounted m whole one;
        serving = λ up. absurd (fresh_out up);
        ordered = λ up. absurd (fresh_out up);
        part = λ test. omega arith;
        once = record { nothing_twice = λ number. omega arith };
      })

  -- the link's own numbers say the same, while it is in service
  pub numbers_agree : ((record_at after.links link).state ≡ 0 → ⊥) → Serving after link history
  numbers_agree = so_far.serving

  -- and its history is in order: nothing that was queued is lost, or passes another
  pub in_order : ((record_at after.links link).state ≡ 0 → ⊥) → InOrder after link history
  in_order = so_far.ordered

  -- nothing is twice, in service or out
  pub nothing_twice : Once history
  nothing_twice = so_far.once

  -- a further call
  module _ (call : Call) where
    abbrev before : Memory
    before = ran plan calls (fresh m)

    abbrev further : History
    further = history_in plan (calls ++ (call ∷ [])) (fresh m) link begun

    one_more : further ≡ history_by plan call before link history
    unfolding history_in
    one_more = history_on plan link calls (call ∷ []) (fresh m) begun

    -- by which the link comes into service: its history begins empty, and its queue is empty before and after
    pub begins_empty : begins link (is_done (result_of plan call before)) (view_of call.event) ≡ true
        → BeginsEmpty before.areas (called plan call before).areas link further
    unfolding called history_by
    begins_empty anew =
        let empty =
        call_begins plan (configured_sound text) call.message (lent call before) so_far.regular link h history call.event anew
        in
        record {
          nothing_yet = one_more ∙ empty.nothing_yet;
          empty_before = empty.empty_before;
          empty_after = empty.empty_after;
        }

    -- by which it goes out, or after which it still is out: its history stays as it was
    pub kept_while_out : (record_at (called plan call before).areas.links link).state ≡ 0 → further ≡ history
    kept_while_out out = one_more ∙ call_out plan (configured_sound text) call before so_far.regular link h history out

  -- by further calls that don't bring the link into service anew, what was queued, sent and acknowledged stays the beginning of what is then
  pub appended : (later : List Call) → GoesOn plan later (ran plan calls (fresh m)) link
      → Grows history (history_in plan (calls ++ later) (fresh m) link begun)
  appended later goes =
      subst (Grows history) (sym (history_on plan link calls later (fresh m) begun))
      (run_grows plan link later (ran plan calls (fresh m)) history goes)
