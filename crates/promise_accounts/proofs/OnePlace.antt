-- Everything is in one place: over any run of calls from any configuration, each arrival number given so far is held, acknowledged,
-- retired by a changeover number or reported dropped, in exactly one place, and no other number is anywhere.
-- Assumes nothing.
use mathlib.Core.Path.{◌≡◌, sym, ap, ◌∙◌}
use mathlib.Core.Bool.{Bool, true}
use mathlib.Core.List.{List, [], ◌∷◌, ◌++◌, map}
use Prim.Native.Nat.{ℕ, zero, suc, ◌+◌, ◌≤◌, ◌<◌}
use native.Mathlib.Omega.{arith}
use lib.ListN.{length, length-set}
use lib.Seq.{get_or-set_same}
use borrow.Author.Tests.{eq-eqb, ne_eqb}
use Rattle.plan.specs.declared.data.Plan.{Plan}
use Rattle.plan.specs.Sound as Plan
use Rattle.plan.proofs.Split.{alike}
use Rattle.queue_store.specs.Sound.{bit, sum, tally, is, Kinds}
use Rattle.queue_store.proofs.Sums.{sum_none}
use Rattle.queue_store.proofs.FreshStore.{other_queue, fresh_kinds}
use Rattle.replies.specs.Areas.{Areas}
use Rattle.queue_heads.specs.Head.{both}
use Rattle.plan_configuration.specs.Configure.{configured}
use Rattle.plan_configuration.proofs.Made.{configured_sound}
use Rattle.start.specs.Start.{fresh_spans, fresh_rings}
use Rattle.node.specs.Memory.{Memory}
use Rattle.node.specs.View.{view_of}
use Rattle.node.specs.Call.{call_of}
use Rattle.promise_runs.specs.Run.{Call, lent, called, ran, fresh, Whole}
use Rattle.promise_runs.proofs.KeepsCalls.{RegularAt, call_regular}
use Rattle.promise_runs.proofs.Reached.{fresh_regular}
use Rattle.promise_ledger.specs.Held.{arrival_of, numbers, held_of, given_of}
use Rattle.promise_accounts.specs.Gone.{Gone, nothing_gone, gone_by, gone_in, places_of, next_in, OnePlace, acknowledged_by, retired_by, dropped_by}
use Rattle.promise_accounts.proofs.EvenCalls.{call_even}

-- a tally of two lists, one behind the other
pub tally_on : (test : ℕ → Bool) (first next : List ℕ) → tally test (first ++ next) ≡ tally test first + tally test next
unfolding tally
tally_on test [] next = omega arith
tally_on test (number ∷ later) next = omega (arith, tally_on test later next)

-- a number below the next is one of those given, and one that isn't is none
pub given_once : (number next : ℕ) → number < next → sum (λ n. bit (is number n)) next ≡ 1
unfolding sum
given_once number zero h = absurd (omega arith)
given_once number (suc next) h =
    alike number next
    (λ same.
    let here : bit (is number next) ≡ 1 = simp (eq-eqb next number (sym same)) in
    let before = sum_none (λ n. bit (is number n)) next (λ n below. simp (ne_eqb n number (λ e. omega arith))) in
    omega arith)
    (λ other.
    let here : bit (is number next) ≡ 0 = simp (ne_eqb next number (λ e. other (sym e))) in
    let before = given_once number next (omega (arith, other)) in
    omega arith)

pub given_none : (number next : ℕ) → next ≤ number → sum (λ n. bit (is number n)) next ≡ 0
given_none number next h = sum_none (λ n. bit (is number n)) next (λ n below. simp (ne_eqb n number (λ e. omega arith)))

-- every number that is given is accounted for
pub record Accounted (m : Memory) (gone : Gone) : Type 0 where
  pub one : length m.areas.arrivals ≡ 1
  pub apart : Kinds m.areas.spans m.areas.rings
  pub places : (test : ℕ → Bool) → places_of test m gone ≡ given_of test (next_in m)

module _ (plan : Plan) (sound : Plan.Sound plan) where
  -- a call more
  pub call_accounted : (call : Call) (m : Memory) (gone : Gone) → RegularAt m → Accounted m gone
      → Accounted (called plan call m) (gone_by plan call m gone)
  unfolding called gone_by
  call_accounted call m gone regular before =
      let now : Memory = lent call m in
      let any = call_even (λ n. true) plan call.message now regular before.one before.apart call.event in
      record {
        one = any.one;
        apart = any.apart before.apart;
        places =
            λ test.
            let even = call_even test plan call.message now regular before.one before.apart call.event in
            omega (
              arith,
              even.even,
              before.places test,
              tally_on test gone.acknowledged (acknowledged_by plan now.areas (view_of call.event)),
              tally_on test gone.retired (retired_by plan now.areas call.message (view_of call.event)),
              tally_on test gone.dropped (dropped_by (call_of plan call.event call.message now)),
            );
      }

  -- a run more
  pub run_accounted : (calls : List Call) (m : Memory) (gone : Gone) → RegularAt m → Accounted m gone
      → Accounted (ran plan calls m) (gone_in plan calls m gone)
  unfolding ran gone_in called
  run_accounted [] m gone regular before = before
  run_accounted (call ∷ later) m gone regular before =
      run_accounted later (called plan call m) (gone_by plan call m gone)
      (call_regular plan sound call.message (lent call m) regular call.event)
      (call_accounted call m gone regular before)

-- a fresh node holds nothing, and no number is given
module _ (m : Memory) (whole : Whole m) (one : length m.areas.arrivals ≡ 1) where
  abbrev a : Areas
  a = m.areas

  none_held : (test : ℕ → Bool) → held_of test a.rows (both (fresh_spans a.spans) (fresh_rings a.rings)) ≡ 0
  unfolding held_of numbers tally
  none_held test =
      sum_none (λ ring. tally test (numbers a.rows (both (fresh_spans a.spans) (fresh_rings a.rings)) ring)) 33
      (λ ring h.
      ap (λ (slots : List ℕ). tally test (map (arrival_of a.rows) slots))
      (other_queue a.spans a.rings whole.spans_long whole.rings_long ring h))

  none_given : next_in (fresh m) ≡ 0
  none_given = get_or-set_same a.arrivals 0 0 0 (omega (arith, one))

  pub fresh_accounted : Accounted (fresh m) nothing_gone
  unfolding tally sum
  fresh_accounted =
      record {
        one = length-set a.arrivals 0 0 ∙ one;
        apart = fresh_kinds a.spans a.rings whole.spans_long whole.rings_long;
        places = λ test. omega (arith, none_held test, ap (given_of test) none_given);
      }

  -- every message ever queued is in exactly one place
  pub everything_in_one_place : (text : List ℕ) (calls : List Call)
      → let plan = (configured text).plan in
      OnePlace (ran plan calls (fresh m)) (gone_in plan calls (fresh m) nothing_gone)
  everything_in_one_place text calls =
      let plan = (configured text).plan in
      let after : Memory = ran plan calls (fresh m) in
      let all = run_accounted plan (configured_sound text) calls (fresh m) nothing_gone (fresh_regular m whole) fresh_accounted in
      record {
        given = λ number h. all.places (is number) ∙ given_once number (next_in after) h;
        not_given = λ number h. all.places (is number) ∙ given_none number (next_in after) h;
      }
