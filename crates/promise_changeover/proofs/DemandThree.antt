-- Demand 3 over every run of calls from every configuration.
-- Assumes nothing.
use mathlib.Core.Path.{◌≡◌, sym, ap, ◌∙◌}
use mathlib.Core.List.{List, ◌++◌}
use Prim.Native.Nat.{ℕ, ◌+◌, ◌<◌}
use native.Mathlib.Omega.{arith}
use lib.ListN.{length, drop}
use borrow.Author.Tests.{le-ltb}
use Rattle.plan.specs.declared.data.Plan.{Plan}
use Rattle.plan.proofs.Split.{split}
use Rattle.area_links.specs.declared.LinkRecord.{LinkRecord}
use Rattle.area_links.specs.LinkRecords.{record_at}
use Rattle.queue_store.specs.Sound.{tally, is}
use Rattle.changeover_cuts.specs.declared.Cut.{Cut}
use Rattle.changeover_cuts.specs.Cuts.{cut_at}
use Rattle.plan_configuration.specs.Configure.{configured}
use Rattle.node.specs.Memory.{Memory}
use Rattle.promise_runs.specs.Run.{Call, lent, ran, fresh, Whole}
use Rattle.promise_runs.proofs.Reached.{configured_regular}
use Rattle.promise_accounts.specs.Gone.{queue_of}
use Rattle.promise_accounts.specs.Ending.{Ending}
use Rattle.promise_accounts.proofs.OnePlace.{tally_on, everything_in_one_place}
use Rattle.promise_farend.specs.History.{History, begun, result_of, number_after, history_in}
use Rattle.promise_farend.specs.FarEnd.{took_of, TrueRun, taken_in}
use Rattle.promise_farend.proofs.History.{nothing_twice}
use Rattle.promise_farend.proofs.FarEnd.{far_end}
use Rattle.promise_changeover.specs.ChangedOver.{found, ending_by, leaving, WithNumber, Brings, Meets, AfterNumber}
use Rattle.promise_changeover.specs.DemandThree.{NothingLost, DemandThree}
use Rattle.promise_changeover.proofs.ChangedOver.{changed_over}
use Rattle.promise_changeover.proofs.GoesOut.{goes_out_by}
use Rattle.promise_changeover.proofs.ByMessage.{after_number}
use Rattle.promise_changeover.proofs.Naming.{number_ends}

-- a link that isn't out is one of the 32
pub one_of_all : (links : List ℕ) (link : ℕ) → ((record_at links link).state ≡ 0 → ⊥) → link < 32
one_of_all links link up = split link 32 (λ below. below) (λ past. absurd (up (simp (le-ltb link 32 past))))

module _ (m : Memory) (whole : Whole m) (one : length m.areas.arrivals ≡ 1) (text : List ℕ) (calls : List Call) where
  abbrev its : Plan
  its = (configured text).plan

  abbrev before : Memory
  before = ran its calls (fresh m)

  -- a COO or COA with a number in range, answered with 0: exactly the messages after the number leave
  pub cut_by : (call : Call) (link f : ℕ) → Brings its call link (WithNumber f) → Meets (found call before) link f
      → (result_of its call before).answer.reply ≡ 0
      → AfterNumber (found call before) (ending_by its call before) link f
  cut_by call link f brings met done =
      let is = number_ends its call before (configured_regular text m whole calls) f link brings met.in_service done in
      after_number (found call before) (ending_by its call before) link f met is.0 is.1 is.2
      (changed_over m whole one text calls call is.0).retired_many

  -- the number of the last message taken, with every acknowledgement before it true: nothing is lost, and nothing doubled
  pub nothing_lost : (call : Call) (link : ℕ) (takings : List ℕ)
      → let taken = taken_in calls takings 0 in
      TrueRun its link calls takings (fresh m) begun 0
      → Brings its call link (WithNumber (number_after taken))
      → ((record_at (found call before).links link).state ≡ 0 → ⊥)
      → (result_of its call before).answer.reply ≡ 0
      → Meets (found call before) link (number_after taken)
      × NothingLost its (found call before) (ending_by its call before) (history_in its calls (fresh m) link begun) taken
  nothing_lost call link takings story brings up done =
      let taken : ℕ = taken_in calls takings 0 in
      let f : ℕ = number_after taken in
      let known : LinkRecord = record_at (found call before).links link in
      let ending : Ending = ending_by its call before in
      let history : History = history_in its calls (fresh m) link begun in
      let within = one_of_all (found call before).links link up in
      let truly = far_end m whole one text calls link within up takings story in
      let met : Meets (found call before) link f = record { in_service = up; is_in_range = truly.is_in_range } in
      let ends = number_ends its call before (configured_regular text m whole calls) f link brings up done in
      let changed = changed_over m whole one text calls call ends.0 in
      let twice = nothing_twice m whole one text calls link within in
      let many : (cut_at known f).retired ≡ ending.parts.retired + ending.parts.dropped =
      omega (arith, ap (λ (c : Cut). c.retired) ends.2, ap (λ (c : Cut). c.dropped) ends.2, truly.none_dropped)
      in
      let behind : drop (cut_at known f).retired (queue_of (found call before) link) ≡ leaving (found call before) ending =
      ap (λ (n : ℕ). drop n (queue_of (found call before) link)) many
      ∙ ap (λ (l : ℕ). drop (ending.parts.retired + ending.parts.dropped) (queue_of (found call before) l)) (sym ends.1)
      in
      let all : history.queued ≡ took_of history taken ++ leaving (found call before) ending =
      truly.makes_up ∙ ap (λ (l : List ℕ). took_of history taken ++ l) behind
      in (
        met,
        record {
          makes_up = all;
          nothing_doubled = λ number. omega (arith, ap (tally (is number)) all, twice.nothing_twice number);
          each_somewhere =
              λ number.
              ap (tally (is number)) all
              ∙ tally_on (is number) (took_of history taken) (leaving (found call before) ending)
              ∙ ap (λ (n : ℕ). tally (is number) (took_of history taken) + n) (changed.each_once number);
        },
      )

  -- demand 3
  pub demand_three : DemandThree its calls (fresh m)
  demand_three = record {
    in_one_place = everything_in_one_place m whole one text calls;
    changed_over = changed_over m whole one text calls;
    none_passed_over =
        λ call link h up.
        goes_out_by its call.message (lent call before) (configured_regular text m whole calls) link h up call.event;
    after_number = cut_by;
    nothing_lost = nothing_lost;
  }
