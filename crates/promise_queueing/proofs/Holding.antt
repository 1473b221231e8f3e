-- Over any run of calls from any configuration, the user messages held and the free user places are 192 together, the management messages
-- and their free places 64; so there is no place exactly if 192, or 64, are held.
-- Assumes nothing.
use mathlib.Core.Path.{◌≡◌, sym, ◌∙◌}
use mathlib.Core.List.{List}
use Prim.Native.Nat.{ℕ, ◌+◌}
use native.Mathlib.Omega.{arith}
use lib.Dec.{eqb}
use lib.ListN.{length}
use borrow.Author.Tests.{eq-eqb, ne_eqb}
use Rattle.plan.proofs.Split.{alike}
use Rattle.queue_rings.specs.Ring.{count_of}
use Rattle.queue_store.proofs.KindsApart.{free_user_lem, free_management_lem}
use Rattle.replies.specs.Areas.{Areas}
use Rattle.plan_configuration.specs.Configure.{configured}
use Rattle.plan_configuration.proofs.Made.{configured_sound}
use Rattle.node.specs.Memory.{Memory}
use Rattle.promise_runs.specs.Run.{Call, ran, fresh, Whole}
use Rattle.promise_runs.proofs.KeepsCalls.{RegularAt}
use Rattle.promise_runs.proofs.Reached.{fresh_regular, configured_regular}
use Rattle.promise_accounts.specs.Gone.{nothing_gone, gone_in}
use Rattle.promise_accounts.proofs.OnePlace.{Accounted, run_accounted, fresh_accounted}
use Rattle.promise_queueing.specs.Holding.{held_of_kind, users_held, managements_held, HeldAtOnce}

-- of two numbers that make up a limit, one is 0 exactly if the other is the limit
none_left : (held free limit : ℕ) → held + free ≡ limit → eqb free 0 ≡ eqb held limit
none_left held free limit all =
    alike held limit (λ full. eq-eqb free 0 (omega arith) ∙ sym (eq-eqb held limit full))
    (λ other. ne_eqb free 0 (λ none. other (omega arith)) ∙ sym (ne_eqb held limit other))

module _ (m : Memory) (whole : Whole m) (one : length m.areas.arrivals ≡ 1) (text : List ℕ) (calls : List Call) where
  abbrev now : Memory
  now = ran (configured text).plan calls (fresh m)

  -- what is reached is regular, and every number is accounted for
  pub reached : RegularAt now
  reached = configured_regular text m whole calls

  pub accounted : Accounted now (gone_in (configured text).plan calls (fresh m) nothing_gone)
  accounted =
      run_accounted (configured text).plan (configured_sound text) calls (fresh m) nothing_gone (fresh_regular m whole)
      (fresh_accounted m whole one)

  pub held_at_once : HeldAtOnce now.areas
  unfolding held_of_kind
  held_at_once =
      let a : Areas = now.areas in
      let users = free_user_lem a.spans a.rings a.rows now.octets reached.store accounted.apart in
      let managements = free_management_lem a.spans a.rings a.rows now.octets reached.store accounted.apart in
      record {
        users = users;
        managements = managements;
        users_full = none_left (users_held a) (count_of a.spans 33) 192 users;
        managements_full = none_left (managements_held a) (count_of a.spans 34) 64 managements;
      }
