-- The reports record by record: those from one on are its lines and those behind it.
-- Assumes nothing.
use mathlib.Core.Path.{◌≡◌, ap}
use mathlib.Core.List.{List, [], ◌++◌}
use Prim.Native.Nat.{ℕ, suc, ◌+◌, ◌-◌, ◌*◌, ◌≤◌, ◌<◌}
use native.Mathlib.Omega.{arith}
use lib.ListN.{get_or}
use Rattle.replay_reports.specs.Reported.{reported, reported_from}

module _ (number : ℕ) (reports : List ℕ) (k m : ℕ) where
  -- first the next record, then those behind it
  pub reports_on : k < m → reported_from number reports k (m - k) ≡ reported number (get_or reports (2 * k) 0) (get_or reports (2 * k + 1) 0) ++ reported_from number reports (k + 1) (m - (k + 1))
  unfolding reported_from
  reports_on h =
      let left : m - k ≡ suc (m - (k + 1)) = omega arith in
      ap (reported_from number reports k) left

  -- none is left
  pub reports_end : m ≤ k → reported_from number reports k (m - k) ≡ []
  unfolding reported_from
  reports_end h =
      let none : m - k ≡ 0 = omega arith in
      ap (reported_from number reports k) none
