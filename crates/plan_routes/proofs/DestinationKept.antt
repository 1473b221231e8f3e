-- A route put to a destination, and a destination put in at its place, leave the destinations in order. Assumes nothing.
use mathlib.Core.Path.{◌≡◌, sym, ap, ◌∙◌}
use mathlib.Core.List.{List}
use Prim.Native.Nat.{ℕ, ◌+◌, ◌<◌}
use native.Mathlib.Omega.{arith}
use lib.ListN.{length, get_or, set, length-set}
use lib.Seq.{get_or-set_same, get_or-set_other}
use Rattle.plan.specs.declared.data.Destination.{Destination}
use Rattle.plan.specs.Data.{absent_destination}
use Rattle.plan.specs.Find.{code_at}
use Rattle.plan_entries.specs.Insert.{inserted}
use Rattle.plan_entries.proofs.Inserted.{inserted_length}
use Rattle.plan_entries.proofs.InOrder.{inserted_each, inserted_ascending}
use Rattle.plan.proofs.Order.{Parts}
use Rattle.plan.proofs.Sound.{Listed}
use Rattle.plan.proofs.Split.{alike}

module _ (n : ℕ) (destinations : List Destination) (place : ℕ) (next : Destination) (listed : Listed n destinations) (four : length next.routes ≡ 4) where
  -- another destination of the same code in its place
  pub known_listed : place < 64 → code_at destinations place ≡ next.code → Listed n (set destinations place next)
  known_listed inside same =
      let there : get_or (set destinations place next) place absent_destination ≡ next =
      get_or-set_same destinations place next absent_destination (omega (arith, listed.all_destinations))
      in
      let code : (i : ℕ) → code_at (set destinations place next) i ≡ code_at destinations i =
      λ i.
      alike i place
      (λ e. ap (code_at (set destinations place next)) e ∙ ap (λ (d : Destination). d.code) there ∙ sym same ∙ ap (code_at destinations) (sym e))
      (λ e. ap (λ (d : Destination). d.code) (get_or-set_other destinations place i next absent_destination e))
      in
      record {
        all_destinations = length-set destinations place next ∙ listed.all_destinations;
        four_ranks =
            λ i h.
            alike i place
            (λ e.
            ap (λ (m : ℕ). length (get_or (set destinations place next) m absent_destination).routes) e
            ∙ ap (λ (d : Destination). length d.routes) there
            ∙ four)
            (λ e.
            ap (λ (d : Destination). length d.routes) (get_or-set_other destinations place i next absent_destination e)
            ∙ listed.four_ranks i h);
        ascending = λ i j h k. omega (arith, code i, code j, listed.ascending i j h k);
      }

  -- a destination more where the others are parted by its code
  pub new_listed : n < 64 → Parts (code_at destinations) n next.code place
      → ((i : ℕ) → i < n → code_at destinations i ≡ next.code → ⊥)
      → Listed (n + 1) (inserted place next destinations)
  new_listed room parts fresh =
      let whole = listed.all_destinations in
      record {
        all_destinations = inserted_length place next destinations ∙ whole;
        four_ranks =
            λ i h.
            inserted_each absent_destination destinations 63 place next (omega (arith, whole)) (omega (arith, parts.within))
            (λ d. length d.routes ≡ 4)
            four
            (λ m k. listed.four_ranks m (omega arith))
            i
            (omega arith);
        ascending =
            inserted_ascending absent_destination destinations n place next (omega (arith, whole)) parts.within (λ d. d.code) listed.ascending parts fresh;
      }
