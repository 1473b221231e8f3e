-- The reply to a timer that is neither T1 nor T2. Assumes nothing.
use mathlib.Core.Path.{◌≡◌}
use mathlib.Core.List.{List}
use lib.Dec.{leb}
use borrow.Author.Tests.{ne_eqb}
use borrow.Table.Steps.{cases}
use Prim.Native.Nat.{ℕ}
use Rattle.plan.specs.declared.data.Plan.{Plan}
use Rattle.replies.specs.Reply.{first}
use Rattle.changeover_failure.specs.Overdue.{reply_of}

pub another_timer : (plan : Plan) (links : List ℕ) (link timer : ℕ) (reports : List ℕ) → (timer ≡ 1 → ⊥) → (timer ≡ 2 → ⊥)
    → 1 ≡ reply_of plan links link timer reports
unfolding reply_of first
another_timer plan links link timer reports not-t1 not-t2 =
    cases (leb 32 link) (λ e. simp e) (λ e. simp (e, ne_eqb timer 1 not-t1, ne_eqb timer 2 not-t2))
