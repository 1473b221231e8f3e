-- Every reply is a number of the table: 0 to 11. Assumes nothing.
use Prim.Native.Nat.{ℕ, ◌≤◌}
use native.Mathlib.Omega.{arith}
use mathlib.Core.Bool.{true}
use mathlib.Core.List.{List, [], ◌∷◌}
use mathlib.Core.Path.{◌≡◌, refl, sym, subst}
use Rattle.plan.specs.declared.data.Plan.{Plan}
use Rattle.replies.specs.Reply.{Row, first}
use Rattle.node.specs.declared.call.Event.{Event}
use Rattle.node.specs.declared.call.Event.TheVariants.{IntoService, Failure, Send, Acknowledgement, Received, FromHost, T1, T2, T3, T4, T6, T8, T10}
use Rattle.node.specs.Memory.{Memory}
use Rattle.node.specs.Call.{call_of}
use Rattle.promise_table.specs.Table.{rows_of}
use Rattle.promise_table.proofs.Either.{either}
use Rattle.promise_table.proofs.Continued.{in_table, numbered}
use Rattle.promise_table.proofs.FirstRow.{the_table}

pub first_in_table : (rows : List Row) → in_table rows ≡ true → first rows ≤ 11
unfolding first
first_in_table [] e = omega arith
first_in_table (here ∷ later) e =
    let known = numbered here later e in
    either (λ (n : ℕ). n ≤ 11) here.applies here.number (first later) known.1.0 (first_in_table later known.1.1)

pub rows_in_table : (plan : Plan) (event : Event) (message : List ℕ) (m : Memory) → in_table (rows_of plan event message m) ≡ true
unfolding rows_of
rows_in_table plan (IntoService link) message m = refl
rows_in_table plan (Failure link) message m = refl
rows_in_table plan (Send link) message m = refl
rows_in_table plan (Acknowledgement link b) message m = refl
rows_in_table plan (Received link fsn) message m = refl
rows_in_table plan FromHost message m = refl
rows_in_table plan (T1 link) message m = refl
rows_in_table plan (T2 link) message m = refl
rows_in_table plan (T3 link) message m = refl
rows_in_table plan (T4 link) message m = refl
rows_in_table plan (T6 x) message m = refl
rows_in_table plan (T8 x) message m = refl
rows_in_table plan (T10 x set) message m = refl

pub one_of_the_table : (plan : Plan) (event : Event) (message : List ℕ) (m : Memory) → (call_of plan event message m).answer.reply ≤ 11
one_of_the_table plan event message m =
    subst (λ (n : ℕ). n ≤ 11) (sym (the_table plan event message m))
    (first_in_table (rows_of plan event message m) (rows_in_table plan event message m))
