-- "Given when": a reply over 0 is given exactly if a row with its number applies and no row before it does, and 0 exactly if no row
-- applies. So each row's condition, with those before it, is the exact one. Assumes nothing.
use Prim.Native.Nat.{ℕ, ◌<◌}
use mathlib.Core.Logic.{◌↔◌}
use mathlib.Core.List.{List}
use mathlib.Core.Path.{◌≡◌}
use Rattle.plan.specs.declared.data.Plan.{Plan}
use Rattle.replies_given.specs.GivenWhen.{Gives, None}
use Rattle.replies_given.proofs.Exactly.{given_exactly, none_exactly}
use Rattle.node.specs.declared.call.Event.{Event}
use Rattle.node.specs.Memory.{Memory}
use Rattle.node.specs.Call.{call_of}
use Rattle.promise_table.specs.Table.{rows_of}
use Rattle.promise_table.proofs.Continued.{numbered_over}
use Rattle.promise_table.proofs.FirstRow.{the_table}
use Rattle.promise_table.proofs.OneOfTheTable.{rows_in_table}

module _ (plan : Plan) (event : Event) (message : List ℕ) (m : Memory) where
  -- the reply of a call
  abbrev reply : ℕ
  reply = (call_of plan event message m).answer.reply

  pub given_when : (n : ℕ) → 0 < n → (reply ≡ n) ↔ Gives (rows_of plan event message m) n
  given_when = given_exactly reply (rows_of plan event message m) (the_table plan event message m)

  pub done_when : (reply ≡ 0) ↔ None (rows_of plan event message m)
  done_when =
      none_exactly reply (rows_of plan event message m) (the_table plan event message m)
      (numbered_over (rows_of plan event message m) (rows_in_table plan event message m))
