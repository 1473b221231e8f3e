-- The table's column "State and lent areas": with reply 1, 2, 5, 6, 7, 8 or 10 every event leaves all areas, the octets and the output
-- exactly as they were, and a message from the host does so with every reply other than 0. Assumes nothing.
use Prim.Native.Nat.{ℕ}
use mathlib.Core.Bool.{true, false, not, false≢true}
use mathlib.Core.List.{List}
use mathlib.Core.Path.{◌≡◌, sym, ap, ◌∙◌}
use lib.Dec.{eqb}
use borrow.Author.Tests.{eqb-true, ne_eqb}
use borrow.Table.Steps.{cases}
use Rattle.plan.specs.declared.data.Plan.{Plan}
use Rattle.discrimination.specs.Discrimination.{from_link}
use Rattle.receiving.specs.Receive.{received}
use Rattle.node.specs.declared.call.Event.{Event}
use Rattle.node.specs.declared.call.Event.TheVariants.{IntoService, Failure, Send, Acknowledgement, Received, FromHost, T1, T2, T3, T4, T6, T8, T10}
use Rattle.node.specs.Memory.{Memory}
use Rattle.node.specs.Call.{receives, takes_over, call_of}
use Rattle.promise_table.specs.Unchanged.{leaves_all}
use Rattle.promise_table.proofs.Kept.{refuses}
use Rattle.promise_table.proofs.OthersUnchanged.{into_service_lem, failure, changeover, t6, t10, send, acknowledgement, wait, t8, from_host_lem}
use Rattle.promise_table.proofs.ReceivedLeft.{all_left, received_left}

-- none of them is 0
over_none : (reply : ℕ) → leaves_all reply ≡ true → refuses reply ≡ true
over_none reply e =
    cases (eqb reply 0) (λ zero. absurd (false≢true (sym (ap leaves_all (eqb-true reply 0 zero)) ∙ e))) (λ other. ap not other)

by_event : (plan : Plan) (event : Event) (message : List ℕ) (m : Memory)
    → refuses (call_of plan event message m).answer.reply ≡ true → leaves_all (call_of plan event message m).answer.reply ≡ true
    → (call_of plan event message m).after ≡ m
unfolding call_of receives takes_over
by_event plan (IntoService link) message m some named = (into_service_lem plan m link).left some
by_event plan (Failure link) message m some named = (failure plan m link).left some
by_event plan (Send link) message m some named = send plan m link some
by_event plan (Acknowledgement link b) message m some named = acknowledgement plan m link b some
by_event plan (Received link fsn) message m some named =
    (received_left plan link fsn m message).left some
    ∙ all_left plan link fsn m (from_link plan message) (received plan link fsn message m.areas).answer.reply named
by_event plan FromHost message m some named = (from_host_lem plan m message).left some
by_event plan (T1 link) message m some named = (changeover plan m link 1).left some
by_event plan (T2 link) message m some named = (changeover plan m link 2).left some
by_event plan (T3 link) message m some named = wait plan m link 3 some
by_event plan (T4 link) message m some named = wait plan m link 4 some
by_event plan (T6 x) message m some named = (t6 plan m x).left some
by_event plan (T8 x) message m some named = t8 plan m x some
by_event plan (T10 x set) message m some named = (t10 plan m x set).left some

pub refused_unchanged : (plan : Plan) (event : Event) (message : List ℕ) (m : Memory)
    → leaves_all (call_of plan event message m).answer.reply ≡ true → (call_of plan event message m).after ≡ m
refused_unchanged plan event message m named =
    by_event plan event message m (over_none (call_of plan event message m).answer.reply named) named

pub host_unchanged : (plan : Plan) (message : List ℕ) (m : Memory)
    → ((call_of plan FromHost message m).answer.reply ≡ 0 → ⊥) → (call_of plan FromHost message m).after ≡ m
unfolding call_of takes_over
host_unchanged plan message m other = (from_host_lem plan m message).left (ap not (ne_eqb (call_of plan FromHost message m).answer.reply 0 other))
