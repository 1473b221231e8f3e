-- Every question: its reply is the first of its rows that applies, and it leaves the node as it was, with a reply other than 0 the output too.
-- Assumes nothing.
use Prim.Native.Nat.{ℕ, ◌≤◌, ◌<◌}
use mathlib.Core.Bool.{Bool, true, false, cond, not}
use mathlib.Core.Logic.{◌↔◌}
use mathlib.Core.List.{List, [], ◌∷◌}
use mathlib.Core.Path.{◌≡◌, refl, sym, ap, subst}
use lib.Dec.{ltb}
use lib.ListN.{length}
use borrow.Author.Tests.{lt-ltb}
use Rattle.plan.specs.declared.data.Plan.{Plan}
use Rattle.replies.specs.Reply.{row, first}
use Rattle.replies_given.specs.GivenWhen.{Gives, None}
use Rattle.replies_given.proofs.Exactly.{given_exactly, none_exactly}
use Rattle.route_list.specs.RouteList.{list_reply, list_of, laid}
use Rattle.node.specs.declared.ask.Question.{Question}
use Rattle.node.specs.declared.ask.Question.TheVariants.{RouteList}
use Rattle.node.specs.Memory.{Memory, memory}
use Rattle.node.specs.Ask.{answer_to, written_for, ask_of}
use Rattle.promise_table.specs.Asked.{asked_rows}
use Rattle.promise_table.proofs.Continued.{in_table, numbered_over}
use Rattle.promise_table.proofs.OneOfTheTable.{first_in_table}

two_rows : (brief given : Bool) → cond brief 1 (cond given 0 2) ≡ first (row 1 brief ∷ row 2 (not given) ∷ [])
unfolding first
two_rows true given = refl
two_rows false true = refl
two_rows false false = refl

-- "The first row after 0 that applies is the reply"
pub question_table : (plan : Plan) (question : Question) (m : Memory) → (ask_of plan question m).answer.reply ≡ first (asked_rows plan m.out question)
unfolding answer_to asked_rows
question_table plan RouteList m = two_rows (ltb (length m.out) 4096) plan.given

rows_in_table : (plan : Plan) (out : List ℕ) (question : Question) → in_table (asked_rows plan out question) ≡ true
unfolding asked_rows
rows_in_table plan out RouteList = refl

-- nothing is written where it is refused
nothing_written : (plan : Plan) (question : Question) (m : Memory) → 0 < (ask_of plan question m).answer.reply
    → written_for plan m.areas.links m.areas.marks m.out question ≡ m.out
unfolding answer_to written_for
nothing_written plan RouteList m some =
    let reply = list_reply m.out plan in
    let a = m.areas in
    ap (λ (t : Bool). laid m.out 0 (cond t [] (list_of a.links a.marks plan))) (lt-ltb 0 reply some)

module _ (plan : Plan) (question : Question) (m : Memory) where
  -- the reply of a question
  abbrev reply : ℕ
  reply = (ask_of plan question m).answer.reply

  pub question_given_when : (n : ℕ) → 0 < n → (reply ≡ n) ↔ Gives (asked_rows plan m.out question) n
  question_given_when = given_exactly reply (asked_rows plan m.out question) (question_table plan question m)

  pub question_done_when : (reply ≡ 0) ↔ None (asked_rows plan m.out question)
  question_done_when =
      none_exactly reply (asked_rows plan m.out question) (question_table plan question m)
      (numbered_over (asked_rows plan m.out question) (rows_in_table plan m.out question))

  pub question_one_of_the_table : reply ≤ 11
  question_one_of_the_table =
      subst (λ (n : ℕ). n ≤ 11) (sym (question_table plan question m))
      (first_in_table (asked_rows plan m.out question) (rows_in_table plan m.out question))

  -- whatever it answers, the areas and the octets are as they were
  pub question_changes_nothing : ((ask_of plan question m).after.areas ≡ m.areas) × ((ask_of plan question m).after.octets ≡ m.octets)
  question_changes_nothing = (refl, refl)

  -- and with a reply other than 0 the output too
  pub question_refused_unchanged : 0 < reply → (ask_of plan question m).after ≡ m
  question_refused_unchanged some = ap (memory m.areas m.octets) (nothing_written plan question m some)
