-- "Taken": a message from a link with reply 3, 4 or 11 moves that link's last received FSN on and changes nothing else. With 9 there is
-- its TFP and T8 besides, where a TFP is made. Assumes nothing.
use Prim.Native.Nat.{ℕ}
use mathlib.Core.Bool.{Bool, true, false, cond, not, ◌||◌, false≢true}
use mathlib.Core.List.{List}
use mathlib.Core.Path.{◌≡◌, refl, sym, ap, subst, ◌∙◌}
use lib.Dec.{eqb}
use lib.ListN.{length}
use borrow.Author.Tests.{eqb-true, ne_eqb}
use borrow.Table.Steps.{cases}
use Rattle.plan.specs.declared.data.Plan.{Plan}
use Rattle.wire.specs.declared.header.Label.{Label}
use Rattle.replies.specs.Reply.{if_done}
use Rattle.replies.specs.Areas.{Areas}
use Rattle.numbers.specs.Numbers.{taken}
use Rattle.numbers.specs.Taken.{with_taken, taken_by}
use Rattle.discrimination.specs.declared.Came.{Came}
use Rattle.discrimination.specs.declared.Came.TheVariants.{Malformed, Foreign, Delivered, Managed, Passed}
use Rattle.discrimination.specs.Discrimination.{from_link}
use Rattle.discrimination.proofs.BySort.{by_passed}
use Rattle.receiving.specs.Receive.{reply_of, received_by, received}
use Rattle.node.specs.declared.call.Event.TheVariants.{Received}
use Rattle.node.specs.Memory.{Memory, memory}
use Rattle.node.specs.Call.{receives, call_of}
use Rattle.promise_table.specs.Unchanged.{is_dropped, with_tfp, with_tfp_of, left_by}
use Rattle.promise_table.proofs.Either.{either, otherwise}
use Rattle.replies_given.proofs.Numbers.{of_first}
use Rattle.promise_table.proofs.Judged.{judged_reply}
use Rattle.promise_table.proofs.ManagedReply.{managed_rows, managed_reply}
use Rattle.promise_table.proofs.ReceivedReply.{before, reply_before}
use Rattle.promise_table.proofs.ReceivedLeft.{received_left}

-- one of two tests holds
one_of : {X : Type 0} (p q : Bool) → (p || q) ≡ true → (p ≡ true → X) → (q ≡ true → X) → X
one_of true q e f g = f refl
one_of false q e f g = g e

-- the four replies with which a message is taken, and dropped
four : (P : ℕ → Type 0) → P 3 → P 4 → P 9 → P 11 → (n : ℕ) → is_dropped n ≡ true → P n
four P at3 at4 at9 at11 n e =
    let at : (k : ℕ) → P k → eqb n k ≡ true → P n = λ k p is. subst P (sym (eqb-true n k is)) p in
    one_of (eqb n 3) (eqb n 4 || (eqb n 9 || eqb n 11)) e (at 3 at3)
    (λ r. one_of (eqb n 4) (eqb n 9 || eqb n 11) r (at 4 at4) (λ s. one_of (eqb n 9) (eqb n 11) s (at 9 at9) (at 11 at11)))

-- only a message for another point is replied 9
module _ (plan : Plan) (link fsn : ℕ) (a : Areas) where
  abbrev IsPassed : Came → Type 0
  IsPassed came = (label : Label) × (came ≡ Passed label)

  apart : {X : Type 0} (n : ℕ) → not (eqb n 9) ≡ true → n ≡ 9 → X
  apart n e is = absurd (false≢true (ap (λ (k : ℕ). not (eqb k 9)) (sym is) ∙ e))

  kind_nine : (size : ℕ) (came : Came) → (received_by plan link fsn size came a).answer.reply ≡ 9 → IsPassed came
  unfolding received_by
  kind_nine size Malformed e = apart 3 refl e
  kind_nine size Foreign e = apart 4 refl e
  kind_nine size Delivered e = apart 0 refl e
  kind_nine size (Managed order) e =
      apart _ (of_first (λ (n : ℕ). not (eqb n 9)) refl (managed_rows plan link fsn a order.point order.slc order.message) refl)
      (sym (managed_reply plan link fsn a order.point order.slc order.message) ∙ e)
  kind_nine size (Passed label) e = (label, refl)

  nine : (message : List ℕ) → (received plan link fsn message a).answer.reply ≡ 9 → IsPassed (from_link plan message)
  unfolding received
  nine message e =
      let reply = reply_of plan a.links link fsn a.reports in
      let does = taken_by link fsn (received_by plan link fsn (length message) (from_link plan message) a) in
      let is : if_done reply does.answer.reply reply ≡ 9 = sym (judged_reply reply does a) ∙ e in
      cases (eqb reply 0)
      (λ none.
      kind_nine (length message) (from_link plan message)
      (sym (ap (λ (t : Bool). cond t does.answer.reply reply) none) ∙ is))
      (λ other.
      apart _ (of_first (λ (n : ℕ). not (eqb n 9)) refl (before plan link fsn a) refl)
      (sym (reply_before plan link fsn a) ∙ sym (otherwise (eqb reply 0) _ reply other) ∙ is))

-- a TFP changes no link and no report
tfp_apart : (plan : Plan) (link : ℕ) (came : Came) (a : Areas)
    → ((with_tfp_of plan link came a).links ≡ a.links) × ((with_tfp_of plan link came a).reports ≡ a.reports)
unfolding with_tfp_of
tfp_apart plan link came a =
    by_passed (λ (now : Areas). (now.links ≡ a.links) × (now.reports ≡ a.reports)) a (refl, refl)
    (λ (label : Label). with_tfp plan link label.dpc a)
    (λ label. (refl, refl))
    came

module _ (plan : Plan) (link fsn : ℕ) (message : List ℕ) (m : Memory) where
  abbrev reply : ℕ
  reply = (call_of plan (Received link fsn) message m).answer.reply

  abbrev after : Memory
  after = (call_of plan (Received link fsn) message m).after

  -- the message taken, with other areas changed before or as they were
  abbrev taken_from : Areas → Memory
  taken_from areas = memory (with_taken link fsn areas) m.octets m.out

  -- the table's column, for every reply but 0
  pub left_by_lem : (reply ≡ 0 → ⊥) → after ≡ left_by plan link fsn (from_link plan message) m reply
  unfolding call_of receives
  left_by_lem other = (received_left plan link fsn m message).left (ap not (ne_eqb reply 0 other))

  -- 3, 4, 9 and 11
  pub taken_with : is_dropped reply ≡ true
      → after ≡ taken_from (cond (eqb reply 9) (with_tfp_of plan link (from_link plan message) m.areas) m.areas)
  taken_with e =
      left_by_lem (λ none. absurd (false≢true (ap is_dropped (sym none) ∙ e)))
      ∙ four
      (λ (n : ℕ).
      left_by plan link fsn (from_link plan message) m n
      ≡ taken_from (cond (eqb n 9) (with_tfp_of plan link (from_link plan message) m.areas) m.areas))
      refl refl refl refl reply e

  -- 3, 4 and 11: "taken, dropped", or "taken, no effect"
  pub taken_alone : is_dropped reply ≡ true → (reply ≡ 9 → ⊥) → after ≡ taken_from m.areas
  taken_alone e other =
      taken_with e
      ∙ ap taken_from
      (otherwise (eqb reply 9) (with_tfp_of plan link (from_link plan message) m.areas) m.areas (ne_eqb reply 9 other))

  -- 9: "as 3, TFP perhaps"
  pub taken_unreached : reply ≡ 9
      → (label : Label) × ((from_link plan message ≡ Passed label) × (after ≡ taken_from (with_tfp plan link label.dpc m.areas)))
  unfolding call_of receives with_tfp_of
  taken_unreached e =
      let passed = nine plan link fsn m.areas message e in (
        passed.0,
        (
          passed.1,
          taken_with (ap is_dropped e)
              ∙ ap (λ (n : ℕ). taken_from (cond (eqb n 9) (with_tfp_of plan link (from_link plan message) m.areas) m.areas)) e
              ∙ ap (λ (c : Came). taken_from (with_tfp_of plan link c m.areas)) passed.1,
        ),
      )

  -- with all four the links have the message taken, and reports, octets and output are as they were
  pub taken_links : is_dropped reply ≡ true
      → (after.areas.links ≡ taken m.areas.links link fsn)
      × ((after.areas.reports ≡ m.areas.reports) × ((after.octets ≡ m.octets) × (after.out ≡ m.out)))
  taken_links e =
      let is = taken_with e in
      let same =
      either (λ (b : Areas). (b.links ≡ m.areas.links) × (b.reports ≡ m.areas.reports)) (eqb reply 9) _ m.areas
      (tfp_apart plan link (from_link plan message) m.areas)
      (refl, refl)
      in (
        ap (λ (k : Memory). k.areas.links) is ∙ ap (λ (l : List ℕ). taken l link fsn) same.0,
        (
          ap (λ (k : Memory). k.areas.reports) is ∙ same.1,
          (ap (λ (k : Memory). k.octets) is, ap (λ (k : Memory). k.out) is),
        ),
      )
