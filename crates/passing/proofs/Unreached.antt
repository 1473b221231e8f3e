-- What a message for a point that can't be reached leaves: all as it was with no TFP due, or where the TFP finds no place or number, and
-- else the TFP made and T8 started. Assumes nothing.
use mathlib.Core.Path.{◌≡◌, sym, ap, ◌∙◌}
use mathlib.Core.Bool.{Bool, true, false, cond}
use mathlib.Core.List.{List}
use Prim.Native.Nat.{ℕ}
use Rattle.plan.specs.declared.data.Plan.{Plan}
use Rattle.replies.specs.declared.Answer.{Answer}
use Rattle.replies.specs.Reply.{plain, number, number_of}
use Rattle.replies.specs.Areas.{Areas, Outcome, outcome, judged, with_marks, Leaves}
use Rattle.replies.proofs.Rows.{refused}
use Rattle.replies.proofs.Leaving.{leaves}
use Rattle.management_making.specs.declared.Draft.{Draft}
use Rattle.std.specs.Prelude.{Result, Ok, Err}
use Rattle.std.specs.Result.{result_unwrap_or}
use Rattle.replies.specs.declared.Refusal.{Refusal}
use Rattle.replies.proofs.Numbers.{over, none, answers}
use Rattle.management_making.specs.Make.{Held, held, held_in, with_held, is_made, made, with_made, makes_reply}
use Rattle.management_making.proofs.Making.{MakeLeaves, told_made, refused_kept}
use Rattle.passing_passage.specs.Passage.{prohibited_to, tells, with_t8}
use Rattle.passing.specs.Pass.{marks_told, not_reached}
use Rattle.replies.proofs.Judging.{is_refused, is_done}

module _ (plan : Plan) (a : Areas) (arriving x : ℕ) where
  -- the outcome where a TFP is due
  abbrev told : Outcome
  told =
      judged (makes_reply plan (prohibited_to plan arriving x) a)
      (outcome (plain 9) (with_marks (with_made plan (prohibited_to plan arriving x) a) (marks_told plan a arriving x)))
      a

  by_due : (said : Bool) → tells plan a.marks x ≡ said
      → cond said told (outcome (plain 9) a) ≡ not_reached plan arriving x a
  unfolding not_reached
  by_due said e = sym (ap (λ (t : Bool). cond t told (outcome (plain 9) a)) e)

  -- no TFP is due
  pub none_due : tells plan a.marks x ≡ false → (answer : Answer) → answer ≡ plain 9 → Leaves (not_reached plan arriving x a) answer a
  none_due e answer nine =
      leaves (not_reached plan arriving x a) answer a (ap (λ (r : Answer). outcome r a) nine ∙ by_due false e)

-- a TFP is due, and was asked for: what was answered, and what is held then
pub record Asked (plan : Plan) (a : Areas) (arriving x : ℕ) (sent : Result Bool Refusal) (now : Held) : Type 0 where
  pub is_due : tells plan a.marks x ≡ true
  pub replies : number_of sent ≡ makes_reply plan (prohibited_to plan arriving x) a
  pub makes : result_unwrap_or sent false ≡ is_made plan a.links a.marks a.spans a.arrivals (prohibited_to plan arriving x)
  pub holds : now ≡ made plan a.links a.marks (prohibited_to plan arriving x) (held_in a)

pub asked : (plan : Plan) (a : Areas) (arriving x : ℕ) → tells plan a.marks x ≡ true
    → (draft : Draft) → draft ≡ prohibited_to plan arriving x → (sent : Result Bool Refusal) (spans rings rows arrivals : List ℕ)
    → MakeLeaves plan a.links a.marks draft a.spans a.rings a.rows a.arrivals sent spans rings rows arrivals
    → Asked plan a arriving x sent (held spans rings rows arrivals)
asked plan a arriving x due draft drafted sent spans rings rows arrivals left =
    record {
      is_due = due;
      replies = left.1 ∙ ap (λ (d : Draft). makes_reply plan d a) drafted;
      makes =
          ap (λ (m : Result Bool Refusal). result_unwrap_or m false) left.0
          ∙ told_made plan a.links a.marks draft a.spans a.arrivals
          ∙ ap (λ (d : Draft). is_made plan a.links a.marks a.spans a.arrivals d) drafted;
      holds = left.2 ∙ ap (λ (d : Draft). made plan a.links a.marks d (held_in a)) drafted;
    }

module _ (plan : Plan) (a : Areas) (arriving x : ℕ) (sent : Result Bool Refusal) (now : Held) (so : Asked plan a arriving x sent now) where
  -- it finds no place or number
  pub not_told : (refusal : Refusal) → sent ≡ Err refusal → (answer : Answer) → answer ≡ plain (number refusal)
      → Leaves (not_reached plan arriving x a) answer (with_held a now)
  not_told refusal lacks answer says =
      let above = over sent refusal lacks in
      let kept : now ≡ held_in a =
      so.holds
      ∙ refused_kept plan a.links a.marks (prohibited_to plan arriving x) (held_in a) (refused (number_of sent) _ so.replies above)
      in
      leaves (not_reached plan arriving x a) answer (with_held a now)
      (ap (λ (r : Answer). outcome r (with_held a now)) (answers sent refusal lacks answer says)
      ∙ ap (λ (h : Held). outcome (plain (number_of sent)) (with_held a h)) kept
      ∙ is_refused (number_of sent) _ so.replies _ a above
      ∙ by_due plan a arriving x true so.is_due)

  -- the flags, with T8 started if it was made
  pub marks_are : (told : Bool) → sent ≡ Ok told → (said : Bool) → told ≡ said → cond said (with_t8 plan a.marks x) a.marks ≡ marks_told plan a arriving x
  unfolding marks_told
  marks_are told is said e =
      ap (λ (t : Bool). cond t (with_t8 plan a.marks x) a.marks)
      (sym e ∙ sym (ap (λ (m : Result Bool Refusal). result_unwrap_or m false) is) ∙ so.makes)

  -- it finds what it needs, or has no path
  pub is_told : (told : Bool) → sent ≡ Ok told → (marks : List ℕ) → marks ≡ marks_told plan a arriving x → (answer : Answer) → answer ≡ plain 9
      → Leaves (not_reached plan arriving x a) answer (with_marks (with_held a now) marks)
  is_told told is marks flagged answer nine =
      let after : Held → List ℕ → Areas = λ h m. with_marks (with_held a h) m in
      leaves (not_reached plan arriving x a) answer (after now marks)
      (ap (λ (r : Answer). outcome r (after now marks)) nine
      ∙ ap (λ (m : List ℕ). outcome (plain 9) (after now m)) flagged
      ∙ ap (λ (h : Held). outcome (plain 9) (after h (marks_told plan a arriving x))) so.holds
      ∙ is_done (number_of sent) _ so.replies _ a (none sent told is)
      ∙ by_due plan a arriving x true so.is_due)
