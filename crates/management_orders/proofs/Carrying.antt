-- How a step is carried out, from what the code does one after the other: the answer made, and the link out.
-- Assumes nothing.
use mathlib.Core.Path.{◌≡◌, sym, ap, ◌∙◌}
use mathlib.Core.Bool.{Bool, true, false, cond}
use mathlib.Core.List.{List}
use Prim.Native.Nat.{ℕ, ◌≤◌, ◌<◌}
use native.Mathlib.Omega.{arith}
use lib.Dec.{eqb}
use borrow.Author.Tests.{eq-eqb, ne_eqb}
use borrow.Table.Steps.{cases}
use Rattle.plan.specs.declared.data.Plan.{Plan}
use Rattle.replies.specs.declared.Answer.{Answer}
use Rattle.replies.specs.Reply.{plain, done, number_of}
use Rattle.replies.specs.Areas.{Areas, areas, Outcome, outcome, refused, judged, Leaves}
use Rattle.replies.proofs.Judging.{whole}
use Rattle.replies.proofs.Leaving.{leaves}
use Rattle.std.specs.Prelude.{Result}
use Rattle.replies.specs.declared.Refusal.{Refusal}
use Rattle.management_making.specs.Make.{Held, held_in, with_held, with_made, makes_reply}
use Rattle.management_making.proofs.Making.{MakeLeaves, refused_kept}
use Rattle.changeover_ending.specs.End.{out_of_service}
use Rattle.changeover_ending.proofs.Ended.{EndLeaves, parts_whole}
use Rattle.management_steps.specs.declared.Step.{Step}
use Rattle.management_orders.specs.Carry.{answer_reply, with_answer, ended_by, carried}

module _ (plan : Plan) (step : Step) (a : Areas) where
  -- what the making of the answer leaves: its reply, and the areas that hold messages
  abbrev pub AnswerLeaves : ℕ → List ℕ → List ℕ → List ℕ → List ℕ → Type 0
  AnswerLeaves reply spans rings rows arrivals =
      Leaves (outcome (plain (answer_reply plan step a)) (with_answer plan step a)) (plain reply)
      (areas a.links a.marks spans rings rows arrivals a.reports)

  answers_by : (said : Bool) → step.answers ≡ said
      → outcome (plain (cond said (makes_reply plan step.draft a) 0)) (cond said (with_made plan step.draft a) a)
      ≡ outcome (plain (answer_reply plan step a)) (with_answer plan step a)
  unfolding answer_reply with_answer
  answers_by said e =
      ap (λ (t : Bool). outcome (plain (cond t (makes_reply plan step.draft a) 0)) (cond t (with_made plan step.draft a) a)) (sym e)

  -- a step with no answer
  pub no_answer : step.answers ≡ false → AnswerLeaves 0 a.spans a.rings a.rows a.arrivals
  no_answer e = leaves _ (plain 0) a (answers_by false e)

  -- and with one
  pub answer_made : step.answers ≡ true → (given : Result Bool Refusal) (spans rings rows arrivals : List ℕ)
      → MakeLeaves plan a.links a.marks step.draft a.spans a.rings a.rows a.arrivals given spans rings rows arrivals
      → (told : Result Unit Refusal) → number_of told ≡ number_of given → AnswerLeaves (number_of told) spans rings rows arrivals
  answer_made e given spans rings rows arrivals left told same =
      leaves _ (plain (number_of told)) (areas a.links a.marks spans rings rows arrivals a.reports)
      (ap (λ (n : ℕ). outcome (plain n) (areas a.links a.marks spans rings rows arrivals a.reports)) (same ∙ left.1)
      ∙ ap (λ (h : Held). outcome (plain (makes_reply plan step.draft a)) (with_held a h)) left.2
      ∙ answers_by true e)

  -- a reply that isn't 0 means that nothing was made
  answer_kept : eqb (answer_reply plan step a) 0 ≡ false → with_answer plan step a ≡ a
  unfolding answer_reply with_answer
  answer_kept lacks =
      cases step.answers
      (λ e.
      let refuses : eqb (makes_reply plan step.draft a) 0 ≡ false = simp e at lacks in
      simp e (ap (with_held a) (refused_kept plan a.links a.marks step.draft (held_in a) refuses)))
      (λ e. simp e)

  -- what is done where it asks something
  abbrev asked : Outcome
  asked = judged (answer_reply plan step a) (ended_by plan step (with_answer plan step a)) a

  carried_by : (said : Bool) → eqb step.reply 0 ≡ said → cond said asked (refused step.reply a) ≡ carried plan step a
  unfolding carried
  carried_by said e = ap (λ (t : Bool). cond t asked (refused step.reply a)) (sym e)

  -- a step that asks nothing
  pub asks_nothing : 0 < step.reply → (answer : Answer) → answer ≡ plain step.reply → Leaves (carried plan step a) answer a
  asks_nothing h answer e =
      leaves _ answer a (ap (λ (r : Answer). outcome r a) e ∙ carried_by false (ne_eqb step.reply 0 (omega arith)))

  -- a step that asks something, whose answer was judged
  module _ (asks : step.reply ≤ 0) (lacking : ℕ) (spans rings rows arrivals : List ℕ) (left : AnswerLeaves lacking spans rings rows arrivals) where
    abbrev then : Areas
    then = areas a.links a.marks spans rings rows arrivals a.reports

    reply_is : lacking ≡ answer_reply plan step a
    reply_is = ap (λ (r : Answer). r.reply) left.answers

    areas_are : then ≡ with_answer plan step a
    areas_are =
        ap (λ (o : Outcome). o.after)
        (whole (outcome (plain (answer_reply plan step a)) (with_answer plan step a)) (plain lacking) a.links a.marks spans rings rows
        arrivals a.reports left)

    judged_by : (said : Bool) → eqb lacking 0 ≡ said
        → cond said (ended_by plan step (with_answer plan step a)) (refused lacking a) ≡ carried plan step a
    judged_by said e =
        let all = ended_by plan step (with_answer plan step a) in
        ap (λ (t : Bool). cond t all (refused lacking a)) (sym e)
        ∙ ap (λ (n : ℕ). judged n all a) reply_is
        ∙ carried_by true (eq-eqb step.reply 0 (omega arith))

    -- the answer finds no place or number: nothing changes
    pub answer_lacking : 0 < lacking → (answer : Answer) → answer ≡ plain lacking → Leaves (carried plan step a) answer then
    answer_lacking h answer e =
        let lacks = ne_eqb lacking 0 (omega arith) in
        let kept : then ≡ a = areas_are ∙ answer_kept (ap (λ (n : ℕ). eqb n 0) (sym reply_is) ∙ lacks) in
        leaves _ answer then (ap (λ (r : Answer). outcome r then) e ∙ ap (outcome (plain lacking)) kept ∙ judged_by false lacks)

    -- the answer is queued
    module _ (queued : lacking ≤ 0) where
      ended_by_lem : (said : Bool) → step.ends ≡ said
          → cond said (out_of_service plan then step.link step.parts) (outcome (done 0) then) ≡ carried plan step a
      unfolding ended_by
      ended_by_lem said e =
          ap (λ (t : Bool). cond t (out_of_service plan then step.link step.parts) (outcome (done 0) then)) (sym e)
          ∙ ap (ended_by plan step) areas_are
          ∙ judged_by true (eq-eqb lacking 0 (omega arith))

      -- no link goes out
      pub no_end : step.ends ≡ false → (answer : Answer) → answer ≡ done 0 → Leaves (carried plan step a) answer then
      no_end stays answer e = leaves _ answer then (ap (λ (r : Answer). outcome r then) e ∙ ended_by_lem false stays)

      -- one does
      pub link_ended : step.ends ≡ true → (count : ℕ) (reports links' spans' rings' : List ℕ)
          → EndLeaves plan then step.link step.parts count reports links' spans' rings'
          → (answer : Answer) → answer ≡ done count
          → Leaves (carried plan step a) answer (areas links' a.marks spans' rings' rows arrivals reports)
      link_ended goes count reports links' spans' rings' left answer e =
          leaves _ answer (areas links' a.marks spans' rings' rows arrivals reports)
          (ap (λ (r : Answer). outcome r (areas links' a.marks spans' rings' rows arrivals reports)) e
          ∙ parts_whole plan then step.link step.parts count reports links' spans' rings' left
          ∙ ended_by_lem true goes)
