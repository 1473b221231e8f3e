-- What is made of what is due, by what a call answers and leaves: nothing where it is refused or nothing is due, and all of it where there are a path, a place
-- and a number. Assumes nothing.
use mathlib.Core.Path.{◌≡◌, refl, sym, ap, subst, ◌∙◌}
use mathlib.Core.Bool.{Bool, true, false, cond, not, ◌&&◌, ◌||◌, and-false}
use mathlib.Core.List.{List}
use Prim.Native.Nat.{ℕ}
use lib.Dec.{eqb, ltb}
use borrow.Author.Tests.{not-true}
use Rattle.plan.specs.declared.data.Plan.{Plan}
use Rattle.replies.specs.Reply.{Row, first}
use Rattle.replies.specs.Areas.{Areas, Outcome, judged, refused}
use Rattle.replies_given.proofs.Numbers.{all_of, of_first}
use Rattle.queue_joining.specs.Queue.{management_reply}
use Rattle.management_making.specs.declared.Draft.{Draft}
use Rattle.management_making.specs.Make.{path_of, has_path, reply_of, is_made, makes_reply}
use Rattle.management_steps.specs.Step.{answer, draft}
use Rattle.promise_runs.proofs.Outcomes.{by_test}
use Rattle.promise_contents.specs.Made.{New, Nothing, User, Made}
use Rattle.promise_contents.specs.Given.{makes}
use Rattle.promise_queueing.specs.Making.{path_for}
use Rattle.promise_queueing.specs.Due.{Due, NoneDue, IsDue, is_met, path_due, has_open_path, if_made, made_in}

-- whether a message that is due is made, where there is a place and a number or not
abbrev pub is_made_by : Plan → Due → ℕ → Areas → Areas → Bool → Bool
is_made_by plan due reply before after room = is_met reply && (has_open_path plan due before after && room)

-- a reply of rows that refuse an event
pub refused_unmet : (rows : List Row) → all_of (λ (n : ℕ). eqb n 0 || not (is_met n)) rows ≡ true → eqb (first rows) 0 ≡ false → is_met (first rows) ≡ false
refused_unmet rows all some =
    let either : (eqb (first rows) 0 || not (is_met (first rows))) ≡ true = of_first (λ (n : ℕ). eqb n 0 || not (is_met n)) refl rows all in
    not-true (is_met (first rows)) (ap (λ (t : Bool). t || not (is_met (first rows))) (sym some) ∙ either)

-- what is given, with a place and a number, where a path is, and what a reply tells
same_test : (path there room met : Bool) → (room ≡ true → (met ≡ true) × (path ≡ there)) → (path && room) ≡ (met && (there && room))
same_test path there false met on = and-false path ∙ sym (ap (λ (t : Bool). met && t) (and-false there) ∙ and-false met)
same_test path there true met on =
    ap (λ (t : Bool). t && true) (on refl).1 ∙ ap (λ (t : Bool). t && (there && true)) (sym (on refl).0)

-- without a place or a number nothing is given
pub both_off : (met there : Bool) {free : Bool} → free ≡ false → (met && (there && free)) ≡ false
both_off met there off = ap (λ (t : Bool). met && (there && t)) off ∙ ap (λ (t : Bool). met && t) (and-false there) ∙ and-false met

-- nothing new is given
pub not_given : (new : New) → made_in new false ≡ NoneDue
unfolding made_in
not_given Nothing = refl
not_given (User size) = refl
not_given (Made draft) = refl

-- nothing is due
pub one_or_none : (test : Bool) → NoneDue ≡ cond test NoneDue NoneDue
one_or_none true = refl
one_or_none false = refl

pub none_made : (plan : Plan) (reply : ℕ) (before after : Areas) (free : Bool) → NoneDue ≡ if_made NoneDue (is_made_by plan NoneDue reply before after free)
none_made plan reply before after free = one_or_none (is_made_by plan NoneDue reply before after free)

-- there are a place and a number
abbrev pub room_in : Areas → Bool
room_in a = eqb (management_reply a.spans a.arrivals) 0

-- what is due where a message of the node's own is asked for
abbrev pub due_for : Draft → Due
due_for draft = IsDue draft.message draft.point draft.slc

module _ (plan : Plan) (a : Areas) where
  -- a call makes what is due
  abbrev pub Makes : Due → New → Bool → Outcome → Type 0
  Makes due new given o = made_in new given ≡ if_made due (is_made_by plan due o.answer.reply a o.after (room_in a))

  -- nothing is due
  pub none_due : (new : New) (given : Bool) (o : Outcome) → made_in new given ≡ NoneDue → Makes NoneDue new given o
  none_due new given o none = none ∙ none_made plan o.answer.reply a o.after (room_in a)

  -- it is refused
  pub refused_makes : (due : Due) (new : New) (reply : ℕ) → is_met reply ≡ false → Makes due new false (refused reply a)
  refused_makes due new reply off =
      not_given new ∙ ap (λ (t : Bool). if_made due (t && (has_open_path plan due a a && room_in a))) (sym off)

  -- or done
  pub judged_makes : (due : Due) (new : New) (given : Bool) (reply : ℕ) (does : Outcome) → (eqb reply 0 ≡ false → is_met reply ≡ false)
      → (eqb reply 0 ≡ true → Makes due new given does) → Makes due new (eqb reply 0 && given) (judged reply does a)
  judged_makes due new given reply does off on = by_done (eqb reply 0) off on
    where
      by_done : (test : Bool) → (test ≡ false → is_met reply ≡ false) → (test ≡ true → Makes due new given does)
          → Makes due new (test && given) (cond test does (refused reply a))
      by_done true off on = on refl
      by_done false off on = refused_makes due new reply (off refl)

  -- a message with its path over the links that are left
  abbrev pub Met : Draft → Outcome → Type 0
  Met draft o = (is_met o.answer.reply ≡ true) × (path_of plan a.links a.marks draft ≡ path_for plan a o.after draft)

  pub met_makes : (draft : Draft) (o : Outcome) → (room_in a ≡ true → Met draft o) → Makes (due_for draft) (Made draft) (makes plan draft a) o
  unfolding made_in path_due is_made
  met_makes draft o met =
      ap (λ (t : Bool). cond t (due_for draft) NoneDue)
      (same_test (has_path plan a.links a.marks draft) (ltb (path_for plan a o.after draft) 32) (room_in a) (is_met o.answer.reply)
      (λ there. ((met there).0, ap (λ (p : ℕ). ltb p 32) (met there).1)))

  -- with a place and a number its making isn't refused
  makes_done : (draft : Draft) → room_in a ≡ true → eqb (makes_reply plan draft a) 0 ≡ true
  unfolding reply_of
  makes_done draft there =
      by_test (λ (n : ℕ). eqb n 0 ≡ true) (has_path plan a.links a.marks draft) (management_reply a.spans a.arrivals) 0 (λ e. there) (λ e. refl)

  pub made_met : (draft : Draft) (does : Outcome) → Met draft does → room_in a ≡ true → Met draft (judged (makes_reply plan draft a) does a)
  made_met draft does met there =
      subst (λ (t : Bool). Met draft (cond t does (refused (makes_reply plan draft a) a))) (sym (makes_done draft there)) met
