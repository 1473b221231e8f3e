-- What is shown of an answer, case by case. Assumes nothing.
use mathlib.Core.Path.{◌≡◌}
use mathlib.Core.Bool.{true, false, cond, ◌&&◌, true≢false, false≢true}
use mathlib.Core.List.{List, []}
use Prim.Native.Nat.{ℕ, ◌≤◌, ◌<◌}
use lib.Dec.{leb}
use borrow.Author.Tests.{le-leb, lt-leb}
use borrow.Table.Steps.{cases}
use Rattle.replies.specs.declared.Answer.{Answer}
use Rattle.replay_showing.specs.declared.shows.Shows.{Shows}
use Rattle.replay_reports.specs.Reported.{all_reported}
use Rattle.replay_answers.specs.Answers.{answered}
use Rattle.replay_answers.specs.declared.view.View.{View}
use Rattle.replay_answers.specs.Shown.{shown, tells}

module _ (view : View) (number : ℕ) (shows : Shows) (answer : Answer) (message out : List ℕ) (fates : List (List ℕ)) (reports : List ℕ) where
  pub early : number < view.first → shown view number shows answer message out fates reports ≡ []
  early h = simp (lt-leb view.first number h)

  module _ (begun : view.first ≤ number) where
    abbrev after : leb view.first number ≡ true
    after = le-leb view.first number begun

    pub late : view.last < number → shown view number shows answer message out fates reports ≡ []
    late h = simp (after, lt-leb number view.last h)

    module _ (going : number ≤ view.last) where
      abbrev before : leb number view.last ≡ true
      before = le-leb number view.last going

      pub reports_alone : view.only ≡ true → shown view number shows answer message out fates reports ≡ all_reported number reports answer.reports
      reports_alone e = simp (after, before, e)

      pub all_of_it : view.only ≡ false → shown view number shows answer message out fates reports ≡ answered number shows answer message out fates reports
      all_of_it e = simp (after, before, e)

-- the fates of a line that aren't shown
pub untold : (view : View) (number : ℕ) (shows : Shows) (answer : Answer) (message out : List ℕ) (fates : List (List ℕ)) (reports : List ℕ)
    → tells view number ≡ false
    → shown view number shows answer message out [] reports ≡ shown view number shows answer message out (cond view.fates fates []) reports
untold view number shows answer message out fates reports h =
    cases (leb view.first number && leb number view.last)
    (λ e. cases view.only
    (λ f. simp (e, f))
    (λ f. cases view.fates
    (λ g. absurd (true≢false (simp (e, f, g) at h)))
    (λ g. simp (e, f, g))))
    (λ e. simp e)

-- and those that are
pub told : (view : View) (number : ℕ) (shows : Shows) (answer : Answer) (message out : List ℕ) (fates : List (List ℕ)) (reports : List ℕ)
    → tells view number ≡ true
    → answered number shows answer message out fates reports ≡ shown view number shows answer message out (cond view.fates fates []) reports
told view number shows answer message out fates reports h =
    cases (leb view.first number && leb number view.last)
    (λ e. cases view.only
    (λ f. absurd (false≢true (simp (e, f) at h)))
    (λ f. cases view.fates
    (λ g. simp (e, f, g))
    (λ g. absurd (false≢true (simp (e, f, g) at h)))))
    (λ e. absurd (false≢true (simp e at h)))
