-- A management message that is answered, that ends a changeover, or that does neither: what it retires is gone, what it reports is
-- dropped, and its answer is held.
-- Assumes nothing.
use mathlib.Core.Path.{◌≡◌, ap, ◌∙◌}
use mathlib.Core.Bool.{Bool, true, false, cond}
use mathlib.Core.List.{List, []}
use Prim.Native.Nat.{ℕ}
use native.Mathlib.Omega.{arith}
use lib.ListN.{length}
use Rattle.plan.specs.declared.data.Plan.{Plan}
use Rattle.queue_rings.specs.Ring.{count_of}
use Rattle.queue_store.specs.Sound.{tally}
use Rattle.reports.specs.Report.{short}
use Rattle.replies.specs.Reply.{done}
use Rattle.replies.specs.Areas.{Areas, Outcome, outcome}
use Rattle.management_making.specs.Make.{with_made}
use Rattle.changeover_ending.specs.End.{out_of_service}
use Rattle.management_steps.specs.declared.Step.{Step}
use Rattle.management_steps.specs.Step.{draft}
use Rattle.management_orders.specs.Carry.{answer_reply, with_answer, ended_by, carried}
use Rattle.promise_runs.proofs.Outcomes.{RegularIn, by_test, both_by_test}
use Rattle.promise_accounts.specs.Gone.{up_to_f, retired_by_step}
use Rattle.promise_accounts.proofs.Even.{Even, even_none, EvenBy, untold, judged_even}
use Rattle.promise_accounts.proofs.EvenMaking.{made_even}
use Rattle.promise_accounts.proofs.EvenEnding.{ending_even}
use Rattle.promise_accounts.proofs.Answers.{answer_regular, answer_more, answer_before, answer_reports}
use Rattle.promise_accounts.proofs.Bearing.{Bears}

module _ (test : ℕ → Bool) (a : Areas) (octets : List ℕ) (regular : RegularIn a octets) (long : length a.arrivals ≡ 1)
    (plan : Plan) (step : Step) where
  -- the areas with the answer queued
  abbrev answered : Areas
  answered = with_answer plan step a

  answer_even : Even test a answered 0
  unfolding with_answer
  answer_even =
      by_test (λ (b : Areas). Even test a b 0) step.answers (with_made plan step.draft a) a
      (λ e. made_even a octets regular test long plan step.draft)
      (λ e. even_none test a long)

  module _ (room : short a.reports ≡ false) (bears : Bears (count_of a.spans) step) where
    -- then the link goes out
    out_even : step.ends ≡ true
        → EvenBy test a (out_of_service plan answered step.link step.parts) (up_to_f a step.link step.parts)
    out_even ends =
        let is = bears ends in
        let o : Outcome = out_of_service plan answered step.link step.parts in
        let here = answer_even in
        let more = answer_more a octets regular plan step step.link is.0 in
        let last =
        ending_even test answered octets (answer_regular a octets regular plan step) here.one plan step.link is.0
        (ap short (answer_reports a octets regular plan step) ∙ room)
        step.parts
        (omega (arith, is.1))
        in
        let same : tally test (up_to_f answered step.link step.parts) ≡ tally test (up_to_f a step.link step.parts) =
        ap (tally test) (answer_before a octets regular plan step step.link step.parts.retired (omega (arith, is.0)) (omega (arith, is.1)))
        in
        record {
          one = last.one;
          even = omega (arith, here.even, last.even, same);
          apart = λ kinds. last.apart (here.apart kinds);
        }

    ended_even : EvenBy test a (ended_by plan step answered) (cond step.ends (up_to_f a step.link step.parts) [])
    unfolding ended_by
    ended_even =
        both_by_test (EvenBy test a) step.ends (out_of_service plan answered step.link step.parts)
        (outcome (done 0) answered)
        (up_to_f a step.link step.parts)
        []
        out_even
        (λ e. untold test a 0 answered answer_even)

    -- a step that is carried out
    pub carried_even : EvenBy test a (carried plan step a) (retired_by_step plan a step)
    unfolding carried retired_by_step
    carried_even =
        judged_even test a long step.reply _ _
        (λ asks. judged_even test a long (answer_reply plan step a) (ended_by plan step answered) _ (λ done. ended_even))
