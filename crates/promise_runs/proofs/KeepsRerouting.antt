-- A TFP, a TFA, and the expiry of T6 or T10 leave a regular state regular. T8's changes no more than a flag.
-- Assumes nothing.
use mathlib.Core.Bool.{Bool, false}
use mathlib.Core.List.{List}
use Prim.Native.Nat.{ℕ}
use native.Mathlib.Omega.{arith}
use Rattle.plan.specs.declared.data.Plan.{Plan}
use Rattle.plan.specs.Find.{place_of}
use Rattle.area_flags.specs.Flags.{with_flag}
use Rattle.replies.specs.Reply.{plain}
use Rattle.replies.specs.Areas.{Areas, Outcome, outcome}
use Rattle.queue_retiring.specs.Leave.{State, state}
use Rattle.management_making.specs.Make.{makes_reply}
use Rattle.queue_moving.specs.Move.{apart}
use Rattle.rerouting_releasing.specs.Release.{released}
use Rattle.constants.specs.Constants.{t6}
use Rattle.rerouting_marking.specs.Mark.{counts}
use Rattle.rerouting.specs.Transfer.{transferred}
use Rattle.rerouting.specs.Timer.{reply_t6, expired_t6, expired_t10}
use Rattle.rerouting_expiry.specs.Expiry.{reply_t10, test_of}
use Rattle.promise_runs.proofs.Emptied.{kept_released}
use Rattle.promise_runs.proofs.Keeping.{grew}
use Rattle.promise_runs.proofs.Outcomes.{RegularIn, by_test, if_judged}
use Rattle.promise_runs.proofs.KeepsMaking.{made_regular}

module _ (a : Areas) (octets : List ℕ) (regular : RegularIn a octets) (plan : Plan) where
  -- a TFP, or a TFA
  pub transfer_regular : (point x : ℕ) (prohibits : Bool) → RegularIn (transferred plan point x prohibits a).after octets
  unfolding transferred
  transfer_regular point x prohibits =
      by_test (λ (o : Outcome). RegularIn o.after octets) (counts plan a.marks point x prohibits) _ (outcome (plain 11) a)
      (λ e. regular)
      (λ e. regular)

  -- T6 expires: the messages held apart for X move
  pub t6_regular : (x : ℕ) → RegularIn (expired_t6 plan a x).after octets
  unfolding expired_t6
  t6_regular x =
      let marks = with_flag a.marks (place_of plan x) t6 false in
      let now : State = state a.spans a.rings a.reports 0 in
      if_judged octets (reply_t6 plan a.marks x a.reports) _ a regular
      (λ done.
      grew a.links a.spans a.rings a.rows octets regular apart (omega arith) a.rows octets
      (released plan a.links marks a.rows x now).queues
      (kept_released plan a.links marks a.rows octets x now regular.store))

  -- T10 expires: an RST is made
  pub t10_regular : (x set : ℕ) → RegularIn (expired_t10 plan a x set).after octets
  unfolding expired_t10
  t10_regular x set =
      if_judged octets (reply_t10 plan a.marks x set) _ a regular
      (λ done.
      if_judged octets (makes_reply plan (test_of plan x set) a) _ a regular
      (λ made. made_regular a octets regular plan (test_of plan x set)))
