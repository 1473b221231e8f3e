-- The timers of destinations and routes: the reply of each is the first of its rows that applies.
-- Assumes nothing.
use Prim.Native.Nat.{ℕ}
use mathlib.Core.List.{List}
use mathlib.Core.Path.{◌≡◌, refl, sym, ap, ◌∙◌}
use Rattle.plan.specs.declared.data.Plan.{Plan}
use Rattle.replies.specs.Reply.{Row, first, if_done}
use Rattle.replies.specs.Areas.{Areas}
use Rattle.queue_joining.specs.Queue.{no_management_place, no_number, management_refusals, management_reply}
use Rattle.management_making.specs.declared.Draft.{Draft}
use Rattle.management_making.specs.Make.{has_path, makes_reply}
use Rattle.management_making.specs.Make as Make
use Rattle.constants.specs.Constants.{t8}
use Rattle.rerouting_expiry.specs.Expiry.{refusals_of, reply_of, refusals_t10, reply_t10, test_of}
use Rattle.rerouting.specs.Timer.{refusals_t6, reply_t6, expired_t6, expired_t10}
use Rattle.promise_table.specs.Table.{t10_rows}
use Rattle.promise_table.proofs.Continued.{continued, with_two}
use Rattle.promise_table.proofs.Judged.{judged_reply, judged_done}

module _ (plan : Plan) (x : ℕ) (a : Areas) where
  pub t6 : (expired_t6 plan a x).answer.reply ≡ first (refusals_t6 plan a.marks x a.reports)
  unfolding expired_t6 reply_t6
  t6 = judged_done (reply_t6 plan a.marks x a.reports) _ a refl

  pub t8_expires : reply_of plan a.marks x t8 ≡ first (refusals_of plan a.marks x t8)
  unfolding reply_of
  t8_expires = refl

-- a message that is to be made, where it has a path
pub making : (plan : Plan) (draft : Draft) (a : Areas)
    → (let path = has_path plan a.links a.marks draft in
    makes_reply plan draft a ≡ first (management_refusals path a.spans a.arrivals))
unfolding Make.reply_of management_reply
making plan draft a =
    with_two (has_path plan a.links a.marks draft) 8 10 (no_management_place a.spans) (no_number a.arrivals)

module _ (plan : Plan) (x set : ℕ) (a : Areas) where
  -- the rows before the RST
  abbrev before : List Row
  before = refusals_t10 plan a.marks x set

  pub t10 : (expired_t10 plan a x set).answer.reply ≡ first (t10_rows plan x set a)
  unfolding expired_t10 reply_t10
  t10 =
      judged_reply (first before) _ a
      ∙ ap (λ (n : ℕ). if_done (first before) n (first before))
      (judged_done (makes_reply plan (test_of plan x set) a) _ a refl ∙ making plan (test_of plan x set) a)
      ∙ sym (continued before _ refl)
