-- A message from a link: its reply is the first of its rows that applies, whatever the message is. Assumes nothing.
use Prim.Native.Nat.{ℕ}
use mathlib.Core.Bool.{◌&&◌, ◌||◌}
use mathlib.Core.List.{List, [], ◌∷◌}
use mathlib.Core.Path.{◌≡◌, refl, sym, ap, ◌∙◌}
use lib.ListN.{length}
use Rattle.plan.specs.declared.data.Plan.{Plan}
use Rattle.replies.specs.Reply.{Row, row, first, if_done}
use Rattle.replies.specs.Areas.{Areas}
use Rattle.queue_joining.specs.Queue.{no_user_place, no_management_place, no_number}
use Rattle.discrimination.specs.declared.Came.{Came}
use Rattle.discrimination.specs.declared.Came.TheVariants.{Malformed, Foreign, Delivered, Managed, Passed}
use Rattle.discrimination.specs.Discrimination.{from_link}
use Rattle.receiving.specs.Receive.{refusals_of, reply_of, received_by, received}
use Rattle.promise_table.specs.Received.{is_malformed, is_foreign, is_unreachable, is_pointless, needs_user, needs_management}
use Rattle.promise_table.specs.Table.{received_rows}
use Rattle.promise_table.proofs.Continued.{continued}
use Rattle.promise_table.proofs.Judged.{judged_reply}
use Rattle.promise_table.proofs.PassedReply.{passed_reply}
use Rattle.promise_table.proofs.ManagedReply.{managed_reply}

module _ (plan : Plan) (link fsn : ℕ) (a : Areas) where
  -- the rows before the message is looked at, and those after
  abbrev pub before : List Row
  before = refusals_of plan a.links link fsn a.reports

  pub reply_before : reply_of plan a.links link fsn a.reports ≡ first before
  unfolding reply_of
  reply_before = refl

  abbrev pub later : Came → List Row
  later came =
      row 3 (is_malformed came)
      ∷ row 4 (is_foreign came)
      ∷ row 9 (is_unreachable plan a link came)
      ∷ row 11 (is_pointless plan a came)
      ∷ row 7 (needs_user plan a came && no_user_place a.spans)
      ∷ row 8 (needs_management plan a link fsn came && no_management_place a.spans)
      ∷ row 10 ((needs_user plan a came || needs_management plan a link fsn came) && no_number a.arrivals)
      ∷ []

  -- rows that can't apply are passed over by computation
  pub kind_reply : (size : ℕ) (came : Came) → (received_by plan link fsn size came a).answer.reply ≡ first (later came)
  unfolding received_by is_unreachable is_pointless needs_user needs_management first
  kind_reply size Malformed = refl
  kind_reply size Foreign = refl
  kind_reply size Delivered = refl
  kind_reply size (Managed order) = managed_reply plan link fsn a order.point order.slc order.message
  kind_reply size (Passed label) = passed_reply plan link label size a

  pub received_reply : (message : List ℕ)
      → (received plan link fsn message a).answer.reply ≡ first (received_rows plan link fsn (from_link plan message) a)
  unfolding received reply_of
  received_reply message =
      judged_reply (first before) _ a
      ∙ ap (λ (n : ℕ). if_done (first before) n (first before)) (kind_reply (length message) (from_link plan message))
      ∙ sym (continued before (later (from_link plan message)) refl)
