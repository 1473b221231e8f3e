-- A message from a link for another point: its reply is the first of its rows that applies. "8 or 10 is given in place of 9 where its
-- TFP finds no place or number." Assumes nothing.
use Prim.Native.Nat.{ℕ}
use mathlib.Core.Bool.{Bool, true, false, cond, not, ◌&&◌, ◌||◌}
use mathlib.Core.List.{List, [], ◌∷◌}
use mathlib.Core.Path.{◌≡◌, refl, ap, ◌∙◌}
use Rattle.plan.specs.declared.data.Plan.{Plan}
use Rattle.wire.specs.declared.header.Label.{Label}
use Rattle.replies.specs.Reply.{Row, row, first, if_done}
use Rattle.replies.specs.Areas.{Areas, Outcome}
use Rattle.queue_joining.specs.Queue.{no_user_place, no_management_place, no_number}
use Rattle.management_making.specs.Make.{makes_reply}
use Rattle.passing_passage.specs.Passage.{unreachable, place_reply, tells, prohibited_to}
use Rattle.passing.specs.Pass.{not_reached, passed}
use Rattle.promise_table.specs.Received.{path_for}
use Rattle.promise_table.proofs.Either.{of_either}
use Rattle.promise_table.proofs.Judged.{judged_reply, judged_done}
use Rattle.promise_table.proofs.RouteReplies.{making}
use Rattle.promise_table.proofs.HostReply.{places}

-- 9, or 8 or 10 of its TFP: whether one is due, it has a path; no management place, no number
abbrev unreached : Bool → Bool → Bool → Bool → ℕ
unreached due path filled spent =
    let lacks = first (row 8 (path && filled) ∷ row 10 (path && spent) ∷ []) in cond due (if_done lacks 9 lacks) 9

-- the rows that can apply, by these, by whether there is no way, and no user place
abbrev rows : Bool → Bool → Bool → Bool → Bool → Bool → List Row
rows nowhere due path full filled spent =
    row 9 (nowhere && not ((due && path) && (filled || spent)))
    ∷ row 7 (not nowhere && full)
    ∷ row 8 ((nowhere && (due && path)) && filled)
    ∷ row 10 ((not nowhere || (nowhere && (due && path))) && spent)
    ∷ []

in_order : (nowhere due path full filled spent : Bool)
    → cond nowhere (unreached due path filled spent) (first (row 7 full ∷ row 10 spent ∷ []))
    ≡ first (rows nowhere due path full filled spent)
unfolding first
in_order false due path full filled spent = refl
in_order true false path full filled spent = refl
in_order true true false full filled spent = refl
in_order true true true full true spent = refl
in_order true true true full false true = refl
in_order true true true full false false = refl

module _ (plan : Plan) (link : ℕ) (label : Label) (size : ℕ) (a : Areas) where
  abbrev due : Bool
  due = tells plan a.marks label.dpc

  abbrev path : Bool
  path = path_for plan a (prohibited_to plan link label.dpc)

  abbrev reply : Outcome → ℕ
  reply o = o.answer.reply

  abbrev asks : ℕ
  asks = makes_reply plan (prohibited_to plan link label.dpc) a

  not_reached_lem : reply (not_reached plan link label.dpc a)
      ≡ unreached due path (no_management_place a.spans) (no_number a.arrivals)
  unfolding not_reached
  not_reached_lem =
      of_either reply due _ _
      (judged_reply asks _ a ∙ ap (λ (n : ℕ). if_done n 9 n) (making plan (prohibited_to plan link label.dpc) a))
      refl

  pub passed_reply : reply (passed plan link label size a)
      ≡ first (rows (unreachable plan a label) due path (no_user_place a.spans) (no_management_place a.spans) (no_number a.arrivals))
  unfolding passed
  passed_reply =
      of_either reply (unreachable plan a label) _ _ not_reached_lem (judged_done (place_reply a) _ a refl ∙ places a)
      ∙ in_order (unreachable plan a label) due path (no_user_place a.spans) (no_management_place a.spans) (no_number a.arrivals)
