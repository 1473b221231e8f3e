-- What a run of a record writes (docs/FORMATS.md): the lines of one call, or of one question.
use Rattle.std.specs.Prelude.{ℕ, Bool, true, false, cond, List, [], ◌∷◌, ◌++◌, eqb}
use Rattle.std.proofs.Math.Seq.{slice}
use Rattle.text.specs.Part.{split, lf}
use Rattle.replies.specs.declared.Answer.{Answer}
use Rattle.node.specs.View.{View, Comes, Fails, Sends, Acknowledges, Arrives, HandedOver, Overdue, Expires}
use Rattle.node.specs.declared.ask.Question.{Question}
use Rattle.node.specs.declared.ask.Question.TheVariants.{RouteList}
use Rattle.text_pages.specs.Page.{ended}
use Rattle.replay_reports.specs.Reported.{all_reported}
use Rattle.replay_showing.specs.declared.shows.Shows.{Shows}
use Rattle.replay_showing.specs.declared.shows.Shows.TheVariants.{Sent, Delivered, Listed, Nothing}
use Rattle.replay_showing.specs.Reply.{replied, behind}
use Rattle.replay_routes.specs.Routed.{routed}
use Rattle.replay_fates.specs.declared.deciding.Told.{Told}

-- which calls show more than their reply and reports
abbrev pub shows_of : View → Shows
shows_of (Sends link) = Sent
shows_of (Arrives link fsn) = Delivered
shows_of (Comes link) = Nothing
shows_of (Fails link) = Nothing
shows_of (Acknowledges link b) = Nothing
shows_of HandedOver = Nothing
shows_of (Overdue link timer) = Nothing
shows_of Expires = Nothing

-- and which questions
abbrev pub shows_for : Question → Shows
shows_for RouteList = Listed

-- of `routes`: the list has so many octets of the output
abbrev pub list_lines : Shows → ℕ → ℕ → List ℕ → List (List ℕ)
list_lines Sent number octets out = []
list_lines Delivered number octets out = []
list_lines Listed number octets out = routed number (split lf (slice 0 octets out))
list_lines Nothing number octets out = []

-- whether a call acknowledges
abbrev pub acknowledges_of : View → Bool
acknowledges_of (Acknowledges link b) = true
acknowledges_of (Comes link) = false
acknowledges_of (Fails link) = false
acknowledges_of (Sends link) = false
acknowledges_of (Arrives link fsn) = false
acknowledges_of HandedOver = false
acknowledges_of (Overdue link timer) = false
acknowledges_of Expires = false

-- the link that a call sends on, 32 for none
abbrev pub sender_of : View → ℕ
sender_of (Sends link) = link
sender_of (Acknowledges link b) = 32
sender_of (Comes link) = 32
sender_of (Fails link) = 32
sender_of (Arrives link fsn) = 32
sender_of HandedOver = 32
sender_of (Overdue link timer) = 32
sender_of Expires = 32

-- what is known of a call where its fates are told: the next arrival number before it; something is sent with reply 0
abbrev pub told_of : View → Answer → ℕ → Told
told_of view answer next =
    record {
      next = next;
      acknowledges = acknowledges_of view;
      sender = cond (eqb answer.reply 0) (sender_of view) 32;
      fsn = answer.fsn;
      reports = answer.reports;
    }

-- all that is written of an answer (R225): its fates stand "behind its reply and before its drops" (docs/FORMATS.md)
abbrev pub answered : ℕ → Shows → Answer → List ℕ → List ℕ → List (List ℕ) → List ℕ → List (List ℕ)
answered number shows answer message out fates reports =
    replied number answer.reply ++ (behind shows answer message out ++ (ended ∷ []))
    ++ (fates ++ (all_reported number reports answer.reports ++ list_lines shows number answer.octets out))
