-- The events that change more than areas, or a few areas only: what their functions promise gives their result. Assumes nothing.
use mathlib.Core.Path.{◌≡◌, ap}
use mathlib.Core.List.{List}
use Prim.Native.Nat.{ℕ}
use lib.ListN.{length}
use Rattle.plan.specs.declared.data.Plan.{Plan}
use Rattle.replies.specs.declared.Answer.{Answer}
use Rattle.replies.specs.Reply.{plain}
use Rattle.replies.specs.Areas.{areas, with_links, with_marks}
use Rattle.queue_heads.specs.Head.{Queues, both}
use Rattle.sending.specs.Send as Send
use Rattle.acknowledging.specs.Acknowledge as Acknowledge
use Rattle.changeback_waiting.specs.Wait as Wait
use Rattle.rerouting_expiry.specs.Expiry as Expiry
use Rattle.constants.specs.Constants.{t8}
use Rattle.node.specs.Memory.{Memory, memory, Gives}
use Rattle.node.specs.Call.{sends, acknowledges, wait_ends, t8_ends}
use Rattle.node.proofs.Giving.{gives}

module _ (plan : Plan) (m : Memory) where
  abbrev links : List ℕ
  links = m.areas.links

  abbrev marks : List ℕ
  marks = m.areas.marks

  abbrev spans : List ℕ
  spans = m.areas.spans

  abbrev rings : List ℕ
  rings = m.areas.rings

  abbrev rows : List ℕ
  rows = m.areas.rows

  -- level 2 asks for the next message
  pub gives_send : (link : ℕ) (r : Answer) (links' out' : List ℕ)
      → (r ≡ Send.answer_of plan links spans rings rows link m.out)
      × ((links' ≡ Send.links_after plan links spans link (length m.out))
      × (out' ≡ Send.out_after plan links spans rings rows m.octets link m.out))
      → Gives (sends plan link m) r (memory (with_links m.areas links') m.octets out')
  unfolding sends
  gives_send link r links' out' told =
      gives (sends plan link m) r (with_links m.areas links') m.octets out' (simp (told.0, told.1.0, told.1.1))

  -- level 2 acknowledges
  pub gives_acknowledgement : (link b reply : ℕ) (links' spans' rings' : List ℕ)
      → (reply ≡ Acknowledge.reply_of plan links link b)
      × ((links' ≡ Acknowledge.links_after plan links link b)
      × (both spans' rings' ≡ Acknowledge.queues_after plan links (both spans rings) link b))
      → (r : Answer) → r ≡ plain reply
      → let a = m.areas in
      Gives (acknowledges plan link b m) r
      (memory (areas links' marks spans' rings' rows a.arrivals a.reports) m.octets m.out)
  unfolding acknowledges
  gives_acknowledgement link b reply links' spans' rings' told r says =
      let a = m.areas in
      let spans-are = ap (λ (q : Queues). q.spans) told.1.1 in
      let rings-are = ap (λ (q : Queues). q.rings) told.1.1 in
      gives (acknowledges plan link b m) r (areas links' marks spans' rings' rows a.arrivals a.reports) m.octets m.out
      (simp (says, told.0, told.1.0, spans-are, rings-are))

  -- T3, or T4, expires
  pub gives_wait : (link timer reply : ℕ) (links' : List ℕ)
      → (reply ≡ Wait.reply_of plan links link timer) × (links' ≡ Wait.expired plan links link timer)
      → (r : Answer) → r ≡ plain reply
      → Gives (wait_ends plan link timer m) r (memory (with_links m.areas links') m.octets m.out)
  unfolding wait_ends
  gives_wait link timer reply links' told r says =
      gives (wait_ends plan link timer m) r (with_links m.areas links') m.octets m.out (simp (says, told.0, told.1))

  -- T8 expires
  pub gives_t8 : (x reply : ℕ) (marks' : List ℕ)
      → (reply ≡ Expiry.reply_of plan marks x t8) × (marks' ≡ Expiry.expired_t8 plan marks x)
      → (r : Answer) → r ≡ plain reply
      → Gives (t8_ends plan x m) r (memory (with_marks m.areas marks') m.octets m.out)
  unfolding t8_ends
  gives_t8 x reply marks' told r says =
      gives (t8_ends plan x m) r (with_marks m.areas marks') m.octets m.out (simp (says, told.0, told.1))
