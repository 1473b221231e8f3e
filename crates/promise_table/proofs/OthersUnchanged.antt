-- Every event but a message from a link: with a reply other than 0 all areas, the octets and the output are as they were. Of a message
-- from the host that is "from the host: unchanged". Assumes nothing.
use Prim.Native.Nat.{ℕ}
use mathlib.Core.Bool.{true, false}
use mathlib.Core.List.{List}
use mathlib.Core.Path.{◌≡◌, refl, sym, ap, ap₂, ◌∙◌}
use lib.Dec.{eqb}
use lib.ListN.{length}
use borrow.Author.Tests.{not-true}
use Rattle.plan.specs.declared.data.Plan.{Plan}
use Rattle.replies.specs.declared.Answer.{Answer}
use Rattle.replies.specs.Areas.{Areas, areas, Outcome, with_links, with_marks}
use Rattle.changeback.specs.Service.{into_service}
use Rattle.changeback.specs.Service as Service
use Rattle.changeover.specs.Fail.{failed}
use Rattle.changeover_failure.specs.Failure as Failure
use Rattle.changeover_failure.specs.Overdue as Overdue
use Rattle.changeover_overdue.specs.Expire as Timer
use Rattle.wire.specs.declared.header.Label.{Label}
use Rattle.queue_heads.specs.Head.{Queues, both}
use Rattle.queue_joining.specs.Queue.{user_octets}
use Rattle.management_making.specs.Make.{makes_reply}
use Rattle.discrimination.specs.declared.Came.{Came}
use Rattle.discrimination.specs.declared.Came.TheVariants.{Malformed, Foreign, Delivered, Managed, Passed}
use Rattle.discrimination.specs.Discrimination.{from_host}
use Rattle.rerouting.specs.Timer.{reply_t6, expired_t6, expired_t10}
use Rattle.rerouting_expiry.specs.Expiry.{reply_t10, test_of, reply_of, expired_t8}
use Rattle.passing_passage.specs.Passage.{place_reply, octets_queued}
use Rattle.passing_offering.specs.Host.{offered, from_host_by, sent, octets_offered, octets_by, octets_sent}
use Rattle.passing_offering.specs.Host as Host
use Rattle.changeback_waiting.specs.Wait as Wait
use Rattle.sending.specs.Send as Send
use Rattle.acknowledging.specs.Acknowledge as Acknowledge
use Rattle.node.specs.Memory.{Memory, memory}
use Rattle.node.specs.Call.{sends, acknowledges, wait_ends, t8_ends}
use Rattle.promise_table.proofs.Either.{either_both, otherwise}
use Rattle.promise_table.proofs.Judged.{told}
use Rattle.promise_table.proofs.GoesOut.{out_done, failed_done}
use Rattle.promise_table.proofs.Kept.{refuses, Kept, refused_kept, not_named, judged_kept}

module _ (plan : Plan) (m : Memory) where
  abbrev a : Areas
  a = m.areas

  -- an event that was refused, or is done
  abbrev KeptBy : Outcome → Type 0
  KeptBy o = Kept refuses m o m.octets

  is_done : (o : Outcome) → o.answer.reply ≡ 0 → KeptBy o
  is_done o e = not_named refuses m.out (λ (n : ℕ). m) 0 refl o m.octets e

  pub into_service_lem : (link : ℕ) → KeptBy (into_service plan a link)
  unfolding into_service
  into_service_lem link = judged_kept refuses m (Service.reply_of plan a link) _ (is_done _ refl)

  pub failure : (link : ℕ) → KeptBy (failed plan a link)
  unfolding failed
  failure link = judged_kept refuses m (Failure.reply_of plan a.links link a.reports) _ (is_done _ (failed_done plan a link))

  pub changeover : (link timer : ℕ) → KeptBy (Timer.expired plan a link timer)
  unfolding Timer.expired
  changeover link timer =
      judged_kept refuses m (Overdue.reply_of plan a.links link timer a.reports) _ (is_done _ (out_done plan a link _))

  pub t6 : (x : ℕ) → KeptBy (expired_t6 plan a x)
  unfolding expired_t6
  t6 x = judged_kept refuses m (reply_t6 plan a.marks x a.reports) _ (is_done _ refl)

  pub t10 : (x set : ℕ) → KeptBy (expired_t10 plan a x set)
  unfolding expired_t10
  t10 x set =
      judged_kept refuses m (reply_t10 plan a.marks x set) _
      (judged_kept refuses m (makes_reply plan (test_of plan x set) a) _ (is_done _ refl))

  -- a message from the host, with the octets
  module _ (message : List ℕ) where
    offered_kept : (label : Label)
        → Kept refuses m (offered plan label (length message) a) (octets_offered plan label a m.octets message)
    unfolding offered octets_offered octets_queued user_octets
    offered_kept label =
        either_both (Kept refuses m) (Host.refuses plan a label) _ _ _ _
        (refused_kept refuses m 9)
        (either_both (Kept refuses m) (eqb (place_reply a) 0) _ _ _ _
        (not_named refuses m.out (λ (n : ℕ). m) 0 refl _ _ refl)
        (refused_kept refuses m (place_reply a)))

    kind_kept : (came : Came) → Kept refuses m (from_host_by plan came (length message) a) (octets_by plan came a m.octets message)
    unfolding from_host_by octets_by
    kind_kept Malformed = refused_kept refuses m 3
    kind_kept Foreign = refused_kept refuses m 4
    kind_kept Delivered = refused_kept refuses m 3
    kind_kept (Managed order) = refused_kept refuses m 3
    kind_kept (Passed label) = offered_kept label

    pub from_host_lem : Kept refuses m (sent plan message a) (octets_sent plan message a m.octets)
    unfolding sent octets_sent
    from_host_lem =
        either_both (Kept refuses m) plan.given _ _ _ _ (kind_kept (from_host plan message)) (refused_kept refuses m 2)

  -- calls that tell their reply by itself: each area is the old one by the same test
  failed_test : (reply : ℕ) → refuses reply ≡ true → eqb reply 0 ≡ false
  failed_test reply e = not-true (eqb reply 0) e

  module _ (link : ℕ) where
    pub send : refuses (sends plan link m).answer.reply ≡ true → (sends plan link m).after ≡ m
    unfolding sends Send.answer_of Send.links_after Send.out_after
    send e =
        let reply = Send.reply_of plan a.links a.spans link (length m.out) in
        let no = failed_test reply (sym (ap refuses (told (λ (r : Answer). r.reply) reply _ _ refl refl)) ∙ e) in
        ap₂ (λ (l o : List ℕ). memory (with_links a l) m.octets o) (otherwise (eqb reply 0) _ a.links no)
        (otherwise (eqb reply 0) _ m.out no)

    pub acknowledgement : (b : ℕ) → refuses (acknowledges plan link b m).answer.reply ≡ true → (acknowledges plan link b m).after ≡ m
    unfolding acknowledges Acknowledge.links_after Acknowledge.queues_after
    acknowledgement b e =
        let no = failed_test (Acknowledge.reply_of plan a.links link b) e in
        ap₂
        (λ (l : List ℕ) (q : Queues).
        memory (areas l a.marks q.spans q.rings a.rows a.arrivals a.reports) m.octets m.out)
        (otherwise _ _ a.links no)
        (otherwise _ _ (both a.spans a.rings) no)

    pub wait : (timer : ℕ) → refuses (wait_ends plan link timer m).answer.reply ≡ true → (wait_ends plan link timer m).after ≡ m
    unfolding wait_ends Wait.expired
    wait timer e =
        ap (λ (l : List ℕ). memory (with_links a l) m.octets m.out)
        (otherwise _ _ a.links (failed_test (Wait.reply_of plan a.links link timer) e))

  pub t8 : (x : ℕ) → refuses (t8_ends plan x m).answer.reply ≡ true → (t8_ends plan x m).after ≡ m
  unfolding t8_ends expired_t8
  t8 x e =
      ap (λ (k : List ℕ). memory (with_marks a k) m.octets m.out)
      (otherwise _ _ a.marks (failed_test (reply_of plan a.marks x 5) e))
