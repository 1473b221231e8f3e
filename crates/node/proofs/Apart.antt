-- Events that don't take an area: whatever lies in it, they answer the same, leave the same in the others, and leave it as it was.
-- Assumes nothing.
use mathlib.Core.Path.{◌≡◌, refl, ap, subst, ◌∙◌}
use mathlib.Core.Bool.{Bool, true, false, cond}
use mathlib.Core.List.{List, []}
use Prim.Native.Nat.{ℕ}
use lib.Dec.{eqb}
use lib.ListN.{length}
use Rattle.plan.specs.declared.data.Plan.{Plan}
use Rattle.wire.specs.declared.header.Label.{Label}
use Rattle.replies.specs.declared.Answer.{Answer}
use Rattle.replies.specs.Reply.{done}
use Rattle.replies.specs.Areas.{Areas, areas, Outcome, outcome, refused, judged, Leaves}
use Rattle.discrimination.specs.declared.Came.{Came}
use Rattle.discrimination.specs.declared.Came.TheVariants.{Malformed, Foreign, Delivered, Managed, Passed}
use Rattle.discrimination.specs.Discrimination.{from_host}
use Rattle.changeover_cuts.specs.Cuts.{cut_none}
use Rattle.changeover_ending.specs.End.{out_of_service}
use Rattle.changeover_failure.specs.Overdue as Overdue
use Rattle.changeover_overdue.specs.Expire as Changeover
use Rattle.management_making.specs.Make.{with_made, makes_reply}
use Rattle.rerouting.specs.Timer as Rerouting
use Rattle.rerouting_expiry.specs.Expiry as Expiry
use Rattle.passing_passage.specs.Passage.{link_of, place_reply, queued, octets_queued}
use Rattle.passing_offering.specs.Host.{refuses, offered, from_host_by, sent, octets_offered, octets_by, octets_sent}

-- areas with other arrival numbers, or with another report area
abbrev pub arrivals_in : List ℕ → Areas → Areas
arrivals_in arrivals a = areas a.links a.marks a.spans a.rings a.rows arrivals a.reports

abbrev pub reports_in : List ℕ → Areas → Areas
reports_in reports a = areas a.links a.marks a.spans a.rings a.rows a.arrivals reports

-- an outcome with other areas
abbrev through : (Areas → Areas) → Outcome → Outcome
through change o = outcome o.answer (change o.after)

-- a change of both outcomes of a test is one of the outcome
either : (change : Areas → Areas) (t : Bool) (one other : Outcome)
    → through change (cond t one other) ≡ cond t (through change one) (through change other)
either change true one other = refl
either change false one other = refl

-- what is left of the other areas is left of all
arrivals_kept : (arrivals : List ℕ) (o whole : Outcome) → through (arrivals_in arrivals) o ≡ whole → (r : Answer) (after : Areas)
    → Leaves o r after → Leaves whole r (arrivals_in arrivals after)
arrivals_kept arrivals o whole same r after left =
    subst (λ (x : Outcome). Leaves x r (arrivals_in arrivals after)) same
    (record {
      answers = left.answers;
      in_links = left.in_links;
      in_marks = left.in_marks;
      in_spans = left.in_spans;
      in_rings = left.in_rings;
      in_rows = left.in_rows;
      in_arrivals = refl;
      in_reports = left.in_reports;
    })

reports_kept : (reports : List ℕ) (o whole : Outcome) → through (reports_in reports) o ≡ whole → (r : Answer) (after : Areas)
    → Leaves o r after → Leaves whole r (reports_in reports after)
reports_kept reports o whole same r after left =
    subst (λ (x : Outcome). Leaves x r (reports_in reports after)) same
    (record {
      answers = left.answers;
      in_links = left.in_links;
      in_marks = left.in_marks;
      in_spans = left.in_spans;
      in_rings = left.in_rings;
      in_rows = left.in_rows;
      in_arrivals = left.in_arrivals;
      in_reports = refl;
    })

module _ (plan : Plan) (a : Areas) where
  -- the areas as those see them that don't take one
  abbrev no_arrivals : Areas
  no_arrivals = arrivals_in [] a

  abbrev no_reports : Areas
  no_reports = reports_in [] a

  abbrev arrivals_back : Areas → Areas
  arrivals_back = arrivals_in a.arrivals

  abbrev reports_back : Areas → Areas
  reports_back = reports_in a.reports

  -- T1 and T2
  changeover_apart : (link timer : ℕ)
      → through arrivals_back (Changeover.expired plan no_arrivals link timer) ≡ Changeover.expired plan a link timer
  unfolding Changeover.expired out_of_service
  changeover_apart link timer =
      let reply = Overdue.reply_of plan a.links link timer a.reports in
      either arrivals_back (eqb reply 0) (out_of_service plan no_arrivals link cut_none) (refused reply no_arrivals)

  pub changeover_leaves : (link timer : ℕ) (r : Answer) (after : Areas) → Leaves (Changeover.expired plan no_arrivals link timer) r after
      → Leaves (Changeover.expired plan a link timer) r (arrivals_back after)
  changeover_leaves link timer =
      arrivals_kept a.arrivals (Changeover.expired plan no_arrivals link timer) (Changeover.expired plan a link timer)
      (changeover_apart link timer)

  -- T6
  t6_apart : (x : ℕ) → through arrivals_back (Rerouting.expired_t6 plan no_arrivals x) ≡ Rerouting.expired_t6 plan a x
  unfolding Rerouting.expired_t6
  t6_apart x =
      let reply = Rerouting.reply_t6 plan a.marks x a.reports in
      either arrivals_back (eqb reply 0) _ (refused reply no_arrivals)

  pub t6_leaves : (x : ℕ) (r : Answer) (after : Areas) → Leaves (Rerouting.expired_t6 plan no_arrivals x) r after
      → Leaves (Rerouting.expired_t6 plan a x) r (arrivals_back after)
  t6_leaves x = arrivals_kept a.arrivals (Rerouting.expired_t6 plan no_arrivals x) (Rerouting.expired_t6 plan a x) (t6_apart x)

  -- T10
  t10_apart : (x set : ℕ) → through reports_back (Rerouting.expired_t10 plan no_reports x set) ≡ Rerouting.expired_t10 plan a x set
  unfolding Rerouting.expired_t10
  t10_apart x set =
      let reply = Expiry.reply_t10 plan a.marks x set in
      let test = Expiry.test_of plan x set in
      let lacking = makes_reply plan test a in
      let made = outcome (done 0) (with_made plan test no_reports) in
      either reports_back (eqb reply 0) (judged lacking made no_reports) (refused reply no_reports)
      ∙ ap (λ (o : Outcome). judged reply o a) (either reports_back (eqb lacking 0) made (refused lacking no_reports))

  pub t10_leaves : (x set : ℕ) (r : Answer) (after : Areas) → Leaves (Rerouting.expired_t10 plan no_reports x set) r after
      → Leaves (Rerouting.expired_t10 plan a x set) r (reports_back after)
  t10_leaves x set =
      reports_kept a.reports (Rerouting.expired_t10 plan no_reports x set) (Rerouting.expired_t10 plan a x set) (t10_apart x set)

  -- a message of the host: one with a label, then by what it is
  offered_apart : (label : Label) (size : ℕ) → through reports_back (offered plan label size no_reports) ≡ offered plan label size a
  unfolding offered refuses link_of queued
  offered_apart label size =
      let refusal = refuses plan a label in
      let reply = place_reply a in
      let stands = outcome (done 0) (queued plan no_reports label size) in
      either reports_back refusal (refused 9 no_reports) (judged reply stands no_reports)
      ∙ ap (λ (o : Outcome). cond refusal (refused 9 a) o) (either reports_back (eqb reply 0) stands (refused reply no_reports))

  kind_apart : (came : Came) (size : ℕ) → through reports_back (from_host_by plan came size no_reports) ≡ from_host_by plan came size a
  unfolding from_host_by
  kind_apart Malformed size = refl
  kind_apart Foreign size = refl
  kind_apart Delivered size = refl
  kind_apart (Managed order) size = refl
  kind_apart (Passed label) size = offered_apart label size

  sent_apart : (message : List ℕ) → through reports_back (sent plan message no_reports) ≡ sent plan message a
  unfolding sent
  sent_apart message =
      let came = from_host plan message in
      either reports_back plan.given (from_host_by plan came (length message) no_reports) (refused 2 no_reports)
      ∙ ap (λ (o : Outcome). cond plan.given o (refused 2 a)) (kind_apart came (length message))

  pub sent_leaves : (message : List ℕ) (r : Answer) (after : Areas) → Leaves (sent plan message no_reports) r after
      → Leaves (sent plan message a) r (reports_back after)
  sent_leaves message = reports_kept a.reports (sent plan message no_reports) (sent plan message a) (sent_apart message)

  octets_by_kind : (came : Came) (octets message : List ℕ)
      → octets_by plan came no_reports octets message ≡ octets_by plan came a octets message
  unfolding octets_by octets_offered refuses link_of octets_queued
  octets_by_kind came octets message = refl

  pub octets_apart : (message octets : List ℕ) → octets_sent plan message no_reports octets ≡ octets_sent plan message a octets
  unfolding octets_sent
  octets_apart message octets =
      ap (λ (o : List ℕ). cond plan.given o octets) (octets_by_kind (from_host plan message) octets message)
