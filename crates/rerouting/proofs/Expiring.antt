-- What the expiry of T6 and T10 leaves: all as it was where it is refused, and else T6's flag cleared and what was held apart moved,
-- T10's RST made. Assumes nothing.
use mathlib.Core.Path.{◌≡◌, refl, sym, ap, ◌∙◌}
use mathlib.Core.Bool.{Bool, true, false, cond}
use mathlib.Core.List.{List}
use Prim.Native.Nat.{ℕ, ◌≤◌, ◌<◌}
use native.Mathlib.Omega.{arith}
use lib.Dec.{eqb}
use borrow.Author.Tests.{eqb-true, eqb-false}
use borrow.Table.Steps.{cases}
use Rattle.plan.specs.declared.data.Plan.{Plan}
use Rattle.plan.specs.Find.{place_of}
use Rattle.area_flags.specs.Flags.{with_flag}
use Rattle.replies.specs.declared.Answer.{Answer}
use Rattle.replies.specs.Reply.{first, plain, done, number_of}
use Rattle.replies.specs.Areas.{Areas, areas, Outcome, outcome, judged, Leaves}
use Rattle.replies.proofs.Judging.{is_refused, is_done}
use Rattle.replies.proofs.Leaving.{leaves}
use Rattle.reports.specs.Report.{short}
use Rattle.queue_retiring.specs.Leave.{State, state}
use Rattle.management_making.specs.declared.Draft.{Draft}
use Rattle.std.specs.Prelude.{Result}
use Rattle.replies.specs.declared.Refusal.{Refusal}
use Rattle.management_making.specs.Make.{Held, held_in, with_held, with_made, makes_reply}
use Rattle.management_making.proofs.Making.{MakeLeaves, refused_kept}
use Rattle.rerouting_releasing.specs.Release.{released}
use Rattle.rerouting_expiry.specs.Expiry.{reply_of, reply_t10, test_of}
use Rattle.rerouting.specs.Timer.{reply_t6, expired_t6, expired_t10}

-- an event that is refused leaves all as it was
leaves_all : (told reply : ℕ) → told ≡ reply → (does : Outcome) (before : Areas) → 0 < told
    → (answer : Answer) → answer ≡ plain told → Leaves (judged reply does before) answer before
leaves_all told reply is does before over answer r =
    leaves (judged reply does before) answer before
    (ap (λ (n : Answer). outcome n before) r ∙ is_refused told reply is does before over)

-- T6: whether the area is too short is told first
module _ (plan : Plan) (a : Areas) (x : ℕ) (is-short : Bool) (tells : is-short ≡ short a.reports) where
  t6_reply : (said : Bool) → is-short ≡ said → cond said 1 (reply_of plan a.marks x 4) ≡ reply_t6 plan a.marks x a.reports
  unfolding reply_t6 reply_of first
  t6_reply said e = ap (λ (t : Bool). cond t 1 (reply_of plan a.marks x 4)) (sym e ∙ tells)

  pub t6_short : is-short ≡ true → (answer : Answer) → answer ≡ plain 1 → Leaves (expired_t6 plan a x) answer a
  unfolding expired_t6
  t6_short e answer r = leaves_all 1 (reply_t6 plan a.marks x a.reports) (t6_reply true e) _ a (omega arith) answer r

  module _ (e : is-short ≡ false) (reply : ℕ) (is : reply ≡ reply_of plan a.marks x 4) where
    pub t6_refused : 0 < reply → (answer : Answer) → answer ≡ plain reply → Leaves (expired_t6 plan a x) answer a
    unfolding expired_t6
    t6_refused h answer r = leaves_all reply (reply_t6 plan a.marks x a.reports) (is ∙ t6_reply false e) _ a h answer r

    -- its flag is cleared before anything moves
    pub t6_ends : reply ≤ 0 → (place : ℕ) → place ≡ place_of plan x → (marks : List ℕ) → marks ≡ with_flag a.marks place 4 false
        → (spans rings reports : List ℕ) (count : ℕ)
        → state spans rings reports count ≡ released plan a.links marks a.rows x (state a.spans a.rings a.reports 0)
        → (answer : Answer) → answer ≡ done count
        → Leaves (expired_t6 plan a x) answer (areas a.links marks spans rings a.rows a.arrivals reports)
    unfolding expired_t6
    t6_ends h place at marks cleared spans rings reports count are answer r =
        let now : List ℕ → State =
        λ m. released plan a.links m a.rows x (state a.spans a.rings a.reports 0)
        in
        let after : List ℕ → State → Outcome =
        λ m s.
        outcome (done s.log.count)
        (areas a.links m s.queues.spans s.queues.rings a.rows a.arrivals s.log.area)
        in
        leaves (expired_t6 plan a x) answer (areas a.links marks spans rings a.rows a.arrivals reports)
        (ap (λ (n : Answer). outcome n (areas a.links marks spans rings a.rows a.arrivals reports)) r
        ∙ ap (λ (s : State). after marks s) are
        ∙ ap (λ (m : List ℕ). after m (now m)) (cleared ∙ ap (λ (p : ℕ). with_flag a.marks p 4 false) at)
        ∙ is_done reply (reply_t6 plan a.marks x a.reports) (is ∙ t6_reply false e) _ a h)

-- a message that finds no place or number is refused, and any other is done, made or not
makes : (plan : Plan) (draft : Draft) (a : Areas)
    → outcome (plain (makes_reply plan draft a)) (with_made plan draft a)
    ≡ judged (makes_reply plan draft a) (outcome (done 0) (with_made plan draft a)) a
makes plan draft a =
    let reply : ℕ = makes_reply plan draft a in
    let all : Outcome = outcome (done 0) (with_made plan draft a) in
    cases (eqb reply 0)
    (λ e.
    let none = eqb-true reply 0 e in
    ap (λ (n : ℕ). outcome (plain n) (with_made plan draft a)) none ∙ is_done reply reply refl all a (omega (arith, none)))
    (λ e.
    ap (λ (h : Held). outcome (plain reply) (with_held a h)) (refused_kept plan a.links a.marks draft (held_in a) e)
    ∙ is_refused reply reply refl all a (omega (arith, eqb-false reply 0 e)))

-- T10
module _ (plan : Plan) (a : Areas) (x set reply : ℕ) (is : reply ≡ reply_t10 plan a.marks x set) where
  pub t10_refused : 0 < reply → (answer : Answer) → answer ≡ plain reply → Leaves (expired_t10 plan a x set) answer a
  unfolding expired_t10
  t10_refused h answer r = leaves_all reply (reply_t10 plan a.marks x set) is _ a h answer r

  pub t10_sends : reply ≤ 0 → (draft : Draft) → draft ≡ test_of plan x set → (sent : Result Bool Refusal) (spans rings rows arrivals : List ℕ)
      → MakeLeaves plan a.links a.marks draft a.spans a.rings a.rows a.arrivals sent spans rings rows arrivals
      → (answer : Answer) → answer ≡ plain (number_of sent)
      → Leaves (expired_t10 plan a x set) answer (areas a.links a.marks spans rings rows arrivals a.reports)
  unfolding expired_t10
  t10_sends h draft drawn sent spans rings rows arrivals left answer r =
      leaves (expired_t10 plan a x set) answer (areas a.links a.marks spans rings rows arrivals a.reports)
      (ap (λ (n : Answer). outcome n (areas a.links a.marks spans rings rows arrivals a.reports))
      (r ∙ ap plain left.1)
      ∙ ap (λ (n : Held). outcome (plain (makes_reply plan draft a)) (with_held a n)) left.2
      ∙ ap (λ (d : Draft). outcome (plain (makes_reply plan d a)) (with_made plan d a)) drawn
      ∙ makes plan (test_of plan x set) a
      ∙ is_done reply (reply_t10 plan a.marks x set) is _ a h)
