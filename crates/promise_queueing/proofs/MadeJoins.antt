-- Over any run of calls from any configuration: a message that the node makes joins the queue of its path with the next number, by a call that takes no
-- link out; a CBD joins that of the link which the pairs of its own set come from.
-- Assumes nothing.
use mathlib.Core.Path.{◌≡◌, refl, sym, subst, ◌∙◌}
use mathlib.Core.Bool.{true, false, true≢false}
use mathlib.Core.List.{List}
use Prim.Native.Nat.{ℕ}
use lib.Dec.{eqb}
use lib.ListN.{length}
use borrow.Author.Tests.{eqb-true}
use Rattle.plan.specs.declared.data.Plan.{Plan}
use Rattle.replies.specs.Areas.{Areas, Outcome, refused}
use Rattle.management_making.specs.declared.Draft.{Draft}
use Rattle.changeback.specs.Service.{into_service}
use Rattle.changeback.specs.Service as Service
use Rattle.plan_configuration.specs.Configure.{configured}
use Rattle.plan_configuration.proofs.Made.{configured_sound}
use Rattle.node.specs.declared.call.Event.TheVariants.{IntoService}
use Rattle.node.specs.View.{view_of}
use Rattle.node.specs.Memory.{Memory}
use Rattle.node.specs.Call.{call_of}
use Rattle.promise_runs.specs.Run.{Call, lent, called, ran, fresh, Whole}
use Rattle.promise_runs.proofs.Outcomes.{by_test}
use Rattle.promise_accounts.specs.Ending.{ending_of}
use Rattle.promise_accounts.proofs.TakingOut.{not_refused}
use Rattle.promise_contents.specs.Made.{New, Nothing, User, Made, new_of}
use Rattle.promise_contents.specs.Given.{gives}
use Rattle.promise_contents.proofs.GivenCalls.{call_gains}
use Rattle.promise_queueing.specs.Making.{path_for, joins_made, MadeJoins, DeclaresTo}
use Rattle.promise_queueing.proofs.Holding.{reached, accounted}
use Rattle.promise_queueing.proofs.MakingCalls.{Joined, call_made}
use Rattle.promise_queueing.proofs.AnswerPaths.{Answered, call_answered}
use Rattle.promise_queueing.proofs.DeclaresTo.{service_declares}

module _ (m : Memory) (whole : Whole m) (one : length m.areas.arrivals ≡ 1) (text : List ℕ) (earlier : List Call) (call : Call) (draft : Draft) where
  abbrev plan : Plan
  plan = (configured text).plan

  abbrev before : Memory
  before = ran plan earlier (fresh m)

  abbrev now : Memory
  now = lent call before

  abbrev a : Areas
  a = now.areas

  -- a call that takes no link out
  pub made_joins : new_of plan call.event call.message a ≡ Made draft → (ending_of plan a call.message (view_of call.event)).ends ≡ false
      → MadeJoins plan draft (gives plan call.event call.message a) a (called plan call before).areas
  unfolding called joins_made
  made_joins makes stays =
      let regular = reached m whole one text earlier in
      let all = accounted m whole one text earlier in
      let given = gives plan call.event call.message a in
      let after : Areas = (call_of plan call.event call.message now).after.areas in
      let joined =
      subst (λ (new : New). Joined plan a now.octets regular all.apart all.one new given after) makes
      (call_made plan call.message now regular all.apart all.one call.event stays)
      in
      record {
        finds_path = joined.0;
        queues = joined.1;
        counted = (call_gains plan call.message now regular all.apart all.one call.event).0;
      }

  -- the answer before a link goes out: `changed-over` has it at the end of the queue of this path
  pub answer_path : new_of plan call.event call.message a ≡ Made draft → (ending_of plan a call.message (view_of call.event)).ends ≡ true
      → (ending_of plan a call.message (view_of call.event)).answers ≡ true
      → (ending_of plan a call.message (view_of call.event)).path ≡ path_for plan a (called plan call before).areas draft
  unfolding called
  answer_path makes out answers =
      let long = (reached m whole one text earlier).links_long in
      subst
      (λ (new : New).
      Answered plan a long (ending_of plan a call.message (view_of call.event)).path new
      (call_of plan call.event call.message now).after.areas)
      makes
      (call_answered plan call.message now long call.event out answers)

  -- what a link that comes into service makes is a CBD to each link that it takes pairs of its own set from
  abbrev Declared : ℕ → New → Areas → Type 0
  Declared link Nothing after = Unit {0}
  Declared link (User size) after = Unit {0}
  Declared link (Made declaration) after = DeclaresTo plan link declaration (gives plan (IntoService link) call.message a) a after

  pub cbd_joins : (link : ℕ) → new_of plan (IntoService link) call.message a ≡ Made draft
      → (call_of plan (IntoService link) call.message now).answer.reply ≡ 0
      → DeclaresTo plan link draft (gives plan (IntoService link) call.message a) a (call_of plan (IntoService link) call.message now).after.areas
  unfolding new_of gives call_of into_service
  cbd_joins link makes answered =
      let reply = Service.reply_of plan a link in
      let done = not_refused reply _ a answered in
      subst (λ (new : New). Declared link new (into_service plan a link).after) makes
      (by_test (λ (o : Outcome). Declared link (new_of plan (IntoService link) call.message a) o.after) (eqb reply 0) _ (refused reply a)
      (λ e.
      service_declares plan (configured_sound text) a now.octets (reached m whole one text earlier) link (eqb-true reply 0 e) _ refl refl)
      (λ e. absurd (true≢false (sym done ∙ e))))
