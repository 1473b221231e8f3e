-- A link that comes into service has an empty queue before the call and after it, since the CBD goes to another link: its history begins empty.
-- Assumes nothing.
use mathlib.Core.Path.{◌≡◌, refl, sym, ap, ◌∙◌, subst}
use mathlib.Core.Bool.{Bool, true, cond, and-eq-true_iff}
use mathlib.Core.List.{List}
use Prim.Native.Nat.{ℕ, ◌<◌}
use native.Mathlib.Omega.{arith}
use lib.Dec.{eqb}
use borrow.Author.Tests.{eqb-true, ltb-true}
use Rattle.plan.specs.declared.data.Plan.{Plan}
use Rattle.plan.specs.Sound as Plan
use Rattle.area_links.specs.LinkRecords.{record_at}
use Rattle.replies.specs.Areas.{Areas, Outcome, refused}
use Rattle.route_choice.specs.Which.{none}
use Rattle.queue_heads.specs.Head.{both}
use Rattle.management_making.specs.Make.{Held, held_in}
use Rattle.changeback_pairs.specs.declared.Sources.{Sources}
use Rattle.changeback_service.specs.InService.{declares, sources_in}
use Rattle.changeback.specs.Service.{declared, into_service}
use Rattle.changeback.specs.Service as Service
use Rattle.node.specs.declared.call.Event.{Event}
use Rattle.node.specs.declared.call.Event.TheVariants.{IntoService}
use Rattle.node.proofs.Viewed.{EachKind, by_view}
use Rattle.node.specs.View.{View, view_of}
use Rattle.node.specs.Memory.{Memory}
use Rattle.node.specs.Call.{call_of}
use Rattle.promise_runs.proofs.Outcomes.{unmet, by_test}
use Rattle.promise_runs.proofs.KeepsCalls.{RegularAt}
use Rattle.promise_runs.proofs.KeepsService.{own_goes, was_out, first_done}
use Rattle.promise_ledger.specs.Held.{numbers, put_on}
use Rattle.promise_ledger.proofs.Behind.{management_other}
use Rattle.promise_accounts.specs.Gone.{queue_of}
use Rattle.promise_farend.specs.History.{History, begun, is_done, with_queued, event_by, put_by, begins, BeginsEmpty}
use Rattle.promise_farend.proofs.InOrderCalls.{out_empty}

module _ (plan : Plan) (sound : Plan.Sound plan) (message : List ℕ) (m : Memory) (regular : RegularAt m) (link : ℕ) (h : link < 32) (s : History) where
  abbrev a : Areas
  a = m.areas

  abbrev from : Sources
  from = sources_in plan a.links a.marks link

  -- the CBD goes to another link's queue
  not_declared_here : (record_at a.links link).state ≡ 0
      → let now = declared plan link from (held_in a) in
      numbers now.rows now.queues link ≡ queue_of a link
  unfolding declared
  not_declared_here out =
      by_test (λ (now : Held). numbers now.rows now.queues link ≡ queue_of a link) (declares from) _ (held_in a)
      (λ e.
      let goes = own_goes plan sound a m.octets regular link e in
      let within = ltb-true from.own none e in
      management_other a.rows m.octets (both a.spans a.rings) regular.store a.arrivals from.own (omega arith) _ _ _ _ link
      (omega arith)
      (λ same.
      goes.not_out (omega arith) (ap (λ (l : ℕ). (record_at a.links l).state) (sym same) ∙ out)))
      (λ e. refl)

  -- by an event and what it leaves
  abbrev Goes : View → Event → Type 0
  Goes view event =
      let r = call_of plan event message m in
      begins link (is_done r) view ≡ true
      → BeginsEmpty a r.after.areas link (with_queued (event_by plan a link r s view) (put_by a link r))

  into_service_lem : is_done (call_of plan (IntoService link) message m) ≡ true
      → BeginsEmpty a (call_of plan (IntoService link) message m).after.areas link
      (with_queued begun (put_by a link (call_of plan (IntoService link) message m)))
  unfolding call_of into_service put_on
  into_service_lem =
      let reply = Service.reply_of plan a link in
      by_test
      (λ (o : Outcome).
      eqb o.answer.reply 0 ≡ true
      → BeginsEmpty a o.after link (with_queued begun (put_on (queue_of a link) (queue_of o.after link))))
      (eqb reply 0)
      _
      (refused reply a)
      (λ e done.
      let out = (was_out plan sound a m.octets regular link (first_done plan sound a m.octets regular link (eqb-true reply 0 e))).1 in
      let empty = out_empty a m.octets regular link h out in
      let still = not_declared_here out ∙ empty in
      record {
        nothing_yet = ap (λ (l : List ℕ). with_queued begun (put_on (queue_of a link) l)) still;
        empty_before = empty;
        empty_after = still;
      })
      (λ refuses done. unmet (sym refuses ∙ done))

  by_kind : EachKind Goes
  unfolding begins event_by
  by_kind =
      record {
        comes = λ other e.
            let own = (and-eq-true_iff (eqb other link) (is_done (call_of plan (IntoService other) message m))).0 e in
            let same = eqb-true other link own.0 in
            subst
            (λ (now : History).
            BeginsEmpty a (call_of plan (IntoService other) message m).after.areas link
            (with_queued now (put_by a link (call_of plan (IntoService other) message m))))
            (sym (ap (λ (t : Bool). cond t begun s) e))
            (subst
            (λ (l : ℕ).
            is_done (call_of plan (IntoService l) message m) ≡ true
            → BeginsEmpty a (call_of plan (IntoService l) message m).after.areas link
            (with_queued begun (put_by a link (call_of plan (IntoService l) message m))))
            (sym same)
            into_service_lem
            own.1);
        sends = λ other e. unmet e;
        acknowledges = λ other b e. unmet e;
        fails = λ other e. unmet e;
        arrives = λ other fsn e. unmet e;
        handed_over = λ e. unmet e;
        t1 = λ other e. unmet e;
        t2 = λ other e. unmet e;
        expires = λ event is e. unmet e;
      }

  -- every event
  pub call_begins : (event : Event) → Goes (view_of event) event
  call_begins = by_view Goes by_kind
