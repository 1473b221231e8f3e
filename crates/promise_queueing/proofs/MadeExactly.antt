-- Over any run of calls from any configuration: what a call makes is what is due, exactly if the event isn't refused, there is a path over open links, fewer
-- than 64 management messages are held, and a number is left.
-- Assumes nothing.
use mathlib.Core.Path.{◌≡◌, refl, sym, ap, ap₂, subst, ◌∙◌}
use mathlib.Core.Bool.{Bool, true, false, cond, not, ◌&&◌}
use mathlib.Core.List.{List}
use Prim.Native.Nat.{ℕ, ◌≤◌}
use mathlib.Core.Logic.{inl, inr}
use native.Mathlib.Omega.{arith}
use lib.Dec.{eqb, ltb, leb}
use lib.ListN.{length}
use borrow.Author.Tests.{eq-eqb, ne_eqb, lt-ltb, le-ltb, le-leb, lt-leb, leb-true, leb-false}
use borrow.Table.Steps.{cases}
use Rattle.constants.specs.Constants.{no_link}
use Rattle.plan.specs.declared.data.Plan.{Plan}
use Rattle.plan.proofs.Split.{alike}
use Rattle.wire_messages.specs.declared.management.Message.{Message}
use Rattle.wire_messages.specs.declared.management.Message.TheVariants.{TFP}
use Rattle.lookup.specs.Lookup.{adjacent_of}
use Rattle.replies.specs.Reply.{first}
use Rattle.replies.specs.Areas.{Areas}
use Rattle.queue_joining.specs.Queue.{next_of, management_reply}
use Rattle.management_making.specs.declared.Draft.{Draft}
use Rattle.management_steps.specs.Step.{draft}
use Rattle.managing.specs.Managed.{step_asked}
use Rattle.changeover_failure.specs.Failure.{order_of}
use Rattle.rerouting_expiry.specs.Expiry.{test_of}
use Rattle.passing_passage.specs.Passage.{unreachable, prohibited_to}
use Rattle.discrimination.specs.declared.Came.{Came}
use Rattle.discrimination.specs.declared.Came.TheVariants.{Malformed, Foreign, Delivered, Managed, Passed}
use Rattle.discrimination.specs.Discrimination.{from_link}
use Rattle.plan_configuration.specs.Configure.{configured}
use Rattle.node.specs.declared.call.Event.{Event}
use Rattle.node.specs.declared.call.Event.TheVariants.{IntoService, Failure, Send, Acknowledgement, Received, FromHost, T1, T2, T3, T4, T6, T8, T10}
use Rattle.node.specs.Memory.{Memory}
use Rattle.node.specs.Call.{call_of}
use Rattle.promise_runs.specs.Run.{Call, lent, called, ran, fresh, Whole}
use Rattle.promise_runs.proofs.Outcomes.{unmet, by_test}
use Rattle.promise_contents.specs.Made.{New, Nothing, User, Made, declaration_of, new_by, new_of, Written}
use Rattle.promise_contents.specs.Given.{gives, Gains}
use Rattle.promise_contents.proofs.GivenCalls.{call_gains}
use Rattle.promise_queueing.specs.Holding.{held_of_kind, managements_held}
use Rattle.promise_queueing.specs.Due.{Due, NoneDue, IsDue, tells_of, due_by, due_of, has_room, is_made_now, if_made, made_in, OnlyUsers}
use Rattle.promise_queueing.proofs.Holding.{reached, accounted, held_at_once}
use Rattle.promise_queueing.proofs.DueLaws.{is_made_by, one_or_none}
use Rattle.promise_queueing.proofs.DueCalls.{call_makes}

-- of so many at most: it is all of them exactly if it isn't fewer
all_or_fewer : (held limit : ℕ) → held ≤ limit → eqb held limit ≡ not (ltb held limit)
all_or_fewer held limit most =
    alike held limit (λ full. eq-eqb held limit full ∙ ap not (sym (le-ltb held limit (omega arith))))
    (λ other. ne_eqb held limit other ∙ ap not (sym (lt-ltb held limit (omega arith))))

-- no number is left exactly if the next isn't one up to the last
past_last : (next : ℕ) → leb 9223372036854775808 next ≡ not (leb next 9223372036854775807)
past_last next =
    cases (leb next 9223372036854775807)
    (λ e. lt-leb 9223372036854775808 next (omega (arith, leb-true next 9223372036854775807 e)) ∙ ap not (sym e))
    (λ e. le-leb 9223372036854775808 next (omega (arith, leb-false next 9223372036854775807 e)) ∙ ap not (sym e))

-- the reply to a message that needs both is 0 exactly if there are both
two_rows : (place number : Bool) → eqb (cond (not place) 8 (cond (not number) 10 0)) 0 ≡ (place && number)
two_rows true true = refl
two_rows true false = refl
two_rows false number = refl

-- one that is due is something
abbrev is_some : Due → Bool
is_some NoneDue = false
is_some (IsDue message point slc) = true

pub something : {A : Type 0} {message : Message} {point slc : ℕ} → NoneDue ≡ IsDue message point slc → A
something e = unmet (ap is_some e)

-- and a new user message is no other
abbrev own_in : New → Bool
own_in Nothing = true
own_in (User size) = false
own_in (Made own) = true

no_user : {size : ℕ} {new : New} → own_in new ≡ true → new ≡ User size → ⊥
no_user own user = unmet (sym (ap own_in user) ∙ own)

-- with what is due no user message is new
module _ (plan : Plan) (octets : List ℕ) (a : Areas) where
  abbrev Apart : Due → New → Type 0
  Apart due new = (message : Message) (point slc : ℕ) → due ≡ IsDue message point slc → (size : ℕ) → new ≡ User size → ⊥

  none_apart : (new : New) → Apart NoneDue new
  none_apart new message point slc is = something is

  nothing_apart : (due : Due) → Apart due Nothing
  nothing_apart due message point slc is size user = no_user refl user

  made_apart : (due : Due) (own : Draft) → Apart due (Made own)
  made_apart due own message point slc is size user = no_user refl user

  came_apart : (arriving fsn size : ℕ) (came : Came) → Apart (due_by plan a arriving fsn came) (new_by plan arriving fsn size came a)
  unfolding due_by new_by
  came_apart arriving fsn size Malformed = none_apart Nothing
  came_apart arriving fsn size Foreign = none_apart Nothing
  came_apart arriving fsn size Delivered = none_apart Nothing
  came_apart arriving fsn size (Managed order) =
      let due = due_by plan a arriving fsn (Managed order) in
      let step = step_asked plan a.links a.marks arriving fsn order.point order.slc order.message in
      by_test (Apart due) step.answers (Made step.draft) Nothing (λ e. made_apart due step.draft) (λ e. nothing_apart due)
  came_apart arriving fsn size (Passed label) = by_way (unreachable plan a label) (tells_of plan a label.dpc)
    where
      by_way : (test may : Bool)
          → Apart (cond (test && may) (IsDue (TFP label.dpc) (adjacent_of plan arriving) 0) NoneDue)
          (cond test (Made (prohibited_to plan arriving label.dpc)) (User size))
      by_way true may = made_apart _ (prohibited_to plan arriving label.dpc)
      by_way false may = none_apart (User size)

  due_no_user : (event : Event) → Apart (due_of plan event octets a) (new_of plan event octets a)
  unfolding due_of new_of
  due_no_user (IntoService link) = made_apart _ (declaration_of plan a link)
  due_no_user (Failure link) = made_apart _ (order_of plan a.links link)
  due_no_user (Received link fsn) = came_apart link fsn (length octets) (from_link plan octets)
  due_no_user (T10 x set) = made_apart _ (test_of plan x set)
  due_no_user (Send link) = none_apart Nothing
  due_no_user (Acknowledgement link b) = none_apart Nothing
  due_no_user FromHost = none_apart (User (length octets))
  due_no_user (T1 link) = none_apart Nothing
  due_no_user (T2 link) = none_apart Nothing
  due_no_user (T3 link) = none_apart Nothing
  due_no_user (T4 link) = none_apart Nothing
  due_no_user (T6 x) = none_apart Nothing
  due_no_user (T8 x) = none_apart Nothing

-- what is given, by what is made
module _ (before after : Areas) (message : Message) (point slc : ℕ) where
  abbrev Stands : Due → Type 0
  Stands NoneDue = Unit {0}
  Stands (IsDue message point slc) = Gains (Made (draft message point slc no_link)) true before after

  due_gains : (new : New) (given made : Bool) → ((size : ℕ) → new ≡ User size → ⊥) → made_in new given ≡ if_made (IsDue message point slc) made
      → Gains new given before after → Gains (Made (draft message point slc no_link)) made before after
  unfolding made_in Written
  due_gains Nothing given true user e gains = something e
  due_gains Nothing true false user e gains = absurd (gains.1 refl).0
  due_gains Nothing false false user e gains = (gains.0, unmet)
  due_gains (User size) given made user e gains = absurd (user size refl)
  due_gains (Made own) true true user e gains = subst Stands e gains
  due_gains (Made own) true false user e gains = something (sym e)
  due_gains (Made own) false true user e gains = something e
  due_gains (Made own) false false user e gains = (gains.0, unmet)

-- where nothing is made, a number is given to a user message only
module _ (before after : Areas) where
  only_users : (new : New) (given : Bool) → made_in new given ≡ NoneDue → Gains new given before after → OnlyUsers before after
  unfolding made_in Written
  only_users Nothing true e gains = absurd (gains.1 refl).0
  only_users (User size) true e gains = inr (size, gains)
  only_users (Made own) true e gains = something (sym e)
  only_users Nothing false e gains = inl (omega (arith, gains.0))
  only_users (User size) false e gains = inl (omega (arith, gains.0))
  only_users (Made own) false e gains = inl (omega (arith, gains.0))

module _ (m : Memory) (whole : Whole m) (one : length m.areas.arrivals ≡ 1) (text : List ℕ) (earlier : List Call) where
  abbrev plan : Plan
  plan = (configured text).plan

  abbrev before : Memory
  before = ran plan earlier (fresh m)

  -- room by what is held
  room_is : eqb (management_reply before.areas.spans before.areas.arrivals) 0 ≡ has_room before.areas
  unfolding management_reply first has_room
  room_is =
      let held = held_at_once m whole one text earlier in
      let many : ℕ = managements_held before.areas in
      let next : ℕ = next_of before.areas.arrivals in
      ap₂ (λ (t u : Bool). eqb (cond t 8 (cond u 10 0)) 0) (held.managements_full ∙ all_or_fewer many 64 (omega (arith, held.managements)))
      (past_last next)
      ∙ two_rows (ltb many 64) (leb next 9223372036854775807)

  module _ (call : Call) where
    abbrev now : Memory
    now = lent call before

    abbrev a : Areas
    a = now.areas

    abbrev due : Due
    due = due_of plan call.event call.message a

    abbrev reply : ℕ
    reply = (call_of plan call.event call.message now).answer.reply

    -- what a call makes is what is due, if it is made
    pub made_exactly :
        made_in (new_of plan call.event call.message a) (gives plan call.event call.message a)
        ≡ if_made due (is_made_now plan due reply a (called plan call before).areas)
    unfolding called is_made_now has_room held_of_kind
    made_exactly =
        let all = accounted m whole one text earlier in
        call_makes plan call.message now (reached m whole one text earlier) all.apart all.one call.event
        ∙ ap (λ (t : Bool). if_made due (is_made_by plan due reply a (call_of plan call.event call.message now).after.areas t)) room_is

    -- the number that it gives, and what it holds with it
    gained : Gains (new_of plan call.event call.message a) (gives plan call.event call.message a) a (called plan call before).areas
    unfolding called
    gained =
        let all = accounted m whole one text earlier in
        call_gains plan call.message now (reached m whole one text earlier) all.apart all.one call.event

    -- so that one that is due is held, with the next number, exactly if it is made, and else no number is given
    pub due_held : (message : Message) (point slc : ℕ) → due ≡ IsDue message point slc
        → Gains (Made (draft message point slc no_link)) (is_made_now plan due reply a (called plan call before).areas) a (called plan call before).areas
    due_held message point slc is =
        let made : Bool = is_made_now plan due reply a (called plan call before).areas in
        due_gains a (called plan call before).areas message point slc _ _ made
        (due_no_user plan call.message a call.event message point slc is)
        (made_exactly ∙ ap (λ (d : Due). if_made d made) is)
        gained

    -- and where none is due the node makes none
    pub none_held : due ≡ NoneDue → OnlyUsers a (called plan call before).areas
    none_held is =
        let made : Bool = is_made_now plan due reply a (called plan call before).areas in
        only_users a (called plan call before).areas _ _ (made_exactly ∙ ap (λ (d : Due). if_made d made) is ∙ sym (one_or_none made)) gained
