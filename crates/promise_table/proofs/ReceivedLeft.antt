-- A message from a link with a reply other than 0: what it leaves is what the table's column says of that reply. With 1, 2, 5, 6, 7, 8
-- and 10 all is as it was, with 3, 4, 9 and 11 the message is taken, and with 9 there is a TFP perhaps. Assumes nothing.
use Prim.Native.Nat.{ℕ}
use mathlib.Core.Bool.{Bool, true, false, cond, not, ◌&&◌, ◌||◌, true≢false, false≢true}
use mathlib.Core.List.{List}
use mathlib.Core.Path.{◌≡◌, refl, sym, ap, ap₂, ◌∙◌}
use lib.Dec.{eqb}
use lib.ListN.{length}
use borrow.Table.Steps.{cases}
use borrow.Author.Tests.{eqb-true}
use Rattle.plan.specs.declared.data.Plan.{Plan}
use Rattle.wire.specs.declared.header.Label.{Label}
use Rattle.wire_messages.specs.declared.management.Message.{Message}
use Rattle.wire_messages.specs.declared.management.Message.TheVariants.{COO, COA, CBD, CBA, ECO, ECA, TFP, TFA, RST}
use Rattle.replies.specs.Reply.{Row, first, plain}
use Rattle.replies.specs.Areas.{Areas, Outcome, outcome, refused, judged, with_marks}
use Rattle.queue_joining.specs.Queue.{user_octets, management_reply}
use Rattle.numbers.specs.Numbers.{is_taken}
use Rattle.numbers.specs.Taken.{with_taken, taken_by}
use Rattle.management_making.specs.declared.Draft.{Draft}
use Rattle.management_making.specs.Make.{Held, held_in, with_held, made, is_made, makes_reply}
use Rattle.management_making.specs.Make as Make
use Rattle.discrimination.specs.declared.Came.{Came}
use Rattle.discrimination.specs.declared.Came.TheVariants.{Malformed, Foreign, Delivered, Managed, Passed}
use Rattle.discrimination.specs.Discrimination.{from_link}
use Rattle.management_steps.specs.declared.Step.{Step}
use Rattle.management_orders.specs.Carry.{answer_reply, carried}
use Rattle.changeback_waiting.specs.Wait.{answers, answered_by}
use Rattle.rerouting_marking.specs.Mark.{counts}
use Rattle.rerouting.specs.Transfer.{transferred}
use Rattle.passing_passage.specs.Passage.{unreachable, place_reply, octets_queued, tells, prohibited_to, with_t8}
use Rattle.passing.specs.Pass.{marks_told, not_reached, passed, octets_passed}
use Rattle.managing.specs.Managed.{asked, step_asked, managed}
use Rattle.receiving.specs.Receive.{reply_of, received_by, received, octets_by, octets_received}
use Rattle.node.specs.Memory.{Memory, memory}
use Rattle.promise_table.specs.Received.{path_for, makes_tfp}
use Rattle.promise_table.specs.Unchanged.{leaves_all, with_tfp_of, left_by}
use Rattle.promise_table.proofs.Either.{either, by_test, either_both, otherwise}
use Rattle.replies_given.proofs.Numbers.{all_of, of_first}
use Rattle.promise_table.proofs.GoesOut.{ended_done}
use Rattle.promise_table.proofs.RouteReplies.{making}
use Rattle.promise_table.proofs.HostReply.{places}
use Rattle.promise_table.proofs.ManagedReply.{Plain, asked_plain, answer_first}
use Rattle.promise_table.proofs.ReceivedReply.{before, reply_before, later, kind_reply}
use Rattle.promise_table.proofs.Kept.{refuses, Left, not_named}

-- of two tests one holds, and it isn't the first
second : (p q : Bool) → (p || q) ≡ true → not p ≡ true → q ≡ true
second true q e n = absurd (false≢true n)
second false q e n = e

-- 0, or a reply that leaves all
abbrev calm : ℕ → Bool
calm n = eqb n 0 || leaves_all n

-- all as it was with a reply that leaves all, and else another memory by the reply
module _ (m : Memory) (other : ℕ → Memory) where
  abbrev left_or : ℕ → Memory
  left_or reply = cond (leaves_all reply) m (other reply)

  all_or : (reply : ℕ) → leaves_all reply ≡ true → left_or reply ≡ m
  all_or reply e = ap (λ (t : Bool). cond t m (other reply)) e

  -- a refusal with a reply of rows that leave all
  refused_or : (reply : ℕ) (rows : List Row) → reply ≡ first rows → all_of calm rows ≡ true
      → Left refuses m.out left_or (refused reply m.areas) m.octets
  refused_or reply rows is all =
      let named : calm reply ≡ true = ap calm is ∙ of_first calm refl rows all in
      record { left = λ e. sym (all_or reply (second (eqb reply 0) (leaves_all reply) named e)) }

-- "unchanged"
pub all_left : (plan : Plan) (link fsn : ℕ) (m : Memory) (came : Came) (reply : ℕ) → leaves_all reply ≡ true
    → left_by plan link fsn came m reply ≡ m
all_left plan link fsn m came reply e =
    let a = m.areas in
    all_or m (λ (n : ℕ). memory (with_taken link fsn (cond (eqb n 9) (with_tfp_of plan link came a) a)) m.octets m.out) reply e

module _ (plan : Plan) (link fsn : ℕ) (m : Memory) (came : Came) where
  abbrev a : Areas
  a = m.areas

  -- the column before the message is taken
  abbrev dropped : ℕ → Memory
  dropped reply = memory (cond (eqb reply 9) (with_tfp_of plan link came a) a) m.octets m.out

  abbrev untaken : ℕ → Memory
  untaken = left_or m dropped

  -- an outcome is what that says of its reply, with octets
  abbrev LeftBy : Outcome → List ℕ → Type 0
  LeftBy = Left refuses m.out untaken

  done_left : (o : Outcome) (octets : List ℕ) → o.answer.reply ≡ 0 → LeftBy o octets
  done_left o octets is = not_named refuses m.out untaken 0 refl o octets is

  refused_left : (reply : ℕ) (rows : List Row) → reply ≡ first rows → all_of calm rows ≡ true → LeftBy (refused reply a) m.octets
  refused_left reply rows is all = refused_or m dropped reply rows is all

  judged_left : (reply : ℕ) (rows : List Row) → reply ≡ first rows → all_of calm rows ≡ true
      → (does : Outcome) → LeftBy does m.octets → LeftBy (judged reply does a) m.octets
  judged_left reply rows is all does whole =
      either (λ (o : Outcome). LeftBy o m.octets) (eqb reply 0) does (refused reply a) whole (refused_left reply rows is all)

  -- a step is carried out, or its reply is 11
  nothing_left : (reply : ℕ) → eqb reply 11 ≡ not (eqb reply 0) → LeftBy (outcome (plain reply) a) m.octets
  nothing_left reply is =
      record { left = λ e. sym (ap untaken (eqb-true reply 11 (is ∙ e))) }

  step_left : (step : Step) → Plain step → LeftBy (carried plan step a) m.octets
  unfolding carried
  step_left step is =
      either (λ (o : Outcome). LeftBy o m.octets) (eqb step.reply 0) _ _
      (judged_left (answer_reply plan step a) _ (answer_first plan step a) refl _ (done_left _ _ (ended_done plan step _)))
      (nothing_left step.reply is)

  -- a message that asks for no answer: done, or 11
  unless_left : (t : Bool) (does : Outcome) → does.answer.reply ≡ 0 → LeftBy (cond t does (outcome (plain 11) a)) m.octets
  unless_left t does is =
      either (λ (o : Outcome). LeftBy o m.octets) t does _ (done_left does m.octets is) (record { left = λ e. refl })

  module _ (point slc : ℕ) where
    by_step : (message : Message) → LeftBy (carried plan (step_asked plan a.links a.marks link fsn point slc message) a) m.octets
    by_step message = step_left _ (asked_plain plan a.links a.marks link fsn point slc message)

    managed_left : (message : Message) → LeftBy (managed plan link fsn point slc message a) m.octets
    unfolding managed asked transferred answered_by
    managed_left (COO f) = by_step (COO f)
    managed_left (COA f) = by_step (COA f)
    managed_left (CBD code) = by_step (CBD code)
    managed_left (CBA code) = unless_left (answers plan a.links point slc code) _ refl
    managed_left ECO = by_step ECO
    managed_left ECA = by_step ECA
    managed_left (TFP x) = unless_left (counts plan a.marks point x true) _ refl
    managed_left (TFA x) = unless_left (counts plan a.marks point x false) _ refl
    managed_left (RST x) = by_step (RST x)

-- a message that finds a place and number, or has no path, is made exactly if it has a path
made_by_path : (path : Bool) (n : ℕ) → eqb (cond path n 0) 0 ≡ true → (path && eqb n 0) ≡ path
made_by_path true n e = e
made_by_path false n e = refl

-- a message for another point
module _ (plan : Plan) (link fsn : ℕ) (m : Memory) (label : Label) where
  abbrev x : ℕ
  x = label.dpc

  abbrev draft : Draft
  draft = prohibited_to plan link x

  abbrev areas : Areas
  areas = m.areas

  abbrev PassedLeft : Outcome → List ℕ → Type 0
  PassedLeft = LeftBy plan link fsn m (Passed label)

  -- what is held, and the flags, by whether a TFP is made
  abbrev told_with : Held → List ℕ → Memory
  told_with held marks = memory (with_marks (with_held areas held) marks) m.octets m.out

  abbrev path : Bool
  path = path_for plan areas draft

  abbrev told : Held
  told = made plan areas.links areas.marks draft (held_in areas)

  -- whether one is made, where it is due and finds a place and number
  module _ (due : tells plan areas.marks x ≡ true) (finds : eqb (makes_reply plan draft areas) 0 ≡ true) where
    as_path : makes_tfp plan areas link x ≡ path
    as_path = ap (λ (t : Bool). t && path) due

    held_is : told ≡ cond (makes_tfp plan areas link x) told (held_in areas)
    unfolding made
    held_is = cases path (λ e. sym (ap (λ (t : Bool). cond t told (held_in areas)) (as_path ∙ e)))
        (λ e. otherwise path _ (held_in areas) e ∙ sym (ap (λ (t : Bool). cond t told (held_in areas)) (as_path ∙ e)))

    marks_are : marks_told plan areas link x ≡ cond (makes_tfp plan areas link x) (with_t8 plan areas.marks x) areas.marks
    unfolding marks_told is_made Make.reply_of
    marks_are =
        ap (λ (t : Bool). cond t (with_t8 plan areas.marks x) areas.marks)
        (made_by_path path (management_reply areas.spans areas.arrivals) finds ∙ sym as_path)

    told_left : told_with told (marks_told plan areas link x) ≡ untaken plan link fsn m (Passed label) 9
    unfolding with_tfp_of
    told_left = ap₂ told_with held_is marks_are

  untold_left : tells plan areas.marks x ≡ false → told_with (held_in areas) areas.marks ≡ untaken plan link fsn m (Passed label) 9
  unfolding with_tfp_of
  untold_left e =
      sym
      (ap (λ (t : Bool). told_with (cond t told (held_in areas)) (cond t (with_t8 plan areas.marks x) areas.marks))
      (ap (λ (t : Bool). t && path) e))

  not_reached_left : PassedLeft (not_reached plan link x areas) m.octets
  unfolding not_reached
  not_reached_left =
      by_test (λ (o : Outcome). PassedLeft o m.octets) (tells plan areas.marks x) _ _
      (λ due.
      by_test (λ (o : Outcome). PassedLeft o m.octets) (eqb (makes_reply plan draft areas) 0) _ _
      (λ finds. record { left = λ e. told_left due finds })
      (λ none. refused_left plan link fsn m (Passed label) (makes_reply plan draft areas) _ (making plan draft areas) refl))
      (λ not-due. record { left = λ e. untold_left not-due })

  module _ (message : List ℕ) where
    passed_left : PassedLeft (passed plan link label (length message) areas) (octets_passed plan label areas m.octets message)
    unfolding passed octets_passed octets_queued user_octets
    passed_left =
        either_both PassedLeft (unreachable plan areas label) _ _ _ _ not_reached_left
        (either_both PassedLeft (eqb (place_reply areas) 0) _ _ _ _
        (done_left plan link fsn m (Passed label) _ _ refl)
        (refused_left plan link fsn m (Passed label) (place_reply areas) _ (places areas) refl))

-- by what the message is
module _ (plan : Plan) (link fsn : ℕ) (m : Memory) (message : List ℕ) where
  kind_left : (came : Came)
      → LeftBy plan link fsn m came (received_by plan link fsn (length message) came m.areas) (octets_by plan came m.areas m.octets message)
  unfolding received_by octets_by
  kind_left Malformed = record { left = λ e. refl }
  kind_left Foreign = record { left = λ e. refl }
  kind_left Delivered = done_left plan link fsn m Delivered _ _ refl
  kind_left (Managed order) = managed_left plan link fsn m (Managed order) order.point order.slc order.message
  kind_left (Passed label) = passed_left plan link fsn m label message

  -- of the replies that a message which is looked at can have, those are taken that don't leave all
  agree : (p q : Bool) → cond p (not q) q ≡ true → q ≡ not p
  agree true true e = absurd (false≢true e)
  agree true false e = refl
  agree false q e = e

  taken_unless : (came : Came)
      → let reply = (received_by plan link fsn (length message) came m.areas).answer.reply in
      is_taken reply ≡ not (leaves_all reply)
  taken_unless came =
      let reply = (received_by plan link fsn (length message) came m.areas).answer.reply in
      let agrees : ℕ → Bool = λ n. cond (leaves_all n) (not (is_taken n)) (is_taken n) in
      agree (leaves_all reply) (is_taken reply)
      (ap agrees (kind_reply plan link fsn m.areas (length message) came)
      ∙ of_first agrees refl (later plan link fsn m.areas came) refl)

  -- the message is taken
  abbrev with_taken_lem : Memory → Memory
  with_taken_lem k = memory (with_taken link fsn k.areas) k.octets k.out

  by_leaving : (p q : Bool) → q ≡ not p → (b : Areas) (octets : List ℕ) (k : Memory) → memory b octets m.out ≡ cond p m k
      → memory (cond q (with_taken link fsn b) b) octets m.out ≡ cond p m (with_taken_lem k)
  by_leaving true true e b octets k so = absurd (true≢false e)
  by_leaving true false e b octets k so = so
  by_leaving false true e b octets k so = ap with_taken_lem so
  by_leaving false false e b octets k so = absurd (false≢true e)

  taken_left : (came : Came)
      → Left refuses m.out (left_by plan link fsn came m) (taken_by link fsn (received_by plan link fsn (length message) came m.areas))
      (octets_by plan came m.areas m.octets message)
  taken_left came =
      let o : Outcome = received_by plan link fsn (length message) came m.areas in
      let reply = o.answer.reply in
      record {
        left =
            λ e.
            by_leaving (leaves_all reply) (is_taken reply) (taken_unless came) o.after (octets_by plan came m.areas m.octets message)
            (dropped plan link fsn m came reply)
            ((kind_left came).left e);
      }

  abbrev reply : ℕ
  reply = reply_of plan m.areas.links link fsn m.areas.reports

  pub received_left : Left refuses m.out (left_by plan link fsn (from_link plan message) m) (received plan link fsn message m.areas) (octets_received plan link fsn message m.areas m.octets)
  unfolding received octets_received
  received_left =
      let came = from_link plan message in
      let a = m.areas in
      either_both (Left refuses m.out (left_by plan link fsn came m)) (eqb reply 0) _ _ _ _ (taken_left came)
      (refused_or m (λ (n : ℕ). memory (with_taken link fsn (cond (eqb n 9) (with_tfp_of plan link came a) a)) m.octets m.out) reply
      (before plan link fsn a)
      (reply_before plan link fsn a)
      refl)
