-- A TFP or TFA that counts, over any run of calls from any configuration: what it leaves of marks and T6, and that no queue changes.
-- Assumes nothing.
use mathlib.Core.Path.{◌≡◌, refl, sym, ◌∙◌, subst}
use mathlib.Core.Bool.{Bool, true, false, cond, not, ◌&&◌, ◌||◌, and-eq-true_iff}
use mathlib.Core.List.{List}
use Prim.Native.Nat.{ℕ, ◌<◌}
use native.Mathlib.Omega.{arith}
use lib.Dec.{eqb, ltb}
use lib.ListN.{length}
use lib.Seq.{length-sets}
use borrow.Author.Tests.{ltb-true, eqb-false}
use Rattle.constants.specs.Constants.{t6}
use Rattle.plan.specs.declared.data.Plan.{Plan}
use Rattle.plan.specs.Find.{place_of, is_found, code_at, given}
use Rattle.area_flags.specs.Flags.{flag_at, with_flag}
use Rattle.wire_messages.specs.declared.management.Message.{Message}
use Rattle.replies.specs.Reply.{plain, done}
use Rattle.replies.specs.Areas.{Areas, areas, Outcome, outcome, refused}
use Rattle.lookup.specs.Lookup.{set_to, rank_by}
use Rattle.numbers.specs.Numbers.{is_taken}
use Rattle.numbers.specs.Taken.{with_taken, taken_by}
use Rattle.rerouting_marking.specs.Mark.{rank_for, differs, counts, marked, diverts, marks_after}
use Rattle.rerouting.specs.Transfer.{access_told, transferred}
use Rattle.managing.specs.Managed.{asked, managed}
use Rattle.discrimination.specs.declared.Order.{Order}
use Rattle.discrimination.specs.declared.Came.{Came}
use Rattle.discrimination.specs.declared.Came.TheVariants.{Managed}
use Rattle.discrimination.specs.Discrimination.{from_link}
use Rattle.receiving.specs.Receive.{reply_of, received_by, received}
use Rattle.queue_rings.specs.Run.{run}
use Rattle.queue_store.specs.Fresh.{emptied}
use Rattle.plan_configuration.specs.Configure.{configured}
use Rattle.node.specs.declared.call.Event.TheVariants.{Received}
use Rattle.node.specs.Memory.{Memory}
use Rattle.node.specs.Call.{receives, call_of}
use Rattle.promise_runs.specs.Run.{Call, lent, ran, fresh}
use Rattle.promise_runs.proofs.Outcomes.{by_test}
use Rattle.promise_apart.specs.Transfers.{transfer_about, uses_another, Transfers}
use Rattle.promise_apart.proofs.Flags.{flag_is, flag_other}
use Rattle.promise_apart.proofs.MarksLong.{flag_length, run_long}

-- either of two, the other known
or_on : (a : Bool) → true ≡ (a || true)
or_on true = refl
or_on false = refl

or_off : (a : Bool) → a ≡ (a || false)
or_off true = refl
or_off false = refl

module _ (plan : Plan) (a : Areas) (long : length a.marks ≡ 512) (point x : ℕ) (prohibits : Bool) where
  abbrev rank : ℕ
  rank = rank_for plan point x

  abbrev place : ℕ
  place = place_of plan x

  -- a rank is that of a configured destination, one of 64
  place_there : rank < 4 → place < 64
  unfolding rank_for
  place_there =
      let named = ltb (set_to plan point) 8 in
      by_test (λ (r : ℕ). r < 4 → place < 64) (named && is_found plan x) (rank_by plan place (set_to plan point)) 4
      (λ e few.
      let there = ((and-eq-true_iff named (is_found plan x)).0 e).1 in
      let low = ltb-true place (given plan) ((and-eq-true_iff (ltb place (given plan)) (eqb (code_at plan.destinations place) x)).0 there).0 in
      omega (arith, low))
      (λ e few. absurd (omega arith))

  -- one that counts is about a route
  counted_few : counts plan a.marks point x prohibits ≡ true → rank < 4
  unfolding counts
  counted_few counted =
      let stands = differs (flag_at a.marks place rank) prohibits in
      let first = (and-eq-true_iff (not (eqb x point)) (not (eqb x plan.code) && (ltb rank 4 && stands))).0 counted in
      let next = (and-eq-true_iff (not (eqb x plan.code)) (ltb rank 4 && stands)).0 first.1 in
      ltb-true rank 4 ((and-eq-true_iff (ltb rank 4) stands).0 next.1).0

  module _ (few : rank < 4) where
    -- the flags with the mark set or cleared
    abbrev middle : List ℕ
    middle = with_flag a.marks place rank prohibits

    middle_long : length middle ≡ 512
    middle_long = flag_length a.marks place rank prohibits ∙ long

    -- T6 as it was before the mark
    before_t6 : flag_at middle place t6 ≡ flag_at a.marks place t6
    before_t6 = flag_other a.marks place rank prohibits place t6 (λ e there. omega arith)

    -- the flags after, by whether T6 starts
    abbrev Leaves : Bool → List ℕ → Type 0
    Leaves starts marks =
        (flag_at marks place rank ≡ prohibits)
        × ((flag_at marks place t6 ≡ (flag_at a.marks place t6 || starts))
        × ((destination flag : ℕ) → (flag ≡ rank → destination ≡ place → ⊥) → (flag ≡ t6 → destination ≡ place → ⊥)
        → flag_at marks destination flag ≡ flag_at a.marks destination flag))

    started : Leaves true (with_flag middle place t6 true)
    started = (
      flag_other middle place t6 true place rank (λ e there. omega arith)
          ∙ flag_is a.marks place rank long (place_there few) (omega arith) prohibits,
      (
        flag_is middle place t6 middle_long (place_there few) (omega arith) true ∙ or_on (flag_at a.marks place t6),
        λ destination flag apart other.
            flag_other middle place t6 true destination flag other ∙ flag_other a.marks place rank prohibits destination flag apart,
      ),
    )

    not_started : Leaves false middle
    not_started = (
      flag_is a.marks place rank long (place_there few) (omega arith) prohibits,
      (
        before_t6 ∙ or_off (flag_at a.marks place t6),
        λ destination flag apart other. flag_other a.marks place rank prohibits destination flag apart,
      ),
    )

    by_starts : (starts : Bool) → Leaves starts (cond starts (with_flag middle place t6 true) middle)
    by_starts true = started
    by_starts false = not_started

    left : Leaves (uses_another plan a point x prohibits) (marks_after plan a.links a.marks point x prohibits)
    unfolding marks_after marked
    left = by_starts (diverts plan a.links a.marks middle x prohibits)

  -- it counts where the reply is 0
  abbrev pub Does : Outcome → Type 0
  Does o = o.answer.reply ≡ 0 → Transfers plan point x prohibits a o.after

  transferred_does : Does (transferred plan point x prohibits a)
  unfolding transferred
  transferred_does =
      let marks = marks_after plan a.links a.marks point x prohibits in
      let told = access_told plan a marks in
      by_test Does (counts plan a.marks point x prohibits)
      (outcome (done told.count) (areas a.links marks a.spans a.rings a.rows a.arrivals told.area))
      (outcome (plain 11) a)
      (λ counted none.
      let all = left (counted_few counted) in
      record { mark = all.0; t6_runs = all.1.0; flags_same = all.1.1; queues_same = λ ring low. refl })
      (λ e none. absurd (omega arith))

-- the management message about X is that TFP or TFA
about_does : (plan : Plan) (a : Areas) (long : length a.marks ≡ 512) (point x : ℕ) (prohibits : Bool) (arriving fsn slc : ℕ)
    → Does plan a long point x prohibits (managed plan arriving fsn point slc (transfer_about x prohibits) a)
unfolding managed asked
about_does plan a long point x true arriving fsn slc = transferred_does plan a long point x true
about_does plan a long point x false arriving fsn slc = transferred_does plan a long point x false

module _ (plan : Plan) (a : Areas) (long : length a.marks ≡ 512) (order : Order) (x : ℕ) (prohibits : Bool)
    (is : order.message ≡ transfer_about x prohibits) where
  abbrev DoesSo : Outcome → Type 0
  DoesSo = Does plan a long order.point x prohibits

  came_does : (arriving fsn size : ℕ) (came : Came) → Managed order ≡ came → DoesSo (received_by plan arriving fsn size came a)
  unfolding received_by
  came_does arriving fsn size came same =
      subst (λ (came : Came). DoesSo (received_by plan arriving fsn size came a)) same
      (subst (λ (message : Message). DoesSo (managed plan arriving fsn order.point order.slc message a)) (sym is)
      (about_does plan a long order.point x prohibits arriving fsn order.slc))

  -- taken, or not
  taken_does : (arriving fsn : ℕ) (o : Outcome) → DoesSo o → DoesSo (taken_by arriving fsn o)
  taken_does arriving fsn o does none =
      let left = does none in
      by_test (Transfers plan order.point x prohibits a) (is_taken o.answer.reply) (with_taken arriving fsn o.after) o.after
      (λ e. record { mark = left.mark; t6_runs = left.t6_runs; flags_same = left.flags_same; queues_same = left.queues_same })
      (λ e. left)

  received_does : (arriving fsn : ℕ) (message : List ℕ) → from_link plan message ≡ Managed order
      → DoesSo (received plan arriving fsn message a)
  unfolding received
  received_does arriving fsn message came =
      let reply = reply_of plan a.links arriving fsn a.reports in
      let became : Outcome = received_by plan arriving fsn (length message) (from_link plan message) a in
      by_test DoesSo (eqb reply 0) (taken_by arriving fsn became) (refused reply a)
      (λ e. taken_does arriving fsn became (came_does arriving fsn (length message) (from_link plan message) (sym came)))
      (λ e none. absurd (eqb-false reply 0 e none))

-- a fresh node's flags are as many as before
fresh_long : (m : Memory) → length (fresh m).areas.marks ≡ length m.areas.marks
unfolding emptied
fresh_long m = length-sets m.areas.marks 0 (run (λ i. 0) 0 512)

-- a TFP or TFA about X that comes over a link with reply 0, at any time
pub transfer_leaves : (m : Memory) → length m.areas.marks ≡ 512 → (text : List ℕ) (earlier : List Call) (call : Call) (link fsn : ℕ)
    → let plan = (configured text).plan in
    let before = ran plan earlier (fresh m) in
    let result = call_of plan (Received link fsn) call.message (lent call before) in
    (order : Order) (x : ℕ) (prohibits : Bool) → from_link plan call.message ≡ Managed order → order.message ≡ transfer_about x prohibits
    → result.answer.reply ≡ 0 → Transfers plan order.point x prohibits before.areas result.after.areas
unfolding call_of receives
transfer_leaves m long text earlier call link fsn order x prohibits came is none =
    let plan = (configured text).plan in
    let before : Memory = ran plan earlier (fresh m) in
    let there : length before.areas.marks ≡ 512 = run_long plan earlier (fresh m) ∙ fresh_long m ∙ long in
    let left = received_does plan (lent call before).areas there order x prohibits is link fsn call.message came none in
    record { mark = left.mark; t6_runs = left.t6_runs; flags_same = left.flags_same; queues_same = left.queues_same }
