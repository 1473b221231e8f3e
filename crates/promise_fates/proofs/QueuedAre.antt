-- The line `queued` of every call is the message that it queues, with the next number and the queue that it stands in: over any run of calls from any
-- configuration. Assumes nothing.
use mathlib.Core.Path.{◌≡◌, refl, sym, ap, ap₂, subst, ◌∙◌}
use mathlib.Core.Bool.{Bool, true, false, cond, true≢false}
use mathlib.Core.List.{List, [], ◌∷◌, ◌++◌, map, append-nil}
use Prim.Native.Nat.{ℕ, ◌+◌, ◌≤◌, ◌<◌}
use native.Mathlib.Omega.{arith}
use lib.Dec.{eqb, ltb}
use lib.ListN.{length}
use borrow.Author.Tests.{lt-ltb, le-ltb, eq-eqb, ne_eqb}
use borrow.Table.Steps.{cases}
use Rattle.plan.specs.declared.data.Plan.{Plan}
use Rattle.plan.proofs.Split.{split, alike}
use Rattle.area_slots.specs.declared.Slot.{Slot}
use Rattle.area_slots.specs.SlotRows.{slot_at}
use Rattle.wire.specs.declared.header.Label.{Label}
use Rattle.wire_messages.specs.Management.{heading_of}
use Rattle.queue_rings.specs.Ring.{queue}
use Rattle.queue_store.specs.Sound.{bit, tally, is}
use Rattle.replies.specs.Areas.{Areas}
use Rattle.queue_joining.specs.Queue.{next_of}
use Rattle.management_making.specs.declared.Draft.{Draft}
use Rattle.discrimination.specs.declared.Came.TheVariants.{Passed}
use Rattle.plan_configuration.specs.Configure.{configured}
use Rattle.plan_configuration.proofs.Made.{configured_sound}
use Rattle.node.specs.View.{view_of}
use Rattle.node.specs.Memory.{Memory, Result}
use Rattle.fate_places.specs.Places.{message_at}
use Rattle.fate_lines.specs.declared.Fate.{Fate}
use Rattle.fate_lines.specs.declared.Fate.TheVariants.{Unchanged, Queued}
use Rattle.replay_fates.specs.declared.deciding.Part.TheVariants.{Arriving}
use Rattle.replay_fates.specs.Holds.{Seen}
use Rattle.promise_runs.specs.Run.{Call, lent, called, ran, fresh, Whole}
use Rattle.promise_runs.proofs.KeepsCalls.{call_regular}
use Rattle.promise_runs.proofs.Reached.{configured_regular}
use Rattle.promise_ledger.specs.Held.{arrival_of, numbers}
use Rattle.promise_accounts.specs.Gone.{queue_of}
use Rattle.promise_accounts.proofs.OnePlace.{tally_on}
use Rattle.promise_contents.specs.Made.{New, User, Made, new_of, Written}
use Rattle.promise_contents.specs.Given.{gives, slot_for}
use Rattle.promise_contents.proofs.Fitting.{written_number}
use Rattle.promise_queueing.specs.Joining.{came_by, joins_at, joins, Joins}
use Rattle.promise_queueing.proofs.NewJoins.{new_joins}
use Rattle.promise_farend.specs.History.{result_of}
use Rattle.promise_fates.specs.Told.{seen_of}
use Rattle.promise_fates.specs.Lines.{picked, queued_line}
use Rattle.promise_fates.specs.History.{fates_by, QueuedAre}
use Rattle.promise_fates.proofs.Counting.{counts_first, counts_later, counts_slot}
use Rattle.promise_fates.proofs.Walked.{picked_none, in_queues, in_none, in_one, slots_in}
use Rattle.promise_fates.proofs.Settled.{queue_part, call_settles, gains}
use Rattle.promise_fates.proofs.Parts.{by_either, part, four, no_sent, no_left, no_moved}
use Rattle.promise_fates.proofs.GoneLines.{apart_queues}
use Rattle.promise_fates.proofs.FatesTrue.{at_most}

module _ {B : Type 0} (f : ℕ → ℕ) (line : ℕ → B) (next : ℕ) where
  -- a line for each from the next number on
  abbrev new : ℕ → List B
  new slot = cond (ltb (f slot) next) [] (line slot ∷ [])

  old_none : (l : List ℕ) → ((n : ℕ) → 1 ≤ tally (is n) (map f l) → n < next) → picked new l ≡ []
  old_none l below =
      picked_none new l
      (λ slot h.
      let e : ltb (f slot) next ≡ true = lt-ltb (f slot) next (below (f slot) (counts_slot f slot l h)) in
      simp e)

  -- where only one has it, its line
  new_one : (slot : ℕ) (l : List ℕ) → f slot ≡ next → 1 ≤ tally (is slot) l → tally (is next) (map f l) ≤ 1
      → ((n : ℕ) → 1 ≤ tally (is n) (map f l) → n < next + 1) → picked new l ≡ line slot ∷ []
  unfolding picked tally
  new_one slot [] is-next h once below = absurd (omega arith)
  new_one slot (first ∷ l) is-next h once below =
      let rest : List ℕ = map f l in
      alike first slot
      (λ same.
      let named : f first ≡ next = ap f same ∙ is-next in
      let e : ltb (f first) next ≡ false = le-ltb (f first) next (omega (arith, named)) in
      let here : bit (eqb (f first) next) ≡ 1 = ap bit (eq-eqb (f first) next named) in
      let once_more : 1 + tally (is next) rest ≤ 1 = omega (arith, once, here) in
      ap₂ (λ (x y : List B). x ++ y) (ap (λ (t : Bool). cond t [] (line first ∷ [])) e)
      (old_none l
      (λ n among.
      let low = below n (counts_later n (f first) rest among) in
      alike n next
      (λ is-it. absurd (omega (arith, once_more, among, ap (λ (k : ℕ). tally (is k) rest) is-it)))
      (λ differ. omega (arith, low, differ))))
      ∙ ap (λ (x : ℕ). line x ∷ []) same)
      (λ other.
      let past : bit (eqb first slot) ≡ 0 = ap bit (ne_eqb first slot other) in
      let later : 1 ≤ tally (is slot) l = omega (arith, h, past) in
      let counted : 1 ≤ tally (is next) rest =
      subst (λ (k : ℕ). 1 ≤ tally (is k) rest) is-next (counts_slot f slot l later)
      in
      let low = below (f first) (counts_first (f first) rest) in
      alike (f first) next
      (λ named.
      let here : bit (eqb (f first) next) ≡ 1 = ap bit (eq-eqb (f first) next named) in
      let twice : 1 + tally (is next) rest ≤ 1 = omega (arith, once, here) in
      absurd (omega (arith, twice, counted)))
      (λ differ.
      let e : ltb (f first) next ≡ true = lt-ltb (f first) next (omega (arith, low, differ)) in
      let fewer : tally (is next) rest ≤ 1 = omega (arith, once) in
      ap₂ (λ (x y : List B). x ++ y) (ap (λ (t : Bool). cond t [] (line first ∷ [])) e)
      (new_one slot l is-next later fewer (λ n among. below n (counts_later n (f first) rest among)))))

-- the heading of a message that the node made
written_heading : (draft : Draft) (number slot : ℕ) (row : Slot) → Written (Made draft) number slot row → row.heading ≡ heading_of draft.message
unfolding Written
written_heading draft number slot row w = ap (λ (k : Slot). k.heading) w.1

-- a user message has none
user_heading : (size number slot : ℕ) (row : Slot) → Written (User size) number slot row → row.heading ≡ 0
unfolding Written
user_heading size number slot row w = w.5

module _ (m : Memory) (whole : Whole m) (one : length m.areas.arrivals ≡ 1) (text : List ℕ) (calls : List Call) (call : Call) where
  abbrev plan : Plan
  plan = (configured text).plan

  abbrev before : Memory
  before = ran plan calls (fresh m)

  abbrev r : Result
  r = result_of plan call before

  abbrev a : Areas
  a = (lent call before).areas

  abbrev b : Areas
  b = r.after.areas

  abbrev s : Seen
  s = seen_of plan call before

  abbrev next : ℕ
  next = next_of a.arrivals

  abbrev number : ℕ → ℕ
  number slot = arrival_of b.rows slot

  abbrev slots : ℕ → List ℕ
  slots ring = queue b.spans b.rings ring

  abbrev line : ℕ → ℕ → Fate
  line ring slot = Queued (number slot) ring (slot_at b.rows slot).heading

  abbrev given : Bool
  given = gives plan call.event call.message a

  abbrev what : New
  what = new_of plan call.event call.message a

  -- the lines, queue by queue
  walked : picked queued_line (fates_by plan call before) ≡ in_queues (λ (ring : ℕ). picked (new number (line ring) next) (slots ring)) 0 33
  walked =
      four queued_line s
      ∙ ap₂ (λ (x y : List Fate). x ++ y)
      (slots_in (Arriving next) s.after s.after s.reports s.told.reports queued_line
      (λ (ring : ℕ) (known : Slot). cond (ltb known.arrival next) [] (Queued known.arrival ring known.heading ∷ []))
      (λ ring place.
      let known = message_at s.after ring place in
      by_either queued_line (ltb known.arrival next) Unchanged (Queued known.arrival ring known.heading))
      (call_settles m whole one text calls call).short_after
      (at_most r.after
      (call_regular plan (configured_sound text) call.message (lent call before) (configured_regular text m whole calls) call.event)))
      (ap₂ (λ (x y : List Fate). x ++ y) (no_sent queued_line s refl (λ n l f. refl))
      (ap₂ (λ (x y : List Fate). x ++ y) (no_left queued_line s refl (λ n l. refl) (λ n l. refl)) (no_moved queued_line s refl (λ n f t. refl))))
      ∙ append-nil (in_queues (λ (ring : ℕ). picked (new number (line ring) next) (slots ring)) 0 33)

  -- every number in a queue is below the next
  below_next : (ring n : ℕ) → ring < 33 → 1 ≤ tally (is n) (map number (slots ring)) → n < next_of b.arrivals
  unfolding numbers
  below_next ring n low among =
      let all = call_settles m whole one text calls call in
      let part = queue_part b ring n low in
      split n (next_of b.arrivals) (λ below. below) (λ above. absurd (omega (arith, among, part, all.none_later n above)))

  counted_is : next_of b.arrivals ≡ next + bit given
  counted_is = (gains m whole one text calls call).0

  unjoined : given ≡ false → (label : Label) → came_by plan call.message (view_of call.event) ≡ Passed label → r.answer.reply ≡ 0 → ⊥
  unfolding called
  unjoined none label is done =
      let joined = new_joins m whole one text calls call label is done in
      let same : next + bit given ≡ next + 0 = ap (λ (g : Bool). next + bit g) none in
      omega (arith, joined.counted, counted_is, same)

  none_queued : given ≡ false → QueuedAre plan call before
  none_queued none =
      let same : next + bit given ≡ next + 0 = ap (λ (g : Bool). next + bit g) none in
      record {
        queue = 0;
        heading = 0;
        lines =
            walked
            ∙ in_none (λ (ring : ℕ). picked (new number (line ring) next) (slots ring)) 0 33
            (λ ring low below.
            old_none number (line ring) next (slots ring) (λ n among. omega (arith, below_next ring n (omega arith) among, counted_is, same)))
            ∙ sym (ap (λ (g : Bool). cond g (Queued next 0 0 ∷ []) []) none);
        counted = counted_is;
        stands = λ some. absurd (true≢false (sym some ∙ none));
        joins = λ label is done. absurd (unjoined none label is done);
        made = λ draft is some. absurd (true≢false (sym some ∙ none));
        unnamed = λ size is some. absurd (true≢false (sym some ∙ none));
      }

  one_queued : given ≡ true → QueuedAre plan call before
  unfolding called joins joins_at numbers
  one_queued some =
      let same : next + bit given ≡ next + 1 = ap (λ (g : Bool). next + bit g) some in
      let written = (gains m whole one text calls call).1 some in
      let all = call_settles m whole one text calls call in
      let slot : ℕ = slot_for what a in
      let ring : ℕ = written.1.ring in
      let within : ring < 33 = written.1.within in
      let named : number slot ≡ next = written_number what next slot (slot_at b.rows slot) written.0 in
      let here : 1 ≤ tally (is next) (map number (slots ring)) =
      subst (λ (k : ℕ). 1 ≤ tally (is k) (map number (slots ring))) named (counts_slot number slot (slots ring) written.1.stands)
      in
      record {
        queue = ring;
        heading = (slot_at b.rows slot).heading;
        lines =
            walked
            ∙ in_one (λ (r : ℕ). picked (new number (line r) next) (slots r)) ring 0 33 (omega arith) (omega (arith, within))
            (λ other low below differ.
            old_none number (line other) next (slots other)
            (λ n among.
            let last = below_next other n (omega arith) among in
            alike n next
            (λ is-it.
            absurd
            (omega (
              arith,
              among,
              here,
              all.once_after next,
              apart_queues b other ring next (omega arith) within differ,
              ap (λ (k : ℕ). tally (is k) (map number (slots other))) is-it,
            )))
            (λ other-number. omega (arith, last, counted_is, same, other-number))))
            ∙ new_one number (line ring) next slot (slots ring) named written.1.stands
            (omega (arith, queue_part b ring next within, all.once_after next))
            (λ n among. omega (arith, below_next ring n within among, counted_is, same))
            ∙ ap (λ (n : ℕ). Queued n ring (slot_at b.rows slot).heading ∷ []) named
            ∙ sym (ap (λ (g : Bool). cond g (Queued next ring (slot_at b.rows slot).heading ∷ []) []) some);
        counted = counted_is;
        stands = λ e. (within, here);
        joins =
            λ label came done.
            let joined = new_joins m whole one text calls call label came done in
            let goal : ℕ = joins_at plan a label in
            let there : 1 ≤ tally (is next) (queue_of b goal) = at_end label joined in
            alike ring goal
            (λ e. e)
            (λ differ.
            absurd
            (omega (arith, there, here, all.once_after next, apart_queues b ring goal next within joined.somewhere differ)));
        made =
            λ draft makes e.
            written_heading draft next slot (slot_at b.rows slot)
            (subst (λ (w : New). Written w next slot (slot_at b.rows slot)) makes written.0);
        unnamed =
            λ size user e.
            user_heading size next slot (slot_at b.rows slot)
            (subst (λ (w : New). Written w next slot (slot_at b.rows slot)) user written.0);
      }
    where
      at_end : (label : Label) → Joins plan label before.areas b → 1 ≤ tally (is next) (queue_of b (joins_at plan a label))
      at_end label joined =
          let goal : ℕ = joins_at plan a label in
          let there = joined.queues goal joined.somewhere in
          let last : joins plan label before.areas goal ≡ next ∷ [] = simp (eq-eqb goal goal refl) in
          omega (
            arith,
            ap (tally (is next)) (there ∙ ap (λ (l : List ℕ). queue_of a goal ++ l) last),
            tally_on (is next) (queue_of a goal) (next ∷ []),
            counts_first next [],
          )

  pub queued_are : QueuedAre plan call before
  queued_are = cases given one_queued none_queued
