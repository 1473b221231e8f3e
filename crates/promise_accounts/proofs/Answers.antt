-- A message that is queued has the next number, at the end of its queue, and one that the node makes at the end of its path's. So has the
-- answer to a management message: the areas stay regular, and all that was queued stays before it.
-- Assumes nothing.
use mathlib.Core.Path.{◌≡◌, refl, sym, ap, ◌∙◌}
use mathlib.Core.Bool.{Bool, true, false, cond, ◌&&◌, and-eq-true_iff}
use mathlib.Core.List.{List, [], ◌∷◌, ◌++◌, append-nil}
use Prim.Native.Nat.{ℕ, ◌≤◌, ◌<◌}
use native.Mathlib.Omega.{arith}
use lib.Dec.{eqb, ltb}
use lib.ListN.{take}
use borrow.Author.Tests.{ltb-true, eqb-true, eqb-false, ne_eqb}
use borrow.Table.Steps.{cases}
use Rattle.plan.specs.declared.data.Plan.{Plan}
use Rattle.area_slots.specs.SlotRows.{with_slot}
use Rattle.area_slots.specs.declared.Slot.{Slot}
use Rattle.queue_rings.specs.Ring.{count_of}
use Rattle.queue_slots.specs.Message.{management_rows}
use Rattle.queue_slots.specs.Message as Message
use Rattle.queue_slots.proofs.ReadBack.{management_read}
use Rattle.queue_store.specs.Sound.{Sound}
use Rattle.wire_messages.specs.Management.{heading_of, field_of}
use Rattle.replies.specs.Areas.{Areas}
use Rattle.route_choice.specs.Which.{none}
use Rattle.queue_heads.specs.Head.{Queues, both, head_of, moved}
use Rattle.queue_joining.specs.Queue.{next_of, management_reply, management_queues, rows_with_management, with_management}
use Rattle.management_making.specs.declared.Draft.{Draft}
use Rattle.management_making.specs.Make.{Held, path_of, has_path, is_made, made, held_in, with_held, with_made}
use Rattle.management_steps.specs.declared.Step.{Step}
use Rattle.management_orders.specs.Carry.{with_answer}
use Rattle.promise_runs.proofs.Outcomes.{RegularIn, by_test}
use Rattle.promise_runs.proofs.KeepsMaking.{made_regular}
use Rattle.promise_ledger.specs.Held.{arrival_of, numbers}
use Rattle.promise_ledger.proofs.Free.{slot_below}
use Rattle.promise_ledger.proofs.Joined.{arrival_other, management_found}
use Rattle.promise_ledger.proofs.Behind.{joined_there, joined_other, management_other}
use Rattle.promise_accounts.specs.Gone.{queue_of}
use Rattle.promise_accounts.proofs.Never.{way_never}
use Rattle.promise_accounts.proofs.EvenMaking.{joined, made_more, made_before}

-- what holds of a message and of what is new by it, by a test that it is queued by, and whether it is there
by_answer : {A : Type 0} (P : A → List ℕ → Type 0) (answers made there : Bool) (with without : A) (new : List ℕ)
    → (answers ≡ true → P with (cond (made && there) new []))
    → P without []
    → P (cond answers with without) (cond ((answers && made) && there) new [])
by_answer P true made there with without new p q = p refl
by_answer P false made there with without new p q = q

-- nothing is new where the tests exclude each other
pub none_there : (made there : Bool) (new : List ℕ) → (made ≡ true → there ≡ false) → cond (made && there) new [] ≡ []
none_there true there new other = ap (λ (t : Bool). cond t new []) (other refl)
none_there false there new other = refl

-- a slot that was free is put at the end of a queue, with a row that has a number: that queue has the number behind what it had
module _
    (rows octets : List ℕ)
    (queues : Queues)
    (sound : Sound queues.spans queues.rings rows octets)
    (free : ℕ)
    (found : (head_of queues free).found ≡ true)
    (empty : 33 ≤ free)
    (after : List ℕ)
    (others : (other : ℕ) → (other ≡ (head_of queues free).slot → ⊥) → arrival_of after other ≡ arrival_of rows other)
    (next : ℕ)
    (number : arrival_of after (head_of queues free).slot ≡ next)
    (to : ℕ)
    (h : to < 33) where
  pub joined_each : (ring : ℕ) → ring < 33
      → numbers after (moved queues free to) ring ≡ numbers rows queues ring ++ cond (eqb ring to) (next ∷ []) []
  joined_each ring l =
      cases (eqb ring to)
      (λ e.
      let same = eqb-true ring to e in
      simp e
      (ap (numbers after (moved queues free to)) same
      ∙ joined_there rows octets queues sound free found empty after others to h
      ∙ ap (λ (n : ℕ). numbers rows queues to ++ (n ∷ [])) number
      ∙ ap (λ (r : ℕ). numbers rows queues r ++ (next ∷ [])) (sym same)))
      (λ e.
      simp e
      (joined_other rows octets queues sound free found empty after others to h ring l (eqb-false ring to e)
      ∙ sym (append-nil (numbers rows queues ring))))

-- a management message that is queued has the next number, at the end of its queue; one that finds no place or number leaves every queue
module _
    (rows octets : List ℕ)
    (queues : Queues)
    (sound : Sound queues.spans queues.rings rows octets)
    (arrivals : List ℕ)
    (to : ℕ)
    (h : to < 33)
    (heading point slc field : ℕ) where
  abbrev slot : ℕ
  slot = (head_of queues 34).slot

  abbrev row : Slot
  row = Message.management_row (next_of arrivals) heading point slc field

  pub management_joins : (ring : ℕ) → ring < 33
      → numbers (rows_with_management queues arrivals rows heading point slc field) (management_queues queues arrivals to) ring
      ≡ numbers rows queues ring ++ cond (eqb (management_reply queues.spans arrivals) 0 && eqb ring to) (next_of arrivals ∷ []) []
  unfolding management_queues rows_with_management management_rows
  management_joins ring l =
      let reply = management_reply queues.spans arrivals in
      cases (eqb reply 0)
      (λ e.
      let found = management_found (λ n. true) rows octets queues sound arrivals (eqb-true reply 0 e) in
      let number =
      ap (λ (s : Slot). s.arrival)
      (management_read rows slot (next_of arrivals) heading point slc field sound.rows_long (slot_below rows octets queues sound 34 found))
      in
      simp e
      (joined_each rows octets queues sound 34 found (omega arith) (with_slot rows slot row) (arrival_other rows slot row) (next_of arrivals) number to h
      ring
      l))
      (λ e. simp (e, append-nil (numbers rows queues ring)))

-- a message that is made joins the queue of its path, with the next number, where it finds a place and a number
module _ (a : Areas) (octets : List ℕ) (sound : Sound a.spans a.rings a.rows octets) (plan : Plan) (draft : Draft) where
  pub made_joined : (ring : ℕ) → ring < 33
      → queue_of (with_made plan draft a) ring
      ≡ queue_of a ring
      ++ cond
      (is_made plan a.links a.marks a.spans a.arrivals draft && eqb ring (path_of plan a.links a.marks draft))
      (next_of a.arrivals ∷ [])
      []
  unfolding made is_made
  made_joined ring l =
      let path = path_of plan a.links a.marks draft in
      by_answer (λ (now : Held) (new : List ℕ). queue_of (with_held a now) ring ≡ queue_of a ring ++ new)
      (has_path plan a.links a.marks draft)
      (eqb (management_reply a.spans a.arrivals) 0)
      (eqb ring path)
      (with_management path draft.message draft.point draft.slc (held_in a))
      (held_in a)
      (next_of a.arrivals ∷ [])
      (λ e.
      let within = ltb-true path none e in
      management_joins a.rows octets (both a.spans a.rings) sound a.arrivals path (omega arith)
      (heading_of draft.message)
      draft.point
      draft.slc
      (field_of draft.message)
      ring
      l)
      (sym (append-nil (queue_of a ring)))

-- the links, the flags and the reports are as they were, whatever the areas
module _ (a : Areas) (plan : Plan) (step : Step) where
  pub left_links : (with_answer plan step a).links ≡ a.links
  unfolding with_answer
  left_links = by_test (λ (b : Areas). b.links ≡ a.links) step.answers (with_made plan step.draft a) a (λ e. refl) (λ e. refl)

  pub left_marks : (with_answer plan step a).marks ≡ a.marks
  unfolding with_answer
  left_marks = by_test (λ (b : Areas). b.marks ≡ a.marks) step.answers (with_made plan step.draft a) a (λ e. refl) (λ e. refl)

  pub left_reports : (with_answer plan step a).reports ≡ a.reports
  unfolding with_answer
  left_reports = by_test (λ (b : Areas). b.reports ≡ a.reports) step.answers (with_made plan step.draft a) a (λ e. refl) (λ e. refl)

module _ (a : Areas) (octets : List ℕ) (regular : RegularIn a octets) (plan : Plan) (step : Step) where
  -- the areas with the answer queued
  abbrev answered : Areas
  answered = with_answer plan step a

  pub answer_regular : RegularIn answered octets
  unfolding with_answer
  answer_regular =
      by_test (λ (b : Areas). RegularIn b octets) step.answers (with_made plan step.draft a) a
      (λ e. made_regular a octets regular plan step.draft)
      (λ e. regular)

  pub answer_more : (link : ℕ) → link < 32 → count_of a.spans link ≤ count_of answered.spans link
  unfolding with_answer
  answer_more link h =
      by_test (λ (b : Areas). count_of a.spans link ≤ count_of b.spans link) step.answers (with_made plan step.draft a) a
      (λ e. made_more a octets regular plan step.draft link h)
      (λ e. omega arith)

  pub answer_before : (link many : ℕ) → link < 33 → many ≤ count_of a.spans link
      → take many (queue_of answered link) ≡ take many (queue_of a link)
  unfolding with_answer
  answer_before link many h fits =
      by_test (λ (b : Areas). take many (queue_of b link) ≡ take many (queue_of a link)) step.answers (with_made plan step.draft a) a
      (λ e. made_before a octets regular plan step.draft link many h fits)
      (λ e. refl)

  pub answer_reports : answered.reports ≡ a.reports
  answer_reports = left_reports a plan step

  -- every queue has what it had, with the answer behind it if it is that of the answer's path
  pub answer_joined : (link : ℕ) → link < 33
      → queue_of answered link
      ≡ queue_of a link
      ++ cond
      ((step.answers && is_made plan a.links a.marks a.spans a.arrivals step.draft)
      && eqb link (path_of plan a.links a.marks step.draft))
      (next_of a.arrivals ∷ [])
      []
  unfolding with_answer
  answer_joined link h =
      by_answer (λ (b : Areas) (new : List ℕ). queue_of b link ≡ queue_of a link ++ new) step.answers
      (is_made plan a.links a.marks a.spans a.arrivals step.draft)
      (eqb link (path_of plan a.links a.marks step.draft))
      (with_made plan step.draft a)
      a
      (next_of a.arrivals ∷ [])
      (λ e. made_joined a octets regular.store plan step.draft link h)
      (sym (append-nil (queue_of a link)))

  -- no link is past the 32, so the answer isn't held apart
  pub answer_apart : cond
      ((step.answers && is_made plan a.links a.marks a.spans a.arrivals step.draft)
      && eqb 32 (path_of plan a.links a.marks step.draft))
      (next_of a.arrivals ∷ [])
      []
      ≡ []
  unfolding is_made
  answer_apart =
      let path = path_of plan a.links a.marks step.draft in
      let placed = eqb (management_reply a.spans a.arrivals) 0 in
      none_there (step.answers && (ltb path none && placed)) (eqb 32 path) (next_of a.arrivals ∷ [])
      (λ made.
      let has = ((and-eq-true_iff (ltb path none) placed).0 ((and-eq-true_iff step.answers (ltb path none && placed)).0 made).1).0 in
      let within = ltb-true path none has in
      ne_eqb 32 path (λ same. omega arith))

  -- and that of the link which the answer never uses is as it was
  made_never : (link : ℕ) → link < 32 → step.draft.never ≡ link → queue_of (with_made plan step.draft a) link ≡ queue_of a link
  unfolding made path_of
  made_never link h never =
      let path = path_of plan a.links a.marks step.draft in
      by_test (λ (now : Held). queue_of (with_held a now) link ≡ queue_of a link) (has_path plan a.links a.marks step.draft)
      (joined a octets regular path (heading_of step.draft.message) step.draft.point step.draft.slc (field_of step.draft.message))
      (held_in a)
      (λ e.
      let within = ltb-true path none e in
      management_other a.rows octets (both a.spans a.rings) regular.store a.arrivals path (omega arith)
      (heading_of step.draft.message)
      step.draft.point
      step.draft.slc
      (field_of step.draft.message)
      link
      (omega arith)
      (λ same.
      way_never plan a.links a.marks step.draft.never step.draft.point step.draft.slc within (sym same ∙ sym never)))
      (λ e. refl)

  pub answer_never : (link : ℕ) → link < 32 → (step.answers ≡ true → step.draft.never ≡ link)
      → queue_of answered link ≡ queue_of a link
  unfolding with_answer
  answer_never link h never =
      by_test (λ (b : Areas). queue_of b link ≡ queue_of a link) step.answers (with_made plan step.draft a) a
      (λ e. made_never link h (never e))
      (λ e. refl)
