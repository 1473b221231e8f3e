-- A slot has the row that it had and is free if it was, or what is new is written there: by nothing, and by a link that goes out.
-- Assumes nothing.
use mathlib.Core.Path.{◌≡◌, refl}
use mathlib.Core.Logic.{◌⊎◌, inl, inr, ⊎_elim}
use mathlib.Core.List.{List}
use Prim.Native.Nat.{ℕ, ◌≤◌, ◌<◌}
use native.Mathlib.Omega.{arith}
use Rattle.plan.specs.declared.data.Plan.{Plan}
use Rattle.area_slots.specs.SlotRows.{slot_at}
use Rattle.replies.specs.Areas.{Areas, Outcome, judged, refused}
use Rattle.queue_heads.specs.Head.{Queues, both}
use Rattle.queue_retiring.specs.Leave.{State, state, retired, dropped}
use Rattle.queue_joining.specs.Queue.{next_of}
use Rattle.changeover_cuts.specs.declared.Cut.{Cut}
use Rattle.changeover_ending.specs.End.{links_out, cleared, ended, out_of_service}
use Rattle.promise_runs.proofs.Outcomes.{RegularIn, if_done_lem}
use Rattle.promise_contents.specs.Made.{New, Written}
use Rattle.promise_contents.proofs.Free.{free_in, Freer, freer_on}
use Rattle.promise_contents.proofs.FreeMoving.{freer_retired, freer_dropped, freer_moved}

-- the queues of areas
abbrev pub queues_in : Areas → Queues
queues_in a = both a.spans a.rings

-- a slot has the row that it had, and is free if it was
abbrev pub StillAt : Queues → Queues → List ℕ → List ℕ → ℕ → Type 0
StillAt before after rows rows' slot = (slot_at rows' slot ≡ slot_at rows slot) × (free_in before slot ≤ free_in after slot)

-- or what is new is written there, with the next number
abbrev pub StaysAt : New → ℕ → Queues → Queues → List ℕ → List ℕ → ℕ → Type 0
StaysAt new next before after rows rows' slot =
    StillAt before after rows rows' slot ⊎ Written new next slot (slot_at rows' slot)

-- every slot does
abbrev pub Stays : New → Areas → Areas → Type 0
Stays new a b = (slot : ℕ) → slot < 256 → StaysAt new (next_of a.arrivals) (queues_in a) (queues_in b) a.rows b.rows slot

-- nothing happens
pub stays_none : (new : New) (a : Areas) → Stays new a a
stays_none new a slot h = inl (refl, omega arith)

-- done, or refused
pub judged_stays : (new : New) (a : Areas) (reply : ℕ) (does : Outcome) → (reply ≡ 0 → Stays new a does.after)
    → Stays new a (judged reply does a).after
judged_stays new a reply does stays =
    if_done_lem (λ (o : Outcome). Stays new a o.after) reply does (refused reply a) stays (stays_none new a)

-- with other queues that have the same slots free
pub stays_freer : (from : ℕ) (new : New) (next : ℕ) (before now after : Queues) (rows rows' octets : List ℕ) → Freer rows' octets from now after
    → ((slot : ℕ) → slot < 256 → StaysAt new next before now rows rows' slot)
    → (slot : ℕ) → slot < 256 → StaysAt new next before after rows rows' slot
stays_freer from new next before now after rows rows' octets freer stays slot h =
    ⊎_elim (λ (still : StillAt before now rows rows' slot). inl (still.0, omega (arith, still.1, freer.free slot)))
    (λ (newer : Written new next slot (slot_at rows' slot)). inr newer)
    (stays slot h)

-- a link goes out: slots leave its ring alone
pub out_freer : (b : Areas) (octets : List ℕ) → RegularIn b octets → (plan : Plan) (link : ℕ) → link < 33 → (parts : Cut)
    → Freer b.rows octets link (queues_in b) (queues_in (out_of_service plan b link parts).after)
unfolding out_of_service ended cleared
out_freer b octets regular plan link h parts =
    let rows : List ℕ = b.rows in
    let start : State = state b.spans b.rings b.reports 0 in
    let left : State = record { queues = retired link parts.retired start.queues; log = start.log } in
    let next : State = dropped rows link 2 parts.dropped left in
    let one = freer_retired rows octets link h parts.retired start.queues regular.store in
    let two = freer_dropped rows octets link h 2 parts.dropped left one.sound in
    let three = freer_moved rows octets plan (links_out b.links link) b.marks link h next two.sound in
    freer_on rows octets link start.queues next.queues _ (freer_on rows octets link start.queues left.queues next.queues one two)
    three

-- so the others stay
pub out_stays : (new : New) (a b : Areas) (octets : List ℕ) → Stays new a b → RegularIn b octets → (plan : Plan) (link : ℕ) → link < 33
    → (parts : Cut) → Stays new a (out_of_service plan b link parts).after
unfolding out_of_service
out_stays new a b octets stays regular plan link h parts =
    stays_freer link new (next_of a.arrivals) (queues_in a) (queues_in b) _ a.rows b.rows octets
    (out_freer b octets regular plan link h parts)
    stays
