-- What the sending of a CBD leaves: all as it was where none is to be sent or it finds no place or number, and the CBD at the end
-- of its queue where it does. Assumes nothing.
use mathlib.Core.Path.{◌≡◌, ◌∙◌}
use mathlib.Core.Bool.{false}
use mathlib.Core.List.{List}
use Prim.Native.Nat.{ℕ, ◌≤◌, ◌<◌}
use lib.Dec.{eqb}
use borrow.Author.Tests.{lt-ltb, le-ltb}
use borrow.Table.Steps.{cases}
use Rattle.plan.specs.declared.data.Plan.{Plan}
use Rattle.wire_messages.specs.declared.management.Message.TheVariants.{CBD}
use Rattle.route_choice.specs.Which.{none}
use Rattle.lookup.specs.Lookup.{slc_of, adjacent_of}
use Rattle.queue_joining.specs.Queue.{management_reply}
use Rattle.queue_joining.proofs.Queued.{ManagementLeaves, management_kept}
use Rattle.management_making.specs.Make.{Held, held}
use Rattle.changeback_pairs.specs.declared.Sources.{Sources}
use Rattle.changeback_service.specs.InService.{declares}
use Rattle.changeback.specs.Service.{declare_reply, declared}

module _ (plan : Plan) (link : ℕ) (from : Sources) (spans rings rows arrivals : List ℕ) where
  -- the reply and the areas are those that it leaves, in the order of the contract
  abbrev pub DeclareLeaves : ℕ → List ℕ → List ℕ → List ℕ → List ℕ → Type 0
  DeclareLeaves reply spans' rings' rows' arrivals' =
      (reply ≡ declare_reply spans arrivals from)
      × (held spans' rings' rows' arrivals' ≡ declared plan link from (held spans rings rows arrivals))

  -- no pair comes from a link of its own set
  pub not_declared : none ≤ from.own → DeclareLeaves 0 spans rings rows arrivals
  unfolding declare_reply declared
  not_declared h = let no = le-ltb from.own none h in (simp no, simp no)

  -- some do, from one
  pub is_declared : from.own < none → (point slc reply : ℕ) (spans' rings' rows' arrivals' : List ℕ)
      → point ≡ adjacent_of plan link → slc ≡ slc_of plan link
      → ManagementLeaves spans rings arrivals rows from.own (CBD from.own) point slc reply spans' rings' rows' arrivals'
      → DeclareLeaves reply spans' rings' rows' arrivals'
  unfolding declare_reply declared
  is_declared h point slc reply spans' rings' rows' arrivals' at coded e =
      let yes = lt-ltb from.own none h in (simp (yes, e.0), e.1 ∙ simp (yes, at, coded))

-- a reply that isn't 0 means that nothing was queued
pub declared_kept : (plan : Plan) (link : ℕ) (from : Sources) (now : Held)
    → eqb (declare_reply now.queues.spans now.arrivals from) 0 ≡ false → declared plan link from now ≡ now
unfolding declare_reply declared
declared_kept plan link from now refused =
    cases (declares from)
    (λ e.
    let lacks : eqb (management_reply now.queues.spans now.arrivals) 0 ≡ false = simp e at refused in
    simp e
    (management_kept from.own (CBD from.own) (adjacent_of plan link) (slc_of plan link) now lacks))
    (λ e. simp e)
