-- What the making of a message leaves: all as it was where it has no path, and the message queued on its path where it has one.
-- Assumes nothing.
use mathlib.Core.Path.{◌≡◌, refl, sym, ap, ◌∙◌}
use mathlib.Core.Bool.{Bool, true, false}
use mathlib.Core.List.{List}
use Prim.Native.Nat.{ℕ, ◌≤◌, ◌<◌}
use Rattle.std.specs.Prelude.{Result, Ok, Err}
use Rattle.std.specs.Result.{result_unwrap_or}
use lib.Dec.{eqb, ltb}
use borrow.Author.Tests.{lt-ltb, le-ltb}
use borrow.Table.Steps.{cases}
use Rattle.plan.specs.declared.data.Plan.{Plan}
use Rattle.route_serving.specs.declared.Need.{Need}
use Rattle.route_ways.specs.Way.{for_management, way_of}
use Rattle.replies.specs.declared.Refusal.{Refusal}
use Rattle.replies.specs.Reply.{number, number_of, refusal_of, holding, decided}
use Rattle.queue_joining.specs.Queue.{management_reply}
use Rattle.queue_joining.proofs.Queued.{ManagementLeaves, management_kept}
use Rattle.management_making.specs.declared.Draft.{Draft}
use Rattle.management_making.specs.Make.{Held, held, path_of, has_path, reply_of, is_made, outcome, made}

module _ (plan : Plan) (links marks : List ℕ) (draft : Draft) (spans rings rows arrivals : List ℕ) where
  -- the answer and the areas are those that the making leaves, in the order of the contract
  abbrev pub MakeLeaves : Result Bool Refusal → List ℕ → List ℕ → List ℕ → List ℕ → Type 0
  MakeLeaves answer spans' rings' rows' arrivals' =
      (answer ≡ outcome plan links marks spans arrivals draft)
      × (number_of answer ≡ reply_of plan links marks spans arrivals draft)
      × (held spans' rings' rows' arrivals' ≡ made plan links marks draft (held spans rings rows arrivals))

  module _ (path : ℕ) (is : path ≡ path_of plan links marks draft) where
    found : {said : Bool} → ltb path 32 ≡ said → has_path plan links marks draft ≡ said
    found e = sym (ap (λ (p : ℕ). ltb p 32) is) ∙ e

    -- with no path it isn't made
    pub not_made : 32 ≤ path → MakeLeaves (Ok false) spans rings rows arrivals
    unfolding reply_of is_made made refusal_of
    not_made h = let none = found (le-ltb path 32 h) in (simp none, simp none, simp none)

    module _ (h : path < 32) (told : Result Unit Refusal) (spans' rings' rows' arrivals' : List ℕ)
        (e : ManagementLeaves spans rings arrivals rows path draft.message draft.point draft.slc (number_of told) spans' rings' rows' arrivals') where
      -- with one it is queued there
      pub is_queued : told ≡ Ok tt → MakeLeaves (Ok true) spans' rings' rows' arrivals'
      unfolding reply_of is_made made refusal_of
      is_queued taken =
          let there = found (lt-ltb path 32 h) in
          let none : management_reply spans arrivals ≡ 0 = sym e.0 ∙ ap number_of taken in
          (simp (there, none), simp (there, none), e.1 ∙ simp (there, is))

      -- unless it finds no place or number there
      pub is_refused : told ≡ refusal_of (management_reply spans arrivals) → (refusal : Refusal) → told ≡ Err refusal
          → MakeLeaves (Err refusal) spans' rings' rows' arrivals'
      unfolding reply_of is_made made
      is_refused says refusal lacks =
          let there = found (lt-ltb path 32 h) in
          let so : refusal_of (management_reply spans arrivals) ≡ Err refusal = sym says ∙ lacks in
          let numbered : number_of told ≡ number refusal = ap number_of lacks in
          (simp (there, so), sym numbered ∙ e.0 ∙ simp there, e.1 ∙ simp (there, is))

-- the way that the code finds is the path
pub path_is : (plan : Plan) (links marks : List ℕ) (draft : Draft) (need : Need) → need ≡ for_management draft.never
    → (path : ℕ) → path ≡ way_of plan links marks need draft.point draft.slc → path ≡ path_of plan links marks draft
unfolding path_of
path_is plan links marks draft need is path e =
    e ∙ ap (λ (n : Need). way_of plan links marks n draft.point draft.slc) is

-- a reply that isn't 0 means that nothing was made
pub refused_kept : (plan : Plan) (links marks : List ℕ) (draft : Draft) (now : Held)
    → eqb (reply_of plan links marks now.queues.spans now.arrivals draft) 0 ≡ false → made plan links marks draft now ≡ now
unfolding reply_of made
refused_kept plan links marks draft now refused =
    cases (has_path plan links marks draft)
    (λ e.
    let lacks : eqb (management_reply now.queues.spans now.arrivals) 0 ≡ false = simp e at refused in
    simp e
    (management_kept (path_of plan links marks draft) draft.message draft.point draft.slc now lacks))
    (λ e. simp e)

-- what is taken for made is what was made: a message that is refused isn't
refused_unmade : (said : Bool) (told : Result Unit Refusal) → said ≡ false → result_unwrap_or (holding said told) false ≡ false
refused_unmade said (Ok tt) e = e
refused_unmade said (Err refusal) e = refl

made_by : (reply : ℕ) (said : Bool) → eqb reply 0 ≡ said → result_unwrap_or (decided reply said) false ≡ said
unfolding refusal_of
made_by reply true e = simp e
made_by reply false e = refused_unmade false (refusal_of reply) refl

pub told_made : (plan : Plan) (links marks : List ℕ) (draft : Draft) (spans arrivals : List ℕ)
    → result_unwrap_or (outcome plan links marks spans arrivals draft) false ≡ is_made plan links marks spans arrivals draft
unfolding reply_of is_made
told_made plan links marks draft spans arrivals =
    cases (has_path plan links marks draft)
    (λ e. simp e (made_by (management_reply spans arrivals) (eqb (management_reply spans arrivals) 0) refl))
    (λ e. simp e (refused_unmade false (refusal_of 0) refl))
