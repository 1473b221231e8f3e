-- What the steps of a link's end leave, put together: its queue cleared, the link out, and the reports at the end.
-- Assumes nothing.
use mathlib.Core.Path.{◌≡◌, refl, ap, ◌∙◌}
use mathlib.Core.Bool.{Bool, false}
use mathlib.Core.List.{List}
use Prim.Native.Nat.{ℕ}
use lib.ListN.{get_or}
use Rattle.plan.specs.declared.data.Plan.{Plan}
use Rattle.area_links.specs.declared.LinkRecord.{LinkRecord}
use Rattle.area_links.specs.LinkRecords.{record_at, with_record}
use Rattle.route_access.specs.Change.{is_accessible, accesses_of, changes_told}
use Rattle.route_access.proofs.Filled.{says_each}
use Rattle.route_access.proofs.Same.{told_same}
use Rattle.queue_heads.specs.Head.{Queues, both}
use Rattle.queue_retiring.specs.Leave.{State, state, retired, dropped}
use Rattle.queue_retiring.proofs.States.{state_whole}
use Rattle.queue_moving.specs.Move.{moved_all}
use Rattle.changeover_cuts.specs.declared.Cut.{Cut}
use Rattle.changeover_cuts.specs.Cuts.{out_of}
use Rattle.changeover_ending.specs.End.{links_out, cleared, ended}

-- a queue whose first are retired and next dropped is cleared by a move of the rest
pub clear_done : (plan : Plan) (links marks rows : List ℕ) (link : ℕ) (parts : Cut) (now : State) (spans rings : List ℕ)
    → both spans rings ≡ retired link parts.retired now.queues
    → (spans' rings' area' : List ℕ) (count' : ℕ)
    → state spans' rings' area' count'
    ≡ dropped rows link 2 parts.dropped (state spans rings now.log.area now.log.count)
    → moved_all plan links marks rows link (state spans' rings' area' count')
    ≡ cleared plan links marks rows link parts now
unfolding cleared
clear_done plan links marks rows link parts now spans rings first spans' rings' area' count' next =
    ap (moved_all plan links marks rows link) next
    ∙ ap
    (λ (q : Queues).
    moved_all plan links marks rows link
    (dropped rows link 2 parts.dropped (record { queues = q; log = now.log })))
    first

-- the record that was loaded is stored as that of a link that is out
pub link_out : (links : List ℕ) (link : ℕ) (known : LinkRecord) → known ≡ record_at links link → (next : LinkRecord)
    → next ≡ out_of known → (after : List ℕ) → after ≡ with_record links link next → after ≡ links_out links link
unfolding links_out
link_out links link known loaded next made after stored =
    stored
    ∙ ap (λ (r : LinkRecord). with_record links link r) made
    ∙ ap (λ (r : LinkRecord). with_record links link (out_of r)) loaded

-- the link is out, what was accessible before is noted, and its queue cleared
module _
    (plan : Plan)
    (links marks rows : List ℕ)
    (link : ℕ)
    (parts : Cut)
    (now : State)
    (after : List ℕ)
    (out : after ≡ links_out links link)
    (table : List Bool)
    (noted : table ≡ accesses_of plan links marks)
    (spans rings area : List ℕ)
    (count : ℕ)
    (are : state spans rings area count ≡ cleared plan after marks rows link parts now) where
  -- the state with what is told of access, between two points of time
  abbrev tells : (ℕ → Bool) → (ℕ → Bool) → State → State
  tells before then s = record { queues = s.queues; log = changes_told plan before then s.log }

  clear_all : state spans rings area count ≡ cleared plan (links_out links link) marks rows link parts now
  clear_all = are ∙ ap (λ (l : List ℕ). cleared plan l marks rows link parts now) out

  -- what is told of access is told after the drops, against what was noted
  told_last : tells (λ (d : ℕ). get_or table d false) (is_accessible plan after marks) (state spans rings area count)
      ≡ ended plan links marks rows link parts now
  unfolding ended
  told_last =
      let cleared-now = state spans rings area count in
      ap (λ (w : _). record { queues = both spans rings; log = w })
      (told_same plan (λ (d : ℕ). get_or table d false) (is_accessible plan links marks) (is_accessible plan after marks)
      (is_accessible plan after marks) cleared-now.log (says_each plan links marks table noted) (λ d h. refl))
      ∙ ap (λ (l : List ℕ). tells (is_accessible plan links marks) (is_accessible plan l marks) cleared-now) out
      ∙ ap (tells (is_accessible plan links marks) (is_accessible plan (links_out links link) marks)) clear_all

  pub end_done : (area' : List ℕ) (count' : ℕ)
      → (let then = tells (λ (d : ℕ). get_or table d false) (is_accessible plan after marks) (state spans rings area count) in
      (count' ≡ then.log.count) × (area' ≡ then.log.area))
      → state spans rings area' count' ≡ ended plan links marks rows link parts now
  end_done area' count' told = state_whole spans rings area' count' told_last refl told.1 told.0
