-- What `changeover_ending::end_service` tells of each area makes up the outcome of a link that goes out.
-- Assumes nothing.
use mathlib.Core.Path.{◌≡◌, ap, ◌∙◌}
use mathlib.Core.List.{List}
use Prim.Native.Nat.{ℕ}
use Rattle.plan.specs.declared.data.Plan.{Plan}
use Rattle.replies.specs.declared.Answer.{Answer}
use Rattle.replies.specs.Reply.{done}
use Rattle.replies.specs.Areas.{Areas, areas, Outcome, outcome}
use Rattle.queue_retiring.specs.Leave.{State, state}
use Rattle.changeover_cuts.specs.declared.Cut.{Cut}
use Rattle.changeover_ending.specs.End.{links_out, ended, out_of_service}

module _ (plan : Plan) (a : Areas) (link : ℕ) (parts : Cut) where
  -- the count of reports and the areas are those that a link's end leaves, in the order of the contract
  abbrev pub EndLeaves : ℕ → List ℕ → List ℕ → List ℕ → List ℕ → Type 0
  EndLeaves count reports links spans rings =
      (state spans rings reports count
      ≡ ended plan a.links a.marks a.rows link parts (state a.spans a.rings a.reports 0))
      × (links ≡ links_out a.links link)

  pub parts_whole : (count : ℕ) (reports links spans rings : List ℕ) → EndLeaves count reports links spans rings
      → outcome (done count) (areas links a.marks spans rings a.rows a.arrivals reports) ≡ out_of_service plan a link parts
  unfolding out_of_service
  parts_whole count reports links spans rings left =
      let all : State → List ℕ → Outcome =
      λ s l. outcome (done s.log.count) (areas l a.marks s.queues.spans s.queues.rings a.rows a.arrivals s.log.area)
      in
      ap (λ (s : State). all s links) left.0 ∙ ap (all (ended plan a.links a.marks a.rows link parts (state a.spans a.rings a.reports 0))) left.1

  -- by the answer, and by what is meant to become of the queue
  pub out_whole : (count : ℕ) (reports links spans rings : List ℕ) → EndLeaves count reports links spans rings
      → (answer : Answer) → answer ≡ done count → (meant : Cut) → parts ≡ meant
      → outcome answer (areas links a.marks spans rings a.rows a.arrivals reports) ≡ out_of_service plan a link meant
  out_whole count reports links spans rings left answer says meant same =
      ap (λ (r : Answer). outcome r (areas links a.marks spans rings a.rows a.arrivals reports)) says
      ∙ parts_whole count reports links spans rings left
      ∙ ap (λ (p : Cut). out_of_service plan a link p) same
