-- What a changeover message asks, put together from what the code finds: the link that it names, that link's record, and what becomes
-- of its queue. Assumes nothing.
use mathlib.Core.Path.{◌≡◌, ap, ◌∙◌}
use mathlib.Core.List.{List}
use Prim.Native.Nat.{ℕ, ◌≤◌, ◌<◌}
use Rattle.plan.specs.declared.data.Plan.{Plan}
use Rattle.area_links.specs.declared.LinkRecord.{LinkRecord}
use Rattle.area_links.specs.LinkRecords.{record_at}
use Rattle.lookup.specs.Lookup.{link_named}
use Rattle.wire_messages.specs.declared.management.Message.TheVariants.{COA}
use Rattle.management_making.specs.declared.Draft.{Draft}
use Rattle.changeover_cuts.specs.declared.Cut.{Cut}
use Rattle.changeover_cuts.specs.Cuts.{cut_at, cut_unknown}
use Rattle.management_steps.specs.declared.Step.{Step}
use Rattle.management_steps.specs.Step.{nothing, draft, order_step, ack_step}
use Rattle.management_steps.proofs.Naming.{names_none, names_one}
use Rattle.management_asking.specs.Ask.{last_received, emergency_of, ask_coo, ask_eco, ask_coa, ask_eca}

-- the link that was found is the one that the message names
module _ (plan : Plan) (point slc link : ℕ) (is : link ≡ link_named plan point slc) where
  module _ (links : List ℕ) where
    abbrev order : (ℕ → Draft) → (LinkRecord → Cut) → ℕ → Step
    order own cuts l = order_step (record_at links l) l (own l) (emergency_of point slc l) (cuts (record_at links l))

    -- a COO or ECO on the link, from its record, its own answer, and what becomes of the queue
    ordered : (own : ℕ → Draft) (cuts : LinkRecord → Cut) (known : LinkRecord) (mine emergency : Draft) (parts : Cut) (step : Step)
        → known ≡ record_at links link → mine ≡ own link → emergency ≡ emergency_of point slc link → parts ≡ cuts known
        → step ≡ order_step known link mine emergency parts → step ≡ order own cuts link
    ordered own cuts known mine emergency parts step loads says eca cut e =
        e
        ∙ ap (λ (d : Draft). order_step known link d emergency parts) says
        ∙ ap (λ (d : Draft). order_step known link (own link) d parts) eca
        ∙ ap (λ (p : Cut). order_step known link (own link) (emergency_of point slc link) p) cut
        ∙ ap (λ (r : LinkRecord). order_step r link (own link) (emergency_of point slc link) (cuts r)) loads

    -- COO
    module _ (arriving fsn f : ℕ) (step : Step) where
      abbrev coa : ℕ → Draft
      coa l = draft (COA (last_received links arriving fsn l)) point slc l

      pub coo_of_none : 32 ≤ link → step ≡ nothing → step ≡ ask_coo plan links arriving fsn point slc f
      unfolding ask_coo
      coo_of_none = names_none link (link_named plan point slc) is (order coa (λ r. cut_at r f)) step

      pub coo_ordered : link < 32 → (known : LinkRecord) (received : ℕ) (emergency : Draft) (parts : Cut)
          → known ≡ record_at links link → received ≡ last_received links arriving fsn link → emergency ≡ emergency_of point slc link
          → parts ≡ cut_at known f → step ≡ order_step known link (draft (COA received) point slc link) emergency parts
          → step ≡ ask_coo plan links arriving fsn point slc f
      unfolding ask_coo
      coo_ordered h known received emergency parts loads last eca cut e =
          names_one link (link_named plan point slc) is (order coa (λ r. cut_at r f)) step h
          (ordered coa (λ r. cut_at r f) known (draft (COA received) point slc link) emergency parts step loads
          (ap (λ (n : ℕ). draft (COA n) point slc link) last) eca cut e)

    -- ECO
    module _ (step : Step) where
      pub eco_of_none : 32 ≤ link → step ≡ nothing → step ≡ ask_eco plan links point slc
      unfolding ask_eco
      eco_of_none = names_none link (link_named plan point slc) is (order (emergency_of point slc) cut_unknown) step

      pub eco_ordered : link < 32 → (known : LinkRecord) (emergency : Draft) (parts : Cut)
          → known ≡ record_at links link → emergency ≡ emergency_of point slc link → parts ≡ cut_unknown known
          → step ≡ order_step known link emergency emergency parts → step ≡ ask_eco plan links point slc
      unfolding ask_eco
      eco_ordered h known emergency parts loads eca cut e =
          names_one link (link_named plan point slc) is (order (emergency_of point slc) cut_unknown) step h
          (ordered (emergency_of point slc) cut_unknown known emergency emergency parts step loads eca eca cut e)

    -- COA and ECA
    module _ (known : LinkRecord) (loads : known ≡ record_at links link) (parts : Cut) (step : Step) (e : step ≡ ack_step link known parts) where
      acked : (cuts : LinkRecord → Cut) → parts ≡ cuts known
          → step ≡ ack_step (link_named plan point slc) (record_at links (link_named plan point slc)) (cuts (record_at links (link_named plan point slc)))
      acked cuts cut =
          e
          ∙ ap (λ (p : Cut). ack_step link known p) cut
          ∙ ap (λ (r : LinkRecord). ack_step link r (cuts r)) loads
          ∙ ap (λ (l : ℕ). ack_step l (record_at links l) (cuts (record_at links l))) is

      pub coa_acked : (f : ℕ) → parts ≡ cut_at known f → step ≡ ask_coa plan links point slc f
      unfolding ask_coa
      coa_acked f = acked (λ r. cut_at r f)

      pub eca_acked : parts ≡ cut_unknown known → step ≡ ask_eca plan links point slc
      unfolding ask_eca
      eca_acked = acked cut_unknown
