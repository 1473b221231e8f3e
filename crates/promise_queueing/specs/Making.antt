-- The queue that a message which the node makes joins: "But for CBD when first queued, management messages the node makes use open links only,
-- by the same rule for their DPC, with the SLC as SLS (0 for TFP, TFA, RST)." (R84, R85, R86, R87)
use Rattle.std.specs.Prelude.{ℕ, ◌+◌, ◌<◌, ◌≡◌, Bool, true, cond, ◌&&◌, List, [], ◌∷◌, ◌++◌, eqb}
use Rattle.constants.specs.Constants.{no_link}
use Rattle.plan.specs.declared.data.Plan.{Plan}
use Rattle.plan.specs.Find.{given, place_of, is_found}
use Rattle.wire_messages.specs.declared.management.Message.{Message}
use Rattle.wire_messages.specs.declared.management.Message.TheVariants.{COO, COA, CBD, CBA, ECO, ECA, TFP, TFA, RST}
use Rattle.route_serving.specs.State.{is_open, is_marked}
use Rattle.route_choice.specs.Which.{chosen}
use Rattle.route_ways.specs.Way.{current_link}
use Rattle.lookup.specs.Lookup.{set_of}
use Rattle.replies.specs.Areas.{Areas}
use Rattle.queue_store.specs.Sound.{bit}
use Rattle.queue_joining.specs.Queue.{next_of}
use Rattle.management_making.specs.declared.Draft.{Draft}
use Rattle.promise_accounts.specs.Gone.{queue_of}

-- the link that the rule gives for a DPC and an SLS where only open links serve (R84, R85)
unfoldable pub open_path : Plan → List ℕ → List ℕ → ℕ → ℕ → ℕ
open_path plan links marks point sls =
    cond (is_found plan point) (chosen (is_open links) (is_marked marks (place_of plan point)) plan (place_of plan point) sls) no_link

-- the queue that a message joins, by what it is, its DPC and its SLC, and the link that there is for a DPC and an SLS: a CBD that of the link whose
-- number is its code (R94), every other that of its path, "with the SLC as SLS (0 for TFP, TFA, RST)" (R86, R87)
unfoldable pub path_by : (ℕ → ℕ → ℕ) → Message → ℕ → ℕ → ℕ
path_by linkTo (CBD code) point slc = code
path_by linkTo (COO fsn) point slc = linkTo point slc
path_by linkTo (COA fsn) point slc = linkTo point slc
path_by linkTo (CBA code) point slc = linkTo point slc
path_by linkTo ECO point slc = linkTo point slc
path_by linkTo ECA point slc = linkTo point slc
path_by linkTo (TFP x) point slc = linkTo point 0
path_by linkTo (TFA x) point slc = linkTo point 0
path_by linkTo (RST x) point slc = linkTo point 0

-- the links are those that the call leaves, so that one that fails by it isn't open, nor one that goes out behind its COA or ECA (R132)
abbrev pub path_for : Plan → Areas → Areas → Draft → ℕ
path_for plan before after draft = path_by (open_path plan after.links before.marks) draft.message draft.point draft.slc

-- what is new at the end of a queue: the message that is made, by the next arrival number, on the queue that it joins, and nothing on any other
unfoldable pub joins_made : Plan → Draft → Bool → Areas → Areas → ℕ → List ℕ
joins_made plan draft made before after ring =
    cond (made && eqb ring (path_for plan before after draft)) (next_of before.arrivals ∷ []) []

-- a call makes a message, or doesn't (R111, R123, R128, R146, R154, R156)
pub record MadeJoins (plan : Plan) (draft : Draft) (made : Bool) (before after : Areas) : Type 0 where
  -- "With no such path the message isn't made." (R88)
  pub finds_path : made ≡ true → path_for plan before after draft < 32
  -- it stands at the end of that queue, and every other is as it was
  pub queues : (ring : ℕ) → ring < 33 → queue_of after ring ≡ queue_of before ring ++ joins_made plan draft made before after ring
  -- "gets an arrival number counted up from 0" (R20): the next number is one more
  pub counted : next_of after.arrivals ≡ next_of before.arrivals + bit made

-- "some pair's current link becomes this link from another, M" (R92)
pub record ComesFrom (plan : Plan) (before after : Areas) (link m : ℕ) : Type 0 where
  pub destination : ℕ
  pub sls : ℕ
  pub a_destination : destination < given plan
  pub an_sls : sls < 16
  pub was_on : current_link plan before.links before.marks destination sls ≡ m
  pub is_on : current_link plan after.links after.marks destination sls ≡ link
  pub a_link : m < no_link
  pub another : m ≡ link → ⊥

-- "for each such M in its own set a CBD is put at the end of M's queue, the code being M's link number" (R93, R94), and for no other
pub record DeclaresTo (plan : Plan) (link : ℕ) (draft : Draft) (made : Bool) (before after : Areas) : Type 0 where
  pub each : (m : ℕ) → ComesFrom plan before after link m → set_of plan m ≡ set_of plan link → (made ≡ true) × (draft.message ≡ CBD m)
  pub no_other : made ≡ true → (m : ℕ) × ComesFrom plan before after link m × (set_of plan m ≡ set_of plan link) × (draft.message ≡ CBD m)
