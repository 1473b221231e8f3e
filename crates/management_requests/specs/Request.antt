-- What is only answered: CBD and RST.
use Rattle.std.specs.Prelude.{ℕ, Bool, cond, not, ◌&&◌, List, eqb, ltb}
use Rattle.constants.specs.Constants.{no_link}
use Rattle.plan.specs.declared.data.Plan.{Plan}
use Rattle.plan.specs.Find.{place_of, is_found}
use Rattle.lookup.specs.Lookup.{link_named, set_to}
use Rattle.route_access.specs.Change.{is_accessible}
use Rattle.route_current.specs.Current.{current_set}
use Rattle.wire_messages.specs.declared.management.Message.TheVariants.{CBA, TFA}
use Rattle.management_steps.specs.declared.Step.{Step}
use Rattle.management_steps.specs.Step.{nothing, draft, answer}

-- "CBD is answered with CBA, same code, in any state." (R156, R157)
unfoldable pub ask_cbd : Plan → ℕ → ℕ → ℕ → Step
ask_cbd plan point slc code = cond (ltb (link_named plan point slc) no_link) (answer (draft (CBA code) point slc no_link)) nothing

-- "RST about X from an adjacent point is answered with TFA if X is configured and accessible and its current set isn't the
-- asker's, else 11." (R154, R155)
unfoldable pub allows : Plan → List ℕ → List ℕ → ℕ → ℕ → Bool
allows plan links marks point x =
    ltb (set_to plan point) 8
    && (is_found plan x
    && (is_accessible plan links marks (place_of plan x) && not (eqb (current_set plan links marks (place_of plan x)) (set_to plan point))))

-- the TFA goes back with SLC 0 (R7, R87)
unfoldable pub ask_rst : Plan → List ℕ → List ℕ → ℕ → ℕ → Step
ask_rst plan links marks point x = cond (allows plan links marks point x) (answer (draft (TFA x) point 0 no_link)) nothing
