-- The links with the link open stand for those after it has come into service. Assumes nothing.
use mathlib.Core.Path.{◌≡◌, ap, ◌∙◌}
use mathlib.Core.Bool.{false}
use mathlib.Core.List.{List}
use Prim.Native.Nat.{ℕ}
use Rattle.plan.specs.declared.data.Plan.{Plan}
use Rattle.area_links.specs.declared.LinkRecord.{LinkRecord}
use Rattle.area_links.specs.LinkRecords.{with_record}
use Rattle.changeback_pairs.specs.declared.Sources.{Sources}
use Rattle.changeback_pairs.specs.Pairs.{sources_of}
use Rattle.changeback_service.specs.InService.{in_service_record, sources_in}

pub sources_stored : (plan : Plan) (links marks : List ℕ) (link : ℕ) (known : LinkRecord) (after : List ℕ) (from : Sources)
    → known ≡ in_service_record 2 false 0 → after ≡ with_record links link known → from ≡ sources_of plan links after marks link
    → from ≡ sources_in plan links marks link
unfolding sources_in
sources_stored plan links marks link known after from is stored found =
    found
    ∙ ap (λ (l : List ℕ). sources_of plan links l marks link) (stored ∙ ap (λ (r : LinkRecord). with_record links link r) is)
