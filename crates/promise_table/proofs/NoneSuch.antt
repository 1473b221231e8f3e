-- A message names no link exactly if no link of the text's plan is one to its adjacent point with its SLC. Assumes nothing.
use Prim.Native.Nat.{ℕ, ◌<◌}
use mathlib.Core.Bool.{true, not, ◌&&◌, true≢false, and-eq-true_iff}
use mathlib.Core.List.{List}
use mathlib.Core.Logic.{◌↔◌}
use mathlib.Core.Path.{◌≡◌, refl, sym, ap, ◌∙◌}
use native.Mathlib.Omega.{arith}
use lib.Dec.{ltb}
use borrow.Author.Tests.{ltb-true, lt-ltb}
use borrow.Table.Steps.{cases}
use Rattle.constants.specs.Constants.{no_link}
use Rattle.plan.specs.declared.data.Plan.{Plan}
use Rattle.plan.specs.Data.{link_at}
use Rattle.plan_configuration.specs.Configure.{configured}
use Rattle.plan_consistency.proofs.Named.{configured_names}
use Rattle.lookup.specs.Lookup.{link_named, is_link}
use Rattle.promise_table.specs.NamesNothing.{names_no_link, NoneSuch}

-- a configured link is one of the 32
link_below : (plan : Plan) (link : ℕ) → is_link plan link ≡ true → link < no_link
unfolding is_link
link_below plan link is =
    let inside = ((and-eq-true_iff plan.given (ltb link no_link && (link_at plan link).given)).0 is).1 in
    ltb-true link no_link ((and-eq-true_iff (ltb link no_link) (link_at plan link).given).0 inside).0

module _ (text : List ℕ) (point slc : ℕ) where
  abbrev plan : Plan
  plan = (configured text).plan

  pub names_none : (names_no_link plan point slc ≡ true) ↔ NoneSuch plan point slc
  names_none = (
    λ none link is to with-slc.
        let below = link_below plan link is in
        let named : link_named plan point slc ≡ link = (configured_names text point slc link below).1 (is, to, with-slc) in
        let found : ltb (link_named plan point slc) no_link ≡ true = lt-ltb (link_named plan point slc) no_link (omega (arith, named, below)) in
        true≢false (sym none ∙ ap not found),
    λ none.
        cases (ltb (link_named plan point slc) no_link)
        (λ found.
        let link = link_named plan point slc in
        let words = (configured_names text point slc link (ltb-true link no_link found)).0 refl in
        absurd (none link words.0 words.1 words.2))
        (λ e. ap not e),
  )
