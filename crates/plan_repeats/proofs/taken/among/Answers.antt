-- `plan_repeats::taken::among` meets its contract: past the end of the table stands no set. Assumes nothing.
use borrow.Author.Rules.{rules}
use native.Mathlib.Omega.{arith}
use lib.ListN.{length}
use mathlib.Core.Path.{◌≡◌}
use Rattle.plan.proofs.Tables.{unmapped, no_links}
use Rattle.plan_repeats.proofs.Searches.{none_among}
use Rattle.plan_repeats.proofs.taken.among.Goals as goal

pub returns-then-set-ge8 : goal.returns-then-set-ge8
returns-then-set-ge8 c =
    let a = c.args in
    let long : length a.plan.sets ≡ 8 = search (rules, unmapped) in
    none_among _ _ _ (no_links a.plan a.set (omega arith))
