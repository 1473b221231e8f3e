-- `counting::in_range` meets its contract: a number is in range exactly if its distance is at most the count sent.
-- Assumes nothing.
use Rattle.std.proofs.Common.{ℕ, leb, sym, ap, ◌∙◌, lit<}
use Rattle.counting.proofs.Laws.{is_in_range}
use Rattle.std.proofs.Common.{◌<◌}
use Rattle.counting.specs.Counting as Counting
use Rattle.counting.proofs.in_range.Goals as goal

pub returns : goal.returns
returns c =
    let a = c.args in
    ap (λ (x : ℕ). leb x a.sent) c.distance.ensures
    ∙ sym (is_in_range 128 (lit< tt) a.acknowledged a.sent a.b)
