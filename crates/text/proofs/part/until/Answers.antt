use Rattle.std.proofs.Common.{length, ap, arith}
use Rattle.text.proofs.Parts.{cut_length, index_within}
use Rattle.text.proofs.part.until.Goals as goal

pub overflow_add-end : goal.overflow_add-end
overflow_add-end c =
    let a = c.args in
    let cut = c.between-part in
    let long = ap length cut.ensures in
    let within = index_within a.mark cut.result.now in
    omega (arith, long, within, c.index-length.ensures, cut_length a.at a.to a.text.now)
