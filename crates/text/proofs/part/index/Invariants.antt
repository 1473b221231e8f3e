-- What is passed has no mark: the place found is so many places on from what is left.
use Rattle.std.proofs.Common.{◌≡◌, ◌+◌, drop}
use Rattle.text.specs.Index.{index_of}
use Rattle.text.proofs.part.index.Given as goal

abbrev pub invariant-loop-i : goal.invariant-loop-i
invariant-loop-i l = index_of l.mark l.text ≡ l.i + index_of l.mark (drop l.i l.text)
