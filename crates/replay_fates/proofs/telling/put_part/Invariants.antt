-- What is written and then the queues left make what all make. Assumes nothing.
use mathlib.Core.Path.{◌≡◌}
use Prim.Native.Nat.{◌-◌, ◌≤◌}
use Rattle.text_pages.specs.Page.{page, puts}
use Rattle.fate_places.specs.Places.{held_of}
use Rattle.fate_lines.specs.Lines.{fate_lines}
use Rattle.replay_fates.specs.Fates.{fates_from}
use Rattle.replay_fates.proofs.telling.put_part.Given as goal

abbrev pub invariant-loop-queue : goal.invariant-loop-queue
invariant-loop-queue l =
    (l.queue ≤ 33)
    × (puts (page l.out l.at) (fate_lines l.number (fates_from l.part (held_of l.walked) (held_of l.after) l.reports l.count l.queue (33 - l.queue) l.left))
    ≡ puts (page l.initial.out l.fn.at) (fate_lines l.number (fates_from l.part (held_of l.walked) (held_of l.after) l.reports l.count 0 33 256)))
