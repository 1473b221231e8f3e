-- What is written and then the places left make what all make. Assumes nothing.
use mathlib.Core.Path.{◌≡◌}
use Prim.Native.Nat.{◌-◌, ◌≤◌}
use Rattle.text_pages.specs.Page.{page, puts}
use Rattle.fate_places.specs.Places.{held_of}
use Rattle.fate_lines.specs.Lines.{fate_lines}
use Rattle.replay_fates.specs.Fates.{fates_at}
use Rattle.replay_fates.proofs.telling.put_queue.Given as goal

abbrev pub invariant-loop-place : goal.invariant-loop-place
invariant-loop-place l =
    (l.place ≤ l.many)
    × (puts (page l.out l.at) (fate_lines l.number (fates_at l.part (held_of l.walked) (held_of l.after) l.reports l.count l.queue l.place (l.many - l.place)))
    ≡ puts (page l.initial.out l.fn.at) (fate_lines l.number (fates_at l.part (held_of l.walked) (held_of l.after) l.reports l.count l.queue 0 l.many)))
