-- The queues left are the next one and those behind it. Assumes nothing.
use mathlib.Core.Path.{◌≡◌, refl, sym, ap, ◌∙◌}
use mathlib.Core.List.{List, ◌++◌}
use Prim.Native.Nat.{ℕ, ◌+◌, ◌-◌, min}
use native.Mathlib.Omega.{arith}
use Rattle.text_pages.specs.Page.{page}
use Rattle.text_pages.proofs.Pages.{left_on, left_none}
use Rattle.fate_places.specs.Places.{held_of, places}
use Rattle.fate_lines.specs.Lines.{fate_lines}
use Rattle.replay_fates.specs.Fates.{fates_at, fates_from, fates_in}
use Rattle.replay_fates.proofs.Walking.{queues_on, queues_end}
use Rattle.replay_fates.proofs.telling.put_part.Goals as goal

pub loop-queue-init : goal.loop-queue-init
loop-queue-init c = (omega arith, refl)

pub loop-queue-preserved : goal.loop-queue-preserved
loop-queue-preserved c =
    let a = c.args in
    let l = c.loop-queue in
    let walked = held_of a.walked in
    let after = held_of a.after in
    let few : c.min-many.result ≡ min (places walked l.queue) l.left = omega (arith, c.places.ensures) in
    let rest : ℕ → List (List ℕ) =
    λ (n : ℕ). fate_lines a.number (fates_from a.part walked after a.reports.now a.count (l.queue + 1) (33 - (l.queue + 1)) (l.left - n))
    in (
      omega arith,
      left_on l.out l.at (fate_lines a.number (fates_from a.part walked after a.reports.now a.count l.queue (33 - l.queue) l.left))
          (fate_lines a.number (fates_at a.part walked after a.reports.now a.count l.queue 0 c.min-many.result))
          (rest c.min-many.result)
          (queues_on a.number a.part walked after a.reports.now a.count l.queue 33 l.left c.loop-queue-test.true
          ∙ ap (λ (n : ℕ). fate_lines a.number (fates_at a.part walked after a.reports.now a.count l.queue 0 n) ++ rest n) (sym few))
          l.invariant.1
          c.put_queue-at.ensures,
    )

pub returns : goal.returns
unfolding fates_in
returns c =
    let a = c.args in
    let l = c.loop-queue in
    let walked = held_of a.walked in
    let after = held_of a.after in
    left_none (page l.out l.at) (fate_lines a.number (fates_from a.part walked after a.reports.now a.count l.queue (33 - l.queue) l.left))
    (queues_end a.number a.part walked after a.reports.now a.count l.queue 33 l.left c.loop-queue-test.false)
    l.invariant.1
