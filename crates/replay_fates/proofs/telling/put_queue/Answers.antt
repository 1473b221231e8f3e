-- The places left are the next one and those behind it. Assumes nothing.
use mathlib.Core.Path.{◌≡◌, ap, ◌∙◌}
use mathlib.Core.List.{List}
use Prim.Native.Nat.{ℕ, ◌+◌, ◌-◌}
use native.Mathlib.Nat.{sub-zero}
use native.Mathlib.Omega.{arith}
use Rattle.area_slots.specs.declared.Slot.{Slot}
use Rattle.text_pages.specs.Page.{page, puts}
use Rattle.text_pages.proofs.Pages.{left_on, left_none}
use Rattle.fate_places.specs.Places.{Held, held_of, message_at, whither}
use Rattle.fate_lines.specs.declared.Fate.{Fate}
use Rattle.fate_lines.specs.Lines.{fate_line, fate_lines}
use Rattle.replay_fates.specs.declared.deciding.Part.{Part}
use Rattle.replay_fates.specs.Fates.{fate_of, fate_at, fates_at}
use Rattle.replay_fates.proofs.Walking.{places_on, places_end}
use Rattle.replay_fates.proofs.telling.put_queue.Goals as goal

-- what is decided of the message at a place is its fate
fate_is : (part : Part) (walked after : Held) (reports : List ℕ) (count queue place : ℕ)
    → (known : Slot) → known ≡ message_at walked queue place → (to : ℕ) → to ≡ whither after reports count queue known.arrival
    → (fate : Fate) → fate ≡ fate_of part queue known to → fate ≡ fate_at part walked after reports count queue place
fate_is part walked after reports count queue place known known_is to to_is fate e =
    e ∙ ap (fate_of part queue known) to_is
    ∙ ap (λ (s : Slot). fate_of part queue s (whither after reports count queue s.arrival)) known_is

pub loop-place-init : goal.loop-place-init
loop-place-init c =
    let a = c.args in
    let lines : ℕ → List (List ℕ) = λ (n : ℕ). fate_lines a.number (fates_at a.part (held_of a.walked) (held_of a.after) a.reports.now a.count a.queue 0 n) in
    (omega arith, ap (λ (n : ℕ). puts (page a.out.now a.at) (lines n)) (sub-zero a.many))

pub loop-place-preserved : goal.loop-place-preserved
loop-place-preserved c =
    let a = c.args in
    let l = c.loop-place in
    let many = a.many in
    let walked = held_of a.walked in
    let after = held_of a.after in
    let known = c.message_at-known in
    let to = c.whither-to in
    let fate = c.fate_of in
    let is : fate.result ≡ fate_at a.part walked after a.reports.now a.count a.queue l.place =
    fate_is a.part walked after a.reports.now a.count a.queue l.place known.result known.ensures to.result to.ensures fate.result fate.ensures
    in (
      omega arith,
      left_on l.out l.at (fate_lines a.number (fates_at a.part walked after a.reports.now a.count a.queue l.place (many - l.place)))
          (fate_line a.number (fate_at a.part walked after a.reports.now a.count a.queue l.place))
          (fate_lines a.number (fates_at a.part walked after a.reports.now a.count a.queue (l.place + 1) (many - (l.place + 1))))
          (places_on a.number a.part walked after a.reports.now a.count a.queue l.place many c.loop-place-test.true)
          l.invariant.1
          (c.put_fate-at.ensures ∙ ap (λ (f : Fate). puts (page l.out l.at) (fate_line a.number f)) is),
    )

pub returns : goal.returns
returns c =
    let a = c.args in
    let l = c.loop-place in
    let many = a.many in
    let walked = held_of a.walked in
    let after = held_of a.after in
    left_none (page l.out l.at) (fate_lines a.number (fates_at a.part walked after a.reports.now a.count a.queue l.place (many - l.place)))
    (places_end a.number a.part walked after a.reports.now a.count a.queue l.place many c.loop-place-test.false)
    l.invariant.1
