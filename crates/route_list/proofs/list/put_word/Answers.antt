-- `route_list::list::put_word` meets its contract: a tab and at most two octets behind it have room.
-- Assumes nothing.
use mathlib.Core.Bool.{true}
use mathlib.Core.List.{[], ◌∷◌}
use mathlib.Core.Path.{◌≡◌}
use Prim.Native.Nat.{◌≤◌}
use native.Mathlib.Omega.{arith}
use lib.Dec.{ltb}
use lib.ListN.{length}
use borrow.Author.Tests.{lt-ltb, le-ltb}
use Rattle.text.specs.Part.{tab}
use Rattle.text_decimals.specs.Decimal.{decimal_of}
use Rattle.route_list.proofs.Laid.{put_behind}
use Rattle.route_list.proofs.Lines.{word_few}
use Rattle.route_list.proofs.list.put_word.Goals as goal

pub returns-then-link-lt-NO_LINK : goal.returns-then-link-lt-NO_LINK
returns-then-link-lt-NO_LINK c =
    let a = c.args in
    let number : ltb a.link 32 ≡ true = lt-ltb a.link 32 (omega arith) in
    let few : length (decimal_of a.link) ≤ 2 = simp number at (word_few a.link) in
    let both =
    put_behind a.out.now a.at (tab ∷ []) (omega arith) (decimal_of a.link) _ _ _ _ (omega arith)
    (c.put-end.ensures.value, c.put-end.ensures.out_after) (c.put_decimal.ensures.value, c.put_decimal.ensures.out_after)
    in
    record { value = simp number both.0; out_after = simp number both.1 }

pub returns-else-link-lt-NO_LINK : goal.returns-else-link-lt-NO_LINK
returns-else-link-lt-NO_LINK c =
    let a = c.args in
    let both =
    put_behind a.out.now a.at (tab ∷ []) (omega arith) (45 ∷ []) _ _ _ _ (omega arith)
    (c.put-end.ensures.value, c.put-end.ensures.out_after) (c.put.ensures.value, c.put.ensures.out_after)
    in
    let none = le-ltb a.link 32 (omega arith) in
    record { value = simp none both.0; out_after = simp none both.1 }
