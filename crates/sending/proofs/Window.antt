-- What is sent and unacknowledged, after a send that is done.
-- Assumes nothing.
use Prim.Native.Nat.{ℕ, ◌+◌, ◌≤◌}
use mathlib.Core.Bool.{not, ◌||◌}
use mathlib.Core.List.{List}
use mathlib.Core.Path.{◌≡◌}
use native.Mathlib.Nat.{mod-eq_of_lt}
use native.Mathlib.Omega.{arith}
use lib.Dec.{eqb, leb, ltb}
use borrow.Author.Tests.{leb-false}
use Rattle.plan.specs.declared.data.Plan.{Plan}
use Rattle.plan.proofs.Split.{both_false}
use Rattle.replies.proofs.Rows.{none_applies}
use Rattle.area_links.specs.LinkRecords.{record_at}
use Rattle.queue_rings.specs.Ring.{count_of}
use Rattle.lookup.specs.Lookup.{is_link}
use Rattle.numbers.specs.Numbers.{one_more}
use Rattle.sending.specs.Send as Send

-- a send that is done
module _ (plan : Plan) (links spans : List ℕ) (link room : ℕ) (done : Send.reply_of plan links spans link room ≡ 0) where
  pub room_for_one : (record_at links link).sent + 1 ≤ 127
  unfolding Send.reply_of
  room_for_one =
      let known = record_at links link in
      let after-1 = (none_applies 0 (leb 32 link || ltb room 273) _ done).1 in
      let after-2 = (none_applies 1 (not (is_link plan link)) _ after-1).1 in
      let row-5 =
      (none_applies 4 (not (eqb known.state 2) || (leb (count_of spans link) known.sent || leb 127 known.sent)) _ after-2).0
      in
      let counts = (both_false (not (eqb known.state 2)) (leb (count_of spans link) known.sent || leb 127 known.sent) row-5).1 in
      let below = leb-false 127 known.sent (both_false (leb (count_of spans link) known.sent) (leb 127 known.sent) counts).1 in
      omega arith

  pub one_more_sent : one_more (record_at links link) ≡ (record_at links link).sent + 1
  one_more_sent = let below = room_for_one in mod-eq_of_lt (omega arith)
