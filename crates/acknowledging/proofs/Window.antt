-- What is sent and unacknowledged, after an acknowledgement that is done.
-- Assumes nothing.
use Prim.Native.Nat.{ℕ, ◌+◌, ◌-◌, ◌%◌, ◌≤◌, ◌<◌}
use mathlib.Core.Bool.{not}
use mathlib.Core.List.{List}
use mathlib.Core.Path.{◌≡◌, sym, ap, ◌∙◌}
use native.Mathlib.Nat.{mod-lt, mod-eq_of_lt}
use native.Mathlib.Omega.{arith}
use lib.Dec.{lit<}
use borrow.Author.Tests.{leb-true, not-false}
use Rattle.counting.specs.Counting.{distance}
use Rattle.counting.proofs.Laws.{is_in_range, distance_steps}
use Rattle.plan.specs.declared.data.Plan.{Plan}
use Rattle.replies.proofs.Rows.{none_applies}
use Rattle.area_links.specs.LinkRecords.{record_at}
use Rattle.lookup.specs.Lookup.{is_link}
use Rattle.numbers.specs.Numbers.{up_to, left_sent}
use Rattle.acknowledging.specs.Acknowledge.{out_of_range, link_open, b_in_range}
use Rattle.acknowledging.specs.Acknowledge as Acknowledge

-- from one count on to a later one, both below the modulus, it is their difference
left : (m : ℕ) → 0 < m → (few many : ℕ) → few ≤ many → many < m → distance m few many + few ≡ many
left m some few many near below =
    let there : (few + (many - few)) % m ≡ many = ap (λ (x : ℕ). x % m) (omega arith) ∙ mod-eq_of_lt below in
    let steps : distance m few many ≡ many - few =
    sym (ap (distance m few) there) ∙ distance_steps m some few (many - few) (omega arith)
    in
    omega arith

-- an acknowledgement that is done
module _ (plan : Plan) (links : List ℕ) (link b : ℕ) (done : Acknowledge.reply_of plan links link b ≡ 0) where
  pub retired_and_left : left_sent (record_at links link) b + up_to (record_at links link) b ≡ (record_at links link).sent
  unfolding Acknowledge.reply_of
  retired_and_left =
      let known = record_at links link in
      let after-1 = (none_applies 0 (out_of_range link b) _ done).1 in
      let after-2 = (none_applies 1 (not (is_link plan link)) _ after-1).1 in
      let after-5 = (none_applies 4 (not (link_open links link)) _ after-2).1 in
      let row-6 = (none_applies 5 (not (b_in_range links link b)) _ after-5).0 in
      let near = sym (is_in_range 128 (lit< tt) known.acknowledged known.sent b) ∙ not-false (b_in_range links link b) row-6 in
      left 128 (lit< tt) (up_to known b) known.sent (leb-true (up_to known b) known.sent near) (mod-lt _ (lit< tt))
