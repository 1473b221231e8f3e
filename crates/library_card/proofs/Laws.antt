-- The record of a link whose last acknowledged number is a, with n sent and unacknowledged: the last sent number is
-- n on from a, modulo 128. It gives the number of the next message, and takes the acknowledgements, that follow from a and n.
-- Assumes nothing.
use mathlib.Core.Path.{◌≡◌, sym, ap, ◌∙◌}
use Prim.Native.Nat.{ℕ, ◌+◌, ◌%◌, ◌<◌}
use native.Mathlib.Nat.{add-mod-mod}
use lib.Dec.{lit<}
use Rattle.counting.specs.Counting.{onward, next, distance, in_range}
use Rattle.counting.proofs.Laws.{onward_more, onward_distance, distance_steps}
use Rattle.library_card.specs.declared.Record.{Record}
use Rattle.library_card.specs.Card.{sent_one, outstanding, accepts}

-- of every record
pub last_sent : (link : Record) → onward 128 link.acknowledged (outstanding link) ≡ link.sent % 128
last_sent link = onward_distance 128 (lit< tt) link.acknowledged link.sent

module _ (link : Record) (a n : ℕ) (acknowledged_is : link.acknowledged ≡ a) (sent_is : link.sent ≡ onward 128 a n) where
  -- the next number is that of one more sent
  pub number_on : (sent_one link).number ≡ onward 128 a (next 128 n)
  number_on =
      ap (next 128) sent_is ∙ sym (onward_more 128 (lit< tt) a n 1) ∙ sym (add-mod-mod a (n + 1) 128)

  module _ (few : n < 128) where
    -- so many are sent and unacknowledged
    pub outstanding_is : outstanding link ≡ n
    outstanding_is =
        ap (λ (x : ℕ). distance 128 x link.sent) acknowledged_is ∙ ap (distance 128 a) sent_is ∙ distance_steps 128 (lit< tt) a n few

    -- the range is that of a and n
    pub accepts_as : (b : ℕ) → accepts link b ≡ in_range 128 a n b
    accepts_as b =
        ap (λ (x : ℕ). in_range 128 link.acknowledged x b) outstanding_is ∙ ap (λ (x : ℕ). in_range 128 x n b) acknowledged_is
