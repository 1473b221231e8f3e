-- Sequence numbers, counted modulo m: how far one lies on from another, the number some steps on, and the range of an
-- acknowledgement or a changeover number. Over any modulus; the numbers of our links are counted modulo 128.
use Rattle.std.specs.Prelude.{ℕ, zero, suc, ◌+◌, ◌-◌, ◌%◌, Bool, ◌||◌, ◌==◌}

-- "counted modulo 128 on from the last acknowledged" (R103): the number that many steps on (R222)
abbrev pub onward : ℕ → ℕ → ℕ → ℕ
onward m from steps = (from + steps) % m

-- "isn't the last plus 1" (R46): the next number
abbrev pub next : ℕ → ℕ → ℕ
next m last = onward m last 1

-- how many steps lead from one number on to the other, going round at m (R198, R204)
abbrev pub distance : ℕ → ℕ → ℕ → ℕ
distance m from to = (to + (m - from % m)) % m

-- "B is in range if it is the last acknowledged number, or that of a sent unacknowledged message." (R108)
unfoldable pub in_range : ℕ → ℕ → ℕ → ℕ → Bool
in_range m acknowledged zero b = b % m == onward m acknowledged zero
in_range m acknowledged (suc sent) b = in_range m acknowledged sent b || b % m == onward m acknowledged (suc sent)
