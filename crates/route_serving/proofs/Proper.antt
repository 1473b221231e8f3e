-- What serves is a link. Assumes nothing.
use mathlib.Core.Path.{◌≡◌}
use mathlib.Core.Bool.{true, and-eq-true_iff}
use mathlib.Core.List.{List}
use Prim.Native.Nat.{ℕ, ◌<◌}
use lib.Dec.{ltb}
use borrow.Author.Tests.{ltb-true}
use Rattle.route_serving.specs.declared.Need.{Need}
use Rattle.route_serving.specs.State.{serves}

-- only links, 0 to 31, pass the test
pub serves_proper : (links : List ℕ) (need : Need) (link : ℕ) → serves links need link ≡ true → link < 32
serves_proper links need link e = ltb-true link 32 ((and-eq-true_iff (ltb link 32) _).0 e).0
