-- What the test of a range says. Assumes nothing.
use mathlib.Core.Path.{◌≡◌}
use mathlib.Core.Bool.{true, false, ◌&&◌, and-false}
use Prim.Native.Nat.{ℕ, ◌≤◌, ◌<◌}
use lib.Dec.{leb}
use borrow.Author.Tests.{le-leb, lt-leb}

module _ (low high n : ℕ) where
  pub inside : low ≤ n → n ≤ high → leb low n && leb n high ≡ true
  inside h k = simp (le-leb low n h, le-leb n high k)

  pub below : n < low → leb low n && leb n high ≡ false
  below h = simp (lt-leb low n h)

  pub above : high < n → leb low n && leb n high ≡ false
  above h = simp (lt-leb n high h, and-false)
