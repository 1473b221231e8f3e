-- Facts on counting modulo m, proved once over the modulus. Whoever counts cites them at its own: 128 here.
-- Assumes nothing.
use Rattle.std.proofs.Common.{◌≡◌, ℕ, zero, suc, ◌+◌, ◌-◌, ◌%◌, ◌<◌, ◌≤◌, Bool, true, false, ◌||◌, eqb, leb, sym, refl, ap, ◌∙◌, mod-lt, mod-eq_of_lt, add_comm, zero-add, arith, eq-eqb, eqb-true, le-leb, leb-false, leb-true}
use native.Mathlib.Nat.{zero-mod, mod-le, mod-add-mod, add-mod-mod, add-mod_right, dvd_of_mod-eq-zero, mod-mod_of_dvd}
use Rattle.counting.specs.Counting.{onward, distance, in_range}

-- two tests that hold together are one
alike : {p q : Bool} → (p ≡ true → q ≡ true) → (q ≡ true → p ≡ true) → p ≡ q
alike {p = true} {q = true} f g = refl
alike {p = true} {q = false} f g = sym (f refl)
alike {p = false} {q = true} f g = g refl
alike {p = false} {q = false} f g = refl

module _ (m : ℕ) (some : 0 < m) where
  -- a full turn from a's place leads back to where the steps would have led from 0
  turn : (a k : ℕ) → (a + (k + (m - a % m))) % m ≡ k % m
  turn a k =
      let below : a % m < m = mod-lt a some in
      let round : a % m + (k + (m - a % m)) ≡ k + m = omega arith in
      sym (mod-add-mod a m (k + (m - a % m))) ∙ ap (λ (x : ℕ). x % m) round ∙ add-mod_right k m

  -- so many steps on, and so many more
  pub onward_more : (a j k : ℕ) → onward m a (j + k) ≡ onward m (onward m a j) k
  onward_more a j k =
      let sum : a + (j + k) ≡ a + j + k = omega arith in
      ap (λ (x : ℕ). x % m) sum ∙ sym (mod-add-mod (a + j) m k)

  -- the number at a distance is reached by that many steps
  pub onward_distance : (a b : ℕ) → onward m a (distance m a b) ≡ b % m
  onward_distance a b = add-mod-mod a (b + (m - a % m)) m ∙ turn a b

  -- the distance of the number k steps on is k, less whole turns
  pub distance_onward : (a k : ℕ) → distance m a (onward m a k) ≡ k % m
  distance_onward a k =
      let same : a + k + (m - a % m) ≡ a + (k + (m - a % m)) = omega arith in
      mod-add-mod (a + k) m (m - a % m) ∙ ap (λ (x : ℕ). x % m) same ∙ turn a k

  -- the distance of the number k steps on is k
  pub distance_steps : (a k : ℕ) → k < m → distance m a (onward m a k) ≡ k
  distance_steps a k h = distance_onward a k ∙ mod-eq_of_lt h

  -- the numbers of a window are distinct
  pub distinct : (a i j : ℕ) → i < m → j < m → onward m a i ≡ onward m a j → i ≡ j
  distinct a i j hi hj e = sym (distance_steps a i hi) ∙ ap (distance m a) e ∙ distance_steps a j hj

  -- a distance is below the modulus
  pub distance_below : (a b : ℕ) → distance m a b < m
  distance_below a b = mod-lt (b + (m - a % m)) some

  -- only the remainder of a number counts
  pub distance_to : (a b : ℕ) → distance m a (b % m) ≡ distance m a b
  distance_to a b = mod-add-mod b m (m - a % m)

  -- 0 lies some steps on from a; as many steps less lead as far as from a itself
  pub back_and_on : (a k : ℕ) → distance m (distance m a 0) k ≡ onward m a k
  back_and_on a k =
      let zero-at : ℕ = distance m a 0 in
      let there : (zero-at + (a + k)) % m ≡ k % m =
      ap (λ (x : ℕ). x % m) (omega arith)
      ∙ sym (mod-add-mod (a + zero-at) m k)
      ∙ ap (λ (x : ℕ). (x + k) % m) (onward_distance a 0 ∙ zero-mod m)
      ∙ ap (λ (x : ℕ). x % m) (zero-add k)
      in
      sym (distance_to zero-at k) ∙ ap (distance m zero-at) (sym there) ∙ distance_onward zero-at (a + k)

  -- a wrapping subtract in a word whose size the modulus divides, then the remainder by the modulus, is the distance
  pub wrapped : (word a b r : ℕ) → word % m ≡ 0 → (r + a) % word ≡ b → r % m ≡ distance m a b
  wrapped word a b r d e =
      sym (distance_onward a r)
      ∙ ap (λ (x : ℕ). distance m a (x % m)) (add_comm a r)
      ∙ ap (distance m a) (sym (mod-mod_of_dvd m (r + a) (dvd_of_mod-eq-zero m d)))
      ∙ ap (λ (x : ℕ). distance m a (x % m)) e
      ∙ distance_to a b

  -- a number is k steps on exactly if its distance is k, less whole turns
  at_steps : (a k b : ℕ) → eqb (b % m) (onward m a k) ≡ eqb (distance m a b) (k % m)
  at_steps a k b =
      alike
      (λ e. eq-eqb _ _ (sym (distance_to a b) ∙ ap (distance m a) (eqb-true _ _ e) ∙ distance_onward a k))
      (λ e. eq-eqb _ _ (sym (onward_distance a b) ∙ ap (onward m a) (eqb-true _ _ e) ∙ add-mod-mod a k m))

  -- one more sent, one more distance in range
  one_more : (d sent : ℕ) → d < m → leb d sent || eqb d (suc sent % m) ≡ leb d (suc sent)
  one_more d sent h = go (leb d sent) refl
    where
      go : (t : Bool) → leb d sent ≡ t → t || eqb d (suc sent % m) ≡ leb d (suc sent)
      go true e = let near : d ≤ sent = leb-true d sent e in sym (le-leb d (suc sent) (omega arith))
      go false e =
          let far : sent < d = leb-false d sent e in
          alike
          (λ q.
          let here : d ≡ suc sent % m = eqb-true _ _ q in
          le-leb d (suc sent) (omega (arith, mod-le (suc sent) m)))
          (λ q.
          let near : d ≤ suc sent = leb-true _ _ q in
          let here : suc sent ≡ d = omega arith in
          let below : suc sent < m = omega arith in
          eq-eqb d (suc sent % m) (sym here ∙ sym (mod-eq_of_lt below)))

  -- a number is in range exactly if its distance is at most the count sent
  pub is_in_range : (a sent b : ℕ) → in_range m a sent b ≡ leb (distance m a b) sent
  unfolding in_range
  is_in_range a zero b =
      at_steps a zero b
      ∙ alike
      (λ e. let here : distance m a b ≡ 0 = eqb-true _ _ e ∙ zero-mod m in le-leb (distance m a b) 0 (omega arith))
      (λ e.
      let near : distance m a b ≤ 0 = leb-true _ _ e in
      let here : distance m a b ≡ 0 = omega arith in
      eq-eqb _ _ (here ∙ sym (zero-mod m)))
  is_in_range a (suc sent) b =
      simp (is_in_range a sent b, at_steps a (suc sent) b) (one_more (distance m a b) sent (distance_below a b))

  -- with all but one of the numbers sent, every number is in range
  pub all_in_range : (a sent b : ℕ) → m ≤ sent + 1 → in_range m a sent b ≡ true
  all_in_range a sent b h =
      let below : distance m a b < m = distance_below a b in
      is_in_range a sent b ∙ le-leb (distance m a b) sent (omega arith)
