-- What the words say, piece by piece: whoever reads them cites these, and never unfolds the plan. Assumes nothing.
use mathlib.Core.Path.{◌≡◌, refl, sym, ap, ◌∙◌}
use mathlib.Core.List.{List, [], ◌∷◌}
use Prim.Native.Nat.{ℕ, zero, suc, ◌+◌, ◌*◌, ◌<◌, ◌≤◌, min}
use native.Mathlib.Nat.{add-zero}
use native.Mathlib.Omega.{arith}
use borrow.Author.Tests.{lt-ltb}
use lib.ListN.{length, get_or, length-take, get_or-eq_default}
use Rattle.plan.specs.declared.data.Plan.{Plan}
use Rattle.plan.specs.declared.data.LinkSet.{LinkSet}
use Rattle.plan.specs.declared.data.Destination.{Destination}
use Rattle.plan.specs.Data.{absent_set, absent_link, absent_destination, set_at, link_at, links_of, destination_at, routes_of}
use Rattle.plan.proofs.Split.{split}
use Rattle.plan_words.specs.Words.{word_in, octet_in, flag_in, route_in, set_in, link_in, destination_in, table, plan_at, routes_at}

module _ {A : Type 0} (f : ℕ → A) where
  pub table_length : (k n : ℕ) → length (table f k n) ≡ n
  unfolding table
  table_length k zero = refl
  table_length k (suc n) = ap suc (table_length (suc k) n)

  from : (d : A) (k n i : ℕ) → i < n → get_or (table f k n) i d ≡ f (k + i)
  unfolding table
  from d k zero i h = absurd (omega arith)
  from d k (suc n) zero h = rw add-zero
  from d k (suc n) (suc i) h = from d (suc k) n i (omega arith) ∙ ap f (omega arith)

  pub table_at : (d : A) (n i : ℕ) → i < n → get_or (table f 0 n) i d ≡ f i
  table_at d n i h = from d 0 n i h ∙ ap f (omega arith)

module _ (words : List ℕ) where
  pub node_given : (plan_at words).given ≡ flag_in words 0
  unfolding plan_at
  node_given = refl

  pub node_code : (plan_at words).code ≡ word_in words 1
  unfolding plan_at
  node_code = refl

  pub node_ni : (plan_at words).ni ≡ octet_in words 2
  unfolding plan_at
  node_ni = refl

  pub node_count : (plan_at words).count ≡ octet_in words 3
  unfolding plan_at
  node_count = refl

  pub set_there : (set : ℕ) → set < 8 → set_at (plan_at words) set ≡ set_in words set
  unfolding plan_at
  set_there set h = table_at (set_in words) _ 8 set h

  pub link_there : (link : ℕ) → link < 32 → link_at (plan_at words) link ≡ link_in words link
  unfolding plan_at
  link_there link h = table_at (link_in words) _ 32 link h

  pub destination_there : (place : ℕ) → place < 64 → destination_at (plan_at words) place ≡ destination_in words place
  unfolding plan_at
  destination_there place h = table_at (destination_in words) _ 64 place h

  pub code_there : (place : ℕ) → place < 64 → word_in words (272 + place) ≡ (destination_at (plan_at words) place).code
  code_there place h = ap (λ (d : Destination). d.code) (sym (destination_there place h))

  pub eight_sets : length (plan_at words).sets ≡ 8
  unfolding plan_at
  eight_sets = table_length (set_in words) 0 8

  pub all_links : length (plan_at words).links ≡ 32
  unfolding plan_at
  all_links = table_length (link_in words) 0 32

  pub all_destinations : length (plan_at words).destinations ≡ 64
  unfolding plan_at
  all_destinations = table_length (destination_in words) 0 64

  -- past its end a table has nothing given
  pub set_past : (set : ℕ) → 8 ≤ set → set_at (plan_at words) set ≡ absent_set
  set_past set h = get_or-eq_default (plan_at words).sets absent_set {n = set} (omega (arith, eight_sets))

  pub link_past : (link : ℕ) → 32 ≤ link → link_at (plan_at words) link ≡ absent_link
  link_past link h = get_or-eq_default (plan_at words).links absent_link {n = link} (omega (arith, all_links))

  pub destination_past : (place : ℕ) → 64 ≤ place → destination_at (plan_at words) place ≡ absent_destination
  destination_past place h = get_or-eq_default (plan_at words).destinations absent_destination {n = place} (omega (arith, all_destinations))

  pub link_of_set : (set i : ℕ) → set < 8 → i < 8 → get_or (set_at (plan_at words) set).links i 0 ≡ octet_in words (20 + 16 * set + i)
  link_of_set set i h k =
      ap (λ (s : LinkSet). get_or s.links i 0) (set_there set h) ∙ table_at (λ j. octet_in words (20 + 16 * set + j)) 0 8 i k

  pub eight_places : (set : ℕ) → set < 8 → length (set_at (plan_at words) set).links ≡ 8
  eight_places set h = ap (λ (s : LinkSet). length s.links) (set_there set h) ∙ table_length (λ j. octet_in words (20 + 16 * set + j)) 0 8

  -- a set has as many links as its count says, and no more than eight
  pub some_links : (set : ℕ) → length (links_of (plan_at words) set) ≡ min (set_at (plan_at words) set).count 8
  some_links set =
      let those = set_at (plan_at words) set in
      length-take those.count those.links
      ∙ split set 8
      (λ less. ap (min those.count) (eight_places set less))
      (λ past. simp (set_past set past))

  pub four_ranks : (place : ℕ) → place < 64 → length (routes_of (plan_at words) place) ≡ 4
  four_ranks place h = ap (λ (d : Destination). length d.routes) (destination_there place h) ∙ table_length (λ rank. route_in words (336 + 4 * place + rank)) 0 4

  pub routes_there : (place : ℕ) → place < 64
      → routes_of (plan_at words) place
      ≡ route_in words (336 + 4 * place)
      ∷ route_in words (336 + 4 * place + 1)
      ∷ route_in words (336 + 4 * place + 2)
      ∷ route_in words (336 + 4 * place + 3)
      ∷ []
  unfolding table
  routes_there place h = ap (λ (d : Destination). d.routes) (destination_there place h) ∙ simp add-zero

pub routes_within : (plan : Plan) (place : ℕ) → place < 64 → routes_at plan place ≡ routes_of plan place
routes_within plan place h = simp (lt-ltb place 64 h)
