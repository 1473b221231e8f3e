-- The links of a set, going round: the walking rule, over a test on links that says which of them serve.
use Rattle.std.specs.Prelude.{◌≡◌, Bool, true, false, cond, ◌||◌, List, [], ◌∷◌, ◌++◌, ℕ, ◌%◌, ◌<◌, length, take, drop}
use Rattle.constants.specs.Constants.{no_link}

-- no link
abbrev pub none : ℕ
none = no_link

-- a test that only links, 0 to 31, pass
abbrev pub Proper : (ℕ → Bool) → Type 0
Proper serves = (link : ℕ) → serves link ≡ true → link < none

-- all links of a set from a place on, "going round" (R78)
abbrev pub going_round : ℕ → List ℕ → List ℕ
going_round place links = drop place links ++ take place links

-- the first of some links that serves
unfoldable pub first_serving : (ℕ → Bool) → List ℕ → ℕ
first_serving serves [] = none
first_serving serves (link ∷ rest) = cond (serves link) link (first_serving serves rest)

-- whether one of some links serves
unfoldable pub some_serves : (ℕ → Bool) → List ℕ → Bool
some_serves serves [] = false
some_serves serves (link ∷ rest) = serves link || some_serves serves rest

-- "With m links, an SLS has its normal link at place SLS mod m; if that isn't carrying, the next carrying one going round." (R77, R78, R199, R233)
abbrev pub link_of_set : (ℕ → Bool) → List ℕ → ℕ → ℕ
link_of_set serves links sls = first_serving serves (going_round (sls % length links) links)
