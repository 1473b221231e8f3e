-- The plan as 1,024 words: whatever stands in them, they say some plan.
use Rattle.std.specs.Prelude.{ℕ, zero, suc, ◌+◌, ◌*◌, ◌%◌, Bool, cond, List, [], ◌∷◌, ltb, leb, get_or, replicate}
use denote.Triple.Both.{Both}
use Rattle.std.specs.Borrow.{Bor}
use Rattle.plan.specs.declared.data.Plan.{Plan}
use Rattle.plan.specs.declared.data.LinkSet.{LinkSet}
use Rattle.plan.specs.declared.data.Link.{Link}
use Rattle.plan.specs.declared.data.Route.{Route}
use Rattle.plan.specs.declared.data.Destination.{Destination}
use Rattle.plan.specs.Data.{absent_route, routes_of}

-- a word as a number, as an octet, as a flag
abbrev pub word_in : List ℕ → ℕ → ℕ
word_in words at = get_or words at 0

abbrev pub octet_in : List ℕ → ℕ → ℕ
octet_in words at = get_or words at 0 % 256

abbrev pub flag_in : List ℕ → ℕ → Bool
flag_in words at = ltb 0 (get_or words at 0)

-- a route in one word: 256 says that it is given
abbrev pub route_of : ℕ → Route
route_of word = record { given = leb 256 word; set = word % 256 }

abbrev pub route_in : List ℕ → ℕ → Route
route_in words at = route_of (get_or words at 0)

-- what stands at so many numbers from one on
unfoldable pub table : {A : Type 0} → (ℕ → A) → ℕ → ℕ → List A
table f k zero = []
table f k (suc n) = f k ∷ table f (suc k) n

-- sets of 16 words from word 16 on, links of four from 144 on, codes from 272 on, four routes each from 336 on
abbrev pub set_in : List ℕ → ℕ → LinkSet
set_in words set =
    record {
      given = flag_in words (16 + 16 * set);
      adjacent = word_in words (17 + 16 * set);
      count = octet_in words (18 + 16 * set);
      links = table (λ i. octet_in words (20 + 16 * set + i)) 0 8;
    }

abbrev pub link_in : List ℕ → ℕ → Link
link_in words link =
    record {
      given = flag_in words (144 + 4 * link);
      set = octet_in words (145 + 4 * link);
      slc = octet_in words (146 + 4 * link);
    }

abbrev pub code_in : List ℕ → ℕ → ℕ
code_in words place = word_in words (272 + place)

abbrev pub routes_in : List ℕ → ℕ → List Route
routes_in words place = table (λ rank. route_in words (336 + 4 * place + rank)) 0 4

abbrev pub destination_in : List ℕ → ℕ → Destination
destination_in words place = record { code = code_in words place; routes = routes_in words place }

-- the plan that words say
unfoldable pub plan_at : List ℕ → Plan
plan_at words =
    record {
      given = flag_in words 0;
      code = word_in words 1;
      ni = octet_in words 2;
      count = octet_in words 3;
      sets = table (set_in words) 0 8;
      links = table (link_in words) 0 32;
      destinations = table (destination_in words) 0 64;
    }

-- the four routes of a destination, none past the last
abbrev pub routes_at : Plan → ℕ → List Route
routes_at plan place = cond (ltb place 64) (routes_of plan place) (replicate 4 absent_route)

-- the plan that lent words say before a call
abbrev pub plan_of : {X : Type 0} → Both (Bor (List ℕ)) X → Plan
plan_of words = plan_at words.entry.now
