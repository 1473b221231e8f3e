-- The 1,024 words of a plan: the words of each part, and where they stand.
use Rattle.std.specs.Prelude.{ℕ, ◌+◌, Bool, cond, List, [], ◌∷◌, map, replicate}
use Rattle.std.proofs.lemmas.List.Edits.{sets}
use Rattle.plan.specs.declared.data.Plan.{Plan}
use Rattle.plan.specs.declared.data.LinkSet.{LinkSet}
use Rattle.plan.specs.declared.data.Link.{Link}
use Rattle.plan.specs.declared.data.Route.{Route}
use Rattle.plan.specs.declared.data.Destination.{Destination}

-- 1 for what is given, 0 for what isn't
abbrev pub flag_word : Bool → ℕ
flag_word given = cond given 1 0

-- a route in one word: its set, and 256 more where it is given
abbrev pub route_word : Route → ℕ
route_word route = cond route.given (256 + route.set) route.set

-- the node: whether there is one, its code, its network indicator, how many destinations are given
abbrev pub node_words : Plan → List ℕ
node_words plan = flag_word plan.given ∷ plan.code ∷ plan.ni ∷ plan.count ∷ []

-- a set: whether it is given, its adjacent point, how many links it has, a word that is 0, its links
abbrev pub set_words : LinkSet → List ℕ
set_words set = flag_word set.given ∷ set.adjacent ∷ set.count ∷ 0 ∷ set.links

-- a link: whether it is given, its set, its SLC
abbrev pub link_words : Link → List ℕ
link_words link = flag_word link.given ∷ link.set ∷ link.slc ∷ []

-- a destination, in one table: its code
abbrev pub code_words : Destination → List ℕ
code_words destination = destination.code ∷ []

-- and in another: its four routes, the best rank first
abbrev pub route_words : Destination → List ℕ
route_words destination = map route_word destination.routes

-- a table among the words: the words of its first row from one place on, those of each further row so many places on
unfoldable pub placed : {A : Type 0} → (A → List ℕ) → ℕ → ℕ → List A → List ℕ → List ℕ
placed row width at [] words = words
placed row width at (item ∷ items) words = placed row width (at + width) items (sets words at (row item))

-- the node from word 0 on, sets of 16 words from 16 on, links of four from 144 on, codes from 272 on, four routes each from 336 on; all other words are 0
unfoldable pub words_of : Plan → List ℕ
words_of plan =
    placed route_words 4 336 plan.destinations
    (placed code_words 1 272 plan.destinations
    (placed link_words 4 144 plan.links
    (placed set_words 16 16 plan.sets
    (sets (replicate 1024 0) 0 (node_words plan)))))
