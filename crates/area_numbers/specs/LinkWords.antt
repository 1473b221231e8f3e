-- A link's numbers, each in its word of the eight for each of 32 links.
use Rattle.std.specs.Prelude.{ℕ, List}
use Rattle.constants.specs.Constants.{link_count}
use Rattle.area_rows.specs.Rows.{with_word}

-- one number of a link's row in its word, every other word as it stands: the last acknowledged, the last received, how many are sent
abbrev pub with_acknowledged : List ℕ → ℕ → ℕ → List ℕ
with_acknowledged links link number = with_word link_count 8 links link 1 number

abbrev pub with_received : List ℕ → ℕ → ℕ → List ℕ
with_received links link number = with_word link_count 8 links link 2 number

abbrev pub with_sent : List ℕ → ℕ → ℕ → List ℕ
with_sent links link number = with_word link_count 8 links link 3 number
