-- A link's record, seven words of the eight for each of 32 links: loaded, and stored whole.
use Rattle.std.specs.Prelude.{ℕ, ◌%◌, List, [], ◌∷◌, ltb}
use Rattle.constants.specs.Constants.{link_count}
use Rattle.area_rows.specs.Rows.{word_at, with_row}
use Rattle.area_flags.specs.Flags.{word}
use Rattle.area_links.specs.declared.LinkRecord.{LinkRecord}

-- the record that words say by their place: whatever stands in a word, it says one of the numbers that there can be
abbrev pub record_of : (ℕ → ℕ) → LinkRecord
record_of words =
    record {
      state = words 0 % 4;
      acknowledged = words 1 % 128;
      received = words 2 % 128;
      sent = words 3 % 128;
      timer = words 4 % 4;
      t3 = ltb 0 (words 5);
      code = words 6 % 64;
    }

-- a link's record in `links`, of 32
abbrev pub record_at : List ℕ → ℕ → LinkRecord
record_at links link = record_of (word_at link_count 8 links link)

abbrev pub with_record : List ℕ → ℕ → LinkRecord → List ℕ
with_record links link known =
    with_row link_count 8 links link
    (known.state
    ∷ known.acknowledged
    ∷ known.received
    ∷ known.sent
    ∷ known.timer
    ∷ word known.t3
    ∷ known.code
    ∷ [])
