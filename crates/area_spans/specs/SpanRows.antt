-- A ring's row, two words for each of 35 rings.
use Rattle.std.specs.Prelude.{ℕ, List, [], ◌∷◌}
use Rattle.area_rows.specs.Rows.{word_at, with_row}
use Rattle.area_spans.specs.declared.Span.{Span}

-- a ring's row in `spans`, of 35: its head and how many slots it holds
abbrev pub span_at : List ℕ → ℕ → Span
span_at spans ring = record { head = word_at 35 2 spans ring 0; count = word_at 35 2 spans ring 1 }

abbrev pub with_span : List ℕ → ℕ → Span → List ℕ
with_span spans ring span = with_row 35 2 spans ring (span.head ∷ span.count ∷ [])
