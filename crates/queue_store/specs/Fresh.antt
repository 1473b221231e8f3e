-- The store before its first message: every slot is free, in order.
use Rattle.std.specs.Prelude.{ℕ, ◌+◌, ◌%◌, List}
use Rattle.std.proofs.lemmas.List.Edits.{sets}
use Rattle.constants.specs.Constants.{free_user_ring, free_management_ring}
use Rattle.area_rows.specs.Rows.{with_row}
use Rattle.area_spans.specs.SpanRows.{with_span}
use Rattle.queue_rings.specs.Run.{run}

-- the first words of an area are 0
unfoldable pub emptied : List ℕ → ℕ → List ℕ
emptied spans words = sets spans 0 (run (λ i. 0) 0 words)

-- the slot at a place of those from the first on, in order
abbrev pub in_order : ℕ → ℕ → ℕ
in_order first place = (first + place) % 256

-- a ring's first places hold so many slots in order
unfoldable pub ring_filled : List ℕ → ℕ → ℕ → ℕ → List ℕ
ring_filled rings ring first size = with_row 35 256 rings ring (run (in_order first) 0 size)

-- every ring is empty but those of the free slots (R17, R18)
unfoldable pub fresh_spans : List ℕ → List ℕ
fresh_spans spans =
    with_span (with_span (emptied spans 70) free_user_ring (record { head = 0; count = 192 })) free_management_ring (record { head = 0; count = 64 })

-- the free user slots in ring 33, the free management slots in ring 34, all else as it was
unfoldable pub fresh_rings : List ℕ → List ℕ
fresh_rings rings = ring_filled (ring_filled rings free_user_ring 0 192) free_management_ring 192 64
