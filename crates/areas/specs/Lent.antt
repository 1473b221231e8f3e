-- The areas that a host lends are the same ones after a call: a call writes in them, and never puts another in the place of one.
use Rattle.std.specs.Prelude.{◌≡◌}
use Rattle.areas.specs.declared.Areas.{Areas}

abbrev pub Stays : Areas → Areas → Type 0
Stays before after =
    (after.links.ghost_name ≡ before.links.ghost_name)
    × (after.marks.ghost_name ≡ before.marks.ghost_name)
    × (after.spans.ghost_name ≡ before.spans.ghost_name)
    × (after.rings.ghost_name ≡ before.rings.ghost_name)
    × (after.rows.ghost_name ≡ before.rows.ghost_name)
    × (after.octets.ghost_name ≡ before.octets.ghost_name)
    × (after.arrivals.ghost_name ≡ before.arrivals.ghost_name)
