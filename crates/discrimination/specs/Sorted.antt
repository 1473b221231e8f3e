-- What is said of one kind of message alone: of every other kind the same is said.
use Rattle.wire.specs.declared.header.Label.{Label}
use Rattle.discrimination.specs.declared.Order.{Order}
use Rattle.discrimination.specs.declared.Came.{Came}
use Rattle.discrimination.specs.declared.Came.TheVariants.{Malformed, Foreign, Delivered, Managed, Passed}

-- of a message for our own management, by its order
abbrev pub of_managed : {A : Type 0} → A → (Order → A) → Came → A
of_managed others said Malformed = others
of_managed others said Foreign = others
of_managed others said Delivered = others
of_managed others said (Managed order) = said order
of_managed others said (Passed label) = others

-- of a message for another point, by its label
abbrev pub of_passed : {A : Type 0} → A → (Label → A) → Came → A
of_passed others said Malformed = others
of_passed others said Foreign = others
of_passed others said Delivered = others
of_passed others said (Managed order) = others
of_passed others said (Passed label) = said label
