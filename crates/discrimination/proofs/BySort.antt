-- What holds of the others and of each of one kind holds of every message. Assumes nothing.
use Rattle.wire.specs.declared.header.Label.{Label}
use Rattle.discrimination.specs.declared.Order.{Order}
use Rattle.discrimination.specs.declared.Came.{Came}
use Rattle.discrimination.specs.declared.Came.TheVariants.{Malformed, Foreign, Delivered, Managed, Passed}
use Rattle.discrimination.specs.Sorted.{of_managed, of_passed}

module _ {A : Type 0} (P : A → Type 0) (others : A) (holds : P others) where
  pub by_managed : (said : Order → A) → ((order : Order) → P (said order)) → (came : Came) → P (of_managed others said came)
  by_managed said each Malformed = holds
  by_managed said each Foreign = holds
  by_managed said each Delivered = holds
  by_managed said each (Managed order) = each order
  by_managed said each (Passed label) = holds

  pub by_passed : (said : Label → A) → ((label : Label) → P (said label)) → (came : Came) → P (of_passed others said came)
  by_passed said each Malformed = holds
  by_passed said each Foreign = holds
  by_passed said each Delivered = holds
  by_passed said each (Managed order) = holds
  by_passed said each (Passed label) = each label
