-- `fate_places::message_at` meets its contract: the slot at the place is read, and its row. Assumes nothing.
use Rattle.fate_places.specs.Places.{message_at}
use Rattle.fate_places.proofs.message_at.Goals as goal

pub returns : goal.returns
unfolding message_at
returns c = simp (c.load_slot.ensures, c.at-taken.ensures)
