pub mod SlotRows
