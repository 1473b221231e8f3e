pub mod KeptBack
