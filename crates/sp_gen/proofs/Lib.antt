pub mod DrawLemmas
pub mod TextLemmas
pub mod LengthLemmas
pub mod InputLemmas
