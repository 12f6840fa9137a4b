pub mod WordsStand
pub mod Laws
