pub mod NextFit
