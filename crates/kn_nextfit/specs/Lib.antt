pub mod NextFitState
