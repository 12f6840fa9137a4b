pub mod FixedState
