pub mod ExtraState
