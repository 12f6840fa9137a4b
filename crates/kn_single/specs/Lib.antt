pub mod SingleState
