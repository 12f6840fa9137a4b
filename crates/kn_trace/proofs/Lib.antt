mod Keeping
mod Flags
mod Logs
mod Ends
mod Turning
pub mod FirstPages
mod Opening
mod Starting
