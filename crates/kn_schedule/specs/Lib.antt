pub mod Asks
pub mod Schedules
