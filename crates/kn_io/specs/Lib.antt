pub mod Counts
pub mod Told
pub mod Devices
pub mod CallLog
pub mod States
pub mod Ends
pub mod StdDevices
