pub mod Sums
pub mod ThreadWork
pub mod CollectorWork
pub mod Turned
pub mod OneStep
pub mod OneTurn
