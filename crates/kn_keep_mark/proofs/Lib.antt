pub mod Collected
pub mod RaiseLaw
pub mod CollectorLaws
pub mod CountLaw
pub mod Opening
pub mod PhaseLaws
pub mod Keeps
pub mod Withins
