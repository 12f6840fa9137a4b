mod NextCalls
mod Answered
mod CellLists
mod Marked
mod CallTurns
mod SetTurns
mod BirthTurns
mod CollectorTurns
mod ThreadTurns
pub mod OpenedCore
mod Standing
mod CoreWords
mod Ended
