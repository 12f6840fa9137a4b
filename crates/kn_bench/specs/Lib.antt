pub mod HoldsCells
