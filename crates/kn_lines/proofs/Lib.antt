pub mod PieceLemmas
pub mod NumberLemmas
pub mod OrderLemmas
pub mod WordLemmas
