pub mod ReasonLemmas
pub mod OrderFits
pub mod GrammarLemmas
pub mod ValueLemmas
pub mod SizeLemmas
pub mod FitLemmas
pub mod GoodLemmas
pub mod BuiltLemmas
