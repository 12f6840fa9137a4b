mod EndLemmas
mod WordLemmas
mod EndsApart
