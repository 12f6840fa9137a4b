-- What locals, globals and names hold, as lists.
use Rattle.std.specs.Prelude.{◌≡◌, ℕ, ◌<◌, Option, None, List, length, replicate, slice_index_or, []}
use Rattle.kn_base.specs.declared.heap.Sizes.{Sizes}

-- the locals of each thread, the globals, and the names, by object number, and the counts of back names
pub record KeptHolders : Type 0 where
  pub locals : List (List (Option ℕ))
  pub globals : List (Option ℕ)
  pub stable : List (Option ℕ)
  pub weak : List (Option ℕ)
  pub back : List (Option ℕ)
  pub counts : List ℕ

-- as many as the sizes say, and none holds anything
abbrev pub no_holders : Sizes → KeptHolders
no_holders z = record {
  locals = replicate z.threads (replicate 16 None);
  globals = replicate z.globals None;
  stable = replicate z.stable None;
  weak = replicate z.weak None;
  back = replicate z.back None;
  counts = replicate z.back 0;
}

-- there are as many of each as the sizes say, and sixteen locals for each thread
pub record AreSized (z : Sizes) (h : KeptHolders) : Type 0 where
  pub threads : length h.locals ≡ z.threads
  pub locals : (thread : ℕ) → thread < z.threads → length (slice_index_or h.locals thread []) ≡ 16
  pub globals : length h.globals ≡ z.globals
  pub stable : length h.stable ≡ z.stable
  pub weak : length h.weak ≡ z.weak
  pub back : length h.back ≡ z.back
  pub counts : length h.counts ≡ z.back
