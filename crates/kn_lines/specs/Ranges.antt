-- The ranges of the numbers of a line.
use Rattle.std.specs.Prelude.{ℕ, ◌+◌, ◌*◌, ◌<◌, nat_lt, nat_le, Bool, false, not, ◌&&◌, ◌||◌, IfSome, List, [], ◌∷◌, length}
use Rattle.std.specs.Prelude.{slice_index, slice_index_or, bytes_eq, codes}
use Rattle.std.specs.List.{AllByRecursion}
use Rattle.kn_base.specs.Sizes.{Between}
use Rattle.kn_base.specs.declared.limits.TheConstants.{MOST_FIELDS, MOST_FRAMES, MOST_HEAP_WORDS, MOST_CLEANERS}
use Rattle.kn_lines.specs.declared.built.Built.{Built}
use Rattle.kn_lines.specs.declared.orders.TheConstants.{MOST_TIMES}
use Rattle.kn_lines.specs.declared.orders.Actor.{Actor}
use Rattle.kn_lines.specs.declared.orders.Actor.TheVariants as who
use Rattle.kn_lines.specs.declared.orders.Until.{Until}
use Rattle.kn_lines.specs.declared.orders.Until.TheVariants as until
use Rattle.kn_lines.specs.declared.orders.OrderWord.{OrderWord}
use Rattle.kn_lines.specs.declared.orders.OrderWord.TheVariants.{Run, Uninstall}
use Rattle.kn_lines.specs.declared.forms.Wanted.{Wanted}
use Rattle.kn_lines.specs.declared.forms.Wanted.TheVariants as wanted
use Rattle.kn_lines.specs.Orders.{order_of}

-- a number outside of two others
abbrev pub is_outside : ℕ → ℕ → ℕ → Bool
is_outside least greatest n = nat_lt n least || nat_lt greatest n

-- a number of turns or calls out of its range
abbrev pub is_until_outside : Until → Bool
is_until_outside (until.Turns n) = is_outside 1 MOST_TIMES n
is_until_outside (until.Calls n) = is_outside 1 MOST_TIMES n
is_until_outside (until.Code p) = false

-- numbers from the least to the greatest ones of the places at which they stand
abbrev pub IsWithin : Wanted → ℕ → Type 0
IsWithin (wanted.Number least greatest) n = Between least greatest n
IsWithin _ n = Unit {0}

abbrev pub AreWithin : List Wanted → List ℕ → Type 0
AreWithin [] ns = Unit {0}
AreWithin (w ∷ places) [] = Unit {0}
AreWithin (w ∷ places) (n ∷ ns) = IsWithin w n × AreWithin places ns

-- more frames or words than a heap may have, tested as soon as all their numbers are there
abbrev pub is_large_heap : List ℕ → ℕ → Bool
is_large_heap ns count =
    (nat_le 5 count && nat_lt MOST_FRAMES (slice_index ns 0 + slice_index ns 2 + slice_index ns 4))
    || (nat_le 6 count
    && nat_lt MOST_HEAP_WORDS (slice_index ns 0 * slice_index ns 1 + slice_index ns 2 * slice_index ns 3 + slice_index ns 4 * slice_index ns 5))

-- a layout line of fields with more words than a layout may have
abbrev pub is_long_layout : List (List ℕ) → Bool
is_long_layout words = not (bytes_eq (slice_index_or words 0 []) (codes "array")) && nat_lt (MOST_FIELDS + 1) (length words)

-- an actor that is there
abbrev pub IsActor : ℕ → Actor → Type 0
IsActor threads (who.Thread n) = n < threads
IsActor threads _ = Unit {0}

-- an end that is in range for this actor; calls are counted of a thread alone
abbrev pub IsUntil : Actor → Until → Type 0
IsUntil (who.Thread n) (until.Calls count) = Between 1 MOST_TIMES count
IsUntil _ (until.Calls count) = ⊥
IsUntil actor (until.Turns count) = Between 1 MOST_TIMES count
IsUntil actor (until.Code p) = Unit {0}

-- an order word in its ranges, with so many threads
abbrev pub IsOrderWord : ℕ → OrderWord → Type 0
IsOrderWord threads (Run actor u) = IsActor threads actor × IsUntil actor u
IsOrderWord threads (Uninstall cleaner) = cleaner < MOST_CLEANERS

-- the order words that words spell are in their ranges, with so many threads
abbrev pub AreInRange : Built → ℕ → List (List ℕ) → Type 0
AreInRange built threads words = AllByRecursion (λ word. IfSome (order_of built word) (IsOrderWord threads)) words
