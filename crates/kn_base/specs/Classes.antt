-- The classes of pages and their numbers.
use Rattle.std.specs.Prelude.{ℕ}
use Rattle.kn_base.specs.declared.classes.PageClass.{PageClass}
use Rattle.kn_base.specs.declared.classes.PageClass.TheVariants.{Fixed, NextFit, Single, Extra}
use Rattle.kn_base.specs.declared.classes.TheConstants.{LEAST_CELL, MOST_CELL, NEXT_FIT_CLASS, SINGLE_CLASS, EXTRA_CLASS}
use Rattle.kn_base.specs.Sizes.{Between}

-- as many words as a fixed cell may have
abbrev pub IsCellSize : ℕ → Type 0
IsCellSize words = Between LEAST_CELL MOST_CELL words

-- the cells of a fixed class have a size that they may have
abbrev pub IsClass : PageClass → Type 0
IsClass (Fixed words) = IsCellSize words
IsClass NextFit = Unit {0}
IsClass Single = Unit {0}
IsClass Extra = Unit {0}

-- the number of a class: the words of a fixed cell, or one of the three numbers behind them
abbrev pub class_number : PageClass → ℕ
class_number (Fixed words) = words
class_number NextFit = NEXT_FIT_CLASS
class_number Single = SINGLE_CLASS
class_number Extra = EXTRA_CLASS

-- the numbers of classes
abbrev pub IsClassNumber : ℕ → Type 0
IsClassNumber number = Between LEAST_CELL EXTRA_CLASS number
