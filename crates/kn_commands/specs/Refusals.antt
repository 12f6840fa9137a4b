-- The line that tells why a script is refused.
use Rattle.std.specs.Prelude.{ℕ, List, ◌++◌, codes, decimal}
use Rattle.kn_script.specs.declared.faults.Why.{Why}
use Rattle.kn_script.specs.declared.faults.Why.TheVariants.{Word, Number, Range, Count, Order, Late, Long}

-- how a reason is spelled
abbrev pub why_text : Why → List ℕ
why_text Word = codes "word"
why_text Number = codes "number"
why_text Range = codes "range"
why_text Count = codes "count"
why_text Order = codes "order"
why_text Late = codes "late"
why_text Long = codes "long"

-- the number of a bad line, and its reason
abbrev pub refusal : ℕ → Why → List ℕ
refusal line why = codes "line " ++ decimal line ++ codes " " ++ why_text why
