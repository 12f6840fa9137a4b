-- Which bytes are the text of which script, and where other bytes are bad.
use Rattle.std.specs.Prelude.{◌≡◌, ◌⊎◌, ℕ, ◌<◌, ◌≤◌, false, Some, Result, Ok, Err, List, [], ◌∷◌, length, take}
use Rattle.kn_base.specs.declared.limits.TheConstants.{LONGEST_TEXT}
use Rattle.kn_base.specs.Texts.{line_behind}
use Rattle.kn_lines.specs.declared.built.FirstWord.{FirstWord}
use Rattle.kn_lines.specs.declared.built.Built.{Built}
use Rattle.kn_lines.specs.declared.built.TheConstants.{TODAY}
use Rattle.kn_lines.specs.Built.{first_word_of}
use Rattle.kn_lines.specs.Lines.{Numbered, unread, has_odd_byte}
use Rattle.kn_script.specs.declared.faults.Fault.{Fault}
use Rattle.kn_script.specs.declared.faults.Fault.TheVariants.{Bad, Memory}
use Rattle.kn_script.specs.declared.faults.Why.{Why}
use Rattle.kn_script.specs.declared.faults.Why.TheVariants.{Count, Long}
use Rattle.kn_script.specs.Scripts.{Scripted, Progress}
use Rattle.kn_script.specs.Progress.{start, behind, script_of}
use Rattle.kn_script.specs.Reasons.{MeetsNone, IsFirst}

-- a good line, and the progress behind it
pub record Takes (p : Progress) (line : Numbered) (q : Progress) : Type 0 where
  pub word : FirstWord
  pub plain : has_odd_byte line.text ≡ false
  pub known : first_word_of p.built line.name ≡ Some word
  pub meets_none : MeetsNone p word line.arguments
  pub after : q ≡ behind p word line.arguments

-- the required lines have come
abbrev pub IsWhole : Progress → Type 0
IsWhole p = 3 ≤ p.stage

-- the lines are good, one after another, and no required line is missing
abbrev pub Reads : Progress → List Numbered → Scripted → Type 0
Reads p [] s = IsWhole p × (script_of p ≡ s)
Reads p (line ∷ lines) s = (q : Progress) × Takes p line q × Reads q lines s

-- the lines are good up to the first bad one, or a required line is missing at their end
abbrev pub IsBadAmong : Progress → List Numbered → ℕ → ℕ → Why → Type 0
IsBadAmong p [] end n why = (p.stage < 3) × (n ≡ end) × (why ≡ Count)
IsBadAmong p (line ∷ lines) end n why =
    ((n ≡ line.number) × IsFirst p line why) ⊎ ((q : Progress) × Takes p line q × IsBadAmong q lines end n why)

-- what the lines that are left give is what all lines give
pub record Behind (first : Progress) (all : List Numbered) (end : ℕ) (p : Progress) (left : List Numbered) : Type 0 where
  pub reads : (s : Scripted) → Reads p left s → Reads first all s
  pub bad : (n : ℕ) (why : Why) → IsBadAmong p left end n why → IsBadAmong first all end n why

-- what holds of the line and the reason that are told
abbrev pub IfBad : {X : Type 0} → Result X Fault → (ℕ → Why → Type 0) → Type 0
IfBad (Ok x) P = Unit {0}
IfBad (Err Memory) P = Unit {0}
IfBad (Err (Bad line why)) P = P line why

-- the bytes are the text of the script, in the words that are built
pub record IsText (built : Built) (s : Scripted) (bytes : List ℕ) : Type 0 where
  pub short : length bytes ≤ LONGEST_TEXT
  pub reads : Reads (start built) (unread 1 bytes).left s

-- the text is too long, which is told at the line that follows its greatest length
pub record IsLong (bytes : List ℕ) (n : ℕ) (why : Why) : Type 0 where
  pub long : LONGEST_TEXT < length bytes
  pub line : n ≡ line_behind (take LONGEST_TEXT bytes)
  pub reason : why ≡ Long

-- the text is short enough, and this is its first bad line, with its first reason
pub record IsBadLine (built : Built) (bytes : List ℕ) (n : ℕ) (why : Why) : Type 0 where
  pub short : length bytes ≤ LONGEST_TEXT
  pub bad : IsBadAmong (start built) (unread 1 bytes).left (unread 1 bytes).end n why

-- the bytes are no text, and this line and reason are told
abbrev pub IsBad : Built → List ℕ → ℕ → Why → Type 0
IsBad built bytes n why = IsLong bytes n why ⊎ IsBadLine built bytes n why

-- the bytes are the text of the script, and no text, in the words that are built today
abbrev pub IsTextToday : Scripted → List ℕ → Type 0
IsTextToday s bytes = IsText TODAY s bytes

abbrev pub IsBadToday : List ℕ → ℕ → Why → Type 0
IsBadToday bytes n why = IsBad TODAY bytes n why
