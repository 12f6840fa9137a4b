-- The laws of the grammar, whatever is built.
use Rattle.std.specs.Prelude.{◌≡◌, ◌⊎◌, ℕ, List}
use Rattle.kn_graph.specs.Ground.{IsGoodGround}
use Rattle.kn_lines.specs.declared.built.Built.{Built}
use Rattle.kn_lines.specs.Lines.{Numbered}
use Rattle.kn_script.specs.declared.faults.Why.{Why}
use Rattle.kn_script.specs.Scripts.{Scripted, Progress, ground_of}
use Rattle.kn_script.specs.Reasons.{Meets, IsFirst}
use Rattle.kn_script.specs.Grammar.{Takes, IsText, IsBad}
use Rattle.kn_script.specs.Good.{IsGoodScript}

-- each line is taken by a progress, or has a first reason there
abbrev pub EachLineIsTakenOrBad : Type 0
EachLineIsTakenOrBad = (p : Progress) (line : Numbered) → ((q : Progress) × Takes p line q) ⊎ ((why : Why) × IsFirst p line why)

-- a line that is taken meets no reason
abbrev pub NoLineIsBoth : Type 0
NoLineIsBoth = (p q : Progress) (line : Numbered) (why : Why) → Takes p line q → Meets p line why → ⊥

-- all bytes are the text of a script, or have a first bad line
abbrev pub EachTextIsOneOrBad : Built → Type 0
EachTextIsOneOrBad built =
    (bytes : List ℕ) → ((s : Scripted) × IsText built s bytes) ⊎ ((n : ℕ) × (why : Why) × IsBad built bytes n why)

-- no text has a bad line
abbrev pub NoTextIsBad : Built → Type 0
NoTextIsBad built = (s : Scripted) (bytes : List ℕ) (n : ℕ) (why : Why) → IsText built s bytes → IsBad built bytes n why → ⊥

-- bytes are the text of one script at most
abbrev pub TextsAreOfOneScript : Built → Type 0
TextsAreOfOneScript built = (s t : Scripted) (bytes : List ℕ) → IsText built s bytes → IsText built t bytes → s ≡ t

-- every text is of a good script
abbrev pub TextsAreGood : Built → Type 0
TextsAreGood built = (s : Scripted) (bytes : List ℕ) → IsText built s bytes → IsGoodScript s

-- the graph of a good script lives on a good ground
abbrev pub GroundsAreGood : Type 0
GroundsAreGood = (s : Scripted) → IsGoodScript s → IsGoodGround (ground_of s)
