-- The words of the program.
use Rattle.std.specs.Prelude.{◌≡◌, ℕ, List, [], ◌∷◌, codes, if◌then◌else◌}
use Rattle.std.specs.Str.{bytes_eq}

-- the words without the first `--`, wherever it stands
abbrev pub without_dashes : List (List ℕ) → List (List ℕ)
without_dashes [] = []
without_dashes (word ∷ words) = if bytes_eq word (codes "--") then words else word ∷ without_dashes words

-- the words ask for a form of the program
abbrev pub Asks : List ℕ → List (List ℕ) → Type 0
Asks form words = without_dashes words ≡ form ∷ []

abbrev pub AskTrace : List (List ℕ) → Type 0
AskTrace = Asks (codes "trace")

abbrev pub AskCms : List (List ℕ) → Type 0
AskCms = Asks (codes "cms")
