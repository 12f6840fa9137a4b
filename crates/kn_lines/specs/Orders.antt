-- The words of the order: who takes turns, and until when.
use Rattle.std.specs.Prelude.{ℕ, ◌==◌, ◌||◌, Bool, Option, Some, None, option_map, option_and_then, List, [], ◌∷◌, find, drop, slice_index}
use Rattle.std.specs.Prelude.{bytes_eq, codes, if◌then◌else◌}
use Rattle.kn_base.specs.declared.kinds.Code.{Code}
use Rattle.kn_base.specs.declared.kinds.Code.TheVariants as phase
use Rattle.kn_lines.specs.declared.built.Built.{Built}
use Rattle.kn_lines.specs.declared.built.OrderPart.TheVariants as part
use Rattle.kn_lines.specs.declared.orders.Actor.{Actor}
use Rattle.kn_lines.specs.declared.orders.Actor.TheVariants as who
use Rattle.kn_lines.specs.declared.orders.Until.{Until}
use Rattle.kn_lines.specs.declared.orders.Until.TheVariants as until
use Rattle.kn_lines.specs.declared.orders.OrderWord.{OrderWord}
use Rattle.kn_lines.specs.declared.orders.OrderWord.TheVariants.{Run, Uninstall}
use Rattle.kn_lines.specs.Numbers.{number_of}
use Rattle.kn_lines.specs.Built.{has_part, only_if}

-- `*`, `/` or `@`
abbrev pub is_sign : ℕ → Bool
is_sign byte = byte == 42 || (byte == 47 || byte == 64)

-- a word cut at its first sign
pub record Cut : Type 0 where
  pub before : List ℕ
  pub sign : ℕ
  pub behind : List ℕ

abbrev pub cut_of : List ℕ → Option Cut
cut_of [] = None
cut_of (byte ∷ bytes) =
    if is_sign byte
    then Some (record { before = []; sign = byte; behind = bytes })
    else option_map (λ (cut : Cut). record cut { before = byte ∷ cut.before }) (cut_of bytes)

-- how the code of a phase is spelled
abbrev pub code_spelling : Code → List ℕ
code_spelling phase.Idle = codes "idle"
code_spelling phase.StopA = codes "stopa"
code_spelling phase.Mark = codes "mark"
code_spelling phase.Weak = codes "weak"
code_spelling phase.StopB = codes "stopb"
code_spelling phase.Prep = codes "prep"
code_spelling phase.Sweep = codes "sweep"

abbrev pub all_codes : List Code
all_codes = phase.Idle ∷ phase.StopA ∷ phase.Mark ∷ phase.Weak ∷ phase.StopB ∷ phase.Prep ∷ phase.Sweep ∷ []

abbrev pub code_of : List ℕ → Option Code
code_of word = find (λ code. bytes_eq word (code_spelling code)) all_codes

-- `r`, `c`, `f` or the number of a thread
abbrev pub actor_of : Built → List ℕ → Option Actor
actor_of built word =
    if bytes_eq word (codes "r") then only_if (has_part built part.Round) (Some who.Round)
    else (if bytes_eq word (codes "c") then only_if (has_part built part.Collector) (Some who.Collector)
    else (if bytes_eq word (codes "f") then only_if (has_part built part.Finalizer) (Some who.Finalizer)
    else only_if (has_part built part.Thread) (option_map (λ n. who.Thread n) (number_of word))))

-- what follows a sign: `*N`, `/N` or `@P`
abbrev pub until_of : Built → ℕ → List ℕ → Option Until
until_of built sign behind =
    if sign == 42 then only_if (has_part built part.Turns) (option_map (λ n. until.Turns n) (number_of behind))
    else (if sign == 47 then only_if (has_part built part.Calls) (option_map (λ n. until.Calls n) (number_of behind))
    else only_if (has_part built part.Code) (option_map (λ p. until.Code p) (code_of behind)))

-- an actor runs until then; calls are counted of a thread alone
abbrev pub run_of : Actor → Until → Option OrderWord
run_of (who.Thread n) u = Some (Run (who.Thread n) u)
run_of actor (until.Calls n) = None
run_of actor u = Some (Run actor u)

-- calls are counted of a thread alone
abbrev pub IsApart : OrderWord → Type 0
IsApart (Run (who.Thread n) u) = Unit {0}
IsApart (Run _ (until.Calls n)) = ⊥
IsApart _ = Unit {0}

-- one turn, or one round, of an actor
abbrev pub turn_of : Option Actor → Option OrderWord
turn_of actor = option_map (λ a. Run a (until.Turns 1)) actor

-- an actor and an end, where there are both
abbrev pub join : Option Actor → Option Until → Option OrderWord
join actor u = option_and_then (λ a. option_and_then (run_of a) u) actor

-- `u` and the number of a cleaner
abbrev pub uninstall_of : Built → List ℕ → Option OrderWord
uninstall_of built number = only_if (has_part built part.Uninstall) (option_map (λ n. Uninstall n) (number_of number))

-- a word without a sign: `uC`, or an actor, who runs for one turn or one round
abbrev pub alone_of : Built → List ℕ → Option OrderWord
alone_of built word =
    if slice_index word 0 == 117
    then uninstall_of built (drop 1 word)
    else turn_of (actor_of built word)

-- a word with a sign
abbrev pub joined_of : Built → Cut → Option OrderWord
joined_of built cut = join (actor_of built cut.before) (until_of built cut.sign cut.behind)

abbrev pub of_cut : Built → List ℕ → Option Cut → Option OrderWord
of_cut built word None = alone_of built word
of_cut built word (Some cut) = joined_of built cut

-- the order word that a word spells, where its parts are built
unfoldable pub order_of : Built → List ℕ → Option OrderWord
order_of built word = of_cut built word (cut_of word)
