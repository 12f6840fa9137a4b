-- What is kept of the numbers of a line, each within its type.
use Rattle.std.specs.Prelude.{◌≡◌, ℕ, ◌<◌, ◌≤◌, min, option_map, List, [], ◌∷◌, filter_map}
use Rattle.kn_graph.specs.declared.arguments.Argument.{Argument}
use Rattle.kn_graph.specs.declared.arguments.Argument.TheVariants as argument
use Rattle.kn_graph.specs.declared.calls.Call.{Call}
use Rattle.kn_graph.specs.Arguments.{arguments_of, word_of, numbers_of}
use Rattle.kn_lines.specs.declared.built.Built.{Built}
use Rattle.kn_lines.specs.declared.orders.Actor.{Actor}
use Rattle.kn_lines.specs.declared.orders.Actor.TheVariants as who
use Rattle.kn_lines.specs.declared.orders.Until.{Until}
use Rattle.kn_lines.specs.declared.orders.Until.TheVariants as until
use Rattle.kn_lines.specs.declared.orders.OrderWord.{OrderWord}
use Rattle.kn_lines.specs.declared.orders.OrderWord.TheVariants.{Run, Uninstall}
use Rattle.kn_lines.specs.Orders.{order_of}

-- an order word with the greatest number of its type in place of a larger one, which is out of range as well
abbrev pub capped_actor : Actor → Actor
capped_actor (who.Thread n) = who.Thread (min n 255)
capped_actor who.Collector = who.Collector
capped_actor who.Finalizer = who.Finalizer
capped_actor who.Round = who.Round

abbrev pub capped_until : Until → Until
capped_until (until.Turns n) = until.Turns (min n 4294967295)
capped_until (until.Calls n) = until.Calls (min n 4294967295)
capped_until (until.Code p) = until.Code p

abbrev pub capped : OrderWord → OrderWord
capped (Run actor u) = Run (capped_actor actor) (capped_until u)
capped (Uninstall n) = Uninstall (min n 255)

-- nothing is lost of the order words that words spell
abbrev pub AreKeptWhole : Built → List (List ℕ) → Type 0
AreKeptWhole built words = filter_map (λ word. option_map capped (order_of built word)) words ≡ filter_map (order_of built) words

-- a number small enough for the type of its argument
abbrev pub IsSmall : Argument → ℕ → Type 0
IsSmall (argument.Number greatest) n = n ≤ greatest
IsSmall _ n = n < 64

abbrev pub AllSmall : List Argument → List ℕ → Type 0
AllSmall [] ns = Unit {0}
AllSmall (a ∷ arguments) [] = ⊥
AllSmall (a ∷ arguments) (n ∷ ns) = IsSmall a n × AllSmall arguments ns

abbrev pub IsSmallCall : Call → Type 0
IsSmallCall call = AllSmall (arguments_of (word_of call)) (numbers_of call)
