-- Which words a list has for the core: its nine calls, every header word, and what its order words are made of.
use Rattle.std.specs.Prelude.{◌≡◌, Bool, true, false}
use Rattle.kn_graph.specs.declared.calls.Call.{Call}
use Rattle.kn_graph.specs.Arguments.{word_of}
use Rattle.kn_lines.specs.declared.built.Built.{Built}
use Rattle.kn_lines.specs.declared.built.HeaderWord.{HeaderWord}
use Rattle.kn_lines.specs.declared.built.OrderPart.{OrderPart}
use Rattle.kn_lines.specs.declared.built.OrderPart.TheVariants as part
use Rattle.kn_lines.specs.Built.{has_call, has_header, has_part}
use Rattle.kn_cms_rule.specs.Calls.{is_core_call}

-- the list has exactly the words of the core's calls
abbrev pub HasCoreCalls : Built → Type 0
HasCoreCalls built = (call : Call) → has_call built (word_of call) ≡ is_core_call call

-- the list has every header word
abbrev pub HasAllHeaders : Built → Type 0
HasAllHeaders built = (word : HeaderWord) → has_header built word ≡ true

-- the core's order words are made of a thread's number, `c`, `r`, `*N` and `/N`
abbrev pub is_core_part : OrderPart → Bool
is_core_part part.Thread = true
is_core_part part.Collector = true
is_core_part part.Finalizer = false
is_core_part part.Round = true
is_core_part part.Turns = true
is_core_part part.Calls = true
is_core_part part.Code = false
is_core_part part.Uninstall = false

-- the list has exactly the parts of the core's order words
abbrev pub HasCoreParts : Built → Type 0
HasCoreParts built = (p : OrderPart) → has_part built p ≡ is_core_part p
