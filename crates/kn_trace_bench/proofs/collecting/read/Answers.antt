use Rattle.std.proofs.Common.{◌≡◌, true, false, List, [], ◌∷◌}
use Rattle.std.specs.List.{AllByRecursion}
use Rattle.kn_graph.specs.declared.calls.Call.{Call}
use Rattle.kn_graph.specs.declared.calls.Call.TheVariants.{New, NewArray, Copy, Clear, Same, Get, Set, Put, Read, GlobalSet, GlobalGet, Pin, Unpin}
use Rattle.kn_graph.specs.declared.calls.Call.TheVariants.{StableGet, MakeWeak, WeakGet, MakeBack, Retain, Release, BackGet, Tie, Collect}
use Rattle.kn_graph.specs.Arguments.{word_of}
use Rattle.kn_rule.specs.Allowed.{IsBuilt}
use Rattle.kn_lines.specs.Built.{AreBuilt, has_call}
use Rattle.kn_trace_bench.specs.declared.collecting.TheConstants.{WITH_COLLECT}
use Rattle.kn_trace_bench.proofs.collecting.read.Goals as goal

-- a call whose word is built here is built in the rule
built_call : (call : Call) → has_call WITH_COLLECT (word_of call) ≡ true → IsBuilt call
built_call (New r l) e = tt
built_call (NewArray r l n) e = tt
built_call (Copy r s) e = tt
built_call (Clear r) e = tt
built_call (Same r s) e = tt
built_call (Get r s f) e = tt
built_call (Set s f r) e = tt
built_call (Put s f n) e = tt
built_call (Read s f) e = tt
built_call (GlobalSet g r) e = tt
built_call (GlobalGet r g) e = tt
built_call (Pin h r) e = let no : false ≡ true = e in absurd (cc)
built_call (Unpin h) e = let no : false ≡ true = e in absurd (cc)
built_call (StableGet r h) e = let no : false ≡ true = e in absurd (cc)
built_call (MakeWeak w r) e = let no : false ≡ true = e in absurd (cc)
built_call (WeakGet r w) e = let no : false ≡ true = e in absurd (cc)
built_call (MakeBack b r) e = let no : false ≡ true = e in absurd (cc)
built_call (Retain b) e = let no : false ≡ true = e in absurd (cc)
built_call (Release b) e = let no : false ≡ true = e in absurd (cc)
built_call (BackGet r b) e = let no : false ≡ true = e in absurd (cc)
built_call (Tie r c n) e = let no : false ≡ true = e in absurd (cc)
built_call Collect e = tt

built_calls : (calls : List Call) → AllByRecursion (λ call. has_call WITH_COLLECT (word_of call) ≡ true) calls → AllByRecursion IsBuilt calls
built_calls [] all = tt
built_calls (call ∷ calls) all = (built_call call all.0, built_calls calls all.1)

built_threads : (threads : List (List Call)) → AreBuilt WITH_COLLECT threads → AllByRecursion (AllByRecursion IsBuilt) threads
built_threads [] all = tt
built_threads (calls ∷ threads) all = (built_calls calls all.0, built_threads threads all.1)

pub returns-in-Ok-clause-built : goal.returns-in-Ok-clause-built
returns-in-Ok-clause-built c = built_threads c.in-Ok.script.threads c.in-Ok.ensures.words
