-- Which words the core reads.
use Rattle.std.proofs.Common.{◌≡◌, true, false, List, [], ◌∷◌, refl}
use Rattle.std.specs.List.{AllByRecursion}
use Rattle.kn_graph.specs.declared.calls.Call.{Call}
use Rattle.kn_graph.specs.declared.calls.Call.TheVariants as call
use Rattle.kn_lines.specs.declared.built.HeaderWord.TheVariants as header
use Rattle.kn_lines.specs.declared.built.OrderPart.TheVariants as part
use Rattle.kn_lines.specs.Built.{AreBuilt, IsBuilt}
use Rattle.kn_cms_rule.specs.Calls.{is_core_call}
use Rattle.kn_cms.specs.declared.words.TheConstants.{CORE_WORDS}
use Rattle.kn_cms.specs.CoreWords.{HasAllHeaders, HasCoreCalls, HasCoreParts}

core_call : (c : Call) → IsBuilt CORE_WORDS c → is_core_call c ≡ true
core_call (call.New r l) e = refl
core_call (call.NewArray r l n) e = refl
core_call (call.Copy r s) e = refl
core_call (call.Clear r) e = refl
core_call (call.Same r s) e = refl
core_call (call.Get r s f) e = refl
core_call (call.Set s f r) e = refl
core_call (call.GlobalSet i r) e = refl
core_call (call.GlobalGet r i) e = refl
core_call _ e = let f : false ≡ true = e in absurd (cc)

all_core : (calls : List Call) → AllByRecursion (IsBuilt CORE_WORDS) calls → AllByRecursion (λ c. is_core_call c ≡ true) calls
all_core [] h = tt
all_core (c ∷ calls) h = (core_call c h.0, all_core calls h.1)

pub core_calls : (threads : List (List Call)) → AreBuilt CORE_WORDS threads → AllByRecursion (AllByRecursion (λ c. is_core_call c ≡ true)) threads
core_calls [] h = tt
core_calls (calls ∷ threads) h = (all_core calls h.0, core_calls threads h.1)

pub has_core_calls : HasCoreCalls CORE_WORDS
has_core_calls (call.New r l) = refl
has_core_calls (call.NewArray r l n) = refl
has_core_calls (call.Copy r s) = refl
has_core_calls (call.Clear r) = refl
has_core_calls (call.Same r s) = refl
has_core_calls (call.Get r s f) = refl
has_core_calls (call.Set s f r) = refl
has_core_calls (call.GlobalSet i r) = refl
has_core_calls (call.GlobalGet r i) = refl
has_core_calls _ = refl

pub has_all_headers : HasAllHeaders CORE_WORDS
has_all_headers header.Heap = refl
has_all_headers header.Names = refl
has_all_headers header.Layout = refl
has_all_headers header.Threads = refl
has_all_headers header.Turns = refl
has_all_headers header.Thread = refl
has_all_headers header.Order = refl

pub has_core_parts : HasCoreParts CORE_WORDS
has_core_parts part.Thread = refl
has_core_parts part.Collector = refl
has_core_parts part.Finalizer = refl
has_core_parts part.Round = refl
has_core_parts part.Turns = refl
has_core_parts part.Calls = refl
has_core_parts part.Code = refl
has_core_parts part.Uninstall = refl
