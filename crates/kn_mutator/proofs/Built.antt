-- Which calls are at their own steps.
use Rattle.std.proofs.Common.{◌≡◌, ℕ, false, None, refl, sym}
use Rattle.std.proofs.lemmas.Bool.{true≢false}
use Rattle.std.proofs.lemmas.Option.{none-some}
use Rattle.kn_graph.specs.declared.calls.Call.{Call}
use Rattle.kn_graph.specs.declared.calls.Call.TheVariants.{New, NewArray, Copy, Clear, Same, Get, Set, Put, Read, GlobalSet, GlobalGet}
use Rattle.kn_graph.specs.declared.calls.Call.TheVariants as calls
use Rattle.kn_graph.specs.Counts.{makes_object}
use Rattle.kn_mutator.specs.Begun.{alone}
use Rattle.kn_rule.specs.Allowed.{IsBuilt}
use Rattle.kn_mutator.specs.Mutating.{Mutating}

-- a call that is built, makes no object and is not answered by the view alone is one of these
pub no_other : (m : Mutating) (call : Call) → IsBuilt call → makes_object call ≡ false → alone m call ≡ None →
    ((x y : ℕ) → call ≡ Copy x y → ⊥) →
    ((x : ℕ) → call ≡ Clear x → ⊥) →
    ((x y z : ℕ) → call ≡ Get x y z → ⊥) →
    ((x y z : ℕ) → call ≡ Set x y z → ⊥) →
    ((x y z : ℕ) → call ≡ Put x y z → ⊥) →
    ((x y : ℕ) → call ≡ Read x y → ⊥) →
    ((x y : ℕ) → call ≡ GlobalSet x y → ⊥) →
    ((x y : ℕ) → call ≡ GlobalGet x y → ⊥) →
    (call ≡ calls.Collect → ⊥) →
    ⊥
no_other m (New r l) built birth e copy clear get set put read global_set global_get collect = true≢false birth
no_other m (NewArray r l n) built birth e copy clear get set put read global_set global_get collect = true≢false birth
no_other m (Copy r t) built birth e copy clear get set put read global_set global_get collect = copy r t refl
no_other m (Clear r) built birth e copy clear get set put read global_set global_get collect = clear r refl
no_other m (Same r t) built birth e copy clear get set put read global_set global_get collect = none-some _ (sym e)
no_other m (Get r t n) built birth e copy clear get set put read global_set global_get collect = get r t n refl
no_other m (Set t n r) built birth e copy clear get set put read global_set global_get collect = set t n r refl
no_other m (Put t n w) built birth e copy clear get set put read global_set global_get collect = put t n w refl
no_other m (Read t n) built birth e copy clear get set put read global_set global_get collect = read t n refl
no_other m (GlobalSet n r) built birth e copy clear get set put read global_set global_get collect = global_set n r refl
no_other m (GlobalGet r n) built birth e copy clear get set put read global_set global_get collect = global_get r n refl
no_other m (calls.Pin n r) built birth e copy clear get set put read global_set global_get collect = built
no_other m (calls.Unpin n) built birth e copy clear get set put read global_set global_get collect = built
no_other m (calls.StableGet r n) built birth e copy clear get set put read global_set global_get collect = built
no_other m (calls.MakeWeak n r) built birth e copy clear get set put read global_set global_get collect = built
no_other m (calls.WeakGet r n) built birth e copy clear get set put read global_set global_get collect = built
no_other m (calls.MakeBack n r) built birth e copy clear get set put read global_set global_get collect = built
no_other m (calls.Retain n) built birth e copy clear get set put read global_set global_get collect = built
no_other m (calls.Release n) built birth e copy clear get set put read global_set global_get collect = built
no_other m (calls.BackGet r n) built birth e copy clear get set put read global_set global_get collect = built
no_other m (calls.Tie r n w) built birth e copy clear get set put read global_set global_get collect = built
no_other m calls.Collect built birth e copy clear get set put read global_set global_get collect = collect refl
