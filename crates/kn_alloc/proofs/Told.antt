-- What a turn leaves of its caller's view.
use Rattle.std.proofs.Common.{◌≡◌, ℕ, Bool, List, Option, Some, None, slice_set, refl, sym, ap, ◌∙◌, subst}
use Rattle.std.proofs.lemmas.Option.{same_Some}
use Rattle.kn_graph.specs.declared.calls.Call.{Call}
use Rattle.kn_graph.specs.declared.calls.Reply.TheVariants as replies
use Rattle.kn_rule.specs.declared.parts.Taken.{Taken}
use Rattle.kn_rule.specs.declared.positions.Position.{Position}
use Rattle.kn_rule.specs.declared.positions.Position.TheVariants.{Between, Calling, Writing}
use Rattle.kn_rule.specs.Requests.{birth_of}
use Rattle.kn_rule.specs.Steps.{epoch_in, logged, saying}
use Rattle.kn_rule.specs.Views.{Open, Sweep, View}
use Rattle.kn_steps.specs.Made.{Stand}
use Rattle.kn_alloc.specs.declared.stage.Stage.{Stage}
use Rattle.kn_alloc.specs.declared.stage.Stage.TheVariants.{TooLong}
use Rattle.kn_alloc.specs.declared.stage.AllocTurn.{AllocTurn}
use Rattle.kn_alloc.specs.declared.stage.AllocTurn.TheVariants.{Moved, Born, Full}
use Rattle.kn_alloc.specs.Tells.{TellsView, TellsAt}

-- a caller is at one call
same_call : (p : Position) (x y : Call) → p ≡ Calling x → p ≡ Calling y → x ≡ y
same_call p x y e f = let h = sym e ∙ f in cc

-- nothing is told of a request that is too long
pub tells_none : (stage : Stage) (reply : AllocTurn) (a : Stand) → stage ≡ TooLong → TellsView stage reply a a
tells_none stage reply a is = record { heap = refl; by = refl; view = λ ne. absurd (ne is) }

module _ (stage : Stage) (a b : Stand) (owned : List (Option Open)) (seen : List (Option ℕ)) (refused : List Bool) (taken : Option Taken)
    (sweep : Option Sweep) where
  -- the call goes on
  pub tells_on : b ≡ record a { view = record a.view { owned = owned; seen = seen; refused = refused; taken = taken; sweep = sweep } } →
      TellsView stage Moved a b
  tells_on e = record {
    heap = ap (λ (b : Stand). b.heap) e;
    by = ap (λ (b : Stand). b.by) e;
    view = λ ne call is. subst (λ (b : Stand). TellsAt Moved a call b.view) (sym e) refl;
  }

  abbrev ended : Call → View
  ended call = logged (saying a.by (epoch_in a.view) call replies.Full 0 (record a.view {
    position = Between;
    owned = owned;
    seen = seen;
    refused = refused;
    taken = taken;
    sweep = sweep;
  }))

  -- the call is answered Full
  pub tells_full : (asked : Call) → a.view.position ≡ Calling asked → b ≡ record a { view = ended asked } → TellsView stage Full a b
  tells_full asked at e = record {
    heap = ap (λ (b : Stand). b.heap) e;
    by = ap (λ (b : Stand). b.by) e;
    view = λ ne call is. subst (λ (b : Stand). TellsAt Full a call b.view) (sym e)
        (subst (λ k. TellsAt Full a call (ended k)) (same_call a.view.position call asked is at) refl);
  }

-- where nothing is changed the call goes on
pub tells_still : (stage : Stage) (a b : Stand) → b ≡ a → TellsView stage Moved a b
tells_still stage a b e = tells_on stage a b a.view.owned a.view.seen a.view.refused a.view.taken a.view.sweep e

-- the object was born
module _ (stage : Stage) (a b : Stand) (address : ℕ) where
  abbrev bore : Call → ℕ × ℕ × ℕ → View
  bore call due = logged (saying a.by (epoch_in a.view) call replies.Ok address (record a.view {
    position = Writing due.0 address 0;
    taken = None;
    locals = slice_set a.view.locals due.0 address;
  }))

  abbrev TellsFor : Call → ℕ × ℕ × ℕ → Stand → Type 0
  TellsFor call due b =
      b.view ≡ logged (saying a.by (epoch_in a.view) call replies.Ok address (record a.view {
        position = Writing due.0 address 0;
        locals = slice_set a.view.locals due.0 address;
        owned = b.view.owned;
        taken = b.view.taken;
      }))

  pub tells_born : (asked : Call) (due : ℕ × ℕ × ℕ) → a.view.position ≡ Calling asked → birth_of a.heap asked ≡ Some due →
      b ≡ record a { view = bore asked due } → TellsView stage (Born address) a b
  tells_born asked due at birth e = record {
    heap = ap (λ (b : Stand). b.heap) e;
    by = ap (λ (b : Stand). b.by) e;
    view = λ ne call is other is_other.
        let same = same_call a.view.position asked call at is in
        let one = same_Some due other (sym birth ∙ (ap (birth_of a.heap) same ∙ is_other)) in
        subst (λ (b : Stand). TellsFor call other b) (sym e)
        (subst (λ k. TellsFor call other (record a { view = bore k due })) (sym same)
        (subst (λ d. TellsFor call other (record a { view = bore call d })) (sym one) refl));
  }
