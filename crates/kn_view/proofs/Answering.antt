-- Answers of calls, by what is stored.
use Rattle.std.proofs.Common.{◌≡◌, ℕ, Bool, true, false, Option, List, refl, sym, ap, ◌∙◌}
use Rattle.kn_base.specs.declared.places.Place.{Place}
use Rattle.kn_graph.specs.declared.calls.Call.{Call}
use Rattle.kn_graph.specs.declared.calls.Reply.{Reply}
use Rattle.kn_graph.specs.declared.calls.Reply.TheVariants as replies
use Rattle.kn_graph.specs.declared.entries.Entry.{Entry}
use Rattle.kn_graph.specs.Ground.{Ground}
use Rattle.kn_rule.specs.declared.steps.Action.{Action}
use Rattle.kn_rule.specs.declared.positions.Position.{Position}
use Rattle.kn_rule.specs.declared.positions.Position.TheVariants.{Between, Calling}
use Rattle.kn_rule.specs.Decoding.{phase_of}
use Rattle.kn_rule.specs.Phases.{pauses}
use Rattle.kn_rule.specs.Searches.{is_over}
use Rattle.kn_rule.specs.Views.{View, Open}
use Rattle.kn_rule.specs.Steps.{Found, epoch_in, saying}
use Rattle.kn_rule.specs.Outcomes.{full_if}
use Rattle.kn_view.specs.Parts.{Part, view_with}
use Rattle.kn_view.specs.Told.{Says, told}

-- where a caller stands, by what is stored
pub stands_at : (stored now : Part) (at : Position) → stored ≡ now → stored.position ≡ at → now.position ≡ at
stands_at stored now at e h = sym (ap (λ (q : Part). q.position) e) ∙ h

-- one call is under way at a time
pub same_call : (at : Position) (call other : Call) → at ≡ Calling call → at ≡ Calling other → call ≡ other
same_call at call other e o = let both : Calling call ≡ Calling other = sym e ∙ o in cc

-- what is said of a call that is answered where the caller's view has this part
pub answered : (z : Ground) (mid new : Part) (before after : List Entry) (by : ℕ) (call : Call) (reply : Reply) (address : ℕ) (part : Part) →
    mid ≡ part → Says z mid new before after (λ v. saying by (epoch_in v) call reply address v) → (owned : List (Option Open)) (log : List Entry) →
    record { view = view_with z new owned log; history = after }
    ≡ told before (saying by (epoch_in (view_with z part owned log)) call reply address (view_with z part owned log))
answered z mid new before after by call reply address part m h owned log =
    h owned log ∙ ap (λ q. told before (saying by (epoch_in (view_with z q owned log)) call reply address (view_with z q owned log))) m

-- an end of a search reads only the last poll of the view before it
full_alike : (z : Ground) (c : ℕ) (v w : View) (p : Place) (a : Action) (f : Found) (over : Bool) (call : Call) (u : View) →
    v.polled ≡ w.polled → full_if z c v p a f over call u ≡ full_if z c w p a f over call u
full_alike z c v w p a f true call u e = ap (λ word. saying c (pauses (phase_of word)) call replies.Full 0 (record u { position = Between })) e
full_alike z c v w p a f false call u e = refl

-- a search ends where the caller's view has this part, behind a view with the same last poll
pub searched : (z : Ground) (mid new : Part) (before after : List Entry) (by : ℕ) (call : Call) (p : Place) (a : Action) (f : Found)
    (part : Part) (v : View) →
    mid ≡ part → part.polled ≡ v.polled →
    Says z mid new before after (λ u. full_if z by u p a f (is_over z call mid.seen mid.refused) call u) →
    (owned : List (Option Open)) (log : List Entry) →
    record { view = view_with z new owned log; history = after }
    ≡ told before (full_if z by v p a f (is_over z call part.seen part.refused) call (view_with z part owned log))
searched z mid new before after by call p a f part v m same h owned log =
    let u = view_with z part owned log in
    h owned log
    ∙ (ap (λ (q : Part). told before (full_if z by (view_with z q owned log) p a f (is_over z call q.seen q.refused) call (view_with z q owned log))) m
    ∙ ap (told before) (full_alike z by u v p a f (is_over z call part.seen part.refused) call u same))
