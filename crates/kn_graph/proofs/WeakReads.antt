-- A read of a weak name answers `none` exactly where its referent was unreachable at some pause.
use Rattle.std.proofs.Common.{◌≡◌, ℕ, ◌<◌, ◌↔◌, Bool, true, false, cond, List, Option, Some, refl, sym, subst, ap, ◌∙◌}
use Rattle.kn_graph.specs.declared.calls.Call.TheVariants.{WeakGet}
use Rattle.kn_graph.specs.declared.calls.Reply.{Reply}
use Rattle.kn_graph.specs.declared.calls.Reply.TheVariants as replies
use Rattle.kn_graph.specs.declared.entries.Entry.{Entry}
use Rattle.kn_graph.specs.Ground.{Ground}
use Rattle.kn_graph.specs.Graph.{Graph, empty_graph}
use Rattle.kn_graph.specs.Answers.{Answer, on_referent, reads}
use Rattle.kn_graph.specs.Histories.{Leads, CallFollows}
use Rattle.kn_graph.specs.Sound.{WasBorn}
use Rattle.kn_graph.specs.Epochs.{WasUnreachable}
use Rattle.kn_graph.proofs.LegalGraphs.{legal_sound}
use Rattle.kn_graph.proofs.Condemned.{condemned_exactly}

reply_if : (b : Bool) (a a' : Answer) → (cond b a a').reply ≡ cond b a.reply a'.reply
reply_if true a a' = refl
reply_if false a a' = refl

-- `none` exactly where the test holds
none_if : (b : Bool) (reply : Reply) → reply ≡ cond b replies.Nothing replies.Ref → (reply ≡ replies.Nothing) ↔ (b ≡ true)
none_if true reply e = (λ _. refl, λ _. e)
none_if false reply e = (λ f. let h : replies.Nothing ≡ replies.Ref = sym f ∙ e in absurd (cc), λ f. absurd (cc))

module _ (z : Ground) (by : ℕ) (g : Graph) (r n : ℕ) where
  weak_reply : (x : Option ℕ) → x ≡ Some n →
      (on_referent z by g x (λ m. reads z by g r (Some m))).reply ≡ cond (g.object n).condemned replies.Nothing replies.Ref
  weak_reply x e = ap (λ y. (on_referent z by g y (λ m. reads z by g r (Some m))).reply) e ∙ reply_if (g.object n).condemned _ _

pub weak_read : (z : Ground) (h : List Entry) (g : Graph) (by epoch r w n : ℕ) (reply : Reply) (address : ℕ) (g' : Graph) →
    Leads z empty_graph h g → CallFollows z by epoch (WeakGet r w) reply address g g' → g.weak w ≡ Some n →
    (reply ≡ replies.Nothing) ↔ WasUnreachable z empty_graph h n
weak_read z h g by epoch r w n reply address g' l f e =
    let near : n < g.born = subst (WasBorn g.born) e ((legal_sound z h g l).names.weaks w) in
    let dead = condemned_exactly z h g n l near in
    let none = none_if (g.object n).condemned reply (f.answer.reply_is ∙ weak_reply z by g r n (g.weak w) e) in
    (λ a. dead.0 (none.0 a), λ u. none.1 (dead.1 u))
