-- The answers of the core's calls: what they leave of a graph, and that the model allows them.
use Rattle.std.proofs.Common.{◌≡◌, ◌≢◌, ℕ, true, Option, Some, None, refl, sym, ap, subst}
use Rattle.kn_base.proofs.Updates.{upd_else}
use Rattle.kn_layout.specs.declared.layouts.FieldKind.{FieldKind}
use Rattle.kn_layout.specs.declared.layouts.FieldKind.TheVariants.{Ref as of_ref, Int as of_int}
use Rattle.kn_graph.specs.declared.calls.Call.{Call}
use Rattle.kn_graph.specs.declared.calls.Call.TheVariants as call
use Rattle.kn_graph.specs.declared.calls.Reply.TheVariants as replies
use Rattle.kn_graph.specs.Ground.{Ground}
use Rattle.kn_graph.specs.Graph.{Graph, shapes, field_kind, with_points}
use Rattle.kn_graph.specs.Answers.{Answer, MayAnswer, IsTheAnswer, IsAnswer, answer, answers, needs, where_ref, reads}
use Rattle.kn_graph.specs.Changes.{Changes, nothing, of_local, of_global, of_stable, of_weak, of_back, of_count, of_points, of_number}
use Rattle.kn_graph.specs.Changes.{of_tie, of_birth}
use Rattle.kn_cms_rule.specs.Calls as held
use Rattle.kn_cms_rule.specs.Calls.{ChangesHeld, is_whole}

-- a change that a thread makes leaves the locals of each other one
pub others_local : (z : Ground) (thread : ℕ) (g g' : Graph) → Changes z thread g g' → (i : ℕ) → thread ≢ i → g'.local i ≡ g.local i
others_local z thread g g' nothing i ne = refl
others_local z thread g g' (of_local r x small a) i ne = upd_else g.local thread _ i ne
others_local z thread g g' (of_global k x fit a) i ne = refl
others_local z thread g g' (of_stable h x fit a) i ne = refl
others_local z thread g g' (of_weak w n fit a) i ne = refl
others_local z thread g g' (of_back b n fit a) i ne = refl
others_local z thread g g' (of_count b c small a) i ne = refl
others_local z thread g g' (of_points n f x o kind a) i ne = refl
others_local z thread g g' (of_number n f x o) i ne = refl
others_local z thread g g' (of_tie n c k o e) i ne = refl
others_local z thread g g' (of_birth r address layout fields small laid_out legal) i ne = upd_else g.local thread _ i ne

module _ (z : Ground) (thread : ℕ) (g : Graph) where
  given : (a b : Answer) → Some a ≡ Some b → (P : Graph → Type 0) → P a.after → P b.after
  given a b e P h = let same : a ≡ b = cc in subst (λ (x : Answer). P x.after) same h

  get_at : (r f n : ℕ) (k : Option FieldKind) → ChangesHeld thread g (where_ref z thread g k (reads z thread g r ((g.object n).points f))).after
  get_at r f n None = held.nothing
  get_at r f n (Some of_ref) = held.of_local r ((g.object n).points f)
  get_at r f n (Some of_int) = held.nothing

  get_from : (r f : ℕ) (x : Option ℕ) → ChangesHeld thread g
      (needs z thread g x (λ n. where_ref z thread g (field_kind z (shapes g n) f) (reads z thread g r ((g.object n).points f)))).after
  get_from r f None = held.nothing
  get_from r f (Some n) = get_at r f n (field_kind z (shapes g n) f)

  -- a whole call changes nothing, or what one local of the thread or one global holds
  pub whole_changes : (c : Call) (a : Answer) → is_whole c ≡ true → answer z thread g c ≡ Some a → ChangesHeld thread g a.after
  whole_changes (call.Copy r s) a w e = given _ a e (ChangesHeld thread g) (held.of_local r (g.local thread s))
  whole_changes (call.Clear r) a w e = given _ a e (ChangesHeld thread g) (held.of_local r None)
  whole_changes (call.Same r s) a w e = given _ a e (ChangesHeld thread g) held.nothing
  whole_changes (call.Get r s f) a w e = given _ a e (ChangesHeld thread g) (get_from r f (g.local thread s))
  whole_changes (call.GlobalSet i r) a w e = given _ a e (ChangesHeld thread g) (held.of_global i (g.local thread r))
  whole_changes (call.GlobalGet r i) a w e = given _ a e (ChangesHeld thread g) (held.of_local r (g.global i))
  whole_changes _ a w e = absurd (cc)

  the_answer : (o : Option Answer) (a : Answer) → o ≡ Some a → IsTheAnswer o a.reply 0 a.after
  the_answer o a e = subst (λ (x : Option Answer). IsTheAnswer x a.reply 0 a.after) (sym e) (record { reply_is = refl; nowhere = refl; after = refl })

  -- the model allows the answer to a whole call
  pub whole_allowed : (c : Call) (a : Answer) → is_whole c ≡ true → answer z thread g c ≡ Some a → MayAnswer z thread c g a.reply 0 a.after
  whole_allowed (call.Copy r s) a w e = the_answer _ a e
  whole_allowed (call.Clear r) a w e = the_answer _ a e
  whole_allowed (call.Same r s) a w e = the_answer _ a e
  whole_allowed (call.Get r s f) a w e = the_answer _ a e
  whole_allowed (call.GlobalSet i r) a w e = the_answer _ a e
  whole_allowed (call.GlobalGet r i) a w e = the_answer _ a e
  whole_allowed _ a w e = absurd (cc)

  -- a `set` that is not answered `ok` leaves the graph
  refused_kind : (n f : ℕ) (x : Option ℕ) (k : Option FieldKind) (a : Answer) →
      Some (where_ref z thread g k (answers replies.Ok (with_points g n f x))) ≡ Some a → a.reply ≢ replies.Ok → a.after ≡ g
  refused_kind n f x None a e not = let same : answers replies.NoField g ≡ a = cc in sym (ap (λ (y : Answer). y.after) same)
  refused_kind n f x (Some of_ref) a e not =
      let same : answers replies.Ok (with_points g n f x) ≡ a = cc in absurd (not (sym (ap (λ (y : Answer). y.reply) same)))
  refused_kind n f x (Some of_int) a e not = let same : answers replies.WrongKind g ≡ a = cc in sym (ap (λ (y : Answer). y.after) same)

  refused_at : (f r : ℕ) (x : Option ℕ) (a : Answer) → Some (needs z thread g x
      (λ n. where_ref z thread g (field_kind z (shapes g n) f) (answers replies.Ok (with_points g n f (g.local thread r))))) ≡ Some a →
      a.reply ≢ replies.Ok → a.after ≡ g
  refused_at f r None a e not = let same : answers replies.Nil g ≡ a = cc in sym (ap (λ (y : Answer). y.after) same)
  refused_at f r (Some n) a e not = refused_kind n f (g.local thread r) (field_kind z (shapes g n) f) a e not

  module _ (s f r : ℕ) where
    pub refused : (a : Answer) → answer z thread g (call.Set s f r) ≡ Some a → a.reply ≢ replies.Ok → a.after ≡ g
    refused a e not = refused_at f r (g.local thread s) a e not

    -- the model allows it
    pub refused_allowed : (a : Answer) → answer z thread g (call.Set s f r) ≡ Some a → a.reply ≢ replies.Ok →
        MayAnswer z thread (call.Set s f r) g a.reply 0 g
    refused_allowed a e not = subst (λ (x : Graph). MayAnswer z thread (call.Set s f r) g a.reply 0 x) (refused a e not) (the_answer _ a e)

    -- the model allows a `set` of a reference field
    pub stored_allowed : (n : ℕ) → g.local thread s ≡ Some n → field_kind z (shapes g n) f ≡ Some of_ref →
        MayAnswer z thread (call.Set s f r) g replies.Ok 0 (with_points g n f (g.local thread r))
    stored_allowed n holds kind =
        subst (λ (x : Option ℕ). IsAnswer (needs z thread g x (λ m. where_ref z thread g (field_kind z (shapes g m) f)
        (answers replies.Ok (with_points g m f (g.local thread r))))) replies.Ok 0 (with_points g n f (g.local thread r))) (sym holds)
        (subst (λ (k : Option FieldKind). IsAnswer (where_ref z thread g k (answers replies.Ok (with_points g n f (g.local thread r))))
        replies.Ok 0 (with_points g n f (g.local thread r))) (sym kind) (record { reply_is = refl; nowhere = refl; after = refl }))
