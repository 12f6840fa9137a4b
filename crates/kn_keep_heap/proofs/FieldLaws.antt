-- The law of a step that reads a header or a field of an object.
use Rattle.std.proofs.Common.{◌≡◌, ℕ, ◌+◌, ◌<◌, Bool, false, Option, Some, None, refl, sym, subst, ap, ◌∙◌}
use Rattle.kn_base.specs.declared.places.Place.TheVariants.{Body}
use Rattle.kn_layout.specs.declared.layouts.FieldKind.{FieldKind}
use Rattle.kn_layout.specs.declared.layouts.FieldKind.TheVariants.{Ref as of_ref, Int as of_int}
use Rattle.kn_graph.specs.declared.calls.Call.{Call}
use Rattle.kn_graph.specs.declared.calls.Call.TheVariants.{Get, Set, Put, Read}
use Rattle.kn_graph.specs.declared.calls.Reply.{Reply}
use Rattle.kn_graph.specs.declared.calls.Reply.TheVariants as replies
use Rattle.kn_graph.specs.Ground.{Ground}
use Rattle.kn_graph.specs.Graph.{Graph, shapes, with_local, with_points, with_number, with_entered, field_kind}
use Rattle.kn_graph.specs.Sound.{Alive}
use Rattle.kn_graph.specs.Answers.{Answer, answers, needs, IsAnswer, MayAnswer, where_ref, where_int, reads}
use Rattle.kn_rule.specs.declared.steps.Kind.TheVariants.{K4}
use Rattle.kn_rule.specs.declared.steps.Action.TheVariants.{Loads}
use Rattle.kn_rule.specs.declared.positions.Position.{Position}
use Rattle.kn_rule.specs.declared.positions.Position.TheVariants.{Calling}
use Rattle.kn_rule.specs.Places.{put}
use Rattle.kn_rule.specs.Views.{State, views_of, local_of}
use Rattle.kn_rule.specs.Requests.{field_of, told_kind}
use Rattle.kn_rule.specs.Steps.{Found, does, epoch_in}
use Rattle.kn_rule.specs.Outcomes.{ref_word, load_body, is_wanted}
use Rattle.kn_rule.specs.Allowed.{MayLoadAt}
use Rattle.kn_rule.specs.Moves.{stepped_by}
use Rattle.kn_rule.specs.ObjectClauses.{IsReadAt, IsReadFor, address_of}
use Rattle.kn_rule.specs.Rule.{Rule, RuleOf}
use Rattle.kn_keep_heap.proofs.Loads.{put_same}
use Rattle.kn_keep_heap.proofs.Values.{ref_told, names, below_sixteen}
use Rattle.kn_keep_heap.proofs.ReadLaws.{ref_answered, plain_answered, cell_none, header_at, ranges, snd}

-- what a call on a field answers, by the field's kind
module _ (z : Ground) (by : ℕ) (g : Graph) (n i : ℕ) where
  at_ref : (x : Option FieldKind) (a : Answer) (reply : Reply) (g' : Graph) → field_kind z (shapes g n) i ≡ x →
      IsAnswer (where_ref z by g x a) reply 0 g' → IsAnswer (where_ref z by g (field_kind z (shapes g n) i) a) reply 0 g'
  at_ref x a reply g' e h = subst (λ k. IsAnswer (where_ref z by g k a) reply 0 g') (sym e) h

  at_int : (x : Option FieldKind) (a : Answer) (reply : Reply) (g' : Graph) → field_kind z (shapes g n) i ≡ x →
      IsAnswer (where_int z by g x a) reply 0 g' → IsAnswer (where_int z by g (field_kind z (shapes g n) i) a) reply 0 g'
  at_int x a reply g' e h = subst (λ k. IsAnswer (where_int z by g k a) reply 0 g') (sym e) h

  module _ (t : ℕ) (e : g.local by t ≡ Some n) where
    named : (f : ℕ → Answer) (reply : Reply) (g' : Graph) → IsAnswer (f n) reply 0 g' → IsAnswer (needs z by g (g.local by t) f) reply 0 g'
    named f reply g' h = subst (λ y. IsAnswer (needs z by g y f) reply 0 g') (sym e) h

    pub get_answer : (r : ℕ) (x : Option FieldKind) (reply : Reply) (g' : Graph) → field_kind z (shapes g n) i ≡ x →
        IsAnswer (where_ref z by g x (reads z by g r ((g.object n).points i))) reply 0 g' → MayAnswer z by (Get r t i) g reply 0 g'
    get_answer r x reply g' k h =
        named (λ m. where_ref z by g (field_kind z (shapes g m) i) (reads z by g r ((g.object m).points i))) reply g'
        (at_ref x (reads z by g r ((g.object n).points i)) reply g' k h)

    pub set_answer : (r : ℕ) (x : Option FieldKind) (reply : Reply) (g' : Graph) → field_kind z (shapes g n) i ≡ x →
        IsAnswer (where_ref z by g x (answers replies.Ok (with_points g n i (g.local by r)))) reply 0 g' → MayAnswer z by (Set t i r) g reply 0 g'
    set_answer r x reply g' k h =
        named (λ m. where_ref z by g (field_kind z (shapes g m) i) (answers replies.Ok (with_points g m i (g.local by r)))) reply g'
        (at_ref x (answers replies.Ok (with_points g n i (g.local by r))) reply g' k h)

    pub put_answer : (w : ℕ) (x : Option FieldKind) (reply : Reply) (g' : Graph) → field_kind z (shapes g n) i ≡ x →
        IsAnswer (where_int z by g x (answers replies.Ok (with_number g n i w))) reply 0 g' → MayAnswer z by (Put t i w) g reply 0 g'
    put_answer w x reply g' k h =
        named (λ m. where_int z by g (field_kind z (shapes g m) i) (answers replies.Ok (with_number g m i w))) reply g'
        (at_int x (answers replies.Ok (with_number g n i w)) reply g' k h)

    pub read_answer : (x : Option FieldKind) (reply : Reply) (g' : Graph) → field_kind z (shapes g n) i ≡ x →
        IsAnswer (where_int z by g x (answers (replies.Int ((g.object n).number i)) g)) reply 0 g' → MayAnswer z by (Read t i) g reply 0 g'
    read_answer x reply g' k h =
        named (λ m. where_int z by g (field_kind z (shapes g m) i) (answers (replies.Int ((g.object m).number i)) g)) reply g'
        (at_int x (answers (replies.Int ((g.object n).number i)) g) reply g' k h)

nothing : (g : Graph) (reply : Reply) → IsAnswer (answers reply g) reply 0 g
nothing g reply = record { reply_is = refl; nowhere = refl; after = refl }

module _ (z : Ground) (s : State) (by : ℕ) (less : by < z.sizes.threads) (here : ℕ → Bool) (g : Graph)
    (rule : RuleOf z g s.word s.page (views_of s.caller) s.history) where
  -- a field of the object in local t, whose header was read
  module _ (call : Call) (t i : ℕ) (k : FieldKind) (is : (s.caller by).position ≡ Calling call) (asks : field_of call ≡ Some (t, i, k))
      (small : t < 16)
      (hd : ℕ) (has : (s.caller by).header ≡ Some hd) (positive : 0 < local_of (s.caller by) t) (kind : told_kind z hd i ≡ Some k) where
    pub object_named : (n : ℕ) × (g.local by t ≡ Some n)
    object_named =
        names z g (snd z s by less g rule) (g.local by t) (local_of (s.caller by) t) (rule.localed.views by t less small) positive

    pub object_alive : Alive g.born (shapes g) (Some object_named.0)
    object_alive = subst (λ x. Alive g.born (shapes g) x) object_named.1 ((snd z s by less g rule).roots.locals by t)

    pub kind_is : field_kind z (shapes g object_named.0) i ≡ Some k
    kind_is =
        let a : IsReadFor (shapes g) (g.local by) (Some (t, i, k)) (Some hd) =
        subst (λ x. IsReadFor (shapes g) (g.local by) x (Some hd)) asks (subst (λ p. IsReadAt (shapes g) (g.local by) p (Some hd)) is
        (subst (λ x. IsReadAt (shapes g) (g.local by) (s.caller by).position x) has (rule.read_right.each by less))) in
        let e = a object_named.0 object_named.1 in
        (λ y. field_kind z (record { address = 0; layout = sym e.0 y; length = sym e.1 y; condemned = false; released = false }) i) ∙ kind

    pub place_is : local_of (s.caller by) t ≡ (shapes g object_named.0).address
    place_is = rule.localed.views by t less small ∙ ap (address_of (shapes g)) object_named.1

  module _ (f : Found) where
    of_int_wrong : (b : ℕ) (k : FieldKind) → is_wanted z by (s.caller by) (Body b) Loads f (Some k) of_ref ≡ false → k ≡ of_int
    of_int_wrong b of_ref e = cc
    of_int_wrong b of_int e = refl

    of_ref_wrong : (b : ℕ) (k : FieldKind) → is_wanted z by (s.caller by) (Body b) Loads f (Some k) of_int ≡ false → k ≡ of_ref
    of_ref_wrong b of_ref e = refl
    of_ref_wrong b of_int e = cc

    -- a header, then a field
    pub body_at : (b : ℕ) (q : Position) (h : Option ℕ) → MayLoadAt z by (s.caller by) here q h b → (s.caller by).position ≡ q →
        (s.caller by).header ≡ h → s.word (Body b) ≡ f.word →
        Rule z (stepped_by s by (does K4 (Body b) Loads) f (load_body z by (s.caller by) (Body b) Loads f q h))
    body_at b (Calling (Get r t i)) None m is eh found =
        let small = below_sixteen t (ranges z s by less g rule (Get r t i) is).1.0 in
        header_at z s by less g rule f (Get r t i) t i of_ref is refl refl small b m.0 m.1 found
        (λ n e k. get_answer z by g n i t e r None replies.NoField g k (nothing g replies.NoField))
        (λ n k' e k w. get_answer z by g n i t e r (Some of_int) replies.WrongKind g (k ∙ ap Some (of_int_wrong b k' w))
        (nothing g replies.WrongKind))
        (told_kind z f.word i) (is_wanted z by (s.caller by) (Body b) Loads f (told_kind z f.word i) of_ref) refl refl
    body_at b (Calling (Set t i r)) None m is eh found =
        let small = below_sixteen t (ranges z s by less g rule (Set t i r) is).0 in
        header_at z s by less g rule f (Set t i r) t i of_ref is refl refl small b m.0 m.1 found
        (λ n e k. set_answer z by g n i t e r None replies.NoField g k (nothing g replies.NoField))
        (λ n k' e k w. set_answer z by g n i t e r (Some of_int) replies.WrongKind g (k ∙ ap Some (of_int_wrong b k' w))
        (nothing g replies.WrongKind))
        (told_kind z f.word i) (is_wanted z by (s.caller by) (Body b) Loads f (told_kind z f.word i) of_ref) refl refl
    body_at b (Calling (Put t i w)) None m is eh found =
        let small = below_sixteen t (ranges z s by less g rule (Put t i w) is).0 in
        header_at z s by less g rule f (Put t i w) t i of_int is refl refl small b m.0 m.1 found
        (λ n e k. put_answer z by g n i t e w None replies.NoField g k (nothing g replies.NoField))
        (λ n k' e k v. put_answer z by g n i t e w (Some of_ref) replies.WrongKind g (k ∙ ap Some (of_ref_wrong b k' v))
        (nothing g replies.WrongKind))
        (told_kind z f.word i) (is_wanted z by (s.caller by) (Body b) Loads f (told_kind z f.word i) of_int) refl refl
    body_at b (Calling (Read t i)) None m is eh found =
        let small = below_sixteen t (ranges z s by less g rule (Read t i) is).0 in
        header_at z s by less g rule f (Read t i) t i of_int is refl refl small b m.0 m.1 found
        (λ n e k. read_answer z by g n i t e None replies.NoField g k (nothing g replies.NoField))
        (λ n k' e k v. read_answer z by g n i t e (Some of_ref) replies.WrongKind g (k ∙ ap Some (of_ref_wrong b k' v)) (nothing g replies.WrongKind))
        (told_kind z f.word i) (is_wanted z by (s.caller by) (Body b) Loads f (told_kind z f.word i) of_int) refl refl
    body_at b (Calling (Get r t i)) (Some hd) m is eh found =
        let fits = ranges z s by less g rule (Get r t i) is in
        let small = below_sixteen t fits.1.0 in
        let S = snd z s by less g rule in
        let o = object_named (Get r t i) t i of_ref is refl small hd eh m.1 m.2 in
        let a = object_alive (Get r t i) t i of_ref is refl small hd eh m.1 m.2 in
        let k = kind_is (Get r t i) t i of_ref is refl small hd eh m.1 m.2 in
        let p = place_is (Get r t i) t i of_ref is refl small hd eh m.1 m.2 in
        let x : Option ℕ = (g.object o.0).points i in
        let value : f.word ≡ address_of (shapes g) x =
        sym found ∙ (ap (λ x. s.word (Body x)) (m.0 ∙ ap (λ x. x + 1 + i) p) ∙ rule.stands.fielded.refs o.0 i a.0 a.1 k) in (
          with_entered (with_local g by r x) by (epoch_in (s.caller by)),
          ref_answered z s by less g rule (Get r t i) (ref_word f.word) r f.word x (put s.word (Body b) f.word)
              (put_same s.word (Body b) f.word (sym found)) is refl (below_sixteen r fits.0) value
              (get_answer z by g o.0 i t o.1 r (Some of_ref) (ref_word f.word) (with_local g by r x) k
              (record { reply_is = ref_told z g S x f.word ((S.fields o.0 a.0).values a.1 i) value; nowhere = refl; after = refl })),
        )
    body_at b (Calling (Read t i)) (Some hd) m is eh found =
        let small = below_sixteen t (ranges z s by less g rule (Read t i) is).0 in
        let o = object_named (Read t i) t i of_int is refl small hd eh m.1 m.2 in
        let a = object_alive (Read t i) t i of_int is refl small hd eh m.1 m.2 in
        let k = kind_is (Read t i) t i of_int is refl small hd eh m.1 m.2 in
        let p = place_is (Read t i) t i of_int is refl small hd eh m.1 m.2 in
        let value : f.word ≡ (g.object o.0).number i =
        sym found ∙ (ap (λ x. s.word (Body x)) (m.0 ∙ ap (λ x. x + 1 + i) p) ∙ rule.stands.fielded.ints o.0 i a.0 a.1 k) in (
          with_entered g by (epoch_in (s.caller by)),
          plain_answered z s by less g rule (Read t i) (replies.Int f.word) (put s.word (Body b) f.word)
              (put_same s.word (Body b) f.word (sym found)) is (cell_none z s by less g rule (Read t i) is refl)
              (read_answer z by g o.0 i t o.1 (Some of_int) (replies.Int f.word) g k (record {
                reply_is = ap replies.Int value;
                nowhere = refl;
                after = refl;
              })),
        )
    body_at b _ _ m is eh found = absurd m
