-- The law of a step that stores a field.
use Rattle.std.proofs.Common.{◌≡◌, ℕ, ◌+◌, ◌<◌, [], ◌∷◌, ◌++◌, Bool, Option, Some, None, refl, sym, subst, ap, ◌∙◌}
use Rattle.kn_base.specs.declared.places.Place.TheVariants.{Local, Global, Node, Frame, Side, Body}
use Rattle.kn_base.specs.Functions.{upd}
use Rattle.kn_layout.specs.declared.layouts.FieldKind.{FieldKind}
use Rattle.kn_layout.specs.declared.layouts.FieldKind.TheVariants.{Ref as of_ref, Int as of_int}
use Rattle.kn_graph.specs.declared.calls.Call.{Call}
use Rattle.kn_graph.specs.declared.calls.Call.TheVariants.{Set, Put}
use Rattle.kn_graph.specs.declared.calls.Reply.TheVariants as replies
use Rattle.kn_graph.specs.Ground.{Ground}
use Rattle.kn_graph.specs.Graph.{Graph, Object, Shape, shape_of, shapes, pointers, numbers, with_object, with_points, with_number, with_entered}
use Rattle.kn_graph.specs.Graph.{field_kind}
use Rattle.kn_graph.specs.Sound.{Alive}
use Rattle.kn_graph.specs.Answers.{MayAnswer}
use Rattle.kn_graph.proofs.Parts.{object_written, parts_kept}
use Rattle.kn_rule.specs.declared.steps.Kind.TheVariants.{K5}
use Rattle.kn_rule.specs.declared.steps.Action.TheVariants.{Stores}
use Rattle.kn_rule.specs.declared.positions.Position.{Position}
use Rattle.kn_rule.specs.declared.positions.Position.TheVariants.{Between, Calling}
use Rattle.kn_rule.specs.Places.{put}
use Rattle.kn_rule.specs.Views.{State, views_of}
use Rattle.kn_rule.specs.Requests.{words_asked}
use Rattle.kn_rule.specs.Steps.{Found, does, entry_of, epoch_in, callers}
use Rattle.kn_rule.specs.Outcomes.{store_at}
use Rattle.kn_rule.specs.Allowed.{MaySetAt}
use Rattle.kn_rule.specs.Moves.{stepped_by}
use Rattle.kn_rule.specs.ObjectClauses.{Headed, ReadRight, Fielded, Localed, Globaled, Named, Apart, address_of}
use Rattle.kn_rule.specs.FrameClauses.{Housed, Handed, Placed, IsFilled}
use Rattle.kn_rule.specs.MarkClauses.{Phased}
use Rattle.kn_rule.specs.Rule.{Represents, Rule, RuleOf}
use Rattle.kn_keep_heap.proofs.Locals.{locals_moved}
use Rattle.kn_keep_heap.proofs.Values.{below_sixteen}
use Rattle.kn_keep_heap.proofs.Fields.{headed_kept, cleared_kept, ref_written, int_written}
use Rattle.kn_keep_heap.proofs.Phases.{phased_out}
use Rattle.kn_keep_heap.proofs.Answers.{epoch_call, answered}
use Rattle.kn_keep_heap.proofs.ReadLaws.{plain_view, views_plain, ranges, snd, cell_none, calls_out, quiet, read_plain}
use Rattle.kn_keep_heap.proofs.FieldLaws.{object_named, object_alive, kind_is, place_is, set_answer, put_answer}

module _ (z : Ground) (s : State) (by : ℕ) (less : by < z.sizes.threads) (here : ℕ → Bool) (g : Graph)
    (rule : RuleOf z g s.word s.page (views_of s.caller) s.history) (f : Found) where
  -- field i of object n is stored, by a call that this answers
  module _ (call : Call) (is : (s.caller by).position ≡ Calling call) (asks : words_asked z call ≡ None) (n i w : ℕ)
      (alive : Alive g.born (shapes g) (Some n)) (k : FieldKind) (kind : field_kind z (shapes g n) i ≡ Some k)
      (o : Object) (keeps : shape_of o ≡ shapes g n) (may : MayAnswer z by call g replies.Ok 0 (with_object g n o))
      (fielded : Fielded z g.born (shapes g) (pointers (with_object g n o)) (numbers (with_object g n o))
      (upd (λ a. s.word (Body a)) ((shapes g n).address + 1 + i) w)) where
    field_stored : (b : ℕ) → b ≡ (shapes g n).address + 1 + i →
        Rule z (stepped_by s by (does K5 (Body b) (Stores w)) f (store_at z by (s.caller by) (Body b) (Stores w) f (Calling call)))
    field_stored b eb =
        let V = views_of s.caller in
        let g' : Graph = with_object g n o in
        let sh : ◌≡◌ {A = ℕ → Shape} (shapes g) (shapes g') = sym ((parts_kept g n o).shapes_stay keeps) in
        let at : ℕ = (shapes g n).address + 1 + i in
        let body : ℕ → ℕ = λ a. s.word (Body a) in
        let side : ℕ → ℕ = λ a. s.word (Side a) in
        let none = cell_none z s by less g rule call is asks in
        let out = calls_out z s by less g rule call is in
        let S = snd z s by less g rule in
        let locals = locals_moved z (shapes g) g.local (λ c k. s.word (Local c k)) V.position V.local rule.localed by Between
        (λ k _. quiet z s by less g rule call is k) tt in
        let stands : Represents z g' (put s.word (Body at) w) s.page V = record {
          timed = rule.stands.timed;
          headed = subst (λ (h : ℕ → Shape). Headed z g.born h side (upd body at w)) sh
              (headed_kept z g S n i w alive.0 alive.1 body k kind side rule.stands.headed);
          fielded = subst (λ (h : ℕ → Shape). Fielded z g.born h (pointers g') (numbers g') (upd body at w)) sh fielded;
          cleared = cleared_kept z g S n i w alive.0 alive.1 body k kind V.local V.position V.taken rule.stands.apart rule.stands.cleared;
          globaled = subst (λ (h : ℕ → Shape). Globaled z h g.global (λ k. s.word (Global k))) sh rule.stands.globaled;
          named = subst (λ (h : ℕ → Shape). Named z.sizes h g.stable g.weak g.back g.count (λ k. s.word (Node k))) sh rule.stands.named;
          apart = subst (λ (h : ℕ → Shape). Apart z g.born h V.position V.taken) sh rule.stands.apart;
          stated = rule.stands.stated;
          at_end = rule.stands.at_end;
          polling = rule.stands.polling;
          owners = rule.stands.owners;
          stopped = rule.stands.stopped;
          wanted = rule.stands.wanted;
          working = rule.stands.working;
          framed = rule.stands.framed;
          housed = subst (λ (h : ℕ → Shape). Housed z.sizes (IsFilled z.sizes g.born h side) (λ p. s.word (Frame p)) s.page) sh rule.stands.housed;
          handed = subst (λ (h : ℕ → Shape). Handed z.sizes (callers z.sizes) (IsFilled z.sizes g.born h side) V.own V.taken
              (λ c. (V.rest c).sweep)) sh
              rule.stands.handed;
          classed = rule.stands.classed;
          placed = subst (λ (h : ℕ → Shape). Placed z.sizes g.born h (λ p. s.word (Frame p))) sh rule.stands.placed;
          taken_in = rule.stands.taken_in;
        } in
        let after : Graph = with_entered g' by (epoch_in (s.caller by)) in
        let more = s.history ++ entry_of by (epoch_in (s.caller by)) call replies.Ok 0 ∷ [] in (
          after,
          subst (λ c. RuleOf z after (put s.word (Body c) w) s.page (views_of (upd s.caller by (plain_view z s by less call replies.Ok))) more)
              (sym eb)
              (subst (λ W. RuleOf z after (put s.word (Body at) w) s.page W more) (sym (views_plain z s by less call replies.Ok))
              (answered z g V s.history rule.told rule.formed by less call is
              (epoch_call z g s.word s.page V s.history rule by less call is) replies.Ok 0
              g' (put s.word (Body at) w) s.page stands
              (subst (λ (h : ℕ → Shape). Phased z g.paused g.born h (put s.word (Body at) w) (λ c. (V.rest c).work)) sh
              (phased_out z g.paused g.born (shapes g) (put s.word (Body at) w) (λ c. (V.rest c).work) out
              (rule.phased.at_rest out))) may Between tt none V.local (λ c ne. refl)
              (subst (λ (h : ℕ → Shape). Localed z h g.local (λ c k. s.word (Local c k)) (upd V.position by Between) V.local) sh locals)
              (subst (λ (h : ℕ → Shape). ReadRight z h g.local (upd V.position by Between) (upd V.header by None)) sh
              (read_plain z s by less g rule Between tt)))),
        )

  pub field_at : (b w : ℕ) (q : Position) (h : Option ℕ) → MaySetAt z by (s.caller by) here q h b w → (s.caller by).position ≡ q →
      (s.caller by).header ≡ h → Rule z (stepped_by s by (does K5 (Body b) (Stores w)) f (store_at z by (s.caller by) (Body b)
      (Stores w) f q))
  field_at b w (Calling (Set t i r)) (Some hd) m is eh =
      let fits = ranges z s by less g rule (Set t i r) is in
      let small = below_sixteen t fits.0 in
      let S = snd z s by less g rule in
      let o = object_named z s by less here g rule (Set t i r) t i of_ref is refl small hd eh m.0.1 m.0.2 in
      let a = object_alive z s by less here g rule (Set t i r) t i of_ref is refl small hd eh m.0.1 m.0.2 in
      let k = kind_is z s by less here g rule (Set t i r) t i of_ref is refl small hd eh m.0.1 m.0.2 in
      let p = place_is z s by less here g rule (Set t i r) t i of_ref is refl small hd eh m.0.1 m.0.2 in
      let x : Option ℕ = g.local by r in
      let new : Object = record (g.object o.0) { points = upd (g.object o.0).points i x } in
      let value : w ≡ address_of (shapes g) x = m.1 ∙ rule.localed.views by r less (below_sixteen r fits.1.1.0) in
      let body' : ℕ → ℕ = upd (λ a. s.word (Body a)) ((shapes g o.0).address + 1 + i) w in
      let are = object_written g o.0 new in
      let stay = parts_kept g o.0 new in
      field_stored (Set t i r) is refl o.0 i w a of_ref k new refl
      (set_answer z by g o.0 i t o.1 r (Some of_ref) replies.Ok (with_points g o.0 i x) k (record { reply_is = refl; nowhere = refl; after = refl }))
      (subst (λ (ps : ℕ → ℕ → Option ℕ). Fielded z g.born (shapes g) ps (numbers (with_object g o.0 new)) body') (sym are.pointers_are)
      (subst (λ (ns : ℕ → ℕ → ℕ). Fielded z g.born (shapes g) (upd (pointers g) o.0 (upd (pointers g o.0) i x)) ns body')
      (sym (stay.numbers_stay refl))
      (ref_written z g S o.0 i w a.0 a.1 (λ y. s.word (Body y)) k x value rule.stands.fielded)))
      b (m.0.0 ∙ ap (λ y. y + 1 + i) p)
  field_at b w (Calling (Put t i v)) (Some hd) m is eh =
      let small = below_sixteen t (ranges z s by less g rule (Put t i v) is).0 in
      let S = snd z s by less g rule in
      let o = object_named z s by less here g rule (Put t i v) t i of_int is refl small hd eh m.0.1 m.0.2 in
      let a = object_alive z s by less here g rule (Put t i v) t i of_int is refl small hd eh m.0.1 m.0.2 in
      let k = kind_is z s by less here g rule (Put t i v) t i of_int is refl small hd eh m.0.1 m.0.2 in
      let p = place_is z s by less here g rule (Put t i v) t i of_int is refl small hd eh m.0.1 m.0.2 in
      let new : Object = record (g.object o.0) { number = upd (g.object o.0).number i w } in
      let body' : ℕ → ℕ = upd (λ a. s.word (Body a)) ((shapes g o.0).address + 1 + i) w in
      let are = object_written g o.0 new in
      let stay = parts_kept g o.0 new in
      field_stored (Put t i v) is refl o.0 i w a of_int k new refl
      (put_answer z by g o.0 i t o.1 v (Some of_int) replies.Ok (with_number g o.0 i w) k
      (record { reply_is = refl; nowhere = refl; after = ap (λ y. with_number g o.0 i y) m.1 }))
      (subst (λ (ps : ℕ → ℕ → Option ℕ). Fielded z g.born (shapes g) ps (numbers (with_object g o.0 new)) body') (sym (stay.pointers_stay refl))
      (subst (λ (ns : ℕ → ℕ → ℕ). Fielded z g.born (shapes g) (pointers g) ns body') (sym are.numbers_are)
      (int_written z g S o.0 i w a.0 a.1 (λ y. s.word (Body y)) k rule.stands.fielded)))
      b (m.0.0 ∙ ap (λ y. y + 1 + i) p)
  field_at b w (Calling (Set t i r)) None m is eh = absurd m.0
  field_at b w (Calling (Put t i v)) None m is eh = absurd m.0
  field_at b w _ h m is eh = absurd m
