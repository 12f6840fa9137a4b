-- The law of a step that clears one word more of a cell.
use Rattle.std.proofs.Common.{◌≡◌, ℕ, ◌+◌, ◌<◌, ◌≤◌, [], max, Option, Some, None, refl, sym, subst, ◌∙◌, arith}
use Rattle.kn_base.specs.declared.places.Place.TheVariants.{Side, Body}
use Rattle.kn_base.specs.SpanLists.{HasWord}
use Rattle.kn_base.specs.Functions.{upd}
use Rattle.kn_base.proofs.Updates.{upd_here, upd_else, split_at}
use Rattle.kn_graph.specs.declared.calls.Call.{Call}
use Rattle.kn_graph.specs.Ground.{Ground}
use Rattle.kn_graph.specs.Graph.{Graph, shapes}
use Rattle.kn_rule.specs.declared.steps.Kind.TheVariants.{K12}
use Rattle.kn_rule.specs.declared.steps.Action.TheVariants.{Stores}
use Rattle.kn_rule.specs.declared.positions.Position.TheVariants.{Calling}
use Rattle.kn_rule.specs.declared.parts.Taken.{Taken}
use Rattle.kn_rule.specs.Places.{put}
use Rattle.kn_rule.specs.Views.{View, State, views_of, local_of}
use Rattle.kn_rule.specs.Requests.{words_asked, birth_words, birth_of, cleared_word}
use Rattle.kn_rule.specs.Steps.{Found, does}
use Rattle.kn_rule.specs.Moves.{stepped_by}
use Rattle.kn_rule.specs.ObjectClauses.{IsCleared}
use Rattle.kn_rule.specs.FrameClauses.{IsFilled}
use Rattle.kn_rule.specs.Rule.{Rule, RuleOf}
use Rattle.kn_keep_heap.proofs.Parts.{views_moved, local_same, own_same, taken_put, position_same, header_same, log_same}
use Rattle.kn_keep_heap.proofs.Phases.{phased_out}
use Rattle.kn_keep_heap.proofs.ReadLaws.{calls_out, few, snd}
use Rattle.kn_keep_heap.proofs.CellWords.{headed_beside, fielded_beside, cleared_more, apart_more, handed_more, taken_in_more}

asked_two : (x : Option (ℕ × ℕ × ℕ)) (n : ℕ) → birth_words x ≡ Some n → 2 ≤ n
asked_two None n e = let h : Option.None ≡ Some n = e in absurd (cc)
asked_two (Some b) n e = let h : Option.Some (max (1 + b.2) 2) ≡ Some n = e in let i : max (1 + b.2) 2 ≡ n = cc in omega arith

-- a request is of two words at least
pub request_two : (z : Ground) (call : Call) (n : ℕ) → words_asked z call ≡ Some n → 2 ≤ n
request_two z call n e = asked_two (birth_of z call) n e

module _ (z : Ground) (s : State) (by : ℕ) (less : by < z.sizes.threads) (g : Graph)
    (rule : RuleOf z g s.word s.page (views_of s.caller) s.history) (f : Found) where
  pub cleared_next : (call : Call) (t : Taken) (w : ℕ) → (s.caller by).position ≡ Calling call → (s.caller by).taken ≡ Some t →
      t.cleared < t.span.len → w ≡ cleared_word z (local_of (s.caller by)) call t.cleared →
      Rule z (stepped_by s by (does K12 (Body (t.span.start + t.cleared)) (Stores w)) f
      (record { view = record (s.caller by) { taken = Some (record t { cleared = t.cleared + 1 }) }; says = [] }))
  cleared_next call t w is has room value =
      let V = views_of s.caller in
      let t' : Taken = record t { cleared = t.cleared + 1 } in
      let v : View = record (s.caller by) { taken = Some t' } in
      let b : ℕ = t.span.start + t.cleared in
      let body : ℕ → ℕ = λ a. s.word (Body a) in
      let side : ℕ → ℕ = λ a. s.word (Side a) in
      let S = snd z s by less g rule in
      let in_cell : HasWord t.span b = (omega arith, omega arith) in
      let n = few z s by less g rule in
      let clear : IsCleared z body (V.local by) (Calling call) (Some t) =
      subst (λ p. IsCleared z body (V.local by) p (Some t)) is
      (subst (λ x. IsCleared z body (V.local by) (s.caller by).position x) has (rule.stands.cleared.each by n)) in
      let cleared_here : (i : ℕ) → i < t.cleared + 1 → upd body b w (t.span.start + i) ≡ cleared_word z (local_of (s.caller by)) call i =
      λ i m. split_at (λ i. i < t.cleared + 1 → upd body b w (t.span.start + i) ≡ cleared_word z (local_of (s.caller by)) call i) t.cleared
      (λ _. upd_here body b w ∙ value) i
      (λ ne m. upd_else body b w (t.span.start + i) (λ e. absurd (ne (omega arith))) ∙ clear i (omega arith)) m in (
        g,
        subst (λ W. RuleOf z g (put s.word (Body b) w) s.page W s.history)
            (sym (views_moved s.caller by v refl (position_same s.caller by v refl) (local_same s.caller by v refl) (header_same s.caller by v refl)
            (own_same s.caller by v refl) (taken_put s.caller by v) (log_same s.caller by v refl)))
            (record {
              told = rule.told;
              formed = rule.formed;
              read_right = rule.read_right;
              localed = rule.localed;
              stands = record {
                timed = rule.stands.timed;
                headed = headed_beside z g S b w t.span in_cell (λ m l. rule.stands.apart.objects by m t n has l) body side rule.stands.headed;
                fielded = fielded_beside z g S b w t.span in_cell (λ m l. rule.stands.apart.objects by m t n has l) body rule.stands.fielded;
                cleared = cleared_more z body V.local V.position V.taken rule.stands.cleared by b w t' call is
                    (λ c u l ne e. ((rule.stands.apart.inside c u l e).2, rule.stands.apart.others c by u t l n (λ q. ne (sym q)) e has)) in_cell
                    cleared_here;
                globaled = rule.stands.globaled;
                named = rule.stands.named;
                apart = apart_more z g.born (shapes g) V.position V.taken by t has (t.cleared + 1) (omega arith) rule.stands.apart;
                stated = rule.stands.stated;
                at_end = rule.stands.at_end;
                polling = rule.stands.polling;
                owners = rule.stands.owners;
                stopped = rule.stands.stopped;
                wanted = rule.stands.wanted;
                working = rule.stands.working;
                framed = rule.stands.framed;
                housed = rule.stands.housed;
                handed = handed_more z g.born (shapes g) V.position V.taken by t has (t.cleared + 1) (omega arith)
                    (IsFilled z.sizes g.born (shapes g) side) V.own (λ c. (V.rest c).sweep) rule.stands.handed;
                classed = rule.stands.classed;
                placed = rule.stands.placed;
                taken_in = taken_in_more z g.born (shapes g) V.position V.taken by t has (t.cleared + 1) (omega arith) V.own
                    (λ c. (V.rest c).sweep) rule.stands.taken_in;
              };
              phased = phased_out z g.paused g.born (shapes g) (put s.word (Body b) w) (λ c. (V.rest c).work) (calls_out z s by less g rule call is)
                  (rule.phased.at_rest (calls_out z s by less g rule call is));
            }),
      )
