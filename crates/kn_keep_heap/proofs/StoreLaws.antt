-- The laws of steps that store a local or a global.
use Rattle.std.proofs.Common.{◌≡◌, ℕ, ◌<◌, ◌==◌, [], ◌∷◌, ◌++◌, length, Bool, true, false, cond, Option, None, slice_set, refl}
use Rattle.std.proofs.Common.{sym, subst}
use Rattle.std.proofs.Common.{ap, ◌∙◌, arith, length-set}
use Rattle.kn_base.specs.declared.places.Place.TheVariants.{Phase, Want, State as StateOf, Local, Global, Body}
use Rattle.kn_base.specs.Functions.{upd}
use Rattle.kn_base.proofs.Updates.{upd_case, upd_case2, upd_else}
use Rattle.kn_graph.specs.declared.calls.Call.{Call}
use Rattle.kn_graph.specs.declared.calls.Call.TheVariants.{Copy, Clear, GlobalSet}
use Rattle.kn_graph.specs.declared.calls.Reply.TheVariants as replies
use Rattle.kn_graph.specs.Ground.{Ground}
use Rattle.kn_graph.specs.Graph.{Graph, shapes, with_local, with_global, with_entered}
use Rattle.kn_graph.specs.Answers.{MayAnswer}
use Rattle.kn_rule.specs.declared.steps.Kind.TheVariants.{K3, K7}
use Rattle.kn_rule.specs.declared.steps.Action.TheVariants.{Stores}
use Rattle.kn_rule.specs.declared.positions.Position.{Position}
use Rattle.kn_rule.specs.declared.positions.Position.TheVariants.{Between, Calling, Writing, Adding, Ended}
use Rattle.kn_rule.specs.Places.{put}
use Rattle.kn_rule.specs.Views.{View, Views, State, views_of}
use Rattle.kn_rule.specs.Requests.{words_asked}
use Rattle.kn_rule.specs.Steps.{Found, does, entry_of, epoch_in}
use Rattle.kn_rule.specs.Outcomes.{write_at, store_at}
use Rattle.kn_rule.specs.Allowed.{MayWriteAt, MaySetGlobalAt}
use Rattle.kn_rule.specs.Moves.{stepped_by}
use Rattle.kn_rule.specs.HistoryClauses.{under_way, births_under_way, IsRightCall}
use Rattle.kn_rule.specs.ObjectClauses.{IsReadAt, IsValueDue, Localed, Globaled, address_of}
use Rattle.kn_rule.specs.CallerClauses.{state_number, IsIn, IsBusy, IsInOrLeaving}
use Rattle.kn_rule.specs.Rule.{Represents, Rule, RuleOf}
use Rattle.kn_keep_heap.specs.Answered.{IsBehindAnswer, staying, Stays}
use Rattle.kn_keep_heap.proofs.Parts.{views_moved, local_put, local_same, local_words, own_same, taken_same, position_put, header_same}
use Rattle.kn_keep_heap.proofs.Parts.{log_same, views_answer}
use Rattle.kn_keep_heap.proofs.Locals.{local_stored, local_written, locals_moved}
use Rattle.kn_keep_heap.proofs.Positions.{formed_at, at_end_at, stated_at, owners_at, cleared_at, apart_at, taken_in_at, polled_at, told_at, read_at}
use Rattle.kn_keep_heap.proofs.Idle.{none_asked}
use Rattle.kn_keep_heap.proofs.Wants.{stopped_at}
use Rattle.kn_keep_heap.proofs.Phases.{not_in_mark, phased_out}
use Rattle.kn_keep_heap.proofs.Answers.{epoch_call, answered, state_behind, calls_behind, births_behind, right_behind, in_behind, cleared_behind, due_behind}
use Rattle.kn_keep_heap.proofs.ReadLaws.{views_plain, ranges, cell_none, calls_out, quiet, read_plain}
use Rattle.kn_keep_heap.proofs.Values.{below_sixteen}

module _ (z : Ground) (s : State) (by : ℕ) (less : by < z.sizes.threads) (here : ℕ → Bool) (g : Graph)
    (rule : RuleOf z g s.word s.page (views_of s.caller) s.history) (f : Found) where
  abbrev V : Views
  V = views_of s.caller

  -- the value under way is stored
  due_written : (r w n : ℕ) (q : Position) → (s.caller by).position ≡ Writing r w n → IsBehindAnswer q → IsValueDue q (V.local by) →
      IsReadAt (shapes g) (g.local by) q (V.header by) →
      Rule z (stepped_by s by (does K3 (Local by r) (Stores w)) f (record { view = record (s.caller by) { position = q }; says = [] }))
  due_written r w n q is behind due read =
      let v : View = record (s.caller by) { position = q } in
      let small : r < 16 = subst (λ p. IsRightCall z p) is (rule.formed.call by less) in
      let none = none_asked z s by less g rule (Writing r w n) is (λ t a. a) in
      let busy : IsBusy (s.caller by).position = subst (λ p. IsBusy p) (sym is) tt in
      let untargeted = rule.stands.polling.untargeted by less busy in
      let out = not_in_mark z (s.word Phase) V.position (λ c. (V.rest c).collecting.counted) rule.stands.stopped by less
      (subst (λ p. IsInOrLeaving p) (sym is) tt) in (
        g,
        subst (λ W. RuleOf z g (put s.word (Local by r) w) s.page W s.history)
            (sym (views_moved s.caller by v refl (position_put s.caller by v) (local_same s.caller by v refl) (header_same s.caller by v refl)
            (own_same s.caller by v refl) (taken_same s.caller by v refl) (log_same s.caller by v refl)))
            (record {
              told = told_at z V.position by q g s.history V.log V.target V.calls V.births rule.told
                  (ap (under_way q) untargeted ∙ (calls_behind q behind ∙ sym (ap (λ p. under_way p (s.caller by).target) is
                  ∙ ap (under_way (Writing r w n)) untargeted)))
                  (births_behind q behind ∙ (λ t. births_under_way (sym is t)));
              formed = formed_at z V.position by q V.width rule.formed (right_behind z q behind);
              read_right = record {
                each = λ c l. upd_case (λ k p. k < z.sizes.threads → IsReadAt (shapes g) (g.local k) p (V.header k)) V.position by q
                    (λ _. read) c (λ _ l. rule.read_right.each c l) l;
              };
              localed = subst (λ (words : ℕ → ℕ → ℕ). Localed z (shapes g) g.local words (upd V.position by q) V.local)
                  (sym (local_words s.word by r w))
                  (local_written z (shapes g) g.local (λ c i. s.word (Local c i)) V.position V.local rule.localed by r w n q less small is due);
              stands = record {
                timed = rule.stands.timed;
                headed = rule.stands.headed;
                fielded = rule.stands.fielded;
                cleared = cleared_at z V.position by q (λ a. s.word (Body a)) V.local V.local V.taken (λ c ne. refl) rule.stands.cleared
                    (cleared_behind z (λ a. s.word (Body a)) (V.local by) q (V.taken by) behind);
                globaled = rule.stands.globaled;
                named = rule.stands.named;
                apart = apart_at z V.position by q g.born (shapes g) V.taken rule.stands.apart none;
                stated = stated_at z V.position by q (λ c. s.word (StateOf c)) rule.stands.stated less (state_behind q behind
                    ∙ (λ t. state_number (sym is t)));
                at_end = at_end_at z V.position by q (λ c. (V.rest c).collecting.ended) rule.stands.at_end less
                    (λ e. let x : Writing r w n ≡ Ended = sym is ∙ e in absurd (cc));
                polling = polled_at z V.position by q g.paused (s.word Phase) (s.word Want) V.polled V.target V.log rule.stands.polling
                    (λ _. subst (λ p. IsIn p) (sym is) tt) (λ _. busy) (λ _. due_behind q behind (V.target by));
                owners = owners_at z V.position by q (s.word Phase) V.own rule.stands.owners (λ _. in_behind q behind);
                stopped = stopped_at z V.position by q (s.word Phase) (λ c. (V.rest c).collecting.counted) rule.stands.stopped
                    (λ _ _. subst (λ p. IsInOrLeaving p) (sym is) tt);
                wanted = rule.stands.wanted;
                working = rule.stands.working;
                framed = rule.stands.framed;
                housed = rule.stands.housed;
                handed = rule.stands.handed;
                classed = rule.stands.classed;
                placed = rule.stands.placed;
                taken_in = taken_in_at z V.position by q V.own V.taken (λ c. (V.rest c).sweep) rule.stands.taken_in none;
              };
              phased = phased_out z g.paused g.born (shapes g) (put s.word (Local by r) w) (λ c. (V.rest c).work) out (rule.phased.at_rest out);
            }),
      )

  abbrev written_view : Call → ℕ → ℕ → View
  written_view call r w = record (s.caller by) {
    position = Between;
    header = None;
    locals = slice_set (s.caller by).locals r w;
    log = (s.caller by).log ++ entry_of by (epoch_in (s.caller by)) call replies.Ok 0 ∷ [];
  }

  -- a local is written by a call that this answers
  value_written : (call : Call) (r w : ℕ) (x : Option ℕ) → (s.caller by).position ≡ Calling call → words_asked z call ≡ None → r < 16 →
      w ≡ address_of (shapes g) x → MayAnswer z by call g replies.Ok 0 (with_local g by r x) →
      RuleOf z (with_entered (with_local g by r x) by (epoch_in (s.caller by))) (put s.word (Local by r) w) s.page
      (views_of (upd s.caller by (written_view call r w))) (s.history ++ entry_of by (epoch_in (s.caller by)) call replies.Ok 0 ∷ [])
  value_written call r w x is none small value may =
      let v : View = written_view call r w in
      let near : r < length (s.caller by).locals = let e = rule.formed.locals by less in omega arith in
      let after : Graph = with_entered (with_local g by r x) by (epoch_in (s.caller by)) in
      let more = s.history ++ entry_of by (epoch_in (s.caller by)) call replies.Ok 0 ∷ [] in
      let stays : Stays (s.caller by) v = λ t. record (staying (s.caller by)) {
        width = (
          length-set (s.caller by).locals r w t,
          length (s.caller by).owned,
        );
      } in
      subst (λ W. RuleOf z after (put s.word (Local by r) w) s.page W more)
      (sym (views_answer s.caller by v stays (local_put s.caller by v r w near refl) (own_same s.caller by v refl) (taken_same s.caller by v refl)))
      (answered z g V s.history rule.told rule.formed by less call is (epoch_call z g s.word s.page V s.history rule by less call is) replies.Ok 0
      (with_local g by r x) (put s.word (Local by r) w) s.page rule.stands
      (phased_out z g.paused g.born (shapes g) (put s.word (Local by r) w) (λ c. (V.rest c).work) (calls_out z s by less g rule call is)
      (rule.phased.at_rest (calls_out z s by less g rule call is))) may Between tt (cell_none z s by less g rule call is none)
      (upd V.local by (upd (V.local by) r w)) (λ c ne. upd_else V.local by (upd (V.local by) r w) c ne)
      (subst (λ (words : ℕ → ℕ → ℕ). Localed z (shapes g) (upd g.local by (upd (g.local by) r x)) words (upd V.position by Between)
      (upd V.local by (upd (V.local by) r w))) (sym (local_words s.word by r w))
      (local_stored z (shapes g) g.local (λ c i. s.word (Local c i)) V.position V.local rule.localed by r w x value
      (quiet z s by less g rule call is)))
      (read_at z V.position by Between (shapes g) g.local V.header (upd (g.local by) r x) None rule.read_right tt))

  -- a local is stored
  pub local_at : (r w : ℕ) (q : Position) → MayWriteAt z by (s.caller by) here q r w → (s.caller by).position ≡ q →
      Rule z (stepped_by s by (does K3 (Local by r) (Stores w)) f (write_at z by (s.caller by) (Local by r) (Stores w) f q))
  local_at r w (Writing i x n) m is = written (n == 0)
    where
      at : (s.caller by).position ≡ Writing r w n
      at = is ∙ (λ t. Writing (sym m.0 t) (sym m.1 t) n)

      written : (b : Bool) → Rule z (stepped_by s by (does K3 (Local by r) (Stores w)) f
          (record { view = record (s.caller by) { position = cond b Between (Adding n) }; says = [] }))
      written true = due_written r w n Between at tt tt tt
      written false = due_written r w n (Adding n) at tt tt tt
  local_at r w (Calling (Copy i j)) m is =
      let fits = ranges z s by less g rule (Copy i j) is in
      let small : r < 16 = let e = m.0 in let h = fits.0 in omega arith in (
        with_entered (with_local g by r (g.local by j)) by (epoch_in (s.caller by)),
        value_written (Copy i j) r w (g.local by j) is refl small (m.1 ∙ rule.localed.views by j less (below_sixteen j fits.1.0))
            (record { reply_is = refl; nowhere = refl; after = ap (λ k. with_local g by k (g.local by j)) m.0 }),
      )
  local_at r w (Calling (Clear i)) m is =
      let fits = ranges z s by less g rule (Clear i) is in
      let small : r < 16 = let e = m.0 in let h = fits.0 in omega arith in (
        with_entered (with_local g by r None) by (epoch_in (s.caller by)),
        value_written (Clear i) r w None is refl small m.1
            (record { reply_is = refl; nowhere = refl; after = ap (λ k. with_local g by k None) m.0 }),
      )
  local_at r w _ m is = absurd m

  -- a global is stored
  pub global_stored : (i w : ℕ) (q : Position) → MaySetGlobalAt z by (s.caller by) here q i w → (s.caller by).position ≡ q →
      Rule z (stepped_by s by (does K7 (Global i) (Stores w)) f (store_at z by (s.caller by) (Global i) (Stores w) f q))
  global_stored i w (Calling (GlobalSet j r)) m is =
      let fits = ranges z s by less g rule (GlobalSet j r) is in
      let call : Call = GlobalSet j r in
      let x : Option ℕ = g.local by r in
      let value : w ≡ address_of (shapes g) x = m.1 ∙ rule.localed.views by r less (below_sixteen r fits.1.0) in
      let after : Graph = with_entered (with_global g i x) by (epoch_in (s.caller by)) in
      let more = s.history ++ entry_of by (epoch_in (s.caller by)) call replies.Ok 0 ∷ [] in
      let globaled : Globaled z (shapes g) (upd g.global i x) (λ k. put s.word (Global i) w (Global k)) = record {
        words = λ k l. globals_at i w x value k l;
      } in
      let stands : Represents z (with_global g i x) (put s.word (Global i) w) s.page V = record {
        timed = rule.stands.timed;
        headed = rule.stands.headed;
        fielded = rule.stands.fielded;
        cleared = rule.stands.cleared;
        globaled = globaled;
        named = rule.stands.named;
        apart = rule.stands.apart;
        stated = rule.stands.stated;
        at_end = rule.stands.at_end;
        polling = rule.stands.polling;
        owners = rule.stands.owners;
        stopped = rule.stands.stopped;
        wanted = rule.stands.wanted;
        working = rule.stands.working;
        framed = rule.stands.framed;
        housed = rule.stands.housed;
        handed = rule.stands.handed;
        classed = rule.stands.classed;
        placed = rule.stands.placed;
        taken_in = rule.stands.taken_in;
      } in (
        after,
        subst (λ W. RuleOf z after (put s.word (Global i) w) s.page W more) (sym (views_plain z s by less call replies.Ok))
            (answered z g V s.history rule.told rule.formed by less call is
            (epoch_call z g s.word s.page V s.history rule by less call is) replies.Ok 0
            (with_global g i x) (put s.word (Global i) w) s.page stands
            (phased_out z g.paused g.born (shapes g) (put s.word (Global i) w) (λ c. (V.rest c).work) (calls_out z s by less g rule call is)
            (rule.phased.at_rest (calls_out z s by less g rule call is)))
            (record { reply_is = refl; nowhere = refl; after = ap (λ k. with_global g k x) m.0 }) Between tt
            (cell_none z s by less g rule call is refl) V.local (λ c ne. refl)
            (locals_moved z (shapes g) g.local (λ c k. s.word (Local c k)) V.position V.local rule.localed by Between
            (λ k _. quiet z s by less g rule call is k) tt)
            (read_plain z s by less g rule Between tt)),
      )
    where
      globals_at : (i w : ℕ) (x : Option ℕ) → w ≡ address_of (shapes g) x → (k : ℕ) → k < z.sizes.globals →
          put s.word (Global i) w (Global k) ≡ address_of (shapes g) (upd g.global i x k)
      globals_at i w x value k l =
          upd_case2 (λ k v y. k < z.sizes.globals → v ≡ address_of (shapes g) y) (λ k. s.word (Global k)) g.global i w x (λ _. value) k
          (λ _ l. rule.stands.globaled.words k l) l
  global_stored i w _ m is = absurd m
