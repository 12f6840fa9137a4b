-- An answer on top of a step that says nothing.
use Rattle.std.proofs.Common.{◌≡◌, ℕ, ◌<◌, inr, [], ◌∷◌, ◌++◌, Option, Some, None, refl, sym, subst, ap, ◌∙◌}
use Rattle.kn_base.specs.declared.places.Place.{Place}
use Rattle.kn_base.specs.declared.places.Place.TheVariants.{Local}
use Rattle.kn_base.specs.Pages.{FrameView}
use Rattle.kn_base.specs.Functions.{upd}
use Rattle.kn_base.proofs.Updates.{upd_here, upd_same}
use Rattle.kn_graph.specs.declared.calls.Call.{Call}
use Rattle.kn_graph.specs.declared.calls.Call.TheVariants.{New, NewArray}
use Rattle.kn_graph.specs.declared.calls.Reply.{Reply}
use Rattle.kn_graph.specs.declared.calls.Reply.TheVariants as replies
use Rattle.kn_graph.specs.Ground.{Ground}
use Rattle.kn_graph.specs.Graph.{Graph, shapes, with_entered}
use Rattle.kn_graph.specs.Answers.{MayAnswer}
use Rattle.kn_rule.specs.declared.positions.Position.TheVariants.{Between, Calling}
use Rattle.kn_rule.specs.Decoding.{phase_of}
use Rattle.kn_rule.specs.Phases.{pauses}
use Rattle.kn_rule.specs.Views.{View, State, views_of}
use Rattle.kn_rule.specs.Requests.{words_asked}
use Rattle.kn_rule.specs.Steps.{entry_of, epoch_in}
use Rattle.kn_rule.specs.ObjectClauses.{IsWriting, ReadRight}
use Rattle.kn_rule.specs.Rule.{RuleOf}
use Rattle.kn_keep_heap.specs.Answered.{staying, Stays}
use Rattle.kn_keep_heap.proofs.Changed.{upd_twice}
use Rattle.kn_keep_heap.proofs.Parts.{views_moved, local_same, own_same, taken_same, position_same, header_same, log_same}
use Rattle.kn_keep_heap.proofs.Parts.{views_answer}
use Rattle.kn_keep_heap.proofs.Locals.{locals_moved}
use Rattle.kn_keep_heap.proofs.Positions.{read_at}
use Rattle.kn_keep_heap.proofs.Answers.{epoch_call, answered}

-- `full` is an answer of each call that asks for a cell
full_answer : (z : Ground) (by : ℕ) (g : Graph) (call : Call) (n : ℕ) → words_asked z call ≡ Some n → MayAnswer z by call g replies.Full 0 g
full_answer z by g (New r layout) n e = inr (record { reply_is = refl; nowhere = refl; after = refl })
full_answer z by g (NewArray r layout m) n e = inr (record { reply_is = refl; nowhere = refl; after = refl })
full_answer z by g _ n e = let h : Option.None ≡ Some n = e in absurd (cc)

module _ (z : Ground) (s : State) (by : ℕ) (less : by < z.sizes.threads) (g : Graph) where
  abbrev pub after_answer : View → Call → Reply → View
  after_answer u call reply = record u { position = Between; header = None; log = u.log ++ entry_of by (epoch_in u) call reply 0 ∷ [] }

  -- the call under way is answered
  pub then_answer : (u : View) (word : Place → ℕ) (page : ℕ → Option FrameView) → RuleOf z g word page (views_of (upd s.caller by u)) s.history →
      (call : Call) (reply : Reply) → MayAnswer z by call g reply 0 g → u.position ≡ Calling call → u.taken ≡ None →
      RuleOf z (with_entered g by (epoch_in u)) word page (views_of (upd s.caller by (after_answer u call reply)))
      (s.history ++ entry_of by (epoch_in u) call reply 0 ∷ [])
  then_answer u word page rule call reply may is none =
      let caller : ℕ → View = upd s.caller by u in
      let V = views_of caller in
      let v : View = after_answer u call reply in
      let me : caller by ≡ u = upd_here s.caller by u in
      let is' : V.position by ≡ Calling call = ap (λ (x : View). x.position) me ∙ is in
      let epoch : ℕ = pauses (phase_of (V.polled by)) in
      let ep : epoch ≡ epoch_in u = ap epoch_in me in
      let back = sym me in
      let stays : Stays (caller by) v = ap staying back in
      let path = views_answer caller by v stays (local_same caller by v (ap (λ (x : View). x.locals) back))
      (own_same caller by v (ap (λ (x : View). x.owned) back)) (taken_same caller by v (ap (λ (x : View). x.taken) back)) in
      let logs : v.log ≡ V.log by ++ entry_of by epoch call reply 0 ∷ [] = λ i. (sym me i).log ++ entry_of by
      (epoch_in (sym me i)) call reply 0 ∷ [] in
      subst (λ (c : ℕ → View). RuleOf z (with_entered g by (epoch_in u)) word page (views_of c) (s.history ++ entry_of by
      (epoch_in u) call reply 0 ∷ []))
      (upd_twice s.caller by u v)
      (subst (λ W. RuleOf z (with_entered g by (epoch_in u)) word page W (s.history ++ entry_of by (epoch_in u) call reply 0 ∷ [])) (sym path)
      (subst (λ l. RuleOf z (with_entered g by (epoch_in u)) word page
      (record V { position = upd V.position by Between; header = upd V.header by None; log = upd V.log by l })
      (s.history ++ entry_of by (epoch_in u) call reply 0 ∷ [])) (sym logs)
      (subst (λ e. RuleOf z (with_entered g by e) word page
      (record V {
        position = upd V.position by Between;
        header = upd V.header by None;
        log = upd V.log by (V.log by ++ entry_of by epoch call reply 0 ∷ []);
      })
      (s.history ++ entry_of by e call reply 0 ∷ [])) ep
      (answered z g V s.history rule.told rule.formed by less call is' (epoch_call z g word page V s.history rule by less call is') reply 0
      g word page rule.stands rule.phased may Between tt (ap (λ (x : View). x.taken) me ∙ none) V.local (λ c ne. refl)
      (locals_moved z (shapes g) g.local (λ c i. word (Local c i)) V.position V.local rule.localed by Between
      (λ i _ h. subst (λ p. IsWriting p i) is' h) tt)
      (subst (λ (l : ℕ → ℕ → Option ℕ). ReadRight z (shapes g) l (upd V.position by Between) (upd V.header by None))
      (upd_same g.local by (g.local by) refl)
      (read_at z V.position by Between (shapes g) g.local V.header (g.local by) None rule.read_right tt))))))

  -- a search ends with `full`
  pub then_full : (u : View) (word : Place → ℕ) (page : ℕ → Option FrameView) → RuleOf z g word page (views_of (upd s.caller by u)) s.history →
      (call : Call) (n : ℕ) → words_asked z call ≡ Some n → u.position ≡ Calling call → u.taken ≡ None →
      RuleOf z (with_entered g by (epoch_in u)) word page (views_of (upd s.caller by (after_answer u call replies.Full)))
      (s.history ++ entry_of by (epoch_in u) call replies.Full 0 ∷ [])
  then_full u word page rule call n asks is none = then_answer u word page rule call replies.Full (full_answer z by g call n asks) is none

  -- a step that changes nothing that the rule speaks of
  pub views_kept : (v : View) → Stays (s.caller by) v → v.position ≡ (s.caller by).position → v.locals ≡ (s.caller by).locals →
      v.header ≡ (s.caller by).header → v.owned ≡ (s.caller by).owned → v.taken ≡ (s.caller by).taken → v.log ≡ (s.caller by).log →
      views_of (upd s.caller by v) ≡ views_of s.caller
  views_kept v e ep el eh ew ek eg = views_moved s.caller by v e (position_same s.caller by v ep) (local_same s.caller by v el)
      (header_same s.caller by v eh) (own_same s.caller by v ew) (taken_same s.caller by v ek) (log_same s.caller by v eg)
