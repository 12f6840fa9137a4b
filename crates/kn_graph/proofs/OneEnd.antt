-- A history leads to one graph.
use Rattle.std.proofs.Common.{◌≡◌, ℕ, ◌<◌, ◌≤◌, ◌⊎◌, inl, inr, Bool, true, false, List, [], ◌∷◌, Option, Some, None, refl, sym}
use Rattle.std.proofs.Common.{subst, ap, ◌∙◌}
use Rattle.std.proofs.lemmas.Bool.{cases_lt}
use Rattle.kn_graph.specs.declared.calls.Call.{Call}
use Rattle.kn_graph.specs.declared.calls.Call.TheVariants as call
use Rattle.kn_graph.specs.declared.calls.Reply.{Reply}
use Rattle.kn_graph.specs.declared.calls.Reply.TheVariants as replies
use Rattle.kn_graph.specs.declared.entries.Event.{Event}
use Rattle.kn_graph.specs.declared.entries.Event.TheVariants as events
use Rattle.kn_graph.specs.declared.entries.Entry.{Entry}
use Rattle.kn_graph.specs.Ground.{Ground}
use Rattle.kn_graph.specs.Graph.{Graph, length_for, with_object, with_entered}
use Rattle.kn_graph.specs.Answers.{Answer, IsTheAnswer, AnswersNew, AnswersTie, MayAnswer, answer, tied}
use Rattle.kn_graph.specs.Collections.{Condemns, with_condemned}
use Rattle.kn_graph.specs.Histories.{Leads, Follows, EventFollows}
use Rattle.kn_graph.specs.Sound.{IsSound}
use Rattle.kn_graph.proofs.Addresses.{one_named}
use Rattle.kn_graph.proofs.LegalGraphs.{next_sound}

module _ (z : Ground) where
  module _ (g : Graph) (reply : Reply) (address : ℕ) (x y : Graph) where
    the_one : (a : Option Answer) → IsTheAnswer a reply address x → IsTheAnswer a reply address y → x ≡ y
    the_one None p q = absurd p
    the_one (Some a) p q = p.after ∙ sym q.after

    new_one : (by r layout n : ℕ) → AnswersNew z by r layout n g reply address x → AnswersNew z by r layout n g reply address y → x ≡ y
    new_one by r layout n (inl p) (inl q) = p.after ∙ sym q.after
    new_one by r layout n (inl p) (inr q) = let h : replies.Ok ≡ replies.Full = sym p.reply_is ∙ q.reply_is in absurd (cc)
    new_one by r layout n (inr p) (inl q) = let h : replies.Ok ≡ replies.Full = sym q.reply_is ∙ p.reply_is in absurd (cc)
    new_one by r layout n (inr p) (inr q) = p.after ∙ sym q.after

    not_full : (n c k : ℕ) (t : Option (ℕ × ℕ)) → (tied g n c k t).reply ≡ replies.Full → ⊥
    not_full n c k None e = absurd (cc)
    not_full n c k (Some t) e = absurd (cc)

    tie_one : (t : Option ℕ) (c k : ℕ) → AnswersTie t c k g reply address x → AnswersTie t c k g reply address y → x ≡ y
    tie_one None c k p q = p.after ∙ sym q.after
    tie_one (Some n) c k (inl p) (inl q) = p.after ∙ sym q.after
    tie_one (Some n) c k (inl p) (inr q) = absurd (not_full n c k (g.object n).tie (sym p.reply_is ∙ q.reply_is))
    tie_one (Some n) c k (inr p) (inl q) = absurd (not_full n c k (g.object n).tie (sym q.reply_is ∙ p.reply_is))
    tie_one (Some n) c k (inr p) (inr q) = p.after ∙ sym q.after

    answer_one : (by : ℕ) (c : Call) → MayAnswer z by c g reply address x → MayAnswer z by c g reply address y → x ≡ y
    answer_one by (call.New r layout) p q = new_one by r layout (length_for z layout 0) p q
    answer_one by (call.NewArray r layout n) p q = new_one by r layout (length_for z layout n) p q
    answer_one by (call.Tie r c n) p q = tie_one (g.local by r) c n p q
    answer_one by call.Collect p q = p.is.after ∙ sym q.is.after
    answer_one by c p q = the_one (answer z by g c) p q

  same_flag : (a b : Bool) → (a ≡ false → b ≡ false) → (b ≡ false → a ≡ false) → a ≡ b
  same_flag true true f g = refl
  same_flag true false f g = g refl
  same_flag false true f g = sym (f refl)
  same_flag false false f g = refl

  module _ (g : Graph) (flag flag' : ℕ → Bool) (p : Condemns g flag) (q : Condemns g flag') where
    same_at : (n : ℕ) → (n < g.born) ⊎ (g.born ≤ n) → flag n ≡ flag' n
    same_at n (inl near) = same_flag (flag n) (flag' n) (λ h. (q.born n near).1 ((p.born n near).0 h)) (λ h. (p.born n near).1 ((q.born n near).0 h))
    same_at n (inr far) = p.unborn n far ∙ sym (q.unborn n far)

    same_flags : ◌≡◌ {A = ℕ → Bool} flag flag'
    same_flags = λ t n. same_at n (cases_lt n g.born) t

  module _ (g : Graph) (s : IsSound z g) (x y : Graph) where
    event_one : (by epoch : ℕ) (e : Event) → EventFollows z by epoch e g x → EventFollows z by epoch e g y → x ≡ y
    event_one by epoch (events.Call c reply address) p q = answer_one g reply address x y by c p.answer q.answer
    event_one by epoch (events.Pause e) p q =
        p.1.after ∙ (ap (λ (f : ℕ → Bool). record (with_condemned g f) { paused = e }) (same_flags g p.1.flag q.1.flag p.1.condemns q.1.condemns)
        ∙ sym q.1.after)
    event_one by epoch (events.Released a) p q =
        p.1.after ∙ (ap (λ n. with_object g n (record (g.object n) { released = true })) (one_named z g s a p.1.object q.1.object p.1.named q.1.named)
        ∙ sym q.1.after)
    event_one by epoch (events.Queued a) p q =
        p.1.after ∙ (ap (λ n. with_object g n (record (g.object n) { queued = true })) (one_named z g s a p.1.object q.1.object p.1.named q.1.named)
        ∙ sym q.1.after)
    event_one by epoch (events.Finalized a c k) p q =
        p.1.after ∙ (ap (λ n. with_object g n (record (g.object n) { finalized = Some g.paused }))
        (one_named z g s a p.1.object q.1.object p.1.named q.1.named) ∙ sym q.1.after)
    event_one by epoch (events.Done e) p q = p.1.after ∙ sym q.1.after

  -- the graph after an entry is one
  pub one_next : (entry : Entry) (g x y : Graph) → IsSound z g → Follows z entry g x → Follows z entry g y → x ≡ y
  one_next entry g x y s p q =
      p.after ∙ (ap (λ (k : Graph). with_entered k entry.by.0 entry.epoch)
      (event_one g s p.graph q.graph entry.by.0 entry.epoch entry.what p.event q.event) ∙ sym q.after)

  -- the graph after a history is one
  pub one_end : (h : List Entry) (g x y : Graph) → IsSound z g → Leads z g h x → Leads z g h y → x ≡ y
  one_end [] g x y s p q = sym p ∙ q
  one_end (e ∷ h) g x y s p q =
      one_end h p.0 x y (next_sound z e g p.0 s p.1) p.2 (subst (λ (m : Graph). Leads z m h y) (one_next e g q.0 p.0 s q.1 p.1) q.2)
