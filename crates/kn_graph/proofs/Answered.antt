-- Every answered call changes nothing or one thing, and makes an object exactly where it is a birth.
use Rattle.std.proofs.Common.{◌≡◌, ◌≢◌, ℕ, ◌+◌, ◌-◌, ◌<◌, ◌≤◌, inl, inr, Bool, true, false, ◌&&◌, cond, eqb, Option, Some}
use Rattle.std.proofs.Common.{None, length, slice_get, refl, sym, subst, ap, ◌∙◌, arith, eq-eqb}
use Rattle.std.proofs.lemmas.List.{length-replicate}
use Rattle.kn_layout.specs.declared.layouts.FieldKind.{FieldKind}
use Rattle.kn_layout.specs.declared.layouts.FieldKind.TheVariants.{Ref as of_ref, Int as of_int}
use Rattle.kn_layout.specs.declared.layouts.Layout.{Layout}
use Rattle.kn_layout.specs.declared.layouts.Layout.TheVariants.{Fields, Array}
use Rattle.kn_graph.specs.declared.calls.Call.{Call}
use Rattle.kn_graph.specs.declared.calls.Call.TheVariants as call
use Rattle.kn_graph.specs.declared.calls.Reply.{Reply}
use Rattle.kn_graph.specs.Ground.{Ground}
use Rattle.kn_graph.specs.Arguments.{IsInRange, IsFieldsLayout, IsArrayLayout}
use Rattle.kn_graph.specs.Graph.{Graph, shapes, field_kind, kinds_for, with_local, with_global, with_stable, with_weak, with_back}
use Rattle.kn_graph.specs.Graph.{with_count, with_points, with_number, with_tie}
use Rattle.kn_graph.specs.Answers.{Answer, IsAnswer, AnswersNew, AnswersTie, MayAnswer, needs, where_ref, where_int, on_name, on_referent}
use Rattle.kn_graph.specs.Answers.{on_vacant, retained, let_go, tied, greatest_count}
use Rattle.kn_graph.specs.Sound.{WasBorn, Alive, MayHaveLength, IsSound}
use Rattle.kn_graph.specs.Changes.{Changes}
use Rattle.kn_graph.specs.Changes as made
use Rattle.kn_graph.specs.Counts.{makes_object, is_ok}
use Rattle.kn_graph.proofs.Writes.{alive_at}

laid_out_fields : (x : Option Layout) → IsFieldsLayout x → MayHaveLength x (length (kinds_for x 0))
laid_out_fields None h = absurd h
laid_out_fields (Some (Fields kinds)) h = refl
laid_out_fields (Some (Array kind)) h = absurd h

laid_out_array : (x : Option Layout) (n : ℕ) → IsArrayLayout x → n ≤ 60000 → MayHaveLength x (length (kinds_for x n))
laid_out_array None n h few = absurd h
laid_out_array (Some (Fields kinds)) n h few = absurd h
laid_out_array (Some (Array kind)) n h few = subst (λ (k : ℕ). k ≤ 60000) (sym (length-replicate n kind)) few

-- what holds of the graph, and of each graph that a call makes of it by one change, holds behind every answer that makes no object
module _ (z : Ground) (thread : ℕ) (g : Graph) (s : IsSound z g) (Q : Graph → Type 0)
    (nothing : Q g)
    (of_local : (r : ℕ) (x : Option ℕ) → r ≤ 15 → Alive g.born (shapes g) x → Q (with_local g thread r x))
    (of_global : (i : ℕ) (x : Option ℕ) → i < z.sizes.globals → Alive g.born (shapes g) x → Q (with_global g i x))
    (of_stable : (h : ℕ) (x : Option ℕ) → h < z.sizes.stable → Alive g.born (shapes g) x → Q (with_stable g h x))
    (of_weak : (w n : ℕ) → w < z.sizes.weak → Alive g.born (shapes g) (Some n) → Q (with_weak g w n))
    (of_back : (b n : ℕ) → b < z.sizes.back → Alive g.born (shapes g) (Some n) → Q (with_back g b n))
    (of_count : (b c : ℕ) → c ≤ greatest_count → Alive g.born (shapes g) (g.back b) → Q (with_count g b c))
    (of_points : (n f : ℕ) (x : Option ℕ) → Alive g.born (shapes g) (Some n) → field_kind z (shapes g n) f ≡ Some of_ref →
    Alive g.born (shapes g) x → Q (with_points g n f x))
    (of_number : (n f x : ℕ) → Alive g.born (shapes g) (Some n) → Q (with_number g n f x))
    (of_tie : (n cleaner number : ℕ) → Alive g.born (shapes g) (Some n) → (g.object n).tie ≡ None → Q (with_tie g n cleaner number)) where
  needed : (x : Option ℕ) (f : ℕ → Answer) → Alive g.born (shapes g) x → ((n : ℕ) → Alive g.born (shapes g) (Some n) → Q (f n).after) →
      Q (needs z thread g x f).after
  needed None f a h = nothing
  needed (Some n) f a h = h n a

  at_ref : (k : Option FieldKind) (a : Answer) → (k ≡ Some of_ref → Q a.after) → Q (where_ref z thread g k a).after
  at_ref None a h = nothing
  at_ref (Some of_ref) a h = h refl
  at_ref (Some of_int) a h = nothing

  at_int : (k : Option FieldKind) (a : Answer) → Q a.after → Q (where_int z thread g k a).after
  at_int None a h = nothing
  at_int (Some of_ref) a h = nothing
  at_int (Some of_int) a h = h

  named : (x : Option ℕ) (f : ℕ → Answer) → ((n : ℕ) → x ≡ Some n → Q (f n).after) → Q (on_name z thread g x f).after
  named None f h = nothing
  named (Some n) f h = h n refl

  vacant : (x : Option ℕ) (a : Answer) → Q a.after → Q (on_vacant z thread g x a).after
  vacant None a h = h
  vacant (Some n) a h = nothing

  if_not : (b : Bool) (a a' : Answer) → Q a.after → (b ≡ false → Q a'.after) → Q (cond b a a').after
  if_not true a a' h k = h
  if_not false a a' h k = k refl

  kept : (x : Option ℕ) (f : ℕ → Answer) → ((n : ℕ) → x ≡ Some n → n < g.born) →
      ((n : ℕ) → x ≡ Some n → Alive g.born (shapes g) (Some n) → Q (f n).after) →
      Q (on_referent z thread g x f).after
  kept x f born h = named x _ (λ n e. if_not (g.object n).condemned _ (f n) nothing (λ free. h n e (born n e, free)))

  not_at : (a b : ℕ) → eqb a b ≡ false → a ≢ b
  not_at a b e same = let h : true ≡ false = sym (eq-eqb a b same) ∙ e in absurd (cc)

  more : (b : ℕ) → Alive g.born (shapes g) (g.back b) → Q (retained z thread g b).after
  more b a = if_not (eqb (g.count b) greatest_count) _ _ nothing
      (λ e. let ne : g.count b ≢ 4095 = not_at (g.count b) greatest_count e in let top : g.count b ≤ 4095 = s.names.counts b in
      of_count b (g.count b + 1) (omega arith) a)

  less : (b : ℕ) → Alive g.born (shapes g) (g.back b) → Q (let_go z thread g b).after
  less b a = if_not (eqb (g.count b) 0) _ _ nothing
      (λ e. let top : g.count b ≤ 4095 = s.names.counts b in of_count b (g.count b - 1) (omega arith) a)

  tied_now : (n c k : ℕ) → Alive g.born (shapes g) (Some n) → (t : Option (ℕ × ℕ)) → (g.object n).tie ≡ t → Q (tied g n c k t).after
  tied_now n c k a None e = of_tie n c k a e
  tied_now n c k a (Some t) e = nothing

  weak_born : (w n : ℕ) → g.weak w ≡ Some n → n < g.born
  weak_born w n e = subst (WasBorn g.born) e (s.names.weaks w)

  back_born : (b n : ℕ) → g.back b ≡ Some n → n < g.born
  back_born b n e = subst (WasBorn g.born) e (s.names.backs b)

  at : (x : Option ℕ) (n : ℕ) → x ≡ Some n → Alive g.born (shapes g) (Some n) → Alive g.born (shapes g) x
  at x n e a = subst (Alive g.born (shapes g)) (sym e) a

  module _ (reply : Reply) (address : ℕ) (g' : Graph) where
    given : (a : Answer) → Q a.after → IsAnswer a reply address g' → Q g'
    given a does is = subst Q (sym is.after) does

    tie_answer : (x : Option ℕ) (c k : ℕ) → Alive g.born (shapes g) x → AnswersTie x c k g reply address g' → Q g'
    tie_answer None c k a is = given _ nothing is
    tie_answer (Some n) c k a (inl is) = given _ (tied_now n c k a (g.object n).tie refl) is
    tie_answer (Some n) c k a (inr full) = given _ nothing full

    pub other_answer : (c : Call) → makes_object c ≡ false → IsInRange z c → MayAnswer z thread c g reply address g' → Q g'
    other_answer (call.New r layout) plain fit a = absurd (cc)
    other_answer (call.NewArray r layout n) plain fit a = absurd (cc)
    other_answer (call.Copy r t) plain fit a = given _ (of_local r (g.local thread t) fit.0 (s.roots.locals thread t)) a
    other_answer (call.Clear r) plain fit a = given _ (of_local r None fit.0 tt) a
    other_answer (call.Same r t) plain fit a = given _ nothing a
    other_answer (call.Get r t f) plain fit a = given _ (needed (g.local thread t) _ (s.roots.locals thread t)
        (λ n live. at_ref (field_kind z (shapes g n) f) _ (λ k. of_local r ((g.object n).points f) fit.0 ((s.fields n live.0).values live.1 f)))) a
    other_answer (call.Set t f r) plain fit a = given _ (needed (g.local thread t) _ (s.roots.locals thread t)
        (λ n live. at_ref (field_kind z (shapes g n) f) _ (λ k. of_points n f (g.local thread r) live k (s.roots.locals thread r)))) a
    other_answer (call.Put t f value) plain fit a = given _ (needed (g.local thread t) _ (s.roots.locals thread t)
        (λ n live. at_int (field_kind z (shapes g n) f) _ (of_number n f value live))) a
    other_answer (call.Read t f) plain fit a = given _ (needed (g.local thread t) _ (s.roots.locals thread t)
        (λ n live. at_int (field_kind z (shapes g n) f) _ nothing)) a
    other_answer (call.GlobalSet i r) plain fit a = given _ (of_global i (g.local thread r) fit.0 (s.roots.locals thread r)) a
    other_answer (call.GlobalGet r i) plain fit a = given _ (of_local r (g.global i) fit.0 (s.roots.globals i)) a
    other_answer (call.Pin h r) plain fit a = given _ (needed (g.local thread r) _ (s.roots.locals thread r)
        (λ n live. vacant (g.stable h) _ (of_stable h (Some n) fit.0 live))) a
    other_answer (call.Unpin h) plain fit a = given _ (named (g.stable h) _ (λ n e. of_stable h None fit.0 tt)) a
    other_answer (call.StableGet r h) plain fit a = given _ (named (g.stable h) _
        (λ n e. of_local r (Some n) fit.0 (alive_at g.born (shapes g) (g.stable h) n e (s.roots.stables h)))) a
    other_answer (call.MakeWeak w r) plain fit a = given _ (needed (g.local thread r) _ (s.roots.locals thread r)
        (λ n live. vacant (g.weak w) _ (of_weak w n fit.0 live))) a
    other_answer (call.WeakGet r w) plain fit a = given _ (kept (g.weak w) _ (weak_born w) (λ n e live. of_local r (Some n) fit.0 live)) a
    other_answer (call.MakeBack b r) plain fit a = given _ (needed (g.local thread r) _ (s.roots.locals thread r)
        (λ n live. vacant (g.back b) _ (of_back b n fit.0 live))) a
    other_answer (call.Retain b) plain fit a = given _ (kept (g.back b) _ (back_born b) (λ n e live. more b (at (g.back b) n e live))) a
    other_answer (call.Release b) plain fit a = given _ (kept (g.back b) _ (back_born b) (λ n e live. less b (at (g.back b) n e live))) a
    other_answer (call.BackGet r b) plain fit a = given _ (kept (g.back b) _ (back_born b) (λ n e live. of_local r (Some n) fit.0 live)) a
    other_answer (call.Tie r c n) plain fit a = tie_answer (g.local thread r) c n (s.roots.locals thread r) a
    other_answer call.Collect plain fit a = given _ nothing a.is

module _ (z : Ground) (thread : ℕ) (g : Graph) (s : IsSound z g) (reply : Reply) (address : ℕ) (g' : Graph) where
  new_changes : (r layout n : ℕ) → r ≤ 15 → MayHaveLength (slice_get z.layouts layout) n → AnswersNew z thread r layout n g reply address g' →
      Changes z thread g g'
  new_changes r layout n small laid_out (inl b) = subst (Changes z thread g) (sym b.after) (made.of_birth r address layout n small laid_out b.legal)
  new_changes r layout n small laid_out (inr full) = subst (Changes z thread g) (sym full.after) made.nothing

  pub answer_changes : (c : Call) → IsInRange z c → MayAnswer z thread c g reply address g' → Changes z thread g g'
  answer_changes (call.New r layout) fit a = new_changes r layout _ fit.0 (laid_out_fields (slice_get z.layouts layout) fit.1.0) a
  answer_changes (call.NewArray r layout n) fit a =
      new_changes r layout _ fit.0 (laid_out_array (slice_get z.layouts layout) n fit.1.0 fit.1.1.0) a
  answer_changes c fit a = other_answer z thread g s (Changes z thread g) made.nothing made.of_local made.of_global made.of_stable made.of_weak
      made.of_back made.of_count made.of_points made.of_number made.of_tie reply address g' c refl fit a

  -- an answer that makes no object leaves their number
  other_born : (c : Call) → makes_object c ≡ false → IsInRange z c → MayAnswer z thread c g reply address g' → g'.born ≡ g.born
  other_born c plain fit a = other_answer z thread g s (λ x. x.born ≡ g.born) refl (λ _ _ _ _. refl) (λ _ _ _ _. refl) (λ _ _ _ _. refl)
      (λ _ _ _ _. refl) (λ _ _ _ _. refl) (λ _ _ _ _. refl) (λ _ _ _ _ _ _. refl) (λ _ _ _ _. refl) (λ _ _ _ _ _. refl)
      reply address g' c plain fit a

  new_born : (r layout n : ℕ) → AnswersNew z thread r layout n g reply address g' → g'.born ≡ cond (is_ok reply) 1 0 + g.born
  new_born r layout n (inl b) =
      subst (λ (x : Reply). g'.born ≡ cond (is_ok x) 1 0 + g.born) (sym b.reply_is) (ap (λ (x : Graph). x.born) b.after ∙ omega arith)
  new_born r layout n (inr full) =
      subst (λ (x : Reply). g'.born ≡ cond (is_ok x) 1 0 + g.born) (sym full.reply_is) (ap (λ (x : Graph). x.born) full.after ∙ omega arith)

  -- an answer makes one object where it is a birth, and else none
  pub answer_born : (c : Call) → IsInRange z c → MayAnswer z thread c g reply address g' → g'.born ≡ cond (makes_object c && is_ok reply) 1 0 + g.born
  answer_born (call.New r layout) fit a = new_born r layout _ a
  answer_born (call.NewArray r layout n) fit a = new_born r layout _ a
  answer_born c fit a = other_born c refl fit a ∙ omega arith
