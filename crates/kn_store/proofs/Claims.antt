-- A claim of the best frame seen is allowed.
use Rattle.std.proofs.Common.{◌≡◌, ℕ, ◌+◌, ◌<◌, ◌≤◌, ◌⊎◌, inl, inr, Bool, true, false, cond, eqb, leb, Some, refl, sym, ap}
use Rattle.std.proofs.Common.{◌∙◌, subst, arith}
use Rattle.std.proofs.lemmas.Bool.Decides.{eqb_tells, leb_tells}
use Rattle.kn_base.specs.Functions.{Tells}
use Rattle.kn_base.specs.declared.heap.Sizes.{Sizes}
use Rattle.kn_base.specs.Sizes.{frame_count}
use Rattle.kn_base.specs.declared.places.Place.TheVariants.{Frame}
use Rattle.kn_base.specs.Words.{packed_frame}
use Rattle.kn_rule.specs.declared.steps.Action.TheVariants.{Swaps}
use Rattle.kn_rule.specs.Decoding.{frame_of}
use Rattle.kn_rule.specs.Requests.{InArea, area_count, area_from, owned_word}
use Rattle.kn_rule.specs.Searches.{true_at}
use Rattle.kn_rule.specs.Allowed.{MayClaim, Searches}
use Rattle.kn_steps.specs.Made.{Stand}
use Rattle.kn_store.specs.declared.finder.Seen.{Seen}
use Rattle.kn_store.specs.Search.{Search, IsBest, count_of, first_of, is_early}
use Rattle.kn_store.specs.Agree.{Agrees, refused_or, word_of}

module _ (z : Sizes) (class i : ℕ) where
  abbrev count_by : Bool → Bool → ℕ
  count_by a b = cond a z.small (cond b z.large z.extra)

  abbrev from_by : Bool → Bool → ℕ
  from_by a b = cond a 0 (cond b z.small (z.small + z.large))

  lies_by : ((leb class 33 ≡ true) × (class ≤ 33)) ⊎ ((leb class 33 ≡ false) × (33 < class)) → Tells class 34 → i < area_count z class →
      InArea z (area_from z class + i) class × (area_from z class + i < frame_count z)
  lies_by (inl a) t l =
      let n : area_count z class ≡ z.small = ap (λ b. count_by b (eqb class 34)) a.0 in
      let f : area_from z class ≡ 0 = ap (λ b. from_by b (eqb class 34)) a.0 in
      let h = a.1 in
      (record { small = λ _. omega arith; large = λ e. absurd (omega arith); extra = λ e. absurd (omega arith) }, omega arith)
  lies_by (inr a) (inl t) l =
      let n : area_count z class ≡ z.large = (λ u. count_by (a.0 u) (t.0 u)) in
      let f : area_from z class ≡ z.small = (λ u. from_by (a.0 u) (t.0 u)) in
      let h = a.1 in let e = t.1 in
      (record { small = λ e. absurd (omega arith); large = λ _. (omega arith, omega arith); extra = λ e. absurd (omega arith) }, omega arith)
  lies_by (inr a) (inr t) l =
      let n : area_count z class ≡ z.extra = (λ u. count_by (a.0 u) (t.0 u)) in
      let f : area_from z class ≡ z.small + z.large = (λ u. from_by (a.0 u) (t.0 u)) in
      let h = a.1 in let ne = t.1 in (
        record { small = λ e. absurd (omega arith); large = λ e. absurd (ne e); extra = λ _. (omega arith, omega arith) },
        omega arith,
      )

  -- frame number i of the area of a class belongs to it
  lies : i < area_count z class → InArea z (area_from z class + i) class × (area_from z class + i < frame_count z)
  lies = lies_by (leb_tells class 33) (eqb_tells class 34)

-- and is a frame of the heap
pub near : (m : Search) (a : Stand) → Agrees m a → (i : ℕ) → i < count_of m → first_of m + i < frame_count a.heap.sizes
near m a g i l = subst (λ z. first_of m + i < frame_count z) (sym g.sizes) (lies m.sizes m.class i l).1

searching : (m : Search) (a : Stand) (here : ℕ → Bool) (g : Agrees m a) (i : ℕ) → i < count_of m →
    Searches a.heap a.by a.view here g.call m.class (first_of m + i)
searching m a here g i l = record {
  is_call = g.is_call;
  words = g.words;
  is_request = g.is_request;
  is_class = g.class;
  none_taken = g.none_taken;
  none_swept = g.none_swept;
  none_owned = g.none_owned;
  in_area = subst (λ z. InArea z (first_of m + i) m.class) (sym g.sizes) (lies m.sizes m.class i l).0;
  near = near m a g i l;
  thread = let e = g.caller in let l = g.thread in omega arith;
}

module _ (m : Search) (a : Stand) (here : ℕ → Bool) (g : Agrees m a) where
  pub may_claim : (i new : ℕ) (s : Seen) → IsBest m.class m.seen (count_of m) i s →
      new ≡ packed_frame (owned_word (frame_of s.word) m.class m.epoch m.by) →
      MayClaim a.heap a.by a.view here (Frame (first_of m + i)) (Swaps s.word new)
  may_claim i new s best is = record {
    call = g.call;
    class = m.class;
    frame = first_of m + i;
    old = s.word;
    search = searching m a here g i best.near;
    place = refl;
    word = λ t. Swaps s.word ((is ∙ (λ u. packed_frame (owned_word (frame_of s.word) m.class (g.epoch u) (sym g.caller u)))) t);
    seen = g.same.words i best.near ∙ ap (λ x. Some (word_of x)) best.at;
    fit = best.fit.0;
    not_refused = ap true_at (g.same.flags i best.near ∙ ap (λ x. Some (refused_or (is_early m.early (first_of m + i)) x)) best.at) ∙ best.fit.1;
  }
