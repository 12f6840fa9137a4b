-- The turn that the next step of a marker makes.
use Rattle.std.proofs.Common.{◌≡◌, ◌↔◌, inl, inr, ℕ, ◌*◌, ◌≤◌, Bool, true, false, cond, eqb, Option, Some}
use Rattle.std.proofs.Common.{nat_lt, refl, sym, ap, ◌∙◌, subst}
use Rattle.std.proofs.Common.{eq-eqb}
use Rattle.std.proofs.lemmas.Bool.{eqb-true, eqb-false, ltb-false, le-ltb}
use Rattle.kn_base.specs.Pages.{FrameView}
use Rattle.kn_base.specs.declared.places.Place.{Place}
use Rattle.kn_base.specs.declared.places.Place.TheVariants.{Pending, RootSet, Side}
use Rattle.kn_graph.specs.Ground.{Ground}
use Rattle.kn_marking.specs.declared.work.Child.TheVariants as children
use Rattle.kn_marking.specs.declared.work.Doing.{Doing}
use Rattle.kn_marking.specs.declared.work.Doing.TheVariants as doings
use Rattle.kn_marking.specs.Words.{gray}
use Rattle.kn_rule.specs.declared.steps.Action.{Action}
use Rattle.kn_rule.specs.declared.steps.Kind.{Kind}
use Rattle.kn_rule.specs.declared.steps.Kind.TheVariants.{K16, K17, K20}
use Rattle.kn_rule.specs.declared.steps.Action.TheVariants.{Loads}
use Rattle.kn_layout.specs.declared.layouts.FieldKind.TheVariants.{Ref as of_ref}
use Rattle.kn_rule.specs.Requests.{told_kind}
use Rattle.kn_rule.specs.Steps.{Found, Step, does}
use Rattle.kn_steps.specs.Made.{Allowed, Made, Stand}
use Rattle.kn_steps.specs.Turns.{OneStep}
use Rattle.kn_mark.specs.declared.next.Next.{Next}
use Rattle.kn_mark.specs.declared.next.Next.TheVariants.{Gives, Meets, Adds, Grays, LoadsRoot, Finishes, LoadsHeader, LoadsField, Blackens}
use Rattle.kn_mark.specs.declared.next.Next.TheVariants.{Claims, LooksAt, TakesUp, Counts, Searches}
use Rattle.kn_mark.specs.declared.turn.MarkTurn.{MarkTurn}
use Rattle.kn_mark.specs.declared.turn.MarkTurn.TheVariants.{Moved, Idle, Over}
use Rattle.kn_mark.specs.Kept.{Kept, LiesInHeap, free_share}
use Rattle.kn_mark.specs.Steps.{IsNext, NamesNear, Tells, answer_behind, behind, step_of}
use Rattle.kn_mark.specs.Agree.{Agrees, HasRest, IsAtRef}
use Rattle.kn_mark.specs.Turns.{FoundNothing, Goes}
use Rattle.kn_mark.proofs.Allowing.{may}
use Rattle.kn_mark.proofs.Agreeing.{agrees_behind, names_near, only_marked, view_is}

-- the word told does for the word found
module _ (z : Ground) (k : Kept) where
  abbrev Same : Next → ℕ → ℕ → Type 0
  Same n u w = (behind z k n w ≡ behind z k n u) × (answer_behind k n w ≡ answer_behind k n u) × (NamesNear k n u → NamesNear k n w)

  same_by : (n : Next) (u w : ℕ) → u ≡ w → Same n u w
  same_by n u w e = (ap (behind z k n) (sym e), ap (answer_behind k n) (sym e), subst (NamesNear k n) e)

  pub same_told : (n : Next) (u w : ℕ) → Tells (step_of k n).act u w → Same n u w
  same_told Gives u w e = same_by Gives u w e
  same_told (Meets y) u w e = same_by (Meets y) u w e
  same_told (Adds y v) u w e = same_by (Adds y v) u w e
  same_told (Grays y v) u w e = same_by (Grays y v) u w e
  same_told (LoadsRoot j i) u w e = same_by (LoadsRoot j i) u w e
  same_told (Finishes j) u w e = (refl, refl, λ h. tt)
  same_told (LoadsHeader x) u w e = same_by (LoadsHeader x) u w e
  same_told (LoadsField x h i) u w e = same_by (LoadsField x h i) u w e
  same_told (Blackens x) u w e = (refl, refl, λ h. tt)
  same_told (Claims j v) u w e = same_by (Claims j v) u w e
  same_told (LooksAt j) u w e = same_by (LooksAt j) u w e
  same_told (TakesUp x) u w e = same_by (TakesUp x) u w e
  same_told Counts u w e = same_by Counts u w e
  same_told (Searches n) u w e = same_by (Searches n) u w e

module _ (k : Kept) (w : ℕ) where
  -- over
  abbrev OverTold : MarkTurn → Step → Type 0
  OverTold reply d = (reply ≡ Over) ↔ ((d ≡ does K16 Pending Loads) × (w ≡ 0))

  not_over : (reply : MarkTurn) (d : Step) → (reply ≡ Over → ⊥) → (d.kind ≡ K16 → ⊥) → OverTold reply d
  not_over reply d a b = (λ e. absurd (a e), λ h. absurd (b (ap (λ (x : Step). x.kind) h.0)))

  idle_not_over : (b : Bool) (p : Place) → cond b Moved (Idle p w) ≡ Over → ⊥
  idle_not_over true p e = cc
  idle_not_over false p e = cc

  counted_over : (b : Bool) → eqb w 0 ≡ b → (cond b Over Moved ≡ Over) ↔ ((does K16 Pending Loads ≡ does K16 Pending Loads) × (w ≡ 0))
  counted_over true e = (λ _. (refl, eqb-true w 0 e), λ _. refl)
  counted_over false e = (λ h. absurd (cc), λ h. absurd (eqb-false w 0 e h.1))

  over_told : (n : Next) → OverTold (answer_behind k n w) (step_of k n)
  over_told Gives = not_over Moved (step_of k Gives) (λ e. cc) (λ e. cc)
  over_told (Meets y) = not_over Moved (step_of k (Meets y)) (λ e. cc) (λ e. cc)
  over_told (Adds y v) = not_over Moved (step_of k (Adds y v)) (λ e. cc) (λ e. cc)
  over_told (Grays y v) = not_over Moved (step_of k (Grays y v)) (λ e. cc) (λ e. cc)
  over_told (LoadsRoot j i) = not_over Moved (step_of k (LoadsRoot j i)) (λ e. cc) (λ e. cc)
  over_told (Finishes j) = not_over Moved (step_of k (Finishes j)) (λ e. cc) (λ e. cc)
  over_told (LoadsHeader x) = not_over Moved (step_of k (LoadsHeader x)) (λ e. cc) (λ e. cc)
  over_told (LoadsField x h i) = not_over Moved (step_of k (LoadsField x h i)) (λ e. cc) (λ e. cc)
  over_told (Blackens x) = not_over Moved (step_of k (Blackens x)) (λ e. cc) (λ e. cc)
  over_told (Claims j v) = not_over Moved (step_of k (Claims j v)) (λ e. cc) (λ e. cc)
  over_told (LooksAt j) =
      not_over (answer_behind k (LooksAt j) w) (step_of k (LooksAt j)) (idle_not_over (nat_lt w (4 * k.work.epoch)) (RootSet j)) (λ e. cc)
  over_told (TakesUp x) = not_over Moved (step_of k (TakesUp x)) (λ e. cc) (λ e. cc)
  over_told Counts = counted_over (eqb w 0) refl
  over_told (Searches n) =
      not_over (answer_behind k (Searches n) w) (step_of k (Searches n)) (idle_not_over (eqb w (gray k.work.epoch)) (Side k.cursor)) (λ e. cc)

  -- idle
  abbrev IdleTold : MarkTurn → Step → Type 0
  IdleTold reply d = (p : Place) (u : ℕ) → (reply ≡ Idle p u) ↔ ((u ≡ w) × FoundNothing k d u p)

  moved_told : (d : Step) → ((j : ℕ) → d ≡ does K17 (RootSet j) Loads → ⊥) →
      ((a : ℕ) → d ≡ does K20 (Side a) Loads → k.work.child ≡ children.NoChild → ⊥) → IdleTold Moved d
  moved_told d a b p u = (λ e. absurd (cc), λ h. absurd (at h.1))
    where
      at : FoundNothing k d u p → ⊥
      at (inl m) = a m.0 m.2
      at (inr m) = b m.0 m.2 m.3

  other_kind : (d : Step) → (d.kind ≡ K17 → ⊥) → (d.kind ≡ K20 → ⊥) → IdleTold Moved d
  other_kind d a b = moved_told d (λ j e. a (ap (λ (x : Step). x.kind) e)) (λ c e i. b (ap (λ (x : Step). x.kind) e))

  other_act : (d : Step) → (d.act ≡ Loads → ⊥) → IdleTold Moved d
  other_act d a = moved_told d (λ j e. a (ap (λ (x : Step). x.act) e)) (λ c e i. a (ap (λ (x : Step). x.act) e))

  set_idle : (j : ℕ) (b : Bool) → nat_lt w (4 * k.work.epoch) ≡ b → IdleTold (cond b Moved (Idle (RootSet j) w)) (does K17 (RootSet j) Loads)
  set_idle j true e p u = (λ h. absurd (cc), λ h. absurd (at h.0 h.1))
    where
      at : u ≡ w → FoundNothing k (does K17 (RootSet j) Loads) u p → ⊥
      at s (inl m) = let f : true ≡ false = sym e ∙ le-ltb w (4 * k.work.epoch) (subst (λ n. 4 * k.work.epoch ≤ n) s m.3) in cc
      at s (inr m) = let f : K17 ≡ K20 = ap (λ (x : Step). x.kind) m.2 in cc
  set_idle j false e p u = (there, λ h. back h.0 h.1)
    where
      there : Idle (RootSet j) w ≡ Idle p u → (u ≡ w) × FoundNothing k (does K17 (RootSet j) Loads) u p
      there h =
          let place : RootSet j ≡ p = cc in
          let word : w ≡ u = cc in
          (sym word, inl (j, sym place, refl, subst (λ n. 4 * k.work.epoch ≤ n) word (ltb-false w (4 * k.work.epoch) e)))

      back : u ≡ w → FoundNothing k (does K17 (RootSet j) Loads) u p → Idle (RootSet j) w ≡ Idle p u
      back s (inl m) = let same : RootSet j ≡ RootSet m.0 = ap (λ (x : Step). x.place) m.2 in (λ t. Idle ((same ∙ sym m.1) t) (sym s t))
      back s (inr m) = let f : K17 ≡ K20 = ap (λ (x : Step). x.kind) m.2 in absurd (cc)

  mark_idle : (b : Bool) → k.work.child ≡ children.NoChild → eqb w (gray k.work.epoch) ≡ b →
      IdleTold (cond b Moved (Idle (Side k.cursor) w)) (does K20 (Side k.cursor) Loads)
  mark_idle true none e p u = (λ h. absurd (cc), λ h. absurd (at h.0 h.1))
    where
      at : u ≡ w → FoundNothing k (does K20 (Side k.cursor) Loads) u p → ⊥
      at s (inl m) = let f : K20 ≡ K17 = ap (λ (x : Step). x.kind) m.2 in cc
      at s (inr m) = m.4 (s ∙ eqb-true w (gray k.work.epoch) e)
  mark_idle false none e p u = (there, λ h. back h.0 h.1)
    where
      there : Idle (Side k.cursor) w ≡ Idle p u → (u ≡ w) × FoundNothing k (does K20 (Side k.cursor) Loads) u p
      there h =
          let place : Side k.cursor ≡ p = cc in
          let word : w ≡ u = cc in
          (sym word, inr (k.cursor, sym place, refl, none, λ s. eqb-false w (gray k.work.epoch) e (word ∙ s)))

      back : u ≡ w → FoundNothing k (does K20 (Side k.cursor) Loads) u p → Idle (Side k.cursor) w ≡ Idle p u
      back s (inl m) = let f : K20 ≡ K17 = ap (λ (x : Step). x.kind) m.2 in absurd (cc)
      back s (inr m) = let same : Side k.cursor ≡ Side m.0 = ap (λ (x : Step). x.place) m.2 in (λ t. Idle ((same ∙ sym m.1) t) (sym s t))

  counted_not_idle : (b : Bool) (p : Place) (u : ℕ) → cond b Over Moved ≡ Idle p u → ⊥
  counted_not_idle true p u e = cc
  counted_not_idle false p u e = cc

  count_idle : IdleTold (cond (eqb w 0) Over Moved) (does K16 Pending Loads)
  count_idle p u = (λ e. absurd (counted_not_idle (eqb w 0) p u e), λ m. absurd (at m.1))
    where
      at : FoundNothing k (does K16 Pending Loads) u p → ⊥
      at (inl m) = let f : K16 ≡ K17 = ap (λ (x : Step). x.kind) m.2 in cc
      at (inr m) = let f : K16 ≡ K20 = ap (λ (x : Step). x.kind) m.2 in cc

  met_busy : (y : ℕ) → k.work.child ≡ children.Met y → k.work.child ≡ children.NoChild → ⊥
  met_busy y a b = let f : children.Met y ≡ children.NoChild = sym a ∙ b in cc

  idle_told : (n : Next) → IsNext k n → IdleTold (answer_behind k n w) (step_of k n)
  idle_told Gives h = other_kind (step_of k Gives) (λ e. cc) (λ e. cc)
  idle_told (Meets y) h =
      moved_told (step_of k (Meets y)) (λ j e. let f : K20 ≡ K17 = ap (λ (x : Step). x.kind) e in cc) (λ c e i. met_busy y h.1 i)
  idle_told (Adds y v) h = other_kind (step_of k (Adds y v)) (λ e. cc) (λ e. cc)
  idle_told (Grays y v) h = other_act (step_of k (Grays y v)) (λ e. cc)
  idle_told (LoadsRoot j i) h = other_kind (step_of k (LoadsRoot j i)) (λ e. cc) (λ e. cc)
  idle_told (Finishes j) h = other_act (step_of k (Finishes j)) (λ e. cc)
  idle_told (LoadsHeader x) h = other_kind (step_of k (LoadsHeader x)) (λ e. cc) (λ e. cc)
  idle_told (LoadsField x hd i) h = other_kind (step_of k (LoadsField x hd i)) (λ e. cc) (λ e. cc)
  idle_told (Blackens x) h = other_kind (step_of k (Blackens x)) (λ e. cc) (λ e. cc)
  idle_told (Claims j v) h = other_act (step_of k (Claims j v)) (λ e. cc)
  idle_told (LooksAt j) h = set_idle j (nat_lt w (4 * k.work.epoch)) refl
  idle_told (TakesUp x) h = other_kind (step_of k (TakesUp x)) (λ e. cc) (λ e. cc)
  idle_told Counts h = count_idle
  idle_told (Searches n) h = mark_idle (eqb w (gray k.work.epoch)) h.0.0.1 refl

  -- only a load of the count answers that the marking is over
  pub counts_over : (n : Next) → answer_behind k n w ≡ Over → (n ≡ Counts) × (w ≡ 0)
  counts_over Counts e = (refl, ((over_told Counts).0 e).1)
  counts_over Gives e = absurd (cc)
  counts_over (Meets y) e = absurd (cc)
  counts_over (Adds y v) e = absurd (cc)
  counts_over (Grays y v) e = absurd (cc)
  counts_over (LoadsRoot j i) e = absurd (cc)
  counts_over (Finishes j) e = absurd (cc)
  counts_over (LoadsHeader x) e = absurd (cc)
  counts_over (LoadsField x h i) e = absurd (cc)
  counts_over (Blackens x) e = absurd (cc)
  counts_over (Claims j v) e = absurd (cc)
  counts_over (LooksAt j) e = absurd (idle_not_over (nat_lt w (4 * k.work.epoch)) (RootSet j) e)
  counts_over (TakesUp x) e = absurd (cc)
  counts_over (Searches n) e = absurd (idle_not_over (eqb w (gray k.work.epoch)) (Side k.cursor) e)

same_ref : (a z : Ground) → a.layouts ≡ z.layouts → (d : Doing) → IsAtRef a d → IsAtRef z d
same_ref a z e doings.Free h = tt
same_ref a z e (doings.Set j i) h = tt
same_ref a z e (doings.Header x) h = tt
same_ref a z e (doings.Cell x hd i) h = λ l. subst (λ y. told_kind (record z { layouts = y }) hd i ≡ Some of_ref) e (h l)

-- at the load of the count nothing is under way
at_rest : (k : Kept) → IsNext k Counts → k.work ≡ free_share k.work.epoch
at_rest k h =
    let f = h.0.0 in
    let due = h.0.1 in
    (λ t. record { epoch = k.work.epoch; due = due t; doing = f.1 t; child = f.0.1 t; owed = f.0.0 t })

module _ {T : Type 0} (stand : T → Stand) (here : T → ℕ → Bool) (did : T → Step → Found → T → Type 0)
    (moved : T → ℕ → Option FrameView → Option FrameView → T → Type 0) (k : Kept) (s s' : T) where
  module _ (g : Agrees k (stand s)) where
    rests : (f : Found) → IsNext k Counts → Made (stand s) (here s) (step_of k Counts) f (stand s') (here s') → f.word ≡ 0 →
        HasRest k.work.epoch (stand s')
    rests f h m none =
        let e = view_is g Counts h m in
        record {
          share = ap (λ (b : Stand). b.view.work) e ∙ at_rest k h;
          over = ap (λ (b : Stand). b.view.collecting.over) e ∙ ap (λ b. cond b true (stand s).view.collecting.over) (eq-eqb f.word 0 none);
        }

    goes : LiesInHeap k → (n : Next) → IsNext k n → (f : Found) → Made (stand s) (here s) (step_of k n) f (stand s') (here s') →
        did s (step_of k n) f s' → (k' : Kept) → k' ≡ behind (stand s).heap k n f.word → (reply : MarkTurn) →
        reply ≡ answer_behind k n f.word → Goes stand here did moved k s s' k' reply
    goes l n h f made kept k' after reply answer = record {
      turned = record { next = n; found = f; is_next = h; made = made; kept = kept; after = after; answer = answer };
      agrees = subst (λ q. Agrees q (stand s')) (sym after) (agrees_behind g n h l (names_near g n h made) made);
      over = record { one = one; over = subst (λ r. OverTold k f.word r (step_of k n)) (sym answer) (over_told k f.word n) };
      idle = record { one = one; idle = subst (λ r. IdleTold k f.word r (step_of k n)) (sym answer) (idle_told k f.word n h) };
      only = only_marked g n h made;
      rest = λ e. rest (counts_over k f.word n (sym answer ∙ e));
    }
      where
        one : OneStep stand here did moved s s'
        one = record { step = step_of k n; found = f; made = made; kept = kept }

        rest : (n ≡ Counts) × (f.word ≡ 0) → HasRest k.work.epoch (stand s')
        rest r =
            rests f (subst (IsNext k) r.0 h)
            (subst (λ m. Made (stand s) (here s) (step_of k m) f (stand s') (here s')) r.0 made) r.1

    -- the field that it reached holds a reference in any heap of the same layouts
    pub at_ref_told : (z : Ground) → z.layouts ≡ (stand s).heap.layouts → IsAtRef z k.work.doing
    at_ref_told z e = same_ref (stand s).heap z (sym e) k.work.doing g.at_ref

    -- so it is where its step was made by its parts, and told the word w
    module _ (n : Next) (h : IsNext k n) (kind : Kind) (place : Place) (act : Action) (o : kind ≡ (step_of k n).kind)
        (p : place ≡ (step_of k n).place) (q : (step_of k n).act ≡ act) where
      step_is : step_of k n ≡ does kind place act
      step_is = λ t. record { kind = sym o t; place = sym p t; act = q t }

      pub may_make : LiesInHeap k → Allowed (stand s) (here s) (does kind place act)
      may_make l = subst (λ d. Allowed (stand s) (here s) d) step_is (may g (here s) n h l)

      module _ (f : Found) (w : ℕ) (t : Tells act f.word w) (made : Made (stand s) (here s) (does kind place act) f (stand s') (here s')) where
        made_so : Made (stand s) (here s) (step_of k n) f (stand s') (here s')
        made_so = subst (λ d. Made (stand s) (here s) d f (stand s') (here s')) (sym step_is) made

        all_same : Same (stand s).heap k n f.word w
        all_same = same_told (stand s).heap k n f.word w (subst (λ a. Tells a f.word w) (sym q) t)

        pub near_told : NamesNear k n w
        near_told = all_same.2 (names_near g n h made_so)

        pub goes_told : LiesInHeap k → did s (does kind place act) f s' → (k' : Kept) → k' ≡ behind (stand s).heap k n w →
            (reply : MarkTurn) → reply ≡ answer_behind k n w → Goes stand here did moved k s s' k' reply
        goes_told l kept k' after reply answer =
            goes l n h f made_so (subst (λ d. did s d f s') (sym step_is) kept) k' (after ∙ all_same.0) reply (answer ∙ all_same.1)
