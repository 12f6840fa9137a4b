-- The next step of a marker is allowed.
use Rattle.std.proofs.Common.{◌≡◌, ℕ, ◌+◌, ◌-◌, ◌<◌, ◌≤◌, inl, inr, Bool, length, refl, sym, ap, ◌∙◌, subst}
use Rattle.kn_base.specs.declared.heap.Sizes.{Sizes}
use Rattle.kn_marking.specs.declared.work.Work.{Work}
use Rattle.kn_marking.specs.declared.work.Doing.{Doing}
use Rattle.kn_marking.specs.declared.work.Doing.TheVariants as doings
use Rattle.kn_marking.specs.declared.work.Child.{Child}
use Rattle.kn_marking.specs.declared.work.Child.TheVariants as children
use Rattle.kn_marking.specs.Words.{gray, scanned, black, claimed, finished}
use Rattle.kn_rule.specs.declared.steps.Action.TheVariants.{Stores, Swaps}
use Rattle.kn_rule.specs.MarkedHeap.{cell_limit, set_words, set_place}
use Rattle.kn_steps.specs.Made.{Allowed, Stand}
use Rattle.kn_mark.specs.declared.next.Next.{Next}
use Rattle.kn_mark.specs.declared.next.Next.TheVariants.{Gives, Meets, Adds, Grays, LoadsRoot, Finishes, LoadsHeader, LoadsField, Blackens}
use Rattle.kn_mark.specs.declared.next.Next.TheVariants.{Claims, LooksAt, TakesUp, Counts, Searches}
use Rattle.kn_mark.specs.declared.stage.Stage.{Stage}
use Rattle.kn_mark.specs.Kept.{Kept, LiesInHeap, SetLies}
use Rattle.kn_mark.specs.Steps.{IsNext, step_of}
use Rattle.kn_mark.specs.Agree.{Agrees, IsAtRef}
use Rattle.kn_mark.proofs.Hinting.{all_at}

module _ {k : Kept} {a : Stand} (g : Agrees k a) where
  -- what the kept share has is what the view's has
  doing_is : (d : Doing) → k.work.doing ≡ d → a.view.work.doing ≡ d
  doing_is d e = ap (λ (x : Work). x.doing) g.share ∙ e

  child_is : (c : Child) → k.work.child ≡ c → a.view.work.child ≡ c
  child_is c e = ap (λ (x : Work). x.child) g.share ∙ e

  owed_is : k.work.owed ≡ 0 → a.view.work.owed ≡ 0
  owed_is e = ap (λ (x : Work). x.owed) g.share ∙ e

  limit_is : (x : ℕ) → x < cell_limit k.sizes → x < cell_limit a.heap.sizes
  limit_is x l = subst (λ (z : Sizes). x < cell_limit z) (sym g.sizes) l

  pub may : (here : ℕ → Bool) (n : Next) → IsNext k n → LiesInHeap k → Allowed a here (step_of k n)
  may here Gives h l =
      record { marker = g.marker; owes = subst (λ (x : Work). 0 < x.owed) (sym g.share) h; place = refl; act = refl }
  may here (Meets y) h l =
      inl (record { marker = g.marker; child = y; is_met = child_is (children.Met y) h.1; place = refl; act = refl })
  may here (Adds y v) h l =
      record { marker = g.marker; child = y; mark = v; is_seen = child_is (children.Seen y v) h.1; paid = owed_is h.0; place = refl; act = refl }
  may here (Grays y v) h l = inr (inr (record {
    marker = g.marker;
    child = y;
    old = v;
    is_reserved = child_is (children.Reserved y v) h.1;
    place = refl;
    act = ap (λ (x : Work). Swaps v (gray x.epoch)) (sym g.share);
  }))
  may here (LoadsRoot j i) h l = record {
    marker = g.marker;
    set = j;
    word = i;
    claims = doing_is (doings.Set j i) h.1;
    near = subst (λ (z : Sizes). i < set_words z j) (sym g.sizes) h.2;
    none = child_is children.NoChild h.0.1;
    place = ap (λ (z : Sizes). set_place z j i) (sym g.sizes);
    act = refl;
  }
  may here (Finishes j) h l = inr (inr (record {
    marker = g.marker;
    set = j;
    word = h.1.0;
    claims = doing_is (doings.Set j h.1.0) h.1.1;
    whole = subst (λ (z : Sizes). set_words z j ≤ h.1.0) (sym g.sizes) h.1.2;
    paid = owed_is h.0.0;
    none = child_is children.NoChild h.0.1;
    place = refl;
    act = ap (λ (x : Work). Stores (finished x.epoch)) (sym g.share);
  }))
  may here (LoadsHeader x) h l =
      inl (record { marker = g.marker; object = x; scans = doing_is (doings.Header x) h.1; place = refl; act = refl })
  may here (LoadsField x hd i) h l = inr (record {
    marker = g.marker;
    object = x;
    header = hd;
    field = i;
    scans = doing_is (doings.Cell x hd i) h.1;
    of_ref = subst (λ d. IsAtRef a.heap d) h.1 g.at_ref h.2;
    none = child_is children.NoChild h.0.1;
    place = refl;
    act = refl;
  })
  may here (Blackens x) h l = record {
    marker = g.marker;
    object = x;
    header = h.1.0;
    field = h.1.1;
    scans = doing_is (doings.Cell x h.1.0 h.1.1) h.1.2;
    whole = h.1.3;
    paid = owed_is h.0.0;
    none = child_is children.NoChild h.0.1;
    place = refl;
    act = ap (λ (x : Work). Stores (black x.epoch)) (sym g.share);
  }
  may here (Claims j v) h l = inr (inl (record {
    marker = g.marker;
    set = j;
    old = v;
    due = ap (λ (x : Work). x.due) g.share ∙ h.1;
    free = doing_is doings.Free h.0.1;
    place = refl;
    act = ap (λ (x : Work). Swaps v (claimed x.epoch)) (sym g.share);
  }))
  may here (LooksAt j) h l =
      let n = subst (λ (t : Stage). SetLies k.sizes t) h.2 l.set in
      inl (record {
        marker = g.marker;
        set = j;
        near = subst (λ (z : Sizes). j < z.threads + 2) (sym g.sizes) n;
        place = refl;
        act = refl;
      })
  may here (TakesUp x) h l = record {
    marker = g.marker;
    object = x;
    near = limit_is x (all_at (λ y. y < cell_limit k.sizes) k.hints (length k.hints - 1) x l.hints h.1);
    free = doing_is doings.Free h.0.0.1;
    place = refl;
    act = ap (λ (x : Work). Swaps (gray x.epoch) (scanned x.epoch)) (sym g.share);
  }
  may here Counts h l = inr (record { place = refl; act = refl; marker = g.marker })
  may here (Searches n) h l =
      inr (inl (record { marker = g.marker; object = k.cursor; near = limit_is k.cursor l.cursor; place = refl; act = refl }))
