-- The marking of the next epoch begins.
use Rattle.std.proofs.Common.{◌≡◌, ◌⊎◌, inl, inr, ℕ, ◌+◌, ◌-◌, ◌*◌, ◌<◌, Bool, true, false, cond, eqb, Option, Some}
use Rattle.std.proofs.Common.{sym, ap, ◌∙◌, arith, subst}
use Rattle.kn_marking.specs.declared.work.Work.{Work}
use Rattle.kn_marking.specs.declared.work.Doing.TheVariants.{Free}
use Rattle.kn_marking.specs.Heap.{Heap, Live}
use Rattle.kn_marking.specs.Words.{gray, scanned, finished, before, one, but}
use Rattle.kn_marking.specs.Marking.{cell_of, set_of, Busy, Past, credits, held, ChildFits, Fits, Shares, Marking, Rest, Blackened}
use Rattle.kn_marking.proofs.Totals.{total_each, one_else, but_else}

before_low_at : (e : ℕ) → 0 < e → (b : Bool) → cond b 0 (4 * (e - 1) + 3) < 4 * e
before_low_at e some true = omega arith
before_low_at e some false = omega arith

before_low : (e : ℕ) → 0 < e → before e < 4 * e
before_low e some = before_low_at e some (eqb e 1)

none_some : {A : Type 0} (x : ℕ) → Option.None ≡ Some x → A
none_some x e = absurd (cc)

-- behind `now` pauses, where every mark is of an epoch up to now
module _ (H : Heap) (now n : ℕ) (mark set : ℕ → ℕ) (work : ℕ → Work) (rest : Rest H.sets now n set work)
    (low : (x : ℕ) → x < H.objects → mark x < 4 * (now + 1)) where
  fits_at : (c : ℕ) → c < n → Fits H (now + 1) mark (work c)
  fits_at c l =
      let i = rest.idle c l in
      record {
        early = let h = rest.early c l in omega arith;
        current = λ b. absurd (subst Busy i.free b);
        done = λ y q. let p : Past H Free y = subst (λ d. Past H d y) i.free q in let k = p.1.0 in absurd (omega arith);
        child = subst (λ k. ChildFits H (now + 1) mark (work c).doing k) (sym i.no_child) tt;
        due = λ j v s. rest.due c j v l s;
        few = let u = ap held i.no_child in let v = i.no_debt in omega arith;
      }

  -- the number of root sets is stored as the count of open work
  pub begins : Shares H (now + 1) n mark set work H.sets
  begins = record {
    sets = λ j l. inl (rest.sets j l);
    counted =
        let a = total_each H.sets (λ j. but (finished (now + 1)) (set j)) 1 (λ j l. let s = rest.sets j l in
        let b = before_low (now + 1) (omega arith) in but_else (finished (now + 1)) (set j) (λ x. omega arith)) in
        let b = total_each H.objects (λ x. one (gray (now + 1)) (mark x)) 0 (λ x l. let s = low x l in
        one_else (gray (now + 1)) (mark x) (λ y. omega arith)) in
        let c = total_each H.objects (λ x. one (scanned (now + 1)) (mark x)) 0 (λ x l. let s = low x l in
        one_else (scanned (now + 1)) (mark x) (λ y. omega arith)) in
        let d = total_each n (λ c. credits (work c)) 0 (λ c l. let i = rest.idle c l in let u = ap held i.no_child in
        let v = i.no_debt in omega arith) in
        omega arith;
    cells = record {
      into = λ x o s. let l = low x o.0 in absurd (omega arith);
      back = λ x c l s. none_some x (sym (ap cell_of (rest.idle c l).free) ∙ s);
      single = λ x c d lc ld s t. none_some x (sym (ap cell_of (rest.idle c lc).free) ∙ s);
    };
    claims = record {
      into = λ j l s. let u = rest.sets j l in let b = before_low (now + 1) (omega arith) in absurd (omega arith);
      back = λ j c l s. none_some j (sym (ap set_of (rest.idle c l).free) ∙ s);
      single = λ j c d lc ld s t. none_some j (sym (ap set_of (rest.idle c lc).free) ∙ s);
    };
    fits = fits_at;
  }

  -- the phase word of the marking is stored
  pub opens : Blackened H now mark → Marking H now (now + 1) n mark set work H.sets
  opens old = record {
    next = omega arith;
    colours = record {
      aged = old.aged;
      last = λ x l. let h = low x l.0 in omega arith;
      coloured = old.coloured;
      tinted = λ x k l h. absurd (neither x k l h);
      reached = λ x l h. let u = low x l.0 in absurd (omega arith);
    };
    closed = record {
      blacks = λ x y l b h. let u = low x l.0 in absurd (omega arith);
      ended = λ j y l s r. let u = rest.sets j l in let b = before_low (now + 1) (omega arith) in absurd (omega arith);
    };
    shares = begins;
  }
    where
      neither : (x k : ℕ) → Live H x → (mark x ≡ gray k) ⊎ (mark x ≡ scanned k) → ⊥
      neither x k l (inl h) = (old.tinted x k l).0 h
      neither x k l (inr h) = (old.tinted x k l).1 h
