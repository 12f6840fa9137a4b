-- What a page of each kind gives.
use Rattle.std.proofs.Common.{◌≡◌, ◌≢◌, ℕ, ◌<◌, ◌≤◌, ◌⊎◌, ◌↔◌, inl, inr, true, false, Option, Some, None, All, IfSome}
use Rattle.std.proofs.Common.{MatchOption, [], ◌∷◌, cond, eqb, refl, sym, ap, ◌∙◌, subst, arith, ne_eqb}
use Rattle.std.proofs.lemmas.Bool.{cases_Bool, le-leb}
use Rattle.std.specs.Option.{option_map}
use Rattle.kn_base.specs.declared.numbers.Span.{Span}
use Rattle.kn_base.specs.declared.classes.TheConstants.{NEXT_FIT_CLASS, SINGLE_CLASS, EXTRA_CLASS}
use Rattle.kn_base.specs.Classes.{IsCellSize}
use Rattle.kn_base.specs.Pages.{FrameView}
use Rattle.kn_base.specs.Spans.{end_of}
use Rattle.kn_base.specs.SpanLists.{IsWhollyFree, first_fit, front_of, without}
use Rattle.kn_ranges.specs.Cells.{IsCell, IsTakenCell}
use Rattle.kn_fixed.specs.FixedState.{FixedState}
use Rattle.kn_nextfit.specs.NextFitState.{IsTakenSpan, NextFitState, next_fit}
use Rattle.kn_single.specs.SingleState.{IsTakenFront, SingleState}
use Rattle.kn_extra.specs.ExtraState.{ExtraState}
use Rattle.kn_page.specs.declared.page.Page.TheVariants.{Fixed, NextFit, Single, Extra}
use Rattle.kn_page.specs.PageViews.{page_view}
use Rattle.kn_rule.specs.Requests.{AreFree, IsCellOf, is_whole}
use Rattle.kn_alloc.specs.Cells.{CannotServe, TakesCell, span_given}
use Rattle.kn_rule.proofs.WholeFrames.{not_whole, whole_is}
use Rattle.kn_alloc.proofs.Spans.{fit_is, next_fit_is, short_is}

-- a page that is not single has no cell exactly where its free spans are too short
pub not_single : (page : FrameView) (n : ℕ) (R : Type 0) → page.class ≢ SINGLE_CLASS → R ↔ All (λ s. s.len < n) page.free →
    R ↔ CannotServe page n
not_single page n R other h = (λ r. inr ((short_is n page.free).0 (h.0 r)), back)
  where
    back : CannotServe page n → R
    back (inl c) = absurd (other c.0)
    back (inr e) = h.1 ((short_is n page.free).1 e)

-- and a single one exactly where it is not whole or too short
pub of_single : (page : FrameView) (n : ℕ) (R : Type 0) → page.class ≡ SINGLE_CLASS →
    R ↔ ((¬ IsWhollyFree page.frame page.free) ⊎ All (λ s. s.len < n) page.free) → R ↔ CannotServe page n
of_single page n R single h = (λ r. there (h.0 r), λ c. h.1 (back c))
  where
    by_test : (¬ IsWhollyFree page.frame page.free) → (is_whole page.frame page.free ≡ true) ⊎ (is_whole page.frame page.free ≡ false) →
        is_whole page.frame page.free ≡ false
    by_test other (inl e) = absurd (other (whole_is page.frame page.free e))
    by_test other (inr e) = e

    there : (¬ IsWhollyFree page.frame page.free) ⊎ All (λ s. s.len < n) page.free → CannotServe page n
    there (inl other) = inl (single, by_test other (cases_Bool (is_whole page.frame page.free)))
    there (inr short) = inr ((short_is n page.free).0 short)

    back : CannotServe page n → (¬ IsWhollyFree page.frame page.free) ⊎ All (λ s. s.len < n) page.free
    back (inl c) = inl (λ e. not_whole page.frame page.free c.1 e)
    back (inr e) = inr ((short_is n page.free).1 e)

-- the cells of each class lie as they are taken
fixed_cell : (class : ℕ) (frame cell : Span) → IsCellSize class → IsCell frame class cell → IsCellOf class frame cell
fixed_cell class frame cell size is = record {
  fixed = λ _. (is.1, is.0);
  next_fit = λ e. let h = size.1 in absurd (omega arith);
  single = λ e. let h = size.1 in absurd (omega arith);
}

next_fit_cell : (frame cell : Span) → NEXT_FIT_CLASS ≤ cell.len → IsCellOf NEXT_FIT_CLASS frame cell
next_fit_cell frame cell l = record {
  fixed = λ h. let a = h.1 in absurd (omega arith);
  next_fit = λ _. l;
  single = λ e. absurd (omega arith);
}

single_cell : (frame cell : Span) → cell.start ≡ frame.start → IsCellOf SINGLE_CLASS frame cell
single_cell frame cell e = record {
  fixed = λ h. let a = h.1 in absurd (omega arith);
  next_fit = λ e. absurd (omega arith);
  single = λ _. e;
}

extra_cell : (frame cell : Span) → IsCellOf EXTRA_CLASS frame cell
extra_cell frame cell = record {
  fixed = λ h. let a = h.1 in absurd (omega arith);
  next_fit = λ e. absurd (omega arith);
  single = λ e. absurd (omega arith);
}

pub fixed_takes : (old new : FixedState) (n : ℕ) (found : Option Span) → IsCellSize old.words → n ≡ old.words →
    found ≡ option_map (front_of old.words) (first_fit old.words old.spans) →
    MatchOption found (new ≡ old) (λ cell. new ≡ record old { spans = without cell old.spans }) →
    IfSome found (IsTakenCell new.frame new.words new.spans) →
    MatchOption found (Fixed new ≡ Fixed old) (λ cell. TakesCell (page_view (Fixed old)) n (page_view (Fixed new)) cell)
fixed_takes old new n None size is taken after cell = ap Fixed after
fixed_takes old new n (Some c) size is taken after cell =
    let fit = fit_is old.words c old.spans taken in
    let lies = subst (λ (p : FixedState). IsCell p.frame p.words c) after cell.0 in
    let h = size.1 in
    let other : eqb old.words NEXT_FIT_CLASS ≡ false = ne_eqb old.words NEXT_FIT_CLASS (λ e. omega arith) in
    let view : FrameView = page_view (Fixed old) in
    record {
      given = ap (λ k. option_map (front_of k) (span_given view k)) is
          ∙ (ap (λ b. option_map (front_of old.words) (cond b (next_fit old.words view.cursor old.spans) (first_fit old.words old.spans))) other
          ∙ sym taken);
      len = fit.0 ∙ sym is;
      free = fit.1;
      inside = let s = lies.0.1 in (omega arith, lies.2);
      placed = fixed_cell old.words old.frame c size lies;
      after = ap (λ (p : FixedState). page_view (Fixed p)) after
          ∙ ap (λ b. record { frame = old.frame; class = old.words; free = without c old.spans; cursor = cond b (end_of c) old.frame.start })
          (sym other);
    }

pub next_fit_takes : (old new : NextFitState) (n : ℕ) (found : Option Span) → NEXT_FIT_CLASS ≤ n →
    found ≡ option_map (front_of n) (next_fit n old.cursor old.spans) →
    MatchOption found (new ≡ old) (λ cell. new ≡ record old { spans = without cell old.spans; cursor = end_of cell }) →
    IfSome found (IsTakenSpan new) →
    MatchOption found (NextFit new ≡ NextFit old) (λ cell. TakesCell (page_view (NextFit old)) n (page_view (NextFit new)) cell)
next_fit_takes old new n None long taken after cell = ap NextFit after
next_fit_takes old new n (Some c) long taken after cell =
    let fit = next_fit_is n c old.cursor old.spans taken in
    let e = fit.0 in
    record {
      given = sym taken;
      len = e;
      free = fit.1;
      inside = subst (λ (p : NextFitState). (p.frame.start ≤ c.start) × (end_of c ≤ end_of p.frame)) after cell.in_frame;
      placed = next_fit_cell old.frame c (omega arith);
      after = ap (λ (p : NextFitState). page_view (NextFit p)) after;
    }

first_of_one : (n : ℕ) (frame : Span) → n ≤ frame.len → option_map (front_of n) (first_fit n (frame ∷ [])) ≡ Some (front_of n frame)
first_of_one n frame h = rw (le-leb n frame.len h) refl

pub single_takes : (old new : SingleState) (n : ℕ) (found : Option Span) →
    IfSome found (λ cell. cell ≡ front_of n old.frame) →
    MatchOption found (new ≡ old) (λ cell. new ≡ record old { spans = without cell old.spans }) →
    IfSome found (IsTakenFront new) → IfSome found (λ _. IsWhollyFree old.frame old.spans) →
    MatchOption found (Single new ≡ Single old) (λ cell. TakesCell (page_view (Single old)) n (page_view (Single new)) cell)
single_takes old new n None is after cell whole = ap Single after
single_takes old new n (Some c) is after cell whole =
    let fits = subst (λ (p : SingleState). c.len ≤ p.frame.len) after cell.within in
    let words = ap (λ (s : Span). s.len) is in
    record {
      given = ap (λ spans. option_map (front_of n) (first_fit n spans)) whole ∙ (first_of_one n old.frame (omega arith) ∙ ap Some (sym is));
      len = words;
      free = λ a h. subst (λ free. AreFree free c) (sym whole) (λ a h.
          let s = ap (λ (s : Span). s.start) is in let l = ap (λ (s : Span). s.len) is in
          let h0 = h.0 in let h1 = h.1 in inl (omega arith, omega arith)) a h;
      inside = let s = ap (λ (s : Span). s.start) is in let l = ap (λ (s : Span). s.len) is in (omega arith, omega arith);
      placed = single_cell old.frame c (ap (λ (s : Span). s.start) is);
      after = ap (λ (p : SingleState). page_view (Single p)) after;
    }

pub extra_takes : (old new : ExtraState) (n : ℕ) (found : Option Span) → n ≡ 2 →
    found ≡ option_map (front_of 2) (first_fit 2 old.spans) →
    MatchOption found (new ≡ old) (λ cell. new ≡ record old { spans = without cell old.spans }) →
    IfSome found (IsTakenCell new.frame 2 new.spans) →
    MatchOption found (Extra new ≡ Extra old) (λ cell. TakesCell (page_view (Extra old)) n (page_view (Extra new)) cell)
extra_takes old new n None is taken after cell = ap Extra after
extra_takes old new n (Some c) is taken after cell =
    let fit = fit_is 2 c old.spans taken in
    let lies = subst (λ (p : ExtraState). IsCell p.frame 2 c) after cell.0 in
    record {
      given = ap (λ k. option_map (front_of k) (first_fit k old.spans)) is ∙ sym taken;
      len = fit.0 ∙ sym is;
      free = fit.1;
      inside = let s = lies.0.1 in (omega arith, lies.2);
      placed = extra_cell old.frame c;
      after = ap (λ (p : ExtraState). page_view (Extra p)) after;
    }
