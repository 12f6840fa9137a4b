use Rattle.std.proofs.Common.{◌≡◌, ◌↔◌, ◌<◌, All, IsNone, MatchOption, refl, sym, subst, arith}
use Rattle.kn_page.specs.declared.page.Page.{Page}
use Rattle.kn_page.specs.declared.page.Page.TheVariants.{Fixed, NextFit, Single, Extra}
use Rattle.kn_page.specs.PageViews.{page_view}
use Rattle.kn_alloc.specs.Cells.{AsksFor, CannotServe, TakesCell}
use Rattle.kn_alloc.proofs.Pages.{extra_takes, fixed_takes, next_fit_takes, not_single, of_single, single_takes}
use Rattle.kn_alloc.proofs.cells.take_cell.Goals as goal

words_are : (c : goal.After-take) → c.args.words ≡ c.in-Fixed.page.words
words_are c =
    let asks = subst (λ (q : Page). AsksFor (page_view q).class c.args.words) c.in-Fixed.is c.requires in
    asks.fixed c.take.ensures.size.1

pub returns-in-Fixed-clause-none : goal.returns-in-Fixed-clause-none
returns-in-Fixed-clause-none c =
    let p = c.in-Fixed.page in
    subst (λ (q : Page). IsNone c.take.result ↔ CannotServe (page_view q) c.args.words) (sym c.in-Fixed.is)
    (not_single (page_view (Fixed p)) c.args.words (IsNone c.take.result) (λ e. let h = c.take.ensures.size.1 in omega arith)
    (subst (λ k. IsNone c.take.result ↔ All (λ s. s.len < k) p.spans) (sym (words_are c)) c.take.ensures.none))

pub returns-in-Fixed-clause-after : goal.returns-in-Fixed-clause-after
returns-in-Fixed-clause-after c =
    let p = c.in-Fixed.page in
    let h = c.take.ensures in
    let q' = c.take.new.self in
    subst (λ (q : Page). MatchOption c.take.result (Fixed q' ≡ q) (λ cell. TakesCell (page_view q) c.args.words (page_view (Fixed q'))
    cell)) (sym c.in-Fixed.is)
    (fixed_takes p q' c.args.words c.take.result h.size (words_are c) h.taken h.after h.cell)

pub returns-in-NextFit-clause-none : goal.returns-in-NextFit-clause-none
returns-in-NextFit-clause-none c =
    let p = c.in-NextFit.page in
    let r = c.take-in-NextFit.result in
    subst (λ (q : Page). IsNone r ↔ CannotServe (page_view q) c.args.words) (sym c.in-NextFit.is)
    (not_single (page_view (NextFit p)) c.args.words (IsNone r) (λ e. absurd (omega arith)) c.take-in-NextFit.ensures.none)

pub returns-in-NextFit-clause-after : goal.returns-in-NextFit-clause-after
returns-in-NextFit-clause-after c =
    let p = c.in-NextFit.page in
    let r = c.take-in-NextFit.result in
    let h = c.take-in-NextFit.ensures in
    let q' = c.take-in-NextFit.new.self in
    let asks = subst (λ (q : Page). AsksFor (page_view q).class c.args.words) c.in-NextFit.is c.requires in
    subst (λ (q : Page). MatchOption r (NextFit q' ≡ q) (λ cell. TakesCell (page_view q) c.args.words (page_view (NextFit q')) cell))
    (sym c.in-NextFit.is)
    (next_fit_takes p q' c.args.words r (asks.next_fit refl) h.taken h.after h.cell)

pub returns-in-Single-clause-none : goal.returns-in-Single-clause-none
returns-in-Single-clause-none c =
    let p = c.in-Single.page in
    let r = c.take-in-Single.result in
    subst (λ (q : Page). IsNone r ↔ CannotServe (page_view q) c.args.words) (sym c.in-Single.is)
    (of_single (page_view (Single p)) c.args.words (IsNone r) refl c.take-in-Single.ensures.unable)

pub returns-in-Single-clause-after : goal.returns-in-Single-clause-after
returns-in-Single-clause-after c =
    let p = c.in-Single.page in
    let r = c.take-in-Single.result in
    let h = c.take-in-Single.ensures in
    let q' = c.take-in-Single.new.self in
    subst (λ (q : Page). MatchOption r (Single q' ≡ q) (λ cell. TakesCell (page_view q) c.args.words (page_view (Single q')) cell))
    (sym c.in-Single.is)
    (single_takes p q' c.args.words r h.taken h.after h.cell h.whole)

pub returns-in-Extra-clause-none : goal.returns-in-Extra-clause-none
returns-in-Extra-clause-none c =
    let p = c.in-Extra.page in
    let r = c.take-in-Extra.result in
    let asks = subst (λ (q : Page). AsksFor (page_view q).class c.args.words) c.in-Extra.is c.requires in
    subst (λ (q : Page). IsNone r ↔ CannotServe (page_view q) c.args.words) (sym c.in-Extra.is)
    (not_single (page_view (Extra p)) c.args.words (IsNone r) (λ e. absurd (omega arith))
    (subst (λ k. IsNone r ↔ All (λ s. s.len < k) p.spans) (sym (asks.extra refl)) c.take-in-Extra.ensures.none))

pub returns-in-Extra-clause-after : goal.returns-in-Extra-clause-after
returns-in-Extra-clause-after c =
    let p = c.in-Extra.page in
    let r = c.take-in-Extra.result in
    let h = c.take-in-Extra.ensures in
    let q' = c.take-in-Extra.new.self in
    let asks = subst (λ (q : Page). AsksFor (page_view q).class c.args.words) c.in-Extra.is c.requires in
    subst (λ (q : Page). MatchOption r (Extra q' ≡ q) (λ cell. TakesCell (page_view q) c.args.words (page_view (Extra q')) cell)) (sym c.in-Extra.is)
    (extra_takes p q' c.args.words r (asks.extra refl) h.taken h.after h.cell)
