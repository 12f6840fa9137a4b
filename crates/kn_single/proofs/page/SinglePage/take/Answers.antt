use Rattle.std.proofs.Common.{◌≡◌, ◌<◌, ◌⊎◌, [], ◌∷◌, All, Some, IfSome, is_some, ap, subst, sym, ◌∙◌, refl, inl, inr, arith}
use Rattle.std.proofs.lemmas.Bool.{true≢false}
use Rattle.kn_base.specs.SpanLists.{front_of}
use Rattle.kn_single.specs.SingleState.{SingleState, HasTakenCell, IsTakenFront, words_behind}
use Rattle.kn_single.proofs.Behind.{able, whole_without_cell, front_taken}
use Rattle.kn_single.proofs.page.SinglePage.take.Goals as goal

-- no cell was taken before
no_cell : (c : goal.After-take_first) → HasTakenCell c.args.self.now → ⊥
no_cell c has = true≢false (sym (c.has_cell.ensures.1 has) ∙ c.if-has_cell.false)

-- the cell is the frame's front, and the words behind it are free
front : (c : goal.After-take_first) → (c.take_first.result ≡ Some (front_of c.args.n c.self.inside.frame))
    × (c.take_first.new.self.spans ≡ words_behind c.args.n c.self.inside.frame) × (c.take_first.new.self.room ≡ c.self.inside.free.room)
front c =
    let p = c.self.inside in
    let page : SingleState = record { frame = p.frame; spans = p.free.spans } in
    let none : HasTakenCell page → ⊥ = λ has. no_cell c (subst HasTakenCell c.self.view_is has) in
    let whole = whole_without_cell page c.self.invariant.span.0 c.self.invariant.cell none in
    let taken = c.take_first.ensures in
    front_taken c.args.n p.frame p.free c.take_first.new.self c.take_first.result c.fronts_leave_rests.ensures whole c.if-n-self.false
    taken.taken taken.after

pub invariant_of-self : goal.invariant_of-self
invariant_of-self c =
    let w = front c in
    record { span = c.self.invariant.span; cell = (c.args.n, c.if-n-self.false, w.1); room = omega (arith, w.2, c.self.invariant.room) }

pub returns-clause-none : goal.returns-clause-none
returns-clause-none c =
    let w = front c in
    let frame = ap (λ page. page.frame) c.self.view_is in (
      λ none. absurd (true≢false (sym (ap is_some w.0) ∙ none)),
      λ cause. elim cause [
        | inl has ↦ absurd (no_cell c has)
        | inr less ↦ absurd (omega (arith, c.if-n-self.false, ap (λ span. span.len) frame))
      ],
    )

-- the page before, as its fields say
abbrev before : (c : goal.After-take_first) → SingleState
before c = record { frame = c.self.inside.frame; spans = c.self.inside.free.spans }

pub returns-clause-unable : goal.returns-clause-unable
returns-clause-unable c =
    let w = front c in
    let here = c.self.invariant in
    let frame = ap (λ page. page.frame) c.self.view_is in
    let no_cause : (HasTakenCell (before c) ⊎ (c.self.inside.frame.len < c.args.n)) → ⊥ = λ cause. elim cause [
      | inl has ↦ no_cell c (subst HasTakenCell c.self.view_is has)
      | inr less ↦ omega (arith, c.if-n-self.false)
    ] in (
      λ none. absurd (true≢false (sym (ap is_some w.0) ∙ none)),
      λ cause. absurd (no_cause (able c.args.n (before c) here.span.0 here.cell
          (subst (λ (p : SingleState). (¬ (p.spans ≡ p.frame ∷ [])) ⊎ All (λ s. s.len < c.args.n) p.spans) (sym c.self.view_is) cause))),
    )

pub returns-clause-whole : goal.returns-clause-whole
returns-clause-whole c =
    let w = front c in
    let none : HasTakenCell (before c) → ⊥ = λ has. no_cell c (subst HasTakenCell c.self.view_is has) in
    let whole = whole_without_cell (before c) c.self.invariant.span.0 c.self.invariant.cell none in
    subst (λ found. IfSome found (λ _. c.args.self.now.spans ≡ c.args.self.now.frame ∷ [])) (sym w.0)
    (subst (λ (p : SingleState). p.spans ≡ p.frame ∷ []) c.self.view_is whole)

pub returns-clause-taken : goal.returns-clause-taken
returns-clause-taken c =
    let w = front c in
    let frame = ap (λ page. page.frame) c.self.view_is in
    subst (λ found. IfSome found (λ cell. cell ≡ front_of c.args.n c.args.self.now.frame)) (sym w.0) (ap (front_of c.args.n) frame)

pub returns-clause-cell : goal.returns-clause-cell
returns-clause-cell c =
    let w = front c in
    let after : SingleState = record { frame = c.self.inside.frame; spans = c.take_first.new.self.spans } in
    subst (λ found. IfSome found (IsTakenFront after)) (sym w.0)
    (record { at_start = refl; not_empty = c.requires; within = c.if-n-self.false; rest_is_free = w.1 })
