use Rattle.std.proofs.Common.{◌+◌, ◌-◌, ◌≤◌, ◌≡◌, List, drop, subst, arith}
use Rattle.std.proofs.lemmas.List.{get_or-drop, get_or_default, length-drop}
use Rattle.std.proofs.lemmas.List.Elements.{All-from_recursion}
use Rattle.kn_base.specs.declared.numbers.Span.{Span}
use Rattle.kn_ranges.proofs.edits.fit_place.Goals as goal

pub returns-then-spans-place-clause-found : goal.returns-then-spans-place-clause-found
returns-then-spans-place-clause-found c = λ within d.
    let spans : List Span = c.args.spans.now in
    let first = c.first_from-place.result in
    let place = c.loop-place.place in
    let none : Span = record { start = 0; len = 0 } in
    let rest : first + (place - first) ≡ place = omega arith in
    let begins = All-from_recursion (λ (span : Span). c.args.low ≤ span.start) (drop first spans) c.first_from-place.ensures.behind (place - first) d
    (omega (arith, length-drop first spans)) in (
      rw (get_or-drop first spans (place - first) d, rest) at begins,
      subst (λ (span : Span). c.args.n ≤ span.len) (get_or_default spans place none d within)
          c.if-spans-place.true,
    )
