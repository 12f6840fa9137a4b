use Rattle.std.proofs.Common.{◌≡◌, ◌+◌, ◌-◌, ◌*◌, ◌^◌, ◌≤◌, true, Some, get_or, drop, length, ap, sym, ◌∙◌, arith}
use Rattle.std.specs.List.{list_all}
use Rattle.std.proofs.lemmas.List.{at_drop_more, at_drop_all}
use Rattle.std.proofs.lemmas.Bool.{eqb-false}
use Rattle.kn_lines.specs.Numbers.{value_from, is_digit}
use Rattle.kn_lines.proofs.NumberLemmas.{value_from-at_least, number_of-digits, number_of-large}
use Rattle.kn_lines.proofs.numbers.read_number.Goals as goal

pub returns-in_err-checked_mul : goal.returns-in_err-checked_mul
returns-in_err-checked_mul c =
    let word = c.args.word.now in
    let l = c.loop-byte in
    let step = at_drop_more (value_from l.value) word l.byte-index 0 (omega arith) in
    let least = value_from-at_least (10 * l.value + (get_or word l.byte-index 0 - 48)) (drop (l.byte-index + 1) word) in
    let wraps : 2 ^ 64 ≤ l.value * 10 = omega (arith, c.in_err-checked_mul.ensures) in
    c.from_residual.ensures ∙ sym (number_of-large word (omega (arith, l.invariant.0, step, least, wraps)))

pub returns-in_err-value : goal.returns-in_err-value
returns-in_err-value c =
    let word = c.args.word.now in
    let l = c.loop-byte in
    let step = at_drop_more (value_from l.value) word l.byte-index 0 (omega arith) in
    let least = value_from-at_least (10 * l.value + (get_or word l.byte-index 0 - 48)) (drop (l.byte-index + 1) word) in
    let wraps : 2 ^ 64 ≤ c.in_ok-checked_mul.field-0 + c.from.result = omega (arith, c.in_err-value.ensures) in
    let large : 2 ^ 64 ≤ value_from 0 word = omega (arith, l.invariant.0, step, least, wraps, c.in_ok-checked_mul.ensures, c.from.ensures) in
    c.from_residual-in_err-value.ensures ∙ sym (number_of-large word large)

pub returns : goal.returns
returns c =
    let word = c.args.word.now in
    let l = c.loop-byte in
    let value : l.value ≡ value_from 0 word = sym (at_drop_all (value_from l.value) word l.byte-index (omega arith)) ∙ l.invariant.0 in
    let digits : list_all is_digit word ≡ true = sym l.invariant.1 ∙ at_drop_all (list_all is_digit) word l.byte-index (omega arith) in
    let least = eqb-false (length word) 0 (sym c.if-is_empty.ensures) in
    ap Some value ∙ sym (number_of-digits word (omega (arith, least)) (omega arith) digits (omega (arith, value, l.invariant.2)))
