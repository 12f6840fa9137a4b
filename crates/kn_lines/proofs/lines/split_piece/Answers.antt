use Rattle.std.proofs.Common.{◌∙◌, arith, add-one}
use Rattle.std.proofs.lemmas.List.{take_rest, drop_all}
use Rattle.kn_lines.proofs.PieceLemmas.{pieces_at-split, pieces_at-whole}
use Rattle.kn_lines.proofs.lines.split_piece.Goals as goal

pub returns-then-end-bytes-clause-first : goal.returns-then-end-bytes-clause-first
returns-then-end-bytes-clause-first c =
    let bytes = c.args.bytes.now in
    let found = c.find_byte-end.ensures.found (omega arith) in
    let split = pieces_at-split c.args.separator bytes c.find_byte-end.result (omega arith) c.find_byte-end.ensures.before found in
    rw (take_rest, add-one) split

pub returns-else-end-bytes-clause-first : goal.returns-else-end-bytes-clause-first
returns-else-end-bytes-clause-first c =
    let bytes = c.args.bytes.now in
    let whole = pieces_at-whole c.args.separator bytes (omega arith) (λ k below. c.find_byte-end.ensures.before k (omega arith)) in
    rw (take_rest bytes c.find_byte-end.result ∙ drop_all c.find_byte-end.result bytes (omega arith)) whole
