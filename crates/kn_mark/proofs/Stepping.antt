-- The place of a field of a scanned cell is an address.
use Rattle.std.proofs.Common.{ℕ, ◌+◌, ◌^◌, ◌<◌, subst, arith}
use Rattle.kn_rule.specs.MarkedHeap.{cell_limit}
use Rattle.kn_mark.specs.declared.next.Next.TheVariants.{LoadsField}
use Rattle.kn_mark.specs.Kept.{CellLies, Kept, LiesInHeap}
use Rattle.kn_mark.specs.Steps.{IsNext}
use Rattle.kn_mark.proofs.Words.{length_short}

pub field_short : (k : Kept) (x h i : ℕ) → LiesInHeap k → IsNext k (LoadsField x h i) → x + 1 + i < 2 ^ 32
field_short k x h i l n =
    let at : x < cell_limit k.sizes = subst (λ d. CellLies k.sizes d) n.1 l.cell in
    let near = n.2 in
    let short = length_short h in
    let most = l.good.of_frames.words.1 in
    omega (arith, at, near, short, most)
