use Rattle.std.proofs.Common.{◌≡◌, ℕ, ◌+◌, ◌/◌, ◌<◌, ◌^◌, false, replicate, sym, subst, ◌∙◌, arith}
use Rattle.std.proofs.lemmas.List.{length-replicate}
use Rattle.kn_cms_rule.specs.declared.stages.Colour.TheVariants.{Gray, White}
use Rattle.kn_cms_lists.specs.Flags.{AreFlagged}
use Rattle.kn_cms_lists.proofs.Writes.{same_at}
use Rattle.kn_cms_lists.proofs.colours.Colours.open.Goals as goal

none_flagged : (count : ℕ) → count < 2 ^ 32 → AreFlagged (replicate count White) (replicate (count / 128 + 1) false)
none_flagged count few = record {
  short = let long = length-replicate count White in omega (arith, few, long);
  long = let long = length-replicate count White in let flags = length-replicate (count / 128 + 1) false in omega (arith, long, flags);
  flagged = λ n e. let f : White ≡ Gray = sym (same_at count White n) ∙ e in absurd (cc);
}

pub invariant_of-result : goal.invariant_of-result
invariant_of-result c = subst (λ list. AreFlagged list c.in_ok-flags.flags.items) (sym c.in_ok-list.ensures)
    (subst (λ flags. AreFlagged (replicate c.args.count White) flags) (sym c.in_ok-flags.ensures) (none_flagged c.args.count c.requires))
