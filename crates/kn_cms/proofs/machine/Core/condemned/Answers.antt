use Rattle.std.proofs.Common.{ap, slice_index_or, ◌∙◌}
use Rattle.kn_cms_rule.specs.declared.stages.Colour.TheVariants.{White}
use Rattle.kn_cms.specs.declared.machine.Core.TheInside.{Inside}
use Rattle.kn_cms_lists.specs.Kept.{Kept}
use Rattle.kn_cms.proofs.Standing.{condemned_told}
use Rattle.kn_cms.proofs.machine.Core.condemned.Goals as goal

pub returns-in_default : goal.returns-in_default
returns-in_default c = λ s h. (
  λ e. absurd (cc),
  λ both. absurd (c.in_default.not-White (c.of.ensures
      ∙ (ap (λ (x : Inside). slice_index_or x.lists.colours c.args.k White) c.self-inside.view_is
      ∙ (ap (λ (k : Kept). slice_index_or k.colours c.args.k White) c.self.view_is
      ∙ (condemned_told c.args.self.now s c.args.k h c.requires both.0).1 both.1)))),
)
