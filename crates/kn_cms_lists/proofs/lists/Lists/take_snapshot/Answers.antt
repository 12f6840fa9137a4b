use Rattle.std.proofs.Common.{length, ap, subst, sym, ◌∙◌}
use Rattle.kn_cms_lists.specs.Kept.{Kept}
use Rattle.kn_cms_lists.specs.Kept.{AreBelow}
use Rattle.kn_cms_lists.proofs.Snapshots.{rows_long}
use Rattle.kn_cms_lists.proofs.lists.Lists.take_snapshot.Goals as goal

pub shade_all-requires : goal.shade_all-requires
shade_all-requires c =
    subst (λ l. AreBelow l c.roots-roots.result.globals.now) (sym (ap length c.shade_rows.ensures
    ∙ (rows_long c.self.inside.colours c.roots-roots.result.locals.now ∙ ap (λ (k : Kept). length k.colours) c.self.view_is)))
    (subst (AreBelow (length c.args.self.now.colours)) (sym (c.roots-roots.ensures.globals ∙ ap (λ (k : Kept). k.holders.globals) c.self.view_is))
    c.requires.globals)
