use Rattle.kn_base.specs.declared.places.Place.TheVariants.{Phase, Want}
use Rattle.kn_rule.specs.Views.{Views, views_of}
use Rattle.kn_keep_heap.proofs.Wants.{want_few}
use Rattle.kn_keep_mark.proofs.laws.epochs_are_few.Goals as goal

pub returns : goal.returns
returns c = λ z s good r.
    let v : Views = views_of s.caller in
    want_few z r.0 s.history v.log v.position v.target v.calls v.births (s.word Phase) (s.word Want) (v.rest z.sizes.threads).collecting.wanted good
    r.1.told r.1.stands.wanted
