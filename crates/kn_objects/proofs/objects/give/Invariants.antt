use Rattle.std.proofs.Common.{◌≡◌, vec_len}
use Rattle.kn_objects.specs.Kept.{Gives}
use Rattle.kn_objects.proofs.objects.give.Given as goal

abbrev pub invariant-loop-word : goal.invariant-loop-word
invariant-loop-word l = record {
  given : Gives l.start l.word l.owner l.initial.owners.items l.owners.items;
  len : vec_len l.owners ≡ vec_len l.initial.owners;
}
