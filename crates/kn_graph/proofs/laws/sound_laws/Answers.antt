use Rattle.kn_graph.proofs.PublicLaws.{birth_is_written, object_is_written, legal_is_sound, entries_keep_sound, histories_keep_sound}
use Rattle.kn_graph.proofs.PublicLaws.{calls_change_one_thing}
use Rattle.kn_graph.proofs.laws.sound_laws.Goals as goal

pub returns : goal.returns
returns c = record {
  legal = legal_is_sound;
  next = entries_keep_sound;
  led = histories_keep_sound;
  call = calls_change_one_thing;
  object = object_is_written;
  birth = birth_is_written;
}
