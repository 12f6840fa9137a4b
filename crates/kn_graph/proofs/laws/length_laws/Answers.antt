use Rattle.kn_graph.proofs.PublicLaws.{lengths_are_fields, fields_are_there, shapes_are_small}
use Rattle.kn_graph.proofs.laws.length_laws.Goals as goal

pub returns : goal.returns
returns c = record {
  length = lengths_are_fields;
  fields = fields_are_there;
  limits = shapes_are_small;
}
