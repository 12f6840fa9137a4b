use Rattle.kn_graph.proofs.PublicLaws.{addresses_name, addresses_name_one, legal_cells_are_apart, addresses_are_positive}
use Rattle.kn_graph.proofs.laws.address_laws.Goals as goal

pub returns : goal.returns
returns c = record {
  named = addresses_name;
  one = addresses_name_one;
  apart = legal_cells_are_apart;
  positive = addresses_are_positive;
}
