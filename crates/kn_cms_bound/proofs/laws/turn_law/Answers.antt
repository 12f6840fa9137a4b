use Rattle.kn_cms_bound.proofs.Turned.{goes_on, turn_lowers}
use Rattle.kn_cms_bound.proofs.laws.turn_law.Goals as goal

pub returns : goal.returns
returns c = record {
  goes_on = λ base calls s s' who turn may holds t. goes_on base calls s holds s' who turn may t;
  lowers = λ base calls s s' who turn may holds t. turn_lowers base calls s holds s' who turn may t;
}
