-- The rule before all steps.
use Rattle.std.proofs.Common.{ℕ, ◌<◌, List, refl, arith}
use Rattle.kn_graph.specs.declared.calls.Call.{Call}
use Rattle.kn_graph.specs.Ground.{Ground}
use Rattle.kn_cms_rule.specs.State.{opening}
use Rattle.kn_cms_rule.specs.Rule.{Rule, AllMayBeMade}
use Rattle.kn_cms_rule.proofs.Histories.{not_nil}

pub opening_ruled : (z : Ground) (calls : ℕ → List Call) → AllMayBeMade z calls → Rule z calls (opening calls)
opening_ruled z calls may = record {
  leads = refl;
  full = λ before entry g p. absurd (not_nil before p.after entry p.whole);
  stacked = λ n (less : n < 0). absurd (omega (arith, less));
  nameless = record { stables = λ h. refl; backs = λ b. refl };
  made = λ i near. refl;
  may_be_made = may;
  in_middle = λ i near. tt;
  at_stage = record {
    no_snapshot = refl;
    paused = refl;
    done = refl;
    alive = λ n less. refl;
    white = λ n. refl;
    unread = λ n f. refl;
  };
}
