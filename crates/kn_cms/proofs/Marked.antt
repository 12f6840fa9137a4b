-- Steps that answer no call and make no entry: the lists behind them stand for the state behind them.
use Rattle.std.proofs.Common.{◌≡◌, ℕ, ◌<◌, Bool, List, slice_index_or, ◌∙◌}
use Rattle.kn_cms_rule.specs.declared.stages.Colour.{Colour}
use Rattle.kn_cms_rule.specs.declared.stages.Colour.TheVariants.{White}
use Rattle.kn_cms_rule.specs.declared.stages.Doing.{Doing}
use Rattle.kn_cms_rule.specs.declared.stages.Doing.TheVariants.{Free}
use Rattle.kn_cms_rule.specs.declared.stages.Stage.{Stage}
use Rattle.kn_cms_rule.specs.Words.{one_framed}
use Rattle.kn_cms_rule.specs.State.{State}
use Rattle.kn_cms_rule.specs.Rule.{Rule}
use Rattle.kn_cms_lists.specs.Kept.{Kept, calls_of_threads, epoch_at}
use Rattle.kn_cms.specs.Stands.{StandsFor}

module _ (k : Kept) (doing : List Doing) (stage : Stage) (colours : List Colour) where
  pub marked_stands : (s : State) → StandsFor k s → (doing' : ℕ → Doing) (stage' : Stage) (colour : ℕ → Colour) (looked : ℕ → ℕ → Bool) →
      ((i : ℕ) → i < k.ground.sizes.threads → slice_index_or doing i Free ≡ doing' i) →
      ((n : ℕ) → slice_index_or colours n White ≡ colour n) →
      stage ≡ stage' → epoch_at k.stage ≡ epoch_at stage →
      Rule (one_framed k.ground) (calls_of_threads k.calls) (record s { doing = doing'; stage = stage'; colour = colour; looked = looked }) →
      StandsFor (record k { doing = doing; stage = stage; colours = colours })
      (record s { doing = doing'; stage = stage'; colour = colour; looked = looked })
  marked_stands s h doing' stage' colour looked are_doing are_colours at_stage epoch rule = record {
    rule = rule;
    cells = h.cells;
    holders = h.holders;
    colours = are_colours;
    doing = are_doing;
    stage = at_stage;
    snapshot = h.snapshot;
    left = h.left;
    history = h.history;
    paused = h.paused ∙ epoch;
  }
