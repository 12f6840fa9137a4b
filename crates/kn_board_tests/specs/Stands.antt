-- How the mutator of a board with one thread stands.
use Rattle.std.specs.Prelude.{◌≡◌, ℕ, Option, None, slice_index}
use Rattle.kn_rule.specs.declared.positions.Position.{Position}
use Rattle.kn_rule.specs.Steps.{epoch_in}
use Rattle.kn_rule.specs.Views.{owns}
use Rattle.kn_board.specs.World.{World, view_at}

-- it stands so, wants that epoch and has begun so many calls, of one that is given; in epoch 0, and owns no frame
pub record MutatorAt (at : Position) (target : Option ℕ) (calls : ℕ) (w : World) : Type 0 where
  pub threads : w.heap.sizes.threads ≡ 1
  pub given : slice_index w.heap.sizes.calls 0 ≡ 1
  pub position : (view_at w 0).position ≡ at
  pub target_is : (view_at w 0).target ≡ target
  pub calls_are : (view_at w 0).calls ≡ calls
  pub epoch : epoch_in (view_at w 0) ≡ 0
  pub owns_none : (p : ℕ) → owns (view_at w 0) p ≡ None
