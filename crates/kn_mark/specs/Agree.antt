-- How what a marker keeps agrees with what its caller knows.
use Rattle.std.specs.Prelude.{◌≡◌, ℕ, ◌<◌, Bool, true, Some}
use Rattle.kn_layout.specs.declared.layouts.FieldKind.TheVariants.{Ref as of_ref}
use Rattle.kn_graph.specs.Ground.{Ground, IsGoodGround}
use Rattle.kn_marking.specs.declared.work.Doing.{Doing}
use Rattle.kn_marking.specs.declared.work.Doing.TheVariants as doings
use Rattle.kn_marking.specs.Shares.{joined}
use Rattle.kn_rule.specs.Decoding.{header_of}
use Rattle.kn_rule.specs.Requests.{told_kind}
use Rattle.kn_rule.specs.MarkSteps.{IsMarker}
use Rattle.kn_steps.specs.Made.{Stand, LieAs}
use Rattle.kn_mark.specs.Kept.{Kept, free_share}

-- the field reached of a cell, where there is one, holds a reference
abbrev pub IsAtRef : Ground → Doing → Type 0
IsAtRef z doings.Free = Unit {0}
IsAtRef z (doings.Set j i) = Unit {0}
IsAtRef z (doings.Header x) = Unit {0}
IsAtRef z (doings.Cell x h i) = i < (header_of h).length → told_kind z h i ≡ Some of_ref

-- its caller may mark, over the heap of these sizes; the share that it keeps is the one that its caller's view has; and the field
-- that it reached holds a reference
pub record Agrees (k : Kept) (a : Stand) : Type 0 where
  pub good : IsGoodGround a.heap
  pub sizes : a.heap.sizes ≡ k.sizes
  pub marker : IsMarker a.heap a.by a.view
  pub share : a.view.work ≡ k.work
  pub at_ref : IsAtRef a.heap k.work.doing

-- but for the epoch, of which the view may have joined a later one, the share that a marker keeps is the one that a caller's view
-- has, over the heap of its sizes; and the field that it reached holds a reference
pub record IsShareOf (k : Kept) (a : Stand) : Type 0 where
  pub sizes : a.heap.sizes ≡ k.sizes
  pub share : a.view.work ≡ joined k.work a.view.work.epoch
  pub at_ref : IsAtRef a.heap k.work.doing

-- a caller may mark, and has the share that the marker keeps, of this epoch
pub record MayStart (k : Kept) (e : ℕ) (a : Stand) : Type 0 where
  pub good : IsGoodGround a.heap
  pub marker : IsMarker a.heap a.by a.view
  pub share : IsShareOf k a
  pub epoch : a.view.work.epoch ≡ e

-- a caller's step changed its share, and whether it saw the marking over, and nothing else of its view, and no page was moved
pub record OnlyMarked (a : Stand) (here : ℕ → Bool) (b : Stand) (here' : ℕ → Bool) : Type 0 where
  pub over : Bool
  pub view : b ≡ record a { view = record a.view { work = b.view.work; collecting = record a.view.collecting { over = over } } }
  pub lies : LieAs a.view here here'

-- a caller saw the marking of its epoch over, and has nothing under way
pub record HasRest (e : ℕ) (b : Stand) : Type 0 where
  pub share : b.view.work ≡ free_share e
  pub over : b.view.collecting.over ≡ true
