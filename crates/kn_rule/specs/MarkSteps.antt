-- The steps of markers: when a view allows them, and what they make of the caller's share in marking.
use Rattle.std.specs.Prelude.{◌≡◌, ℕ, ◌+◌, ◌*◌, ◌<◌, ◌≤◌, ◌⊎◌, ◌==◌, cond, Option, Some, None, nat_lt}
use Rattle.kn_base.specs.declared.places.Place.{Place}
use Rattle.kn_base.specs.declared.places.Place.TheVariants.{Pending, RootSet, Side, Body}
use Rattle.kn_base.specs.declared.kinds.Code.{Code}
use Rattle.kn_base.specs.declared.kinds.Code.TheVariants as codes
use Rattle.kn_base.specs.declared.phase_word.PhaseWord.{PhaseWord}
use Rattle.kn_layout.specs.declared.layouts.FieldKind.TheVariants.{Ref as of_ref}
use Rattle.kn_graph.specs.Ground.{Ground}
use Rattle.kn_marking.specs.declared.work.Work.{Work}
use Rattle.kn_marking.specs.declared.work.Doing.{Doing}
use Rattle.kn_marking.specs.declared.work.Doing.TheVariants as doings
use Rattle.kn_marking.specs.declared.work.Child.{Child}
use Rattle.kn_marking.specs.declared.work.Child.TheVariants as children
use Rattle.kn_marking.specs.Words.{gray, scanned, black, claimed, finished}
use Rattle.kn_marking.specs.Shares.{looked, took, missed, rested, passed, met, seen, reserved, passed_child, lost_child, paid, began, opened, joined}
use Rattle.kn_rule.specs.declared.steps.Kind.{Kind}
use Rattle.kn_rule.specs.declared.steps.Kind.TheVariants.{K17, K18, K19, K20, K21, K22, K23, K24}
use Rattle.kn_rule.specs.declared.steps.Action.{Action}
use Rattle.kn_rule.specs.declared.steps.Action.TheVariants.{Loads, Stores, Swaps, Adds, Subtracts}
use Rattle.kn_rule.specs.declared.positions.Position.TheVariants.{Out}
use Rattle.kn_rule.specs.Decoding.{phase_of, header_of}
use Rattle.kn_rule.specs.Views.{View}
use Rattle.kn_rule.specs.Requests.{told_kind}
use Rattle.kn_rule.specs.Steps.{address_in, set_in}
use Rattle.kn_rule.specs.MarkedHeap.{cell_limit, set_words, set_place, set_holds, object_in, next_ref, place_behind}

-- the view v of caller c
module _ (z : Ground) (c : ℕ) (v : View) where
  -- a mutator that is out, and has loaded a phase word of Mark
  pub record Helps : Type 0 where
    pub thread : c < z.sizes.threads
    pub out : v.position ≡ Out
    pub begun : 0 < v.work.epoch

  -- the collector, in Mark
  pub record MarksItself : Type 0 where
    pub collector : c ≡ z.sizes.threads
    pub going : v.position ≡ Out
    pub in_mark : (phase_of v.collecting.stored).code ≡ codes.Mark

  abbrev pub IsMarker : Type 0
  IsMarker = Helps ⊎ MarksItself

  -- a root set is looked at
  pub record MayLookAtSet (p : Place) (a : Action) : Type 0 where
    pub marker : IsMarker
    pub set : ℕ
    pub near : set < z.sizes.threads + 2
    pub place : p ≡ RootSet set
    pub act : a ≡ Loads

  -- it is claimed, by the word loaded of it, of an epoch below the marker's, where the marker goes through nothing
  pub record MayClaimSet (p : Place) (a : Action) : Type 0 where
    pub marker : IsMarker
    pub set : ℕ
    pub old : ℕ
    pub due : v.work.due ≡ Some (set, old)
    pub free : v.work.doing ≡ doings.Free
    pub place : p ≡ RootSet set
    pub act : a ≡ Swaps old (claimed v.work.epoch)

  -- it is finished, where all its words are done, and nothing is owed
  pub record MayFinishSet (p : Place) (a : Action) : Type 0 where
    pub marker : IsMarker
    pub set : ℕ
    pub word : ℕ
    pub claims : v.work.doing ≡ doings.Set set word
    pub whole : set_words z.sizes set ≤ word
    pub none : v.work.child ≡ children.NoChild
    pub paid : v.work.owed ≡ 0
    pub place : p ≡ RootSet set
    pub act : a ≡ Stores (finished v.work.epoch)

  abbrev pub MayMoveSet : Place → Action → Type 0
  MayMoveSet p a = MayLookAtSet p a ⊎ (MayClaimSet p a ⊎ MayFinishSet p a)

  -- the word reached of a claimed root set is loaded
  pub record MayLoadRoot (p : Place) (a : Action) : Type 0 where
    pub marker : IsMarker
    pub set : ℕ
    pub word : ℕ
    pub claims : v.work.doing ≡ doings.Set set word
    pub near : word < set_words z.sizes set
    pub none : v.work.child ≡ children.NoChild
    pub place : p ≡ set_place z.sizes set word
    pub act : a ≡ Loads

  -- a unit of work is added for a child whose mark is of an earlier epoch, where nothing is owed
  pub record MayReserve (p : Place) (a : Action) : Type 0 where
    pub marker : IsMarker
    pub child : ℕ
    pub mark : ℕ
    pub is_seen : v.work.child ≡ children.Seen child mark
    pub paid : v.work.owed ≡ 0
    pub place : p ≡ Pending
    pub act : a ≡ Adds 1

  -- the mark of a child is loaded
  pub record MayLoadMark (p : Place) (a : Action) : Type 0 where
    pub marker : IsMarker
    pub child : ℕ
    pub is_met : v.work.child ≡ children.Met child
    pub place : p ≡ Side child
    pub act : a ≡ Loads

  -- the mark of any object is loaded, in search of a gray one
  pub record MayLookAtMark (p : Place) (a : Action) : Type 0 where
    pub marker : IsMarker
    pub object : ℕ
    pub near : object < cell_limit z.sizes
    pub place : p ≡ Side object
    pub act : a ≡ Loads

  -- a child becomes gray, by the mark loaded of it, where a unit of work is held for it
  pub record MayGray (p : Place) (a : Action) : Type 0 where
    pub marker : IsMarker
    pub child : ℕ
    pub old : ℕ
    pub is_reserved : v.work.child ≡ children.Reserved child old
    pub place : p ≡ Side child
    pub act : a ≡ Swaps old (gray v.work.epoch)

  abbrev pub MayMoveMark : Place → Action → Type 0
  MayMoveMark p a = MayLoadMark p a ⊎ (MayLookAtMark p a ⊎ MayGray p a)

  -- a unit of work that is owed is given back
  pub record MayGiveUnit (p : Place) (a : Action) : Type 0 where
    pub marker : IsMarker
    pub owes : 0 < v.work.owed
    pub place : p ≡ Pending
    pub act : a ≡ Subtracts 1

  -- a gray object is taken up, by a marker that goes through nothing
  pub record MayTakeGray (p : Place) (a : Action) : Type 0 where
    pub marker : IsMarker
    pub object : ℕ
    pub near : object < cell_limit z.sizes
    pub free : v.work.doing ≡ doings.Free
    pub place : p ≡ Side object
    pub act : a ≡ Swaps (gray v.work.epoch) (scanned v.work.epoch)

  -- the header of a scanned cell is loaded
  pub record MayLoadHeader (p : Place) (a : Action) : Type 0 where
    pub marker : IsMarker
    pub object : ℕ
    pub scans : v.work.doing ≡ doings.Header object
    pub place : p ≡ Body object
    pub act : a ≡ Loads

  -- the reference field reached of a scanned cell is loaded
  pub record MayLoadField (p : Place) (a : Action) : Type 0 where
    pub marker : IsMarker
    pub object : ℕ
    pub header : ℕ
    pub field : ℕ
    pub scans : v.work.doing ≡ doings.Cell object header field
    pub of_ref : told_kind z header field ≡ Some of_ref
    pub none : v.work.child ≡ children.NoChild
    pub place : p ≡ Body (object + 1 + field)
    pub act : a ≡ Loads

  abbrev pub MayLoadCell : Place → Action → Type 0
  MayLoadCell p a = MayLoadHeader p a ⊎ MayLoadField p a

  -- a scanned cell becomes black, where all its fields are done, and nothing is owed
  pub record MayBlacken (p : Place) (a : Action) : Type 0 where
    pub marker : IsMarker
    pub object : ℕ
    pub header : ℕ
    pub field : ℕ
    pub scans : v.work.doing ≡ doings.Cell object header field
    pub whole : (header_of header).length ≤ field
    pub none : v.work.child ≡ children.NoChild
    pub paid : v.work.owed ≡ 0
    pub place : p ≡ Side object
    pub act : a ≡ Stores (black v.work.epoch)

-- what a phase word that was loaded or stored makes of a share: one of Mark brings its epoch
abbrev joined_at : Code → ℕ → Work → Work
joined_at codes.Mark e w = joined w e
joined_at _ e w = w

abbrev pub joined_by : PhaseWord → Work → Work
joined_by v w = joined_at v.code v.epoch w

-- the share w, whose caller finds the word n
module _ (z : Ground) (w : Work) (n : ℕ) where
  abbrev pub set_after : ℕ → Action → Work
  set_after j Loads = looked w j n
  set_after j (Stores word) = rested w
  set_after j (Swaps old new) = cond (n == old) (took w j) (missed w)
  set_after j _ = w

  abbrev pub arrived : Option ℕ → Work
  arrived None = passed w (place_behind z w.doing)
  arrived (Some y) = met w y

  abbrev pub root_read : Doing → Work
  root_read (doings.Set j i) = arrived (set_holds z.sizes j n)
  root_read _ = w

  abbrev pub reserved_for : Child → Work
  reserved_for (children.Seen y old) = reserved w y old
  reserved_for _ = w

  abbrev pub mark_loaded : ℕ → Work
  mark_loaded y = cond (nat_lt n (4 * w.epoch)) (seen w y n) (passed_child w (place_behind z w.doing))

  abbrev pub child_after : Child → ℕ → Action → Work
  child_after (children.Met y) x Loads = cond (y == x) (mark_loaded y) w
  child_after (children.Reserved y old) x (Swaps from gray) =
      cond (n == old) (passed_child w (place_behind z w.doing)) (lost_child w (place_behind z w.doing))
  child_after _ x a = w

  abbrev pub body_read : Doing → Work
  body_read (doings.Header x) = opened w x n (next_ref z n 0)
  body_read (doings.Cell x h i) = arrived (object_in n)
  body_read _ = w

  -- the share after a step of a kind
  abbrev pub work_after : Kind → Place → Action → Work
  work_after K17 p a = set_after (set_in p) a
  work_after K18 p a = root_read w.doing
  work_after K19 p a = reserved_for w.child
  work_after K20 p a = child_after w.child (address_in p) a
  work_after K21 p a = paid w
  work_after K22 p a = cond (n == gray w.epoch) (began w (address_in p)) w
  work_after K23 p a = body_read w.doing
  work_after K24 p a = rested w
  work_after _ p a = w
