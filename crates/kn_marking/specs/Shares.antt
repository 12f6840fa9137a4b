-- What a step makes of its caller's share.
use Rattle.std.specs.Prelude.{ℕ, ◌+◌, ◌-◌, ◌*◌, cond, nat_lt, Some, None}
use Rattle.kn_marking.specs.declared.work.Work.{Work}
use Rattle.kn_marking.specs.declared.work.Doing.TheVariants.{Free, Set, Header, Cell}
use Rattle.kn_marking.specs.declared.work.Child.TheVariants.{NoChild, Met, Seen, Reserved}
use Rattle.kn_marking.specs.Marking.{to}

module _ (w : Work) where
  -- the word v of root set j was loaded: its exchange is due where its epoch is below the caller's
  abbrev pub looked : ℕ → ℕ → Work
  looked j v = record w { due = cond (nat_lt v (4 * w.epoch)) (Some (j, v)) None }

  -- root set j was claimed
  abbrev pub took : ℕ → Work
  took j = record w { due = None; doing = Set j 0 }

  -- another caller claimed it
  abbrev pub missed : Work
  missed = record w { due = None }

  -- a root set is finished, or a cell is black: one unit is owed
  abbrev pub rested : Work
  rested = record w { doing = Free; owed = w.owed + 1 }

  -- the place reached holds nothing; the next one is p
  abbrev pub passed : ℕ → Work
  passed p = record w { doing = to p w.doing }

  -- the place reached holds y
  abbrev pub met : ℕ → Work
  met y = record w { child = Met y }

  -- the mark v of y was loaded, of an epoch below the caller's
  abbrev pub seen : ℕ → ℕ → Work
  seen y v = record w { child = Seen y v }

  -- one unit is held for y
  abbrev pub reserved : ℕ → ℕ → Work
  reserved y v = record w { child = Reserved y v }

  -- the child was marked, or is gray by the unit that was held for it; the next place is p
  abbrev pub passed_child : ℕ → Work
  passed_child p = record w { doing = to p w.doing; child = NoChild }

  -- another caller marked it first, and its unit is owed; the next place is p
  abbrev pub lost_child : ℕ → Work
  lost_child p = record w { doing = to p w.doing; child = NoChild; owed = w.owed + 1 }

  -- one unit is given back
  abbrev pub paid : Work
  paid = record w { owed = w.owed - 1 }

  -- the gray object x is scanned
  abbrev pub began : ℕ → Work
  began x = record w { doing = Header x }

  -- the header h of cell x was read; its first place is p
  abbrev pub opened : ℕ → ℕ → ℕ → Work
  opened x h p = record w { doing = Cell x h p }

  -- the phase word of the marking of e was loaded or stored
  abbrev pub joined : ℕ → Work
  joined e = record w { epoch = e }
