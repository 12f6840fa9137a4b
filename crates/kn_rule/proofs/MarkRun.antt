-- A marking of three objects, one of them unreachable, by a thread that is out and the collector, computed step by step up to its pause: each kind
-- of step, and each exchange won and lost.
use Rattle.std.proofs.Common.{◌≡◌, ℕ, ◌<◌, ◌≤◌, true, false, cond, eqb, List, [], ◌∷◌, Some, None, inl, inr, refl, sym, subst, arith}
use Rattle.kn_base.specs.declared.places.Place.{Place}
use Rattle.kn_base.specs.declared.places.Place.TheVariants.{Phase, Pending, RootSet, Local, Side, Body}
use Rattle.kn_marking.specs.declared.work.Doing.TheVariants.{Free, Set, Cell}
use Rattle.kn_marking.specs.declared.work.Child.TheVariants.{Met, Seen, Reserved}
use Rattle.kn_rule.specs.declared.steps.Kind.{Kind}
use Rattle.kn_rule.specs.declared.steps.Kind.TheVariants.{K1, K14, K16, K17, K18, K19, K20, K21, K22, K23, K24}
use Rattle.kn_rule.specs.declared.steps.Action.{Action}
use Rattle.kn_rule.specs.declared.steps.Action.TheVariants.{Loads, LoadsFor, Stores, Swaps, Adds, Subtracts}
use Rattle.kn_rule.specs.Decoding.{phase_of, header_of}
use Rattle.kn_rule.specs.Views.{View, State}
use Rattle.kn_rule.specs.Steps.{does, found, pause_of}
use Rattle.kn_rule.specs.MarkedHeap.{set_words}
use Rattle.kn_rule.specs.MarkSteps.{MayFinishSet, MayReserve, MayGray, MayGiveUnit, MayBlacken}
use Rattle.kn_rule.specs.Allowed.{MayPause}
use Rattle.kn_rule.specs.Moves.{stepped}
use Rattle.kn_rule.specs.Rule.{fresh}
use Rattle.kn_rule.proofs.Rows.{ground, whole}

-- objects at 1, 4 and 7, each with a reference and a number: local 0 holds 1, which holds 4, which holds 1; 7 holds 4, and the numbers are 1
abbrev body : ℕ → ℕ
body a =
    cond (eqb a 1) 33554432 (cond (eqb a 2) 4 (cond (eqb a 4) 33554432 (cond (eqb a 5) 1 (cond (eqb a 7) 33554432 (cond (eqb a 8) 4 1)))))

abbrev first : Place → ℕ
first Phase = 10
first Pending = 3
first (Local i r) = cond (eqb r 0) 1 0
first (Side a) = cond (eqb a 1) 3 (cond (eqb a 4) 3 (cond (eqb a 7) 3 0))
first (Body a) = body a
first _ = 0

-- the collector, which has stored Mark(1)
abbrev collector : View
collector =
    let v : View = fresh (ground 64) in
    record v { work = record v.work { epoch = 1 }; collecting = record v.collecting { stored = 10; over = false } }

abbrev opened : State
opened = record { word = first; page = λ _. Some (whole 64); caller = λ c. cond (eqb c 1) collector (fresh (ground 64)); history = [] }

-- one step of a caller
pub record Turn : Type 0 where
  pub by : ℕ
  pub kind : Kind
  pub place : Place
  pub act : Action

abbrev turn : ℕ → Kind → Place → Action → Turn
turn c k p a = record { by = c; kind = k; place = p; act = a }

abbrev run : State → List Turn → State
run s [] = s
run s (t ∷ ts) = run (stepped (ground 64) s t.by (does t.kind t.place t.act) (found (s.word t.place) (whole 64))) ts

-- the thread and the collector look at the locals, the collector claims them and the thread comes late; the first one holds 1
abbrev claiming : State
claiming = run opened (turn 0 K1 Phase (LoadsFor None) ∷ turn 0 K17 (RootSet 0) Loads ∷ turn 1 K17 (RootSet 0) Loads
    ∷ turn 1 K17 (RootSet 0) (Swaps 0 6) ∷ turn 0 K17 (RootSet 0) (Swaps 0 6) ∷ turn 1 K18 (Local 0 0) Loads ∷ [])

-- the child is gray once a unit is held for it
abbrev graying : State
graying = run claiming (turn 1 K20 (Side 1) Loads ∷ turn 1 K19 Pending (Adds 1) ∷ turn 1 K20 (Side 1) (Swaps 3 5) ∷ [])

abbrev local_load : ℕ → Turn
local_load r = turn 1 K18 (Local 0 r) Loads

abbrev finishing : State
finishing = run graying (local_load 1 ∷ local_load 2 ∷ local_load 3 ∷ local_load 4 ∷ local_load 5 ∷ local_load 6 ∷ local_load 7
    ∷ local_load 8 ∷ local_load 9 ∷ local_load 10 ∷ local_load 11 ∷ local_load 12 ∷ local_load 13 ∷ local_load 14 ∷ local_load 15 ∷ [])

-- the set is finished, its unit given back, and the thread does the two empty ones
abbrev other_set : ℕ → State → State
other_set j s = run s (turn 0 K17 (RootSet j) Loads ∷ turn 0 K17 (RootSet j) (Swaps 0 6) ∷ turn 0 K17 (RootSet j) (Stores 7)
    ∷ turn 0 K21 Pending (Subtracts 1) ∷ [])

abbrev sets_done : State
sets_done = other_set 2 (other_set 1 (run finishing (turn 1 K17 (RootSet 0) (Stores 7) ∷ turn 1 K21 Pending (Subtracts 1) ∷ [])))

-- both take up the gray object, and the thread wins; its field holds 4, and its number is passed over
abbrev scanning : State
scanning = run sets_done (turn 0 K22 (Side 1) (Swaps 5 6) ∷ turn 1 K22 (Side 1) (Swaps 5 6) ∷ turn 0 K23 (Body 1) Loads ∷ turn 0 K23 (Body 2) Loads
    ∷ turn 0 K20 (Side 4) Loads ∷ turn 0 K19 Pending (Adds 1) ∷ turn 0 K20 (Side 4) (Swaps 3 5) ∷ [])

abbrev blackened : State
blackened = run scanning (turn 0 K24 (Side 1) (Stores 7) ∷ turn 0 K21 Pending (Subtracts 1) ∷ [])

-- the collector does 4, whose child is black, and looks at 7
abbrev all_done : State
all_done = run blackened (turn 1 K20 (Side 7) Loads ∷ turn 1 K22 (Side 4) (Swaps 5 6) ∷ turn 1 K23 (Body 4) Loads ∷ turn 1 K23 (Body 5) Loads
    ∷ turn 1 K20 (Side 1) Loads ∷ turn 1 K24 (Side 4) (Stores 7) ∷ turn 1 K21 Pending (Subtracts 1) ∷ [])

abbrev over : State
over = run all_done (turn 1 K16 Pending Loads ∷ [])

abbrev paused : State
paused = run over (turn 1 K14 Phase (Stores 11) ∷ [])

helps : (claiming.caller 0).work.epoch ≡ 1
unfolding phase_of header_of
helps = refl

claims : ((claiming.caller 1).work.doing ≡ Set 0 0) × ((claiming.caller 1).work.child ≡ Met 1) × ((claiming.caller 0).work.due ≡ None)
unfolding phase_of header_of
claims = (refl, refl, refl)

grays : (graying.word (Side 1) ≡ 5) × (graying.word Pending ≡ 4) × ((graying.caller 1).work.doing ≡ Set 0 1)
unfolding phase_of header_of
grays = (refl, refl, refl)

finishes : ((finishing.caller 1).work.doing ≡ Set 0 16) × (sets_done.word (RootSet 2) ≡ 7) × (sets_done.word Pending ≡ 1)
unfolding phase_of header_of
finishes = (refl, refl, refl)

scans : ((scanning.caller 0).work.doing ≡ Cell 1 33554432 2) × ((scanning.caller 1).work.doing ≡ Free) × (scanning.word Pending ≡ 2)
unfolding phase_of header_of
scans = (refl, refl, refl)

blackens : (blackened.word (Side 1) ≡ 7) × (blackened.word Pending ≡ 1) × ((blackened.caller 0).work.owed ≡ 0)
unfolding phase_of header_of
blackens = (refl, refl, refl)

-- at the end no work is open, 1 and 4 are black of the epoch, and 7 is not
ends : (all_done.word Pending ≡ 0) × (all_done.word (Side 1) ≡ 7) × (all_done.word (Side 4) ≡ 7) × (all_done.word (Side 7) ≡ 3)
unfolding phase_of header_of
ends = (refl, refl, refl, refl)

pauses : (paused.history ≡ pause_of 1 1 ∷ []) × ((paused.caller 1).log ≡ pause_of 1 1 ∷ []) × (paused.word Phase ≡ 11)
unfolding phase_of header_of
pauses = (refl, refl, refl)

-- the steps are allowed in the views that they meet
may_reserve : MayReserve (ground 64) 1 ((run claiming (turn 1 K20 (Side 1) Loads ∷ [])).caller 1) Pending (Adds 1)
unfolding phase_of header_of
may_reserve = record {
  marker = inr (record { collector = refl; going = refl; in_mark = refl });
  child = 1;
  mark = 3;
  is_seen = refl;
  paid = refl;
  place = refl;
  act = refl;
}

may_finish : MayFinishSet (ground 64) 1 (finishing.caller 1) (RootSet 0) (Stores 7)
unfolding phase_of header_of
may_finish = record {
  marker = inr (record { collector = refl; going = refl; in_mark = refl });
  set = 0;
  word = 16;
  claims = refl;
  whole = omega arith;
  none = refl;
  paid = refl;
  place = refl;
  act = refl;
}

may_blacken : MayBlacken (ground 64) 0 (scanning.caller 0) (Side 1) (Stores 7)
unfolding phase_of header_of
may_blacken = record {
  marker = inl (record { thread = omega arith; out = refl; begun = omega arith });
  object = 1;
  header = 33554432;
  field = 2;
  scans = refl;
  whole = omega arith;
  none = refl;
  paid = refl;
  place = refl;
  act = refl;
}

may_pause : MayPause (ground 64) 1 (over.caller 1) (λ _. false) 11
unfolding phase_of header_of
may_pause = record { in_mark = refl; over = refl; value = refl }

-- and those that must not be are not: gray before a unit is held, a set before its last word, a unit given back twice, and Weak before
-- the count was found 0
no_gray : MayGray (ground 64) 1 ((run claiming (turn 1 K20 (Side 1) Loads ∷ [])).caller 1) (Side 1) (Swaps 3 5) → ⊥
unfolding phase_of header_of
no_gray m = let e : Seen 1 3 ≡ Reserved m.child m.old = m.is_reserved in cc

no_finish : MayFinishSet (ground 64) 1 (graying.caller 1) (RootSet 0) (Stores 7) → ⊥
unfolding phase_of header_of
no_finish m =
    let e : Set 0 1 ≡ Set m.set m.word = m.claims in
    let s : 0 ≡ m.set = cc in
    let w : 1 ≡ m.word = cc in
    let l : 16 ≤ m.word = subst (λ j. set_words (ground 64).sizes j ≤ m.word) (sym s) m.whole in
    omega (arith, w, l)

no_second : MayGiveUnit (ground 64) 0 (blackened.caller 0) Pending (Subtracts 1) → ⊥
unfolding phase_of header_of
no_second m = let h : 0 < 0 = m.owes in omega (arith, h)

no_pause : MayPause (ground 64) 1 (all_done.caller 1) (λ _. false) 11 → ⊥
unfolding phase_of header_of
no_pause m = let e : false ≡ true = m.over in cc
