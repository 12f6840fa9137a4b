-- What a step that leaves the allocator at rest makes of the agreement.
use Rattle.std.proofs.Common.{◌≡◌, ℕ, zero, suc, ◌+◌, ◌^◌, ◌<◌, ◌≤◌, ◌⊎◌, inl}
use Rattle.std.proofs.Common.{inr, Bool, true, false, List, [], ◌∷◌, ◌++◌, length, take}
use Rattle.std.proofs.Common.{Option, Some, None, slice_get, slice_index, nat_lt, refl, sym, ap, ◌∙◌, subst, arith}
use Rattle.std.specs.List.{AllByRecursion}
use Rattle.std.proofs.lemmas.Bool.{true≢false}
use Rattle.std.proofs.lemmas.Bool.Decides.{leb_tells}
use Rattle.std.proofs.lemmas.Option.{slice_get_within}
use Rattle.kn_base.specs.declared.limits.TheConstants.{LOCALS}
use Rattle.kn_base.specs.declared.places.Place.TheVariants.{Phase}
use Rattle.kn_base.proofs.Updates.{upd_here}
use Rattle.kn_graph.specs.declared.calls.Call.{Call}
use Rattle.kn_graph.specs.declared.calls.Reply.{Reply}
use Rattle.kn_graph.specs.declared.entries.Entry.{Entry}
use Rattle.kn_graph.specs.Counts.{births_among}
use Rattle.kn_graph.specs.Ground.{IsGoodGround}
use Rattle.kn_graph.proofs.Splits.{calls_of-append}
use Rattle.kn_marking.specs.declared.work.Work.{Work}
use Rattle.kn_marking.specs.Shares.{joined}
use Rattle.kn_rule.specs.declared.positions.Position.TheVariants as positions
use Rattle.kn_base.specs.declared.kinds.Code.{Code}
use Rattle.kn_base.specs.declared.kinds.Code.TheVariants as codes
use Rattle.kn_rule.specs.Allowed.{MayBe}
use Rattle.kn_rule.specs.MarkSteps.{joined_by}
use Rattle.kn_rule.specs.Decoding.{phase_of}
use Rattle.kn_rule.specs.Moves.{stepped, view_after}
use Rattle.kn_rule.specs.Rule.{Rule}
use Rattle.kn_rule.specs.Steps.{Step, Found, entry_of, epoch_in}
use Rattle.kn_rule.specs.Views.{State, View}
use Rattle.kn_steps.specs.Made.{LieAs, Made, Stand}
use Rattle.kn_keep_heap.proofs.SmallWords.{locals_are_addresses, phases_are_small}
use Rattle.kn_keep_marking.proofs.Keeps.{keeps_rule}
use Rattle.kn_safepoint.specs.declared.stage.Stage.{Stage}
use Rattle.kn_safepoint.specs.Agree.{Agrees as SafepointAgrees, StandsAt}
use Rattle.kn_safepoint.specs.Kept.{Kept}
use Rattle.kn_alloc.specs.declared.stage.Stage.TheVariants.{Resting}
use Rattle.kn_alloc.specs.Agree.{Agrees as AllocAgrees, IsIdle}
use Rattle.kn_alloc.proofs.Agreements.{stays_while_idle}
use Rattle.kn_mark.specs.Agree.{IsAtRef, IsShareOf}
use Rattle.kn_mark.specs.Kept.{Kept as MarkerKept}
use Rattle.kn_mutator.specs.declared.task.Task.{Task}
use Rattle.kn_mutator.specs.Agree.{Agrees, HasAnswered, AtTask, UnderWay}
use Rattle.kn_mutator.specs.After.{resting_task, said}
use Rattle.kn_mutator.specs.Mutating.{Knows, Mutating}
use Rattle.kn_mutator.specs.Tasks.{has_left, has_single, rest_task, task_at, task_by}

-- the parts of a mutator have its task
pub task_now : {m : Mutating} {n : Mutating} {t : Task} → m ≡ n → m.task ≡ t → n.task ≡ t
task_now {m} {n} {t} same is = subst (λ (q : Mutating). q.task ≡ t) same is

-- behind a step the caller's locals are addresses, and a phase that was found is a short word
module _ (a : Stand) (here : ℕ → Bool) (d : Step) (f : Found) (b : Stand) (here' : ℕ → Bool) (made : Made a here d f b here') where
  pub addresses_made : IsGoodGround a.heap → a.by < a.heap.sizes.threads → (r : ℕ) → r < LOCALS → slice_index b.view.locals r ≤ 1000000
  addresses_made good less r l =
      let s : State = made.shown.0 in
      let is : s.caller a.by ≡ a.view = made.shown.2 in
      let may : MayBe a.heap a.by (s.caller a.by) here d.kind d.place d.act =
      subst (λ v. MayBe a.heap a.by v here d.kind d.place d.act) (sym is) made.may in
      let rule : Rule a.heap (stepped a.heap s a.by d f) =
      keeps_rule d.kind a.heap s a.by here d.place d.act f good made.shown.1 may made.shown.3 in
      let small = locals_are_addresses a.heap (stepped a.heap s a.by d f) a.by r good rule less l in
      let view : (stepped a.heap s a.by d f).caller a.by ≡ b.view =
      upd_here s.caller a.by (view_after a.heap a.by (s.caller a.by) d f) ∙ ap (λ v. view_after a.heap a.by v d f) is
      ∙ sym (ap (λ (x : Stand). x.view) made.view) in
      subst (λ (v : View). slice_index v.locals r ≤ 1000000) view small

  pub phase_made : d.place ≡ Phase → f.word < 2 ^ 35
  phase_made e =
      let s : State = made.shown.0 in
      let found : s.word Phase ≡ f.word = sym (ap s.word e) ∙ made.shown.3.0 in
      subst (λ w. w < 2 ^ 35) found (phases_are_small a.heap s made.shown.1)

-- a phase that was loaded changes nothing of a share but its epoch
joins : (e : ℕ) (c : Code) (w : Work) →
    joined_by (record { epoch = e; code = c }) w ≡ joined w (joined_by (record { epoch = e; code = c }) w).epoch
joins e codes.Idle w = refl
joins e codes.StopA w = refl
joins e codes.Mark w = refl
joins e codes.Weak w = refl
joins e codes.StopB w = refl
joins e codes.Prep w = refl
joins e codes.Sweep w = refl

pub loads_joined : (w : ℕ) (k : Work) → joined_by (phase_of w) k ≡ joined k (joined_by (phase_of w) k).epoch
loads_joined w k = joins (phase_of w).epoch (phase_of w).code k

-- behind a step that changed nothing of the caller's share but its epoch, a marker keeps that share
pub share_behind : (k : MarkerKept) (a b : Stand) → IsShareOf k a → b.heap ≡ a.heap →
    b.view.work ≡ joined a.view.work b.view.work.epoch → IsShareOf k b
share_behind k a b s heap work = record {
  sizes = ap (λ z. z.sizes) heap ∙ s.sizes;
  share = work ∙ ap (λ (w : Work). joined w b.view.work.epoch) s.share;
  at_ref = subst (λ z. IsAtRef z k.work.doing) (sym heap) s.at_ref;
}

pub share_stays : (k : MarkerKept) (a b : Stand) → IsShareOf k a → b.heap ≡ a.heap → b.view.work ≡ a.view.work → IsShareOf k b
share_stays k a b s heap work =
    let same : a.view.work ≡ joined a.view.work b.view.work.epoch = ap (λ (w : Work). joined a.view.work w.epoch) (sym work) in
    share_behind k a b s heap (work ∙ same)

-- what holds of each element of a list holds of this one
pub all_get : {A : Type 0} (P : A → Type 0) (l : List A) (n : ℕ) (x : A) → AllByRecursion P l → slice_get l n ≡ Some x → P x
all_get P [] n x all e = cc
all_get P (y ∷ l) zero x all e = let i : y ≡ x = cc in subst P i all.0
all_get P (y ∷ l) (suc n) x all e = all_get P l n x all.1 e

-- whose steps they are
module _ (m : Mutating) (a : Stand) (here : ℕ → Bool) (g : Agrees m a here) where
  pub by_is : a.by ≡ m.by
  by_is = g.alloc.caller ∙ g.caller

  pub is_thread : a.by < a.heap.sizes.threads
  is_thread = let t = g.alloc.thread in let e = g.alloc.caller in omega arith

  -- its safepoint agrees with what it knows, at a stage at which it stands
  pub safepoint_agrees : (t : Stage) → StandsAt t a.view.position → (k : Kept) → k ≡ record { by = m.by; stage = t } → SafepointAgrees k a
  safepoint_agrees t at k is =
      subst (λ (k : Kept). SafepointAgrees k a) (sym is) (record { caller = by_is; thread = is_thread; at = at })

  -- the log of the view with an answer
  pub said_is : (call : Call) (reply : Reply) (address : ℕ) →
      a.view.log ++ entry_of a.by (epoch_in a.view) call reply address ∷ [] ≡ said m call reply address
  said_is call reply address = λ t. g.knows.log t ++ entry_of (by_is t) (g.knows.epoch t) call reply address ∷ []

pub take_one_more : (calls : List Call) (n : ℕ) (call : Call) → slice_get calls n ≡ Some call → take (n + 1) calls ≡ take n calls ++ call ∷ []
take_one_more [] n call e = cc
take_one_more (c ∷ calls) zero call e = cc
take_one_more (c ∷ calls) (suc n) call e =
    let more : suc n + 1 ≡ suc (n + 1) = omega arith in
    ap (λ k. take k (c ∷ calls)) more ∙ ap (λ (l : List Call). c ∷ l) (take_one_more calls n call e)

length_one_more : (log : List Entry) (entry : Entry) → length (log ++ entry ∷ []) ≡ length log + 1
length_one_more [] entry = refl
length_one_more (e ∷ log) entry = let h = length_one_more log entry in omega (arith, h)

module _ (m : Mutating) (call : Call) (under : UnderWay m.log m.calls m.begun call) where
  -- the log has room for the answer
  pub has_room : length m.log < length m.calls
  has_room = let l = slice_get_within m.calls under.number call under.is_call in let e = under.answers.count in omega arith

  -- the call under way is answered
  pub answers_more : (reply : Reply) (address : ℕ) → HasAnswered (said m call reply address) m.calls m.begun
  answers_more reply address =
      let number : m.begun ≡ under.number + 1 = under.is_last in
      let near = slice_get_within m.calls under.number call under.is_call in
      record {
        calls = calls_of-append m.log _
            ∙ ap (λ (l : List Call). l ++ call ∷ []) under.answers.calls
            ∙ sym (take_one_more m.calls under.number call under.is_call)
            ∙ ap (λ k. take k m.calls) (sym number);
        count = length_one_more m.log _ ∙ ap (λ k. k + 1) under.answers.count ∙ sym number;
        within = omega arith;
      }

-- between two calls
module _ (m : Mutating) (v : View) (at : v.position ≡ positions.Between) (answers : HasAnswered m.log m.calls m.begun) where
  rest_by : (left single : Bool) → m.target ≡ None → (left ≡ true → m.begun < length m.calls) → (left ≡ false → m.begun ≡ length m.calls) →
      (single ≡ true → has_single m.alloc.hands ≡ true) → m.alloc.stage ≡ Resting → AtTask (rest_task left single) m v
  rest_by false single u l n s r = (inl at, record { answers = answers; untargeted = u; alloc = subst IsIdle (sym r) tt }, n refl)
  rest_by true true u l n s r = (at, record { answers = answers; untargeted = u; alloc = subst IsIdle (sym r) tt }, l refl, λ _. s refl)
  rest_by true false u l n s r = (record { position = at; answers = answers; untargeted = u; alloc = r }, l refl)

  left_told : (left : Bool) → nat_lt m.begun (length m.calls) ≡ left →
      (left ≡ true → m.begun < length m.calls) × (left ≡ false → m.begun ≡ length m.calls)
  left_told left e = by (leb_tells (suc m.begun) (length m.calls))
    where
      by : ((nat_lt m.begun (length m.calls) ≡ true) × (suc m.begun ≤ length m.calls))
          ⊎ ((nat_lt m.begun (length m.calls) ≡ false) × (length m.calls < suc m.begun)) →
          (left ≡ true → m.begun < length m.calls) × (left ≡ false → m.begun ≡ length m.calls)
      by (inl t) = (λ _. t.1, λ f. absurd (true≢false (sym t.0 ∙ e ∙ f)))
      by (inr t) = (λ f. absurd (true≢false (sym (e ∙ f) ∙ t.0)), λ _. let w = answers.within in let l = t.1 in omega arith)

  pub rest_at : m.target ≡ None → m.alloc.stage ≡ Resting → AtTask (resting_task m) m v
  rest_at u r =
      let l = left_told (has_left m) refl in
      rest_by (has_left m) (has_single m.alloc.hands) u l.0 l.1 (λ e. e) r

  pub rest_is : task_by m v ≡ resting_task m
  rest_is = ap (task_at (has_left m) (has_single m.alloc.hands) v.header) at

-- a step whose view is u behind it, which owns, takes and sweeps what it did before
module _ (m : Mutating) (a : Stand) (here : ℕ → Bool) (g : Agrees m a here) (idle : IsIdle m.alloc.stage) (b : Stand)
    (here' : ℕ → Bool) (u : View) (view : b ≡ record a { view = u }) (owned : u.owned ≡ a.view.owned) (taken : u.taken ≡ a.view.taken)
    (sweep : u.sweep ≡ a.view.sweep) (lies : LieAs b.view here here') where
  view_is : b.view ≡ u
  view_is = ap (λ (x : Stand). x.view) view

  pub alloc_then : AllocAgrees m.alloc b here'
  alloc_then =
      stays_while_idle m.alloc a b here here' idle g.alloc (ap (λ (x : Stand). x.heap) view) (ap (λ (x : Stand). x.by) view)
      (ap (λ (v : View). v.owned) view_is ∙ owned) (ap (λ (v : View). v.taken) view_is ∙ taken)
      (ap (λ (v : View). v.sweep) view_is ∙ sweep) lies

  -- the step changed nothing of the caller's share but its epoch
  module _ (work : u.work ≡ joined a.view.work u.work.epoch) where
    pub share_then : IsShareOf m.marker b
    share_then =
        share_behind m.marker a b g.marker (ap (λ (x : Stand). x.heap) view)
        (subst (λ (v : View). v.work ≡ joined a.view.work v.work.epoch) (sym view_is) work)

    pub agrees_with : (target : Option ℕ) (n e : ℕ) (locals : List ℕ) (task : Task) (log : List Entry) →
        Knows (record m { begun = n; epoch = e; target = target; locals = locals; task = task; log = log }) u →
        u.births ≡ births_among (take n m.calls) → length locals ≡ LOCALS → ((r : ℕ) → r < LOCALS → slice_index b.view.locals r ≤ 1000000) →
        AtTask task (record m { begun = n; epoch = e; target = target; locals = locals; task = task; log = log }) u →
        Agrees (record m { begun = n; epoch = e; target = target; locals = locals; task = task; log = log }) b here'
    agrees_with target n e locals task log knows births width small at =
        let m' : Mutating = record m { begun = n; epoch = e; target = target; locals = locals; task = task; log = log } in
        record {
          alloc = alloc_then;
          marker = share_then;
          heap = ap (λ (x : Stand). x.heap) view ∙ g.heap;
          caller = g.caller;
          knows = subst (Knows m') (sym view_is) knows;
          planned = g.planned;
          births = ap (λ (v : View). v.births) view_is ∙ births;
          width = width;
          addresses = λ r l. subst (λ l. slice_index l r ≤ 1000000) (ap (λ (v : View). v.locals) view_is ∙ knows.locals) (small r l);
          at = subst (AtTask task m') (sym view_is) at;
        }

    -- the same, where no other epoch is wanted behind it
    pub agrees_then : (n e : ℕ) (locals : List ℕ) (task : Task) (log : List Entry) →
        Knows (record m { begun = n; epoch = e; locals = locals; task = task; log = log }) u → u.births ≡ births_among (take n m.calls) →
        length locals ≡ LOCALS → ((r : ℕ) → r < LOCALS → slice_index b.view.locals r ≤ 1000000) →
        AtTask task (record m { begun = n; epoch = e; locals = locals; task = task; log = log }) u →
        Agrees (record m { begun = n; epoch = e; locals = locals; task = task; log = log }) b here'
    agrees_then = agrees_with m.target
