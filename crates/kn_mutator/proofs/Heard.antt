-- What is made of a phase word that a poll found.
use Rattle.std.proofs.Common.{◌≡◌, ℕ, zero, suc, List, [], ◌∷◌, ◌+◌, ◌<◌, ◌⊎◌, inl}
use Rattle.std.proofs.Common.{inr, Bool, true, false, cond, length, Option, Some, None, slice_get}
use Rattle.std.proofs.Common.{◌↔◌, refl, sym, ap, ◌∙◌, subst, arith}
use Rattle.kn_base.specs.Pages.{FrameView}
use Rattle.kn_graph.specs.declared.calls.Call.{Call}
use Rattle.kn_graph.specs.declared.calls.Reply.{Reply}
use Rattle.kn_graph.specs.Counts.{makes_object}
use Rattle.kn_rule.specs.declared.positions.Position.{Position}
use Rattle.kn_rule.specs.declared.positions.Position.TheVariants as positions
use Rattle.kn_base.specs.declared.places.Place.TheVariants.{Phase}
use Rattle.kn_rule.specs.Decoding.{phase_of}
use Rattle.kn_rule.specs.Phases.{is_run, pauses}
use Rattle.kn_rule.specs.Steps.{Found, Step, found}
use Rattle.kn_steps.specs.declared.turns.Turn.{Turn}
use Rattle.kn_steps.specs.declared.turns.Turn.TheVariants.{Idle, Moved, Done}
use Rattle.kn_steps.specs.Made.{Made, Stand}
use Rattle.kn_mutator.specs.declared.task.Task.{Task}
use Rattle.kn_mutator.specs.declared.task.Task.TheVariants.{Births, Calls, Enters, Leaves, Polls}
use Rattle.kn_mutator.specs.After.{answered}
use Rattle.kn_mutator.specs.Agree.{Agrees, AtTask, HasEnded, HasLeft, Rests}
use Rattle.kn_mutator.specs.Begun.{BeginsAs, Hears, HearsAs, RequestsCell, alone}
use Rattle.kn_mutator.specs.Mutating.{Mutating}
use Rattle.kn_mutator.specs.Tasks.{calling_task, has_left, has_single, idle_at, next_call, poll_for, polled_answer, polled_task, task_at, task_by}
use Rattle.kn_mutator.specs.Turns.{EntersFor, Goes, IsAllocBehind, PollsNext, TurnedAt}
use Rattle.kn_mutator.proofs.Making.{alloc_rests, goes_by, moves_on, not_done, rest_goes_on}
use Rattle.kn_mutator.proofs.Polling.{answered_at_once, answered_between, gets, goes_on, left, rests_entering, waited}

there_is_one : (calls : List Call) (n : ℕ) → n < length calls → slice_get calls n ≡ None → ⊥
there_is_one [] n l e = omega arith
there_is_one (c ∷ cs) zero l e = cc
there_is_one (c ∷ cs) (suc n) l e = there_is_one cs n (omega arith) e

-- the turn of a poll that the gate answered so, by a caller that stands at p
module _ {T : Type 0} (stand : T → Stand) (here : T → ℕ → Bool) (did : T → Step → Found → T → Type 0)
    (moved : T → ℕ → Option FrameView → Option FrameView → T → Type 0) (told : ℕ → ℕ → Bool → Type 0) (m : Mutating) (s s' : T)
    (g : Agrees m (stand s) (here s)) (w : ℕ) (page : FrameView) (p : Position) (ready : (p ≡ positions.Entering) ⊎ (p ≡ positions.Between))
    (at : Rests m (stand s).view p × HasLeft m) (t : Task) (is : m.task ≡ t)
    (turned : (m' : Mutating) (reply : Turn) → PollsNext stand here did moved told m s s' m' reply →
    TurnedAt stand here did moved t told m s s' m' reply) where
  abbrev b : Stand
  b = stand s'

  module _ (passed : Bool) (asked : told m.by m.begun passed)
      (made : Made (stand s) (here s) (poll_for (next_call m passed)) (found w page) b (here s'))
      (kept : did s (poll_for (next_call m passed)) (found w page) s') where
    goes_so : (m' : Mutating) (reply : Turn) → m'.task ≡ polled_task passed w m' b.view → IsAllocBehind m.heap m'.task m.alloc m'.epoch m'.alloc →
        m'.marker ≡ m.marker → reply ≡ polled_answer passed w → m'.heap ≡ m.heap → m'.by ≡ m.by → m'.calls ≡ m.calls →
        Agrees m' b (here s') →
        ((reply ≡ Done) ↔ HasEnded m'.task) → (q : Mutating) → q ≡ m' → Goes stand here did moved told m s s' q reply
    goes_so m' reply task alloc marker answer heap by calls agrees done q is_q =
        subst (λ (q : Mutating). Goes stand here did moved told m s s' q reply) (sym is_q)
        (goes_by stand here did moved m s s' m' reply told t is
        (turned m' reply (record {
          passed = passed;
          asked = asked;
          found = found w page;
          made = made;
          kept = kept;
          task = task;
          alloc = alloc;
          marker = marker;
          answer = answer;
        }))
        heap by calls agrees done)

    -- in no run phase
    behind_left : is_run (phase_of w).code ≡ false → (q : Mutating) → q ≡ record m { task = Leaves } →
        Goes stand here did moved told m s s' q Moved
    behind_left run =
        let m' : Mutating = record m { task = Leaves } in
        goes_so m' Moved (sym (ap (λ r. cond r (cond passed (task_by m' b.view) Polls) Leaves) run)) refl refl (stays passed) refl refl refl
        (left m (stand s) (here s) g p ready at (next_call m passed) (found w page) b (here s') made run) (moves_on Leaves (λ x. x))
      where
        stays : (passed : Bool) → Moved ≡ polled_answer passed w
        stays true = refl
        stays false = sym (ap (idle_at w) run)

  module _ (run : is_run (phase_of w).code ≡ true) where
    -- the gate let no call pass
    behind_none : told m.by m.begun false → Made (stand s) (here s) (poll_for None) (found w page) b (here s') →
        did s (poll_for None) (found w page) s' → (q : Mutating) → q ≡ record m { epoch = pauses (phase_of w); task = Polls } →
        Goes stand here did moved told m s s' q (Idle Phase w)
    behind_none asked made kept =
        let m' : Mutating = record m { epoch = pauses (phase_of w); task = Polls } in
        goes_so false asked made kept m' (Idle Phase w) (sym (ap (λ r. cond r Polls Leaves) run)) refl refl (sym (ap (idle_at w) run)) refl refl refl
        (waited m (stand s) (here s) g p ready at None (found w page) b (here s') made run (pauses (phase_of w)) refl refl)
        (not_done (Idle Phase w) Polls (λ e. cc) (λ x. x))

    -- it let this call pass
    module _ (call : Call) (is_call : slice_get m.calls m.begun ≡ Some call) (asked : told m.by m.begun true)
        (made : Made (stand s) (here s) (poll_for (slice_get m.calls m.begun)) (found w page) b (here s'))
        (kept : did s (poll_for (slice_get m.calls m.begun)) (found w page) s') where
      task_through : (m' : Mutating) → task_by m' b.view ≡ polled_task true w m' b.view
      task_through m' = sym (ap (λ r. cond r (task_by m' b.view) Leaves) run)

      behind_answer : (reply : Reply) → alone (record m { epoch = pauses (phase_of w) }) call ≡ Some reply → (q : Mutating) →
          q ≡ answered (record m { epoch = pauses (phase_of w); begun = m.begun + 1 }) call reply → Goes stand here did moved told m s s' q Moved
      behind_answer reply e =
          let m' : Mutating = answered (record m { epoch = pauses (phase_of w); begun = m.begun + 1 }) call reply in
          let between : b.view.position ≡ positions.Between =
          answered_between m (stand s) (here s) g p ready at (slice_get m.calls m.begun) (found w page) b (here s') made run (pauses (phase_of w)) refl
          call is_call is_call reply e in
          goes_so true asked made kept m' Moved
          (sym (ap (task_at (has_left m') (has_single m'.alloc.hands) b.view.header) between) ∙ task_through m')
          (alloc_rests m.heap (has_left m') (has_single m.alloc.hands) m.alloc (pauses (phase_of w))) refl refl refl refl refl
          (answered_at_once m (stand s) (here s) g p ready at (slice_get m.calls m.begun) (found w page) b (here s') made run (pauses (phase_of w)) refl
          call is_call is_call reply e)
          (moves_on m'.task (rest_goes_on (has_left m') (has_single m'.alloc.hands)))

      calling_is : (m' : Mutating) (h : Option ℕ) → b.view.position ≡ positions.Calling call → b.view.header ≡ h →
          calling_task (makes_object call) call h ≡ task_by m' b.view
      calling_is m' h e eh = sym (λ t. task_at (has_left m') (has_single m'.alloc.hands) (eh t) (e t))

      behind_call : alone (record m { epoch = pauses (phase_of w) }) call ≡ None → makes_object call ≡ false → (q : Mutating) →
          q ≡ record m { epoch = pauses (phase_of w); begun = m.begun + 1; task = Calls call None } → Goes stand here did moved told m s s' q Moved
      behind_call e birth =
          let m' : Mutating = record m { epoch = pauses (phase_of w); begun = m.begun + 1; task = Calls call None } in
          let agrees : Agrees m' b (here s') =
          goes_on m (stand s) (here s) g p ready at (slice_get m.calls m.begun) (found w page) b (here s') made run (pauses (phase_of w)) refl
          call is_call is_call e birth in
          goes_so true asked made kept m' Moved
          (sym (ap (λ q. calling_task q call None) birth) ∙ (calling_is m' None agrees.at.position agrees.at.header ∙ task_through m'))
          refl refl refl refl refl refl agrees (moves_on (Calls call None) (λ x. x))

      behind_birth : alone (record m { epoch = pauses (phase_of w) }) call ≡ None → (q : Mutating) →
          RequestsCell (record m { epoch = pauses (phase_of w) }) call q → Goes stand here did moved told m s s' q Moved
      behind_birth e q r =
          let m' : Mutating = record m { epoch = pauses (phase_of w); begun = m.begun + 1; task = Births call; alloc = r.alloc } in
          let agrees : Agrees m' b (here s') = subst (λ (q : Mutating). Agrees q b (here s')) r.after
          (gets m (stand s) (here s) g p ready at (slice_get m.calls m.begun) (found w page) b (here s') made run (pauses (phase_of w)) refl
          call is_call is_call e q r) in
          goes_so true asked made kept m' Moved
          (sym (ap (λ q. calling_task q call b.view.header) r.birth) ∙ (calling_is m' b.view.header agrees.at.position refl ∙ task_through m'))
          (r.words, r.asked, r.starts) refl refl refl refl refl agrees (moves_on (Births call) (λ x. x)) q r.after

      behind_some : (r : Option Reply) → alone (record m { epoch = pauses (phase_of w) }) call ≡ r → (birth : Bool) → makes_object call ≡ birth →
          (q : Mutating) → BeginsAs (record m { epoch = pauses (phase_of w) }) call r birth q → Goes stand here did moved told m s s' q Moved
      behind_some (Some reply) e birth eb q is = behind_answer reply e q is
      behind_some None e true eb q r = behind_birth e q r
      behind_some None e false eb q is = behind_call e eb q is

    behind_open : (o : Option Call) → slice_get m.calls m.begun ≡ o → told m.by m.begun true →
        Made (stand s) (here s) (poll_for (slice_get m.calls m.begun)) (found w page) b (here s') →
        did s (poll_for (slice_get m.calls m.begun)) (found w page) s' → (q : Mutating) (reply : Turn) → HearsAs m true o w q reply →
        Goes stand here did moved told m s s' q reply
    behind_open None e asked made kept q reply h = absurd (there_is_one m.calls m.begun at.1 e)
    behind_open (Some call) e asked made kept q reply h =
        subst (λ r. Goes stand here did moved told m s s' q r) (sym h.1)
        (behind_some call e asked made kept (alone (record m { epoch = pauses (phase_of w) }) call) refl (makes_object call) refl q h.0)

  -- by what the phase is
  behind : (run : Bool) → is_run (phase_of w).code ≡ run → (passed : Bool) → told m.by m.begun passed →
      Made (stand s) (here s) (poll_for (next_call m passed)) (found w page) b (here s') →
      did s (poll_for (next_call m passed)) (found w page) s' → (q : Mutating) (reply : Turn) → HearsAs m run (next_call m passed) w q reply →
      Goes stand here did moved told m s s' q reply
  behind false e passed asked made kept q reply h =
      subst (λ r. Goes stand here did moved told m s s' q r) (sym h.1) (behind_left passed asked made kept e q h.0)
  behind true e true asked made kept q reply h = behind_open e (slice_get m.calls m.begun) refl asked made kept q reply h
  behind true e false asked made kept q reply h =
      subst (λ r. Goes stand here did moved told m s s' q r) (sym h.1) (behind_none e asked made kept q h.0)

-- the turn of a poll by the mutator m, whose number and count of calls n has
module _ {T : Type 0} (stand : T → Stand) (here : T → ℕ → Bool) (did : T → Step → Found → T → Type 0)
    (moved : T → ℕ → Option FrameView → Option FrameView → T → Type 0) (told : ℕ → ℕ → Bool → Type 0) (n m : Mutating) (same : n ≡ m)
    (s s' : T) (g : Agrees m (stand s) (here s)) (passed : Bool) (asked : told n.by n.begun passed) (next : Option Call)
    (is_next : next ≡ next_call m passed) (w : ℕ) (page : FrameView)
    (made : Made (stand s) (here s) (poll_for next) (found w page) (stand s') (here s')) (kept : did s (poll_for next) (found w page) s')
    (q : Mutating) (reply : Turn) (h : Hears m next w q reply) where
  heard_at : (t : Task) → m.task ≡ t → (p : Position) → ((p ≡ positions.Entering) ⊎ (p ≡ positions.Between)) →
      Rests m (stand s).view p × HasLeft m →
      ((m' : Mutating) (reply : Turn) → PollsNext stand here did moved told m s s' m' reply → TurnedAt stand here did moved t told m s s' m' reply) →
      Goes stand here did moved told m s s' q reply
  heard_at t is p ready at turned =
      behind stand here did moved told m s s' g w page p ready at t is turned (is_run (phase_of w).code) refl passed
      (subst (λ (m : Mutating). told m.by m.begun passed) same asked)
      (subst (λ x. Made (stand s) (here s) (poll_for x) (found w page) (stand s') (here s')) is_next made)
      (subst (λ x. did s (poll_for x) (found w page) s') is_next kept) q reply (subst (λ x. Hears m x w q reply) is_next h)

  pub heard : ((m.task ≡ Enters) × (m.target ≡ None)) ⊎ (m.task ≡ Polls) → Goes stand here did moved told m s s' q reply
  heard (inl e) =
      heard_at Enters e.0 positions.Entering (inl refl)
      (rests_entering m (stand s).view positions.Entering e.1 (subst (λ t. AtTask t m (stand s).view) e.0 g.at))
      (λ m' reply x. subst (λ n. EntersFor stand here did moved n told m s s' m' reply) (sym e.1) x)
  heard (inr e) = heard_at Polls e positions.Between (inr refl) (subst (λ t. AtTask t m (stand s).view) e g.at) (λ m' reply x. x)
