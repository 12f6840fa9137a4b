-- Turns in which pages go home, and the stores of the state behind them.
use Rattle.std.proofs.Common.{◌≡◌, ℕ, ◌⊎◌, ◌↔◌, inl, inr, Bool, Option, refl, sym, ap, ◌∙◌, subst}
use Rattle.kn_base.specs.declared.places.Place.TheVariants.{State as StateOf}
use Rattle.kn_base.specs.Pages.{FrameView}
use Rattle.kn_rule.specs.declared.positions.Position.{Position}
use Rattle.kn_rule.specs.declared.positions.Position.TheVariants as positions
use Rattle.kn_rule.specs.declared.steps.Action.TheVariants.{Stores}
use Rattle.kn_rule.specs.declared.steps.Kind.TheVariants.{K2}
use Rattle.kn_rule.specs.Steps.{Found, Step, does, epoch_in}
use Rattle.kn_rule.specs.Views.{View}
use Rattle.kn_steps.specs.Made.{Made, Stand}
use Rattle.kn_steps.specs.declared.turns.Turn.{Turn}
use Rattle.kn_steps.specs.declared.turns.Turn.TheVariants.{Moved, Done}
use Rattle.kn_alloc.specs.declared.stage.HomeTurn.TheVariants as homes
use Rattle.kn_alloc.specs.declared.stage.Stage.{Stage}
use Rattle.kn_alloc.specs.declared.stage.Stage.TheVariants as stages
use Rattle.kn_alloc.specs.Agree.{Agrees as AllocAgrees, IsIdle}
use Rattle.kn_alloc.specs.Homes.{IsNoHand, WentHome, WentHomeAt}
use Rattle.kn_alloc.specs.Keeps.{Keeps}
use Rattle.kn_alloc.specs.Tells.{IsKept, TellsHome}
use Rattle.kn_mutator.specs.declared.task.Task.{Task}
use Rattle.kn_mutator.specs.declared.task.Task.TheVariants.{Out, Polls, SendsSingle, Leaves, Ends, Ended}
use Rattle.kn_mutator.specs.Agree.{Agrees, AtTask, HasEnded, MayGoHome}
use Rattle.kn_mutator.specs.Mutating.{Mutating}
use Rattle.kn_mutator.specs.Tasks.{single_task, task_home}
use Rattle.kn_mutator.specs.Turns.{Goes, PutsHome, StoresState, TurnedAt, asks_none}
use Rattle.kn_mutator.proofs.Core.{addresses_made, agrees_then, is_thread, share_stays}
use Rattle.kn_mutator.proofs.Making.{goes_by, moves_on}

module _ (m : Mutating) (a : Stand) (here : ℕ → Bool) (g : Agrees m a here) where
  at_home : (t : Task) → m.task ≡ t → AtTask t m a.view
  at_home t e = subst (λ t. AtTask t m a.view) e g.at

  -- a page went into its slot, or its frame was given back
  module _ (alloc : Keeps) (b : Stand) (here' : ℕ → Bool) (agrees : AllocAgrees alloc b here') (tells : TellsHome a b)
      (kept : IsKept m.alloc alloc) (idle : IsIdle alloc.stage) where
    home_agrees : (task : Task) → AtTask task (record m { task = task; alloc = alloc }) b.view → Agrees (record m { task = task; alloc = alloc }) b here'
    home_agrees task at = record {
      alloc = agrees;
      marker = share_stays m.marker a b g.marker tells.heap (ap (λ (v : View). v.work) tells.view);
      heap = tells.heap ∙ g.heap;
      caller = kept.1 ∙ g.caller;
      knows = record {
        locals = ap (λ (v : View). v.locals) tells.view ∙ g.knows.locals;
        epoch = ap epoch_in tells.view ∙ g.knows.epoch;
        log = ap (λ (v : View). v.log) tells.view ∙ g.knows.log;
        begun = ap (λ (v : View). v.calls) tells.view ∙ g.knows.begun;
        target = ap (λ (v : View). v.target) tells.view ∙ g.knows.target;
      };
      planned = g.planned;
      births = ap (λ (v : View). v.births) tells.view ∙ g.births;
      width = g.width;
      addresses = g.addresses;
      at = at;
    }

    same_position : b.view.position ≡ a.view.position
    same_position = ap (λ (v : View). v.position) tells.view

    may_then : (task : Task) → MayGoHome m → MayGoHome (record m { task = task; alloc = alloc })
    may_then task h = record { answers = h.answers; untargeted = h.untargeted; alloc = idle }

    single_sent : m.task ≡ SendsSingle → (alloc.stage ≡ stages.Resting → ⊥) → Agrees (record m { task = SendsSingle; alloc = alloc }) b here'
    single_sent is never =
        let at = at_home SendsSingle is in
        home_agrees SendsSingle (same_position ∙ at.0, may_then SendsSingle at.1, at.2, λ e. absurd (never e))

    single_back : m.task ≡ SendsSingle → alloc.stage ≡ stages.Resting → Agrees (record m { task = Polls; alloc = alloc }) b here'
    single_back is rests =
        let at = at_home SendsSingle is in
        home_agrees Polls
        (record { position = same_position ∙ at.0; answers = at.1.answers; untargeted = at.1.untargeted; alloc = rests }, at.2)

    moved_at : (p q : Position) → (a.view.position ≡ p) ⊎ (a.view.position ≡ q) → (b.view.position ≡ p) ⊎ (b.view.position ≡ q)
    moved_at p q (inl e) = inl (same_position ∙ e)
    moved_at p q (inr e) = inr (same_position ∙ e)

    leaves_sent : m.task ≡ Leaves → Agrees (record m { task = Leaves; alloc = alloc }) b here'
    leaves_sent is =
        let at = at_home Leaves is in
        home_agrees Leaves (moved_at positions.Leaving positions.Entering at.0, at.1, idle)

    ends_sent : m.task ≡ Ends → Agrees (record m { task = Ends; alloc = alloc }) b here'
    ends_sent is =
        let at = at_home Ends is in
        home_agrees Ends (moved_at positions.Between positions.Out at.0, may_then Ends at.1, at.2)

  went_to : (n : ℕ) (at : Position) (task : Task) (f : Found) (b : Stand) (here' : ℕ → Bool) → IsIdle m.alloc.stage →
      (made : Made a here (does K2 (StateOf m.by) (Stores n)) f b here') → b ≡ record a { view = record a.view { position = at } } →
      AtTask task (record m { task = task }) (record a.view { position = at }) → Agrees (record m { task = task }) b here'
  went_to n at task f b here' idle made view then =
      agrees_then m a here g idle b here' (record a.view { position = at }) view refl refl refl made.lies refl m.begun m.epoch m.locals task m.log
      (record { locals = g.knows.locals; epoch = g.knows.epoch; log = g.knows.log; begun = g.knows.begun; target = g.knows.target }) g.births g.width
      (addresses_made a here (does K2 (StateOf m.by) (Stores n)) f b here' made g.alloc.good (is_thread m a here g)) then

  went_out : m.task ≡ Leaves → m.alloc.stage ≡ stages.Resting → (f : Found) (b : Stand) (here' : ℕ → Bool) →
      Made a here (does K2 (StateOf m.by) (Stores 0)) f b here' → Agrees (record m { task = Out }) b here'
  went_out is rests f b here' made =
      let at = at_home Leaves is in
      went_to 0 positions.Out Out f b here' at.2 made made.view
      (record { position = refl; owes = at.1; alloc = rests })

  went_end : m.task ≡ Ends → (f : Found) (b : Stand) (here' : ℕ → Bool) →
      Made a here (does K2 (StateOf m.by) (Stores 2)) f b here' → Agrees (record m { task = Ended }) b here'
  went_end is f b here' made =
      let at = at_home Ends is in
      went_to 2 positions.Ended Ended f b here' at.1.alloc made made.view (refl, at.1.answers, at.2)

-- a single page that is not home yet goes on
home_still : (stage : Stage) → IsIdle stage → (stage ≡ stages.Resting → ⊥) → SendsSingle ≡ single_task stage
home_still stages.Resting idle never = absurd (never refl)
home_still (stages.PutsHome p word) idle never = refl
home_still _ idle never = absurd idle

-- those turns, of a mutator that is n, whose parts m has
module _ {T : Type 0} (stand : T → Stand) (here : T → ℕ → Bool) (did : T → Step → Found → T → Type 0)
    (moved : T → ℕ → Option FrameView → Option FrameView → T → Type 0) (m n : Mutating) (same : m ≡ n) (s s' : T)
    (agrees_n : Agrees n (stand s) (here s)) where
  g : Agrees m (stand s) (here s)
  g = subst (λ (q : Mutating). Agrees q (stand s) (here s)) (sym same) agrees_n

  task_is : (t : Task) → n.task ≡ t → m.task ≡ t
  task_is t is = ap (λ (q : Mutating). q.task) same ∙ is

  goes_so : (m' : Mutating) (reply : Turn) (t : Task) → n.task ≡ t → TurnedAt stand here did moved t asks_none m s s' m' reply → m'.heap ≡ m.heap →
      m'.by ≡ m.by → m'.calls ≡ m.calls → Agrees m' (stand s') (here s') → ((reply ≡ Done) ↔ HasEnded m'.task) → (q : Mutating) → q ≡ m' →
      Goes stand here did moved asks_none n s s' q reply
  goes_so m' reply t is turned heap by calls after done q is_q =
      subst (λ p. Goes stand here did moved asks_none p s s' q reply) same
      (subst (λ q. Goes stand here did moved asks_none m s s' q reply) (sym is_q)
      (goes_by stand here did moved m s s' m' reply asks_none t (task_is t is) turned heap by calls after done))

  module _ (alloc : Keeps) (agrees : AllocAgrees alloc (stand s') (here s')) (tells : TellsHome (stand s) (stand s'))
      (kept : IsKept m.alloc alloc) (idle : IsIdle alloc.stage) (went : WentHome stand here did moved m.alloc s s' alloc homes.Moved) where
    abbrev sent : Task → Mutating
    sent task = record m { task = task; alloc = alloc }

    sends_to : (t task : Task) → n.task ≡ t → task ≡ task_home t alloc.stage → Agrees (sent task) (stand s') (here s') → (HasEnded task → ⊥) →
        (PutsHome stand here did moved m s s' (sent task) Moved → TurnedAt stand here did moved t asks_none m s s' (sent task) Moved) →
        (q : Mutating) → q ≡ sent task → Goes stand here did moved asks_none n s s' q Moved
    sends_to t task is home after on turned =
        goes_so (sent task) Moved t is
        (turned (record { went = went; marker = refl; task = home ∙ sym (ap (λ t. task_home t alloc.stage) (task_is t is)); answer = refl }))
        refl refl refl after (moves_on task on)

    unchanged : (t : Task) → n.task ≡ t → record m { alloc = alloc } ≡ sent t
    unchanged t is = λ i. record m { task = task_is t is i; alloc = alloc }

    pub single_goes : n.task ≡ SendsSingle → (alloc.stage ≡ stages.Resting → ⊥) →
        Goes stand here did moved asks_none n s s' (record m { alloc = alloc }) Moved
    single_goes is never =
        sends_to SendsSingle SendsSingle is (home_still alloc.stage idle never)
        (single_sent m (stand s) (here s) g alloc (stand s') (here s') agrees tells kept idle (task_is SendsSingle is) never) (λ x. x) (λ x. x)
        (record m { alloc = alloc }) (unchanged SendsSingle is)

    pub single_is_home : n.task ≡ SendsSingle → alloc.stage ≡ stages.Resting → (q : Mutating) → q ≡ sent Polls →
        Goes stand here did moved asks_none n s s' q Moved
    single_is_home is rests =
        sends_to SendsSingle Polls is (sym (ap single_task rests))
        (single_back m (stand s) (here s) g alloc (stand s') (here s') agrees tells kept idle (task_is SendsSingle is) rests) (λ x. x) (λ x. x)

    pub leaves_goes : n.task ≡ Leaves → Goes stand here did moved asks_none n s s' (record m { alloc = alloc }) Moved
    leaves_goes is =
        sends_to Leaves Leaves is refl
        (leaves_sent m (stand s) (here s) g alloc (stand s') (here s') agrees tells kept idle (task_is Leaves is)) (λ x. x) inl
        (record m { alloc = alloc }) (unchanged Leaves is)

    pub ends_goes : n.task ≡ Ends → Goes stand here did moved asks_none n s s' (record m { alloc = alloc }) Moved
    ends_goes is =
        sends_to Ends Ends is refl
        (ends_sent m (stand s) (here s) g alloc (stand s') (here s') agrees tells kept idle (task_is Ends is)) (λ x. x) inl
        (record m { alloc = alloc }) (unchanged Ends is)

  pub no_hands : (s1 : T) (stage : Stage) (alloc : Keeps) → WentHomeAt stand here did moved stage m.alloc s s1 alloc homes.Done → IsNoHand m.alloc.hands
  no_hands s1 stages.Resting alloc h = h.none
  no_hands s1 _ alloc h = absurd h

  -- behind a turn that found no page in hand, at s1, the state is stored
  module _ (s1 : T) (alloc : Keeps) (went : WentHome stand here did moved m.alloc s s1 alloc homes.Done)
      (still : (s1 ≡ s) × (alloc ≡ m.alloc) × (alloc.stage ≡ stages.Resting)) where
    abbrev goes_state : ℕ → Step
    goes_state n = does K2 (StateOf m.by) (Stores n)

    rests_still : m.alloc.stage ≡ stages.Resting
    rests_still = sym (ap (λ (k : Keeps). k.stage) still.1) ∙ still.2

    stored : (t task : Task) (k : ℕ) (told : Turn) → n.task ≡ t →
        (StoresState stand here did moved k task told m s s' (record m { task = task }) told →
        TurnedAt stand here did moved t asks_none m s s' (record m { task = task }) told) →
        ((f : Found) → Made (stand s) (here s) (goes_state k) f (stand s') (here s') → Agrees (record m { task = task }) (stand s') (here s')) →
        ((told ≡ Done) ↔ HasEnded task) →
        (f : Found) × Made (stand s1) (here s1) (goes_state k) f (stand s') (here s') × did s1 (goes_state k) f s' →
        (q : Mutating) → q ≡ record m { task = task; alloc = alloc } →
        Goes stand here did moved asks_none n s s' q told
    stored t task k told is turned agrees done h q e =
        let f = h.0 in
        let made : Made (stand s) (here s) (goes_state k) f (stand s') (here s') =
        subst (λ s. Made (stand s) (here s) (goes_state k) f (stand s') (here s')) still.0 h.1 in
        goes_so (record m { task = task }) told t is
        (turned (record {
          none = no_hands s1 m.alloc.stage alloc went;
          rests = rests_still;
          found = f;
          made = made;
          kept = subst (λ s. did s (goes_state k) f s') still.0 h.2;
          alloc = refl;
          marker = refl;
          behind = refl;
          answer = refl;
        }))
        refl refl refl (agrees f made) done q (e ∙ ap (λ a. record m { task = task; alloc = a }) still.1)

    pub leaves_done : n.task ≡ Leaves → (f : Found) × Made (stand s1) (here s1) (goes_state 0) f (stand s') (here s') × did s1 (goes_state 0) f s' →
        (q : Mutating) → q ≡ record m { task = Out; alloc = alloc } →
        Goes stand here did moved asks_none n s s' q Moved
    leaves_done is =
        stored Leaves Out 0 Moved is inr
        (λ f made. went_out m (stand s) (here s) g (task_is Leaves is) rests_still f (stand s') (here s') made) (moves_on Out (λ x. x))

    pub ends_done : n.task ≡ Ends → (f : Found) × Made (stand s1) (here s1) (goes_state 2) f (stand s') (here s') × did s1 (goes_state 2) f s' →
        (q : Mutating) → q ≡ record m { task = Ended; alloc = alloc } →
        Goes stand here did moved asks_none n s s' q Done
    ends_done is =
        stored Ends Ended 2 Done is inr
        (λ f made. went_end m (stand s) (here s) g (task_is Ends is) f (stand s') (here s') made) (λ _. tt, λ _. refl)
