-- The steps of threads and of the collector: which one may be made, and what it makes of the state.
use Rattle.std.specs.Prelude.{◌≡◌, ◌≢◌, ℕ, ◌+◌, ◌<◌, ◌≤◌, ◌⊎◌, Bool, true, cond, Option, Some, List, [], ◌∷◌, ◌++◌}
use Rattle.kn_base.specs.Functions.{upd}
use Rattle.kn_graph.specs.declared.calls.Call.{Call}
use Rattle.kn_graph.specs.declared.calls.Call.TheVariants.{Set}
use Rattle.kn_graph.specs.declared.calls.Reply.{Reply}
use Rattle.kn_graph.specs.declared.calls.Reply.TheVariants as replies
use Rattle.kn_graph.specs.declared.entries.Entry.{Entry}
use Rattle.kn_graph.specs.declared.entries.Event.TheVariants as events
use Rattle.kn_graph.specs.Ground.{Ground}
use Rattle.kn_graph.specs.Graph.{Graph, pointers, newborn, with_birth, with_points, with_entered}
use Rattle.kn_graph.specs.Answers.{Answer, answer}
use Rattle.kn_graph.specs.Collections.{Condemns, with_condemned}
use Rattle.kn_replay.specs.Seen.{call_entry}
use Rattle.kn_cms_rule.specs.declared.stages.Colour.{Colour}
use Rattle.kn_cms_rule.specs.declared.stages.Colour.TheVariants.{Gray, Black}
use Rattle.kn_cms_rule.specs.declared.stages.Doing.TheVariants.{Free, Loaded, Shaded}
use Rattle.kn_cms_rule.specs.declared.stages.Stage.TheVariants.{Waiting, Marking, Looking, Finished}
use Rattle.kn_cms_rule.specs.Words.{HasNoRoom, words_taken}
use Rattle.kn_cms_rule.specs.Calls.{Birth, birth_of, is_whole}
use Rattle.kn_cms_rule.specs.State.{State, is_marking, shade, birth_colour, IsRefField}

-- the state after a thread has answered a call, behind which these calls are left
abbrev pub answered : State → ℕ → List Call → Call → Reply → ℕ → Graph → State
answered s thread rest call reply address g = record s {
  graph = with_entered g thread s.graph.paused;
  doing = upd s.doing thread Free;
  left = upd s.left thread rest;
  history = s.history ++ call_entry thread s.graph.paused call reply address ∷ [];
}

-- the entry of the pause
abbrev pub pause_entry : Ground → Entry
pause_entry z = record { by = record { 0 = z.sizes.threads }; epoch = 1; what = events.Pause 1 }

-- the graph after the pause
abbrev pub paused_graph : Ground → Graph → (ℕ → Bool) → Graph
paused_graph z g flag = with_entered (record (with_condemned g flag) { paused = 1 }) z.sizes.threads 1

-- a local or a global holds object n
abbrev pub IsHeld : Graph → ℕ → Type 0
IsHeld g n = ((i : ℕ) × (r : ℕ) × (g.local i r ≡ Some n)) ⊎ ((i : ℕ) × (g.global i ≡ Some n))

-- each object that a local or a global holds becomes gray, and no other one
pub record Grays (g : Graph) (colour colour' : ℕ → Colour) : Type 0 where
  pub held : (n : ℕ) → IsHeld g n → colour' n ≡ Gray
  pub others : (n : ℕ) → IsHeld g n ⊎ (colour' n ≡ colour n)

-- the field is the first reference field of the object from a place on
pub record IsNextRef (z : Ground) (g : Graph) (n from f : ℕ) : Type 0 where
  pub behind : from ≤ f
  pub kind : IsRefField z g n f
  pub first : (k : ℕ) → from ≤ k → k < f → ¬ IsRefField z g n k

-- the address of the next object
abbrev pub next_address : Graph → ℕ
next_address g = 1 + words_taken g

-- a thread is between two calls, and this is the next one
pub record IsNext (s : State) (thread : ℕ) (call : Call) (rest : List Call) : Type 0 where
  pub is_left : s.left thread ≡ call ∷ rest
  pub is_free : s.doing thread ≡ Free

-- a thread's next call is a `set` of a reference field of an object
pub record Aims (z : Ground) (g : Graph) (thread : ℕ) (left : List Call) (n f : ℕ) : Type 0 where
  pub local : ℕ
  pub value : ℕ
  pub rest : List Call
  pub is_left : left ≡ Set local f value ∷ rest
  pub holds : g.local thread local ≡ Some n
  pub kind : IsRefField z g n f

module _ (z : Ground) (s : State) where
  module _ (thread : ℕ) (s' : State) where
    -- a birth: an object without a colour before the snapshot, a black one after it
    pub record Bears : Type 0 where
      pub call : Call
      pub rest : List Call
      pub next : IsNext s thread call rest
      pub birth : Birth
      pub asks : birth_of z call ≡ Some birth
      pub room : ¬ HasNoRoom z s.graph birth.fields
      pub after : s' ≡ record (answered s thread rest call replies.Ok (next_address s.graph)
          (with_birth s.graph thread birth.local (newborn (next_address s.graph) birth.layout birth.fields)))
          { colour = upd s.colour s.graph.born (birth_colour s.stage) }

    -- a birth for which there is no room
    pub record Fills : Type 0 where
      pub call : Call
      pub rest : List Call
      pub next : IsNext s thread call rest
      pub birth : Birth
      pub asks : birth_of z call ≡ Some birth
      pub room : HasNoRoom z s.graph birth.fields
      pub after : s' ≡ answered s thread rest call replies.Full 0 s.graph

    -- one whole call that makes no object and stores no field
    pub record Answers : Type 0 where
      pub call : Call
      pub rest : List Call
      pub next : IsNext s thread call rest
      pub whole : is_whole call ≡ true
      pub given : Answer
      pub is_answer : answer z thread s.graph call ≡ Some given
      pub after : s' ≡ answered s thread rest call given.reply 0 given.after

    -- the first step of a `set` that has no reference field to store
    pub record Refuses : Type 0 where
      pub local : ℕ
      pub field : ℕ
      pub value : ℕ
      pub rest : List Call
      pub next : IsNext s thread (Set local field value) rest
      pub given : Answer
      pub is_answer : answer z thread s.graph (Set local field value) ≡ Some given
      pub not_stored : given.reply ≢ replies.Ok
      pub after : s' ≡ answered s thread rest (Set local field value) given.reply 0 s.graph

    -- the first step of a `set` that has one: it loads the field's value
    pub record Loads : Type 0 where
      pub object : ℕ
      pub field : ℕ
      pub is_free : s.doing thread ≡ Free
      pub aims : Aims z s.graph thread (s.left thread) object field
      pub after : s' ≡ record s { doing = upd s.doing thread (Loaded object field (pointers s.graph object field)) }

    -- the second step of a `set`: in marking, the value loaded becomes gray if it has no colour
    pub record Shades : Type 0 where
      pub object : ℕ
      pub field : ℕ
      pub loaded : Option ℕ
      pub has_loaded : s.doing thread ≡ Loaded object field loaded
      pub after : s' ≡ record s {
        doing = upd s.doing thread (Shaded object field);
        colour = cond (is_marking s.stage) (shade s.colour loaded) s.colour;
      }

    -- the third step of a `set`: it stores the field
    pub record Stores : Type 0 where
      pub object : ℕ
      pub field : ℕ
      pub has_shaded : s.doing thread ≡ Shaded object field
      pub aims : Aims z s.graph thread (s.left thread) object field
      pub after : s' ≡ answered s thread aims.rest (Set aims.local field aims.value) replies.Ok 0
          (with_points s.graph object field (s.graph.local thread aims.value))

  -- the snapshot, with no thread in the middle of a call: what locals and globals hold becomes gray
  pub record Snapshots (s' : State) : Type 0 where
    pub waits : s.stage ≡ Waiting
    pub between : (i : ℕ) → i < z.sizes.threads → s.doing i ≡ Free
    pub flag : ℕ → Bool
    pub condemns : Condemns s.graph flag
    pub colour : ℕ → Colour
    pub grays : Grays s.graph s.colour colour
    pub after : s' ≡ record s {
      graph = paused_graph z s.graph flag;
      colour = colour;
      snapshot = Some s.graph;
      stage = Marking;
      history = s.history ++ pause_entry z ∷ [];
    }

  -- the collector begins the gray object of least number
  pub record Begins (s' : State) : Type 0 where
    pub marks : s.stage ≡ Marking
    pub object : ℕ
    pub is_gray : s.colour object ≡ Gray
    pub least : (m : ℕ) → m < object → s.colour m ≢ Gray
    pub after : s' ≡ record s { stage = Looking object 0 }

  -- it looks at the next reference field of the one begun, and grays its value if it has no colour
  pub record Looks (s' : State) : Type 0 where
    pub object : ℕ
    pub from : ℕ
    pub begun : s.stage ≡ Looking object from
    pub field : ℕ
    pub next : IsNextRef z s.graph object from field
    pub after : s' ≡ record s {
      stage = Looking object (field + 1);
      colour = shade s.colour (pointers s.graph object field);
      looked = upd s.looked object (upd (s.looked object) field true);
    }

  -- after the last one it makes the object black
  pub record Blackens (s' : State) : Type 0 where
    pub object : ℕ
    pub from : ℕ
    pub begun : s.stage ≡ Looking object from
    pub none : (f : ℕ) → from ≤ f → ¬ IsRefField z s.graph object f
    pub after : s' ≡ record s { stage = Marking; colour = upd s.colour object Black }

  -- no object is gray or begun: each object without a colour is condemned
  pub record Ends (s' : State) : Type 0 where
    pub marks : s.stage ≡ Marking
    pub none : (n : ℕ) → n < s.graph.born → s.colour n ≢ Gray
    pub after : s' ≡ record s { stage = Finished }

-- one step of a thread
pub data ThreadStep (z : Ground) (s : State) (thread : ℕ) (s' : State) : Type 0 where
  bears : Bears z s thread s' → ThreadStep z s thread s'
  fills : Fills z s thread s' → ThreadStep z s thread s'
  answers : Answers z s thread s' → ThreadStep z s thread s'
  refuses : Refuses z s thread s' → ThreadStep z s thread s'
  loads : Loads z s thread s' → ThreadStep z s thread s'
  shades : Shades z s thread s' → ThreadStep z s thread s'
  stores : Stores z s thread s' → ThreadStep z s thread s'

-- one step of the collector
pub data CollectorStep (z : Ground) (s s' : State) : Type 0 where
  snapshots : Snapshots z s s' → CollectorStep z s s'
  begins : Begins z s s' → CollectorStep z s s'
  looks : Looks z s s' → CollectorStep z s s'
  blackens : Blackens z s s' → CollectorStep z s s'
  ends : Ends z s s' → CollectorStep z s s'
