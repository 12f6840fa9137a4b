-- A state leaves a thread one step.
use Rattle.std.proofs.Common.{◌≡◌, ◌≢◌, ℕ, ◌∙◌, true, cond, Option, Some, List, [], ◌∷◌}
use Rattle.std.proofs.Common.{sym, ap, subst}
use Rattle.kn_base.specs.Functions.{upd}
use Rattle.kn_graph.specs.declared.calls.Call.{Call}
use Rattle.kn_graph.specs.declared.calls.Call.TheVariants as call
use Rattle.kn_graph.specs.declared.calls.Call.TheVariants.{Set}
use Rattle.kn_graph.specs.declared.calls.Reply.{Reply}
use Rattle.kn_graph.specs.declared.calls.Reply.TheVariants as replies
use Rattle.kn_graph.specs.Ground.{Ground}
use Rattle.kn_graph.specs.Graph.{Graph, newborn, pointers, with_birth, with_points}
use Rattle.kn_graph.specs.Answers.{Answer, IsTheAnswer, answer}
use Rattle.kn_cms_rule.specs.declared.stages.Doing.TheVariants.{Free, Loaded, Shaded}
use Rattle.kn_cms_rule.specs.Calls.{Birth, birth_of, is_whole}
use Rattle.kn_cms_rule.specs.Words.{HasNoRoom}
use Rattle.kn_cms_rule.specs.State.{State, birth_colour, is_marking, shade}
use Rattle.kn_cms_rule.specs.Steps.{Aims, Answers, Bears, Fills, Loads, Refuses, Shades, Stores, answered, next_address}
use Rattle.kn_cms_rule.specs.Steps.{ThreadStep, bears, fills, answers, refuses, loads, shades, stores}
use Rattle.kn_cms_rule.specs.Rule.{IsInMiddle}
use Rattle.kn_cms_rule.proofs.Made.{stored_allowed}

-- a birth is no whole call, and neither is a `set`
no_whole_birth : (z : Ground) (c : Call) (b : Birth) → birth_of z c ≡ Some b → is_whole c ≡ true → ⊥
no_whole_birth z (call.New r layout) b e w = absurd (cc)
no_whole_birth z (call.NewArray r layout n) b e w = absurd (cc)
no_whole_birth z _ b e w = absurd (cc)

no_set_birth : (z : Ground) (s f v : ℕ) (b : Birth) → birth_of z (Set s f v) ≡ Some b → ⊥
no_set_birth z s f v b e = absurd (cc)

no_whole_set : (s f v : ℕ) → is_whole (Set s f v) ≡ true → ⊥
no_whole_set s f v w = absurd (cc)

module _ (z : Ground) (s : State) (i : ℕ) where
  same_call : (c d : Call) (rest rest' : List Call) → s.left i ≡ c ∷ rest → s.left i ≡ d ∷ rest' → (c ≡ d) × (rest ≡ rest')
  same_call c d rest rest' e f = let g : c ∷ rest ≡ d ∷ rest' = sym e ∙ f in (cc, cc)

  free_loaded : (n f : ℕ) (v : Option ℕ) → s.doing i ≡ Free → s.doing i ≡ Loaded n f v → ⊥
  free_loaded n f v a b = let e : Free ≡ Loaded n f v = sym a ∙ b in absurd (cc)

  free_shaded : (n f : ℕ) → s.doing i ≡ Free → s.doing i ≡ Shaded n f → ⊥
  free_shaded n f a b = let e : Free ≡ Shaded n f = sym a ∙ b in absurd (cc)

  loaded_shaded : (n f m e : ℕ) (v : Option ℕ) → s.doing i ≡ Loaded n f v → s.doing i ≡ Shaded m e → ⊥
  loaded_shaded n f m e v a b = let e : Loaded n f v ≡ Shaded m e = sym a ∙ b in absurd (cc)

  -- calls of two kinds
  birth_or_whole : (c d : Call) (rest rest' : List Call) (b : Birth) → s.left i ≡ c ∷ rest → s.left i ≡ d ∷ rest' → birth_of z c ≡ Some b →
      is_whole d ≡ true → ⊥
  birth_or_whole c d rest rest' b e f asks whole =
      no_whole_birth z d b (subst (λ (x : Call). birth_of z x ≡ Some b) (same_call c d rest rest' e f).0 asks) whole

  birth_or_set : (c : Call) (rest rest' : List Call) (b : Birth) (r f v : ℕ) → s.left i ≡ c ∷ rest → s.left i ≡ Set r f v ∷ rest' →
      birth_of z c ≡ Some b → ⊥
  birth_or_set c rest rest' b r f v e g asks =
      no_set_birth z r f v b (subst (λ (x : Call). birth_of z x ≡ Some b) (same_call c (Set r f v) rest rest' e g).0 asks)

  whole_or_set : (c : Call) (rest rest' : List Call) (r f v : ℕ) → s.left i ≡ c ∷ rest → s.left i ≡ Set r f v ∷ rest' →
      is_whole c ≡ true → ⊥
  whole_or_set c rest rest' r f v e g whole =
      no_whole_set r f v (subst (λ (x : Call). is_whole x ≡ true) (same_call c (Set r f v) rest rest' e g).0 whole)

  same_birth : (c d : Call) (rest rest' : List Call) (a b : Birth) → s.left i ≡ c ∷ rest → s.left i ≡ d ∷ rest' → birth_of z c ≡ Some a →
      birth_of z d ≡ Some b → a ≡ b
  same_birth c d rest rest' a b e f asks asks' =
      let g : Some a ≡ Some b = sym asks ∙ (ap (birth_of z) (same_call c d rest rest' e f).0 ∙ asks') in cc

  same_answer : (c d : Call) (rest rest' : List Call) (a b : Answer) → s.left i ≡ c ∷ rest → s.left i ≡ d ∷ rest' →
      answer z i s.graph c ≡ Some a → answer z i s.graph d ≡ Some b → a ≡ b
  same_answer c d rest rest' a b e f is is' =
      let g : Some a ≡ Some b = sym is ∙ (ap (answer z i s.graph) (same_call c d rest rest' e f).0 ∙ is') in cc

  -- two calls that are answered with one reply at one address, and leave one graph, leave one state
  same_answered : (c d : Call) (rest rest' : List Call) → s.left i ≡ c ∷ rest → s.left i ≡ d ∷ rest' →
      (reply : Reply) (address : ℕ) (g : Graph) → answered s i rest c reply address g ≡ answered s i rest' d reply address g
  same_answered c d rest rest' e f reply address g =
      ap (λ (x : Call). answered s i rest x reply address g) (same_call c d rest rest' e f).0
      ∙ ap (λ (l : List Call). answered s i l d reply address g) (same_call c d rest rest' e f).1

  -- a `set` that has a field to store is answered `ok`
  aimed_ok : (c : Call) (rest : List Call) (given : Answer) (n f : ℕ) → s.left i ≡ c ∷ rest → answer z i s.graph c ≡ Some given →
      Aims z s.graph i (s.left i) n f → given.reply ≢ replies.Ok → ⊥
  aimed_ok c rest given n f is_left is m not =
      let e = ap (answer z i s.graph) (same_call (Set m.local f m.value) c m.rest rest m.is_left is_left).0 ∙ is in
      let ok = subst (λ (o : Option Answer). IsTheAnswer o replies.Ok 0 (with_points s.graph n f (s.graph.local i m.value))) e
      (stored_allowed z i s.graph m.local f m.value n m.holds m.kind) in
      not (sym ok.reply_is)

  module _ (a b : State) where
    two_births : Bears z s i a → Bears z s i b → a ≡ b
    two_births k l =
        let bears_so : State → State = λ (x : State). record x { colour = upd s.colour s.graph.born (birth_colour s.stage) } in
        let at = next_address s.graph in
        k.after
        ∙ (ap (λ (x : Birth). bears_so (answered s i k.rest k.call replies.Ok at (with_birth s.graph i x.local (newborn at x.layout x.fields))))
        (same_birth k.call l.call k.rest l.rest k.birth l.birth k.next.is_left l.next.is_left k.asks l.asks)
        ∙ (ap bears_so (same_answered k.call l.call k.rest l.rest k.next.is_left l.next.is_left replies.Ok at
        (with_birth s.graph i l.birth.local (newborn at l.birth.layout l.birth.fields)))
        ∙ sym l.after))

    birth_or_full : Bears z s i a → Fills z s i b → ⊥
    birth_or_full k l = k.room (subst (λ (x : Birth). HasNoRoom z s.graph x.fields)
        (same_birth l.call k.call l.rest k.rest l.birth k.birth l.next.is_left k.next.is_left l.asks k.asks) l.room)

    full_or_birth : Fills z s i a → Bears z s i b → ⊥
    full_or_birth k l = l.room (subst (λ (x : Birth). HasNoRoom z s.graph x.fields)
        (same_birth k.call l.call k.rest l.rest k.birth l.birth k.next.is_left l.next.is_left k.asks l.asks) k.room)

    two_full : Fills z s i a → Fills z s i b → a ≡ b
    two_full k l =
        k.after ∙ (same_answered k.call l.call k.rest l.rest k.next.is_left l.next.is_left replies.Full 0 s.graph ∙ sym l.after)

    two_answers : Answers z s i a → Answers z s i b → a ≡ b
    two_answers k l =
        k.after
        ∙ (same_answered k.call l.call k.rest l.rest k.next.is_left l.next.is_left k.given.reply 0 k.given.after
        ∙ (ap (λ (x : Answer). answered s i l.rest l.call x.reply 0 x.after)
        (same_answer k.call l.call k.rest l.rest k.given l.given k.next.is_left l.next.is_left k.is_answer l.is_answer)
        ∙ sym l.after))

    two_refusals : Refuses z s i a → Refuses z s i b → a ≡ b
    two_refusals k l =
        let c = Set k.local k.field k.value in let d = Set l.local l.field l.value in
        k.after
        ∙ (same_answered c d k.rest l.rest k.next.is_left l.next.is_left k.given.reply 0 s.graph
        ∙ (ap (λ (x : Answer). answered s i l.rest d x.reply 0 s.graph)
        (same_answer c d k.rest l.rest k.given l.given k.next.is_left l.next.is_left k.is_answer l.is_answer)
        ∙ sym l.after))

    refused_or_loaded : Refuses z s i a → Loads z s i b → ⊥
    refused_or_loaded k l = aimed_ok (Set k.local k.field k.value) k.rest k.given l.object l.field k.next.is_left k.is_answer l.aims k.not_stored

    loaded_or_refused : Loads z s i a → Refuses z s i b → ⊥
    loaded_or_refused k l = aimed_ok (Set l.local l.field l.value) l.rest l.given k.object k.field l.next.is_left l.is_answer k.aims l.not_stored

    two_loads : Loads z s i a → Loads z s i b → a ≡ b
    two_loads k l =
        let m = k.aims in let n = l.aims in
        let calls = (same_call (Set m.local k.field m.value) (Set n.local l.field n.value) m.rest n.rest m.is_left n.is_left).0 in
        let locals : m.local ≡ n.local = cc in
        let fields : k.field ≡ l.field = cc in
        let held : Some k.object ≡ Some l.object = sym m.holds ∙ (ap (s.graph.local i) locals ∙ n.holds) in
        let objects : k.object ≡ l.object = cc in
        let loads_so : ℕ → ℕ → State = λ (o f : ℕ). record s { doing = upd s.doing i (Loaded o f (pointers s.graph o f)) } in
        k.after ∙ (ap (λ (o : ℕ). loads_so o k.field) objects ∙ (ap (λ (f : ℕ). loads_so l.object f) fields ∙ sym l.after))

    two_shades : Shades z s i a → Shades z s i b → a ≡ b
    two_shades k l =
        let e : Loaded k.object k.field k.loaded ≡ Loaded l.object l.field l.loaded = sym k.has_loaded ∙ l.has_loaded in
        let objects : k.object ≡ l.object = cc in
        let fields : k.field ≡ l.field = cc in
        let values : k.loaded ≡ l.loaded = cc in
        let shades_so : ℕ → ℕ → Option ℕ → State = λ (o f : ℕ) (v : Option ℕ). record s {
          doing = upd s.doing i (Shaded o f);
          colour = cond (is_marking s.stage) (shade s.colour v) s.colour;
        } in
        k.after
        ∙ (ap (λ (o : ℕ). shades_so o k.field k.loaded) objects
        ∙ (ap (λ (f : ℕ). shades_so l.object f k.loaded) fields ∙ (ap (λ (v : Option ℕ). shades_so l.object l.field v) values ∙ sym l.after)))

    two_stores : Stores z s i a → Stores z s i b → a ≡ b
    two_stores k l =
        let m = k.aims in let n = l.aims in
        let e : Shaded k.object k.field ≡ Shaded l.object l.field = sym k.has_shaded ∙ l.has_shaded in
        let objects : k.object ≡ l.object = cc in
        let fields : k.field ≡ l.field = cc in
        let c = Set m.local k.field m.value in let d = Set n.local l.field n.value in
        let calls = (same_call c d m.rest n.rest m.is_left n.is_left).0 in
        let values : m.value ≡ n.value = cc in
        let stores_so : ℕ → ℕ → ℕ → State = λ (o f v : ℕ). answered s i n.rest d replies.Ok 0 (with_points s.graph o f (s.graph.local i v)) in
        k.after
        ∙ (same_answered c d m.rest n.rest m.is_left n.is_left replies.Ok 0 (with_points s.graph k.object k.field (s.graph.local i m.value))
        ∙ (ap (λ (o : ℕ). stores_so o k.field m.value) objects
        ∙ (ap (λ (f : ℕ). stores_so l.object f m.value) fields ∙ (ap (λ (v : ℕ). stores_so l.object l.field v) values ∙ sym l.after))))

    -- two steps of a thread are one
    pub one_step : ThreadStep z s i a → ThreadStep z s i b → a ≡ b
    one_step (bears k) (bears l) = two_births k l
    one_step (bears k) (fills l) = absurd (birth_or_full k l)
    one_step (bears k) (answers l) = absurd (birth_or_whole k.call l.call k.rest l.rest k.birth k.next.is_left l.next.is_left k.asks l.whole)
    one_step (bears k) (refuses l) =
        absurd (birth_or_set k.call k.rest l.rest k.birth l.local l.field l.value k.next.is_left l.next.is_left k.asks)
    one_step (bears k) (loads l) =
        absurd (birth_or_set k.call k.rest l.aims.rest k.birth l.aims.local l.field l.aims.value k.next.is_left l.aims.is_left k.asks)
    one_step (bears k) (shades l) = absurd (free_loaded l.object l.field l.loaded k.next.is_free l.has_loaded)
    one_step (bears k) (stores l) = absurd (free_shaded l.object l.field k.next.is_free l.has_shaded)
    one_step (fills k) (bears l) = absurd (full_or_birth k l)
    one_step (fills k) (fills l) = two_full k l
    one_step (fills k) (answers l) = absurd (birth_or_whole k.call l.call k.rest l.rest k.birth k.next.is_left l.next.is_left k.asks l.whole)
    one_step (fills k) (refuses l) =
        absurd (birth_or_set k.call k.rest l.rest k.birth l.local l.field l.value k.next.is_left l.next.is_left k.asks)
    one_step (fills k) (loads l) =
        absurd (birth_or_set k.call k.rest l.aims.rest k.birth l.aims.local l.field l.aims.value k.next.is_left l.aims.is_left k.asks)
    one_step (fills k) (shades l) = absurd (free_loaded l.object l.field l.loaded k.next.is_free l.has_loaded)
    one_step (fills k) (stores l) = absurd (free_shaded l.object l.field k.next.is_free l.has_shaded)
    one_step (answers k) (bears l) = absurd (birth_or_whole l.call k.call l.rest k.rest l.birth l.next.is_left k.next.is_left l.asks k.whole)
    one_step (answers k) (fills l) = absurd (birth_or_whole l.call k.call l.rest k.rest l.birth l.next.is_left k.next.is_left l.asks k.whole)
    one_step (answers k) (answers l) = two_answers k l
    one_step (answers k) (refuses l) = absurd (whole_or_set k.call k.rest l.rest l.local l.field l.value k.next.is_left l.next.is_left k.whole)
    one_step (answers k) (loads l) =
        absurd (whole_or_set k.call k.rest l.aims.rest l.aims.local l.field l.aims.value k.next.is_left l.aims.is_left k.whole)
    one_step (answers k) (shades l) = absurd (free_loaded l.object l.field l.loaded k.next.is_free l.has_loaded)
    one_step (answers k) (stores l) = absurd (free_shaded l.object l.field k.next.is_free l.has_shaded)
    one_step (refuses k) (bears l) =
        absurd (birth_or_set l.call l.rest k.rest l.birth k.local k.field k.value l.next.is_left k.next.is_left l.asks)
    one_step (refuses k) (fills l) =
        absurd (birth_or_set l.call l.rest k.rest l.birth k.local k.field k.value l.next.is_left k.next.is_left l.asks)
    one_step (refuses k) (answers l) = absurd (whole_or_set l.call l.rest k.rest k.local k.field k.value l.next.is_left k.next.is_left l.whole)
    one_step (refuses k) (refuses l) = two_refusals k l
    one_step (refuses k) (loads l) = absurd (refused_or_loaded k l)
    one_step (refuses k) (shades l) = absurd (free_loaded l.object l.field l.loaded k.next.is_free l.has_loaded)
    one_step (refuses k) (stores l) = absurd (free_shaded l.object l.field k.next.is_free l.has_shaded)
    one_step (loads k) (bears l) =
        absurd (birth_or_set l.call l.rest k.aims.rest l.birth k.aims.local k.field k.aims.value l.next.is_left k.aims.is_left l.asks)
    one_step (loads k) (fills l) =
        absurd (birth_or_set l.call l.rest k.aims.rest l.birth k.aims.local k.field k.aims.value l.next.is_left k.aims.is_left l.asks)
    one_step (loads k) (answers l) =
        absurd (whole_or_set l.call l.rest k.aims.rest k.aims.local k.field k.aims.value l.next.is_left k.aims.is_left l.whole)
    one_step (loads k) (refuses l) = absurd (loaded_or_refused k l)
    one_step (loads k) (loads l) = two_loads k l
    one_step (loads k) (shades l) = absurd (free_loaded l.object l.field l.loaded k.is_free l.has_loaded)
    one_step (loads k) (stores l) = absurd (free_shaded l.object l.field k.is_free l.has_shaded)
    one_step (shades k) (bears l) = absurd (free_loaded k.object k.field k.loaded l.next.is_free k.has_loaded)
    one_step (shades k) (fills l) = absurd (free_loaded k.object k.field k.loaded l.next.is_free k.has_loaded)
    one_step (shades k) (answers l) = absurd (free_loaded k.object k.field k.loaded l.next.is_free k.has_loaded)
    one_step (shades k) (refuses l) = absurd (free_loaded k.object k.field k.loaded l.next.is_free k.has_loaded)
    one_step (shades k) (loads l) = absurd (free_loaded k.object k.field k.loaded l.is_free k.has_loaded)
    one_step (shades k) (shades l) = two_shades k l
    one_step (shades k) (stores l) = absurd (loaded_shaded k.object k.field l.object l.field k.loaded k.has_loaded l.has_shaded)
    one_step (stores k) (bears l) = absurd (free_shaded k.object k.field l.next.is_free k.has_shaded)
    one_step (stores k) (fills l) = absurd (free_shaded k.object k.field l.next.is_free k.has_shaded)
    one_step (stores k) (answers l) = absurd (free_shaded k.object k.field l.next.is_free k.has_shaded)
    one_step (stores k) (refuses l) = absurd (free_shaded k.object k.field l.next.is_free k.has_shaded)
    one_step (stores k) (loads l) = absurd (free_shaded k.object k.field l.is_free k.has_shaded)
    one_step (stores k) (shades l) = absurd (loaded_shaded l.object l.field k.object k.field l.loaded l.has_loaded k.has_shaded)
    one_step (stores k) (stores l) = two_stores k l

  -- a thread that makes a step has a call left
  pub has_left : (s' : State) → IsInMiddle z s.graph i (s.left i) (s.doing i) → ThreadStep z s i s' → s.left i ≡ [] → ⊥
  has_left s' middle (bears k) none = let e : [] ≡ k.call ∷ k.rest = sym none ∙ k.next.is_left in absurd (cc)
  has_left s' middle (fills k) none = let e : [] ≡ k.call ∷ k.rest = sym none ∙ k.next.is_left in absurd (cc)
  has_left s' middle (answers k) none = let e : [] ≡ k.call ∷ k.rest = sym none ∙ k.next.is_left in absurd (cc)
  has_left s' middle (refuses k) none = let e : [] ≡ Set k.local k.field k.value ∷ k.rest = sym none ∙ k.next.is_left in absurd (cc)
  has_left s' middle (loads k) none =
      let e : [] ≡ Set k.aims.local k.field k.aims.value ∷ k.aims.rest = sym none ∙ k.aims.is_left in absurd (cc)
  has_left s' middle (shades k) none =
      let m : Aims z s.graph i (s.left i) k.object k.field = subst (IsInMiddle z s.graph i (s.left i)) k.has_loaded middle in
      let e : [] ≡ Set m.local k.field m.value ∷ m.rest = sym none ∙ m.is_left in absurd (cc)
  has_left s' middle (stores k) none =
      let e : [] ≡ Set k.aims.local k.field k.aims.value ∷ k.aims.rest = sym none ∙ k.aims.is_left in absurd (cc)
