-- Two runs of one thread over one small frame, computed step by step: `new 0 0`, `read 0 1` and `same 0 0` over 64 words; and
-- `new 0 0` twice over 4 words, which have room for one such cell.
use Rattle.std.proofs.Common.{◌≡◌, ℕ, ◌+◌, zero, suc, inl, true, false, arith, [], ◌∷◌, Some, None, refl}
use Rattle.kn_base.specs.declared.places.Place.{Place}
use Rattle.kn_base.specs.declared.places.Place.TheVariants.{Phase, State as StateOf, Local, Frame, Side, Body}
use Rattle.kn_base.specs.Pages.{FrameView}
use Rattle.kn_layout.specs.declared.layouts.Layout.TheVariants.{Fields}
use Rattle.kn_layout.specs.declared.layouts.FieldKind.TheVariants.{Ref, Int}
use Rattle.kn_graph.specs.declared.calls.Call.TheVariants.{New, Same, Read}
use Rattle.kn_graph.specs.declared.calls.Reply.TheVariants as replies
use Rattle.kn_graph.specs.Ground.{Ground}
use Rattle.kn_rule.specs.declared.steps.Kind.{Kind}
use Rattle.kn_rule.specs.declared.steps.Kind.TheVariants.{K1, K2, K3, K4, K8, K9}
use Rattle.kn_rule.specs.declared.steps.Kind.TheVariants.{K10, K11, K12}
use Rattle.kn_rule.specs.declared.steps.Action.{Action}
use Rattle.kn_rule.specs.declared.steps.Action.TheVariants.{Loads, LoadsFor, Stores, Swaps}
use Rattle.kn_rule.specs.Decoding.{phase_of, frame_of, header_of}
use Rattle.kn_rule.specs.Views.{State, Open, owns}
use Rattle.kn_rule.specs.Steps.{does, found, entry_of}
use Rattle.kn_rule.specs.Allowed.{MayBirth, MayClaim, MayClear, MayGiveBack}
use Rattle.kn_rule.specs.Moves.{stepped}
use Rattle.kn_rule.specs.Rule.{start}

abbrev pub ground : ℕ → Ground
ground words = record {
  sizes = record {
    small = 1;
    small_words = words;
    large = 0;
    large_words = 64;
    extra = 0;
    extra_words = 2;
    globals = 0;
    stable = 0;
    weak = 0;
    back = 0;
    threads = 1;
    calls = 3 ∷ [];
    births = 2 ∷ [];
  };
  layouts = Fields (Ref ∷ Int ∷ []) ∷ [];
}

-- the page as it lies at the start
abbrev pub whole : ℕ → FrameView
whole words = record {
  frame = record { start = 1; len = words };
  class = 2;
  free = record { start = 1; len = words } ∷ [];
  cursor = 1;
}

-- the page with one cell of 3 words
abbrev used : ℕ → FrameView
used rest = record {
  frame = record { start = 1; len = 3 + rest };
  class = 3;
  free = record { start = 4; len = rest } ∷ [];
  cursor = 1;
}

-- both runs as far as the first call goes, over a frame of so many words
module _ (words : ℕ) where
  abbrev go : State → Kind → Place → Action → FrameView → State
  go s k p a page = stepped (ground words) s 0 (does k p a) (found (s.word p) page)

  abbrev act : State → Kind → Place → Action → State
  act s k p a = go s k p a (whole words)

  abbrev entered : State
  entered = act (act (start (ground words) (λ _. Some (whole words))) K1 Phase (LoadsFor None)) K2 (StateOf 0) (Stores 1)

  abbrev looked : State
  looked = act (act entered K1 Phase (LoadsFor (Some (New 0 0)))) K9 (Frame 0) Loads

  abbrev claimed : State
  claimed = act looked K10 (Frame 0) (Swaps 0 360291268724523008)

  abbrev cleared : State
  cleared =
      act (act (act claimed K12 (Body 1) (Stores 33554432)) K12 (Body 2) (Stores 0)) K12 (Body 3) (Stores 0)

  abbrev born : State
  born = act cleared K8 (Side 1) (Stores 3)

  abbrev written : State
  written = act born K3 (Local 0 0) (Stores 1)

abbrev read : State
read =
    act 64 (act 64 (act 64 (written 64) K1 Phase (LoadsFor (Some (Read 0 1)))) K4 (Body 1) Loads) K4 (Body 3) Loads

abbrev compared : State
compared = act 64 read K1 Phase (LoadsFor (Some (Same 0 0)))

abbrev ended : State
ended = act 64 (go 64 compared K11 (Frame 0) (Stores 144118486610739200) (used 61)) K2 (StateOf 0) (Stores 2)

claim_word : (claimed 64).word (Frame 0) ≡ 360291268724523008
unfolding phase_of frame_of header_of
claim_word = refl

page_taken : (claimed 64).page 0 ≡ None
unfolding phase_of frame_of header_of
page_taken = refl

-- a claim finds a wholly free page with the cursor of another class, and the first word of a cell sets it to the frame's start
abbrev first_cleared : State
first_cleared =
    act 64 (go 64 (looked 64) K10 (Frame 0) (Swaps 0 360291268724523008) (record (whole 64) { class = 33; cursor = 41 })) K12 (Body 1)
    (Stores 33554432)

cursor_set : owns (first_cleared.caller 0) 0
    ≡ Some (record { word = 360291268724523008; free = record { start = 4; len = 61 } ∷ []; cursor = 1 })
unfolding phase_of frame_of header_of
cursor_set = refl

marked : (born 64).word (Side 1) ≡ 3
unfolding phase_of frame_of header_of
marked = refl

history : ended.history ≡ entry_of 0 0 (New 0 0) replies.Ok 1 ∷ entry_of 0 0 (Read 0 1) (replies.Int 0) 0 ∷ entry_of 0 0 (Same 0 0) replies.Yes 0 ∷ []
unfolding phase_of frame_of header_of
history = refl

at_home : ended.word (Frame 0) ≡ 144118486610739200
unfolding phase_of frame_of header_of
at_home = refl

page_home : ended.page 0 ≡ Some (used 61)
unfolding phase_of frame_of header_of
page_home = refl

state : ended.word (StateOf 0) ≡ 2
unfolding phase_of frame_of header_of
state = refl

-- the frame without room is given back in the second call and is refused; the look at it that follows ends the search
abbrev refused : State
refused = go 4 (act 4 (written 4) K1 Phase (LoadsFor (Some (New 0 0)))) K11 (Frame 0) (Stores 216176080648667136) (used 1)

abbrev full : State
full = act 4 refused K9 (Frame 0) Loads

sent_home : refused.history ≡ entry_of 0 0 (New 0 0) replies.Ok 1 ∷ []
unfolding phase_of frame_of header_of
sent_home = refl

looked_again : full.history ≡ entry_of 0 0 (New 0 0) replies.Ok 1 ∷ entry_of 0 0 (New 0 0) replies.Full 0 ∷ []
unfolding phase_of frame_of header_of
looked_again = refl

-- each of the steps on cells and frames is allowed in the view that it meets
may_claim : MayClaim (ground 64) 0 ((looked 64).caller 0) (λ _. false) (Frame 0) (Swaps 0 360291268724523008)
unfolding phase_of frame_of header_of
may_claim = record {
  call = New 0 0;
  class = 3;
  frame = 0;
  old = 0;
  search = record {
    is_call = refl;
    words = 3;
    is_request = refl;
    is_class = refl;
    none_taken = refl;
    none_swept = refl;
    none_owned = λ j o e. absurd (none_yet j o e);
    in_area = record { small = λ _. omega arith; large = λ h. absurd (omega arith); extra = λ h. absurd (omega arith) };
    near = omega arith;
    thread = omega arith;
  };
  place = refl;
  word = refl;
  seen = refl;
  fit = refl;
  not_refused = refl;
}
  where
    none_yet : (j : ℕ) (o : Open) → owns ((looked 64).caller 0) j ≡ Some o → ⊥
    none_yet zero o e = cc
    none_yet (suc j) o e = cc

may_clear : MayClear (ground 64) 0 ((claimed 64).caller 0) (λ _. false) (Body 1) (Stores 33554432)
unfolding phase_of frame_of header_of
may_clear = record {
  call = New 0 0;
  address = 1;
  value = 33554432;
  is_call = refl;
  place = refl;
  word = refl;
  may = record {
    frame = 0;
    hold = record { word = 360291268724523008; free = record { start = 1; len = 64 } ∷ []; cursor = 1 };
    words = 3;
    owned = refl;
    near = omega arith;
    out = refl;
    none_swept = refl;
    is_request = refl;
    class = refl;
    free = λ a h. inl (let p = h.0 in let q = h.1 in (omega arith, omega arith));
    inside = (omega arith, omega arith);
    placed = record { fixed = λ _. (refl, (0, refl)); next_fit = λ h. absurd (omega arith); single = λ h. absurd (omega arith) };
    value = refl;
  };
  thread = omega arith;
}

may_birth : MayBirth (ground 64) 0 ((cleared 64).caller 0) (λ _. false) (Side 1) (Stores 3)
unfolding phase_of frame_of header_of
may_birth = record {
  cell = record { frame = 0; span = record { start = 1; len = 3 }; cleared = 3 };
  call = New 0 0;
  birth = (0, 0, 2);
  is_cell = refl;
  is_call = refl;
  is_birth = refl;
  place = refl;
  word = refl;
  whole = refl;
  thread = omega arith;
}

may_give_back : MayGiveBack (ground 64) 0 (compared.caller 0) (λ _. true) (Frame 0) (Stores 144118486610739200)
unfolding phase_of frame_of header_of
may_give_back = record {
  frame = 0;
  hold = record { word = 360291268724523008; free = record { start = 4; len = 61 } ∷ []; cursor = 1 };
  owned = refl;
  lies = refl;
  near = omega arith;
  none_taken = refl;
  none_swept = refl;
  place = refl;
  word = refl;
  thread = omega arith;
}
