-- What a step of each kind makes of its caller's view, and which entry it makes.
use Rattle.std.specs.Prelude.{ℕ, ◌+◌, ◌==◌, Bool, true, false, cond, [], ◌∷◌, Option, Some, None, List, nat_le, replicate, slice_set}
use Rattle.kn_base.specs.declared.numbers.Span.{Span}
use Rattle.kn_base.specs.declared.heap.Sizes.{Sizes}
use Rattle.kn_base.specs.declared.places.Place.{Place}
use Rattle.kn_base.specs.declared.kinds.Code.{Code}
use Rattle.kn_base.specs.declared.kinds.Code.TheVariants as codes
use Rattle.kn_base.specs.declared.kinds.FrameKind.{FrameKind}
use Rattle.kn_base.specs.declared.kinds.FrameKind.TheVariants as frames
use Rattle.kn_base.specs.declared.classes.TheConstants.{NEXT_FIT_CLASS}
use Rattle.kn_base.specs.Sizes.{frame_count}
use Rattle.kn_base.specs.Spans.{end_of}
use Rattle.kn_base.specs.SpanLists.{without}
use Rattle.kn_layout.specs.declared.layouts.FieldKind.{FieldKind}
use Rattle.kn_layout.specs.declared.layouts.FieldKind.TheVariants.{Ref as of_ref, Int as of_int}
use Rattle.kn_graph.specs.declared.calls.Call.{Call}
use Rattle.kn_graph.specs.declared.calls.Call.TheVariants.{New, NewArray, Same, Get, Set, Put, Read, GlobalGet, Collect}
use Rattle.kn_graph.specs.declared.calls.Reply.{Reply}
use Rattle.kn_graph.specs.declared.calls.Reply.TheVariants as replies
use Rattle.kn_graph.specs.declared.entries.Entry.{Entry}
use Rattle.kn_graph.specs.Ground.{Ground}
use Rattle.kn_graph.specs.Answers.{yes_or_no}
use Rattle.kn_graph.specs.Counts.{makes_object}
use Rattle.kn_rule.specs.declared.steps.Kind.{Kind}
use Rattle.kn_rule.specs.declared.steps.Kind.TheVariants.{K1, K2, K3, K4, K5, K6}
use Rattle.kn_rule.specs.declared.steps.Kind.TheVariants.{K7, K8, K9, K10, K11, K12, K13, K14, K15, K16}
use Rattle.kn_rule.specs.declared.steps.Kind.TheVariants.{K17, K18, K19, K20, K21, K22, K23, K24}
use Rattle.kn_rule.specs.declared.steps.Action.{Action}
use Rattle.kn_rule.specs.declared.steps.Action.TheVariants.{Stores}
use Rattle.kn_rule.specs.declared.positions.Position.{Position}
use Rattle.kn_rule.specs.declared.positions.Position.TheVariants.{Out, Entering, Between, Calling, Writing, Adding, Waiting, Leaving, Ended}
use Rattle.kn_rule.specs.declared.parts.Taken.{Taken}
use Rattle.kn_rule.specs.Decoding.{phase_of, frame_of}
use Rattle.kn_rule.specs.FrameSpans.{frame_span, frame_at}
use Rattle.kn_rule.specs.Phases.{is_run, is_stop, pauses, last_done}
use Rattle.kn_rule.specs.Views.{View, Open, Sweep, Collecting, owns, local_of}
use Rattle.kn_rule.specs.Requests.{birth_of, words_asked, class_asked, asks_too_much, field_of, told_kind}
use Rattle.kn_rule.specs.Searches.{is_over, refuses_at}
use Rattle.kn_rule.specs.Steps.{Found, Outcome, word_stored, word_wanted, next_of, frame_in, address_in, local_in, state_in, epoch_in, quietly, saying}
use Rattle.kn_rule.specs.Steps.{pause_of}
use Rattle.kn_rule.specs.MarkSteps.{joined_by, work_after}

-- the reply where a reference was read
abbrev pub ref_word : ℕ → Reply
ref_word w = cond (w == 0) replies.Null replies.Ref

-- where a caller stands behind a store of its state
abbrev pub position_of : ℕ → Position
position_of n = cond (n == 0) Out (cond (n == 1) Entering Ended)

-- the sweep that a claim begins: of a frame that was unswept, from its start on
abbrev pub sweep_begun : Sizes → ℕ → FrameKind → Option Sweep
sweep_begun z p frames.Unswept =
    Some (record { frame = p; at = (frame_span z p).start; mark = None; header = None; extra = None; released = false; found = [] })
sweep_begun z p _ = None

-- what the view alone answers: whether two locals hold one object, that a local is null, that a request is too long
-- or its area has no frame
module _ (z : Ground) (v : View) where
  abbrev if_null : ℕ → Option Reply
  if_null w = cond (w == 0) (Some replies.Nil) None

  abbrev if_too_long : Call → Option Reply
  if_too_long call = cond (asks_too_much z.sizes (class_asked z call) (words_asked z call)) (Some replies.Full) None

  abbrev pub view_answer : Call → Option Reply
  view_answer (New r layout) = if_too_long (New r layout)
  view_answer (NewArray r layout n) = if_too_long (NewArray r layout n)
  view_answer (Same r s) = Some (yes_or_no (local_of v r == local_of v s))
  view_answer (Get r s f) = if_null (local_of v s)
  view_answer (Set s f r) = if_null (local_of v s)
  view_answer (Put s f n) = if_null (local_of v s)
  view_answer (Read s f) = if_null (local_of v s)
  view_answer _ = None

-- the view v of caller c makes a step at the place p, and finds f
module _ (z : Ground) (c : ℕ) (v : View) (p : Place) (a : Action) (f : Found) where
  -- a poll: a call begins in a run phase, or none; in another phase one that stands between calls leaves
  abbrev pub with_call : Call → Position → View
  with_call call at = record v {
    position = at;
    polled = f.word;
    header = None;
    seen = replicate (frame_count z.sizes) None;
    refused = replicate (frame_count z.sizes) false;
    calls = v.calls + 1;
    births = v.births + cond (makes_object call) 1 0;
  }

  abbrev pub begin_with : Call → Option Reply → Outcome
  begin_with call None = quietly (with_call call (Calling call))
  begin_with call (Some reply) = saying c (pauses (phase_of f.word)) call reply 0 (with_call call Between)

  abbrev pub poll_run : Option Call → Outcome
  poll_run None = quietly (record v { position = Between; polled = f.word })
  poll_run (Some call) = begin_with call (view_answer z v call)

  -- the epoch n that a `gc` waits for is done: the call is answered; `word` is the phase word that was polled last
  abbrev pub with_epoch : ℕ → View
  with_epoch word = record v { position = Between; polled = word; target = None }

  abbrev pub epoch_told : ℕ → ℕ → Outcome
  epoch_told word n = saying c (pauses (phase_of f.word)) Collect (replies.Epoch n) 0 (with_epoch word)

  -- it is not: a poll of a run phase goes on waiting
  abbrev pub waits_on : Outcome
  waits_on = quietly (record v { position = Waiting; polled = f.word })

  abbrev pub is_done : ℕ → Bool
  is_done n = nat_le n (last_done (phase_of f.word))

  abbrev pub waited : ℕ → Outcome
  waited n = cond (is_done n) (epoch_told f.word n) waits_on

  abbrev pub enters_for : Option ℕ → Option Call → Outcome
  enters_for None next = poll_run next
  enters_for (Some n) next = waited n

  -- one that waits, and finds a stop, leaves, and what it polled stays; but where its epoch is done, it is answered first
  abbrev pub waits_at : Bool → Option ℕ → Outcome
  waits_at run None = quietly v
  waits_at true (Some n) = waited n
  waits_at false (Some n) = cond (is_done n) (epoch_told v.polled n) (quietly (record v { position = Leaving }))

  -- one that is out, or entering, and finds Mark, keeps its epoch
  abbrev pub stays_out : Outcome
  stays_out = quietly (record v { work = joined_by (phase_of f.word) v.work })

  abbrev pub poll_at : Position → Bool → Option Call → Outcome
  poll_at Out run next = stays_out
  poll_at Entering run next = cond run (enters_for v.target next) stays_out
  poll_at Between run next = cond run (poll_run next) (quietly (record v { position = Leaving }))
  poll_at Waiting run next = waits_at run v.target
  poll_at _ run next = quietly v

  abbrev pub polled : Outcome
  polled = poll_at v.position (is_run (phase_of f.word).code) (next_of a)

  -- a store of the state: the caller stands where it says
  abbrev pub went : Outcome
  went = quietly (record v { position = position_of (word_stored a) })

  -- a store of a local: nothing is due any more, or the words of a birth are due to be counted; or `copy` or `clear` is answered
  abbrev pub behind_write : ℕ → Position
  behind_write n = cond (n == 0) Between (Adding n)

  abbrev pub with_write : Position → View
  with_write at = record v { position = at; locals = slice_set v.locals (local_in p) (word_stored a) }

  abbrev pub write_at : Position → Outcome
  write_at (Calling call) = saying c (epoch_in v) call replies.Ok 0 (with_write Between)
  write_at (Writing r w n) = quietly (record v { position = behind_write n })
  write_at _ = quietly (record v { position = Between })

  -- a load of a header, which may end a call on a field
  abbrev pub header_read : Call → Option FieldKind → Bool → Outcome
  header_read call None same = saying c (epoch_in v) call replies.NoField 0 (record v { position = Between })
  header_read call (Some k) false = saying c (epoch_in v) call replies.WrongKind 0 (record v { position = Between })
  header_read call (Some k) true = quietly (record v { header = Some f.word })

  abbrev pub is_wanted : Option FieldKind → FieldKind → Bool
  is_wanted None k = false
  is_wanted (Some of_ref) of_ref = true
  is_wanted (Some of_ref) of_int = false
  is_wanted (Some of_int) of_ref = false
  is_wanted (Some of_int) of_int = true

  abbrev pub header_for_call : Call → Option (ℕ × ℕ × FieldKind) → Outcome
  header_for_call call None = quietly v
  header_for_call call (Some t) = header_read call (told_kind z f.word t.1) (is_wanted (told_kind z f.word t.1) t.2)

  -- a reference was read into a local, whose store is due
  abbrev pub ref_read : Call → ℕ → Outcome
  ref_read call r =
      saying c (epoch_in v) call (ref_word f.word) 0 (record v { position = Writing r f.word 0; locals = slice_set v.locals r f.word })

  -- a load of a field
  abbrev pub field_read : Call → Outcome
  field_read (Get r s i) = ref_read (Get r s i) r
  field_read (Read s i) = saying c (epoch_in v) (Read s i) (replies.Int f.word) 0 (record v { position = Between })
  field_read _ = quietly v

  abbrev pub load_body : Position → Option ℕ → Outcome
  load_body (Calling call) None = header_for_call call (field_of call)
  load_body (Calling call) (Some h) = field_read call
  load_body _ h = quietly v

  -- a store of a field or of a global
  abbrev pub store_at : Position → Outcome
  store_at (Calling call) = saying c (epoch_in v) call replies.Ok 0 (record v { position = Between })
  store_at _ = quietly v

  -- a load of a global
  abbrev pub global_read : Position → Outcome
  global_read (Calling (GlobalGet r i)) = ref_read (GlobalGet r i) r
  global_read _ = quietly v

  -- the store of a mark that makes an object
  abbrev pub birth_said : Call → Option (ℕ × ℕ × ℕ) → Outcome
  birth_said call None = quietly v
  birth_said call (Some b) =
      saying c (epoch_in v) call replies.Ok (address_in p)
      (record v { position = Writing b.0 (address_in p) 0; taken = None; locals = slice_set v.locals b.0 (address_in p) })

  abbrev pub born_at : Position → Outcome
  born_at (Calling call) = birth_said call (birth_of z call)
  born_at _ = quietly v

  -- a look at a frame, which may end the search
  abbrev pub full_if : Bool → Call → View → Outcome
  full_if true call u = saying c (epoch_in v) call replies.Full 0 (record u { position = Between })
  full_if false call u = quietly u

  abbrev pub saw : ℕ → View
  saw k = record v { seen = slice_set v.seen k (Some f.word) }

  abbrev pub looked_at : Position → Outcome
  looked_at (Calling call) =
      full_if (is_over z call (slice_set v.seen (frame_in p) (Some f.word)) v.refused) call (saw (frame_in p))
  looked_at _ = quietly v

  -- a claim: won, which begins the sweep of a frame that was unswept; or lost, which is a look
  abbrev pub claimed_if : Bool → Outcome
  claimed_if true = quietly (record v {
    owned = slice_set v.owned (frame_in p) (Some (record { word = word_stored a; free = f.page.free; cursor = f.page.cursor }));
    sweep = sweep_begun z.sizes (frame_in p) (frame_of (word_wanted a)).kind;
  })
  claimed_if false = looked_at v.position

  abbrev pub claimed : Outcome
  claimed = claimed_if (f.word == word_wanted a)

  -- a frame is given back, is refused where the page does not serve the request, and may end the search
  abbrev pub given_back : View
  given_back = record v { owned = slice_set v.owned (frame_in p) None }

  abbrev pub home_if : Bool → Call → Outcome
  home_if false call = quietly given_back
  home_if true call =
      full_if (is_over z call v.seen (slice_set v.refused (frame_in p) true)) call
      (record given_back { refused = slice_set v.refused (frame_in p) true })

  abbrev pub home_at : Position → Outcome
  home_at (Calling call) = home_if (refuses_at z call (words_asked z call) (frame_in p) (owns v (frame_in p))) call
  home_at _ = quietly given_back

  -- a word of a cell is cleared: the first one, which takes the cell out of its page, or the next
  abbrev pub cell_begun : Option ℕ → Span
  cell_begun None = record { start = address_in p; len = 0 }
  cell_begun (Some n) = record { start = address_in p; len = n }

  abbrev pub open_without : ℕ → ℕ → Span → Option Open → Option Open
  open_without k class cell None = None
  open_without k class cell (Some o) =
      Some (record { word = o.word; free = without cell o.free; cursor = cond (class == NEXT_FIT_CLASS) (end_of cell) (frame_span z.sizes k).start })

  abbrev pub clear_first : ℕ → ℕ → Span → View
  clear_first k class cell = record v {
    taken = Some (record { frame = k; span = cell; cleared = 1 });
    owned = slice_set v.owned k (open_without k class cell (owns v k));
  }

  abbrev pub clear_at : Position → Option Taken → Outcome
  clear_at (Calling call) None =
      quietly (clear_first (frame_at z.sizes (address_in p)) (class_asked z call) (cell_begun (words_asked z call)))
  clear_at at (Some t) = quietly (record v { taken = Some (record t { cleared = t.cleared + 1 }) })
  clear_at at None = quietly v

  -- the epoch wanted was raised, and the mutator waits for it; or it was loaded
  abbrev pub collects : Collecting → Outcome
  collects part = quietly (record v { collecting = part })

  abbrev pub wanted_at : Position → Outcome
  wanted_at (Calling call) = quietly (record v { position = Waiting; target = Some (epoch_in v + 1) })
  wanted_at _ = collects (record v.collecting { wanted = f.word })

  -- a phase was stored: with a stop the counting of mutators begins anew, Mark brings its epoch, and Weak is the pause
  abbrev pub counted_from : Code → List Bool → List Bool
  counted_from code counted = cond (is_stop code) (replicate z.sizes.threads false) counted

  abbrev pub paused_at : Code → ℕ → List Entry
  paused_at codes.Weak e = pause_of c e ∷ []
  paused_at _ e = []

  abbrev pub phase_view : View
  phase_view = record v {
    work = joined_by (phase_of (word_stored a)) v.work;
    collecting = record v.collecting {
      stored = word_stored a;
      counted = counted_from (phase_of (word_stored a)).code v.collecting.counted;
    };
  }

  abbrev pub phase_stored : Outcome
  phase_stored = record { view = phase_view; says = paused_at (phase_of (word_stored a)).code (phase_of (word_stored a)).epoch }

  -- a mutator's state was loaded: it is counted where it is not in, and has ended where it says so
  abbrev pub state_loaded : Outcome
  state_loaded = collects (record v.collecting {
    counted = slice_set v.collecting.counted (state_in p) (cond (f.word == 1) false true);
    ended = slice_set v.collecting.ended (state_in p) (f.word == 2);
  })

  -- the marking was begun, or the count of its open work was loaded: at 0 it is over
  abbrev pub count_at : Action → Outcome
  count_at (Stores n) = collects (record v.collecting { over = false })
  count_at _ = collects (record v.collecting { over = cond (f.word == 0) true v.collecting.over })

  -- a marker's step changes its share in marking alone
  abbrev pub worked : Kind → Outcome
  worked k = quietly (record v { work = work_after z v.work f.word k p a })

  abbrev pub outcome : Kind → Outcome
  outcome K1 = polled
  outcome K2 = went
  outcome K3 = write_at v.position
  outcome K4 = load_body v.position v.header
  outcome K5 = store_at v.position
  outcome K6 = global_read v.position
  outcome K7 = store_at v.position
  outcome K8 = born_at v.position
  outcome K9 = looked_at v.position
  outcome K10 = claimed
  outcome K11 = home_at v.position
  outcome K12 = clear_at v.position v.taken
  outcome K13 = wanted_at v.position
  outcome K14 = phase_stored
  outcome K15 = state_loaded
  outcome K16 = count_at a
  outcome K17 = worked K17
  outcome K18 = worked K18
  outcome K19 = worked K19
  outcome K20 = worked K20
  outcome K21 = worked K21
  outcome K22 = worked K22
  outcome K23 = worked K23
  outcome K24 = worked K24
  outcome _ = quietly v
