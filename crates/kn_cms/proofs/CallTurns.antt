-- Whole calls, refusals and births without room, as writes of lists.
use Rattle.std.proofs.Common.{◌≡◌, ◌≢◌, ℕ, ◌+◌, ◌<◌, ◌≤◌, true, Option, Some, None, drop, slice_index, slice_index_or}
use Rattle.std.proofs.Common.{refl, sym, ap, ◌∙◌, arith}
use Rattle.std.proofs.Common.{◌⊎◌, inl, inr}
use Rattle.std.proofs.lemmas.Bool.{cases_lt}
use Rattle.kn_base.specs.Sizes.{word_count}
use Rattle.kn_layout.specs.Layouts.{cell_size}
use Rattle.kn_layout.specs.declared.layouts.FieldKind.{FieldKind}
use Rattle.kn_layout.specs.declared.layouts.FieldKind.TheVariants.{Ref as of_ref, Int as of_int}
use Rattle.kn_graph.specs.declared.calls.Call.{Call}
use Rattle.kn_graph.specs.declared.calls.Call.TheVariants as call
use Rattle.kn_graph.specs.declared.calls.Reply.{Reply}
use Rattle.kn_graph.specs.declared.calls.Reply.TheVariants as replies
use Rattle.kn_graph.specs.Ground.{Ground}
use Rattle.kn_graph.specs.Graph.{Graph, field_kind, shapes}
use Rattle.kn_graph.specs.Answers.{Answer, answers, needs, where_ref}
use Rattle.kn_graph.proofs.Writes.{alive_at}
use Rattle.kn_objects.specs.Holders.{KeptHolders, AreSized}
use Rattle.kn_cms.specs.declared.plans.Plan.{Plan}
use Rattle.kn_cms.specs.declared.plans.Write.{Write}
use Rattle.kn_cms.specs.declared.plans.Write.TheVariants as writes
use Rattle.kn_cms_rule.specs.declared.stages.Doing.TheVariants.{Free}
use Rattle.kn_cms_rule.specs.Words.{HasNoRoom, one_framed}
use Rattle.kn_cms_rule.specs.Calls.{Birth, birth_of, is_whole}
use Rattle.kn_cms_rule.specs.State.{State}
use Rattle.kn_cms_rule.specs.Steps.{IsNext, Answers, Fills, Refuses, answered, answers as is_answered, fills, refuses}
use Rattle.kn_cms_lists.specs.Kept.{Kept, KeptCells, answered_lists, calls_of_threads, kept_kind, kept_local}
use Rattle.kn_cms.specs.Stands.{StandsFor, HasRoom, AreCellsOf, AreHoldersOf}
use Rattle.kn_cms.specs.Moves.{IsAt, IsPlanOf, IsWritable, ThreadMoves, refusal_of, refusal_of_kind, written, written_graph, written_holders}
use Rattle.kn_cms_rule.proofs.Called.{sound}
use Rattle.kn_cms_rule.proofs.CallLaws.{answer_keeps, fill_keeps, refusal_keeps}
use Rattle.kn_cms.proofs.Answered.{answered_room, answered_stands, is_left, same_cells}
use Rattle.kn_cms.proofs.CellLists.{kind_told, local_held, local_sized, global_held, global_sized}

-- a write leaves the objects, the number of pauses and the sizes
module _ (z : Ground) (h : KeptHolders) (g : Graph) (i : ℕ) (near : i < z.sizes.threads) (sized : AreSized z.sizes h) where
  written_held : AreHoldersOf h g → (w : Write) → IsWritable z w → AreHoldersOf (written_holders h i w) (written_graph g i w)
  written_held are writes.Nothing fits = are
  written_held are (writes.Local r value) fits = local_held h g are z.sizes sized value i r near fits
  written_held are (writes.Global j value) fits = global_held h g are z.sizes sized value j fits

  written_sized : AreHoldersOf h g → (w : Write) → IsWritable z w → AreSized z.sizes (written_holders h i w)
  written_sized are writes.Nothing fits = sized
  written_sized are (writes.Local r value) fits = local_sized h g are z.sizes sized value i r near fits
  written_sized are (writes.Global j value) fits = global_sized h g are z.sizes sized value j fits

written_cells : (k : KeptCells) (g : Graph) (i : ℕ) (w : Write) → AreCellsOf k g → AreCellsOf k (written_graph g i w)
written_cells k g i writes.Nothing h = h
written_cells k g i (writes.Local r value) h = same_cells k g (written_graph g i (writes.Local r value)) refl refl h
written_cells k g i (writes.Global j value) h = same_cells k g (written_graph g i (writes.Global j value)) refl refl h

written_paused : (g : Graph) (i : ℕ) (w : Write) → (written_graph g i w).paused ≡ g.paused
written_paused g i writes.Nothing = refl
written_paused g i (writes.Local r value) = refl
written_paused g i (writes.Global j value) = refl

-- an object that a local holds was born, and the kinds of its fields are kept
module _ (k : Kept) (s : State) (h : StandsFor k s) (i r : ℕ) where
  pub held_born : (n : ℕ) → kept_local k i r ≡ Some n → n < s.graph.born
  held_born n e =
      (alive_at s.graph.born (shapes s.graph) (s.graph.local i r) n (sym (h.holders.locals i r) ∙ e)
      ((sound (one_framed k.ground) (calls_of_threads k.calls) s h.rule).roots.locals i r)).0

  pub held_kind : (n f : ℕ) → kept_local k i r ≡ Some n → kept_kind k n f ≡ field_kind (one_framed k.ground) (shapes s.graph n) f
  held_kind n f e = kind_told k.ground k.cells s.graph h.cells n (held_born n e) f

-- where a cell does not fit the words that are left there is no room for it
pub no_room : (k : Kept) (s : State) → StandsFor k s → (fields : ℕ) → (k.cells.taken + cell_size fields ≤ word_count k.ground.sizes → ⊥) →
    HasNoRoom (one_framed k.ground) s.graph fields
no_room k s h fields not = by (cases_lt (word_count k.ground.sizes) (k.cells.taken + cell_size fields))
  where
    by : (word_count k.ground.sizes < k.cells.taken + cell_size fields) ⊎ (k.cells.taken + cell_size fields ≤ word_count k.ground.sizes) →
        HasNoRoom (one_framed k.ground) s.graph fields
    by (inl less) = let taken = h.cells.taken in omega (arith, less, taken)
    by (inr fits) = absurd (not fits)

-- a call that wants a reference field and has none
module _ (z : Ground) (i : ℕ) (g : Graph) (reply : Reply) where
  refused_kind : (kind : Option FieldKind) (a : Answer) → refusal_of_kind kind ≡ Some reply → where_ref z i g kind a ≡ answers reply g
  refused_kind None a e = let same : replies.NoField ≡ reply = cc in ap (λ x. answers x g) same
  refused_kind (Some of_ref) a e = absurd (cc)
  refused_kind (Some of_int) a e = let same : replies.WrongKind ≡ reply = cc in ap (λ x. answers x g) same

  refused : (x : Option ℕ) (kept kind : ℕ → Option FieldKind) (a : ℕ → Answer) → ((n : ℕ) → x ≡ Some n → kept n ≡ kind n) →
      refusal_of x kept ≡ Some reply → needs z i g x (λ n. where_ref z i g (kind n) (a n)) ≡ answers reply g
  refused None kept kind a same e = let is : replies.Nil ≡ reply = cc in ap (λ x. answers x g) is
  refused (Some n) kept kind a same e = refused_kind (kind n) (a n) (sym (ap (λ x. refusal_of_kind x) (same n refl)) ∙ e)

refused_not_ok : (x : Option ℕ) (kept : ℕ → Option FieldKind) (reply : Reply) → refusal_of x kept ≡ Some reply → reply ≢ replies.Ok
refused_not_ok None kept reply e f = let is : replies.Nil ≡ replies.Ok = cc in absurd (cc)
refused_not_ok (Some n) kept reply e f = by (kept n) e f
  where
    by : (kind : Option FieldKind) → refusal_of_kind kind ≡ Some reply → reply ≢ replies.Ok
    by None e f = let is : replies.NoField ≡ replies.Ok = cc in absurd (cc)
    by (Some of_ref) e f = absurd (cc)
    by (Some of_int) e f = let is : replies.WrongKind ≡ replies.Ok = cc in absurd (cc)

module _ (k : Kept) (s : State) (h : StandsFor k s) (i r f : ℕ) (reply : Reply) (is : refusal_of (kept_local k i r) (λ n. kept_kind k n f) ≡ Some reply)
    (a : ℕ → Answer) where
  pub refusal_told : needs (one_framed k.ground) i s.graph (s.graph.local i r)
      (λ n. where_ref (one_framed k.ground) i s.graph (field_kind (one_framed k.ground) (shapes s.graph n) f) (a n)) ≡ answers reply s.graph
  refusal_told = ap (λ x. needs (one_framed k.ground) i s.graph x
      (λ n. where_ref (one_framed k.ground) i s.graph (field_kind (one_framed k.ground) (shapes s.graph n) f) (a n))) (sym (h.holders.locals i r))
      ∙ refused (one_framed k.ground) i s.graph reply (kept_local k i r) (λ n. kept_kind k n f)
      (λ n. field_kind (one_framed k.ground) (shapes s.graph n) f) a (λ n e. held_kind k s h i r n f e) is

module _ (k : Kept) (i : ℕ) (c : Call) (at : IsAt k i c) where
  pub next_is : (s : State) → StandsFor k s → slice_index_or k.doing i Free ≡ Free →
      IsNext s i c (drop (slice_index k.made i + 1) (calls_of_threads k.calls i))
  next_is s h free = record {
    is_left = is_left k at.core.room i at.near c at.next k.cells k.holders k.colours replies.Ok 0 s h;
    is_free = sym (h.doing i at.near) ∙ free;
  }

  pub same_room : (reply : Reply) (address : ℕ) → HasRoom (answered_lists k i c reply address)
  same_room reply address = let room = at.core.room in
      answered_room k room i at.near c at.next k.cells k.holders k.colours reply address room.holders refl room.taken (omega arith) refl refl

  module _ (free : slice_index_or k.doing i Free ≡ Free) where
    -- a whole call
    module _ (whole : is_whole c ≡ true) (plan : Plan) (is : IsPlanOf k i c plan) (fits : IsWritable k.ground plan.writes) where
      pub whole_room : HasRoom (answered_lists (written k i plan.writes) i c plan.reply 0)
      whole_room = let room = at.core.room in
          answered_room k room i at.near c at.next k.cells (written_holders k.holders i plan.writes) k.colours plan.reply 0
          (written_sized k.ground k.holders at.core.state.graph i at.near room.holders at.core.stands.holders plan.writes fits)
          refl room.taken (omega arith) refl refl

      step : (s : State) → (h : StandsFor k s) → Answers (one_framed k.ground) s i
          (answered s i (drop (slice_index k.made i + 1) (calls_of_threads k.calls i)) c plan.reply 0 (written_graph s.graph i plan.writes))
      step s h = record {
        call = c;
        rest = drop (slice_index k.made i + 1) (calls_of_threads k.calls i);
        next = next_is s h free;
        whole = whole;
        given = answers plan.reply (written_graph s.graph i plan.writes);
        is_answer = is s h;
        after = refl;
      }

      pub whole_moves : ThreadMoves k i (answered_lists (written k i plan.writes) i c plan.reply 0)
      whole_moves = record {
        ground = refl;
        calls = refl;
        stands = λ s h. (
          answered s i (drop (slice_index k.made i + 1) (calls_of_threads k.calls i)) c plan.reply 0 (written_graph s.graph i plan.writes),
          answered_stands k at.core.room i at.near c at.next k.cells (written_holders k.holders i plan.writes) k.colours plan.reply 0 s h
              (written_graph s.graph i plan.writes) s.colour (written_cells k.cells s.graph i plan.writes h.cells)
              (written_held k.ground k.holders s.graph i at.near at.core.room.holders h.holders plan.writes fits) h.colours
              (written_paused s.graph i plan.writes) (answer_keeps k.ground (calls_of_threads k.calls) s _ i at.near h.rule (step s h)),
          is_answered (step s h),
        );
      }

    -- a birth for which there is no room
    module _ (b : Birth) (asks : birth_of (one_framed k.ground) c ≡ Some b) (full : (s : State) → StandsFor k s →
        HasNoRoom (one_framed k.ground) s.graph b.fields) where
      fill : (s : State) → (h : StandsFor k s) → Fills (one_framed k.ground) s i
          (answered s i (drop (slice_index k.made i + 1) (calls_of_threads k.calls i)) c replies.Full 0 s.graph)
      fill s h = record {
        call = c;
        rest = drop (slice_index k.made i + 1) (calls_of_threads k.calls i);
        next = next_is s h free;
        birth = b;
        asks = asks;
        room = full s h;
        after = refl;
      }

      pub full_moves : ThreadMoves k i (answered_lists k i c replies.Full 0)
      full_moves = record {
        ground = refl;
        calls = refl;
        stands = λ s h. (
          answered s i (drop (slice_index k.made i + 1) (calls_of_threads k.calls i)) c replies.Full 0 s.graph,
          answered_stands k at.core.room i at.near c at.next k.cells k.holders k.colours replies.Full 0 s h
              s.graph s.colour h.cells h.holders h.colours refl (fill_keeps k.ground (calls_of_threads k.calls) s _ i at.near h.rule (fill s h)),
          fills (fill s h),
        );
      }

module _ (k : Kept) (i r f v : ℕ) (at : IsAt k i (call.Set r f v)) (free : slice_index_or k.doing i Free ≡ Free) (reply : Reply)
    (is : refusal_of (kept_local k i r) (λ n. kept_kind k n f) ≡ Some reply) where
  refuse : (s : State) → (h : StandsFor k s) → Refuses (one_framed k.ground) s i
      (answered s i (drop (slice_index k.made i + 1) (calls_of_threads k.calls i)) (call.Set r f v) reply 0 s.graph)
  refuse s h = record {
    local = r;
    field = f;
    value = v;
    rest = drop (slice_index k.made i + 1) (calls_of_threads k.calls i);
    next = next_is k i (call.Set r f v) at s h free;
    given = answers reply s.graph;
    is_answer = ap (λ x. Some x) (refusal_told k s h i r f reply is _);
    not_stored = refused_not_ok (kept_local k i r) (λ n. kept_kind k n f) reply is;
    after = refl;
  }

  pub refusal_moves : ThreadMoves k i (answered_lists k i (call.Set r f v) reply 0)
  refusal_moves = record {
    ground = refl;
    calls = refl;
    stands = λ s h. (
      answered s i (drop (slice_index k.made i + 1) (calls_of_threads k.calls i)) (call.Set r f v) reply 0 s.graph,
      answered_stands k at.core.room i at.near (call.Set r f v) at.next k.cells k.holders k.colours reply 0 s h
          s.graph s.colour h.cells h.holders h.colours refl (refusal_keeps k.ground (calls_of_threads k.calls) s _ i at.near h.rule (refuse s h)),
      refuses (refuse s h),
    );
  }
