-- A birth, as a write of lists.
use Rattle.std.proofs.Common.{◌≡◌, ℕ, ◌+◌, ◌<◌, ◌≤◌, Some, [], ◌∷◌, drop, length, slice_index, slice_index_or}
use Rattle.std.proofs.Common.{refl, sym, ap, subst, ◌∙◌, length-append, arith}
use Rattle.std.proofs.lemmas.List.{length-set}
use Rattle.kn_base.specs.Functions.{upd}
use Rattle.kn_base.specs.Sizes.{word_count}
use Rattle.kn_layout.specs.Layouts.{cell_size}
use Rattle.kn_graph.specs.declared.calls.Call.{Call}
use Rattle.kn_graph.specs.declared.calls.Reply.TheVariants as replies
use Rattle.kn_graph.specs.Graph.{newborn, with_birth}
use Rattle.kn_cms_rule.specs.declared.stages.Colour.TheVariants.{White}
use Rattle.kn_cms_rule.specs.declared.stages.Doing.TheVariants.{Free}
use Rattle.kn_cms_rule.specs.declared.stages.Stage.{Stage}
use Rattle.kn_cms_rule.specs.Words.{one_framed}
use Rattle.kn_cms_rule.specs.Calls.{birth_of}
use Rattle.kn_cms_rule.specs.State.{State, birth_colour}
use Rattle.kn_cms_rule.specs.Steps.{Bears, answered, bears, next_address}
use Rattle.kn_cms_lists.specs.Kept.{Kept, answered_lists, born_lists, calls_of_threads}
use Rattle.kn_cms.specs.Stands.{StandsFor, HasRoom, AreHoldersOf}
use Rattle.kn_cms.specs.Moves.{IsAt, ThreadMoves}
use Rattle.kn_cms_rule.proofs.BirthLaw.{birth_keeps}
use Rattle.kn_cms.proofs.NextCalls.{object_room}
use Rattle.kn_cms_lists.proofs.Writes.{set_upd_all}
use Rattle.kn_cms.proofs.Answered.{answered_room, answered_stands}
use Rattle.kn_cms.proofs.CellLists.{born_cells, local_held, local_sized}
use Rattle.kn_cms.proofs.CallTurns.{next_is}

module _ (k : Kept) (i : ℕ) (c : Call) (at : IsAt k i c) (free : slice_index_or k.doing i Free ≡ Free) (r layout fields : ℕ)
    (asks : birth_of (one_framed k.ground) c ≡ Some (record { local = r; layout = layout; fields = fields })) (small : r ≤ 15)
    (fits : k.cells.taken + cell_size fields ≤ word_count k.ground.sizes) where
  bear : (s : State) → (h : StandsFor k s) → Bears (one_framed k.ground) s i
      (record (answered s i (drop (slice_index k.made i + 1) (calls_of_threads k.calls i)) c replies.Ok (next_address s.graph)
      (with_birth s.graph i r (newborn (next_address s.graph) layout fields))) { colour = upd s.colour s.graph.born (birth_colour s.stage) })
  bear s h = record {
    call = c;
    rest = drop (slice_index k.made i + 1) (calls_of_threads k.calls i);
    next = next_is k i c at s h free;
    birth = record { local = r; layout = layout; fields = fields };
    asks = asks;
    room = λ no. let taken = h.cells.taken in omega (arith, no, fits, taken);
    after = refl;
  }

  holders_on : (s : State) (h : StandsFor k s) → AreHoldersOf (born_lists k i r layout fields).holders
      (with_birth s.graph i r (newborn (next_address s.graph) layout fields))
  holders_on s h =
      let are = local_held k.holders s.graph h.holders k.ground.sizes at.core.room.holders (Some (length k.cells.cells)) i r at.near small in record {
        locals = λ j q. are.locals j q ∙ ap (λ b. upd s.graph.local i (upd (s.graph.local i) r (Some b)) j q) h.cells.born;
        globals = are.globals;
      }

  born_near : length k.cells.cells < length k.colours
  born_near = let few = object_room k at.core.room i at.near c at.next in let long = at.core.room.colours in omega (arith, few, long)

  stands : (s : State) (h : StandsFor k s) → StandsFor (answered_lists (born_lists k i r layout fields) i c replies.Ok (next_address s.graph))
      (record (answered s i (drop (slice_index k.made i + 1) (calls_of_threads k.calls i)) c replies.Ok (next_address s.graph)
      (with_birth s.graph i r (newborn (next_address s.graph) layout fields))) { colour = upd s.colour s.graph.born (birth_colour s.stage) })
  stands s h =
      let after : Kept = born_lists k i r layout fields in
      answered_stands k at.core.room i at.near c at.next after.cells after.holders after.colours replies.Ok (next_address s.graph) s h
      (with_birth s.graph i r (newborn (next_address s.graph) layout fields)) (upd s.colour s.graph.born (birth_colour s.stage))
      (born_cells k.cells s.graph h.cells i r layout fields (record { address = 1 + k.cells.taken; layout = layout; length = fields }) refl
      (next_address s.graph) (ap (λ w. 1 + w) (sym h.cells.taken)))
      (holders_on s h)
      (λ n. set_upd_all k.colours White s.colour (length k.cells.cells) (birth_colour k.stage) born_near h.colours n
      ∙ (ap (λ b. upd s.colour b (birth_colour k.stage) n) h.cells.born ∙ ap (λ (x : Stage). upd s.colour s.graph.born (birth_colour x) n) h.stage))
      refl (birth_keeps k.ground (calls_of_threads k.calls) s _ i at.near h.rule (bear s h))

  pub birth_moves : ThreadMoves k i (answered_lists (born_lists k i r layout fields) i c replies.Ok (1 + k.cells.taken))
  birth_moves = record {
    ground = refl;
    calls = refl;
    stands = λ s h. (
      record (answered s i (drop (slice_index k.made i + 1) (calls_of_threads k.calls i)) c replies.Ok (next_address s.graph)
          (with_birth s.graph i r (newborn (next_address s.graph) layout fields))) { colour = upd s.colour s.graph.born (birth_colour s.stage) },
      subst (λ a. StandsFor (answered_lists (born_lists k i r layout fields) i c replies.Ok a)
          (record (answered s i (drop (slice_index k.made i + 1) (calls_of_threads k.calls i)) c replies.Ok (next_address s.graph)
          (with_birth s.graph i r (newborn (next_address s.graph) layout fields))) { colour = upd s.colour s.graph.born (birth_colour s.stage) }))
          (ap (λ w. 1 + w) (sym h.cells.taken)) (stands s h),
      bears (bear s h),
    );
  }

  pub birth_room : HasRoom (answered_lists (born_lists k i r layout fields) i c replies.Ok (1 + k.cells.taken))
  birth_room =
      let after : Kept = born_lists k i r layout fields in let room = at.core.room in
      answered_room k room i at.near c at.next after.cells after.holders after.colours replies.Ok (1 + k.cells.taken)
      (local_sized k.holders at.core.state.graph at.core.stands.holders k.ground.sizes room.holders (Some (length k.cells.cells)) i r at.near small)
      refl fits
      (let long = length-append k.cells.cells (record { address = 1 + k.cells.taken; layout = layout; length = fields } ∷ []) in omega (arith, long))
      refl (length-set k.colours (length k.cells.cells) (birth_colour k.stage))
