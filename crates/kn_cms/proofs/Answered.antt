-- The lists of a core behind an answered call stand for the state behind it, with room for the rest of the run.
use Rattle.std.proofs.Common.{◌≡◌, ℕ, ◌+◌, ◌<◌, ◌≤◌, Some, List, [], ◌∷◌, ◌++◌, length, drop, slice_set, slice_index}
use Rattle.std.proofs.Common.{slice_index_or}
use Rattle.std.proofs.Common.{refl, sym, ap, ◌∙◌, length-append, arith}
use Rattle.std.proofs.lemmas.List.{get_or-set_same, get_or-set_other, length-set}
use Rattle.kn_base.specs.Functions.{upd}
use Rattle.kn_base.specs.Sizes.{word_count}
use Rattle.kn_base.proofs.Updates.{upd_case}
use Rattle.kn_graph.specs.declared.calls.Call.{Call}
use Rattle.kn_graph.specs.declared.calls.Reply.{Reply}
use Rattle.kn_graph.specs.Graph.{Graph, Object, with_entered}
use Rattle.kn_replay.specs.Seen.{call_entry}
use Rattle.kn_objects.specs.Holders.{KeptHolders, AreSized}
use Rattle.kn_cms_rule.specs.declared.stages.Colour.{Colour}
use Rattle.kn_cms_rule.specs.declared.stages.Colour.TheVariants.{White}
use Rattle.kn_cms_rule.specs.declared.stages.Doing.TheVariants.{Free}
use Rattle.kn_cms_rule.specs.Words.{one_framed, words_before}
use Rattle.kn_cms_rule.specs.State.{State}
use Rattle.kn_cms_rule.specs.Steps.{answered}
use Rattle.kn_cms_rule.specs.Rule.{Rule}
use Rattle.kn_cms_lists.specs.Kept.{Kept, KeptCells, answered_lists, calls_of_threads, epoch_at, next_call}
use Rattle.kn_cms.specs.Stands.{StandsFor, HasRoom, AreCellsOf, AreHoldersOf}
use Rattle.kn_cms.proofs.NextCalls.{left_then, made_near, doing_near, one_less}
use Rattle.kn_cms_lists.proofs.Writes.{set_upd}

-- the objects are kept so in each graph that has the same ones
pub same_cells : (k : KeptCells) (g g' : Graph) → g'.born ≡ g.born → ◌≡◌ {A = ℕ → Object} g'.object g.object → AreCellsOf k g →
    AreCellsOf k g'
same_cells k g g' born object h = record {
  born = h.born ∙ sym born;
  each = λ n c e. let is = h.each n c e in record {
    address = is.address ∙ sym (ap (λ (o : ℕ → Object). (o n).address) object);
    layout = is.layout ∙ sym (ap (λ (o : ℕ → Object). (o n).layout) object);
    length = is.length ∙ sym (ap (λ (o : ℕ → Object). (o n).length) object);
  };
  fields = λ n f. h.fields n f ∙ sym (ap (λ (o : ℕ → Object). (o n).points f) object);
  taken = h.taken ∙ (ap (λ (o : ℕ → Object). words_before (λ n. (o n).length) g.born) (sym object)
      ∙ ap (λ b. words_before (λ n. (g'.object n).length) b) (sym born));
  fresh = h.fresh;
}

pub entered_holders : (h : KeptHolders) (g : Graph) (by epoch : ℕ) → AreHoldersOf h g → AreHoldersOf h (with_entered g by epoch)
entered_holders h g by epoch are = record { locals = are.locals; globals = are.globals }

module _ (k : Kept) (room : HasRoom k) (i : ℕ) (near : i < k.ground.sizes.threads) (call : Call) (next : next_call k i ≡ Some call) where
  module _ (cells : KeptCells) (holders : KeptHolders) (colours : List Colour) (reply : Reply) (address : ℕ) where
    pub answered_room : AreSized k.ground.sizes holders → length cells.points ≡ length k.cells.points → cells.taken ≤ word_count k.ground.sizes →
        length cells.cells ≤ length k.cells.cells + 1 → cells.room ≡ k.cells.room → length colours ≡ length k.colours →
        HasRoom (answered_lists (record k { cells = cells; holders = holders; colours = colours }) i call reply address)
    answered_room sized points taken few objects coloured =
        let one = one_less k room i near call next in
        let most = room.cells in
        let entries = room.entries in
        record {
          threads = room.threads;
          made = length-set k.made i (slice_index k.made i + 1) ∙ room.made;
          doing = length-set k.doing i Free ∙ room.doing;
          holders = sized;
          points = points ∙ room.points;
          taken = taken;
          calls = room.calls;
          cells = omega (arith, one, most, few);
          objects = objects ∙ room.objects;
          colours = coloured ∙ room.colours;
          entries = let long = length-append k.history.list (call_entry i (epoch_at k.stage) call reply address ∷ []) in omega (arith, one, entries, long);
        }

    module _ (s : State) (h : StandsFor k s) where
      -- the call that is at its answer, and those behind it
      pub is_left : s.left i ≡ call ∷ drop (slice_index k.made i + 1) (calls_of_threads k.calls i)
      is_left = sym (h.left i near) ∙ left_then k room i near call next

      left_on : (j : ℕ) → j < k.ground.sizes.threads →
          drop (slice_index (slice_set k.made i (slice_index k.made i + 1)) j) (calls_of_threads k.calls j) ≡
          upd s.left i (drop (slice_index k.made i + 1) (calls_of_threads k.calls i)) j
      left_on j less = upd_case (λ j (l : List Call). j < k.ground.sizes.threads →
          drop (slice_index (slice_set k.made i (slice_index k.made i + 1)) j) (calls_of_threads k.calls j) ≡ l) s.left i
          (drop (slice_index k.made i + 1) (calls_of_threads k.calls i))
          (λ _. ap (λ n. drop n (calls_of_threads k.calls i)) (get_or-set_same k.made i (slice_index k.made i + 1) 0 (made_near k room i near call next)))
          j (λ ne near'. ap (λ n. drop n (calls_of_threads k.calls j)) (get_or-set_other k.made i j (slice_index k.made i + 1) 0 (λ e. ne (sym e)))
          ∙ h.left j near') less

      pub answered_stands : (g : Graph) (colour : ℕ → Colour) → AreCellsOf cells g → AreHoldersOf holders g →
          ((n : ℕ) → slice_index_or colours n White ≡ colour n) → g.paused ≡ s.graph.paused →
          Rule (one_framed k.ground) (calls_of_threads k.calls)
          (record (answered s i (drop (slice_index k.made i + 1) (calls_of_threads k.calls i)) call reply address g) { colour = colour }) →
          StandsFor (answered_lists (record k { cells = cells; holders = holders; colours = colours }) i call reply address)
          (record (answered s i (drop (slice_index k.made i + 1) (calls_of_threads k.calls i)) call reply address g) { colour = colour })
      answered_stands g colour are_cells are_holders are_colours paused rule = record {
        rule = rule;
        cells = same_cells cells g (with_entered g i s.graph.paused) refl refl are_cells;
        holders = entered_holders holders g i s.graph.paused are_holders;
        colours = are_colours;
        doing = set_upd k.doing Free s.doing i Free k.ground.sizes.threads (doing_near k room i near call next) h.doing;
        stage = h.stage;
        snapshot = h.snapshot;
        left = left_on;
        history = ap (λ l. l ++ call_entry i (epoch_at k.stage) call reply address ∷ []) h.history
            ∙ ap (λ e. s.history ++ call_entry i e call reply address ∷ []) (sym h.paused);
        paused = paused ∙ h.paused;
      }
