use Rattle.std.proofs.Common.{List, ap, ◌∙◌}
use Rattle.kn_layout.specs.declared.layouts.Layout.{Layout}
use Rattle.kn_graph.specs.Ground.{Ground}
use Rattle.kn_script.specs.Scripts.{Scripted, ground_of}
use Rattle.kn_cms_lists.proofs.lists.Lists.open.Goals as goal
use Rattle.std.proofs.Common.{◌≡◌, ℕ, ◌+◌, None, [], replicate}
use Rattle.kn_base.specs.Sizes.{word_count}
use Rattle.kn_base.specs.declared.heap.Sizes.{Sizes}
use Rattle.kn_graph.specs.declared.calls.Call.{Call}
use Rattle.kn_objects.specs.Holders.{KeptHolders, no_holders}
use Rattle.kn_cms_rule.specs.declared.stages.Colour.{Colour}
use Rattle.kn_cms_rule.specs.declared.stages.Colour.TheVariants.{White}
use Rattle.kn_cms_rule.specs.declared.stages.Doing.{Doing}
use Rattle.kn_cms_rule.specs.declared.stages.Doing.TheVariants.{Free}
use Rattle.kn_cms_rule.specs.declared.stages.Stage.TheVariants.{Waiting}
use Rattle.kn_cms_lists.specs.Kept.{Kept, KeptCells, KeptEntries, opening_lists}

-- lists whose parts are those before all steps
opening_parts : (z ground : Ground) (threads calls : List (List Call)) (made : List ℕ) (cells : KeptCells) (holders : KeptHolders)
    (colours : List Colour) (doing : List Doing) (history : KeptEntries) (sizes : Sizes) (words : ℕ) → ground ≡ z → sizes ≡ ground.sizes →
    words ≡ word_count sizes → calls ≡ threads → made ≡ replicate sizes.threads 0 →
    cells ≡ record { cells = []; points = replicate (words + 1) None; taken = 0; room = 16384 } → holders ≡ no_holders sizes →
    colours ≡ replicate 16384 White → doing ≡ replicate sizes.threads Free → history ≡ record { list = []; room = 16385 } →
    ◌≡◌ {A = Kept} (record {
      ground = ground;
      calls = calls;
      made = made;
      cells = cells;
      holders = holders;
      colours = colours;
      doing = doing;
      stage = Waiting;
      snapshot = None;
      history = history;
    }) (opening_lists z threads)
opening_parts z ground threads calls made cells holders colours doing history sizes words a b c d e f g h i j = cc

pub returns : goal.returns
returns c = opening_parts (ground_of c.args.script.now) _ c.args.script.now.threads _ _ _ _ _ _ _ c.sizes-sizes.result.now c.heap_words.result
    (c.in_ok-ground.ensures ∙ (ap {B = Ground} (λ (l : List Layout). record { sizes = c.script.inside.sizes; layouts = l }) c.deref.ensures.value
    ∙ ap (λ (s : Scripted). ground_of s) c.script.view_is))
    c.sizes-sizes.ensures.is c.heap_words.ensures
    (c.in_ok-calls.ensures ∙ (c.deref-2.ensures.value ∙ ap (λ (s : Scripted). s.threads) c.script.view_is))
    c.in_ok-made.ensures c.in_ok-cells.ensures c.in_ok-holders.ensures c.in_ok-colours.ensures c.in_ok-doing.ensures c.in_ok-history.ensures
