-- In Mark the words stand for the graph: no mutator is in, so no write of a local is under way.
use Rattle.std.proofs.Common.{◌≡◌, ℕ, sym, subst}
use Rattle.kn_base.specs.declared.kinds.Code.TheVariants as codes
use Rattle.kn_base.specs.declared.places.Place.TheVariants.{Phase}
use Rattle.kn_graph.specs.Ground.{Ground, IsGoodGround}
use Rattle.kn_graph.specs.Graph.{Graph, shapes}
use Rattle.kn_graph.specs.Sound.{IsSound}
use Rattle.kn_graph.proofs.LegalGraphs.{legal_sound}
use Rattle.kn_marking.specs.Heap as heaps
use Rattle.kn_rule.specs.declared.positions.Position.{Position}
use Rattle.kn_rule.specs.declared.positions.Position.TheVariants.{Writing}
use Rattle.kn_rule.specs.Decoding.{phase_of}
use Rattle.kn_rule.specs.Views.{State, views_of}
use Rattle.kn_rule.specs.MarkedHeap.{heap_of}
use Rattle.kn_rule.specs.ObjectClauses.{IsWriting}
use Rattle.kn_rule.specs.CallerClauses.{IsInOrLeaving, IsStill}
use Rattle.kn_rule.specs.Rule.{RuleOf}
use Rattle.kn_keep_marking.specs.WordsStand.{WordsStand}
use Rattle.kn_keep_marking.proofs.Reaches.{heap_sound}

writing_in : (q : Position) (r : ℕ) → IsWriting q r → IsInOrLeaving q
writing_in (Writing i w n) r h = tt
writing_in _ r h = absurd h

module _ (z : Ground) (good : IsGoodGround z) (s : State) (g : Graph) (rule : RuleOf z g s.word s.page (views_of s.caller) s.history) where
  pub graph_sound : IsSound z g
  graph_sound = legal_sound z s.history g rule.told.leads

  module _ (mark : (phase_of (s.word Phase)).code ≡ codes.Mark) where
    pub words_stand : WordsStand z g s.word
    words_stand = record {
      headed = rule.stands.headed;
      fielded = rule.stands.fielded;
      locals = λ c r l m. rule.localed.words c r l m
          (λ h. rule.stands.stopped.still (subst (λ k. IsStill k) (sym mark) tt) c l (writing_in ((s.caller c).position) r h));
      globals = rule.stands.globaled;
      named = rule.stands.named;
    }

    pub sound_in_mark : heaps.Sound (heap_of z g.born (shapes g) s.word)
    sound_in_mark = heap_sound z good g graph_sound s.word words_stand
