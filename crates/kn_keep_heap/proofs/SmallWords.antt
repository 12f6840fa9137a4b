-- Words that are small: phases, and the addresses in locals.
use Rattle.std.proofs.Common.{ℕ, ◌+◌, ◌^◌, ◌<◌, ◌≤◌, Option, Some, None, sym, subst, arith}
use Rattle.std.proofs.Common.{ap}
use Rattle.kn_base.specs.declared.phase_word.PhaseWord.{PhaseWord}
use Rattle.kn_graph.specs.Ground.{Ground, IsGoodGround}
use Rattle.kn_graph.specs.Graph.{Graph, shapes}
use Rattle.kn_graph.specs.Sound.{Alive}
use Rattle.kn_rule.specs.Decoding.{PacksPhase, phase_of}
use Rattle.kn_rule.specs.Views.{State, views_of, local_of}
use Rattle.kn_rule.specs.ObjectClauses.{address_of}
use Rattle.kn_rule.specs.Rule.{RuleOf}
use Rattle.kn_rule.proofs.Decodings.{code_small}
use Rattle.kn_rule.proofs.FrameSpans.{in_heap, is_span_of}
use Rattle.kn_keep_heap.specs.Laws.{LocalsAreAddresses, PhasesAreSmall}
use Rattle.kn_keep_heap.proofs.ReadLaws.{snd}

-- the word of a phase
pub phase_small : (w : ℕ) → PacksPhase w → w < 2 ^ 35
phase_small w p = let v : PhaseWord = phase_of w in let r = p.right in let e = p.ranges in let c = code_small v.code in omega arith

module _ (z : Ground) (good : IsGoodGround z) (s : State) (by : ℕ) (less : by < z.sizes.threads) (g : Graph)
    (rule : RuleOf z g s.word s.page (views_of s.caller) s.history) where
  -- the address of a value
  pub address_small : (x : Option ℕ) → Alive g.born (shapes g) x → address_of (shapes g) x ≤ 1000000
  address_small None a = omega arith
  address_small (Some n) a =
      let p = ((snd z s by less g rule).cells n a.0).placed in
      let l : p.frame < z.sizes.small + z.sizes.large + z.sizes.extra = let x = p.is_for_cells in omega arith in
      let span = is_span_of z.sizes p.frame p.words p.is_frame in
      let e = (in_heap z.sizes good.sizes p.frame l).2 in let i = p.inside.1 in let few = good.sizes.of_frames.words.1 in
      let b = ap (λ (x : Rattle.kn_base.specs.declared.numbers.Span.Span). Rattle.kn_base.specs.Spans.end_of x) span in
      let n = p.inside in omega arith

  -- a local of the caller
  pub local_small : (r : ℕ) → r < 16 → local_of (s.caller by) r ≤ 1000000
  local_small r l =
      subst (λ w. w ≤ 1000000) (sym (rule.localed.views by r less l)) (address_small (g.local by r) ((snd z s by less g rule).roots.locals by r))

pub phases_are_small : PhasesAreSmall
phases_are_small z s r = phase_small (s.word Rattle.kn_base.specs.declared.places.Place.TheVariants.Phase) r.1.stands.timed.packs

pub locals_are_addresses : LocalsAreAddresses
locals_are_addresses z s c r good rule less l = local_small z good s c less rule.0 rule.1 r l
