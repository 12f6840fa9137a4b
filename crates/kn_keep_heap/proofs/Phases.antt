-- Marks and shares, where a mutator that is in makes a step: the phase is not Mark.
use Rattle.std.proofs.Common.{◌≢◌, ℕ, ◌<◌, Bool, List, sym, subst}
use Rattle.kn_base.specs.declared.places.Place.{Place}
use Rattle.kn_base.specs.declared.places.Place.TheVariants.{Phase, RootSet, Side}
use Rattle.kn_base.specs.declared.kinds.Code.TheVariants as codes
use Rattle.kn_graph.specs.Ground.{Ground}
use Rattle.kn_graph.specs.Graph.{Shape}
use Rattle.kn_marking.specs.declared.work.Work.{Work}
use Rattle.kn_rule.specs.declared.positions.Position.{Position}
use Rattle.kn_rule.specs.Decoding.{phase_of}
use Rattle.kn_rule.specs.CallerClauses.{IsInOrLeaving, IsStill, Stopped}
use Rattle.kn_rule.specs.MarkClauses.{Rests, Phased}

-- in Mark no mutator is in
pub not_in_mark : (z : Ground) (phase : ℕ) (position : ℕ → Position) (counted : ℕ → List Bool) → Stopped z phase position counted →
    (by : ℕ) → by < z.sizes.threads → IsInOrLeaving (position by) → (phase_of phase).code ≢ codes.Mark
not_in_mark z phase position counted r by less here e = r.still (subst (λ c. IsStill c) (sym e) tt) by less here

-- a word that is no phase, no mark and no word of a root set was stored
pub phased_out : (z : Ground) (paused born : ℕ) (shape : ℕ → Shape) (word : Place → ℕ) (work : ℕ → Work) →
    (phase_of (word Phase)).code ≢ codes.Mark → Rests z paused born shape (λ a. word (Side a)) (λ j. word (RootSet j)) work →
    Phased z paused born shape word work
phased_out z paused born shape word work out r = record { in_mark = λ e. absurd (out e); at_rest = λ _. r }
