-- Where no write of a local is under way, the words have all that the graph has.
use Rattle.std.specs.Prelude.{◌≡◌, ℕ, ◌<◌}
use Rattle.kn_base.specs.declared.limits.TheConstants.{LOCALS}
use Rattle.kn_base.specs.declared.places.Place.{Place}
use Rattle.kn_base.specs.declared.places.Place.TheVariants.{Local, Global, Node, Side, Body}
use Rattle.kn_graph.specs.Ground.{Ground}
use Rattle.kn_graph.specs.Graph.{Graph, shapes, pointers, numbers}
use Rattle.kn_rule.specs.ObjectClauses.{address_of, Headed, Fielded, Globaled, Named}

-- the words of objects, locals, globals and names are those of the graph
pub record WordsStand (z : Ground) (g : Graph) (word : Place → ℕ) : Type 0 where
  pub headed : Headed z g.born (shapes g) (λ a. word (Side a)) (λ a. word (Body a))
  pub fielded : Fielded z g.born (shapes g) (pointers g) (numbers g) (λ a. word (Body a))
  pub locals : (c r : ℕ) → c < z.sizes.threads → r < LOCALS → word (Local c r) ≡ address_of (shapes g) (g.local c r)
  pub globals : Globaled z (shapes g) g.global (λ i. word (Global i))
  pub named : Named z.sizes (shapes g) g.stable g.weak g.back g.count (λ k. word (Node k))
