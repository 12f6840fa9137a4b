-- What the clauses say where a pause set the flags of objects, and nothing else of them.
use Rattle.std.proofs.Common.{◌≡◌, ℕ, Bool, true, false, Option, Some, None, refl, ◌∙◌}
use Rattle.kn_base.specs.declared.kinds.NodeKind.{NodeKind}
use Rattle.kn_base.specs.declared.kinds.NodeKind.TheVariants as nodes
use Rattle.kn_layout.specs.declared.layouts.FieldKind.{FieldKind}
use Rattle.kn_graph.specs.Ground.{Ground}
use Rattle.kn_graph.specs.Graph.{Graph, Shape, shapes, pointers, numbers}
use Rattle.kn_graph.specs.Collections.{with_condemned}
use Rattle.kn_rule.specs.declared.positions.Position.{Position}
use Rattle.kn_rule.specs.declared.positions.Position.TheVariants.{Calling}
use Rattle.kn_rule.specs.declared.parts.Taken.{Taken}
use Rattle.kn_rule.specs.Requests.{field_of}
use Rattle.kn_rule.specs.ObjectClauses.{address_of, Headed, IsReadFor, IsReadAt, ReadRight, Fielded, Localed, Globaled, name_word, NamesCondemned, Named}
use Rattle.kn_rule.specs.ObjectClauses.{Apart}
use Rattle.kn_rule.specs.FrameClauses.{Placed}

module _ (z : Ground) (g : Graph) (flag : ℕ → Bool) (stays : (n : ℕ) → (g.object n).condemned ≡ true → flag n ≡ true)
    (spares : (n : ℕ) → flag n ≡ false → (g.object n).condemned ≡ false) where
  -- the objects with these flags
  abbrev pub flagged : ℕ → Shape
  flagged = shapes (with_condemned g flag)

  pub address_same : (x : Option ℕ) → address_of (shapes g) x ≡ address_of flagged x
  address_same None = refl
  address_same (Some n) = refl

  pub headed_flagged : (side body : ℕ → ℕ) → Headed z g.born (shapes g) side body → Headed z g.born flagged side body
  headed_flagged side body r = record {
    marks = r.marks;
    headers = λ n l. let h = r.headers n l in record { extra = h.extra; ranges = h.ranges; packs = h.packs };
    blank = r.blank;
  }

  pub fielded_flagged : (body : ℕ → ℕ) → Fielded z g.born (shapes g) (pointers g) (numbers g) body →
      Fielded z g.born flagged (pointers g) (numbers g) body
  fielded_flagged body r = record {
    refs = λ n i l free kind. r.refs n i l (spares n free) kind ∙ address_same (pointers g n i);
    ints = λ n i l free kind. r.ints n i l (spares n free) kind;
  }

  pub globaled_flagged : (word : ℕ → ℕ) → Globaled z (shapes g) g.global word → Globaled z flagged g.global word
  globaled_flagged word r = record { words = λ i l. r.words i l ∙ address_same (g.global i) }

  pub localed_flagged : (word : ℕ → ℕ → ℕ) (position : ℕ → Position) (local : ℕ → ℕ → ℕ) → Localed z
      (shapes g) g.local word position local →
      Localed z flagged g.local word position local
  localed_flagged word position local r = record {
    words = λ c i l m n. r.words c i l m n ∙ address_same (g.local c i);
    views = λ c i l m. r.views c i l m ∙ address_same (g.local c i);
    due = r.due;
  }

  name_same : (kind : NodeKind) (x : Option ℕ) (count : ℕ) → name_word (shapes g) kind x count ≡ name_word flagged kind x count
  name_same kind None count = refl
  name_same kind (Some n) count = refl

  condemned_on : (x : Option ℕ) → NamesCondemned (shapes g) x → NamesCondemned flagged x
  condemned_on None h = h
  condemned_on (Some n) h = stays n h

  pub named_flagged : (word : ℕ → ℕ) → Named z.sizes (shapes g) g.stable g.weak g.back g.count word →
      Named z.sizes flagged g.stable g.weak g.back g.count word
  named_flagged word r = record {
    stables = λ h l. r.stables h l ∙ name_same nodes.Stable (g.stable h) 0;
    weaks = λ w l ne. r.weaks w l ne ∙ name_same nodes.Weak (g.weak w) 0;
    backs = λ b l ne. r.backs b l ne ∙ name_same nodes.Back (g.back b) (g.count b);
    cleared_weaks = λ w l e. condemned_on (g.weak w) (r.cleared_weaks w l e);
    cleared_backs = λ b l e. condemned_on (g.back b) (r.cleared_backs b l e);
  }

  read_for : (local : ℕ → Option ℕ) (t : Option (ℕ × ℕ × FieldKind)) (h : Option ℕ) → IsReadFor (shapes g) local t h →
      IsReadFor flagged local t h
  read_for local None h r = tt
  read_for local (Some t) None r = tt
  read_for local (Some t) (Some h) r = r

  read_at : (local : ℕ → Option ℕ) (p : Position) (h : Option ℕ) → IsReadAt (shapes g) local p h → IsReadAt flagged local p h
  read_at local (Calling call) h r = read_for local (field_of call) h r
  read_at local _ h r = tt

  pub read_flagged : (position : ℕ → Position) (header : ℕ → Option ℕ) → ReadRight z (shapes g) g.local position header →
      ReadRight z flagged g.local position header
  read_flagged position header r = record { each = λ c l. read_at (g.local c) (position c) (header c) (r.each c l) }

  pub apart_flagged : (position : ℕ → Position) (taken : ℕ → Option Taken) → Apart z g.born (shapes g) position taken →
      Apart z g.born flagged position taken
  apart_flagged position taken r = record { objects = r.objects; others = r.others; asked = r.asked; inside = r.inside }

  pub placed_flagged : (word : ℕ → ℕ) → Placed z.sizes g.born (shapes g) word → Placed z.sizes g.born flagged word
  placed_flagged word r = record { objects = r.objects }
