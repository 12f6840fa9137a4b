-- The mark of a living object is stored: the other clauses stay.
use Rattle.std.proofs.Common.{◌≢◌, ◌↔◌, ◌⊎◌, inl, inr, ℕ, ◌<◌, Option, ◌∙◌, subst, arith}
use Rattle.std.proofs.lemmas.Bool.Decides.{eqb_tells}
use Rattle.kn_base.specs.declared.places.Place.{Place}
use Rattle.kn_base.specs.declared.places.Place.TheVariants.{Frame, Side, Body}
use Rattle.kn_base.specs.declared.numbers.Span.{Span}
use Rattle.kn_base.specs.declared.kinds.Colour.{Colour}
use Rattle.kn_base.specs.declared.kinds.Colour.TheVariants as colours
use Rattle.kn_base.specs.Kinds.{colour_number}
use Rattle.kn_base.specs.Pages.{FrameView}
use Rattle.kn_base.specs.Functions.{upd, Tells}
use Rattle.kn_base.proofs.Updates.{upd_else}
use Rattle.kn_graph.specs.Ground.{Ground}
use Rattle.kn_graph.specs.Graph.{Graph, shapes, Lives}
use Rattle.kn_marking.proofs.Changes.{each_upd}
use Rattle.kn_rule.specs.FrameSpans.{frame_span}
use Rattle.kn_rule.specs.Places.{put}
use Rattle.kn_rule.specs.Views.{Views}
use Rattle.kn_rule.specs.Steps.{callers}
use Rattle.kn_rule.specs.ObjectClauses.{IsMarked, Headed}
use Rattle.kn_rule.specs.FrameClauses.{IsFilled, IsTakenWord, AreTheFree, Housed, Handed}
use Rattle.kn_rule.specs.Rule.{Represents}

colour_some : (c : Colour) → 0 < colour_number c
colour_some colours.Gray = omega arith
colour_some colours.Scanned = omega arith
colour_some colours.Black = omega arith

pub marked_some : (v : ℕ) → IsMarked v → v ≢ 0
marked_some v m e = let c = colour_some m.mark.colour in let p = m.packs in absurd (omega (arith, e, c, p))

free_same : (frame : Span) (F G : ℕ → Type 0) (free : _) → ((a : ℕ) → F a ↔ G a) → AreTheFree frame F free → AreTheFree frame G free
free_same frame F G free same r a =
    ((λ c. let h = (r a).0 c in (h.0, λ x. h.1 ((same a).1 x))), (λ h. (r a).1 (h.0, λ x. h.1 ((same a).0 x))))

module _ (z : Ground) (g : Graph) (word : Place → ℕ) (page : ℕ → Option FrameView) (views : Views) (r : Represents z g word page views)
    (n v : ℕ) (l : Lives g.born (shapes g) n) (m : IsMarked v) where
  abbrev at : ℕ
  at = (shapes g n).address

  abbrev side : ℕ → ℕ
  side = λ a. word (Side a)

  abbrev Filled : (ℕ → ℕ) → ℕ → Type 0
  Filled s a = IsFilled z.sizes g.born (shapes g) s a

  old_some : side at ≢ 0
  old_some = marked_some (side at) (r.headed.marks n l)

  some_back : (x : ℕ) → upd side at v x ≢ 0 → Tells at x → side x ≢ 0
  some_back x h (inl t) = subst (λ y. side y ≢ 0) t.1 old_some
  some_back x h (inr t) = λ e. h (upd_else side at v x t.1 ∙ e)

  filled_to : (a : ℕ) → Filled side a → Filled (upd side at v) a
  filled_to a (inl h) = inl h
  filled_to a (inr h) = inr (h.0, h.1, each_upd (λ w. w ≢ 0) side at v (marked_some v m) h.0 h.2, h.3)

  filled_back : (a : ℕ) → Filled (upd side at v) a → Filled side a
  filled_back a (inl h) = inl h
  filled_back a (inr h) = inr (h.0, h.1, some_back h.0 h.2 (eqb_tells at h.0), h.3)

  filled_same : (a : ℕ) → Filled side a ↔ Filled (upd side at v) a
  filled_same a = (filled_to a, filled_back a)

  beside : (taken : _) (a : ℕ) → (Filled side a ⊎ IsTakenWord taken a) ↔ (Filled (upd side at v) a ⊎ IsTakenWord taken a)
  beside taken a = (to, back)
    where
      to : Filled side a ⊎ IsTakenWord taken a → Filled (upd side at v) a ⊎ IsTakenWord taken a
      to (inl h) = inl (filled_to a h)
      to (inr h) = inr h

      back : Filled (upd side at v) a ⊎ IsTakenWord taken a → Filled side a ⊎ IsTakenWord taken a
      back (inl h) = inl (filled_back a h)
      back (inr h) = inr h

  headed_marked : Headed z g.born (shapes g) (upd side at v) (λ a. word (Body a))
  headed_marked = record {
    marks = λ k h. each_upd (λ w. IsMarked w) side at v m (shapes g k).address (r.headed.marks k h);
    headers = r.headed.headers;
    blank = λ a low none. upd_else side at v a (none n l) ∙ r.headed.blank a low none;
  }

  housed_marked : Housed z.sizes (Filled (upd side at v)) (λ p. word (Frame p)) page
  housed_marked = record {
    each = λ p low ne.
        let h = r.housed.each p low ne in
        let home = h.2 in (
          h.0,
          h.1,
          record {
            frame_is = home.frame_is;
            area_is = home.area_is;
            free_is = free_same (frame_span z.sizes p) (Filled side) (Filled (upd side at v)) h.0.free filled_same home.free_is;
            class_is = home.class_is;
            vacant = home.vacant;
            ready = home.ready;
            empty = home.empty;
          },
        );
  }

  handed_marked : Handed z.sizes (callers z.sizes) (Filled (upd side at v)) views.own views.taken (λ c. (views.rest c).sweep)
  handed_marked = record {
    each = λ c p o low e. free_same (frame_span z.sizes p) (λ a. Filled side a ⊎ IsTakenWord (views.taken c) a)
        (λ a. Filled (upd side at v) a ⊎ IsTakenWord (views.taken c) a) o.free (beside (views.taken c)) (r.handed.each c p o low e);
  }

  -- with the mark stored, the words and the views go on standing for the graph
  pub represents_marked : Represents z g (put word (Side at) v) page views
  represents_marked = record {
    timed = r.timed;
    headed = headed_marked;
    fielded = r.fielded;
    cleared = r.cleared;
    globaled = r.globaled;
    named = r.named;
    apart = r.apart;
    stated = r.stated;
    at_end = r.at_end;
    polling = r.polling;
    owners = r.owners;
    stopped = r.stopped;
    wanted = r.wanted;
    working = r.working;
    framed = r.framed;
    housed = housed_marked;
    handed = handed_marked;
    classed = r.classed;
    placed = r.placed;
    taken_in = r.taken_in;
  }
