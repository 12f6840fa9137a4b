-- A turn puts at most one entry of its caller behind the history.
use Rattle.std.proofs.Common.{ℕ, inl, inr, List, [], ◌∷◌, refl, sym, subst}
use Rattle.kn_graph.specs.declared.entries.Event.{Event}
use Rattle.kn_graph.specs.declared.entries.Entry.{Entry}
use Rattle.kn_rule.specs.Steps.{more}
use Rattle.kn_rule.specs.Outcomes.{outcome}
use Rattle.kn_board.specs.Room.{IsAtMostOne, IsOfKind}
use Rattle.kn_board.specs.World.{World, view_at}
use Rattle.kn_others.specs.Laws.{GrowsBy, HistoryGrows}
use Rattle.kn_board.proofs.Leavings.{outcome_leaves}

grows : (IsSort : Event → Type 0) (c : ℕ) (h says : List Entry) → IsAtMostOne IsSort c says → GrowsBy c h (more h says)
grows IsSort c h [] m = inl refl
grows IsSort c h (entry ∷ []) m = inr (entry, m.0, refl)
grows IsSort c h (entry ∷ next ∷ rest) m = absurd m

pub history_grows : HistoryGrows
history_grows w w' c (inl one) =
    let d = one.step in
    subst (λ (u : World). GrowsBy c w.history u.history) (sym one.kept.1.0)
    (grows (IsOfKind d.kind) c w.history (outcome w.heap c (view_at w c) d.place d.act one.found d.kind).says
    (outcome_leaves w.heap c (view_at w c) d.place d.act one.found d.kind).1)
history_grows w w' c (inr one) = subst (λ (u : World). GrowsBy c w.history u.history) (sym one.kept.1.0) (inl refl)
