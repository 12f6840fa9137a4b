-- No two entries of a legal history finalize one object.
use Rattle.std.proofs.Common.{◌≡◌, ℕ, ◌<◌, ◌⊎◌, inl, inr, List, [], ◌∷◌, ◌++◌, Option, Some, None, refl, sym, subst, ap, ◌∙◌}
use Rattle.std.proofs.Common.{arith}
use Rattle.kn_base.specs.Functions.{upd}
use Rattle.kn_base.proofs.Updates.{upd_here}
use Rattle.kn_graph.specs.declared.entries.Event.{Event}
use Rattle.kn_graph.specs.declared.entries.Entry.{Entry}
use Rattle.kn_graph.specs.Ground.{Ground}
use Rattle.kn_graph.specs.Graph.{Graph, Object, empty_graph, with_entered}
use Rattle.kn_graph.specs.Collections.{FinalizeFollows}
use Rattle.kn_graph.specs.Histories.{Leads, Follows, EventFollows}
use Rattle.kn_graph.specs.Sound.{IsSound}
use Rattle.kn_graph.specs.Epochs.{Happens, Finalizes}
use Rattle.kn_graph.proofs.Addresses.{one_named}
use Rattle.kn_graph.proofs.LegalGraphs.{next_sound, legal_sound, empty_sound}
use Rattle.kn_graph.proofs.OneEnd.{one_end}
use Rattle.kn_graph.proofs.Splits.{cut}
use Rattle.kn_graph.proofs.Successors.{next_succeeds, leads_succeeds}

-- two places of a list are one, or the first is before the second, or the second before the first
two_places : (b c : List Entry) (x y : Entry) (a d : List Entry) → b ++ x ∷ a ≡ c ++ y ∷ d →
    (b ≡ c) ⊎ (((m : List Entry) × (c ≡ b ++ x ∷ m)) ⊎ ((m : List Entry) × (b ≡ c ++ y ∷ m)))
two_places [] [] x y a d e = inl refl
two_places [] (v ∷ c) x y a d e = let same : v ≡ x = cc in inr (inl (c, ap (λ (k : Entry). k ∷ c) same))
two_places (u ∷ b) [] x y a d e = let same : u ≡ y = cc in inr (inr (b, ap (λ (k : Entry). k ∷ b) same))
two_places (u ∷ b) (v ∷ c) x y a d e = under (two_places b c x y a d (let rest : b ++ x ∷ a ≡ c ++ y ∷ d = cc in rest))
  where
    same : u ≡ v
    same = cc

    under : (b ≡ c) ⊎ (((m : List Entry) × (c ≡ b ++ x ∷ m)) ⊎ ((m : List Entry) × (b ≡ c ++ y ∷ m))) →
        (u ∷ b ≡ v ∷ c) ⊎ (((m : List Entry) × (v ∷ c ≡ (u ∷ b) ++ x ∷ m)) ⊎ ((m : List Entry) × (u ∷ b ≡ (v ∷ c) ++ y ∷ m)))
    under (inl f) = inl (cc (same, f))
    under (inr (inl p)) = inr (inl (p.0, cc (same, p.1)))
    under (inr (inr p)) = inr (inr (p.0, cc (same, p.1)))

module _ (z : Ground) where
  -- the entry behind the entries `before`
  next_of : (h before after : List Entry) (entry : Entry) (g last : Graph) → Leads z empty_graph h last → Leads z empty_graph before g →
      h ≡ before ++ entry ∷ after → (mid : Graph) × Follows z entry g mid × Leads z mid after last
  next_of h before after entry g last l b e =
      let c = cut z before (entry ∷ after) empty_graph last (subst (λ (x : List Entry). Leads z empty_graph x last) e l) in
      let same : c.0 ≡ g = one_end z before empty_graph c.0 g (empty_sound z) c.1 b in
      subst (λ (x : Graph). Leads z x (entry ∷ after) last) same c.2

  module _ (g : Graph) (s : IsSound z g) (entry : Entry) (n : ℕ) (f : Finalizes entry g n) (g' : Graph) (next : Follows z entry g g') where
    finalization : FinalizeFollows f.address f.cleaner f.number g next.graph
    finalization = (subst (λ (x : Event). EventFollows z entry.by.0 entry.epoch x g next.graph) f.is_finalized next.event).1

    same_object : finalization.object ≡ n
    same_object = one_named z g s f.address finalization.object n finalization.named f.named

    not_before : (g.object n).finalized ≡ None
    not_before = subst (λ (k : ℕ). (g.object k).finalized ≡ None) same_object finalization.new

    from_then : (g'.object n).finalized ≡ Some g.paused
    from_then =
        let k = finalization.object in
        let new : Object = record (g.object k) { finalized = Some g.paused } in
        ap (λ (x : Graph). (x.object n).finalized) (next.after ∙ ap (λ (x : Graph). with_entered x entry.by.0 entry.epoch) finalization.after)
        ∙ (ap (λ (j : ℕ). (upd g.object k new j).finalized) (sym same_object) ∙ ap (λ (o : Object). o.finalized) (upd_here g.object k new))

  module _ (h : List Entry) (last : Graph) (l : Leads z empty_graph h last) (n : ℕ) where
    -- not at two places, the first before the second
    not_twice : (b c : List Entry) (x y : Entry) (g g' : Graph) (m : List Entry) → Happens z empty_graph h b x g → Happens z empty_graph h c y g' →
        Finalizes x g n → Finalizes y g' n → c ≡ b ++ x ∷ m → ⊥
    not_twice b c x y g g' m p q f f' e =
        let r = next_of c b m x g g' q.leads p.leads e in
        let r' = next_of h c q.after y g' last l q.leads q.whole in
        let s = legal_sound z b g p.leads in
        let near : n < r.0.born = omega (arith, f.named.lives.0, (next_succeeds z x g r.0 s r.1).born) in
        let still = ((leads_succeeds z m r.0 g' (next_sound z x g r.0 s r.1) r.2).objects n near).finalized g.paused (from_then g s x n f r.0 r.1) in
        let h : ◌≡◌ {A = Option ℕ} None (Some g.paused) = sym (not_before g' (legal_sound z c g' q.leads) y n f' r'.0 r'.1) ∙ still in absurd (cc)

    pub finalized_once : (b c : List Entry) (x y : Entry) (g g' : Graph) → Happens z empty_graph h b x g → Happens z empty_graph h c y g' →
        Finalizes x g n → Finalizes y g' n → b ≡ c
    finalized_once b c x y g g' p q f f' = at (two_places b c x y p.after q.after (sym p.whole ∙ q.whole))
      where
        at : (b ≡ c) ⊎ (((m : List Entry) × (c ≡ b ++ x ∷ m)) ⊎ ((m : List Entry) × (b ≡ c ++ y ∷ m))) → b ≡ c
        at (inl e) = e
        at (inr (inl e)) = absurd (not_twice b c x y g g' e.0 p q f f' e.1)
        at (inr (inr e)) = absurd (not_twice c b y x g' g e.0 q p f' f e.1)
