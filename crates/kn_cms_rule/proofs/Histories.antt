-- Histories of the core, behind which one entry more stands.
use Rattle.std.proofs.Common.{◌≡◌, ℕ, ◌<◌, ◌≤◌, ◌⊎◌, ◌↔◌, inl, inr, Bool, true, false, Option, Some, None, List, []}
use Rattle.std.proofs.Common.{◌∷◌, ◌++◌}
use Rattle.std.proofs.Common.{refl, sym, ap, subst, ◌∙◌, append_assoc, arith}
use Rattle.std.proofs.lemmas.Bool.{cases_lt}
use Rattle.kn_graph.specs.declared.entries.Entry.{Entry}
use Rattle.kn_graph.specs.Ground.{Ground}
use Rattle.kn_graph.specs.Graph.{Graph, empty_graph, shapes, pointers}
use Rattle.kn_graph.specs.Reachable.{IsReachable}
use Rattle.kn_graph.specs.Histories.{Leads}
use Rattle.kn_graph.specs.Sound.{Alive, IsSound}
use Rattle.kn_graph.specs.Growth.{Succeeds, CondemnsNone}
use Rattle.kn_graph.specs.Epochs.{Happens}
use Rattle.kn_graph.proofs.LegalGraphs.{legal_sound, empty_sound}
use Rattle.kn_graph.proofs.OneEnd.{one_end}
use Rattle.kn_graph.proofs.Reached.{reachable_alive}
use Rattle.kn_graph.proofs.Successors.{succeeds_on}
use Rattle.kn_cms_rule.specs.Calls.{FullExactly, IsFullExactly}
use Rattle.kn_cms_rule.specs.MarkRule.{IsKept, IsNullOrKept, HoldKept}
use Rattle.kn_cms_rule.specs.Rule.{IsSince}
use Rattle.kn_cms_rule.specs.Steps.{pause_entry}
use Rattle.kn_cms_rule.proofs.Shades.{kept_more, kept_less}

pub not_nil : (before after : List Entry) (entry : Entry) → [] ≡ before ++ entry ∷ after → ⊥
not_nil [] after entry e = absurd (cc)
not_nil (b ∷ bs) after entry e = absurd (cc)

-- an entry of a longer history is one of the history, or the last one
last_or : (h before : List Entry) (x entry : Entry) (after : List Entry) → h ++ x ∷ [] ≡ before ++ entry ∷ after →
    ((rest : List Entry) × (h ≡ before ++ entry ∷ rest)) ⊎ ((before ≡ h) × (entry ≡ x))
last_or [] [] x entry after e = inr (refl, let same : x ≡ entry = cc in sym same)
last_or [] (b ∷ bs) x entry after e = absurd (not_nil bs after entry (let same : [] ≡ bs ++ entry ∷ after = cc in same))
last_or (a ∷ h) [] x entry after e = inl (h, let same : a ≡ entry = cc in ap (λ y. y ∷ h) same)
last_or (a ∷ h) (b ∷ bs) x entry after e = by (last_or h bs x entry after (let same : h ++ x ∷ [] ≡ bs ++ entry ∷ after = cc in same))
  where
    head : a ≡ b
    head = cc

    by : ((rest : List Entry) × (h ≡ bs ++ entry ∷ rest)) ⊎ ((bs ≡ h) × (entry ≡ x)) →
        ((rest : List Entry) × (a ∷ h ≡ b ∷ (bs ++ entry ∷ rest))) ⊎ ((b ∷ bs ≡ a ∷ h) × (entry ≡ x))
    by (inl p) = inl (p.0, let tail = p.1 in cc)
    by (inr p) = inr (let tail = p.0 in cc, p.1)

module _ (z : Ground) (h : List Entry) (g : Graph) (leads : Leads z empty_graph h g) (x : Entry) where
  pub happens_still : (before : List Entry) (entry : Entry) (at : Graph) → Happens z empty_graph h before entry at →
      Happens z empty_graph (h ++ x ∷ []) before entry at
  happens_still before entry at p = record {
    after = p.after ++ x ∷ [];
    whole = ap (λ (l : List Entry). l ++ x ∷ []) p.whole ∙ append_assoc before (entry ∷ p.after) (x ∷ []);
    leads = p.leads;
  }

  -- each birth is `full` exactly where there is no room, and so is the last one
  pub full_more : FullExactly z h → IsFullExactly z g x.what → FullExactly z (h ++ x ∷ [])
  full_more full last before entry at p = by (last_or h before x entry p.after p.whole)
    where
      by : ((rest : List Entry) × (h ≡ before ++ entry ∷ rest)) ⊎ ((before ≡ h) × (entry ≡ x)) → IsFullExactly z at entry.what
      by (inl q) = full before entry at (record { after = q.0; whole = q.1; leads = p.leads })
      by (inr q) =
          let same : at ≡ g = one_end z h empty_graph at g (empty_sound z) (subst (λ (l : List Entry). Leads z empty_graph l at) q.0 p.leads) leads in
          subst (λ (k : Graph). IsFullExactly z k entry.what) (sym same) (subst (λ (y : Entry). IsFullExactly z g y.what) (sym q.1) last)

must_be : (a b : Bool) → (a ≡ true → b ≡ true) → b ≡ false → a ≡ false
must_be true b f e = let same = f refl in absurd (cc)
must_be false b f e = refl

pub must_not : (b : Bool) → (b ≡ true → ⊥) → b ≡ false
must_not true f = absurd (f refl)
must_not false f = refl

pub true_not_false : (b : Bool) → b ≡ true → b ≡ false → ⊥
true_not_false b e f = let h : true ≡ false = sym e ∙ f in absurd (cc)

-- since the snapshot
module _ (z : Ground) (g : Graph) (h : List Entry) (at : Graph) (since : IsSince z g h at) where
  pub at_sound : IsSound z at
  at_sound = legal_sound z since.before at since.paused_at.leads

  pub at_reached : (n : ℕ) → IsReachable at n → n < at.born
  at_reached n q = (reachable_alive z at at_sound n q).0

  pub kept_born : (n : ℕ) → IsKept at g.born n → n < g.born
  kept_born n (inl q) = let near = at_reached n q in let more = since.succeeds.born in omega arith
  kept_born n (inr p) = p.1

  -- what a local, a global or a field of a kept object holds is kept
  module _ (s : IsSound z g) where
    alive_kept : (v : Option ℕ) → Alive g.born (shapes g) v → IsNullOrKept at g.born v
    alive_kept None a = tt
    alive_kept (Some n) a = (since.flags n a.0).0 a.1

    pub hold_kept : HoldKept at g.born g.local g.global (pointers g)
    hold_kept = record {
      locals = λ i q. alive_kept (g.local i q) (s.roots.locals i q);
      globals = λ i. alive_kept (g.global i) (s.roots.globals i);
      fields = λ n f k. let near = kept_born n k in alive_kept (pointers g n f) ((s.fields n near).values ((since.flags n near).1 k) f);
    }

  -- the graph goes on, and no object is condemned
  module _ (x : Entry) (g' : Graph) (leads : Leads z empty_graph h g) (succeeds : Succeeds g g') (none : CondemnsNone g g') where
    flags_at : (n : ℕ) → n < g'.born → (n < g.born) ⊎ (g.born ≤ n) → ((g'.object n).condemned ≡ false) ↔ IsKept at g'.born n
    flags_at n near (inl old) = (
      λ e. kept_more at g.born g'.born succeeds.born n
          ((since.flags n old).0 (must_be (g.object n).condemned (g'.object n).condemned (succeeds.objects n old).condemned e)),
      λ k. must_not (g'.object n).condemned (λ e. true_not_false (g.object n).condemned (none n near e).1
          ((since.flags n old).1 (kept_less at g.born g'.born n old k))),
    )
    flags_at n near (inr new) = (
      λ e. let more = since.succeeds.born in inr (omega arith, near),
      λ k. must_not (g'.object n).condemned (λ e. let old = (none n near e).0 in absurd (omega arith)),
    )

    pub since_more : IsSince z g' (h ++ x ∷ []) at
    since_more = record {
      before = since.before;
      paused_at = happens_still z h g leads x since.before (pause_entry z) at since.paused_at;
      succeeds = succeeds_on at g g' since.succeeds succeeds;
      nameless = since.nameless;
      flags = λ n near. flags_at n near (cases_lt n g.born);
    }
