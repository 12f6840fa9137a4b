-- A history cut in two, and a history with one entry more.
use Rattle.std.proofs.Common.{◌≡◌, ℕ, ◌+◌, List, [], ◌∷◌, ◌++◌, Bool, true, false, cond, eqb, refl, sym, subst, ap, ◌∙◌, append-nil}
use Rattle.std.proofs.lemmas.Grind.{flat_map-append}
use Rattle.std.proofs.lemmas.List.Elements.{filter-append}
use Rattle.std.proofs.lemmas.List.Sums.{sum_by-append}
use Rattle.kn_graph.specs.declared.calls.Call.{Call}
use Rattle.kn_graph.specs.declared.calls.Reply.{Reply}
use Rattle.kn_graph.specs.declared.entries.Entry.{Entry}
use Rattle.kn_graph.specs.Ground.{Ground}
use Rattle.kn_graph.specs.Graph.{Graph}
use Rattle.kn_graph.specs.Histories.{Leads, Follows}
use Rattle.kn_graph.specs.Logs.{log_of, calls_of, call_in, replies_of, reply_in}
use Rattle.kn_graph.specs.Counts.{makes_object, births_among}

module _ (z : Ground) where
  pub cut : (h k : List Entry) (g g' : Graph) → Leads z g (h ++ k) g' → (mid : Graph) × Leads z g h mid × Leads z mid k g'
  cut [] k g g' l = (g, refl, l)
  cut (e ∷ h) k g g' l = let rest = cut h k l.0 g' l.2 in (rest.0, (l.0, l.1, rest.1), rest.2)

  pub joined : (h k : List Entry) (g mid g' : Graph) → Leads z g h mid → Leads z mid k g' → Leads z g (h ++ k) g'
  joined [] k g mid g' l r = subst (λ (x : Graph). Leads z x k g') (sym l) r
  joined (e ∷ h) k g mid g' l r = (l.0, l.1, joined h k l.0 mid g' l.2 r)

  pub appended : (h : List Entry) (entry : Entry) (g mid g' : Graph) → Leads z g h mid → Follows z entry mid g' → Leads z g (h ++ entry ∷ []) g'
  appended h entry g mid g' l f = joined h (entry ∷ []) g mid g' l (g', f, refl)

kept_if : (b : Bool) (xs : List Entry) (entry : Entry) → xs ++ cond b (entry ∷ []) [] ≡ cond b (xs ++ entry ∷ []) xs
kept_if true xs entry = refl
kept_if false xs entry = append-nil xs

pub log_of-append : (by : ℕ) (h : List Entry) (entry : Entry) →
    log_of by (h ++ entry ∷ []) ≡ cond (eqb entry.by.0 by) (log_of by h ++ entry ∷ []) (log_of by h)
log_of-append by h entry = filter-append (λ (x : Entry). eqb x.by.0 by) h (entry ∷ []) ∙ kept_if (eqb entry.by.0 by) (log_of by h) entry

pub calls_of-append : (h : List Entry) (entry : Entry) → calls_of (h ++ entry ∷ []) ≡ calls_of h ++ call_in entry.what
calls_of-append h entry =
    flat_map-append (λ (x : Entry). call_in x.what) h (entry ∷ []) ∙ ap (λ (l : List Call). calls_of h ++ l) (append-nil (call_in entry.what))

pub replies_of-append : (h : List Entry) (entry : Entry) → replies_of (h ++ entry ∷ []) ≡ replies_of h ++ reply_in entry.what
replies_of-append h entry =
    flat_map-append (λ (x : Entry). reply_in x.what) h (entry ∷ []) ∙ ap (λ (l : List Reply). replies_of h ++ l) (append-nil (reply_in entry.what))

pub births_of-append : (h : List Entry) (entry : Entry) →
    births_among (calls_of (h ++ entry ∷ [])) ≡ births_among (calls_of h) + births_among (call_in entry.what)
births_of-append h entry = ap births_among (calls_of-append h entry)
    ∙ sum_by-append (λ c. cond (makes_object c) 1 0) (calls_of h) (call_in entry.what)
