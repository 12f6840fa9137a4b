-- The clauses on stops and on the epoch wanted, where one caller's part changes.
use Rattle.std.proofs.Common.{◌≡◌, ℕ, zero, suc, ◌+◌, ◌<◌, ◌≤◌, inl, inr, Bool, true, List, [], ◌∷◌, ◌++◌, length}
use Rattle.std.proofs.Common.{Option, Some, None, slice_get}
use Rattle.std.proofs.Common.{slice_index, sum, count_by, cond, refl, subst, ap, ◌∙◌, arith}
use Rattle.std.proofs.lemmas.Bool.Decides.{eqb_tells}
use Rattle.std.proofs.lemmas.List.Sums.{sum_by-cons, sum_by-append, count_by-le-length}
use Rattle.std.proofs.lemmas.List.Elements.{Contains-append_left}
use Rattle.kn_base.specs.declared.kinds.Code.{Code}
use Rattle.kn_base.specs.declared.kinds.Code.TheVariants as codes
use Rattle.kn_base.specs.Functions.{upd, Tells}
use Rattle.kn_base.proofs.Updates.{upd_case}
use Rattle.kn_graph.specs.declared.entries.Entry.{Entry}
use Rattle.kn_graph.specs.Ground.{Ground, IsGoodGround}
use Rattle.kn_graph.specs.Graph.{Graph}
use Rattle.kn_graph.specs.Logs.{call_in, calls_of}
use Rattle.kn_graph.proofs.Splits.{calls_of-append}
use Rattle.kn_rule.specs.declared.positions.Position.{Position}
use Rattle.kn_rule.specs.declared.positions.Position.TheVariants.{Calling}
use Rattle.kn_rule.specs.Decoding.{phase_of}
use Rattle.kn_rule.specs.Phases.{is_run, is_stop}
use Rattle.kn_rule.specs.HistoryClauses.{Told, under_way}
use Rattle.kn_rule.specs.CallerClauses.{IsInOrLeaving, IsStill, Stopped, IsTargetOf, is_collect, targets_had, Wanted}
use Rattle.kn_marking.specs.Totals.{total}

-- a run phase is no stop, and callers do not stand still in it
no_still : (c : Code) → is_run c ≡ true → ¬ IsStill c
no_still codes.Mark e h = cc
no_still codes.Prep e h = cc
no_still _ e h = h

no_stop : (c : Code) → is_run c ≡ true → is_stop c ≡ true → ⊥
no_stop codes.StopA e h = cc
no_stop codes.StopB e h = cc
no_stop codes.Idle e h = cc
no_stop codes.Mark e h = cc
no_stop codes.Weak e h = cc
no_stop codes.Prep e h = cc
no_stop codes.Sweep e h = cc

-- in a run phase callers may stand anywhere
pub stopped_run : (z : Ground) (phase : ℕ) (position : ℕ → Position) (counted : ℕ → List Bool) → is_run (phase_of phase).code ≡ true →
    Stopped z phase position counted
stopped_run z phase position counted e = record {
  still = λ h. absurd (no_still (phase_of phase).code e h);
  stopping = λ h. absurd (no_stop (phase_of phase).code e h);
}

-- one caller moves, and is in or leaving only where it was
pub stopped_at : (z : Ground) (position : ℕ → Position) (by : ℕ) (q : Position) (phase : ℕ) (counted : ℕ → List Bool) →
    Stopped z phase position counted → (by < z.sizes.threads → IsInOrLeaving q → IsInOrLeaving (position by)) →
    Stopped z phase (upd position by q) counted
stopped_at z position by q phase counted r f = record {
  still = λ h i l. upd_case (λ k p. k < z.sizes.threads → ¬ IsInOrLeaving p) position by q (λ l x. r.still h by l (f l x)) i
      (λ _ l. r.still h i l) l;
  stopping = λ h i l e. upd_case (λ k p. k < z.sizes.threads → slice_get (counted z.sizes.threads) k ≡ Some true → ¬ IsInOrLeaving p)
      position by q (λ l e x. r.stopping h by l e (f l x)) i (λ _ l e. r.stopping h i l e) l e;
}

-- a sum with greater terms is greater
pub total_grows : (n : ℕ) (f g : ℕ → ℕ) → ((i : ℕ) → i < n → f i ≤ g i) → total n f ≤ total n g
total_grows zero f g h = omega arith
total_grows (suc n) f g h =
    let a = h n (omega arith) in let b = total_grows n f g (λ i l. h i (omega arith)) in omega (arith, a, b)

-- no target is lost
pub wanted_more : (z : Ground) (phase want loaded : ℕ) (target target' : ℕ → Option ℕ) (log log' : ℕ → List Entry) →
    Wanted z phase want target log loaded →
    ((c e : ℕ) → c < z.sizes.threads → IsTargetOf e (target c) (log c) → IsTargetOf e (target' c) (log' c)) →
    ((c : ℕ) → c < z.sizes.threads → targets_had (target c) (log c) ≤ targets_had (target' c) (log' c)) →
    Wanted z phase want target' log' loaded
wanted_more z phase want loaded target target' log log' r keeps grows = record {
  reached = r.reached;
  known = r.known;
  targets = λ e a b. let t = r.targets e a b in (t.0, t.1, keeps t.0 e t.1 t.2);
  few = let a = total_grows z.sizes.threads (λ c. targets_had (target c) (log c)) (λ c. targets_had (target' c) (log' c)) grows in
      let b = r.few in omega (arith, a, b);
}

target_kept : (e : ℕ) (t : Option ℕ) (log more : List Entry) → IsTargetOf e t log → IsTargetOf e t (log ++ more)
target_kept e t log more (inl h) = inl h
target_kept e t log more (inr h) = inr (h.0, Contains-append_left log more h.0 h.1, h.2)

-- one entry more adds the `gc` that it answers, if it does
pub collects_more : (log : List Entry) (entry : Entry) →
    count_by is_collect (calls_of (log ++ entry ∷ [])) ≡ count_by is_collect (calls_of log) + count_by is_collect (call_in entry.what)
collects_more log entry =
    ap (count_by is_collect) (calls_of-append log entry) ∙ sum_by-append (λ call. cond (is_collect call) 1 0) (calls_of log) (call_in entry.what)

had_more : (t : Option ℕ) (log : List Entry) (entry : Entry) → targets_had t log ≤ targets_had t (log ++ entry ∷ [])
had_more None log entry = let more = collects_more log entry in omega (arith, more)
had_more (Some n) log entry = let more = collects_more log entry in omega (arith, more)

-- a caller's log gets one entry more
pub wanted_said : (z : Ground) (phase want loaded : ℕ) (target : ℕ → Option ℕ) (log : ℕ → List Entry) (by : ℕ) (entry : Entry) →
    Wanted z phase want target log loaded → Wanted z phase want target (upd log by (log by ++ entry ∷ [])) loaded
wanted_said z phase want loaded target log by entry r =
    wanted_more z phase want loaded target target log (upd log by (log by ++ entry ∷ [])) r
    (λ c e l. upd_case (λ k x. IsTargetOf e (target k) (log k) → IsTargetOf e (target k) x) log by (log by ++ entry ∷ [])
    (target_kept e (target by) (log by) (entry ∷ [])) c (λ _ h. h))
    (λ c l. upd_case (λ k x. targets_had (target k) (log k) ≤ targets_had (target k) x) log by (log by ++ entry ∷ [])
    (had_more (target by) (log by) entry) c (λ _. omega arith))

-- a sum with one term greater, and no other less, is greater
pub total_more : (n : ℕ) (f g : ℕ → ℕ) (k : ℕ) → k < n → f k + 1 ≤ g k → ((i : ℕ) → i < n → f i ≤ g i) → total n f + 1 ≤ total n g
total_more zero f g k l more each = absurd (omega (arith, l))
total_more (suc n) f g k l more each =
    at (eqb_tells k n) (λ m. total_more n f g k m more (λ i m. each i (omega (arith, m))))
  where
    at : Tells k n → (k < n → total n f + 1 ≤ total n g) → total (suc n) f + 1 ≤ total (suc n) g
    at (inl t) below =
        let rest = total_grows n f g (λ i m. each i (omega (arith, m))) in
        let here : f n + 1 ≤ g n = subst (λ j. f j + 1 ≤ g j) t.1 more in omega (arith, rest, here)
    at (inr t) below =
        let ne = t.1 in
        let rest = below (omega (arith, l, ne)) in
        let here = each n (omega arith) in omega (arith, rest, here)

total_front : (n : ℕ) (f : ℕ → ℕ) → total (suc n) f ≡ f 0 + total n (λ i. f (suc i))
total_front zero f = omega arith
total_front (suc n) f = let more = total_front n f in omega (arith, more)

total_none : (n : ℕ) → total n (λ i. slice_index [] i) ≡ 0
total_none zero = refl
total_none (suc n) = let none = total_none n in omega (arith, none)

-- the first numbers of a list make at most its sum
total_listed : (l : List ℕ) (n : ℕ) → total n (λ i. slice_index l i) ≤ sum l
total_listed [] n = let none = total_none n in omega (arith, none)
total_listed (x ∷ l) zero = omega arith
total_listed (x ∷ l) (suc n) =
    let front = total_front n (λ i. slice_index (x ∷ l) i) in
    let more = total_listed l n in
    let cons = sum_by-cons (λ (y : ℕ). y) x l in omega (arith, front, more, cons)

under_some : (q : Position) (n : ℕ) → under_way q (Some n) ≡ 1
under_some (Calling call) n = refl
under_some _ n = refl

had_few : (q : Position) (t : Option ℕ) (log : List Entry) (calls : ℕ) → length (calls_of log) + under_way q t ≡ calls → targets_had t log ≤ calls
had_few q None log calls e = let few = count_by-le-length is_collect (calls_of log) in omega (arith, e, few)
had_few q (Some n) log calls e = let few = count_by-le-length is_collect (calls_of log) in let one = under_some q n in omega (arith, e, one, few)

-- no more epochs are wanted than there are calls
pub want_few : (z : Ground) (g : Graph) (h : List Entry) (log : ℕ → List Entry) (position : ℕ → Position) (target : ℕ → Option ℕ)
    (calls births : ℕ → ℕ) (phase want loaded : ℕ) → IsGoodGround z → Told z g h log position target calls births →
    Wanted z phase want target log loaded → want ≤ 16384
want_few z g h log position target calls births phase want loaded good told r =
    let most = total_grows z.sizes.threads (λ c. targets_had (target c) (log c)) (λ c. slice_index z.sizes.calls c)
    (λ c l. let fit = told.calls_fit c l in let few = had_few (position c) (target c) (log c) (calls c) (told.calls_are c l) in omega (arith, fit, few)) in
    let listed = total_listed z.sizes.calls z.sizes.threads in
    let few = r.few in let limit = good.sizes.of_threads.calls in omega (arith, most, listed, few, limit)
