-- How long a history of calls and pauses is.
use Rattle.std.proofs.Common.{◌≡◌, ℕ, ◌+◌, ◌-◌, ◌*◌, ◌<◌, ◌≤◌, ◌==◌, ◌∙◌, ne_eqb, cond, List, [], ◌∷◌, length}
use Rattle.std.proofs.Common.{slice_index, slice_set, sum, eq-eqb, true, false, refl, sym, ap, inl, inr, arith}
use Rattle.std.proofs.lemmas.Bool.Decides.{eqb_tells}
use Rattle.std.proofs.lemmas.List.{get_or-set_other, length-append, length-set}
use Rattle.std.proofs.lemmas.List.Sums.{sum_by-set, sum_by-cons}
use Rattle.std.proofs.lemmas.Grind.{get_or-set_at}
use Rattle.kn_base.specs.declared.limits.TheConstants.{MOST_CALLS}
use Rattle.kn_base.specs.Functions.{Tells}
use Rattle.kn_base.specs.declared.kinds.Code.{Code}
use Rattle.kn_base.specs.declared.kinds.Code.TheVariants as codes
use Rattle.kn_base.specs.declared.phase_word.PhaseWord.{PhaseWord}
use Rattle.kn_base.specs.declared.places.Place.TheVariants.{Phase, Want}
use Rattle.kn_graph.specs.declared.entries.Event.{Event}
use Rattle.kn_graph.specs.declared.entries.Event.TheVariants as events
use Rattle.kn_graph.specs.declared.entries.Entry.{Entry}
use Rattle.kn_graph.specs.Ground.{Ground, IsGoodGround}
use Rattle.kn_graph.specs.Graph.{empty_graph}
use Rattle.kn_graph.specs.Counts.{how_many, is_pause}
use Rattle.kn_graph.proofs.Counted.{pauses_counted}
use Rattle.kn_graph.proofs.LegalGraphs.{empty_sound}
use Rattle.kn_graph.specs.Logs.{log_of, calls_of, call_in}
use Rattle.kn_rule.specs.Decoding.{phase_of}
use Rattle.kn_rule.specs.Phases.{pauses}
use Rattle.kn_rule.specs.Views.{State, Views, views_of}
use Rattle.kn_rule.specs.Rule.{Rule}
use Rattle.kn_keep_heap.proofs.Wants.{want_few}
use Rattle.kn_board.specs.Room.{IsMadeBy, AreMade}

-- an entry in front of a history is in the log of its caller, and in no other
log_here : (c : ℕ) (entry : Entry) (rest : List Entry) → (entry.by.0 == c) ≡ true → log_of c (entry ∷ rest) ≡ entry ∷ log_of c rest
log_here c entry rest e = ap (λ b. cond b (entry ∷ log_of c rest) (log_of c rest)) e

log_else : (c : ℕ) (entry : Entry) (rest : List Entry) → (entry.by.0 == c) ≡ false → log_of c (entry ∷ rest) ≡ log_of c rest
log_else c entry rest e = ap (λ b. cond b (entry ∷ log_of c rest) (log_of c rest)) e

-- a history has no more calls than the limits of all its callers together allow, where each log is within the limit of its caller;
-- and beside them it has pauses
within_limits : (threads : ℕ) (history : List Entry) (limits : List ℕ) → threads ≤ length limits → AreMade threads history
    → ((c : ℕ) → c < threads → length (log_of c history) ≤ slice_index limits c) → length history ≤ sum limits + how_many is_pause history
within_limits threads [] limits wide made fit = omega arith
within_limits threads (entry ∷ rest) limits wide made fit =
    by_event (λ limits' w f. within_limits threads rest limits' w made.1 f) entry.what refl made.0
  where
    counted : (what : Event) → entry.what ≡ what → how_many is_pause (entry ∷ rest) ≡ cond (is_pause what) 1 0 + how_many is_pause rest
    counted what e = sum_by-cons (λ (x : Entry). cond (is_pause x.what) 1 0) entry rest ∙ ap (λ x. cond (is_pause x) 1 0 + how_many is_pause rest) e

    fits : entry.by.0 < threads → (c : ℕ) → c < threads → Tells entry.by.0 c
        → length (log_of c rest) ≤ slice_index (slice_set limits entry.by.0 (slice_index limits entry.by.0 - 1)) c
    fits near c h (inl t) =
        let left = slice_index limits entry.by.0 - 1 in
        let one = fit c h in
        let here = ap (λ xs. length xs) (log_here c entry rest t.0) in
        let is : slice_index (slice_set limits entry.by.0 left) c ≡ left =
        get_or-set_at limits entry.by.0 c left 0 (sym t.1) (omega (arith, near)) in
        let same : slice_index limits entry.by.0 ≡ slice_index limits c = ap (slice_index limits) t.1 in
        omega (arith, one, here, is, same)
    fits near c h (inr t) =
        let left = slice_index limits entry.by.0 - 1 in
        let one = fit c h in
        let here = ap (λ xs. length xs) (log_else c entry rest t.0) in
        let is : slice_index (slice_set limits entry.by.0 left) c ≡ slice_index limits c =
        get_or-set_other limits entry.by.0 c left 0 (λ e. t.1 (sym e)) in
        omega (arith, one, here, is)

    call_bounded : ((limits' : List ℕ) → threads ≤ length limits' → ((c : ℕ) → c < threads → length (log_of c rest) ≤ slice_index limits' c) →
        length rest ≤ sum limits' + how_many is_pause rest) → entry.by.0 < threads → how_many is_pause (entry ∷ rest) ≡ 0 + how_many is_pause rest →
        length (entry ∷ rest) ≤ sum limits + how_many is_pause (entry ∷ rest)
    call_bounded rests near none =
        let by = entry.by.0 in
        let left = slice_index limits by - 1 in
        let near' : by < length limits = omega (arith, near) in
        let here : length (log_of by (entry ∷ rest)) ≡ 1 + length (log_of by rest) =
        let log = ap (λ xs. length xs) (log_here by entry rest (eq-eqb by by refl)) in omega (arith, log) in
        let one = fit by near in
        let less = sum_by-set (λ (n : ℕ). n) limits by left 0 near' in
        let later = rests (slice_set limits by left)
        (omega (arith, length-set limits by left)) (λ c h. fits near c h (eqb_tells by c)) in
        omega (arith, less, later, one, here, none)

    pause_bounded : ((limits' : List ℕ) → threads ≤ length limits' →
        ((c : ℕ) → c < threads → length (log_of c rest) ≤ slice_index limits' c) →
        length rest ≤ sum limits' + how_many is_pause rest) → entry.by.0 ≡ threads → how_many is_pause
        (entry ∷ rest) ≡ 1 + how_many is_pause rest →
        length (entry ∷ rest) ≤ sum limits + how_many is_pause (entry ∷ rest)
    pause_bounded rests by one =
        let later = rests limits wide (λ c h.
        let here = ap (λ xs. length xs) (log_else c entry rest (ne_eqb entry.by.0 c (λ e. (let u : c < threads = h in omega (arith, u, e, by))))) in
        omega (arith, here, fit c h)) in
        omega (arith, later, one)

    by_event : ((limits' : List ℕ) → threads ≤ length limits' → ((c : ℕ) → c < threads → length (log_of c rest) ≤ slice_index limits' c) →
        length rest ≤ sum limits' + how_many is_pause rest) → (what : Event) → entry.what ≡ what → IsMadeBy threads entry.by.0 what →
        length (entry ∷ rest) ≤ sum limits + how_many is_pause (entry ∷ rest)
    by_event rests (events.Call call reply address) e m = call_bounded rests m (counted (events.Call call reply address) e)
    by_event rests (events.Pause n) e m = pause_bounded rests m (counted (events.Pause n) e)
    by_event rests (events.Released a) e m = absurd m
    by_event rests (events.Queued a) e m = absurd m
    by_event rests (events.Finalized a k n) e m = absurd m
    by_event rests (events.Done n) e m = absurd m

-- the log of a thread in a history of calls and pauses has as many calls as entries
all_calls : (threads c : ℕ) (history : List Entry) → c < threads → AreMade threads history →
    length (calls_of (log_of c history)) ≡ length (log_of c history)
all_calls threads c [] near made = refl
all_calls threads c (entry ∷ rest) near made = at (all_calls threads c rest near made.1) (eqb_tells entry.by.0 c)
  where
    one : (what : Event) → entry.by.0 ≡ c → IsMadeBy threads entry.by.0 what → length (call_in what) ≡ 1
    one (events.Call call reply address) e m = refl
    one (events.Pause n) e m = absurd (omega (arith, e, m, near))
    one (events.Released a) e m = absurd m
    one (events.Queued a) e m = absurd m
    one (events.Finalized a k n) e m = absurd m
    one (events.Done n) e m = absurd m

    at : length (calls_of (log_of c rest)) ≡ length (log_of c rest) → Tells entry.by.0 c
        → length (calls_of (log_of c (entry ∷ rest))) ≡ length (log_of c (entry ∷ rest))
    at later (inl t) =
        rw (log_here c entry rest t.0)
        (omega (arith, later, length-append (call_in entry.what) (calls_of (log_of c rest)), one entry.what t.1 made.0))
    at later (inr t) = rw (log_else c entry rest t.0) later

pauses_most : (v : PhaseWord) → pauses v ≤ v.epoch
pauses_most v = at v.code v.epoch
  where
    at : (c : Code) (e : ℕ) → pauses (record { epoch = e; code = c }) ≤ e
    at codes.StopA e = omega arith
    at codes.Mark e = omega arith
    at _ e = omega arith

-- where the rule holds, a history of calls and pauses has no more calls than the limit on the calls of a run, and no more pauses
pub histories_fit : (z : Ground) → IsGoodGround z → (s : State) → Rule z s → AreMade z.sizes.threads s.history → length s.history ≤ 2 * MOST_CALLS
histories_fit z good s rule made =
    let told = rule.1.told in
    let threads = z.sizes.threads in
    let limits = z.sizes.calls in
    let fit : (c : ℕ) → c < threads → length (log_of c s.history) ≤ slice_index limits c = λ c h.
    let log = ap (λ xs. length (calls_of xs)) (told.logs c (omega arith)) in
    let few = told.calls_fit c h in
    let are = told.calls_are c h in
    omega (arith, log, few, are, all_calls threads c s.history h made) in
    let wide : threads ≤ length limits = omega (arith, good.sizes.of_threads.threads.1, good.sizes.of_threads.lists.0) in
    let all = within_limits threads s.history limits wide made fit in
    let pauses_are = pauses_counted z s.history empty_graph rule.0 (empty_sound z) told.leads in
    let now = rule.1.stands.timed.now in
    let most = pauses_most (phase_of (s.word Phase)) in
    let reached = rule.1.stands.wanted.reached in
    let v : Views = views_of s.caller in
    let few = want_few z rule.0 s.history v.log v.position v.target v.calls v.births (s.word Phase) (s.word Want)
    (v.rest z.sizes.threads).collecting.wanted good told rule.1.stands.wanted in
    omega (arith, all, good.sizes.of_threads.calls, pauses_are, now, most, reached, few)
