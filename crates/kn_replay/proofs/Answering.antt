-- What the plain program answers is what the model allows.
use Rattle.std.proofs.Common.{◌≡◌, ◌≢◌, ℕ, ◌<◌, inl, inr, Bool, true, false, cond, Option, Some, None, refl, sym, ap, subst, ◌∙◌}
use Rattle.std.proofs.lemmas.Bool.{true≢false}
use Rattle.kn_graph.specs.declared.calls.Call.{Call}
use Rattle.kn_graph.specs.declared.calls.Call.TheVariants.{New, NewArray, Tie, Collect}
use Rattle.kn_graph.specs.declared.calls.Reply.{Reply}
use Rattle.kn_graph.specs.declared.calls.Reply.TheVariants as replies
use Rattle.kn_graph.specs.Ground.{Ground}
use Rattle.kn_graph.specs.Graph.{Graph, IsLegalBirth, cell_at, length_for, newborn, with_birth, with_entered}
use Rattle.kn_graph.specs.Arguments.{IsInRange}
use Rattle.kn_graph.specs.Answers.{Answer, AnswersCollect, AnswersNew, AnswersTie, MayAnswer, answers, needs, tied}
use Rattle.kn_replay.specs.Seen.{Answers, IsSeen, is_full, told_address}
use Rattle.kn_replay.specs.Plans.{answer_as}
use Rattle.kn_replay.specs.Applying.{IsAwaitedReply, MayBeSeen}

-- a birth is answered as it was seen, and as the model allows
new_allowed : (z : Ground) (thread r layout fields : ℕ) (g : Graph) (address : ℕ) (full : Bool) →
    (full ≡ false → IsLegalBirth z g (cell_at address fields)) →
    let a : Answer = cond full (answers replies.Full g) (answers replies.Ok (with_birth g thread r (newborn address layout fields))) in
    (is_full a.reply ≡ full) × AnswersNew z thread r layout fields g a.reply (cond (is_full a.reply) 0 address) a.after
new_allowed z thread r layout fields g address true legal = (refl, inr (record { reply_is = refl; nowhere = refl; after = refl }))
new_allowed z thread r layout fields g address false legal = (refl, inl (record { reply_is = refl; legal = legal refl; after = refl }))

tied_not_full : (g : Graph) (k cleaner number : ℕ) (tie : Option (ℕ × ℕ)) → is_full (tied g k cleaner number tie).reply ≡ false
tied_not_full g k cleaner number None = refl
tied_not_full g k cleaner number (Some t) = refl

-- a tie is answered as it was seen, and as the model allows
tie_allowed : (z : Ground) (thread : ℕ) (g : Graph) (cleaner number : ℕ) (o : Option ℕ) (full : Bool) →
    let a : Answer = needs z thread g o (λ n. cond full (answers replies.Full g) (tied g n cleaner number (g.object n).tie)) in
    (a.reply ≢ replies.Nil → is_full a.reply ≡ full) × AnswersTie o cleaner number g a.reply 0 a.after
tie_allowed z thread g cleaner number None full = (λ ne. absurd (ne refl), record { reply_is = refl; nowhere = refl; after = refl })
tie_allowed z thread g cleaner number (Some n) true = (λ _. refl, inr (record { reply_is = refl; nowhere = refl; after = refl }))
tie_allowed z thread g cleaner number (Some n) false = (
  λ _. tied_not_full g n cleaner number (g.object n).tie,
  inl (record { reply_is = refl; nowhere = refl; after = refl }),
)

-- the answer to a call of which this was seen is one that the model allows
answers_as : (z : Ground) (by : ℕ) (call : Call) (address : ℕ) (seen : Reply) (g : Graph) → by < z.sizes.threads → IsInRange z call →
    IsSeen z g call address seen →
    Answers z by call address seen g (answer_as z by g call address seen).reply (with_entered (answer_as z by g call address seen).after by g.paused)
answers_as z by (New r layout) address seen g is_thread in_range is_seen =
    let allowed = new_allowed z by r layout (length_for z layout 0) g address (is_full seen) is_seen in record {
      as_seen = allowed.0;
      follows = record {
        graph = (answer_as z by g (New r layout) address seen).after;
        event = record { by_thread = is_thread; epoch_is = refl; in_range = in_range; answer = allowed.1 };
        after = refl;
      };
    }
answers_as z by (NewArray r layout n) address seen g is_thread in_range is_seen =
    let allowed = new_allowed z by r layout (length_for z layout n) g address (is_full seen) is_seen in record {
      as_seen = allowed.0;
      follows = record {
        graph = (answer_as z by g (NewArray r layout n) address seen).after;
        event = record { by_thread = is_thread; epoch_is = refl; in_range = in_range; answer = allowed.1 };
        after = refl;
      };
    }
answers_as z by (Tie r cleaner number) address seen g is_thread in_range is_seen =
    let allowed = tie_allowed z by g cleaner number (g.local by r) (is_full seen) in record {
      as_seen = allowed.0;
      follows = record {
        graph = (answer_as z by g (Tie r cleaner number) address seen).after;
        event = record { by_thread = is_thread; epoch_is = refl; in_range = in_range; answer = allowed.1 };
        after = refl;
      };
    }
answers_as z by Collect address seen g is_thread in_range is_seen = record { reply_is = refl; after = refl }
answers_as z by other address seen g is_thread in_range is_seen = record {
  as_seen = tt;
  follows = record {
    graph = (answer_as z by g other address seen).after;
    event = record { by_thread = is_thread; epoch_is = refl; in_range = in_range; answer = record { reply_is = refl; nowhere = refl; after = refl } };
    after = refl;
  };
}

-- the same of a reply and a graph that are those of the answer
pub answered_as : (z : Ground) (by : ℕ) (call : Call) (address : ℕ) (seen : Reply) (g : Graph) (reply : Reply) (after g' : Graph) →
    by < z.sizes.threads → IsInRange z call → IsSeen z g call address seen →
    answers reply after ≡ answer_as z by g call address seen → g' ≡ with_entered after by g.paused → Answers z by call address seen g reply g'
answered_as z by call address seen g reply after g' is_thread in_range is_seen is entered =
    let at_graph : Answers z by call address seen g reply (with_entered after by g.paused) =
    subst (λ (a : Answer). Answers z by call address seen g a.reply (with_entered a.after by g.paused)) (sym is)
    (answers_as z by call address seen g is_thread in_range is_seen) in
    subst (λ x. Answers z by call address seen g reply x) (sym entered) at_graph

collect_sound : (by : ℕ) (g : Graph) (address : ℕ) (reply : Reply) → IsAwaitedReply by g reply → address ≡ 0 → AnswersCollect by g reply address g
collect_sound by g address (replies.Epoch epoch) awaited nowhere =
    record { epoch = epoch; awaited = awaited; is = record { reply_is = refl; nowhere = nowhere; after = refl } }
collect_sound by g address other awaited nowhere = absurd awaited

-- a call that may be seen so, and whose answer it is, is answered so by the model
pub may_sound : (z : Ground) (by : ℕ) (call : Call) (reply : Reply) (address : ℕ) (g : Graph) → MayBeSeen z by g call address reply →
    (answer_as z by g call address reply).reply ≡ reply →
    address ≡ told_address call reply address → MayAnswer z by call g reply address (answer_as z by g call address reply).after
may_sound z by (New r layout) reply address g seen same told =
    let after = (answer_as z by g (New r layout) address reply).after in
    let allowed = (new_allowed z by r layout (length_for z layout 0) g address (is_full reply) seen).1 in
    let here = subst (λ x. AnswersNew z by r layout (length_for z layout 0) g x (cond (is_full x) 0 address) after) same allowed in
    subst (λ a. AnswersNew z by r layout (length_for z layout 0) g reply a after) (sym told) here
may_sound z by (NewArray r layout n) reply address g seen same told =
    let after = (answer_as z by g (NewArray r layout n) address reply).after in
    let allowed = (new_allowed z by r layout (length_for z layout n) g address (is_full reply) seen).1 in
    let here = subst (λ x. AnswersNew z by r layout (length_for z layout n) g x (cond (is_full x) 0 address) after) same allowed in
    subst (λ a. AnswersNew z by r layout (length_for z layout n) g reply a after) (sym told) here
may_sound z by (Tie r cleaner number) reply address g seen same told =
    let after = (answer_as z by g (Tie r cleaner number) address reply).after in
    let allowed = (tie_allowed z by g cleaner number (g.local by r) (is_full reply)).1 in
    let here = subst (λ x. AnswersTie (g.local by r) cleaner number g x 0 after) same allowed in
    subst (λ a. AnswersTie (g.local by r) cleaner number g reply a after) (sym told) here
may_sound z by Collect reply address g seen same told = collect_sound by g address reply seen told
may_sound z by other reply address g seen same told = record { reply_is = sym same; nowhere = told; after = refl }

new_complete : (z : Ground) (thread r layout fields : ℕ) (g : Graph) (reply : Reply) (address : ℕ) (g' : Graph) →
    AnswersNew z thread r layout fields g reply address g' →
    (is_full reply ≡ false → IsLegalBirth z g (cell_at address fields))
    × ((cond (is_full reply) (answers replies.Full g) (answers replies.Ok (with_birth g thread r (newborn address layout fields)))).reply ≡ reply)
    × (cond (is_full reply) 0 address ≡ address)
new_complete z thread r layout fields g reply address g' answer =
    let Complete : Reply → Type 0 = λ x. (is_full x ≡ false → IsLegalBirth z g (cell_at address fields))
    × ((cond (is_full x) (answers replies.Full g) (answers replies.Ok (with_birth g thread r (newborn address layout fields)))).reply ≡ x)
    × (cond (is_full x) 0 address ≡ address) in
    elim answer [
      | inl born ↦ subst Complete (sym born.reply_is) (λ _. born.legal, refl, refl)
      | inr full ↦ subst Complete (sym full.reply_is) (λ e. absurd (true≢false e), refl, sym full.nowhere)
    ]

tie_complete : (z : Ground) (thread : ℕ) (g : Graph) (cleaner number : ℕ) (o : Option ℕ) (reply : Reply) (address : ℕ) (g' : Graph) →
    AnswersTie o cleaner number g reply address g' →
    ((needs z thread g o (λ n. cond (is_full reply) (answers replies.Full g) (tied g n cleaner number (g.object n).tie))).reply ≡ reply) ×
    (0 ≡ address)
tie_complete z thread g cleaner number None reply address g' answer = (sym answer.reply_is, sym answer.nowhere)
tie_complete z thread g cleaner number (Some n) reply address g' answer = elim answer [
  | inl is ↦
      let not_full : is_full reply ≡ false = ap is_full is.reply_is ∙ tied_not_full g n cleaner number (g.object n).tie in
      (ap (λ b. (cond b (answers replies.Full g) (tied g n cleaner number (g.object n).tie)).reply) not_full ∙ sym is.reply_is, sym is.nowhere)
  | inr full ↦ (
    ap (λ b. (cond b (answers replies.Full g) (tied g n cleaner number (g.object n).tie)).reply) (ap is_full full.reply_is) ∙ sym full.reply_is,
    sym full.nowhere,
  )
]

-- what the model answers may be seen so, and is the answer
pub may_complete : (z : Ground) (by : ℕ) (call : Call) (reply : Reply) (address : ℕ) (g g' : Graph) → MayAnswer z by call g reply address g' →
    MayBeSeen z by g call address reply × ((answer_as z by g call address reply).reply ≡ reply) × (told_address call reply address ≡ address)
may_complete z by (New r layout) reply address g g' answer = new_complete z by r layout (length_for z layout 0) g reply address g' answer
may_complete z by (NewArray r layout n) reply address g g' answer = new_complete z by r layout (length_for z layout n) g reply address g' answer
may_complete z by (Tie r cleaner number) reply address g g' answer =
    let is = tie_complete z by g cleaner number (g.local by r) reply address g' answer in
    (tt, is.0, is.1)
may_complete z by Collect reply address g g' answer =
    (subst (IsAwaitedReply by g) (sym answer.is.reply_is) answer.awaited, refl, sym answer.is.nowhere)
may_complete z by other reply address g g' answer = (tt, sym answer.reply_is, sym answer.nowhere)
