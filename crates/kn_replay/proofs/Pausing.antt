-- What a pause condemns.
use Rattle.std.proofs.Common.{◌≡◌, ℕ, suc, ◌<◌, ◌↔◌, inl, inr, Bool, true, false, not, ◌||◌, ◌&&◌, ltb, List, length, get_or, refl}
use Rattle.std.proofs.Common.{sym, ap, ◌∙◌, subst, arith}
use Rattle.std.proofs.lemmas.Bool.{true≢false}
use Rattle.std.proofs.lemmas.Bool.Decides.{leb_tells}
use Rattle.kn_graph.specs.Ground.{Ground}
use Rattle.kn_graph.specs.Graph.{Graph, Object, with_entered}
use Rattle.kn_graph.specs.Reachable.{IsReachable}
use Rattle.kn_graph.specs.Collections.{Condemns, with_condemned}
use Rattle.kn_objects.specs.Replay.{graph_of}
use Rattle.kn_replay.specs.Seen.{condemned_by}
use Rattle.kn_objects.specs.Kept.{KeptObjects, nth_object}
use Rattle.kn_objects.specs.Holders.{KeptHolders}
use Rattle.kn_replay.specs.Held.{FitTogether, IsHeld, replay_of}

-- a flag changes nothing that is held
held_condemned : (g : Graph) (flag : ℕ → Bool) → IsHeld g → IsHeld (with_condemned g flag)
held_condemned g flag held = record {
  local = held.local;
  global = held.global;
  stable = held.stable;
  weak = held.weak;
  back = held.back;
  field = held.field;
  counted = held.counted;
}

module _ (z : Ground) (o : KeptObjects) (h : KeptHolders) (paused done : ℕ) (entered : List ℕ) (places : ℕ)
    (fits : FitTogether z o h (graph_of (replay_of z o h paused done entered)) entered places) where
  module _ (o' : KeptObjects) (marks : List Bool)
      (after : ◌≡◌ {A = ℕ → Object} (nth_object o') (λ n. record (nth_object o n) {
        condemned =
            condemned_by marks (graph_of (replay_of z o h paused done entered)) n;
      }))
      (born : length o'.kept ≡ length o.kept) (words : o'.words ≡ o.words) where
    -- the graph that is kept, once the objects without a mark are condemned
    pub condemned_after : graph_of (replay_of z o' h paused done entered) ≡ with_condemned (graph_of (replay_of z o h paused done entered))
        (condemned_by marks (graph_of (replay_of z o h paused done entered)))
    condemned_after = λ t. record (graph_of (replay_of z o h paused done entered)) { born = born t; object = after t }

    pub condemned_fits : FitTogether z o' h (graph_of (replay_of z o' h paused done entered)) entered places
    condemned_fits = record {
      sized = fits.sized;
      words = words ∙ fits.words;
      callers = fits.callers;
      work = fits.work ∙ sym born;
      held = subst IsHeld (sym condemned_after) (held_condemned (graph_of (replay_of z o h paused done entered))
          (condemned_by marks (graph_of (replay_of z o h paused done entered))) fits.held);
    }

-- what holds of flags of an object that was born, by its old flag and its mark
flags : (old mark : Bool) (reached : Type 0) → (mark ≡ true) ↔ reached → ((old || (true && not mark)) ≡ false) ↔ (reached × (old ≡ false))
flags true mark reached is = (λ e. absurd (true≢false e), λ p. absurd (true≢false p.1))
flags false true reached is = (λ _. (is.0 refl, refl), λ _. refl)
flags false false reached is = (λ e. absurd (true≢false e), λ p. absurd (true≢false (sym (is.1 p.0))))

or_false : (b : Bool) → (b || false) ≡ b
or_false true = refl
or_false false = refl

-- marks of exactly what is reachable condemn exactly what is not
pub condemns_unmarked : (g : Graph) (marks : List Bool) → ((n : ℕ) → n < g.born → (get_or marks n false ≡ true) ↔ IsReachable g n) →
    Condemns g (condemned_by marks g)
condemns_unmarked g marks exact = record {
  born = λ n h.
      let is : ltb n g.born ≡ true = elim (leb_tells (suc n) g.born) [ inl t ↦ t.0 | inr t ↦ absurd (omega (arith, t.1)) ] in
      subst (λ b. (((g.object n).condemned || (b && not (get_or marks n false))) ≡ false) ↔ (IsReachable g n × ((g.object n).condemned ≡ false)))
      (sym is)
      (flags (g.object n).condemned (get_or marks n false) (IsReachable g n) (exact n h));
  unborn = λ n h.
      let is : ltb n g.born ≡ false = elim (leb_tells (suc n) g.born) [ inl t ↦ absurd (omega (arith, t.1)) | inr t ↦ t.0 ] in
      ap (λ b. (g.object n).condemned || (b && not (get_or marks n false))) is ∙ or_false (g.object n).condemned;
}

-- an entry is noted in a graph that is known
pub entered_known : (known g g' : Graph) (by epoch : ℕ) → g ≡ known → g' ≡ with_entered g by epoch → g' ≡ with_entered known by epoch
entered_known known g g' by epoch is after = after ∙ ap (λ x. with_entered x by epoch) is
