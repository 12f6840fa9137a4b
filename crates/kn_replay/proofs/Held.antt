-- What is held stays born, whatever changes.
use Rattle.std.proofs.Common.{ℕ, ◌+◌, ◌≤◌, Option, Some, None, true, arith}
use Rattle.kn_base.specs.Functions.{upd}
use Rattle.kn_base.proofs.Updates.{upd_case}
use Rattle.kn_replay.specs.declared.changes.Change.{Change}
use Rattle.kn_replay.specs.declared.changes.Change.TheVariants.{Nothing, Local, Global, Stable, Weak, Back, Count, Points, Number, Tie, Birth, Release}
use Rattle.kn_replay.specs.declared.changes.Change.TheVariants.{Queue, Finalize, Finish}
use Rattle.kn_graph.specs.Ground.{Ground}
use Rattle.kn_graph.specs.Graph.{Graph, Object, newborn, with_object}
use Rattle.kn_replay.specs.ChangesMade.{IsFit, changed}
use Rattle.kn_graph.specs.Sound.{WasBorn}
use Rattle.kn_replay.specs.Held.{IsHeld}

born_still : (born born' : ℕ) → born ≤ born' → (x : Option ℕ) → WasBorn born x → WasBorn born' x
born_still born born' more None a = tt
born_still born born' more (Some n) a = omega arith

module _ (born : ℕ) where
  -- one value is written
  held_upd : (f : ℕ → Option ℕ) (i : ℕ) (a : Option ℕ) → WasBorn born a → ((j : ℕ) → WasBorn born (f j)) → (j : ℕ) →
      WasBorn born (upd f i a j)
  held_upd f i a here all j = upd_case (λ _ b. WasBorn born b) f i a here j (λ _. all j)

  held_upd2 : (f : ℕ → ℕ → Option ℕ) (t r : ℕ) (a : Option ℕ) → WasBorn born a → ((t j : ℕ) → WasBorn born (f t j)) →
      (k j : ℕ) → WasBorn born (upd f t (upd (f t) r a) k j)
  held_upd2 f t r a here all k = upd_case (λ _ (b : ℕ → Option ℕ). (j : ℕ) → WasBorn born (b j)) f t (upd (f t) r a)
      (held_upd (f t) r a here (all t)) k (λ _. all k)

  held_fields : (f : ℕ → Object) (n : ℕ) (o : Object) → ((j : ℕ) → WasBorn born (o.points j)) →
      ((k j : ℕ) → WasBorn born ((f k).points j)) → (k j : ℕ) → WasBorn born ((upd f n o k).points j)
  held_fields f n o here all k = upd_case (λ _ (b : Object). (j : ℕ) → WasBorn born (b.points j)) f n o here k (λ _. all k)

-- an object is written, whose fields hold what was born
object_held : (g : Graph) (n : ℕ) (o : Object) → ((j : ℕ) → WasBorn g.born (o.points j)) → IsHeld g → IsHeld (with_object g n o)
object_held g n o here held = record {
  counted = held.counted;
  local = held.local;
  global = held.global;
  stable = held.stable;
  weak = held.weak;
  back = held.back;
  field = held_fields g.born g.object n o here held.field;
}

more_born : (born : ℕ) (value : Option ℕ) → WasBorn born value → WasBorn (born + 1) value
more_born born = born_still born (born + 1) (omega arith)

-- a change that fits leaves all that is held born
pub held_changed : (z : Ground) (thread : ℕ) (change : Change) (g : Graph) →
    IsFit z thread change g → IsHeld g → IsHeld (changed thread change g)
held_changed z thread Nothing g fit held = held
held_changed z thread (Local r value) g fit held = record {
  counted = held.counted;
  local = held_upd2 g.born g.local thread r value fit.2 held.local;
  global = held.global;
  stable = held.stable;
  weak = held.weak;
  back = held.back;
  field = held.field;
}
held_changed z thread (Global i value) g fit held = record {
  counted = held.counted;
  local = held.local;
  global = held_upd g.born g.global i value fit.1 held.global;
  stable = held.stable;
  weak = held.weak;
  back = held.back;
  field = held.field;
}
held_changed z thread (Stable h value) g fit held = record {
  counted = held.counted;
  local = held.local;
  global = held.global;
  stable = held_upd g.born g.stable h value fit.1 held.stable;
  weak = held.weak;
  back = held.back;
  field = held.field;
}
held_changed z thread (Weak w n) g fit held = record {
  counted = held.counted;
  local = held.local;
  global = held.global;
  stable = held.stable;
  weak = held_upd g.born g.weak w (Some n) fit.1 held.weak;
  back = held.back;
  field = held.field;
}
held_changed z thread (Back b n) g fit held = record {
  counted = λ j. upd_case (λ _ k. k ≤ 4095) g.count b 0 (omega arith) j (λ _. held.counted j);
  local = held.local;
  global = held.global;
  stable = held.stable;
  weak = held.weak;
  back = held_upd g.born g.back b (Some n) fit.1 held.back;
  field = held.field;
}
held_changed z thread (Count b n) g fit held = record {
  counted = λ j. upd_case (λ _ k. k ≤ 4095) g.count b n fit.1 j (λ _. held.counted j);
  local = held.local;
  global = held.global;
  stable = held.stable;
  weak = held.weak;
  back = held.back;
  field = held.field;
}
held_changed z thread (Points n f value) g fit held = object_held g n (record (g.object n) { points = upd (g.object n).points f value })
    (held_upd g.born (g.object n).points f value fit.1 (held.field n)) held
held_changed z thread (Number n f value) g fit held =
    object_held g n (record (g.object n) { number = upd (g.object n).number f value }) (held.field n) held
held_changed z thread (Tie n cleaner number) g fit held =
    object_held g n (record (g.object n) { tie = Some (cleaner, number) }) (held.field n) held
held_changed z thread (Birth r new) g fit held = record {
  counted = held.counted;
  local = held_upd2 (g.born + 1) g.local thread r (Some g.born) (omega arith) (λ t q. more_born g.born (g.local t q) (held.local t q));
  global = λ i. more_born g.born (g.global i) (held.global i);
  stable = λ i. more_born g.born (g.stable i) (held.stable i);
  weak = λ i. more_born g.born (g.weak i) (held.weak i);
  back = λ i. more_born g.born (g.back i) (held.back i);
  field = held_fields (g.born + 1) g.object g.born (newborn new.address new.layout new.length) (λ _. tt)
      (λ k j. more_born g.born ((g.object k).points j) (held.field k j));
}
held_changed z thread (Release n) g fit held = object_held g n (record (g.object n) { released = true }) (held.field n) held
held_changed z thread (Queue n) g fit held = object_held g n (record (g.object n) { queued = true }) (held.field n) held
held_changed z thread (Finalize n) g fit held =
    object_held g n (record (g.object n) { finalized = Some g.paused }) (held.field n) held
held_changed z thread (Finish e) g fit held = record {
  counted = held.counted;
  local = held.local;
  global = held.global;
  stable = held.stable;
  weak = held.weak;
  back = held.back;
  field = held.field;
}
