-- Between two markings.
use Rattle.std.proofs.Common.{◌≡◌, ◌≢◌, ℕ, ◌+◌, ◌-◌, ◌*◌, ◌<◌, ◌≤◌, cond, Some, refl, sym, ap, arith, ne_eqb}
use Rattle.kn_marking.specs.declared.work.Work.{Work}
use Rattle.kn_marking.specs.Heap.{Heap}
use Rattle.kn_base.specs.Functions.{upd}
use Rattle.kn_marking.specs.Words.{before}
use Rattle.kn_marking.specs.Marking.{Shares, Idle, Rest}
use Rattle.kn_marking.specs.Shares.{looked, missed}
use Rattle.kn_marking.proofs.Changes.{each_upd}
use Rattle.kn_marking.proofs.Ends.{all_ended, idle}
use Rattle.kn_marking.proofs.Quiet.{due_of}

after_next : (e : ℕ) → 0 < e → 4 * (e + 1 - 1) + 3 ≡ before (e + 1)
after_next e some = sym (ap (λ a. cond a 0 (4 * (e + 1 - 1) + 3)) (ne_eqb (e + 1) 1 (λ s. omega arith)))

module _ (H : Heap) (e n : ℕ) (mark set : ℕ → ℕ) (work : ℕ → Work) where
  pub rests : 0 < e → Shares H e n mark set work 0 → Rest H.sets e n set work
  rests some m = record {
    sets = λ j l. let a = all_ended H e n mark set work 0 m refl j l in let b = after_next e some in omega arith;
    idle = λ c l. idle H e n mark set work 0 m refl c l;
    early = λ c l. (m.fits c l).early;
    due = λ c j v l s. (m.fits c l).due j v s;
  }

module _ (sets e n : ℕ) (set : ℕ → ℕ) (work : ℕ → Work) (r : Rest sets e n set work) (c : ℕ) (less : c < n) where
  pub rest_looked : (j v : ℕ) → j < sets → Rest sets e n set (upd work c (looked (work c) j v))
  rest_looked j v l = record {
    sets = r.sets;
    idle = λ d k. each_upd Idle work c (looked (work c) j v)
        (record { free = (r.idle c less).free; no_child = (r.idle c less).no_child; no_debt = (r.idle c less).no_debt }) d (r.idle d k);
    early = λ d k. each_upd (λ (w : Work). w.epoch ≤ e) work c (looked (work c) j v) (r.early c less) d (r.early d k);
    due = λ d i u k. each_upd (λ (w : Work). w.due ≡ Some (i, u) → (i < sets) × (u < 4 * w.epoch)) work c (looked (work c) j v)
        (due_of sets (work c) j v l i u) d (r.due d i u k);
  }

  pub rest_missed : Rest sets e n set (upd work c (missed (work c)))
  rest_missed = record {
    sets = r.sets;
    idle = λ d k. each_upd Idle work c (missed (work c)) (record {
      free = (r.idle c less).free;
      no_child = (r.idle c less).no_child;
      no_debt =
          (r.idle c less).no_debt;
    }) d (r.idle d k);
    early = λ d k. each_upd (λ (w : Work). w.epoch ≤ e) work c (missed (work c)) (r.early c less) d (r.early d k);
    due = λ d i u k. each_upd (λ (w : Work). w.due ≡ Some (i, u) → (i < sets) × (u < 4 * w.epoch)) work c (missed (work c)) (λ s. absurd cc) d
        (r.due d i u k);
  }

  lost_at : (v w : ℕ) → v < 4 * (work c).epoch → w ≡ before (e + 1) → (0 < e → 4 * (e + 1 - 1) + 3 ≡ before (e + 1)) → w ≢ v
  lost_at v w l s h =
      let k = r.early c less in
      let a : 0 < e = omega arith in let b = h a in omega arith

  -- an exchange that was due is lost
  pub rest_lost : (j v : ℕ) → (work c).due ≡ Some (j, v) → set j ≢ v
  rest_lost j v s = let d = r.due c j v less s in lost_at v (set j) d.1 (r.sets j d.0) (after_next e)
