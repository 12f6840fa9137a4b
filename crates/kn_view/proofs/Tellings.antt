-- What words tell.
use Rattle.std.proofs.Common.{◌≡◌, ℕ, zero, suc, ◌<◌, ◌≤◌, ◌%◌, ◌/◌, ◌^◌, ◌-◌, ◌≢◌, nat_lt, nat_eq}
use Rattle.std.proofs.Common.{List, [], refl, sym, ap, arith}
use Rattle.kn_base.specs.declared.kinds.Code.{Code}
use Rattle.kn_base.specs.declared.kinds.Code.TheVariants as codes
use Rattle.kn_base.specs.declared.places.Place.{Place}
use Rattle.kn_graph.specs.declared.entries.Entry.{Entry}
use Rattle.kn_graph.specs.Ground.{Ground}
use Rattle.kn_marking.specs.declared.work.Work.{Work}
use Rattle.kn_rule.specs.Decoding.{phase_of, header_of, code_of}
use Rattle.kn_rule.specs.Phases.{is_run, is_stop, last_done, pauses}
use Rattle.kn_rule.specs.declared.steps.Action.{Action}
use Rattle.kn_rule.specs.Steps.{Found}
use Rattle.kn_rule.specs.Views.{View}
use Rattle.kn_rule.specs.MarkSteps.{joined_by}
use Rattle.kn_rule.specs.Outcomes.{paused_at}

pub run_code : (w n : ℕ) → w % 8 ≡ n → is_run (code_of n) ≡ is_run (phase_of w).code
unfolding phase_of
run_code w n e = ap (λ m. is_run (code_of m)) (sym e)

pub run_others : (n : ℕ) → n < 8 → n ≢ 0 → n ≢ 3 → nat_lt 5 n ≡ is_run (code_of n)
run_others zero l a b = absurd (a refl)
run_others (suc zero) l a b = refl
run_others (suc (suc zero)) l a b = refl
run_others (suc (suc (suc zero))) l a b = absurd (b refl)
run_others (suc (suc (suc (suc zero)))) l a b = refl
run_others (suc (suc (suc (suc (suc zero))))) l a b = refl
run_others (suc (suc (suc (suc (suc (suc zero)))))) l a b = refl
run_others (suc (suc (suc (suc (suc (suc (suc zero))))))) l a b = refl
run_others (suc (suc (suc (suc (suc (suc (suc (suc n)))))))) l a b = absurd (omega arith)

pub pauses_code : (w n : ℕ) → w % 8 ≡ n → pauses (record { epoch = w / 8; code = code_of n }) ≡ pauses (phase_of w)
unfolding phase_of
pauses_code w n e = ap (λ m. pauses (record { epoch = w / 8; code = code_of m })) (sym e)

pub pauses_others : (e n : ℕ) → n < 8 → n ≢ 1 → n ≢ 2 → e ≡ pauses (record { epoch = e; code = code_of n })
pauses_others e zero l a b = refl
pauses_others e (suc zero) l a b = absurd (a refl)
pauses_others e (suc (suc zero)) l a b = absurd (b refl)
pauses_others e (suc (suc (suc zero))) l a b = refl
pauses_others e (suc (suc (suc (suc zero)))) l a b = refl
pauses_others e (suc (suc (suc (suc (suc zero))))) l a b = refl
pauses_others e (suc (suc (suc (suc (suc (suc zero)))))) l a b = refl
pauses_others e (suc (suc (suc (suc (suc (suc (suc zero))))))) l a b = refl
pauses_others e (suc (suc (suc (suc (suc (suc (suc (suc n)))))))) l a b = absurd (omega arith)

pub done_code : (w n : ℕ) → w % 8 ≡ n → last_done (record { epoch = w / 8; code = code_of n }) ≡ last_done (phase_of w)
unfolding phase_of
done_code w n e = ap (λ m. last_done (record { epoch = w / 8; code = code_of m })) (sym e)

pub done_others : (e n : ℕ) → n < 8 → n ≢ 0 → e - 1 ≡ last_done (record { epoch = e; code = code_of n })
done_others e zero l a = absurd (a refl)
done_others e (suc zero) l a = refl
done_others e (suc (suc zero)) l a = refl
done_others e (suc (suc (suc zero))) l a = refl
done_others e (suc (suc (suc (suc zero)))) l a = refl
done_others e (suc (suc (suc (suc (suc zero))))) l a = refl
done_others e (suc (suc (suc (suc (suc (suc zero)))))) l a = refl
done_others e (suc (suc (suc (suc (suc (suc (suc zero))))))) l a = refl
done_others e (suc (suc (suc (suc (suc (suc (suc (suc n)))))))) l a = absurd (omega arith)

done_most : (e : ℕ) (c : Code) → last_done (record { epoch = e; code = c }) ≤ e
done_most e codes.Idle = omega arith
done_most e _ = omega arith

-- the last epoch done is short
pub done_small : (w : ℕ) → w < 2 ^ 35 → last_done (phase_of w) < 2 ^ 32
unfolding phase_of
done_small w l = let most = done_most (w / 8) (code_of (w % 8)) in omega (arith, l, most)

pub stop_code : (w n : ℕ) → w % 8 ≡ n → is_stop (code_of n) ≡ is_stop (phase_of w).code
unfolding phase_of
stop_code w n e = ap (λ m. is_stop (code_of m)) (sym e)

pub stop_others : (n : ℕ) → n < 8 → n ≢ 1 → nat_eq n 4 ≡ is_stop (code_of n)
stop_others zero l a = refl
stop_others (suc zero) l a = absurd (a refl)
stop_others (suc (suc zero)) l a = refl
stop_others (suc (suc (suc zero))) l a = refl
stop_others (suc (suc (suc (suc zero)))) l a = refl
stop_others (suc (suc (suc (suc (suc zero))))) l a = refl
stop_others (suc (suc (suc (suc (suc (suc zero)))))) l a = refl
stop_others (suc (suc (suc (suc (suc (suc (suc zero))))))) l a = refl
stop_others (suc (suc (suc (suc (suc (suc (suc (suc n)))))))) l a = absurd (omega arith)

pub layout_told : (w : ℕ) → w / 2 ^ 48 ≡ (header_of w).layout
unfolding header_of
layout_told w = refl

pub length_told : (w : ℕ) → w % 2 ^ 48 / 2 ^ 24 ≡ (header_of w).length
unfolding header_of
length_told w = refl

pub join_code : (w n : ℕ) (work : Work) → w % 8 ≡ n → joined_by (record { epoch = w / 8; code = code_of n }) work ≡ joined_by (phase_of w) work
unfolding phase_of
join_code w n work e = ap (λ m. joined_by (record { epoch = w / 8; code = code_of m }) work) (sym e)

pub join_others : (e n : ℕ) (work : Work) → n < 8 → n ≢ 2 → work ≡ joined_by (record { epoch = e; code = code_of n }) work
join_others e zero work l a = refl
join_others e (suc zero) work l a = refl
join_others e (suc (suc zero)) work l a = absurd (a refl)
join_others e (suc (suc (suc zero))) work l a = refl
join_others e (suc (suc (suc (suc zero)))) work l a = refl
join_others e (suc (suc (suc (suc (suc zero))))) work l a = refl
join_others e (suc (suc (suc (suc (suc (suc zero)))))) work l a = refl
join_others e (suc (suc (suc (suc (suc (suc (suc zero))))))) work l a = refl
join_others e (suc (suc (suc (suc (suc (suc (suc (suc n)))))))) work l a = absurd (omega arith)

module _ (z : Ground) (c : ℕ) (v : View) (p : Place) (a : Action) (f : Found) where
  pub pause_code : (w n : ℕ) → w % 8 ≡ n → paused_at z c v p a f (code_of n) (w / 8) ≡ paused_at z c v p a f (phase_of w).code (phase_of w).epoch
  unfolding phase_of
  pause_code w n e = ap (λ m. paused_at z c v p a f (code_of m) (w / 8)) (sym e)

  pub pause_others : (e n : ℕ) → n < 8 → n ≢ 3 → ◌≡◌ {A = List Entry} [] (paused_at z c v p a f (code_of n) e)
  pause_others e zero l k = refl
  pause_others e (suc zero) l k = refl
  pause_others e (suc (suc zero)) l k = refl
  pause_others e (suc (suc (suc zero))) l k = absurd (k refl)
  pause_others e (suc (suc (suc (suc zero)))) l k = refl
  pause_others e (suc (suc (suc (suc (suc zero))))) l k = refl
  pause_others e (suc (suc (suc (suc (suc (suc zero)))))) l k = refl
  pause_others e (suc (suc (suc (suc (suc (suc (suc zero))))))) l k = refl
  pause_others e (suc (suc (suc (suc (suc (suc (suc (suc n)))))))) l k = absurd (omega arith)
