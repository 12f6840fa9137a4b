-- Asks come round: once all actors were asked and none took a turn, none will.
use Rattle.std.proofs.Common.{◌≡◌, ℕ, zero, suc, ◌+◌, ◌-◌, ◌<◌, ◌≤◌, Bool, true, false, ltb, subst, refl, arith}
use Rattle.std.proofs.Math.Nat.{mod-eq-sub-mod}
use Rattle.std.proofs.lemmas.Bool.{ltb-false, ltb-true}
use Rattle.kn_schedule.specs.declared.asking.Asking.{Asking}
use Rattle.kn_schedule.specs.Asks.{IsWanted, Standing, TakesTurn}
use Rattle.kn_schedule.specs.Schedules.{ArePassed}

module _ (standing : Standing) (asking : Asking) where
  -- where an ask takes a turn, the one a round before it does
  one_round_before : (ask : ℕ) → asking.actors ≤ ask → TakesTurn standing asking ask → TakesTurn standing asking (ask - asking.actors)
  one_round_before ask behind =
      subst (λ (r : ℕ). (standing.ended (asking.first + r) ≡ false) × IsWanted asking.until (standing.answered (asking.first + r)) standing.code)
      (mod-eq-sub-mod behind)

  -- an ask takes no turn, where those of the round before and those before it take none
  round_on : (made ask : ℕ) → (ask < made + asking.actors → ¬ TakesTurn standing asking ask) →
      (made + asking.actors ≤ ask → ¬ TakesTurn standing asking (ask - asking.actors)) → ¬ TakesTurn standing asking ask
  round_on made ask near far = by (ltb ask (made + asking.actors)) refl
    where
      by : (b : Bool) → ltb ask (made + asking.actors) ≡ b → ¬ TakesTurn standing asking ask
      by true is = near (ltb-true ask (made + asking.actors) is)
      by false is =
          let behind = ltb-false ask (made + asking.actors) is in
          λ turn. far behind (one_round_before ask (omega (arith, behind)) turn)

  module _ (some : 1 ≤ asking.actors)
      (round : (ask : ℕ) → asking.made ≤ ask → ask < asking.made + asking.actors → ask < asking.times → ¬ TakesTurn standing asking ask) where
    below : (bound ask : ℕ) → ask < bound → asking.made ≤ ask → ask < asking.times → ¬ TakesTurn standing asking ask
    below zero ask less behind within = absurd (omega (arith, less))
    below (suc bound) ask less behind within = round_on asking.made ask (λ near. round ask behind near within)
        (λ far. below bound (ask - asking.actors) (omega (arith, less, some, far)) (omega (arith, far)) (omega (arith, within)))

    -- no ask of one round takes a turn, so none behind it does
    pub passed_from : ArePassed standing asking
    passed_from ask behind within = below (suc ask) ask (omega arith) behind within
