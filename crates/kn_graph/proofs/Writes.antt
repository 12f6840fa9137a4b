-- The parts of a sound graph where one local, global or name is written.
use Rattle.std.proofs.Common.{◌≡◌, ℕ, ◌<◌, ◌≤◌, false, Option, Some, None, subst, arith}
use Rattle.kn_base.specs.declared.heap.Sizes.{Sizes}
use Rattle.kn_base.specs.Functions.{upd}
use Rattle.kn_base.proofs.Updates.{upd_case, upd_case2}
use Rattle.kn_graph.specs.Graph.{Shape}
use Rattle.kn_graph.specs.Answers.{greatest_count}
use Rattle.kn_graph.specs.Sound.{WasBorn, Alive, RootsAlive, HoldInRange, NamesBorn}

module _ (born : ℕ) (shape : ℕ → Shape) where
  pub alive_at : (x : Option ℕ) (n : ℕ) → x ≡ Some n → Alive born shape x → (n < born) × ((shape n).condemned ≡ false)
  alive_at x n e a = subst (Alive born shape) e a

  -- more objects, and none condemned of these
  module _ (born' : ℕ) (shape' : ℕ → Shape) (more : born ≤ born')
      (free : (n : ℕ) → n < born → (shape n).condemned ≡ false → (shape' n).condemned ≡ false) where
    pub alive_still : (x : Option ℕ) → Alive born shape x → Alive born' shape' x
    alive_still None a = tt
    alive_still (Some n) a = let near = a.0 in (omega arith, free n a.0 a.1)

pub born_still : (born born' : ℕ) → born ≤ born' → (x : Option ℕ) → WasBorn born x → WasBorn born' x
born_still born born' more None a = tt
born_still born born' more (Some n) a = omega arith

module _ (born : ℕ) (shape : ℕ → Shape) (local : ℕ → ℕ → Option ℕ) (global stable back : ℕ → Option ℕ) (count : ℕ → ℕ)
    (s : RootsAlive born shape local global stable back count) where
  pub local_alive : (i r : ℕ) (x : Option ℕ) → Alive born shape x →
      RootsAlive born shape (upd local i (upd (local i) r x)) global stable back count
  local_alive i r x alive = record {
    locals = λ j. upd_case (λ k f. (q : ℕ) → Alive born shape (f q)) local i (upd (local i) r x)
        (λ q. upd_case (λ k y. Alive born shape y) (local i) r x alive q (λ _. s.locals i q)) j (λ _. s.locals j);
    globals = s.globals;
    stables = s.stables;
    backs = s.backs;
  }

  pub global_alive : (i : ℕ) (x : Option ℕ) → Alive born shape x → RootsAlive born shape local (upd global i x) stable back count
  global_alive i x alive = record {
    locals = s.locals;
    stables = s.stables;
    backs = s.backs;
    globals = λ j. upd_case (λ k y. Alive born shape y) global i x alive j (λ _. s.globals j);
  }

  pub stable_alive : (i : ℕ) (x : Option ℕ) → Alive born shape x → RootsAlive born shape local global (upd stable i x) back count
  stable_alive i x alive = record {
    locals = s.locals;
    globals = s.globals;
    backs = s.backs;
    stables = λ j. upd_case (λ k y. Alive born shape y) stable i x alive j (λ _. s.stables j);
  }

  pub back_alive : (i n : ℕ) → RootsAlive born shape local global stable (upd back i (Some n)) (upd count i 0)
  back_alive i n = record {
    locals = s.locals;
    globals = s.globals;
    stables = s.stables;
    backs = λ j. upd_case2 (λ k (y : Option ℕ) (c : ℕ). 0 < c → Alive born shape y) back count i (Some n) 0 (λ h. absurd (omega (arith, h))) j
        (λ _. s.backs j);
  }

  pub count_alive : (i c : ℕ) → Alive born shape (back i) → RootsAlive born shape local global stable back (upd count i c)
  count_alive i c alive = record {
    locals = s.locals;
    globals = s.globals;
    stables = s.stables;
    backs = λ j. upd_case (λ k (c : ℕ). 0 < c → Alive born shape (back k)) count i c (λ _. alive) j (λ _. s.backs j);
  }

  pub roots_still : (born' : ℕ) (shape' : ℕ → Shape) → ((x : Option ℕ) → Alive born shape x → Alive born' shape' x) →
      RootsAlive born' shape' local global stable back count
  roots_still born' shape' still = record {
    locals = λ i r. still (local i r) (s.locals i r);
    globals = λ i. still (global i) (s.globals i);
    stables = λ h. still (stable h) (s.stables h);
    backs = λ b pos. still (back b) (s.backs b pos);
  }

module _ (z : Sizes) (local : ℕ → ℕ → Option ℕ) (global stable weak back : ℕ → Option ℕ) (s : HoldInRange z local global stable weak back) where
  pub local_in_range : (i r : ℕ) (x : Option ℕ) → i < z.threads → r ≤ 15 →
      HoldInRange z (upd local i (upd (local i) r x)) global stable weak back
  local_in_range i r x near small = record {
    locals = λ j. upd_case (λ k (f : ℕ → Option ℕ). (q n : ℕ) → f q ≡ Some n → (k < z.threads) × (q ≤ 15)) local i (upd (local i) r x)
        (λ q. upd_case (λ k (y : Option ℕ). (n : ℕ) → y ≡ Some n → (i < z.threads) × (k ≤ 15)) (local i) r x (λ _ _. (near, small)) q
        (λ _. s.locals i q)) j (λ _. s.locals j);
    globals = s.globals;
    stables = s.stables;
    weaks = s.weaks;
    backs = s.backs;
  }

  -- a function whose values stand below a number, changed there
  below : (top : ℕ) (f : ℕ → Option ℕ) (i : ℕ) (x : Option ℕ) → ((j n : ℕ) → f j ≡ Some n → j < top) → i < top →
      (j n : ℕ) → upd f i x j ≡ Some n → j < top
  below top f i x old near j = upd_case (λ k (y : Option ℕ). (n : ℕ) → y ≡ Some n → k < top) f i x (λ _ _. near) j (λ _. old j)

  pub global_in_range : (i : ℕ) (x : Option ℕ) → i < z.globals → HoldInRange z local (upd global i x) stable weak back
  global_in_range i x near = record {
    locals = s.locals;
    stables = s.stables;
    weaks = s.weaks;
    backs = s.backs;
    globals = below z.globals global i x s.globals near;
  }

  pub stable_in_range : (i : ℕ) (x : Option ℕ) → i < z.stable → HoldInRange z local global (upd stable i x) weak back
  stable_in_range i x near = record {
    locals = s.locals;
    globals = s.globals;
    weaks = s.weaks;
    backs = s.backs;
    stables = below z.stable stable i x s.stables near;
  }

  pub weak_in_range : (i : ℕ) (x : Option ℕ) → i < z.weak → HoldInRange z local global stable (upd weak i x) back
  weak_in_range i x near = record {
    locals = s.locals;
    globals = s.globals;
    stables = s.stables;
    backs = s.backs;
    weaks = below z.weak weak i x s.weaks near;
  }

  pub back_in_range : (i : ℕ) (x : Option ℕ) → i < z.back → HoldInRange z local global stable weak (upd back i x)
  back_in_range i x near = record {
    locals = s.locals;
    globals = s.globals;
    stables = s.stables;
    weaks = s.weaks;
    backs = below z.back back i x s.backs near;
  }

module _ (born : ℕ) (weak back : ℕ → Option ℕ) (count : ℕ → ℕ) (s : NamesBorn born weak back count) where
  pub weak_born : (i n : ℕ) → n < born → NamesBorn born (upd weak i (Some n)) back count
  weak_born i n near = record {
    backs = s.backs;
    counts = s.counts;
    weaks = λ j. upd_case (λ k y. WasBorn born y) weak i (Some n) near j (λ _. s.weaks j);
  }

  pub back_born : (i n : ℕ) → n < born → NamesBorn born weak (upd back i (Some n)) (upd count i 0)
  back_born i n near = record {
    weaks = s.weaks;
    backs = λ j. upd_case (λ k y. WasBorn born y) back i (Some n) near j (λ _. s.backs j);
    counts = λ j. upd_case (λ k (c : ℕ). c ≤ greatest_count) count i 0 (omega arith) j (λ _. s.counts j);
  }

  pub count_born : (i c : ℕ) → c ≤ greatest_count → NamesBorn born weak back (upd count i c)
  count_born i c small = record {
    weaks = s.weaks;
    backs = s.backs;
    counts = λ j. upd_case (λ k (c : ℕ). c ≤ greatest_count) count i c small j (λ _. s.counts j);
  }

  pub names_still : (born' : ℕ) → born ≤ born' → NamesBorn born' weak back count
  names_still born' more = record {
    weaks = λ w. born_still born born' more (weak w) (s.weaks w);
    backs = λ b. born_still born born' more (back b) (s.backs b);
    counts = s.counts;
  }
