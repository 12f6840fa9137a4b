-- The pause at the end of a marking condemns exactly what is not reachable: the objects whose marks are of an earlier epoch.
use Rattle.std.proofs.Common.{◌≡◌, ◌≢◌, ◌⊎◌, inl, inr, ℕ, ◌+◌, ◌*◌, ◌<◌, ◌≤◌, Bool, true, false, ltb, ◌&&◌}
use Rattle.std.proofs.Common.{◌||◌, refl, sym, ap, ◌∙◌}
use Rattle.std.proofs.Common.{arith, ltb-true}
use Rattle.std.proofs.lemmas.Bool.{lt-ltb, le-ltb, cases_lt}
use Rattle.kn_base.specs.declared.places.Place.{Place}
use Rattle.kn_base.specs.declared.places.Place.TheVariants.{Side}
use Rattle.kn_base.specs.declared.kinds.Colour.{Colour}
use Rattle.kn_base.specs.declared.kinds.Colour.TheVariants as colours
use Rattle.kn_base.specs.Kinds.{colour_number}
use Rattle.kn_graph.specs.Ground.{Ground, IsGoodGround}
use Rattle.kn_graph.specs.Graph.{Graph, shapes, Lives}
use Rattle.kn_graph.specs.Reachable.{IsReachable}
use Rattle.kn_graph.specs.Collections.{Condemns}
use Rattle.kn_graph.specs.Sound.{IsSound}
use Rattle.kn_marking.specs.declared.work.Work.{Work}
use Rattle.kn_marking.specs.Heap as heaps
use Rattle.kn_marking.specs.Words.{gray, scanned, black}
use Rattle.kn_marking.specs.Marking.{Marking}
use Rattle.kn_marking.proofs.Ends.{settles, no_gray, no_scanned}
use Rattle.kn_rule.specs.MarkedHeap.{heap_of}
use Rattle.kn_rule.specs.Steps.{callers}
use Rattle.kn_rule.specs.ObjectClauses.{IsMarked}
use Rattle.kn_rule.specs.MarkClauses.{IsBlackOf}
use Rattle.kn_keep_marking.specs.WordsStand.{WordsStand}
use Rattle.kn_keep_marking.proofs.Bridge.{live_at, condemned_at}
use Rattle.kn_keep_marking.proofs.Reaches.{reach_same, heap_sound}

or_true : (a b : Bool) → (a || b) ≡ true → (a ≡ true) ⊎ (b ≡ true)
or_true true b e = inl refl
or_true false b e = inr e

or_false : (a b : Bool) → (a || b) ≡ false → (a ≡ false) × (b ≡ false)
or_false true b e = absurd (cc)
or_false false b e = (refl, e)

and_true : (a b : Bool) → (a && b) ≡ true → (a ≡ true) × (b ≡ true)
and_true true b e = (refl, e)
and_true false b e = absurd (cc)

-- the epoch and the colour of a mark
black_by : (c : Colour) (e k v : ℕ) → v ≡ 4 * k + colour_number c → ((v ≡ gray k) ⊎ (v ≡ scanned k) → k ≡ e) → v ≢ gray e →
    v ≢ scanned e → v ≡ black k
black_by colours.Gray e k v is tinted no_gray no_scanned = let s = tinted (inl is) in absurd (no_gray (is ∙ ap gray s))
black_by colours.Scanned e k v is tinted no_gray no_scanned = let s = tinted (inr is) in absurd (no_scanned (is ∙ ap scanned s))
black_by colours.Black e k v is tinted no_gray no_scanned = is

module _ (z : Ground) (good : IsGoodGround z) (g : Graph) (sound : IsSound z g) (word : Place → ℕ) (stand : WordsStand z g word) (e : ℕ)
    (set : ℕ → ℕ) (work : ℕ → Work) (pending : ℕ)
    (m : Marking (heap_of z g.born (shapes g) word) g.paused e (callers z.sizes) (λ a. word (Side a)) set work pending) (none : pending ≡ 0) where
  abbrev H : heaps.Heap
  H = heap_of z g.born (shapes g) word

  abbrev mark : ℕ → ℕ
  mark a = word (Side a)

  abbrev at : ℕ → ℕ
  at n = (shapes g n).address

  hs : heaps.Sound H
  hs = heap_sound z good g sound word stand

  -- what was condemned, and what was born and has a mark of an earlier epoch
  abbrev pub flag : ℕ → Bool
  flag n = (g.object n).condemned || (ltb n g.born && ltb (word (Side (shapes g n).address)) (4 * e))

  pub stays : (n : ℕ) → (g.object n).condemned ≡ true → flag n ≡ true
  stays n c = ap (λ b. b || (ltb n g.born && ltb (mark (at n)) (4 * e))) c

  pub spares : (n : ℕ) → flag n ≡ false → (g.object n).condemned ≡ false
  spares n f = (or_false (g.object n).condemned (ltb n g.born && ltb (mark (at n)) (4 * e)) f).0

  low_flag : (n : ℕ) → n < g.born → mark (at n) < 4 * e → flag n ≡ true
  low_flag n near low =
      ap (λ b. (g.object n).condemned || (b && ltb (mark (at n)) (4 * e))) (lt-ltb n g.born near)
      ∙ (ap (λ b. (g.object n).condemned || b) (lt-ltb (mark (at n)) (4 * e) low) ∙ or_end (g.object n).condemned)
    where
      or_end : (b : Bool) → (b || true) ≡ true
      or_end true = refl
      or_end false = refl

  high_flag : (n : ℕ) → (g.object n).condemned ≡ false → 4 * e ≤ mark (at n) → flag n ≡ false
  high_flag n free high =
      ap (λ b. b || (ltb n g.born && ltb (mark (at n)) (4 * e))) free
      ∙ (ap (λ b. ltb n g.born && b) (le-ltb (mark (at n)) (4 * e) high) ∙ and_end (ltb n g.born))
    where
      and_end : (b : Bool) → (b && false) ≡ false
      and_end true = refl
      and_end false = refl

  lives_free : (n : ℕ) → n < g.born → (g.object n).condemned ≡ false → Lives g.born (shapes g) n
  lives_free n near free = (near, (sound.flags n near).released free)

  -- what keeps its flag down is reachable
  kept : (n : ℕ) → n < g.born → flag n ≡ false → IsReachable g n × ((g.object n).condemned ≡ false)
  kept n near f =
      let free = spares n f in
      let l = lives_free n near free in
      let high : 4 * e ≤ mark (at n) = elim (cases_lt (mark (at n)) (4 * e)) [
        | inl low ↦ let q : true ≡ false = sym (low_flag n near low) ∙ f in absurd (cc)
        | inr high ↦ high
      ] in
      ((reach_same z good g sound word stand n l).1 (m.colours.reached (at n) (live_at z g sound word stand n l) high), free)

  reached : (n : ℕ) → n < g.born → IsReachable g n × ((g.object n).condemned ≡ false) → flag n ≡ false
  reached n near h =
      let l = lives_free n near h.1 in
      let r = (reach_same z good g sound word stand n l).0 h.0 in
      let b = (settles H hs g.paused e (callers z.sizes) mark set work pending m none (at n) (live_at z g sound word stand n l)).0.0 r in
      high_flag n h.1 (omega (arith, b))

  past_none : (n : ℕ) → g.born ≤ n → flag n ≡ (g.object n).condemned
  past_none n past = ap (λ b. (g.object n).condemned || (b && ltb (mark (at n)) (4 * e))) (le-ltb n g.born past) ∙ or_none (g.object n).condemned
    where
      or_none : (b : Bool) → (b || false) ≡ b
      or_none true = refl
      or_none false = refl

  pub condemns : Condemns g flag
  condemns = record { born = λ n near. (kept n near, reached n near); unborn = past_none }

  -- a flag is up exactly where the mark is of an earlier epoch
  flag_low : (n : ℕ) → Lives g.born (shapes g) n → flag n ≡ true → mark (at n) < 4 * e
  flag_low n l f = by (or_true (g.object n).condemned (ltb n g.born && ltb (mark (at n)) (4 * e)) f)
    where
      by : ((g.object n).condemned ≡ true) ⊎ ((ltb n g.born && ltb (mark (at n)) (4 * e)) ≡ true) → mark (at n) < 4 * e
      by (inl c) =
          let old = (m.colours.aged (at n) (live_at z g sound word stand n l)).0 (condemned_at z g sound word stand n l ∙ c) in
          let next = m.next in omega (arith, old, next)
      by (inr h) = ltb-true (mark (at n)) (4 * e) (and_true (ltb n g.born) (ltb (mark (at n)) (4 * e)) h).1

  -- each mark is black, of an epoch up to this one
  pub blackened : (n : ℕ) → Lives g.born (shapes g) n → IsMarked (mark (at n)) → IsBlackOf e (flag n) (mark (at n))
  blackened n l is =
      let live = live_at z g sound word stand n l in
      let k = is.mark.epoch in
      let b : mark (at n) ≡ black k = black_by is.mark.colour e k (mark (at n)) is.packs (λ h. m.colours.tinted (at n) k live h)
      (no_gray H e (callers z.sizes) mark set work pending m.shares none (at n) live.0)
      (no_scanned H e (callers z.sizes) mark set work pending m.shares none (at n) live.0) in
      let last = m.colours.last (at n) live in
      record {
        epoch = k;
        last = omega (arith, b, last);
        packs = b;
        aged = (λ f. let low = flag_low n l f in omega (arith, b, low), λ h. low_flag n l.0 (omega (arith, b, h)));
      }
