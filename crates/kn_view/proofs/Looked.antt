-- What was seen and refused of frames, by what is stored.
use Rattle.std.proofs.Common.{◌≡◌, ℕ, zero, suc, ◌+◌, Bool, false, true, cond, List, [], ◌∷◌, length, map, replicate, get_or}
use Rattle.std.proofs.Common.{slice_set, Some, None, refl, ap, ◌∙◌, arith}
use Rattle.std.proofs.lemmas.Bool.{ne_eqb, eq-eqb}
use Rattle.std.proofs.lemmas.List.{map-set}
use Rattle.std.proofs.Math.Seq.{map-set_same}
use Rattle.std.specs.List.{AllByRecursion}
use Rattle.kn_rule.specs.declared.positions.Position.{Position}
use Rattle.kn_view.specs.declared.looks.Look.{Look}
use Rattle.kn_view.specs.Looks.{IsBefore, seen_in, refused_in}
use Rattle.kn_view.specs.Parts.{Part}

-- so many equal looks are seen alike
pub alike : {A : Type 0} (f : Look → A) (n : ℕ) (look : Look) → map f (replicate n look) ≡ replicate n (f look)
alike f zero look = refl
alike f (suc n) look = ap (λ l. f look ∷ l) (alike f n look)

module _ (n : ℕ) where
  -- at the next search nothing is seen, and nothing is refused
  pub unseen : (looks : List Look) → AllByRecursion (IsBefore (n + 2)) looks →
      map (seen_in (n + 1 + 1)) looks ≡ replicate (length (map (seen_in (n + 1)) looks)) None
  unseen [] h = refl
  unseen (look ∷ rest) h =
      let e = ne_eqb look.seen_in (n + 1 + 1) (λ x. let y = x in let l = h.0.0 in absurd (omega arith)) in
      λ t. cond (e t) (Some look.word) None ∷ unseen rest h.1 t

  pub unrefused : (looks : List Look) → AllByRecursion (IsBefore (n + 2)) looks →
      map (refused_in (n + 1 + 1)) looks ≡ replicate (length (map (seen_in (n + 1)) looks)) false
  unrefused [] h = refl
  unrefused (look ∷ rest) h =
      let e = ne_eqb look.refused_in (n + 1 + 1) (λ x. let y = x in let l = h.0.1 in absurd (omega arith)) in
      λ t. e t ∷ unrefused rest h.1 t

module _ (search : ℕ) (looks : List Look) (i : ℕ) where
  -- a frame is seen in a search, and one is refused
  pub seen_at : (word refused : ℕ) →
      map (seen_in search) (slice_set looks i (record { seen_in = search; word = word; refused_in = refused }))
      ≡ slice_set (map (seen_in search) looks) i (Some word)
  seen_at word refused =
      map-set (seen_in search) looks i _
      ∙ (let e = eq-eqb search search refl in λ t. slice_set (map (seen_in search) looks) i (cond (e t) (Some word) None))

  pub refused_at : (seen word : ℕ) →
      map (refused_in search) (slice_set looks i (record { seen_in = seen; word = word; refused_in = search }))
      ≡ slice_set (map (refused_in search) looks) i true
  refused_at seen word =
      map-set (refused_in search) looks i _ ∙ (let e = eq-eqb search search refl in λ t. slice_set (map (refused_in search) looks) i (e t))

  -- what is seen leaves what is refused, and the other way round
  pub refused_as_before : (old : Look) (seen word : ℕ) → old ≡ get_or looks i old →
      map (refused_in search) (slice_set looks i (record { seen_in = seen; word = word; refused_in = old.refused_in }))
      ≡ map (refused_in search) looks
  refused_as_before old seen word is = map-set_same (refused_in search) looks i _ old (ap (refused_in search) is)

  pub seen_as_before : (old : Look) (refused : ℕ) → old ≡ get_or looks i old →
      map (seen_in search) (slice_set looks i (record { seen_in = old.seen_in; word = old.word; refused_in = refused }))
      ≡ map (seen_in search) looks
  seen_as_before old refused is = map-set_same (seen_in search) looks i _ old (ap (seen_in search) is)

-- the part of a view in which a call begins, by how many frames there are and whether the call makes an object
pub begun : (old new mid : Part) (word width frames : ℕ) (birth made : Bool) (at : Position) → mid ≡ record new { position = at } →
    new ≡ record old {
      polled = word;
      header = None;
      seen = replicate width None;
      refused = replicate width false;
      calls = old.calls + 1;
      births = old.births + cond birth 1 0;
    } →
    width ≡ frames → birth ≡ made →
    mid ≡ record old {
      position = at;
      polled = word;
      header = None;
      seen = replicate frames None;
      refused = replicate frames false;
      calls = old.calls + 1;
      births = old.births + cond made 1 0;
    }
begun old new mid word width frames birth made at m n w b =
    m ∙ (ap (λ (q : Part). record q { position = at }) n ∙ (λ t. record old {
      position = at;
      polled = word;
      header = None;
      seen = replicate (w t) None;
      refused = replicate (w t) false;
      calls = old.calls + 1;
      births = old.births + cond (b t) 1 0;
    }))
