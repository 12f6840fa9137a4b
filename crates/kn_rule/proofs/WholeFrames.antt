-- A frame is whole exactly where its free spans are one, of all its words.
use Rattle.std.proofs.Common.{◌≡◌, Bool, true, false, ◌&&◌, List, [], ◌∷◌, eqb, eqb-true, eq-eqb, refl, sym, ap, ◌∙◌}
use Rattle.kn_base.specs.declared.numbers.Span.{Span}
use Rattle.kn_rule.specs.Requests.{is_whole}

both_true : (a b : Bool) → (a && b) ≡ true → (a ≡ true) × (b ≡ true)
both_true true true e = (refl, refl)
both_true true false e = absurd (cc)
both_true false b e = absurd (cc)

pub whole_is : (frame : Span) (free : List Span) → is_whole frame free ≡ true → free ≡ frame ∷ []
whole_is frame [] e = absurd (cc)
whole_is frame (x ∷ []) e =
    let h = both_true (eqb x.start frame.start) (eqb x.len frame.len) e in
    let a = eqb-true x.start frame.start h.0 in let b = eqb-true x.len frame.len h.1 in
    λ t. record { start = a t; len = b t } ∷ []
whole_is frame (x ∷ y ∷ rest) e = absurd (cc)

pub is_whole_frame : (frame : Span) → is_whole frame (frame ∷ []) ≡ true
is_whole_frame frame =
    ap (λ b. b && eqb frame.len frame.len) (eq-eqb frame.start frame.start refl) ∙ eq-eqb frame.len frame.len refl

pub not_whole : (frame : Span) (free : List Span) → is_whole frame free ≡ false → free ≡ frame ∷ [] → ⊥
not_whole frame free e is = let t : true ≡ false = sym (ap (is_whole frame) is ∙ is_whole_frame frame) ∙ e in cc
