-- The word with which a page's frame is given back.
use Rattle.std.proofs.Common.{◌≡◌, ◌≢◌, ℕ, suc, ◌^◌, ◌<◌, ◌≤◌, ◌⊎◌, ◌↔◌, inl, inr, Bool, true, false, ◌&&◌}
use Rattle.std.proofs.Common.{◌||◌, not, List, [], ◌∷◌, Any, eqb, refl, sym, ap, ◌∙◌, subst, arith, ne_eqb}
use Rattle.std.proofs.lemmas.Bool.{cases_Bool}
use Rattle.std.proofs.lemmas.Bool.Decides.{eqb_tells, leb_tells}
use Rattle.std.proofs.Math.Dec.{leb}
use Rattle.kn_base.specs.declared.numbers.Span.{Span}
use Rattle.kn_base.specs.declared.kinds.FrameKind.{FrameKind}
use Rattle.kn_base.specs.declared.kinds.FrameKind.TheVariants as frames
use Rattle.kn_base.specs.declared.frame_word.FrameWord.{FrameWord}
use Rattle.kn_base.specs.declared.classes.TheConstants.{SINGLE_CLASS}
use Rattle.kn_base.specs.Classes.{IsClassNumber}
use Rattle.kn_base.specs.Functions.{Tells}
use Rattle.kn_base.specs.Pages.{FrameView, IsWholePage}
use Rattle.kn_base.specs.Words.{IsFrameWord}
use Rattle.kn_page.specs.Classes.{HasRoom}
use Rattle.kn_rule.specs.Requests.{has_room, has_span, home_as, home_word, is_whole, least_cell}
use Rattle.kn_alloc.specs.Keeps.{class_at}
use Rattle.kn_rule.proofs.WholeFrames.{not_whole, whole_is}
use Rattle.kn_alloc.proofs.Spans.{short_is}

-- a list has a span of n words exactly where some span is as long
found_by : (n : ℕ) (s : Span) (rest : List Span) → ((leb n s.len ≡ true) × (n ≤ s.len)) ⊎ ((leb n s.len ≡ false) × (s.len < n)) →
    (has_span n rest ≡ true → Any (λ x. n ≤ x.len) rest) → (leb n s.len || has_span n rest) ≡ true → Any (λ x. n ≤ x.len) (s ∷ rest)
found_by n s rest (inl t) more e = (0, s, omega arith, refl, t.1)
found_by n s rest (inr t) more e =
    let h = more (sym (ap (λ b. b || has_span n rest) t.0) ∙ e) in
    let l = h.2 in (suc h.0, h.1, omega arith, h.3, h.4)

some_span : (n : ℕ) (spans : List Span) → has_span n spans ≡ true → Any (λ x. n ≤ x.len) spans
some_span n [] e = absurd (cc)
some_span n (s ∷ rest) e = found_by n s rest (leb_tells n s.len) (λ e. some_span n rest e) e

no_span : (n : ℕ) (spans : List Span) → has_span n spans ≡ false → Any (λ x. n ≤ x.len) spans → ⊥
no_span n spans e some =
    let short = (short_is n spans).1 e some.0 some.1 some.2 in
    let l = subst (λ (x : Span). x.len < n) some.3 short in
    let h = some.4 in
    omega arith

-- a page has room in one crate's words exactly where it has in the other's
single_by : (class : ℕ) (some : Bool) → Tells class SINGLE_CLASS → (not (eqb class SINGLE_CLASS) && some) ≡ true →
    (class ≢ SINGLE_CLASS) × (some ≡ true)
single_by class some (inl t) e = let h : false ≡ true = sym (ap (λ b. not b && some) t.0) ∙ e in absurd (cc)
single_by class some (inr t) e = (t.1, sym (ap (λ b. not b && some) t.0) ∙ e)

room_is : (page : FrameView) → has_room page.class page.free ≡ true → HasRoom page
room_is page e =
    let h = single_by page.class (has_span (least_cell page.class) page.free) (eqb_tells page.class SINGLE_CLASS) e in
    (h.0, some_span (least_cell page.class) page.free h.1)

no_room : (page : FrameView) → has_room page.class page.free ≡ false → HasRoom page → ⊥
no_room page e room =
    let h : has_span (least_cell page.class) page.free ≡ false =
    sym (ap (λ b. not b && has_span (least_cell page.class) page.free) (ne_eqb page.class SINGLE_CLASS room.0)) ∙ e in
    no_span (least_cell page.class) page.free h room.1

-- how the kind of a page's frame is told
pub record KindTold (page : FrameView) (kind : FrameKind) : Type 0 where
  pub empty : (kind ≡ frames.Empty) ↔ IsWholePage page
  pub ready : (kind ≡ frames.Ready) ↔ ((¬ IsWholePage page) × HasRoom page)
  pub used : (kind ≡ frames.Used) ↔ ((¬ IsWholePage page) × (¬ HasRoom page))

module _ (page : FrameView) (kind : FrameKind) (told : KindTold page kind) (v : FrameWord) (same : v.class ≡ page.class) where
  abbrev made : FrameKind → FrameWord
  made k = record { kind = k; class = class_at k page.class; stamp = v.stamp; seat = 0 }

  by_room : is_whole page.frame page.free ≡ false →
      (has_room page.class page.free ≡ true) ⊎ (has_room page.class page.free ≡ false) → made kind ≡ home_word page.frame v page.free
  by_room whole (inl r) =
      let k : kind ≡ frames.Ready = told.ready.1 (not_whole page.frame page.free whole, room_is page r) in
      ap made k ∙ ((λ t. record { kind = frames.Ready; class = sym same t; stamp = v.stamp; seat = 0 })
      ∙ sym ((λ t. home_as v (whole t) (has_room (same t) page.free)) ∙ ap (home_as v false) r))
  by_room whole (inr r) =
      let k : kind ≡ frames.Used = told.used.1 (not_whole page.frame page.free whole, no_room page r) in
      ap made k ∙ ((λ t. record { kind = frames.Used; class = sym same t; stamp = v.stamp; seat = 0 })
      ∙ sym ((λ t. home_as v (whole t) (has_room (same t) page.free)) ∙ ap (home_as v false) r))

  by_whole : (is_whole page.frame page.free ≡ true) ⊎ (is_whole page.frame page.free ≡ false) → made kind ≡ home_word page.frame v page.free
  by_whole (inl whole) =
      ap made (told.empty.1 (whole_is page.frame page.free whole)) ∙ (λ t. home_as v (sym whole t) (has_room v.class page.free))
  by_whole (inr whole) = by_room whole (cases_Bool (has_room page.class page.free))

  pub home_is : made kind ≡ home_word page.frame v page.free
  home_is = by_whole (cases_Bool (is_whole page.frame page.free))

-- the word with which a frame is given back is in range
pub home_fits : (v : FrameWord) (whole room : Bool) → IsClassNumber v.class → v.stamp < 2 ^ 32 → IsFrameWord (home_as v whole room)
home_fits v true room class stamp = record { of_class = refl; of_stamp = stamp; of_seat = refl }
home_fits v false true class stamp = record { of_class = class; of_stamp = stamp; of_seat = refl }
home_fits v false false class stamp = record { of_class = class; of_stamp = stamp; of_seat = refl }

-- it says the same for two owned words of one class and one stamp
home_same_by : (v u : FrameWord) (whole room : Bool) → v.class ≡ u.class → v.stamp ≡ u.stamp → home_as v whole room ≡ home_as u whole room
home_same_by v u true room c s = λ t. record { kind = frames.Empty; class = 0; stamp = s t; seat = 0 }
home_same_by v u false true c s = λ t. record { kind = frames.Ready; class = c t; stamp = s t; seat = 0 }
home_same_by v u false false c s = λ t. record { kind = frames.Used; class = c t; stamp = s t; seat = 0 }

pub home_same : (frame : Span) (v u : FrameWord) (free : List Span) → v.class ≡ u.class → v.stamp ≡ u.stamp →
    home_word frame v free ≡ home_word frame u free
home_same frame v u free c s =
    home_same_by v u (is_whole frame free) (has_room v.class free) c s ∙ (λ t. home_as u (is_whole frame free) (has_room (c t) free))
