-- A page that is asked for a cell.
use Rattle.std.proofs.Common.{◌≡◌, ℕ, ◌<◌, ◌≤◌, ◌⊎◌, ◌↔◌, inl, inr, Bool, true, false, cond, Option, Some, None, slice_get}
use Rattle.std.proofs.Common.{slice_set, IsNone, MatchOption, refl, sym, ap, ◌∙◌, subst, arith}
use Rattle.std.proofs.lemmas.Bool.Decides.{leb_tells}
use Rattle.std.proofs.Math.Dec.{leb}
use Rattle.kn_base.specs.declared.heap.Sizes.{Sizes}
use Rattle.kn_base.specs.declared.numbers.Span.{Span}
use Rattle.kn_base.specs.declared.classes.TheConstants.{LEAST_CELL, NEXT_FIT_CLASS, SINGLE_CLASS}
use Rattle.kn_base.specs.Classes.{IsClassNumber}
use Rattle.kn_page.specs.declared.page.Page.{Page}
use Rattle.kn_page.specs.PageViews.{page_view}
use Rattle.kn_rule.specs.Requests.{class_for}
use Rattle.kn_alloc.specs.Cells.{AsksFor, CannotServe, TakesCell}
use Rattle.kn_alloc.specs.declared.stage.Hand.{Hand}
use Rattle.kn_alloc.specs.declared.stage.Stage.TheVariants.{Searches}
use Rattle.kn_alloc.specs.Keeps.{HasHand, Keeps, Tries, TriesHand, stage_tried}
use Rattle.kn_alloc.proofs.Hands.{set_same, set_twice}

-- what was answered tells the stage
pub tries_told : (page left : Page) (n : ℕ) (found : Option Span) → IsNone found ↔ CannotServe (page_view page) n →
    MatchOption found (left ≡ page) (λ cell. TakesCell (page_view page) n (page_view left) cell) →
    Tries (page_view page) n (page_view left) (stage_tried found)
tries_told page left n None none after = inl (none.0 refl, ap page_view after, refl)
tries_told page left n (Some cell) none after = inr (cell, after, refl)

module _ (z : Sizes) (n : ℕ) (some : LEAST_CELL ≤ n) where
  abbrev Of : ℕ → Type 0
  Of class = IsClassNumber class × AsksFor class n × (class ≤ SINGLE_CLASS)

  abbrev large : Bool → ℕ
  large b = cond b NEXT_FIT_CLASS SINGLE_CLASS

  of_large : 32 < n → (b : Bool) → Of (large b)
  of_large more true = (
    (omega arith, omega arith),
    record { some = some; fixed = λ l. absurd (omega arith); next_fit = λ _. omega arith; extra = λ e. absurd (omega arith) },
    omega arith,
  )
  of_large more false = (
    (omega arith, omega arith),
    record { some = some; fixed = λ l. absurd (omega arith); next_fit = λ e. absurd (omega arith); extra = λ e. absurd (omega arith) },
    omega arith,
  )

  of_fixed : n ≤ 32 → Of n
  of_fixed few = (
    (some, omega arith),
    record { some = some; fixed = λ _. refl; next_fit = λ e. absurd (omega arith); extra = λ e. absurd (omega arith) },
    omega arith,
  )

  class_by : (small : Bool) → ((leb n 32 ≡ true) × (n ≤ 32)) ⊎ ((leb n 32 ≡ false) × (32 < n)) → Of (cond (leb n 32) n (large small))
  class_by small (inl t) = subst (λ b. Of (cond b n (large small))) (sym t.0) (of_fixed t.1)
  class_by small (inr t) = subst (λ b. Of (cond b n (large small))) (sym t.0) (of_large t.1 small)

  -- the class for so many words is one, and its pages are asked for cells of so many words
  pub class_is : Of (class_for z n)
  class_is = class_by (leb n z.small_words) (leb_tells n 32)

-- the page of a hand that was taken out was asked
pub handed : (m m1 m' : Keeps) (class : ℕ) (hand : Hand) → class ≡ m.class → slice_get m.hands class ≡ Some (Some hand) →
    m1 ≡ record m { hands = slice_set m.hands class None } → TriesHand m1 hand m' → HasHand m.hands m.class hand × TriesHand m hand m'
handed m m1 m' class hand same had out tried =
    let t = subst (λ (q : Keeps). TriesHand q hand m') (out ∙ (λ i. record m { hands = slice_set m.hands (same i) None })) tried in (
      subst (λ k. slice_get m.hands k ≡ Some (Some hand)) same had,
      record {
        left = t.left;
        stage = t.stage;
        frame = t.frame;
        stamp = t.stamp;
        tries = t.tries;
        after = t.after ∙ (λ i. record m { hands = set_twice m.hands m.class None (Some t.left) i; stage = t.stage });
      },
    )

-- and where there was none, nothing was taken out
pub no_hand : (m m1 m' : Keeps) (class : ℕ) → class ≡ m.class → slice_get m.hands class ≡ Some None →
    m1 ≡ record m { hands = slice_set m.hands class None } → m' ≡ record m1 { stage = Searches } →
    (slice_get m.hands m.class ≡ Some None) × (m' ≡ record m { stage = Searches })
no_hand m m1 m' class same had out after = (
  subst (λ k. slice_get m.hands k ≡ Some None) same had,
  after ∙ (λ i. record (out i) { stage = Searches }) ∙ (λ i. record m { hands = set_same m.hands class None had i; stage = Searches }),
)
