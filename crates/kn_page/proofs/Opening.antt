-- The pages that were opened so far.
use Rattle.std.proofs.Common.{ℕ, zero, suc, ◌+◌, ◌<◌, ◌≤◌, ◌≡◌, List, [], ◌∷◌, ◌++◌, Some, None, length, length-append, refl}
use Rattle.std.proofs.Common.{ap, sym, ◌∙◌, inl, inr, arith}
use Rattle.std.specs.Prelude.{slice_get}
use Rattle.std.specs.Option.{option_map}
use Rattle.std.proofs.lemmas.Bool.{cases_lt}
use Rattle.std.proofs.lemmas.Option.{slice_get_past}
use Rattle.kn_base.specs.declared.heap.Sizes.{Sizes}
use Rattle.kn_base.specs.Pages.{whole_view}
use Rattle.kn_base.specs.Sizes.{span_of_frame}
use Rattle.kn_page.specs.declared.page.Page.{Page}
use Rattle.kn_page.specs.PageViews.{page_view}
use Rattle.kn_page.specs.Opened.{AreFirstBelow, AreFirstPages, first_class, first_view}

-- an element before the last one stands where it stood
got_before : (xs : List Page) (y : Page) (p : ℕ) → p < length xs → slice_get (xs ++ y ∷ []) p ≡ slice_get xs p
got_before [] y p h = absurd (omega arith)
got_before (x ∷ xs) y zero h = refl
got_before (x ∷ xs) y (suc p) h = got_before xs y p (omega arith)

-- the last element stands behind the others
got_last : (xs : List Page) (y : Page) (p : ℕ) → p ≡ length xs → slice_get (xs ++ y ∷ []) p ≡ Some y
got_last [] y zero e = refl
got_last [] y (suc p) e = absurd (omega arith)
got_last (x ∷ xs) y zero e = absurd (omega arith)
got_last (x ∷ xs) y (suc p) e = got_last xs y p (omega arith)

-- one more page at the end
pub first_pages_more : (z : Sizes) (n : ℕ) (pages : List Page) (page : Page) → AreFirstBelow z n pages → Some (page_view page) ≡ first_view z n
    → AreFirstBelow z (n + 1) (pages ++ page ∷ [])
first_pages_more z n pages page below at = (
  simp length-append (omega (arith, below.0)),
  λ p h. elim (cases_lt p n) [
    | inl less ↦ ap (option_map page_view) (got_before pages page p (omega (arith, below.0))) ∙ below.1 p less
    | inr more ↦
        let last : p ≡ n = omega arith in
        ap (option_map page_view) (got_last pages page p (omega (arith, below.0))) ∙ at ∙ ap (first_view z) (sym last)
  ],
)

-- all pages
pub first_pages_all : (z : Sizes) (n : ℕ) (pages : List Page) → ((p : ℕ) → n ≤ p → span_of_frame z p ≡ None) → AreFirstBelow z n pages
    → AreFirstPages z pages
first_pages_all z n pages past below p =
    elim (cases_lt p n) [
      | inl less ↦ below.1 p less
      | inr more ↦
          let no_page = slice_get_past pages p (omega (arith, below.0)) in
          ap (option_map page_view) no_page ∙ ap (option_map (whole_view (first_class z p))) (sym (past p more))
    ]
