-- What a claim, a frame that goes home and a word of a cell make of what is stored.
use Rattle.std.proofs.Common.{◌≡◌, ℕ, ◌<◌, ◌==◌, cond, List, length, map, Option, Some, None, refl, sym, ap, ◌∙◌, subst}
use Rattle.std.proofs.Common.{slice_get, slice_set, eq-eqb, arith}
use Rattle.kn_base.specs.declared.numbers.Span.{Span}
use Rattle.kn_base.specs.declared.places.Place.{Place}
use Rattle.kn_base.specs.declared.places.Place.TheVariants.{Frame}
use Rattle.kn_base.specs.declared.classes.TheConstants.{NEXT_FIT_CLASS}
use Rattle.kn_base.specs.Sizes.{frame_count}
use Rattle.kn_base.specs.Spans.{end_of}
use Rattle.kn_base.specs.SpanLists.{IsFreeListOf, without}
use Rattle.kn_base.specs.Pages.{FrameView}
use Rattle.kn_graph.specs.declared.calls.Call.{Call}
use Rattle.kn_graph.specs.declared.entries.Entry.{Entry}
use Rattle.kn_graph.specs.Ground.{Ground}
use Rattle.kn_rule.specs.declared.steps.Kind.TheVariants.{K10, K11, K12}
use Rattle.kn_rule.specs.declared.steps.Action.{Action}
use Rattle.kn_rule.specs.declared.positions.Position.TheVariants.{Calling}
use Rattle.kn_rule.specs.Decoding.{frame_of}
use Rattle.kn_rule.specs.FrameSpans.{frame_span, frame_at}
use Rattle.kn_rule.specs.Views.{View, Sweep, flattened, owns}
use Rattle.kn_rule.specs.Requests.{words_asked, class_asked}
use Rattle.kn_rule.specs.Steps.{Found, Outcome, callers, frame_in, address_in, word_wanted, word_stored, quietly}
use Rattle.kn_rule.specs.Outcomes.{outcome, claimed_if, sweep_begun, home_at, clear_at, cell_begun, clear_first, open_without}
use Rattle.kn_view.specs.Parts.{Part, view_with}
use Rattle.kn_view.specs.Told.{SaysOwning, told}
use Rattle.kn_holds.specs.Holds.{Hold}
use Rattle.kn_board.specs.Parts.{own_of}
use Rattle.kn_board.specs.Stored.{HoldsFit, claimed, hold_at}
use Rattle.kn_board.specs.Asks.{AsksClaim, AsksHome}
use Rattle.kn_board.specs.Noted.{Noted}
use Rattle.kn_board.proofs.Holdings.{open_of, own_mine, own_other, own_none, owns_stored, fits_set, mine_set, others_set}

module _ (z : Ground) (by : ℕ) (old : Part) (holds : List Hold) (fits : HoldsFit z.sizes holds) (p : Place) (a : Action) (f : Found) where
  abbrev Notes : Part → List Hold → List Entry → List Entry → (View → Outcome) → Type 0
  Notes new holds' before after o = Noted z by old new holds holds' before after o

  -- a claim that wins
  module _ (slot : Option FrameView) (asks : AsksClaim z by old p a f.word holds slot) (won : f.word ≡ word_wanted a) (k word : ℕ)
      (at : k ≡ frame_in p) (is_word : word ≡ word_stored a) (sweep : Option Sweep)
      (swept : sweep ≡ sweep_begun z.sizes k (frame_of (word_wanted a)).kind) (list : IsFreeListOf (frame_span z.sizes k) f.page.free)
      (history : List Entry) where
    abbrev held : Hold
    held = claimed by word f.page (hold_at holds k)

    frame_is : k ≡ asks.at.frame
    frame_is = at ∙ ap frame_in asks.at.place

    near : k < frame_count z.sizes
    near = let e = frame_is in let l = asks.at.near in omega arith

    old_is : f.word ≡ asks.old
    old_is = won ∙ ap word_wanted asks.act

    unowned : (c : ℕ) → c < callers z.sizes → own_of c (hold_at holds k) ≡ None
    unowned c l = ap (λ k. own_of c (hold_at holds k)) frame_is ∙ asks.nobody old_is c l

    claim_noted : Notes (record old { sweep = sweep }) (slice_set holds k held) history history (λ v. outcome z by v p a f K10)
    claim_noted = record {
      mine = λ log.
          let v : View = view_with z old (map (own_of by) holds) log in
          let owned : map (own_of by) (slice_set holds k held)
          ≡ slice_set (map (own_of by) holds) (frame_in p) (Some (record { word = word_stored a; free = f.page.free; cursor = f.page.cursor })) =
          mine_set z.sizes holds fits k near held by _ (own_mine by held refl)
          ∙ (λ t. slice_set (map (own_of by) holds) (at t) (Some (record { word = is_word t; free = f.page.free; cursor = f.page.cursor }))) in
          let begun : sweep ≡ sweep_begun z.sizes (frame_in p) (frame_of (word_wanted a)).kind =
          swept ∙ ap (λ k. sweep_begun z.sizes k (frame_of (word_wanted a)).kind) at in
          ap (told history)
          ((λ t. quietly (record v { owned = owned t; sweep = begun t }))
          ∙ ap (claimed_if z by v p a f) (sym (eq-eqb f.word (word_wanted a) won)));
      others = λ c l n. others_set z.sizes holds fits k near held c (own_other by c held refl n ∙ sym (unowned c l));
      fits = fits_set z.sizes holds fits k near held refl (λ c e. list);
    }

    pub claim_made : (new : Part) → new ≡ record old { sweep = sweep } → (holds' : List Hold) → holds' ≡ slice_set holds k held →
        Notes new holds' history history (λ v. outcome z by v p a f K10)
    claim_made new e holds' eh =
        subst (λ q. Notes q holds' history history (λ v. outcome z by v p a f K10)) (sym e)
        (subst (λ h. Notes (record old { sweep = sweep }) h history history (λ v. outcome z by v p a f K10)) (sym eh) claim_noted)

  -- a frame goes home
  module _ (asks : AsksHome z by old p a f.word holds) (k : ℕ) (at : k ≡ frame_in p) where
    abbrev gone : Hold
    gone = record (hold_at holds k) { by = None }

    home_is : k ≡ asks.at.frame
    home_is = at ∙ ap frame_in asks.at.place

    home_near : k < frame_count z.sizes
    home_near = let e = home_is in let l = asks.at.near in omega arith

    its : (hold_at holds k).by ≡ Some by
    its = ap (λ k. (hold_at holds k).by) home_is ∙ asks.owned

    pub home_noted : (new : Part) (before after : List Entry) →
        SaysOwning z old new before after k (Some (open_of (hold_at holds k))) None (λ v. home_at z by v (Frame k) a f old.position) →
        Notes new (slice_set holds k gone) before after (λ v. outcome z by v p a f K11)
    home_noted new before after h =
        let place : Frame k ≡ p = ap Frame home_is ∙ sym asks.at.place in record {
          mine = λ log.
              let v : View = view_with z old (map (own_of by) holds) log in
              let near : k < length holds = let e = fits.count in let l = home_near in omega arith in
              let has : flattened (slice_get (map (own_of by) holds) k) ≡ Some (open_of (hold_at holds k)) =
              owns_stored by holds k near ∙ own_mine by (hold_at holds k) its in
              ap (λ l. record { view = view_with z new l log; history = after })
              (mine_set z.sizes holds fits k home_near gone by None (own_none by gone refl))
              ∙ (h (map (own_of by) holds) log has ∙ ap (λ q. told before (home_at z by v q a f old.position)) place);
          others = λ c l n. others_set z.sizes holds fits k home_near gone c
              (own_none c gone refl ∙ sym (own_other by c (hold_at holds k) its n));
          fits = fits_set z.sizes holds fits k home_near gone refl
              (λ c e. let x : Option.None ≡ Some c = e in absurd (cc));
        }

  -- the first word of a cell is cleared
  module _ (call : Call) (n : ℕ) (is : old.position ≡ Calling call) (asked : words_asked z call ≡ Some n) (none : old.taken ≡ None) (k b : ℕ)
      (here : b ≡ address_in p) (at : k ≡ frame_at z.sizes b) (near : k < frame_count z.sizes) (its : (hold_at holds k).by ≡ Some by)
      (history : List Entry) where
    abbrev cell : Span
    cell = record { start = b; len = n }

    abbrev cut : ℕ → Hold
    cut start = record (hold_at holds k) {
      free = record (hold_at holds k).free { spans = without cell (hold_at holds k).free.spans };
      cursor = cond (class_asked z call == NEXT_FIT_CLASS) (end_of cell) start;
    }

    pub cell_noted : (start : ℕ) → start ≡ (frame_span z.sizes k).start →
        IsFreeListOf (frame_span z.sizes k) (without cell (hold_at holds k).free.spans) →
        Notes (record old { taken = Some (record { frame = k; span = cell; cleared = 1 }) }) (slice_set holds k (cut start)) history history
        (λ v. outcome z by v p a f K12)
    cell_noted start first list = record {
      mine = λ log.
          let v : View = view_with z old (map (own_of by) holds) log in
          let near' : k < length holds = let e = fits.count in omega arith in
          let has : owns v k ≡ Some (open_of (hold_at holds k)) = owns_stored by holds k near' ∙ own_mine by (hold_at holds k) its in
          let same : Option.Some (open_of (cut start)) ≡ open_without z by v p a f k (class_asked z call) cell (owns v k) =
          (λ t. Some (open_of (cut (first t)))) ∙ ap (open_without z by v p a f k (class_asked z call) cell) (sym has) in
          let owned : map (own_of by) (slice_set holds k (cut start))
          ≡ slice_set v.owned k (open_without z by v p a f k (class_asked z call) cell (owns v k)) =
          mine_set z.sizes holds fits k near (cut start) by _ (own_mine by (cut start) its) ∙ ap (slice_set v.owned k) same in
          let at' : k ≡ frame_at z.sizes (address_in p) = at ∙ ap (frame_at z.sizes) here in
          let cells : cell ≡ cell_begun z by v p a f (words_asked z call) =
          (λ t. record { start = here t; len = n }) ∙ ap (cell_begun z by v p a f) (sym asked) in
          ap (told history)
          ((λ t. quietly (record v { taken = Some (record { frame = k; span = cell; cleared = 1 }); owned = owned t }))
          ∙ ((λ t. quietly (clear_first z by v p a f (at' t) (class_asked z call) (cells t)))
          ∙ sym (λ t. clear_at z by v p a f (is t) (none t))));
      others = λ c l ne. others_set z.sizes holds fits k near (cut start) c
          (own_other by c (cut start) its ne ∙ sym (own_other by c (hold_at holds k) its ne));
      fits = fits_set z.sizes holds fits k near (cut start) refl (λ c e. list);
    }

    -- as what is stored of the frame and of the view came about
    pub cell_made : (span : Span) (class : ℕ) → span ≡ cell → class ≡ class_asked z call → (was now : Hold) → was ≡ hold_at holds k →
        (start : ℕ) →
        start ≡ (frame_span z.sizes k).start →
        now ≡ record was {
          free = record was.free { spans = without span was.free.spans };
          cursor = cond (class == NEXT_FIT_CLASS) (end_of span) start;
        } → IsFreeListOf (frame_span z.sizes k) now.free.spans → (new : Part) →
        new ≡ record old { taken = Some (record { frame = k; span = span; cleared = 1 }) } →
        Notes new (slice_set holds k now) history history (λ v. outcome z by v p a f K12)
    cell_made span class es ec was now ew start first en list new e =
        let now_is : now ≡ cut start = en ∙ (λ t. record (ew t) {
          free = record (ew t).free { spans = without (es t) (ew t).free.spans };
          cursor = cond (ec t == NEXT_FIT_CLASS) (end_of (es t)) start;
        }) in
        let new_is : new ≡ record old { taken = Some (record { frame = k; span = cell; cleared = 1 }) } =
        e ∙ (λ t. record old { taken = Some (record { frame = k; span = es t; cleared = 1 }) }) in
        subst (λ q. Notes q (slice_set holds k now) history history (λ v. outcome z by v p a f K12)) (sym new_is)
        (subst (λ h. Notes (record old { taken = Some (record { frame = k; span = cell; cleared = 1 }) }) (slice_set holds k h) history history
        (λ v. outcome z by v p a f K12)) (sym now_is)
        (cell_noted start first (subst (λ (h : Hold). IsFreeListOf (frame_span z.sizes k) h.free.spans) now_is list)))
