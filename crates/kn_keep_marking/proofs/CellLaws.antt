-- The laws of the steps on children and on scanned cells.
use Rattle.std.proofs.Common.{◌≡◌, ◌≢◌, inl, inr, ℕ, ◌+◌, ◌*◌, ◌<◌, ◌≤◌, Bool, true, false, cond, eqb, ltb, Some}
use Rattle.std.proofs.Common.{refl, sym, ap, ◌∙◌}
use Rattle.std.proofs.Common.{arith, subst, ltb-true, ltb-false}
use Rattle.std.proofs.lemmas.Bool.Decides.{eqb_tells}
use Rattle.kn_base.specs.declared.places.Place.{Place}
use Rattle.kn_base.specs.declared.places.Place.TheVariants.{Pending, Side, Body}
use Rattle.kn_base.specs.declared.kinds.Colour.{Colour}
use Rattle.kn_base.specs.declared.kinds.Colour.TheVariants as colours
use Rattle.kn_base.specs.Kinds.{colour_number}
use Rattle.kn_base.specs.Functions.{upd, Tells}
use Rattle.kn_layout.specs.declared.layouts.FieldKind.{FieldKind}
use Rattle.kn_layout.specs.declared.layouts.FieldKind.TheVariants.{Ref as of_ref}
use Rattle.kn_graph.specs.Ground.{Ground, IsGoodGround}
use Rattle.kn_graph.specs.Graph.{Graph, shapes}
use Rattle.kn_marking.specs.declared.work.Work.{Work}
use Rattle.kn_marking.specs.declared.work.Doing.{Doing}
use Rattle.kn_marking.specs.declared.work.Doing.TheVariants as doings
use Rattle.kn_marking.specs.declared.work.Child.{Child}
use Rattle.kn_marking.specs.declared.work.Child.TheVariants as children
use Rattle.kn_marking.specs.Heap.{Heap, Live}
use Rattle.kn_marking.specs.Words.{gray, scanned, black}
use Rattle.kn_marking.specs.Marking.{cell_of, Busy, place, bound, ref, Names, Empty, ChildFits, Shares, Marking}
use Rattle.kn_marking.specs.Shares.{seen, passed_child, lost_child, rested, began, opened}
use Rattle.kn_marking.proofs.Quiet.{child_seen, child_marked, child_lost, header_read}
use Rattle.kn_marking.proofs.Steps.{child_won, child_live, began_epoch, gray_won, cell_black}
use Rattle.kn_rule.specs.Decoding.{header_of}
use Rattle.kn_rule.specs.Requests.{told_kind, told_shape}
use Rattle.kn_rule.specs.Places.{put}
use Rattle.kn_rule.specs.Views.{State, views_of}
use Rattle.kn_rule.specs.MarkedHeap.{cell_limit, is_live_at, object_in, object_if, next_ref, place_behind}
use Rattle.kn_rule.specs.Steps.{callers}
use Rattle.kn_rule.specs.MarkSteps.{arrived, IsMarker, mark_loaded, child_after, body_read}
use Rattle.kn_rule.specs.ObjectClauses.{IsMarked}
use Rattle.kn_rule.specs.MarkClauses.{IsHeaderRead}
use Rattle.kn_rule.specs.Rule.{Represents, RuleOf}
use Rattle.kn_rule.specs.declared.steps.Action.TheVariants.{Swaps}
use Rattle.kn_keep_heap.proofs.Fields.{kind_below}
use Rattle.kn_keep_heap.proofs.Works.{worked_rule}
use Rattle.kn_keep_heap.proofs.ByAddress.{live_found, live_there}
use Rattle.kn_keep_marking.proofs.Stands.{sound_in_mark}
use Rattle.kn_keep_marking.proofs.Places.{next_empty, first_empty}
use Rattle.kn_keep_marking.proofs.Sides.{represents_marked}
use Rattle.kn_keep_marking.proofs.SetLaws.{header_to, works, mine, H, mark, set, body, epoch, IsMark, near, marks, rests, resting, whole, headers}
use Rattle.kn_keep_marking.proofs.SetLaws.{Worked, loaded, unmoved, fits, arrives, arrived_header}

-- a field that a header tells of lies below the number of fields
pub told_below : (z : Ground) (h i : ℕ) (k : FieldKind) → told_kind z h i ≡ Some k → i < (header_of h).length
told_below z h i k e = kind_below z (told_shape h) i k e

names_busy : (h : Heap) (d : Doing) (y : ℕ) → Names h d y → Busy d
names_busy h doings.Free y n = let l = n.0 in absurd (omega arith)
names_busy h (doings.Set j i) y n = tt
names_busy h (doings.Header x) y n = tt
names_busy h (doings.Cell x hd i) y n = tt

module _ (z : Ground) (good : IsGoodGround z) (s : State) (g : Graph) (rule : RuleOf z g s.word s.page (views_of s.caller) s.history) (by : ℕ)
    (marker : IsMarker z by (s.caller by)) where
  abbrev W : Work
  W = mine z good s g rule by marker

  abbrev K : Heap
  K = H z good s g rule by marker

  abbrev side : ℕ → ℕ
  side = mark z good s g rule by marker

  abbrev sets : ℕ → ℕ
  sets = set z good s g rule by marker

  abbrev E : ℕ
  E = epoch z good s g rule by marker

  abbrev InMark : Type 0
  InMark = IsMark z good s g rule by marker

  abbrev all : ℕ → Work
  all = works z good s g rule by marker

  abbrev N : ℕ
  N = callers z.sizes

  close : by < N
  close = near z good s g rule by marker

  abbrev Then : Place → ℕ → Work → Type 0
  Then = Worked z good s g rule by marker

  abbrev behind : ℕ
  behind = place_behind z W.doing

  idle_child : {A : Type 0} (c : Child) → c ≢ children.NoChild → W.child ≡ c → (InMark → ⊥) → A
  idle_child c ne is out = absurd (ne (sym is ∙ (resting z good s g rule by marker out).no_child))

  idle_doing : {A : Type 0} (d : Doing) → W.doing ≡ d → Busy d → (InMark → ⊥) → A
  idle_doing d is busy out = absurd (subst Busy (sym is ∙ (resting z good s g rule by marker out).free) busy)

  named_epoch : (e : InMark) (y : ℕ) → Names K W.doing y → W.epoch ≡ E
  named_epoch e y n = (fits z good s g rule by marker e).current (names_busy K W.doing y n)

  child_fits : (e : InMark) (c : Child) → W.child ≡ c → ChildFits K E side W.doing c
  child_fits e c is = subst (λ x. ChildFits K E side W.doing x) is (fits z good s g rule by marker e).child

  empty_behind : (e : InMark) → Empty K W.doing (place W.doing + 1) behind
  empty_behind e = next_empty z g.born (shapes g) s.word W.doing ((marks z good s g rule by marker e).headers by close)

  -- a mark of the epoch
  marked_with : (c : Colour) (k v : ℕ) → k ≡ E → v ≡ 4 * k + colour_number c → IsMarked v
  marked_with c k v e is = record {
    mark = record { epoch = k; colour = c };
    ranges = let r = rule.stands.timed.packs.ranges in omega (arith, r, e);
    packs = is;
  }

  -- the mark of a living object is stored
  marked : (e : InMark) (y v : ℕ) (w : Work) → Live K y → IsMarked v →
      Marking K g.paused E N (upd side y v) sets (upd all by w) (s.word Pending) → IsHeaderRead (body z good s g rule by marker) w.doing →
      Then (Side y) v w
  unfolding Worked
  marked e y v w live m marking header =
      let n = live_found (shapes g) y g.born live.1 in
      worked_rule z s by g rule w (put s.word (Side y) v)
      (subst (λ a. Represents z g (put s.word (Side a) v) s.page (views_of s.caller)) n.1.1
      (represents_marked z g s.word s.page (views_of s.caller) rule.stands n.0 v n.1.0 m))
      rule.localed (record {
        in_mark = λ _. record { marking = marking; headers = headers z good s g rule by marker e w header };
        at_rest = λ out. absurd (out e);
      })

  -- the mark of a child was loaded
  module _ (y n : ℕ) (is : W.child ≡ children.Met y) (found : s.word (Side y) ≡ n) where
    met_at : (b : Bool) → ltb n (4 * W.epoch) ≡ b → Then (Side y) n (cond b (seen W y n) (passed_child W behind))
    met_at true t =
        loaded z good s g rule by marker (Side y) n (seen W y n) found
        (λ e. let at = named_epoch e y (child_fits e (children.Met y) is) in let low = ltb-true n (4 * W.epoch) t in
        subst (λ k. Shares K E N side sets (upd all by (seen W y k)) (s.word Pending)) found
        (child_seen K E N side sets all (s.word Pending) (marks z good s g rule by marker e).marking.shares by close y is (omega (arith, at, low, found))))
        (λ e. (marks z good s g rule by marker e).headers by close)
        (idle_child (children.Met y) (λ h. cc) is)
    met_at false t =
        loaded z good s g rule by marker (Side y) n (passed_child W behind) found
        (λ e. let at = named_epoch e y (child_fits e (children.Met y) is) in let high = ltb-false n (4 * W.epoch) t in
        child_marked K E N side sets all (s.word Pending) (marks z good s g rule by marker e).marking.shares by close y behind is
        (omega (arith, at, high, found)) (empty_behind e))
        (λ e. header_to (body z good s g rule by marker) behind W.doing ((marks z good s g rule by marker e).headers by close))
        (idle_child (children.Met y) (λ h. cc) is)

    pub child_loaded : Then (Side y) n (mark_loaded z W n y)
    child_loaded = met_at (ltb n (4 * W.epoch)) refl

  -- its exchange
  module _ (y old n : ℕ) (is : W.child ≡ children.Reserved y old) (found : s.word (Side y) ≡ n) where
    gray_won_at : InMark → n ≡ old → Then (Side y) (gray W.epoch) (passed_child W behind)
    gray_won_at e same =
        let m = (marks z good s g rule by marker e).marking in
        let sound = sound_in_mark z good s g rule e in
        let fit : ChildFits K E side W.doing (children.Reserved y old) = child_fits e (children.Reserved y old) is in
        let at = named_epoch e y fit.0 in
        marked e y (gray W.epoch) (passed_child W behind)
        (child_live K sound g.paused E N side sets all (s.word Pending) m by close y old behind is (found ∙ same) (empty_behind e))
        (marked_with colours.Gray W.epoch (gray W.epoch) at refl)
        (subst (λ k. Marking K g.paused E N (upd side y (gray k)) sets (upd all by (passed_child W behind)) (s.word Pending)) (sym at)
        (child_won K sound g.paused E N side sets all (s.word Pending) m by close y old behind is (found ∙ same) (empty_behind e)))
        (header_to (body z good s g rule by marker) behind W.doing ((marks z good s g rule by marker e).headers by close))

    gray_lost : n ≢ old → Then (Side y) n (lost_child W behind)
    gray_lost ne =
        loaded z good s g rule by marker (Side y) n (lost_child W behind) found
        (λ e. child_lost K E N side sets all (s.word Pending) (marks z good s g rule by marker e).marking.shares by close y old behind is
        (λ h. ne (sym found ∙ h)) (empty_behind e))
        (λ e. header_to (body z good s g rule by marker) behind W.doing ((marks z good s g rule by marker e).headers by close))
        (idle_child (children.Reserved y old) (λ h. cc) is)

    gray_at : InMark → Tells n old → Then (Side y) (cond (eqb n old) (gray W.epoch) n) (cond (eqb n old) (passed_child W behind) (lost_child W behind))
    gray_at e (inl t) =
        subst (λ b. Then (Side y) (cond b (gray W.epoch) n) (cond b (passed_child W behind) (lost_child W behind))) (sym t.0) (gray_won_at e t.1)
    gray_at e (inr t) =
        subst (λ b. Then (Side y) (cond b (gray W.epoch) n) (cond b (passed_child W behind) (lost_child W behind))) (sym t.0) (gray_lost t.1)

    pub child_grayed : InMark → Then (Side y) (cond (eqb n old) (gray W.epoch) n) (child_after z W n W.child y (Swaps old (gray W.epoch)))
    child_grayed e =
        subst (λ c. Then (Side y) (cond (eqb n old) (gray W.epoch) n) (child_after z W n c y (Swaps old (gray W.epoch)))) (sym is)
        (gray_at e (eqb_tells n old))

    pub reserved_out : {A : Type 0} → (InMark → ⊥) → A
    reserved_out = idle_child (children.Reserved y old) (λ h. cc) is

  -- a gray object is taken up
  module _ (x n : ℕ) (low : x < cell_limit z.sizes) (free : W.doing ≡ doings.Free) (found : s.word (Side x) ≡ n) where
    live_gray : n ≡ gray W.epoch → (b : Bool) → is_live_at g.born (shapes g) x ≡ b → is_live_at g.born (shapes g) x ≡ true
    live_gray same true e = e
    live_gray same false e =
        let none : s.word (Side x) ≡ 0 = rule.stands.headed.blank x low (λ k l h.
        let q : true ≡ false = sym (live_there (shapes g) x g.born k (l, h)) ∙ e in absurd (cc)) in
        absurd (omega (arith, none, found, same))

    scan_won : InMark → n ≡ gray W.epoch → Then (Side x) (scanned W.epoch) (began W x)
    scan_won e same =
        let m = (marks z good s g rule by marker e).marking in
        let sound = sound_in_mark z good s g rule e in
        let live : Live K x = (low, live_gray same (is_live_at g.born (shapes g) x) refl) in
        let at = began_epoch K sound g.paused E N side sets all (s.word Pending) m by close x live free (found ∙ same) in
        marked e x (scanned W.epoch) (began W x) live (marked_with colours.Scanned W.epoch (scanned W.epoch) at refl)
        (subst (λ k. Marking K g.paused E N (upd side x (scanned k)) sets (upd all by (began W x)) (s.word Pending)) (sym at)
        (gray_won K sound g.paused E N side sets all (s.word Pending) m by close x live free (found ∙ same)))
        tt

    -- outside Mark there is none
    none_gray : (InMark → ⊥) → n ≡ gray W.epoch → ⊥
    none_gray out same =
        let k = live_found (shapes g) x g.born (live_gray same (is_live_at g.born (shapes g) x) refl) in
        let b = (rests z good s g rule by marker out).marks k.0 k.1.0 in
        let p : s.word (Side x) ≡ black b.epoch = ap (λ a. s.word (Side a)) (sym k.1.1) ∙ b.packs in
        absurd (omega (arith, p, found, same))

    scan_at : InMark → Tells n (gray W.epoch) → Then (Side x) (cond (eqb n (gray W.epoch)) (scanned W.epoch) n) (cond (eqb n (gray W.epoch)) (began W x) W)
    scan_at e (inl t) = subst (λ b. Then (Side x) (cond b (scanned W.epoch) n) (cond b (began W x) W)) (sym t.0) (scan_won e t.1)
    scan_at e (inr t) =
        subst (λ b. Then (Side x) (cond b (scanned W.epoch) n) (cond b (began W x) W)) (sym t.0) (unmoved z good s g rule by marker (Side x) n found)

    rest_at : (InMark → ⊥) → Tells n (gray W.epoch) →
        Then (Side x) (cond (eqb n (gray W.epoch)) (scanned W.epoch) n) (cond (eqb n (gray W.epoch)) (began W x) W)
    rest_at out (inl t) = absurd (none_gray out t.1)
    rest_at out (inr t) =
        subst (λ b. Then (Side x) (cond b (scanned W.epoch) n) (cond b (began W x) W)) (sym t.0) (unmoved z good s g rule by marker (Side x) n found)

    pub gray_scanned : InMark → Then (Side x) (cond (eqb n (gray W.epoch)) (scanned W.epoch) n) (cond (eqb n (gray W.epoch)) (began W x) W)
    gray_scanned e = scan_at e (eqb_tells n (gray W.epoch))

    pub gray_rested : (InMark → ⊥) → Then (Side x) (cond (eqb n (gray W.epoch)) (scanned W.epoch) n) (cond (eqb n (gray W.epoch)) (began W x) W)
    gray_rested out = rest_at out (eqb_tells n (gray W.epoch))

  -- the header of a cell
  pub header_loaded : (x n : ℕ) → W.doing ≡ doings.Header x → s.word (Body x) ≡ n → Then (Body x) n (body_read z W n W.doing)
  header_loaded x n is found =
      subst (λ d. Then (Body x) n (body_read z W n d)) (sym is)
      (loaded z good s g rule by marker (Body x) n (opened W x n (next_ref z n 0)) found
      (λ e. header_read K E N side sets all (s.word Pending) (marks z good s g rule by marker e).marking.shares by close x n (next_ref z n 0) is
      (λ k y below near f. first_empty z g.born (shapes g) s.word x n (sym found) k y (omega arith) below near f))
      (λ e. sym found)
      (idle_doing (doings.Header x) is tt))

  -- its fields
  pub field_loaded : (x h i n : ℕ) → W.doing ≡ doings.Cell x h i → told_kind z h i ≡ Some of_ref → W.child ≡ children.NoChild →
      s.word (Body (x + 1 + i)) ≡ n → Then (Body (x + 1 + i)) n (body_read z W n W.doing)
  field_loaded x h i n is kind none found =
      subst (λ d. Then (Body (x + 1 + i)) n (body_read z W n d)) (sym is)
      (loaded z good s g rule by marker (Body (x + 1 + i)) n (arrived z W n (object_in n)) found
      (λ e. let read = header_is e in
      arrives z good s g rule by marker e n (object_in n)
      (subst (λ d. place d < bound K d) (sym is) (subst (λ a. i < (header_of a).length) read (told_below z h i of_ref kind)))
      (ap (λ d. ref K d (place d)) is ∙ (ap (λ a. object_if (told_kind z a i) (s.word (Body (x + 1 + i)))) (sym read)
      ∙ (ap (λ k. object_if k (s.word (Body (x + 1 + i)))) kind ∙ ap object_in found))) none)
      (λ e. arrived_header z good s g rule by marker e n (object_in n))
      (idle_doing (doings.Cell x h i) is tt))
    where
      header_is : InMark → h ≡ s.word (Body x)
      header_is e =
          subst (λ d. IsHeaderRead (body z good s g rule by marker) d) is ((marks z good s g rule by marker e).headers by close)

  -- a cell becomes black
  pub cell_blackened : (x h i : ℕ) → W.doing ≡ doings.Cell x h i → (header_of h).length ≤ i → W.child ≡ children.NoChild → W.owed ≡ 0 →
      InMark →
      Then (Side x) (black W.epoch) (rested W)
  cell_blackened x h i is whole none paid e =
      let m = (marks z good s g rule by marker e).marking in
      let sound = sound_in_mark z good s g rule e in
      let read : h ≡ s.word (Body x) =
      subst (λ d. IsHeaderRead (body z good s g rule by marker) d) is ((marks z good s g rule by marker e).headers by close) in
      let at = (fits z good s g rule by marker e).current (subst Busy (sym is) tt) in
      let live = (m.shares.cells.back x by close (ap cell_of is)).0 in
      marked e x (black W.epoch) (rested W) live (marked_with colours.Black W.epoch (black W.epoch) at refl)
      (subst (λ k. Marking K g.paused E N (upd side x (black k)) sets (upd all by (rested W)) (s.word Pending)) (sym at)
      (cell_black K sound g.paused E N side sets all (s.word Pending) m by close x h i is (subst (λ a. (header_of a).length ≤ i) read whole) none paid))
      tt

  pub cell_out : {A : Type 0} (x h i : ℕ) → W.doing ≡ doings.Cell x h i → (InMark → ⊥) → A
  cell_out x h i is = idle_doing (doings.Cell x h i) is tt
