-- The laws of the steps on root sets and on units of work.
use Rattle.std.proofs.Common.{◌≡◌, ◌≢◌, inl, inr, ℕ, ◌+◌, ◌-◌, ◌<◌, ◌≤◌, cond, eqb, Option, Some, None, refl, sym, ap}
use Rattle.std.proofs.Common.{◌∙◌}
use Rattle.std.proofs.Common.{arith, subst}
use Rattle.std.proofs.lemmas.Bool.Decides.{eqb_tells}
use Rattle.kn_base.specs.declared.places.Place.{Place}
use Rattle.kn_base.specs.declared.places.Place.TheVariants.{Phase, Pending, RootSet, Side, Body}
use Rattle.kn_base.specs.declared.kinds.Code.TheVariants as codes
use Rattle.kn_base.specs.Functions.{upd, Tells}
use Rattle.kn_base.proofs.Updates.{upd_same}
use Rattle.kn_graph.specs.Ground.{Ground, IsGoodGround}
use Rattle.kn_graph.specs.Graph.{Graph, shapes}
use Rattle.kn_marking.specs.declared.work.Work.{Work}
use Rattle.kn_marking.specs.declared.work.Doing.{Doing}
use Rattle.kn_marking.specs.declared.work.Doing.TheVariants as doings
use Rattle.kn_marking.specs.declared.work.Child.TheVariants as children
use Rattle.kn_marking.specs.Heap.{Heap}
use Rattle.kn_marking.specs.Words.{claimed, finished}
use Rattle.kn_marking.specs.Marking.{Busy, place, to, bound, ref, Fits, Shares, Marking, Idle, Rest}
use Rattle.kn_marking.specs.Shares.{looked, took, missed, rested, reserved, paid as gave}
use Rattle.kn_marking.proofs.Changes.{each_upd}
use Rattle.kn_marking.proofs.Ends.{idle}
use Rattle.kn_marking.proofs.Quiet.{set_looked, set_missed, place_passed, child_met, unit_added, unit_given}
use Rattle.kn_marking.proofs.Steps.{took_epoch, set_taken, set_finished}
use Rattle.kn_marking.proofs.Rests.{rest_looked, rest_missed, rest_lost}
use Rattle.kn_rule.specs.Decoding.{phase_of}
use Rattle.kn_rule.specs.Places.{put}
use Rattle.kn_rule.specs.Views.{State, views_of}
use Rattle.kn_rule.specs.MarkedHeap.{set_words, set_place, set_holds, place_behind, heap_of}
use Rattle.kn_rule.specs.MarkSteps.{IsMarker}
use Rattle.kn_rule.specs.MarkSteps.{arrived, root_read, reserved_for}
use Rattle.kn_rule.specs.Steps.{callers}
use Rattle.kn_rule.specs.MarkClauses.{IsHeaderRead, Marks, Rests}
use Rattle.kn_rule.specs.Rule.{RuleOf}
use Rattle.kn_keep_heap.proofs.Loads.{put_same}
use Rattle.kn_keep_heap.proofs.Works.{worked_rule}
use Rattle.kn_keep_marking.proofs.Stands.{sound_in_mark}
use Rattle.kn_keep_marking.proofs.Places.{root_is, next_empty, none_empty}

pub header_to : (body : ℕ → ℕ) (p : ℕ) (d : Doing) → IsHeaderRead body d → IsHeaderRead body (to p d)
header_to body p doings.Free h = h
header_to body p (doings.Set j i) h = h
header_to body p (doings.Header x) h = h
header_to body p (doings.Cell x hd i) h = h

module _ (z : Ground) (good : IsGoodGround z) (s : State) (g : Graph) (rule : RuleOf z g s.word s.page (views_of s.caller) s.history) (by : ℕ)
    (marker : IsMarker z by (s.caller by)) where
  abbrev pub works : ℕ → Work
  works = λ c. (s.caller c).work

  abbrev pub mine : Work
  mine = (s.caller by).work

  abbrev pub H : Heap
  H = heap_of z g.born (shapes g) s.word

  abbrev pub mark : ℕ → ℕ
  mark = λ a. s.word (Side a)

  abbrev pub set : ℕ → ℕ
  set = λ j. s.word (RootSet j)

  abbrev pub body : ℕ → ℕ
  body = λ a. s.word (Body a)

  abbrev pub epoch : ℕ
  epoch = (phase_of (s.word Phase)).epoch

  abbrev pub IsMark : Type 0
  IsMark = (phase_of (s.word Phase)).code ≡ codes.Mark

  near_by : IsMarker z by (s.caller by) → by < callers z.sizes
  near_by (inl m) = let l = m.thread in omega (arith, l)
  near_by (inr m) = let e = m.collector in omega (arith, e)

  pub near : by < callers z.sizes
  near = near_by marker

  pub marks : IsMark → Marks z g.paused g.born (shapes g) s.word works
  marks e = rule.phased.in_mark e

  pub rests : (IsMark → ⊥) → Rests z g.paused g.born (shapes g) mark set works
  rests out = rule.phased.at_rest out

  pub resting : (IsMark → ⊥) → Idle mine
  resting out = (rests out).shares.idle by near

  pub whole : (e : IsMark) → (w : Work) (n : ℕ) → Shares H epoch (callers z.sizes) mark set (upd works by w) n →
      Marking H g.paused epoch (callers z.sizes) mark set (upd works by w) n
  whole e w n sh =
      let m = (marks e).marking in record { next = m.next; colours = m.colours; closed = m.closed; shares = sh }

  pub headers : (e : IsMark) → (w : Work) → IsHeaderRead body w.doing → (c : ℕ) → c < callers z.sizes →
      IsHeaderRead body (upd works by w c).doing
  headers e w h c l = each_upd (λ (x : Work). IsHeaderRead body x.doing) works by w h c ((marks e).headers c l)

  -- the share after a load
  unfoldable pub Worked : Place → ℕ → Work → Type 0
  Worked p n w = RuleOf z g (put s.word p n) s.page (views_of (upd s.caller by (record (s.caller by) { work = w }))) s.history

  pub loaded : (p : Place) (n : ℕ) (w : Work) → s.word p ≡ n →
      ((e : IsMark) → Shares H epoch (callers z.sizes) mark set (upd works by w) (s.word Pending)) →
      (IsMark → IsHeaderRead body w.doing) →
      ((IsMark → ⊥) → Rest (z.sizes.threads + 2) g.paused (callers z.sizes) set (upd works by w)) → Worked p n w
  unfolding Worked
  loaded p n w found shares header rest =
      subst (λ x. RuleOf z g x s.page (views_of (upd s.caller by (record (s.caller by) { work = w }))) s.history)
      (sym (put_same s.word p n (sym found)))
      (worked_rule z s by g rule w s.word rule.stands rule.localed (record {
        in_mark = λ e. record { marking = whole e w (s.word Pending) (shares e); headers = headers e w (header e) };
        at_rest = λ out. record { marks = (rests out).marks; shares = rest out };
      }))

  -- a step that changes nothing
  pub unmoved : (p : Place) (n : ℕ) → s.word p ≡ n → Worked p n mine
  unmoved p n found =
      let same = sym (upd_same works by mine refl) in
      loaded p n mine found (λ e. subst (λ h. Shares H epoch (callers z.sizes) mark set h (s.word Pending)) same (marks e).marking.shares)
      (λ e. (marks e).headers by near)
      (λ out. subst (λ h. Rest (z.sizes.threads + 2) g.paused (callers z.sizes) set h) same (rests out).shares)

  pub fits : (e : IsMark) → Fits H epoch mark mine
  fits e = (marks e).marking.shares.fits by near

  -- a root set is looked at
  pub set_seen : (j n : ℕ) → j < z.sizes.threads + 2 → s.word (RootSet j) ≡ n → Worked (RootSet j) n (looked mine j n)
  set_seen j n l found =
      loaded (RootSet j) n (looked mine j n) found
      (λ e. set_looked H epoch (callers z.sizes) mark set works (s.word Pending) (marks e).marking.shares by near j n l)
      (λ e. (marks e).headers by near)
      (λ out. rest_looked (z.sizes.threads + 2) g.paused (callers z.sizes) set works (rests out).shares by near j n l)

  -- it is claimed, or was
  module _ (j old n : ℕ) (due : mine.due ≡ Some (j, old)) (free : mine.doing ≡ doings.Free) (found : s.word (RootSet j) ≡ n) where
    claim_won : n ≡ old → Worked (RootSet j) (claimed mine.epoch) (took mine j)
    unfolding Worked
    claim_won is =
        worked_rule z s by g rule (took mine j) (put s.word (RootSet j) (claimed mine.epoch)) rule.stands rule.localed (record {
          in_mark = λ e.
              let m = (marks e).marking in let sound = sound_in_mark z good s g rule e in
              let won : set j ≡ old = found ∙ is in
              record {
                marking = subst (λ k. Marking H g.paused epoch (callers z.sizes) mark (upd set j (claimed k)) (upd works by (took mine j))
                    (s.word Pending)) (sym (took_epoch H sound g.paused epoch (callers z.sizes) mark set works (s.word Pending) m by near j old
                    due free won))
                    (set_taken H sound g.paused epoch (callers z.sizes) mark set works (s.word Pending) m by near j old due free won);
                headers = headers e (took mine j) tt;
              };
          at_rest = λ out. absurd (rest_lost (z.sizes.threads + 2) g.paused (callers z.sizes) set works (rests out).shares by near j old due
              (found ∙ is));
        })

    claim_lost : Worked (RootSet j) n (missed mine)
    claim_lost =
        loaded (RootSet j) n (missed mine) found
        (λ e. set_missed H epoch (callers z.sizes) mark set works (s.word Pending) (marks e).marking.shares by near)
        (λ e. (marks e).headers by near)
        (λ out. rest_missed (z.sizes.threads + 2) g.paused (callers z.sizes) set works (rests out).shares by near)

    claim_at : Tells n old → Worked (RootSet j) (cond (eqb n old) (claimed mine.epoch) n) (cond (eqb n old) (took mine j) (missed mine))
    claim_at (inl t) =
        subst (λ b. Worked (RootSet j) (cond b (claimed mine.epoch) n) (cond b (took mine j) (missed mine))) (sym t.0) (claim_won t.1)
    claim_at (inr t) =
        subst (λ b. Worked (RootSet j) (cond b (claimed mine.epoch) n) (cond b (took mine j) (missed mine))) (sym t.0) claim_lost

    pub set_claimed : Worked (RootSet j) (cond (eqb n old) (claimed mine.epoch) n) (cond (eqb n old) (took mine j) (missed mine))
    set_claimed = claim_at (eqb_tells n old)

  not_free : {A : Type 0} (d : Doing) → mine.doing ≡ d → Busy d → (IsMark → ⊥) → A
  not_free d is busy out = absurd (subst Busy (sym is ∙ (resting out).free) busy)

  -- it is finished
  pub set_ended : (j i : ℕ) → mine.doing ≡ doings.Set j i → set_words z.sizes j ≤ i → mine.child ≡ children.NoChild →
      mine.owed ≡ 0 → Worked (RootSet j) (finished mine.epoch) (rested mine)
  unfolding Worked
  set_ended j i is all none paid =
      worked_rule z s by g rule (rested mine) (put s.word (RootSet j) (finished mine.epoch)) rule.stands rule.localed (record {
        in_mark = λ e.
            let m = (marks e).marking in let sound = sound_in_mark z good s g rule e in
            record {
              marking = subst (λ k. Marking H g.paused epoch (callers z.sizes) mark (upd set j (finished k)) (upd works by (rested mine))
                  (s.word Pending)) (sym ((fits e).current (subst Busy (sym is) tt)))
                  (set_finished H sound g.paused epoch (callers z.sizes) mark set works (s.word Pending) m by near j i is all none paid);
              headers = headers e (rested mine) tt;
            };
        at_rest = λ out. not_free (doings.Set j i) is tt out;
      })

  -- a place was loaded
  pub arrives : (e : IsMark) (n : ℕ) (o : Option ℕ) → place mine.doing < bound H mine.doing → ref H mine.doing (place mine.doing) ≡ o →
      mine.child ≡ children.NoChild → Shares H epoch (callers z.sizes) mark set (upd works by (arrived z mine n o)) (s.word Pending)
  arrives e n None l is none =
      place_passed H epoch (callers z.sizes) mark set works (s.word Pending) (marks e).marking.shares by near (place_behind z mine.doing)
      (none_empty z g.born (shapes g) s.word mine.doing (place_behind z mine.doing) is
      (next_empty z g.born (shapes g) s.word mine.doing ((marks e).headers by near))) none
  arrives e n (Some y) l is none =
      child_met H epoch (callers z.sizes) mark set works (s.word Pending) (marks e).marking.shares by near y (l, is) none

  pub arrived_header : (e : IsMark) (n : ℕ) (o : Option ℕ) → IsHeaderRead body (arrived z mine n o).doing
  arrived_header e n None = header_to body (place_behind z mine.doing) mine.doing ((marks e).headers by near)
  arrived_header e n (Some y) = (marks e).headers by near

  -- a word of a claimed root set
  pub root_loaded : (j i n : ℕ) → mine.doing ≡ doings.Set j i → i < set_words z.sizes j → mine.child ≡ children.NoChild →
      s.word (set_place z.sizes j i) ≡ n → Worked (set_place z.sizes j i) n (root_read z mine n mine.doing)
  root_loaded j i n is l none found =
      let o = set_holds z.sizes j n in
      subst (λ d. Worked (set_place z.sizes j i) n (root_read z mine n d)) (sym is)
      (loaded (set_place z.sizes j i) n (arrived z mine n o) found
      (λ e. arrives e n o (subst (λ d. place d < bound H d) (sym is) l)
      (ap (λ d. ref H d (place d)) is ∙ (root_is z g.born (shapes g) s.word j i ∙ ap (set_holds z.sizes j) found)) none)
      (λ e. arrived_header e n o)
      (λ out. not_free (doings.Set j i) is tt out))

  -- the count changes, which was not 0
  pub counted : (n : ℕ) (w : Work) → ((e : IsMark) → Shares H epoch (callers z.sizes) mark set (upd works by w) n) →
      (IsMark → IsHeaderRead body w.doing) → ((IsMark → ⊥) → ⊥) → ((e : IsMark) → s.word Pending ≢ 0) → Worked Pending n w
  unfolding Worked
  counted n w shares header only some =
      worked_rule z s by g rule w (put s.word Pending n)
      (record {
        timed = rule.stands.timed;
        headed = rule.stands.headed;
        fielded = rule.stands.fielded;
        cleared = rule.stands.cleared;
        globaled = rule.stands.globaled;
        named = rule.stands.named;
        apart = rule.stands.apart;
        stated = rule.stands.stated;
        at_end = rule.stands.at_end;
        polling = rule.stands.polling;
        owners = rule.stands.owners;
        stopped = rule.stands.stopped;
        wanted = rule.stands.wanted;
        working = record {
          none = λ over. absurd (only (λ e. some e (rule.stands.working.none over)));
          all = λ out. absurd (only out);
          at_rest = rule.stands.working.at_rest;
        };
        framed = rule.stands.framed;
        housed = rule.stands.housed;
        handed = rule.stands.handed;
        classed = rule.stands.classed;
        placed = rule.stands.placed;
        taken_in = rule.stands.taken_in;
      })
      rule.localed (record {
        in_mark = λ e. record { marking = whole e w n (shares e); headers = headers e w (header e) };
        at_rest = λ out. absurd (only out);
      })

  -- a unit is added for a child
  pub unit_reserved : (y v n : ℕ) → mine.child ≡ children.Seen y v → mine.owed ≡ 0 → s.word Pending ≡ n → Worked Pending (n + 1)
      (reserved_for z mine n mine.child)
  unit_reserved y v n is paid found =
      subst (λ d. Worked Pending (n + 1) (reserved_for z mine n d)) (sym is)
      (subst (λ k. Worked Pending (k + 1) (reserved mine y v)) found
      (counted (s.word Pending + 1) (reserved mine y v)
      (λ e. unit_added H epoch (callers z.sizes) mark set works (s.word Pending) (marks e).marking.shares by near y v is paid)
      (λ e. (marks e).headers by near)
      (λ out. let h : children.Seen y v ≡ children.NoChild = sym is ∙ (resting out).no_child in cc)
      (λ e none. let i = idle H epoch (callers z.sizes) mark set works (s.word Pending) (marks e).marking.shares none by near in
      let h : children.Seen y v ≡ children.NoChild = sym is ∙ i.no_child in cc)))

  -- a unit is given back
  pub unit_returned : (n : ℕ) → 0 < mine.owed → s.word Pending ≡ n → Worked Pending (n - 1) (gave mine)
  unit_returned n some found =
      subst (λ k. Worked Pending (k - 1) (gave mine)) found
      (counted (s.word Pending - 1) (gave mine)
      (λ e. unit_given H epoch (callers z.sizes) mark set works (s.word Pending) (marks e).marking.shares by near some)
      (λ e. (marks e).headers by near)
      (λ out. let d = (resting out).no_debt in omega (arith, d, some))
      (λ e none. let d = (idle H epoch (callers z.sizes) mark set works (s.word Pending) (marks e).marking.shares none by near).no_debt in
      omega (arith, d, some)))
