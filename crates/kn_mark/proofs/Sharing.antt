-- The share behind the next step is what the rule makes of it, and its numbers are short.
use Rattle.std.proofs.Common.{◌≡◌, ◌≢◌, inl, inr, ℕ, ◌+◌, ◌^◌, ◌<◌, ◌≤◌, Bool, true, false, cond, eqb, ne_eqb, Option}
use Rattle.std.proofs.Common.{Some, None}
use Rattle.std.proofs.Common.{sym, ap, ◌∙◌, subst, arith}
use Rattle.std.proofs.lemmas.Bool.Decides.{eqb_tells}
use Rattle.kn_base.specs.declared.heap.Sizes.{Sizes}
use Rattle.kn_base.specs.Functions.{Tells}
use Rattle.kn_base.specs.Sizes.{IsGood}
use Rattle.kn_graph.specs.Ground.{Ground}
use Rattle.kn_marking.specs.declared.work.Work.{Work}
use Rattle.kn_marking.specs.declared.work.Doing.{Doing}
use Rattle.kn_marking.specs.declared.work.Doing.TheVariants as doings
use Rattle.kn_marking.specs.declared.work.Child.{Child}
use Rattle.kn_marking.specs.declared.work.Child.TheVariants as children
use Rattle.kn_marking.specs.Marking.{place}
use Rattle.kn_rule.specs.MarkedHeap.{cell_limit, object_in, object_named, set_holds, set_words}
use Rattle.kn_rule.specs.MarkSteps.{work_after}
use Rattle.kn_view.specs.Shares.{IsCellRead, IsChildNear, IsRootRead, MayOwe}
use Rattle.kn_mark.specs.declared.next.Next.{Next}
use Rattle.kn_mark.specs.declared.next.Next.TheVariants.{LoadsRoot, LoadsField}
use Rattle.kn_mark.specs.Kept.{ChildLies, Kept, PlaceLies}
use Rattle.kn_mark.specs.Steps.{IsNext, NamesNear, step_of, work_behind}
use Rattle.kn_mark.proofs.Agreeing.{share_after}
use Rattle.kn_mark.proofs.Words.{length_short}

-- what a step makes of the share, told by the rule
pub told : (z : Ground) (k i : Kept) → i ≡ k → z.sizes ≡ k.sizes → (n n' : Next) → n' ≡ n → (w : ℕ) → IsNext k n' → (r : Work) →
    r ≡ work_after z i.work w (step_of i n).kind (step_of i n).place (step_of i n).act → r ≡ work_behind z k n' w
told z k i e same n n' is w h r by =
    by ∙ (ap (λ (q : Kept). work_after z q.work w (step_of q n).kind (step_of q n).place (step_of q n).act) e
    ∙ (share_after z k same n w (subst (IsNext k) is h) ∙ ap (λ m. work_behind z k m w) (sym is)))

few_words : (z : Sizes) → IsGood z → (a b : Bool) → cond a z.globals (cond b (z.stable + z.back) 16) ≤ 128
few_words z good true b = let g = good.of_names.globals in omega (arith, g)
few_words z good false true = let s = good.of_names.stable in let c = good.of_names.back in omega (arith, s, c)
few_words z good false false = omega arith

place_short : (z : Sizes) → IsGood z → (d : Doing) → PlaceLies z d → place d + 1 < 2 ^ 32
place_short z good doings.Free l = omega arith
place_short z good (doings.Set j i) l =
    let few = few_words z good (eqb j z.threads) (eqb j (z.threads + 1)) in
    let least : i < set_words z j = l in
    omega (arith, few, least)
place_short z good (doings.Header x) l = omega arith
place_short z good (doings.Cell x h i) l = let short = length_short h in omega (arith, short, l)

pub child_near : (z : Sizes) → IsGood z → (d : Doing) (c : Child) → ChildLies z d c → IsChildNear d c
child_near z good d children.NoChild l = tt
child_near z good d (children.Met y) l = place_short z good d l.1
child_near z good d (children.Seen y v) l = tt
child_near z good d (children.Reserved y v) l = place_short z good d l.1

pub may_owe : (w : Work) → w.owed ≡ 0 → MayOwe w
may_owe w e = omega (arith, e)

-- a word that names an object is short
word_short : (w limit : ℕ) → limit ≤ 1000001 → ((y : ℕ) → object_in w ≡ Some y → y < limit) → w < 2 ^ 32
word_short w limit few near = at (eqb_tells w 0)
  where
    at : Tells w 0 → w < 2 ^ 32
    at (inl t) = let e = t.1 in omega (arith, e)
    at (inr t) = let l = near w (ap (λ b. cond {A = Option ℕ} b None (Some w)) t.0) in omega (arith, l, few)

limit_short : (z : Sizes) → IsGood z → cell_limit z ≤ 1000001
limit_short z good = let most = good.of_frames.words.1 in omega (arith, most)

holds_word : (z : Sizes) (j w y : ℕ) → j ≢ z.threads + 1 → object_in w ≡ Some y → set_holds z j w ≡ Some y
holds_word z j w y ne e = at (eqb j z.threads)
  where
    at : (b : Bool) → cond b (object_in w) (cond (eqb j (z.threads + 1)) (object_named w) (object_in w)) ≡ Some y
    at true = e
    at false = ap (λ b. cond b (object_named w) (object_in w)) (ne_eqb j (z.threads + 1) ne) ∙ e

pub root_short : (k : Kept) (j i w : ℕ) → IsGood k.sizes → IsNext k (LoadsRoot j i) → NamesNear k (LoadsRoot j i) w →
    IsRootRead k.sizes k.work.doing w
root_short k j i w good h near =
    subst (λ d. IsRootRead k.sizes d w) (sym h.1) (
      place_short k.sizes good (doings.Set j i) h.2,
      λ ne. word_short w (cell_limit k.sizes) (limit_short k.sizes good) (λ y e. near y (holds_word k.sizes j w y ne e)),
    )

pub field_read : (k : Kept) (x hd i w : ℕ) → IsGood k.sizes → IsNext k (LoadsField x hd i) → NamesNear k (LoadsField x hd i) w →
    IsCellRead k.work.doing w
field_read k x hd i w good h near =
    subst (λ d. IsCellRead d w) (sym h.1)
    (place_short k.sizes good (doings.Cell x hd i) h.2, word_short w (cell_limit k.sizes) (limit_short k.sizes good) near)
