-- A thread that is at a call: the call is the first one that it has left, and one fewer is left behind it.
use Rattle.std.proofs.Common.{◌≡◌, ℕ, zero, suc, ◌+◌, ◌-◌, ◌^◌, ◌<◌, ◌≤◌, Some, None, List, [], ◌∷◌, length, drop}
use Rattle.std.proofs.Common.{slice_get, slice_set, slice_index, slice_index_or}
use Rattle.std.proofs.Common.{refl, ap, ◌∙◌, arith}
use Rattle.std.proofs.lemmas.List.{drop_more}
use Rattle.std.proofs.lemmas.Option.{slice_get_within, get_or_from_slice_get}
use Rattle.kn_graph.specs.declared.calls.Call.{Call}
use Rattle.kn_cms_lists.specs.Kept.{Kept, calls_of_threads, next_call}
use Rattle.kn_cms.specs.Stands.{HasRoom, calls_left}

-- what is left of a list behind the element at a place
pub drop_at : {A : Type 0} (xs : List A) (n : ℕ) (x : A) → slice_get xs n ≡ Some x → drop n xs ≡ x ∷ drop (n + 1) xs
drop_at xs n x e = let near = slice_get_within xs n x e in
    drop_more xs n x near ∙ ap (λ y. y ∷ drop (n + 1) xs) (get_or_from_slice_get xs n x x e)

pub drop_past : {A : Type 0} (xs : List A) (n : ℕ) → slice_get xs n ≡ None → drop n xs ≡ []
drop_past [] zero e = refl
drop_past [] (suc n) e = refl
drop_past (x ∷ xs) zero e = absurd (cc)
drop_past (x ∷ xs) (suc n) e = drop_past xs n e

-- one call fewer is left behind an answer
pub one_fewer : (calls : List (List Call)) (made : List ℕ) (i : ℕ) → i < length made →
    slice_index made i < length (slice_index_or calls i []) →
    calls_left calls (slice_set made i (slice_index made i + 1)) + 1 ≡ calls_left calls made
one_fewer [] made i near less = absurd (omega arith)
one_fewer (c ∷ calls) [] i near less = absurd (omega arith)
one_fewer (c ∷ calls) (m ∷ made) zero near less = omega (arith, less)
one_fewer (c ∷ calls) (m ∷ made) (suc i) near less =
    let rest = one_fewer calls made i (omega (arith, near)) less in omega (arith, rest)

-- no thread has more calls than all threads have
pub few_calls : (calls : List (List Call)) (i : ℕ) → length (slice_index_or calls i []) ≤ calls_left calls []
few_calls [] i = omega arith
few_calls (c ∷ calls) zero = omega arith
few_calls (c ∷ calls) (suc i) = let rest = few_calls calls i in omega (arith, rest)

module _ (k : Kept) (room : HasRoom k) (i : ℕ) (near : i < k.ground.sizes.threads) (call : Call) (next : next_call k i ≡ Some call) where
  pub made_less : slice_index k.made i < length (calls_of_threads k.calls i)
  made_less = slice_get_within (calls_of_threads k.calls i) (slice_index k.made i) call next

  pub made_near : i < length k.made
  made_near = omega (arith, near, room.made)

  pub doing_near : i < length k.doing
  doing_near = omega (arith, near, room.doing)

  pub one_less : calls_left k.calls (slice_set k.made i (slice_index k.made i + 1)) + 1 ≡ calls_left k.calls k.made
  one_less = one_fewer k.calls k.made i made_near made_less

  -- there is room for an entry and for an object, and the number of calls answered is no number near its type's end
  pub entry_room : length k.history.list < k.history.room
  entry_room = let one = one_less in let most = room.entries in omega (arith, one, most)

  pub few_made : slice_index k.made i < 2 ^ 32 - 1
  few_made = let less = made_less in let few = few_calls k.calls i in let most = room.calls in omega (arith, less, few, most)

  pub object_room : length k.cells.cells < 16384
  object_room = let one = one_less in let most = room.cells in omega (arith, one, most)

  pub left_then : drop (slice_index k.made i) (calls_of_threads k.calls i) ≡ call ∷ drop (slice_index k.made i + 1) (calls_of_threads k.calls i)
  left_then = drop_at (calls_of_threads k.calls i) (slice_index k.made i) call next
