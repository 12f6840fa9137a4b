-- The clause on locals, where a value is read into one, or one is stored.
use Rattle.std.proofs.Common.{◌≡◌, ℕ, ◌<◌, Option, sym, subst, ap, ◌∙◌}
use Rattle.kn_base.specs.Functions.{upd}
use Rattle.kn_base.proofs.Updates.{upd_here, upd_else, upd_case, upd_case2}
use Rattle.kn_graph.specs.Ground.{Ground}
use Rattle.kn_graph.specs.Graph.{Shape}
use Rattle.kn_rule.specs.declared.positions.Position.{Position}
use Rattle.kn_rule.specs.declared.positions.Position.TheVariants.{Between, Writing}
use Rattle.kn_rule.specs.ObjectClauses.{address_of, IsWriting, IsValueDue, Localed}
use Rattle.kn_keep_heap.proofs.Changed.{upd_case3}

module _ (z : Ground) (shape : ℕ → Shape) (value : ℕ → ℕ → Option ℕ) (word : ℕ → ℕ → ℕ) (position : ℕ → Position)
    (local : ℕ → ℕ → ℕ) (r : Localed z shape value word position local) (by : ℕ) where
  -- the position changes, and no write begins or ends
  pub locals_moved : (q : Position) → ((i : ℕ) → ¬ IsWriting q i → ¬ IsWriting (position by) i) → IsValueDue q (local by) →
      Localed z shape value word (upd position by q) local
  locals_moved q f due = record {
    words = λ c i l m n. upd_case (λ k p. k < z.sizes.threads → ¬ IsWriting p i → word k i ≡ address_of shape (value k i)) position by q
        (λ l n. r.words by i l m (f i n)) c (λ _ l n. r.words c i l m n) l n;
    views = r.views;
    due = λ c l. upd_case (λ k p. k < z.sizes.threads → IsValueDue p (local k)) position by q (λ _. due) c (λ _ l. r.due c l) l;
  }

  module _ (i w : ℕ) (x : Option ℕ) (is : w ≡ address_of shape x) where
    value' : ℕ → Option ℕ
    value' = upd (value by) i x

    view_at : (j : ℕ) → by < z.sizes.threads → j < 16 → upd (local by) i w j ≡ address_of shape (upd (value by) i x j)
    view_at j l m = upd_case2 (λ k v y. k < 16 → v ≡ address_of shape y) (local by) (value by) i w x (λ _. is) j (λ _ m. r.views by j l m) m

    views_at : (c j : ℕ) → c < z.sizes.threads → j < 16 → upd local by (upd (local by) i w) c j ≡ address_of shape
        (upd value by (upd (value by) i x) c j)
    views_at c j l m = upd_case2 (λ k (f : ℕ → ℕ) (g : ℕ → Option ℕ). k < z.sizes.threads → f j ≡ address_of shape (g j)) local value by
        (upd (local by) i w) (upd (value by) i x) (λ l. view_at j l m) c (λ _ l. r.views c j l m) l

    -- a value is read, and due for a local
    pub local_read : ((j : ℕ) → ¬ IsWriting (position by) j) →
        Localed z shape (upd value by (upd (value by) i x)) word (upd position by (Writing i w 0)) (upd local by (upd (local by) i w))
    local_read quiet = record {
      words = λ c j l m n. upd_case2 (λ k (g : ℕ → Option ℕ) p. k < z.sizes.threads → ¬ IsWriting p j →
          word k j ≡ address_of shape (g j)) value position by (upd (value by) i x) (Writing i w 0)
          (λ l n. r.words by j l m (quiet j) ∙ sym (ap (address_of shape) (upd_else (value by) i x j (λ e. n (sym e))))) c
          (λ _ l n. r.words c j l m n) l n;
      views = views_at;
      due = λ c l. upd_case2 (λ k (f : ℕ → ℕ) p. k < z.sizes.threads → IsValueDue p f) local position by (upd (local by) i w) (Writing i w 0)
          (λ _. sym (upd_here (local by) i w)) c (λ _ l. r.due c l) l;
    }

    -- a local is stored with a new value
    pub local_stored : ((j : ℕ) → ¬ IsWriting (position by) j) →
        Localed z shape (upd value by (upd (value by) i x)) (upd word by (upd (word by) i w)) (upd position by Between)
        (upd local by (upd (local by) i w))
    local_stored quiet = record {
      words = λ c j l m n. upd_case3 (λ k (g : ℕ → Option ℕ) (v : ℕ → ℕ) p. k < z.sizes.threads → ¬ IsWriting p j →
          v j ≡ address_of shape (g j)) value word position by (upd (value by) i x) (upd (word by) i w) Between
          (λ l _. upd_case2 (λ k v y. v ≡ address_of shape y) (word by) (value by) i w x is j (λ _. r.words by j l m (quiet j))) c
          (λ _ l n. r.words c j l m n) l n;
      views = views_at;
      due = λ c l. upd_case2 (λ k (f : ℕ → ℕ) p. k < z.sizes.threads → IsValueDue p f) local position by (upd (local by) i w) Between (λ _. tt) c
          (λ _ l. r.due c l) l;
    }

  -- the value under way is stored
  pub local_written : (i w n : ℕ) (q : Position) → by < z.sizes.threads → i < 16 → position by ≡ Writing i w n → IsValueDue q (local by) →
      Localed z shape value (upd word by (upd (word by) i w)) (upd position by q) local
  local_written i w n q less small is due' =
      let due : w ≡ local by i = subst (λ p. IsValueDue p (local by)) is (r.due by less) in
      record {
        words = λ c j l m n. upd_case2 (λ k (v : ℕ → ℕ) p. k < z.sizes.threads → ¬ IsWriting p j →
            v j ≡ address_of shape (value k j)) word position by (upd (word by) i w) q
            (λ l _. upd_case (λ k v. k < 16 → v ≡ address_of shape (value by k)) (word by) i w (λ _. due
            ∙ r.views by i less small) j (λ ne m. r.words by j l m (λ h. ne (sym (subst (λ p. IsWriting p j) is h)))) m) c
            (λ _ l n. r.words c j l m n) l n;
        views = r.views;
        due = λ c l. upd_case (λ k p. k < z.sizes.threads → IsValueDue p (local k)) position by q (λ _. due') c (λ _ l. r.due c l) l;
      }
