-- Every call of a script has a word that is built.
use Rattle.std.proofs.Common.{◌≡◌, ℕ, ◌-◌, zero, suc, Bool, true, false, Option, Some, None, List, [], ◌∷◌, ◌++◌, get_or, refl, sym}
use Rattle.std.proofs.Common.{◌∙◌, ap, subst}
use Rattle.std.specs.Prelude.{replicate}
use Rattle.std.specs.List.{AllByRecursion}
use Rattle.kn_graph.specs.declared.calls.Call.{Call}
use Rattle.kn_graph.specs.declared.arguments.CallWord.{CallWord}
use Rattle.kn_graph.specs.declared.arguments.CallWord.TheVariants as call
use Rattle.kn_graph.specs.Arguments.{word_of}
use Rattle.kn_lines.specs.declared.built.Built.{Built}
use Rattle.kn_lines.specs.declared.built.HeaderWord.{HeaderWord}
use Rattle.kn_lines.specs.declared.built.HeaderWord.TheVariants as header
use Rattle.kn_lines.specs.declared.built.FirstWord.{FirstWord}
use Rattle.kn_lines.specs.declared.built.FirstWord.TheVariants.{Header, Call as CallLine}
use Rattle.kn_lines.specs.Built.{has_call, only_if, if_built, first_word_of, call_word_of, header_word_of, IsBuilt, AreBuilt}
use Rattle.kn_lines.specs.Lines.{Numbered, unread}
use Rattle.kn_lines.specs.Values.{call_from, call_of, values_of}
use Rattle.kn_script.specs.Scripts.{Scripted, Progress}
use Rattle.kn_script.specs.Progress.{start, behind, behind_header, with_call}
use Rattle.kn_script.specs.Grammar.{Takes, Reads, IsText}
use Rattle.kn_script.proofs.GoodLemmas.{All-set, All-at}

call_is : (b : Bool) (c w : CallWord) → only_if b (Some (CallLine c)) ≡ Some (CallLine w) → (b ≡ true) × (c ≡ w)
call_is true c w e = (refl, cc)
call_is false c w e = cc

header_is : (b : Bool) (h : HeaderWord) (w : CallWord) → only_if b (Some (Header h)) ≡ Some (CallLine w) → ⊥
header_is true h w e = cc
header_is false h w e = cc

found_built : (built : Built) (c : Option CallWord) (h : Option HeaderWord) (w : CallWord) → if_built built c h ≡ Some (CallLine w) →
    has_call built w ≡ true
found_built built (Some c) h w e = let is = call_is (has_call built c) c w e in subst (λ x. has_call built x ≡ true) is.1 is.0
found_built built None (Some h) w e = absurd (header_is _ h w e)
found_built built None None w e = cc

first_built : (built : Built) (word : List ℕ) (w : CallWord) → first_word_of built word ≡ Some (CallLine w) → has_call built w ≡ true
unfolding first_word_of
first_built built word w e = found_built built (call_word_of word) (header_word_of word) w e

made_word : (w : CallWord) (ns : List ℕ) → word_of (call_from w ns) ≡ w
made_word call.New ns = refl
made_word w ns = refl

no_calls : (built : Built) (n : ℕ) → AreBuilt built (replicate n [])
no_calls built zero = tt
no_calls built (suc n) = (tt, no_calls built n)

one_more : {X : Type 0} (P : X → Type 0) (xs : List X) (x : X) → AllByRecursion P xs → P x → AllByRecursion P (xs ++ x ∷ [])
one_more P [] x all one = (one, tt)
one_more P (y ∷ ys) x all one = (all.0, one_more P ys x all.1 one)

call_built : (p : Progress) (made : Call) → IsBuilt p.built made → AreBuilt p.built p.threads →
    AreBuilt p.built (with_call (p.next - 1) made p.threads)
call_built p made is all =
    let old = get_or p.threads (p.next - 1) [] in
    All-set (AllByRecursion (IsBuilt p.built)) p.threads (p.next - 1) (old ++ made ∷ []) all
    (one_more (IsBuilt p.built) old made (All-at (AllByRecursion (IsBuilt p.built)) p.threads (p.next - 1) [] all tt) is)

header_built : (p : Progress) (h : HeaderWord) (words : List (List ℕ)) → AreBuilt p.built p.threads →
    AreBuilt (behind_header p h words).built (behind_header p h words).threads
header_built p header.Threads words all = no_calls p.built _
header_built p h words all = all

step_built : (p : Progress) (first : FirstWord) (words : List (List ℕ)) → ((w : CallWord) → first ≡ CallLine w → has_call p.built w ≡ true) →
    AreBuilt p.built p.threads → AreBuilt (behind p first words).built (behind p first words).threads
step_built p (Header h) words known all = header_built p h words all
step_built p (CallLine w) words known all =
    call_built p (call_of w words) (subst (λ x. has_call p.built x ≡ true) (sym (made_word w (values_of words))) (known w refl)) all

takes_built : (p q : Progress) (line : Numbered) → Takes p line q → AreBuilt p.built p.threads → AreBuilt q.built q.threads
takes_built p q line takes all =
    subst (λ (x : Progress). AreBuilt x.built x.threads) (sym takes.after)
    (step_built p takes.word line.arguments (λ w e. first_built p.built line.name w (takes.known ∙ ap (λ (f : FirstWord). Some f) e)) all)

same_built : (p q : Progress) (line : Numbered) → Takes p line q → q.built ≡ p.built
same_built p q line takes = ap (λ (x : Progress). x.built) takes.after ∙ kept p takes.word line.arguments
  where
    kept_header : (p : Progress) (h : HeaderWord) (words : List (List ℕ)) → (behind_header p h words).built ≡ p.built
    kept_header p header.Heap words = refl
    kept_header p h words = refl

    kept : (p : Progress) (first : FirstWord) (words : List (List ℕ)) → (behind p first words).built ≡ p.built
    kept p (Header h) words = kept_header p h words
    kept p (CallLine w) words = refl

reads_built : (p : Progress) (lines : List Numbered) (s : Scripted) → Reads p lines s → AreBuilt p.built p.threads → AreBuilt p.built s.threads
reads_built p [] s reads all = subst (λ (x : Scripted). AreBuilt p.built x.threads) reads.1 all
reads_built p (line ∷ lines) s reads all =
    subst (λ (b : Built). AreBuilt b s.threads) (same_built p reads.0 line reads.1)
    (reads_built reads.0 lines s reads.2 (takes_built p reads.0 line reads.1 all))

-- the calls of a text have words that are built
pub texts_are_built : (built : Built) (s : Scripted) (bytes : List ℕ) → IsText built s bytes → AreBuilt built s.threads
texts_are_built built s bytes text = reads_built (start built) (unread 1 bytes).left s text.reads tt
