-- The start meets the rule.
use Rattle.kn_base.specs.declared.numbers.Span.{Span}
use Rattle.std.proofs.Common.{◌≡◌, [], ◌∷◌, ℕ, zero, suc, inl, inr, true, false, replicate, Option, Some, None, slice_get, slice_index, refl}
use Rattle.std.proofs.Common.{sym, subst, ◌∙◌, arith}
use Rattle.std.proofs.lemmas.List.{length-replicate}
use Rattle.kn_base.specs.declared.kinds.Code.TheVariants as codes
use Rattle.kn_base.specs.declared.kinds.FrameKind.TheVariants as frames
use Rattle.kn_base.specs.Sizes.{frame_count}
use Rattle.kn_base.specs.SpanLists.{Covers, HasWord}
use Rattle.kn_rule.specs.FrameSpans.{frame_span}
use Rattle.kn_graph.specs.Graph.{shapes, empty_graph}
use Rattle.kn_rule.specs.Decoding.{phase_of, frame_of, PacksPhase, PacksFrame}
use Rattle.kn_rule.specs.Phases.{pauses, last_done}
use Rattle.kn_rule.specs.Views.{Open, flattened}
use Rattle.kn_rule.specs.FrameClauses.{IsFilled}
use Rattle.kn_rule.specs.Laws.{StartMeetsRule}

abbrev none_open : Option Open
none_open = None

owns_none : (n k : ℕ) → flattened {A = Open} (slice_get (replicate n None) k) ≡ None
owns_none zero k = refl
owns_none (suc n) zero = refl
owns_none (suc n) (suc k) = owns_none n k

zero_at : (n k : ℕ) → slice_index (replicate n 0) k ≡ 0
zero_at zero k = refl
zero_at (suc n) zero = refl
zero_at (suc n) (suc k) = zero_at n k

no_open : (n k : ℕ) (o : Open) → flattened (slice_get (replicate n None) k) ≡ Some o → ⊥
no_open n k o e = let h : Option.None ≡ Some o = sym (owns_none n k) ∙ e in cc

not_seen : (n k : ℕ) → slice_get (replicate n false) k ≡ Some true → ⊥
not_seen zero k e = cc
not_seen (suc n) zero e = cc
not_seen (suc n) (suc k) e = not_seen n k e

phase_zero : PacksPhase 0
unfolding phase_of
phase_zero = record { right = refl; ranges = omega arith }

frame_zero : PacksFrame 0
unfolding frame_of
frame_zero = record { right = refl; ranges = record { of_class = refl; of_stamp = refl; of_seat = refl } }

not_paused : 0 ≡ pauses (phase_of 0)
unfolding phase_of
not_paused = refl

none_done : 0 ≡ last_done (phase_of 0)
unfolding phase_of
none_done = refl

not_mark : (phase_of 0).code ≡ codes.Mark → ⊥
unfolding phase_of
not_mark e = cc

first_code : (phase_of 0).code ≡ codes.Idle
unfolding phase_of
first_code = refl

first_epoch : (phase_of 0).epoch ≡ 0
unfolding phase_of
first_epoch = refl

vacant : (frame_of 0).kind ≡ frames.Vacant
unfolding frame_of
vacant = refl

no_class : (frame_of 0).class ≡ 0
unfolding frame_of
no_class = refl

pub start_meets_rule : StartMeetsRule
start_meets_rule z page home = (
  empty_graph,
  record {
    told = record {
      leads = refl;
      logs = λ c l. refl;
      calls_are = λ c l. refl;
      births_are = λ c l. refl;
      calls_fit = λ c l. omega arith;
      births_fit = λ c l. omega arith;
    };
    formed = record {
      call = λ c l. tt;
      locals = λ c l. length-replicate {A = ℕ} 16 0;
      frames = λ c l. length-replicate (frame_count z.sizes) none_open;
    };
    read_right = record { each = λ c l. tt };
    localed = record { words = λ c r l m n. refl; views = λ c r l m. zero_at 16 r; due = λ c l. tt };
    stands = record {
      timed = record { packs = phase_zero; now = not_paused; last = none_done; by_collector = refl; some = λ n. absurd (n first_code) };
      headed = record {
        marks = λ n l. let h = l.0 in absurd (omega arith);
        headers = λ n l. let h = l.0 in absurd (omega arith);
        blank = λ a w f. refl;
      };
      fielded = record { refs = λ n i l _ _. absurd (omega arith); ints = λ n i l _ _. absurd (omega arith) };
      cleared = record { each = λ c l. tt };
      globaled = record { words = λ i l. refl };
      named = record {
        stables = λ h l. refl;
        weaks = λ w l ne. refl;
        backs = λ b l ne. refl;
        cleared_weaks = λ w l e. absurd (omega arith);
        cleared_backs = λ b l e. absurd (omega arith);
      };
      apart = record {
        objects = λ c n t l e _. absurd (cc);
        others = λ c d t u l m n e _. absurd (cc);
        asked = λ c t l e. absurd (cc);
        inside = λ c t l e. absurd (cc);
      };
      stated = record { each = λ c l. refl; resting = λ c l m. tt };
      at_end = record { seen = λ i l e. absurd (not_seen z.sizes.threads i e); all = λ e. absurd (cc) };
      polling = record { since = λ c l i. absurd i; untargeted = λ c l i. refl; due = λ c l. tt; targets = λ c l. tt };
      owners = record { each = λ c p o l e. absurd (no_open (frame_count z.sizes) p o e) };
      stopped = record { still = λ h i l x. x; stopping = λ h i l e x. x };
      wanted = record { reached = omega (arith, first_epoch); known = omega arith; targets = λ e a b. absurd (omega arith); few = omega arith };
      working = record { none = λ _. refl; all = λ _ e. absurd (cc); at_rest = λ _. refl };
      framed = record {
        packs = λ p l. frame_zero;
        named = λ p l e. let h : frames.Vacant ≡ frames.Owned = sym vacant ∙ e in absurd (cc);
        owning = λ p c o l e. absurd (no_open (frame_count z.sizes) p o e);
      };
      housed = record {
        each = λ p l ne. let h = home p l in (
          h.0,
          h.1,
          record {
            frame_is = h.2;
            area_is = h.3;
            free_is = λ a. (
              (λ x. (at_whole (frame_span z.sizes p) a (subst (λ f. Covers f a) h.4 x), nothing_filled a)),
              (λ w. subst (λ f. Covers f a) (sym h.4) (inl w.0)),
            );
            class_is = λ n. absurd (n no_class);
            vacant = λ _. h.4;
            ready = λ e. let x : frames.Vacant ≡ frames.Ready = sym vacant ∙ e in absurd (cc);
            empty = λ _. h.4;
          },
        );
      };
      handed = record { each = λ c p o l e. absurd (no_open (frame_count z.sizes) p o e) };
      classed = record { area = λ p l n. absurd (n no_class) };
      placed = record { objects = λ n p l _ _. let h = l.0 in absurd (omega arith) };
      taken_in = record { owned = λ c t l e. absurd (cc); unswept = λ c t l e. absurd (cc) };
    };
    phased = record {
      in_mark = λ e. absurd (not_mark e);
      at_rest = λ _. record {
        marks = λ n l. let h = l.0 in absurd (omega arith);
        shares = record {
          sets = λ j l. refl;
          idle = λ c l. record { free = refl; no_child = refl; no_debt = refl };
          early = λ c l. omega arith;
          due = λ c j v l e. absurd (cc);
        };
      };
    };
  },
)
  where
    at_whole : (frame : Span) → (a : ℕ) → Covers (frame ∷ []) a → HasWord frame a
    at_whole frame a (inl x) = x
    at_whole frame a (inr x) = absurd x

    nothing_filled : (a : ℕ) → IsFilled z.sizes 0 (shapes empty_graph) (λ _. 0) a → ⊥
    nothing_filled a (inl x) = let y = x.1.0 in omega arith
    nothing_filled a (inr x) = x.2 refl
