-- The words with which frames are claimed and given back are not those of unswept ones.
use Rattle.std.proofs.Common.{◌≡◌, ◌≢◌, ℕ, ◌<◌, ◌≤◌, Bool, true, false, List, refl, sym, ap, ◌∙◌, subst}
use Rattle.kn_base.specs.declared.numbers.Span.{Span}
use Rattle.kn_base.specs.declared.kinds.FrameKind.{FrameKind}
use Rattle.kn_base.specs.declared.kinds.FrameKind.TheVariants as frames
use Rattle.kn_base.specs.declared.frame_word.FrameWord.{FrameWord}
use Rattle.kn_base.specs.Words.{packed_frame, IsFrameWord, HasClass, HasStamp}
use Rattle.kn_base.specs.Classes.{IsClassNumber}
use Rattle.kn_rule.specs.Decoding.{frame_of, PacksFrame}
use Rattle.kn_rule.specs.Requests.{owned_word, owned_as, home_as, home_word}
use Rattle.kn_rule.proofs.Decodings.{frame_packed}

module _ (old class epoch by : ℕ) (packs : PacksFrame old) (class_ok : IsClassNumber class) (epoch_ok : epoch < 4294967296) (seat_ok : by ≤ 17) where
  claimed_fits : (q : FrameKind) → HasClass q (frame_of old).class → HasStamp q (frame_of old).stamp →
      IsFrameWord (owned_as (frame_of old) class epoch by q)
  claimed_fits frames.Vacant c t = record { of_class = class_ok; of_stamp = epoch_ok; of_seat = seat_ok }
  claimed_fits frames.Empty c t = record { of_class = class_ok; of_stamp = epoch_ok; of_seat = seat_ok }
  claimed_fits frames.Ready c t = record { of_class = c; of_stamp = t; of_seat = seat_ok }
  claimed_fits frames.Used c t = record { of_class = c; of_stamp = t; of_seat = seat_ok }
  claimed_fits frames.Unswept c t = record { of_class = c; of_stamp = t; of_seat = seat_ok }
  claimed_fits frames.Owned c t = record { of_class = c; of_stamp = t; of_seat = seat_ok }

  owned_kind : (q : FrameKind) → (owned_as (frame_of old) class epoch by q).kind ≡ frames.Owned
  owned_kind frames.Vacant = refl
  owned_kind frames.Empty = refl
  owned_kind _ = refl

  -- the word of a claim
  pub claimed_swept : (frame_of (packed_frame (owned_word (frame_of old) class epoch by))).kind ≢ frames.Unswept
  claimed_swept e =
      let fits = claimed_fits (frame_of old).kind packs.ranges.of_class packs.ranges.of_stamp in
      let y : frames.Owned ≡ frames.Unswept =
      sym (ap (λ (v : FrameWord). v.kind) (frame_packed (owned_word (frame_of old) class epoch by) fits) ∙ owned_kind (frame_of old).kind) ∙ e in cc

module _ (hold : ℕ) (packs : PacksFrame hold) (is : (frame_of hold).kind ≡ frames.Owned) where
  class_kept : HasClass frames.Owned (frame_of hold).class
  class_kept = subst (λ q. HasClass q (frame_of hold).class) is packs.ranges.of_class

  stamp_kept : HasStamp frames.Owned (frame_of hold).stamp
  stamp_kept = subst (λ q. HasStamp q (frame_of hold).stamp) is packs.ranges.of_stamp

  home_fits : (whole room : Bool) → IsFrameWord (home_as (frame_of hold) whole room)
  home_fits true room = record { of_class = refl; of_stamp = stamp_kept; of_seat = refl }
  home_fits false true = record { of_class = class_kept; of_stamp = stamp_kept; of_seat = refl }
  home_fits false false = record { of_class = class_kept; of_stamp = stamp_kept; of_seat = refl }

  home_kind : (whole room : Bool) → (home_as (frame_of hold) whole room).kind ≢ frames.Unswept
  home_kind true room e = cc
  home_kind false true e = cc
  home_kind false false e = cc

  -- the word of a frame that is given back
  pub home_swept : (frame : Span) (free : List Span) → (frame_of (packed_frame (home_word frame (frame_of hold) free))).kind ≢ frames.Unswept
  home_swept frame free e =
      home_kind _ _ (sym (ap (λ (v : FrameWord). v.kind) (frame_packed (home_word frame (frame_of hold) free) (home_fits _ _))) ∙ e)
