-- Searches for a frame: which frames are done with, and which pages that are given back are refused.
use Rattle.std.specs.Prelude.{ℕ, zero, suc, ◌+◌, ◌==◌, Bool, true, false, ◌&&◌, ◌||◌, not, List, Option, Some, None, slice_get}
use Rattle.kn_base.specs.declared.classes.TheConstants.{SINGLE_CLASS}
use Rattle.kn_graph.specs.declared.calls.Call.{Call}
use Rattle.kn_graph.specs.Ground.{Ground}
use Rattle.kn_rule.specs.Decoding.{frame_of}
use Rattle.kn_rule.specs.FrameSpans.{frame_span}
use Rattle.kn_rule.specs.Views.{Open}
use Rattle.kn_rule.specs.Requests.{class_asked, area_from, area_count, is_usable, is_whole, has_span}

abbrev pub true_at : Option Bool → Bool
true_at None = false
true_at (Some b) = b

abbrev pub is_ruled_out : ℕ → Bool → Option (Option ℕ) → Bool
is_ruled_out class refused None = false
is_ruled_out class refused (Some None) = false
is_ruled_out class refused (Some (Some w)) = refused || not (is_usable class w)

-- a search for a class is done with frame p: it was seen in this search, and it was refused, or the word seen last is not usable
abbrev pub is_done_with : ℕ → List (Option ℕ) → List Bool → ℕ → Bool
is_done_with class seen refused p = is_ruled_out class (true_at (slice_get refused p)) (slice_get seen p)

-- the search is done with the n frames from p on
abbrev pub done_from : ℕ → List (Option ℕ) → List Bool → ℕ → ℕ → Bool
done_from class seen refused p zero = true
done_from class seen refused p (suc n) = is_done_with class seen refused (p + n) && done_from class seen refused p n

-- the search of a call has ended: it is done with each frame of the area
abbrev pub is_over : Ground → Call → List (Option ℕ) → List Bool → Bool
is_over z call seen refused =
    done_from (class_asked z call) seen refused (area_from z.sizes (class_asked z call)) (area_count z.sizes (class_asked z call))

-- where a call that asks for n words puts the page of frame p home, the frame is refused: the page is single or of another
-- class, and not wholly free; or it has no free span as long as the request
abbrev pub refuses : Ground → Call → Option ℕ → ℕ → Open → Bool
refuses z call None p o = false
refuses z call (Some n) p o =
    (((frame_of o.word).class == SINGLE_CLASS) || not ((frame_of o.word).class == class_asked z call)) && not (is_whole (frame_span z.sizes p) o.free)
    || not (has_span n o.free)

abbrev pub refuses_at : Ground → Call → Option ℕ → ℕ → Option Open → Bool
refuses_at z call n p None = false
refuses_at z call n p (Some o) = refuses z call n p o
