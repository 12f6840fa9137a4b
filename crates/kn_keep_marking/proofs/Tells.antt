-- At the end of a marking the marks tell what is reachable in the graph.
use Rattle.kn_base.specs.declared.places.Place.TheVariants.{Phase, Pending, RootSet, Side}
use Rattle.kn_graph.specs.Graph.{shapes}
use Rattle.kn_marking.proofs.Ends.{settles}
use Rattle.kn_rule.specs.Decoding.{phase_of}
use Rattle.kn_rule.specs.MarkedHeap.{heap_of}
use Rattle.kn_rule.specs.Steps.{callers}
use Rattle.kn_keep_marking.specs.Laws.{MarksTell}
use Rattle.kn_keep_marking.proofs.Stands.{graph_sound, words_stand, sound_in_mark}
use Rattle.kn_keep_marking.proofs.Bridge.{live_at}
use Rattle.kn_keep_marking.proofs.Reaches.{reach_same}

pub marks_tell_so : MarksTell
marks_tell_so z g s n good rule mark none l =
    let sound = graph_sound z good s g rule in
    let stand = words_stand z good s g rule mark in
    let e = (phase_of (s.word Phase)).epoch in
    let same = reach_same z good g sound s.word stand n l in
    let t = settles (heap_of z g.born (shapes g) s.word) (sound_in_mark z good s g rule mark) g.paused e (callers z.sizes)
    (λ a. s.word (Side a)) (λ j. s.word (RootSet j)) (λ c. (s.caller c).work) (s.word Pending) (rule.phased.in_mark mark).marking none
    (shapes g n).address (live_at z g sound s.word stand n l) in (
      (λ r. t.0.0 (same.0 r), λ b. same.1 (t.0.1 b)),
      (λ un. t.1.0 (λ r. un (same.1 r)), λ low r. t.1.1 low (same.0 r)),
    )
