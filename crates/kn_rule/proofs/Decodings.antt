-- What is packed is read back.
use Rattle.std.proofs.Common.{◌≡◌, ℕ, ◌+◌, ◌*◌, ◌^◌, ◌/◌, ◌%◌, ◌<◌, refl, sym, subst, ap, ◌∙◌, arith}
use Rattle.kn_base.specs.declared.kinds.FrameKind.{FrameKind}
use Rattle.kn_base.specs.declared.kinds.FrameKind.TheVariants as frames
use Rattle.kn_base.specs.declared.frame_word.FrameWord.{FrameWord}
use Rattle.kn_base.specs.declared.kinds.NodeKind.{NodeKind}
use Rattle.kn_base.specs.declared.kinds.NodeKind.TheVariants as nodes
use Rattle.kn_base.specs.declared.node_word.NodeWord.{NodeWord}
use Rattle.kn_base.specs.declared.header_word.HeaderWord.{HeaderWord}
use Rattle.kn_base.specs.declared.kinds.Code.{Code}
use Rattle.kn_base.specs.declared.kinds.Code.TheVariants as codes
use Rattle.kn_base.specs.declared.phase_word.PhaseWord.{PhaseWord}
use Rattle.kn_base.specs.Kinds.{code_number, frame_kind_number, node_kind_number}
use Rattle.kn_base.specs.Words.{IsPhaseWord, packed_phase, IsFrameWord, packed_frame, IsHeaderWord, packed_header, HasClass, HasStamp, HasSeat}
use Rattle.kn_base.specs.Words.{IsNodeWord, packed_node, HasCount, HasAddress}
use Rattle.kn_rule.specs.Decoding.{phase_of, frame_of, node_of, header_of, code_of, frame_kind_of, node_kind_of, PacksPhase, PacksFrame}

pub header_packed : (v : HeaderWord) → IsHeaderWord v → header_of (packed_header v) ≡ v
unfolding header_of
header_packed v h =
    let len = h.of_length in let ext = h.of_extra in
    let a : (v.layout * 2 ^ 48 + v.length * 2 ^ 24 + v.extra) / 2 ^ 48 ≡ v.layout = omega arith in
    let b : (v.layout * 2 ^ 48 + v.length * 2 ^ 24 + v.extra) % 2 ^ 48 / 2 ^ 24 ≡ v.length = omega arith in
    let c : (v.layout * 2 ^ 48 + v.length * 2 ^ 24 + v.extra) % 2 ^ 24 ≡ v.extra = omega arith in
    λ t. record { layout = a t; length = b t; extra = c t }

class_small : (k : FrameKind) (class : ℕ) → HasClass k class → class < 2 ^ 16
class_small frames.Vacant class h = omega arith
class_small frames.Empty class h = omega arith
class_small frames.Ready class h = let b = h.1 in omega arith
class_small frames.Used class h = let b = h.1 in omega arith
class_small frames.Unswept class h = let b = h.1 in omega arith
class_small frames.Owned class h = let b = h.1 in omega arith

stamp_small : (k : FrameKind) (stamp : ℕ) → HasStamp k stamp → stamp < 2 ^ 32
stamp_small frames.Vacant stamp h = omega arith
stamp_small frames.Empty stamp h = h
stamp_small frames.Ready stamp h = h
stamp_small frames.Used stamp h = h
stamp_small frames.Unswept stamp h = h
stamp_small frames.Owned stamp h = h

seat_small : (k : FrameKind) (seat : ℕ) → HasSeat k seat → seat < 2 ^ 8
seat_small frames.Vacant seat h = omega arith
seat_small frames.Empty seat h = omega arith
seat_small frames.Ready seat h = omega arith
seat_small frames.Used seat h = omega arith
seat_small frames.Unswept seat h = omega arith
seat_small frames.Owned seat h = omega arith

kind_back : (k : FrameKind) → frame_kind_of (frame_kind_number k) ≡ k
kind_back frames.Vacant = refl
kind_back frames.Empty = refl
kind_back frames.Ready = refl
kind_back frames.Used = refl
kind_back frames.Unswept = refl
kind_back frames.Owned = refl

pub frame_packed : (v : FrameWord) → IsFrameWord v → frame_of (packed_frame v) ≡ v
unfolding frame_of
frame_packed v h =
    let number = frame_kind_number v.kind in
    let cl = class_small v.kind v.class h.of_class in
    let st = stamp_small v.kind v.stamp h.of_stamp in
    let se = seat_small v.kind v.seat h.of_seat in
    let a : (number * 2 ^ 56 + v.class * 2 ^ 40 + v.stamp * 2 ^ 8 + v.seat) / 2 ^ 56 ≡ number = omega arith in
    let b : (number * 2 ^ 56 + v.class * 2 ^ 40 + v.stamp * 2 ^ 8 + v.seat) % 2 ^ 56 / 2 ^ 40 ≡ v.class = omega arith in
    let c : (number * 2 ^ 56 + v.class * 2 ^ 40 + v.stamp * 2 ^ 8 + v.seat) % 2 ^ 40 / 2 ^ 8 ≡ v.stamp = omega arith in
    let d : (number * 2 ^ 56 + v.class * 2 ^ 40 + v.stamp * 2 ^ 8 + v.seat) % 2 ^ 8 ≡ v.seat = omega arith in
    λ t. record { kind = (ap frame_kind_of a ∙ kind_back v.kind) t; class = b t; stamp = c t; seat = d t }

-- the number of a frame word in range packs one
pub frame_packs : (v : FrameWord) → IsFrameWord v → PacksFrame (packed_frame v)
frame_packs v h =
    let back = frame_packed v h in
    record { right = ap packed_frame back; ranges = subst IsFrameWord (sym back) h }

node_kind_back : (k : NodeKind) → node_kind_of (node_kind_number k) ≡ k
node_kind_back nodes.Vacant = refl
node_kind_back nodes.Stable = refl
node_kind_back nodes.Weak = refl
node_kind_back nodes.Back = refl
node_kind_back nodes.Cleared = refl

count_small : (k : NodeKind) (count : ℕ) → HasCount k count → count < 2 ^ 24
count_small nodes.Vacant count h = omega arith
count_small nodes.Stable count h = omega arith
count_small nodes.Weak count h = omega arith
count_small nodes.Back count h = omega arith
count_small nodes.Cleared count h = omega arith

addr_small : (k : NodeKind) (addr : ℕ) → HasAddress k addr → addr < 2 ^ 32
addr_small nodes.Vacant addr h = omega arith
addr_small nodes.Stable addr h = h.1
addr_small nodes.Weak addr h = h.1
addr_small nodes.Back addr h = h.1
addr_small nodes.Cleared addr h = omega arith

pub node_packed : (v : NodeWord) → IsNodeWord v → node_of (packed_node v) ≡ v
unfolding node_of
node_packed v h =
    let number = node_kind_number v.kind in
    let co = count_small v.kind v.count h.of_count in
    let ad = addr_small v.kind v.addr h.of_addr in
    let a : (number * 2 ^ 56 + v.count * 2 ^ 32 + v.addr) / 2 ^ 56 ≡ number = omega arith in
    let b : (number * 2 ^ 56 + v.count * 2 ^ 32 + v.addr) % 2 ^ 56 / 2 ^ 32 ≡ v.count = omega arith in
    let c : (number * 2 ^ 56 + v.count * 2 ^ 32 + v.addr) % 2 ^ 32 ≡ v.addr = omega arith in
    λ t. record { kind = (ap node_kind_of a ∙ node_kind_back v.kind) t; count = b t; addr = c t }

code_back : (c : Code) → code_of (code_number c) ≡ c
code_back codes.Idle = refl
code_back codes.StopA = refl
code_back codes.Mark = refl
code_back codes.Weak = refl
code_back codes.StopB = refl
code_back codes.Prep = refl
code_back codes.Sweep = refl

pub code_small : (c : Code) → code_number c < 8
code_small codes.Idle = omega arith
code_small codes.StopA = omega arith
code_small codes.Mark = omega arith
code_small codes.Weak = omega arith
code_small codes.StopB = omega arith
code_small codes.Prep = omega arith
code_small codes.Sweep = omega arith

pub phase_packed : (v : PhaseWord) → phase_of (packed_phase v) ≡ v
unfolding phase_of
phase_packed v =
    let number = code_number v.code in
    let small = code_small v.code in
    let a : (8 * v.epoch + number) / 8 ≡ v.epoch = omega (arith, small) in
    let b : (8 * v.epoch + number) % 8 ≡ number = omega (arith, small) in
    λ t. record { epoch = a t; code = (ap code_of b ∙ code_back v.code) t }

-- the number of a phase word in range packs one
pub phase_packs : (v : PhaseWord) → IsPhaseWord v → PacksPhase (packed_phase v)
phase_packs v h =
    let back = phase_packed v in
    record { right = ap packed_phase back; ranges = subst IsPhaseWord (sym back) h }
