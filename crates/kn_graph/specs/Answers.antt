-- What a call may answer, and the graph after it.
use Rattle.std.specs.Prelude.{◌≡◌, ℕ, ◌+◌, ◌-◌, ◌<◌, ◌≤◌, ◌==◌, ◌⊎◌, Bool, true, false, cond, Option, Some, None}
use Rattle.kn_layout.specs.declared.layouts.FieldKind.{FieldKind}
use Rattle.kn_layout.specs.declared.layouts.FieldKind.TheVariants.{Ref as of_ref, Int as of_int}
use Rattle.kn_graph.specs.declared.calls.Call.{Call}
use Rattle.kn_graph.specs.declared.calls.Call.TheVariants as call
use Rattle.kn_graph.specs.declared.calls.Reply.{Reply}
use Rattle.kn_graph.specs.declared.calls.Reply.TheVariants as replies
use Rattle.kn_graph.specs.Ground.{Ground}
use Rattle.kn_graph.specs.Graph.{Graph, shapes, with_local, with_global, with_stable, with_weak, with_back, with_count, with_points, with_number}
use Rattle.kn_graph.specs.Graph.{with_tie, with_birth, newborn, cell_at, length_for, field_kind, IsLegalBirth}

-- what a call answers, and the graph after it
pub record Answer : Type 0 where
  pub reply : Reply
  pub after : Graph

-- what an answer has beside the call and the thread: the graph before it, the reply, the address of a birth, and the
-- graph after it
abbrev pub Answering : Type 1
Answering = Graph → Reply → ℕ → Graph → Type 0

-- two locals are both null or hold the same object
abbrev pub is_same : Option ℕ → Option ℕ → Bool
is_same None None = true
is_same None (Some b) = false
is_same (Some a) None = false
is_same (Some a) (Some b) = a == b

abbrev pub yes_or_no : Bool → Reply
yes_or_no b = cond b replies.Yes replies.No

-- the reply where a reference was read
abbrev pub ref_or_null : Option ℕ → Reply
ref_or_null None = replies.Null
ref_or_null (Some n) = replies.Ref

-- the greatest count of a back name
abbrev pub greatest_count : ℕ
greatest_count = 4095

abbrev pub answers : Reply → Graph → Answer
answers reply after = record { reply = reply; after = after }

module _ (z : Ground) (thread : ℕ) (g : Graph) where
  -- `nil` where the local that a call needs is null
  abbrev pub needs : Option ℕ → (ℕ → Answer) → Answer
  needs None f = answers replies.Nil g
  needs (Some n) f = f n

  -- the answer where a reference field is wanted
  abbrev pub where_ref : Option FieldKind → Answer → Answer
  where_ref None a = answers replies.NoField g
  where_ref (Some of_ref) a = a
  where_ref (Some of_int) a = answers replies.WrongKind g

  -- the answer where a number field is wanted
  abbrev pub where_int : Option FieldKind → Answer → Answer
  where_int None a = answers replies.NoField g
  where_int (Some of_ref) a = answers replies.WrongKind g
  where_int (Some of_int) a = a

  -- a value was read, which a local then holds
  abbrev pub reads : ℕ → Option ℕ → Answer
  reads r value = answers (ref_or_null value) (with_local g thread r value)

  -- `vacant` where a name was not made or was given up
  abbrev pub on_name : Option ℕ → (ℕ → Answer) → Answer
  on_name None f = answers replies.Vacant g
  on_name (Some n) f = f n

  -- `none` where the referent is condemned
  abbrev pub on_referent : Option ℕ → (ℕ → Answer) → Answer
  on_referent value f = on_name value (λ n. cond (g.object n).condemned (answers replies.Nothing g) (f n))

  -- `taken` where a name is in use
  abbrev pub on_vacant : Option ℕ → Answer → Answer
  on_vacant None a = a
  on_vacant (Some n) a = answers replies.Taken g

  -- one more, unless the count stands at its greatest value
  abbrev pub retained : ℕ → Answer
  retained b = cond (g.count b == greatest_count) (answers replies.Top g)
      (answers (replies.Count (g.count b + 1)) (with_count g b (g.count b + 1)))

  -- one less, unless the count is 0
  abbrev pub let_go : ℕ → Answer
  let_go b = cond (g.count b == 0) (answers replies.Zero g)
      (answers (replies.Count (g.count b - 1)) (with_count g b (g.count b - 1)))

  -- the one answer of a call that makes no cell and awaits no epoch
  abbrev pub answer : Call → Option Answer
  answer (call.Copy r s) = Some (answers replies.Ok (with_local g thread r (g.local thread s)))
  answer (call.Clear r) = Some (answers replies.Ok (with_local g thread r None))
  answer (call.Same r s) = Some (answers (yes_or_no (is_same (g.local thread r) (g.local thread s))) g)
  answer (call.Get r s f) = Some (needs (g.local thread s) (λ n. where_ref (field_kind z (shapes g n) f) (reads r ((g.object n).points f))))
  answer (call.Set s f r) = Some (needs (g.local thread s)
      (λ n. where_ref (field_kind z (shapes g n) f) (answers replies.Ok (with_points g n f (g.local thread r)))))
  answer (call.Put s f value) = Some (needs (g.local thread s)
      (λ n. where_int (field_kind z (shapes g n) f) (answers replies.Ok (with_number g n f value))))
  answer (call.Read s f) = Some (needs (g.local thread s)
      (λ n. where_int (field_kind z (shapes g n) f) (answers (replies.Int ((g.object n).number f)) g)))
  answer (call.GlobalSet i r) = Some (answers replies.Ok (with_global g i (g.local thread r)))
  answer (call.GlobalGet r i) = Some (reads r (g.global i))
  answer (call.Pin h r) = Some (needs (g.local thread r) (λ n. on_vacant (g.stable h) (answers replies.Ok (with_stable g h (Some n)))))
  answer (call.Unpin h) = Some (on_name (g.stable h) (λ n. answers replies.Ok (with_stable g h None)))
  answer (call.StableGet r h) = Some (on_name (g.stable h) (λ n. reads r (Some n)))
  answer (call.MakeWeak w r) = Some (needs (g.local thread r) (λ n. on_vacant (g.weak w) (answers replies.Ok (with_weak g w n))))
  answer (call.WeakGet r w) = Some (on_referent (g.weak w) (λ n. reads r (Some n)))
  answer (call.MakeBack b r) = Some (needs (g.local thread r) (λ n. on_vacant (g.back b) (answers replies.Ok (with_back g b n))))
  answer (call.Retain b) = Some (on_referent (g.back b) (λ n. retained b))
  answer (call.Release b) = Some (on_referent (g.back b) (λ n. let_go b))
  answer (call.BackGet r b) = Some (on_referent (g.back b) (λ n. reads r (Some n)))
  answer _ = None

-- the reply and the graph are those of the answer, and no cell was made
pub record IsAnswer (a : Answer) (reply : Reply) (address : ℕ) (g' : Graph) : Type 0 where
  pub reply_is : reply ≡ a.reply
  pub nowhere : address ≡ 0
  pub after : g' ≡ a.after

abbrev pub IsTheAnswer : Option Answer → Reply → ℕ → Graph → Type 0
IsTheAnswer None reply address g' = ⊥
IsTheAnswer (Some a) reply address g' = IsAnswer a reply address g'

-- a new object of this layout with so many fields is born at a legal address, and local r holds it
pub record IsBorn (z : Ground) (thread r layout fields : ℕ) (g : Graph) (reply : Reply) (address : ℕ) (g' : Graph) : Type 0 where
  pub reply_is : reply ≡ replies.Ok
  pub legal : IsLegalBirth z g (cell_at address fields)
  pub after : g' ≡ with_birth g thread r (newborn address layout fields)

-- a birth happens, or none does; the model allows `full` at every birth
abbrev pub AnswersNew : Ground → ℕ → ℕ → ℕ → ℕ → Answering
AnswersNew z thread r layout fields g reply address g' =
    IsBorn z thread r layout fields g reply address g' ⊎ IsAnswer (answers replies.Full g) reply address g'

-- the object is tied, unless it has a tie; or no cell was found for the tie, which the model allows at every object
abbrev pub tied : Graph → ℕ → ℕ → ℕ → Option (ℕ × ℕ) → Answer
tied g n cleaner number None = answers replies.Ok (with_tie g n cleaner number)
tied g n cleaner number (Some tie) = answers replies.Already g

abbrev pub AnswersTie : Option ℕ → ℕ → ℕ → Answering
AnswersTie None cleaner number g reply address g' = IsAnswer (answers replies.Nil g) reply address g'
AnswersTie (Some n) cleaner number g reply address g' =
    IsAnswer (tied g n cleaner number (g.object n).tie) reply address g' ⊎ IsAnswer (answers replies.Full g) reply address g'

-- an epoch is done that is above the one of the caller's entry before
pub record IsAwaited (by epoch : ℕ) (g : Graph) : Type 0 where
  pub first : 1 ≤ epoch
  pub done : epoch ≤ g.done
  pub above : g.entered by < epoch

-- `gc` answers such an epoch
pub record AnswersCollect (by : ℕ) (g : Graph) (reply : Reply) (address : ℕ) (g' : Graph) : Type 0 where
  pub epoch : ℕ
  pub awaited : IsAwaited by epoch g
  pub is : IsAnswer (answers (replies.Epoch epoch) g) reply address g'

-- the call may be answered so
abbrev pub MayAnswer : Ground → ℕ → Call → Answering
MayAnswer z thread (call.New r layout) = AnswersNew z thread r layout (length_for z layout 0)
MayAnswer z thread (call.NewArray r layout n) = AnswersNew z thread r layout (length_for z layout n)
MayAnswer z thread (call.Tie r c n) = λ g. AnswersTie (g.local thread r) c n g
MayAnswer z thread call.Collect = AnswersCollect thread
MayAnswer z thread other = λ g. IsTheAnswer (answer z thread g other)
