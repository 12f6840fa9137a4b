-- The words of calls and their arguments, and which numbers an argument may be.
use Rattle.std.specs.Prelude.{ℕ, ◌<◌, ◌≤◌, Option, Some, None, List, [], ◌∷◌, slice_get}
use Rattle.kn_layout.specs.declared.layouts.Layout.{Layout}
use Rattle.kn_layout.specs.declared.layouts.Layout.TheVariants.{Fields, Array}
use Rattle.kn_graph.specs.declared.calls.Call.{Call}
use Rattle.kn_graph.specs.declared.calls.Call.TheVariants as made
use Rattle.kn_graph.specs.declared.arguments.CallWord.{CallWord}
use Rattle.kn_graph.specs.declared.arguments.CallWord.TheVariants as word
use Rattle.kn_graph.specs.declared.arguments.Argument.{Argument}
use Rattle.kn_graph.specs.declared.arguments.Argument.TheVariants.{Number, FieldsLayout, ArrayLayout, Global, Stable, Weak, Back}
use Rattle.kn_graph.specs.Ground.{Ground}

-- the number of a local, of a field, and of a cleaner
abbrev pub local : Argument
local = Number 15

abbrev pub field : Argument
field = Number 65535

abbrev pub cleaner : Argument
cleaner = Number 3

-- the number of an array's elements
abbrev pub elements : Argument
elements = Number 60000

-- a number that a cleaner is given, and any number
abbrev pub small_number : Argument
small_number = Number 4294967295

abbrev pub any_number : Argument
any_number = Number 18446744073709551615

-- the arguments of each call, in order
abbrev pub arguments_of : CallWord → List Argument
arguments_of word.New = local ∷ FieldsLayout ∷ []
arguments_of word.NewArray = local ∷ ArrayLayout ∷ elements ∷ []
arguments_of word.Copy = local ∷ local ∷ []
arguments_of word.Clear = local ∷ []
arguments_of word.Same = local ∷ local ∷ []
arguments_of word.Get = local ∷ local ∷ field ∷ []
arguments_of word.Set = local ∷ field ∷ local ∷ []
arguments_of word.Put = local ∷ field ∷ any_number ∷ []
arguments_of word.Read = local ∷ field ∷ []
arguments_of word.GlobalSet = Global ∷ local ∷ []
arguments_of word.GlobalGet = local ∷ Global ∷ []
arguments_of word.Pin = Stable ∷ local ∷ []
arguments_of word.Unpin = Stable ∷ []
arguments_of word.StableGet = local ∷ Stable ∷ []
arguments_of word.MakeWeak = Weak ∷ local ∷ []
arguments_of word.WeakGet = local ∷ Weak ∷ []
arguments_of word.MakeBack = Back ∷ local ∷ []
arguments_of word.Retain = Back ∷ []
arguments_of word.Release = Back ∷ []
arguments_of word.BackGet = local ∷ Back ∷ []
arguments_of word.Tie = local ∷ cleaner ∷ small_number ∷ []
arguments_of word.Collect = []

-- the word of a call
abbrev pub word_of : Call → CallWord
word_of (made.New r layout) = word.New
word_of (made.NewArray r layout n) = word.NewArray
word_of (made.Copy r s) = word.Copy
word_of (made.Clear r) = word.Clear
word_of (made.Same r s) = word.Same
word_of (made.Get r s f) = word.Get
word_of (made.Set s f r) = word.Set
word_of (made.Put s f n) = word.Put
word_of (made.Read s f) = word.Read
word_of (made.GlobalSet g r) = word.GlobalSet
word_of (made.GlobalGet r g) = word.GlobalGet
word_of (made.Pin h r) = word.Pin
word_of (made.Unpin h) = word.Unpin
word_of (made.StableGet r h) = word.StableGet
word_of (made.MakeWeak w r) = word.MakeWeak
word_of (made.WeakGet r w) = word.WeakGet
word_of (made.MakeBack b r) = word.MakeBack
word_of (made.Retain b) = word.Retain
word_of (made.Release b) = word.Release
word_of (made.BackGet r b) = word.BackGet
word_of (made.Tie r c n) = word.Tie
word_of made.Collect = word.Collect

-- the numbers that a call has as its arguments, in order
abbrev pub numbers_of : Call → List ℕ
numbers_of (made.New r layout) = r ∷ layout ∷ []
numbers_of (made.NewArray r layout n) = r ∷ layout ∷ n ∷ []
numbers_of (made.Copy r s) = r ∷ s ∷ []
numbers_of (made.Clear r) = r ∷ []
numbers_of (made.Same r s) = r ∷ s ∷ []
numbers_of (made.Get r s f) = r ∷ s ∷ f ∷ []
numbers_of (made.Set s f r) = s ∷ f ∷ r ∷ []
numbers_of (made.Put s f n) = s ∷ f ∷ n ∷ []
numbers_of (made.Read s f) = s ∷ f ∷ []
numbers_of (made.GlobalSet g r) = g ∷ r ∷ []
numbers_of (made.GlobalGet r g) = r ∷ g ∷ []
numbers_of (made.Pin h r) = h ∷ r ∷ []
numbers_of (made.Unpin h) = h ∷ []
numbers_of (made.StableGet r h) = r ∷ h ∷ []
numbers_of (made.MakeWeak w r) = w ∷ r ∷ []
numbers_of (made.WeakGet r w) = r ∷ w ∷ []
numbers_of (made.MakeBack b r) = b ∷ r ∷ []
numbers_of (made.Retain b) = b ∷ []
numbers_of (made.Release b) = b ∷ []
numbers_of (made.BackGet r b) = r ∷ b ∷ []
numbers_of (made.Tie r c n) = r ∷ c ∷ n ∷ []
numbers_of made.Collect = []

-- a layout that is a list of fields
abbrev pub IsFieldsLayout : Option Layout → Type 0
IsFieldsLayout None = ⊥
IsFieldsLayout (Some (Fields kinds)) = Unit {0}
IsFieldsLayout (Some (Array kind)) = ⊥

-- a layout that is an array
abbrev pub IsArrayLayout : Option Layout → Type 0
IsArrayLayout None = ⊥
IsArrayLayout (Some (Fields kinds)) = ⊥
IsArrayLayout (Some (Array kind)) = Unit {0}

-- a number may be this argument
abbrev pub Fits : Ground → Argument → ℕ → Type 0
Fits z (Number greatest) n = n ≤ greatest
Fits z FieldsLayout n = IsFieldsLayout (slice_get z.layouts n)
Fits z ArrayLayout n = IsArrayLayout (slice_get z.layouts n)
Fits z Global n = n < z.sizes.globals
Fits z Stable n = n < z.sizes.stable
Fits z Weak n = n < z.sizes.weak
Fits z Back n = n < z.sizes.back

-- as many numbers as arguments, and each fits its own
abbrev pub AllFit : Ground → List Argument → List ℕ → Type 0
AllFit z [] [] = Unit {0}
AllFit z [] (n ∷ ns) = ⊥
AllFit z (argument ∷ arguments) [] = ⊥
AllFit z (argument ∷ arguments) (n ∷ ns) = Fits z argument n × AllFit z arguments ns

-- all arguments of the call are in their ranges
abbrev pub IsInRange : Ground → Call → Type 0
IsInRange z call = AllFit z (arguments_of (word_of call)) (numbers_of call)
