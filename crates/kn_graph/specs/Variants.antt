-- Replies as numbers, by which they are compared.
use Rattle.std.specs.Prelude.{ℕ}
use Rattle.kn_graph.specs.declared.calls.Reply.{Reply}
use Rattle.kn_graph.specs.declared.calls.Reply.TheVariants as replies

-- the number that a reply tells, and 0 where it tells none
abbrev pub number_in : Reply → ℕ
number_in (replies.Int n) = n
number_in (replies.Count n) = n
number_in (replies.Epoch e) = e
number_in _ = 0

-- the number of a reply's variant, in the order in which they are declared
abbrev pub variant_of : Reply → ℕ
variant_of replies.Ok = 0
variant_of replies.Full = 1
variant_of replies.Nil = 2
variant_of replies.Yes = 3
variant_of replies.No = 4
variant_of replies.Ref = 5
variant_of replies.Null = 6
variant_of replies.NoField = 7
variant_of replies.WrongKind = 8
variant_of (replies.Int n) = 9
variant_of replies.Taken = 10
variant_of replies.Vacant = 11
variant_of replies.Nothing = 12
variant_of (replies.Count n) = 13
variant_of replies.Top = 14
variant_of replies.Zero = 15
variant_of replies.Already = 16
variant_of (replies.Epoch e) = 17
