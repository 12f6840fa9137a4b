-- Where a caller stands behind an answer, or with nothing due, and views that agree but for what an answer changes.
use Rattle.std.specs.Prelude.{◌≡◌, ℕ, Option, ◌<◌, length}
use Rattle.kn_base.specs.declared.limits.TheConstants.{LOCALS}
use Rattle.kn_rule.specs.declared.positions.Position.{Position}
use Rattle.kn_rule.specs.declared.positions.Position.TheVariants.{Between, Calling, Writing, Dropping, Adding}
use Rattle.kn_rule.specs.Views.{View, Rest, rest_of}

-- behind an answer a caller stands between calls, has a value due for a local, or has the words of a birth to be counted
abbrev pub IsBehindAnswer : Position → Type 0
IsBehindAnswer Between = Unit {0}
IsBehindAnswer (Writing r w n) = r < LOCALS
IsBehindAnswer (Adding n) = Unit {0}
IsBehindAnswer _ = ⊥

-- no call is under way, and nothing is due
abbrev pub IsIdle : Position → Type 0
IsIdle (Calling call) = ⊥
IsIdle (Writing r w n) = ⊥
IsIdle (Dropping x) = ⊥
IsIdle (Adding n) = ⊥
IsIdle _ = Unit {0}

-- a view but for its position, its locals, what it read for its call and in its search, its frames, its cell and its log
pub record Staying : Type 0 where
  pub polled : ℕ
  pub target : Option ℕ
  pub calls : ℕ
  pub births : ℕ
  pub rest : Rest
  pub width : ℕ × ℕ

abbrev pub staying : View → Staying
staying v = record {
  polled = v.polled;
  target = v.target;
  calls = v.calls;
  births = v.births;
  rest = rest_of v;
  width = (length v.locals, length v.owned);
}

-- two views of one caller agree there
abbrev pub Stays : View → View → Type 0
Stays u v = staying v ≡ staying u
