-- What the plain program answers to a call, by what was seen of it.
use Rattle.std.specs.Prelude.{◌≡◌, ℕ, cond}
use Rattle.std.specs.Option.{unwrap_or}
use Rattle.kn_graph.specs.declared.calls.Call.{Call}
use Rattle.kn_graph.specs.declared.calls.Call.TheVariants.{New, NewArray, Tie, Collect}
use Rattle.kn_graph.specs.declared.calls.Reply.{Reply}
use Rattle.kn_graph.specs.declared.calls.Reply.TheVariants as replies
use Rattle.kn_replay.specs.declared.changes.Plan.{Plan}
use Rattle.kn_graph.specs.Ground.{Ground}
use Rattle.kn_graph.specs.Graph.{Graph, newborn, length_for, with_birth}
use Rattle.kn_graph.specs.Answers.{Answer, answer, answers, needs, tied}
use Rattle.kn_objects.specs.Replay.{Replay, graph_of}
use Rattle.kn_replay.specs.Seen.{is_full}
use Rattle.kn_replay.specs.ChangesMade.{IsFit, planned}

-- the answer to a birth that was seen to be `full`, or to take place at this address
abbrev pub answer_new : ℕ → Graph → ℕ → ℕ → ℕ → ℕ → Reply → Answer
answer_new thread g r layout fields address seen =
    cond (is_full seen) (answers replies.Full g) (answers replies.Ok (with_birth g thread r (newborn address layout fields)))

-- the answer to a call of which this was seen: that of the model, where the model leaves no choice
abbrev pub answer_as : Ground → ℕ → Graph → Call → ℕ → Reply → Answer
answer_as z thread g (New r layout) address seen = answer_new thread g r layout (length_for z layout 0) address seen
answer_as z thread g (NewArray r layout n) address seen = answer_new thread g r layout (length_for z layout n) address seen
answer_as z thread g (Tie r cleaner number) address seen =
    needs z thread g (g.local thread r) (λ n. cond (is_full seen) (answers replies.Full g) (tied g n cleaner number (g.object n).tie))
answer_as z thread g Collect address seen = answers seen g
answer_as z thread g other address seen = unwrap_or (answer z thread g other) (answers replies.Nil g)

-- a plan comes to this answer, and its change can be made
pub record IsPlan (z : Ground) (thread : ℕ) (g : Graph) (a : Answer) (plan : Plan) : Type 0 where
  pub is : planned thread plan g ≡ a
  pub fit : IsFit z thread plan.change g

-- a plan comes to the answer to a call of which this was seen
abbrev pub IsPlanOf : Replay → ℕ → Call → ℕ → Reply → Plan → Type 0
IsPlanOf r thread call address seen plan =
    IsPlan r.ground thread (graph_of r) (answer_as r.ground thread (graph_of r) call address seen) plan
