use Rattle.kn_replay.proofs.graph.Graph.change_of.Goals as goal

pub returns-in-Released : goal.returns-in-Released
returns-in-Released c = rw c.in-Released.is c.released.ensures

pub returns-in-Queued : goal.returns-in-Queued
returns-in-Queued c = rw c.in-Queued.is c.queued.ensures

pub returns-in-Finalized : goal.returns-in-Finalized
returns-in-Finalized c = rw c.in-Finalized.is c.finalized.ensures
