use Rattle.kn_alloc.proofs.Turns.{turned_at}
use Rattle.kn_alloc.proofs.alloc.ThreadAlloc.goes_on.Goals as goal

pub returns-in-TooLong-clause-turned : goal.returns-in-TooLong-clause-turned
returns-in-TooLong-clause-turned g c =
    let h = c.denies in
    turned_at g.T.Steps.stand g.T.Steps.here g.T.Steps.did g.T.Steps.moved c.args.self.now h.new.self c.args.steps.now h.new.steps h.result
    c.self.view_is c.in-TooLong.is h.ensures.turned

pub returns-in-Returns-clause-turned : goal.returns-in-Returns-clause-turned
returns-in-Returns-clause-turned g c =
    let h = c.returns in
    turned_at g.T.Steps.stand g.T.Steps.here g.T.Steps.did g.T.Steps.moved c.args.self.now h.new.self c.args.steps.now h.new.steps h.result
    c.self.view_is c.in-Returns.is h.ensures.turned

pub returns-in-Refuses-clause-turned : goal.returns-in-Refuses-clause-turned
returns-in-Refuses-clause-turned g c =
    let h = c.gives_back in
    turned_at g.T.Steps.stand g.T.Steps.here g.T.Steps.did g.T.Steps.moved c.args.self.now h.new.self c.args.steps.now h.new.steps h.result
    c.self.view_is c.in-Refuses.is h.ensures.turned

pub returns-in-Searches-clause-turned : goal.returns-in-Searches-clause-turned
returns-in-Searches-clause-turned g c =
    let h = c.searches in
    turned_at g.T.Steps.stand g.T.Steps.here g.T.Steps.did g.T.Steps.moved c.args.self.now h.new.self c.args.steps.now h.new.steps h.result
    c.self.view_is c.in-Searches.is h.ensures.turned

pub returns-in-Takes-clause-turned : goal.returns-in-Takes-clause-turned
returns-in-Takes-clause-turned g c =
    let h = c.takes in
    turned_at g.T.Steps.stand g.T.Steps.here g.T.Steps.did g.T.Steps.moved c.args.self.now h.new.self c.args.steps.now h.new.steps h.result
    c.self.view_is c.in-Takes.is h.ensures.turned

pub returns-in-Clears-clause-turned : goal.returns-in-Clears-clause-turned
returns-in-Clears-clause-turned g c =
    let h = c.clears in
    turned_at g.T.Steps.stand g.T.Steps.here g.T.Steps.did g.T.Steps.moved c.args.self.now h.new.self c.args.steps.now h.new.steps h.result
    c.self.view_is c.in-Clears.is h.ensures.turned

pub returns-in-Bears-clause-turned : goal.returns-in-Bears-clause-turned
returns-in-Bears-clause-turned g c =
    let h = c.bears in
    turned_at g.T.Steps.stand g.T.Steps.here g.T.Steps.did g.T.Steps.moved c.args.self.now h.new.self c.args.steps.now h.new.steps h.result
    c.self.view_is c.in-Bears.is h.ensures.turned
