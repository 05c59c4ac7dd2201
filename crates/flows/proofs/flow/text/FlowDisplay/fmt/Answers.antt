use Rattle.std.proofs.Common.{arith}
use Rattle.flows.proofs.Shown.{shown}
use Rattle.flows.proofs.flow.text.FlowDisplay.fmt.Goals as goal

pub returns-clause-writes : goal.returns-clause-writes
returns-clause-writes g c =
    let w = c.write.ensures.writes in
    let e = shown c.args.self.now c.new-source.result c.new-destination.result (record { source = rw c.new-source.ensures.ip c.into.ensures; destination = rw c.new-destination.ensures.ip c.into-2.ensures; source_port = c.new-source.ensures.port; destination_port = c.new-destination.ensures.port }) (omega arith) (omega arith) (omega arith) in
    rw (← e) w
