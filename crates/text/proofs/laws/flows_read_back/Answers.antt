-- A flow that is written is read.
use Rattle.text.specs.FlowTexts.{flows_read_back_lem}
use Rattle.text.proofs.laws.flows_read_back.Goals as goal

pub returns : goal.returns
returns c = flows_read_back_lem
