-- A text that is read is the text of the flow.
use Rattle.text.specs.FlowTexts.{flows_exact_lem}
use Rattle.text.proofs.laws.flows_exact.Goals as goal

pub returns : goal.returns
returns c = flows_exact_lem
