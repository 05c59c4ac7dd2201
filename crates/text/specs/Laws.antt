-- What the texts of flows come to.
use Rattle.std.specs.Prelude.{◌≡◌, ℕ, ◌<◌, List, length, Some}
use Rattle.std.specs.List.{AllByRecursion}
use Rattle.seating.specs.Layouts.{Key}
use Rattle.flows.specs.FlowText.{flow_as_text}
use Rattle.flow_text.specs.FlowText.{flow_from}

-- a flow's key has 13 bytes
pub record FlowKey (k : Key) : Type 0 where
  pub bytes : length k ≡ 13
  pub octets : AllByRecursion (λ b. b < 256) k

-- a flow that is written and read is that flow
abbrev pub FlowsReadBack : Type 0
FlowsReadBack = (k : Key) → FlowKey k → flow_from (flow_as_text k) ≡ Some k

-- what is read as a flow is the text of that flow, and there is no other
abbrev pub FlowsExact : Type 0
FlowsExact = (s : List ℕ) (k : Key) → flow_from s ≡ Some k → FlowKey k × (flow_as_text k ≡ s)
