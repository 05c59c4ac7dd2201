-- What a flow is as a key.
use Rattle.std.specs.Prelude.{◌%◌, [], ◌∷◌}
use Rattle.seating.specs.Layouts.{Key}
use Rattle.keys.specs.Bytes.{two, four}
use Rattle.flows.specs.declared.flow.Flow.{Flow}

-- 13 bytes: the addresses, the ports, the protocol, each most significant byte first
abbrev pub flow_bytes : Flow → Key
flow_bytes f = four f.source (four f.destination (two f.source_port (two f.destination_port ((f.protocol % 256) ∷ []))))
