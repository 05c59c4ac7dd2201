-- The text of a flow is that of its two socket addresses and its protocol.
use Rattle.std.proofs.Common.{◌≡◌, ◌<◌, ◌/◌, ◌%◌, ◌*◌, ◌+◌, ℕ, [], ◌∷◌, ◌++◌, decimal, append_assoc, arith}
use Rattle.std.specs.Net.Addr.{ipv4_octets, IsIpv4OfBits}
use Rattle.std.specs.Net.Socket.{v4_ip, v4_port}
use Rattle.std.specs.Net.Text.{socket_v4_text}
use Rattle.std.specs.declared.net.socket_addr.SocketAddrV4.{SocketAddrV4}
use Rattle.std.specs.declared.net.ipv4_addr.Ipv4Addr.{Ipv4Addr}
use Rattle.keys.specs.Bytes.{four}
use Rattle.flows.specs.Flows.{flow_bytes}
use Rattle.flows.specs.declared.flow.Flow.{Flow}
use Rattle.flows.specs.FlowText.{flow_as_text}

octets_of_bits : (a : Ipv4Addr) (n : ℕ) → IsIpv4OfBits a n → ipv4_octets a ≡ four n []
unfolding IsIpv4OfBits
octets_of_bits a n h = h

-- a flow's ends
pub record Ends (f : Flow) (a b : SocketAddrV4) : Type 0 where
  pub source : IsIpv4OfBits (v4_ip a) f.source
  pub destination : IsIpv4OfBits (v4_ip b) f.destination
  pub source_port : v4_port a ≡ f.source_port
  pub destination_port : v4_port b ≡ f.destination_port

pub shown : (f : Flow) (a b : SocketAddrV4) → Ends f a b → f.source_port < 65536 → f.destination_port < 65536 → f.protocol < 256 → socket_v4_text a ++ (62 ∷ (socket_v4_text b ++ (47 ∷ decimal f.protocol))) ≡ flow_as_text (flow_bytes f)
shown f a b h p q r =
    let s : f.source_port / 256 % 256 * 256 + f.source_port % 256 ≡ f.source_port = omega arith in
    let d : f.destination_port / 256 % 256 * 256 + f.destination_port % 256 ≡ f.destination_port = omega arith in
    let e : f.protocol % 256 ≡ f.protocol = omega arith in
    rw (octets_of_bits (v4_ip a) f.source h.source, octets_of_bits (v4_ip b) f.destination h.destination, h.source_port, h.destination_port, s, d, e) (simp append_assoc)
