-- The text of a flow is read back, and nothing else is read.
use Rattle.std.proofs.Common.{arith, rules, ap, ◌∙◌, sym, drop-cons, subst}
use Rattle.std.specs.Prelude.{◌≡◌, ℕ, zero, suc, ◌+◌, ◌*◌, ◌/◌, ◌%◌, ◌<◌, false, List, [], ◌∷◌, ◌++◌, length, drop, Some, decimal, slice_index, refl}
use Rattle.std.proofs.ByRecursion.{All-append}
use Rattle.std.proofs.lemmas.List.{drop_all}
use Rattle.std.proofs.lemmas.Option.{option_and_then_some}
use Rattle.std.specs.Char.{is_ascii_digit}
use Rattle.std.specs.List.{AllByRecursion}
use Rattle.std.specs.Net.Grammar.{IsDotted}
use Rattle.std.specs.Net.Text.{dotted_text}
use Rattle.keys.specs.Bytes.{two}
use Rattle.flows.specs.Flows.{flow_bytes}
use Rattle.flows.specs.declared.flow.Flow.{Flow}
use Rattle.flows.specs.FlowText.{flow_as_text}
use Rattle.flow_text.specs.FlowText.{address, endpoint}
use Rattle.flow_text.proofs.Addresses.{Address, address_back, address_exact}
use Rattle.text.specs.Laws.{FlowKey, FlowsReadBack, FlowsExact}
use Rattle.numerals.specs.Parts.{below, part}
use Rattle.numerals.proofs.Cuts.{below_back, part_back, below_exact, part_exact}

-- each is a byte
abbrev Octets : List ℕ → Type 0
Octets k = AllByRecursion (λ b. b < 256) k

octet_at : (k : List ℕ) → Octets k → (i : ℕ) → slice_index k i < 256
octet_at [] h i = omega arith
octet_at (x ∷ xs) h zero = h.0
octet_at (x ∷ xs) h (suc i) = octet_at xs h.1 i

-- the elements of a list from place i on, one by one
abbrev elements : ℕ → ℕ → List ℕ → List ℕ
elements i zero k = []
elements i (suc n) k = slice_index k i ∷ elements (suc i) n k

elements_drop : (i n : ℕ) (k : List ℕ) → i + n ≡ length k → elements i n k ≡ drop i k
elements_drop i zero k h = sym (drop_all i k (omega arith))
elements_drop i (suc n) k h =
    ap (λ (xs : List ℕ). slice_index k i ∷ xs) (elements_drop (suc i) n k (omega arith)) ∙ sym (drop-cons k i 0 (omega arith))

-- two bytes and the number that they write
two_bytes : (a b : ℕ) (rest : List ℕ) → a < 256 → b < 256 → two (a * 256 + b) rest ≡ a ∷ b ∷ rest
two_bytes a b rest ha hb =
    let e : (a * 256 + b) / 256 % 256 ≡ a = omega arith in
    let f : (a * 256 + b) % 256 ≡ b = omega arith in
    rw (e, f)

two_value : (n : ℕ) → n < 65536 → n / 256 % 256 * 256 + n % 256 ≡ n
two_value n h = omega arith

-- an endpoint that is written is read
endpoint_back : (mark a b c d p : ℕ) (rest : List ℕ) → Octets (a ∷ b ∷ c ∷ d ∷ []) → p < 65536 → is_ascii_digit mark ≡ false → endpoint mark (dotted_text a b c d ++ (58 ∷ (decimal p ++ (mark ∷ rest)))) ≡ Some (a ∷ b ∷ c ∷ d ∷ [], p, rest)
endpoint_back mark a b c d p rest h l m =
    let dotted : IsDotted (dotted_text a b c d) (a ∷ b ∷ c ∷ d ∷ []) = record { a = a; b = b; c = c; d = d; fit = (h.0, h.1.0, h.1.1.0, h.1.1.1.0); value = refl; spelled = refl } in
    rw (address_back 58 _ _ (decimal p ++ (mark ∷ rest)) dotted refl, part_back 65536 mark p rest l (omega arith) m)

pub flows_read_back_lem : FlowsReadBack
flows_read_back_lem k w =
    let h : (i : ℕ) → slice_index k i < 256 = octet_at k w.octets in
    rw (endpoint_back 62 _ _ _ _ (slice_index k 8 * 256 + slice_index k 9) _ (h 0, (h 1, (h 2, (h 3, tt)))) (omega (arith, h 8, h 9)) refl, endpoint_back 47 _ _ _ _ (slice_index k 10 * 256 + slice_index k 11) _ (h 4, (h 5, (h 6, (h 7, tt)))) (omega (arith, h 10, h 11)) refl, below_back 256 (slice_index k 12) (h 12) (omega arith), two_bytes (slice_index k 8) (slice_index k 9) _ (h 8) (h 9), two_bytes (slice_index k 10) (slice_index k 11) _ (h 10) (h 11))
    (ap (λ (xs : List ℕ). Some xs) (elements_drop 0 13 k (omega (arith, w.bytes))))

dotted_octets : (text octets : List ℕ) → IsDotted text octets → Octets octets
dotted_octets text octets h = rw h.value (h.fit.0, (h.fit.1, (h.fit.2, (h.fit.3, tt))))

-- an endpoint is read from the texts of its address and its port
record Endpoint (mark : ℕ) (s : List ℕ) (x : List ℕ × ℕ × List ℕ) : Type 0 where
  address : Address 58 s (x.0, decimal x.1 ++ (mark ∷ x.2))
  port : x.1 < 65536

endpoint_exact : (mark : ℕ) (s : List ℕ) (x : List ℕ × ℕ × List ℕ) → endpoint mark s ≡ Some x → Endpoint mark s x
endpoint_exact mark s x e =
    option_and_then_some _ (address 58 s) x e (λ a ha f.
    option_and_then_some _ (part 65536 mark a.1) x f (λ p hp g.
    let from = part_exact 65536 mark a.1 p.0 p.1 hp in
    let is : (a.0, p.0, p.1) ≡ x = cc in
    subst (Endpoint mark s) is (record { address = rw from.1 (address_exact 58 s a ha); port = from.0 })))

-- and a flow from the texts of its parts
pub flows_exact_lem : FlowsExact
flows_exact_lem s k e =
    option_and_then_some _ (endpoint 62 s) k e (λ x hx f.
    option_and_then_some _ (endpoint 47 x.2) k f (λ y hy g.
    option_and_then_some _ (below 256 y.2) k g (λ p hp i.
    let a = endpoint_exact 62 s x hx in
    let b = endpoint_exact 47 x.2 y hy in
    let c = below_exact 256 y.2 p hp in
    let rest : List ℕ = two x.1 (two y.1 (p ∷ [])) in
    let is : x.0 ++ (y.0 ++ rest) ≡ k = cc in
    let small : Octets rest = (omega arith, (omega arith, (omega arith, (omega arith, (c.0, tt))))) in
    let key : FlowKey (x.0 ++ (y.0 ++ rest)) = record {
      bytes = rw (a.address.dotted.value, b.address.dotted.value);
      octets = All-append _ x.0 (y.0 ++ rest) (dotted_octets _ x.0 a.address.dotted) (All-append _ y.0 rest (dotted_octets _ y.0 b.address.dotted) small);
    } in
    let text : flow_as_text (x.0 ++ (y.0 ++ rest)) ≡ s = rw (a.address.dotted.value, b.address.dotted.value, two_value x.1 a.port, two_value y.1 b.port, c.1, ← b.address.dotted.spelled, b.address.whole, ← a.address.dotted.spelled) a.address.whole in
    subst (λ (v : List ℕ). FlowKey v × (flow_as_text v ≡ s)) is (key, text))))

-- the bytes of a flow are those of a key
pub flow_key : (f : Flow) → FlowKey (flow_bytes f)
flow_key f = record { bytes = refl; octets = search rules }
