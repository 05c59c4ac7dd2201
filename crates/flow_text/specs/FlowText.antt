-- What a text says: a flow, if it is as `10.0.0.1:80>10.0.0.2:81/6`.
use Rattle.std.specs.Prelude.{ℕ, List, [], ◌∷◌, ◌++◌, Some, Option}
use Rattle.seating.specs.Layouts.{Key}
use Rattle.keys.specs.Bytes.{two}
use Rattle.numerals.specs.Parts.{and_then, below, part}

-- the marks between the parts
abbrev pub dot : ℕ
dot = 46

abbrev pub colon : ℕ
colon = 58

abbrev pub arrow : ℕ
arrow = 62

abbrev pub slash : ℕ
slash = 47

-- four bytes parted by dots, up to the first mark behind the last dot, and what stands behind it
abbrev pub address : ℕ → List ℕ → Option (List ℕ × List ℕ)
address mark s =
    and_then (part 256 dot s) (λ p.
    and_then (part 256 dot p.1) (λ q.
    and_then (part 256 dot q.1) (λ r.
    and_then (part 256 mark r.1) (λ t.
    Some (p.0 ∷ q.0 ∷ r.0 ∷ t.0 ∷ [], t.1)))))

-- an address, a colon, and a port up to the mark; and what stands behind it
abbrev pub endpoint : ℕ → List ℕ → Option (List ℕ × ℕ × List ℕ)
endpoint mark s = and_then (address colon s) (λ a. and_then (part 65536 mark a.1) (λ p. Some (a.0, p.0, p.1)))

-- the key whose text is s: an endpoint up to `>`, another up to `/`, and the protocol up to the end
abbrev pub flow_from : List ℕ → Option Key
flow_from s =
    and_then (endpoint arrow s) (λ a.
    and_then (endpoint slash a.2) (λ b.
    and_then (below 256 b.2) (λ p.
    Some (a.0 ++ (b.0 ++ two a.1 (two b.1 (p ∷ [])))))))
