-- The first line: `RULE n z KIND`.
use Rattle.std.specs.Prelude.{ℕ, ◌^◌, List, drop, Some, None, codes, Option, nat_eq, if◌then◌else◌}
use Rattle.std.specs.List.{starts_with}
use Rattle.std.specs.Str.{bytes_eq}
use Rattle.rules.specs.declared.builtin.RuleName.{RuleName}
use Rattle.rules.specs.declared.builtin.RuleName.TheVariants.{Two, Dig2, Dig3, Xor}
use Rattle.numerals.specs.Parts.{and_then, part}
use Rattle.settings.specs.declared.header.Header.{Header}
use Rattle.settings.specs.declared.header.KindName.{KindName}
use Rattle.settings.specs.declared.header.KindName.TheVariants.{Flow, Name}

-- the rule whose name stands in front, and what stands behind the space
abbrev pub rule_word_lem : List ℕ → Option (RuleName × List ℕ)
rule_word_lem s =
    if starts_with nat_eq s (codes "two ") then Some (Two, drop 4 s)
    else (if starts_with nat_eq s (codes "dig2 ") then Some (Dig2, drop 5 s)
    else (if starts_with nat_eq s (codes "dig3 ") then Some (Dig3, drop 5 s)
    else (if starts_with nat_eq s (codes "xor ") then Some (Xor, drop 4 s) else None)))

-- the kind of key that a word names
abbrev pub kind_word_lem : List ℕ → Option KindName
kind_word_lem s =
    if bytes_eq s (codes "flow") then Some Flow
    else (if bytes_eq s (codes "name") then Some Name else None)

-- a rule, the number of buckets, a seed and a kind, parted by single spaces
abbrev pub header_of : List ℕ → Option Header
header_of s =
    and_then (rule_word_lem s) (λ r.
    and_then (part (10 ^ 18) 32 r.1) (λ n.
    and_then (part (10 ^ 18) 32 n.1) (λ z.
    and_then (kind_word_lem z.1) (λ k.
    Some (record { rule = r.0; buckets = n.0; seed = z.0; kind = k })))))
