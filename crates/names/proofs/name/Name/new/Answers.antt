use Rattle.std.proofs.Common.{◌≡◌, ℕ, ◌-◌, true, List, length, drop, refl, ap, ◌∙◌, rules}
use Rattle.names.specs.Blank.{blank}
use Rattle.names.specs.NamesLemmas.{blank_behind}
use Rattle.names.proofs.name.Name.new.Goals as goal

pub invariant_of-result : goal.invariant_of-result
invariant_of-result c =
    let n : ℕ = length c.args.bytes.now in
    let z : blank (drop n c.padded-text.result) ≡ true = ap (λ (t : List ℕ). blank (drop n t)) c.padded-text.ensures ∙ blank_behind c.args.bytes.now n (15 - n) refl in
    search rules
