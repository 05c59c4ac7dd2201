use Rattle.std.proofs.Common.{◌≡◌, false, codes, arith, nat_eq}
use Rattle.std.proofs.lemmas.Bool.Decides.{nat_tests}
use Rattle.std.specs.List.{starts_with}
use Rattle.settings.proofs.header.rule_word.Goals as goal

pub returns-in_default : goal.returns-in_default
returns-in_default c =
    let two : starts_with nat_eq c.args.s.now (codes "two ") ≡ false = grind (arith, nat_tests) in
    let dig2 : starts_with nat_eq c.args.s.now (codes "dig2 ") ≡ false = grind (arith, nat_tests) in
    let dig3 : starts_with nat_eq c.args.s.now (codes "dig3 ") ≡ false = grind (arith, nat_tests) in
    let xor : starts_with nat_eq c.args.s.now (codes "xor ") ≡ false = grind (arith, nat_tests) in
    simp (two, dig2, dig3, xor)
