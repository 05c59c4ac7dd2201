-- The address that the library parses before the first colon, if there is one.
use Rattle.std.proofs.Common.{rules, arith, ◌≡◌, Some}
use Rattle.std.proofs.lemmas.Grind.{common_steps}
use Rattle.numerals.specs.Parts.{split}
use Rattle.flow_text.proofs.Addresses.{address_none, address_parsed}
use Rattle.flow_text.proofs.read_address.Goals as goal

pub returns-in_err-text : goal.returns-in_err-text
returns-in_err-text c = grind (arith, common_steps, address_none)

pub returns-in_err-ok : goal.returns-in_err-ok
returns-in_err-ok c =
    let e : split 58 c.args.s.now ≡ Some (c.in_ok-text.text.now, c.in_ok-text.rest.now) = search rules in
    let p = address_parsed c.args.s.now c.in_ok-text.text.now c.in_ok-text.rest.now _ e c.parse_ascii.ensures in
    grind (arith, common_steps)

pub returns : goal.returns
returns c =
    let e : split 58 c.args.s.now ≡ Some (c.in_ok-text.text.now, c.in_ok-text.rest.now) = search rules in
    let p = address_parsed c.args.s.now c.in_ok-text.text.now c.in_ok-text.rest.now _ e c.parse_ascii.ensures in
    grind (arith, common_steps)
