use Rattle.places.specs.Rules.{RuleSized, Placed}
use Rattle.places.specs.Laws.{two_sized, two_placed, digits_sized, digits_placed, xor_sized, xor_placed}
use Rattle.seating.specs.Layouts.{Key}
use Rattle.rules.specs.Builtins.{builtin_count, builtin_degree, builtin_places}
use Rattle.rules.specs.declared.builtin.Builtin.{Builtin}
use Rattle.rules.specs.declared.builtin.Builtin.TheVariants.{Two as by_two, Digits as by_digits, Xor as by_xor}

pub sized : (r : Builtin) → RuleSized (builtin_count r) (builtin_degree r)
sized (by_two r) = two_sized r
sized (by_digits r) = digits_sized r
sized (by_xor r) = xor_sized r

pub placed : (r : Builtin) (k : Key) → Placed (builtin_count r) (builtin_degree r) (builtin_places r k)
placed (by_two r) k = two_placed r k
placed (by_digits r) k = digits_placed r k
placed (by_xor r) k = xor_placed r k
