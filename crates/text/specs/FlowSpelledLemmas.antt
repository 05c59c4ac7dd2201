use Rattle.std.proofs.Common.{arith}
use Rattle.std.specs.Prelude.{◌≡◌, Some, Ok, Option}
use Rattle.std.specs.Option.{ok_or}
use Rattle.seating.specs.Layouts.{Key}
use Rattle.keys.specs.declared.refusal.Refusal.TheVariants.{BadLine}

pub some_from_ok : (o : Option Key) (k : Key) → ok_or o BadLine ≡ Ok k → o ≡ Some k
some_from_ok o k e = grind arith
