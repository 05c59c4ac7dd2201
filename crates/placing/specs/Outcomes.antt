-- What becomes of a line.
use Rattle.std.specs.Prelude.{Ok, Err, Result}
use Rattle.seating.specs.Layouts.{Key}
use Rattle.keys.specs.declared.refusal.Refusal.{Refusal}
use Rattle.placing.specs.declared.placer.Outcome.{Outcome}
use Rattle.placing.specs.declared.placer.Outcome.TheVariants.{Placed, Refused}

-- what a line says decides
abbrev pub outcome_of : Result Key Refusal → Outcome
outcome_of (Ok k) = Placed
outcome_of (Err e) = Refused
