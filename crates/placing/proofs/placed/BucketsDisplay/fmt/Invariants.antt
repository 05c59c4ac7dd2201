use Rattle.std.proofs.Common.{take}
use Rattle.std.specs.Fmt.{HasWritten, IsPlainFormatter}
use Rattle.std.specs.List.{flat_map}
use Rattle.placing.specs.Shown.{spaced}
use Rattle.placing.proofs.placed.BucketsDisplay.fmt.Given as goal

-- the buckets so far are written
abbrev pub invariant-loop-bucket : goal.invariant-loop-bucket
invariant-loop-bucket g l =
    IsPlainFormatter l.initial.f → HasWritten g.W.Write.write_str_gives l.initial.f (flat_map spaced (take l.bucket-index l.bucket-items)) l.f
