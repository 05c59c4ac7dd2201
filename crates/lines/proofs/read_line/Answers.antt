use Rattle.std.proofs.Common.{◌++◌, length-append, arith, refl}
use Rattle.lines.proofs.Known.{taken_more, reads_feed, reads_at_end}
use Rattle.lines.proofs.read_line.Goals as goal

pub returns-in-Last : goal.returns-in-Last
returns-in-Last g c =
    let (done, t, most, none) = c.loop-taken.invariant in
    let (bs, grows, consumed) = rw c.in-Last.is at c.in_ok-take_piece.ensures in
    let reads = reads_feed _ _ _ _ _ done bs t grows consumed in
    record { says = reads.0; reads = reads.1 }

pub returns-in-End : goal.returns-in-End
returns-in-End g c =
    let (done, t, most, none) = c.loop-taken.invariant in
    let e = rw c.in-End.is at c.in_ok-take_piece.ensures in
    let reads = reads_at_end _ _ _ _ _ done c.loop-taken.taken _ t e.0 e.1 e.2 most none refl in
    record { says = reads.0; reads = reads.1 }

pub loop-taken-preserved : goal.loop-taken-preserved
loop-taken-preserved g c =
    let (done, t, most, none) = c.loop-taken.invariant in
    let (bs, grows, consumed, some) = rw c.in-More.is at c.in_ok-take_piece.ensures in
    (done ++ bs, taken_more _ _ _ _ _ done bs t grows consumed, omega (arith, length-append done bs), λ z. absurd (omega arith))
