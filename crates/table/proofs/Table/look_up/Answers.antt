use Rattle.std.proofs.Common.{sym}
use Rattle.table.proofs.Looking.{looks_then, looks_stop, looks_unfound}
use Rattle.table.proofs.Table.look_up.Goals as goal

pub returns-then-is_some : goal.returns-then-is_some
returns-then-is_some g c = looks_stop _ _ _ _ _ (sym c.if-is_some.ensures) c.look_near-near.ensures.looks

pub returns : goal.returns
returns g c =
    let far = rw c.stash_start.ensures at c.look_range-far.ensures in
    looks_then _ _ _ _ _ _ (looks_unfound _ _ _ _ (sym c.if-is_some.ensures) c.look_near-near.ensures.looks) far
