use Rattle.std.proofs.Common.{◌∙◌}
use Rattle.search.specs.Queues.{Seen}
use Rattle.search.proofs.Rooting.{spread_seen, struck_found, found_as, exhausted_as}
use Rattle.seating.specs.Layouts.{Candidate}
use Rattle.table.specs.Shapes.{scene}
use Rattle.table.proofs.Parts.{when_as}
use Rattle.table.proofs.path_search.PathSearch.seek_key.Goals as goal

pub returns-then-spread : goal.returns-then-spread
returns-then-spread g c =
    let h = scene c.args.self.now.table.now in
    let P = Candidate h.layout (g.B.Key.Kind.bytes c.args.key.now) in
    (c.spread.ensures.0, rw c.if-spread.true (struck_found h P _ _ _ c.requires.tidy c.requires.none c.if-spread.ensures.1))

pub returns-else-spread : goal.returns-else-spread
returns-else-spread g c =
    let s = c.args.self.now in
    let h = scene s.table.now in
    let w = c.if-spread.ensures in
    let P = Candidate h.layout (g.B.Key.Kind.bytes c.args.key.now) in
    let R = Seen c.spread.new.self.frontier in
    let same = spread_seen P h.slots s.frontier c.spread.new.self.frontier c.requires.none w.1 in
    let l = rw w.0 at c.levels.ensures.1 in
    (c.levels.ensures.0 ∙ w.0, when_as c.levels.result (found_as h R P same _ _) (exhausted_as h R P same _) l)
