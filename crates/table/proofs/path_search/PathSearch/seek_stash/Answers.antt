use Rattle.std.proofs.Common.{◌∙◌}
use Rattle.search.specs.Queues.{Seen}
use Rattle.search.specs.Searches.{Waiting}
use Rattle.search.proofs.Rooting.{spread_seen, found_as, exhausted_as}
use Rattle.table.specs.Shapes.{scene}
use Rattle.table.proofs.Parts.{when_as}
use Rattle.table.proofs.path_search.PathSearch.seek_stash.Goals as goal

pub returns : goal.returns
returns g c =
    let s = c.args.self.now in
    let h = scene s.table.now in
    let w = c.offer_stash.ensures in
    let R = Seen c.offer_stash.new.self.frontier in
    let same = spread_seen (Waiting h) h.slots s.frontier c.offer_stash.new.self.frontier c.requires.none w.spread in
    let l = rw w.table at c.levels.ensures.1 in
    (c.levels.ensures.0 ∙ w.table, when_as c.levels.result (found_as h R (Waiting h) same _ _) (exhausted_as h R (Waiting h) same _) l)
