use Rattle.std.proofs.Common.{◌+◌, ◌∙◌}
use Rattle.search.specs.Queues.{Seen}
use Rattle.search.specs.Searches.{Before}
use Rattle.search.proofs.Flooded.{flood_begun, flooding_as, seen_before}
use Rattle.table.specs.Shapes.{scene}
use Rattle.table.proofs.path_search.PathSearch.flood.Goals as goal

pub drain-requires-clause-begun : goal.drain-requires-clause-begun
drain-requires-clause-begun g c =
    let h = scene c.args.self.now.table.now in
    let w = c.offer_stash.ensures in
    rw (c.len-first.ensures.len, w.table) (flood_begun h _ _ c.requires.closed w.spread c.requires.filled)

pub returns : goal.returns
returns g c =
    let s = c.args.self.now in
    let h = scene s.table.now in
    let w = c.offer_stash.ensures in
    let d = rw (c.len-first.ensures.len, w.table) at c.drain.ensures.1 in
    (c.drain.ensures.0 ∙ w.table, flooding_as h (Before c.offer_stash.new.self.frontier (s.frontier.tail + 1)) (Seen s.frontier) _ _ (seen_before h _ _ c.requires.closed w.spread) d)
