use Rattle.std.proofs.Common.{ap, ◌∙◌}
use Rattle.search.specs.Searches.{marked_below}
use Rattle.search.proofs.Bridging.{flooded_blocking}
use Rattle.table.specs.Shapes.{scene}
use Rattle.table.proofs.path_search.PathSearch.list_blocking.Goals as goal

pub returns : goal.returns
returns g c = λ k x.
    let s = c.args.self.now in
    let f = c.flood.ensures in
    let n = rw f.0 at c.flood.new.self.rows in
    rw (ap (marked_below c.flood.new.self.frontier.seen) n ∙ flooded_blocking (scene s.table.now) k _ _ x f.1) at c.list_seen.ensures
