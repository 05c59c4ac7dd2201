use Rattle.std.proofs.Common.{◌≡◌, rules}
use Rattle.std.specs.Option.{option_map}
use Rattle.table.specs.Shapes.{layout, contents}
use Rattle.table.proofs.Parts.{table_sized}
use Rattle.table.proofs.Promising.{get_answer, got_map}
use Rattle.table.proofs.Table.get.Goals as goal

pub returns : goal.returns
returns g c =
    let t = c.args.self.now in
    let e = get_answer (layout t) (contents t) (g.B.Key.Kind.bytes c.args.key.now) c.look_up-look.result (table_sized t g.met.R.Rule.placed) c.look_up-look.ensures in
    let m : c.map.result ≡ option_map (λ h. h.value) c.look_up-look.result.found = search rules in
    let f = rw (← m) at e in
    record { answer = f; map = λ s. got_map (layout t) _ _ _ _ f s }
