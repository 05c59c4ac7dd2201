use Rattle.std.proofs.Common.{List, ℕ, ◌++◌, ap, ◌∙◌, arith}
use Rattle.std.proofs.lemmas.Result.{on_ok_weaker}
use Rattle.placing.proofs.Hex.{padded_hex}
use Rattle.placing.proofs.Shown.{on_ok_if, place_line}
use Rattle.placing.proofs.placed.Placed.write_line.Goals as goal

pub returns : goal.returns
returns g c =
    let text = rw (c.laid_out.ensures, c.in_radix.ensures, padded_hex c.args.self.now.word (omega arith), c.as_slice.ensures.value, c.in_ok-text.ensures.bytes) at c.in_ok-write-2.ensures.bytes in
    on_ok_weaker c.extend_from_slice.result
    (λ e. place_line c.args.out.now.items c.write.new.out.items _ _ c.args.self.now.word _ c.in_ok-write.ensures
    (e ∙ ap (λ (t : List ℕ). c.write.new.out.items ++ t) (c.as_bytes.ensures.value ∙ text)))
    (on_ok_if c.extend_from_slice.result _ _ _ c.extend_from_slice.ensures.items)
