-- A table made new.
use Rattle.std.proofs.Common.{ℕ, ◌++◌, take, drop as past, sym, ap, ◌∙◌}
use lib.Seq.{take-append_seam, drop-append_seam}
use Rattle.std.proofs.lemmas.List.{length-replicate}
use Rattle.seating.specs.Layouts.{slots}
use Rattle.seating.specs.Layouts.Content.{vacant}
use Rattle.seating.specs.Runs.{fresh}
use Rattle.seating.specs.Theorems.{MakeSound}
use Rattle.seating.proofs.Histories.{fresh_sound}

pub make_sound_lem : MakeSound
make_sound_lem L xs ys (sizes, long, e) = (
  rw e (sym (ap (λ (n : ℕ). take n (fresh L ++ past (slots L) xs)) (length-replicate (slots L) vacant)) ∙ take-append_seam (fresh L) (past (slots L) xs)),
  fresh_sound L,
  rw e (sym (ap (λ (n : ℕ). past n (fresh L ++ past (slots L) xs)) (length-replicate (slots L) vacant)) ∙ drop-append_seam (fresh L) (past (slots L) xs)),
)
