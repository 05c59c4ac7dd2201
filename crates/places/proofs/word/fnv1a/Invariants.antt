use Rattle.std.proofs.Common.{◌≡◌, drop, fold}
use Rattle.places.specs.Words.{fnv, fnv_step}
use Rattle.places.proofs.word.fnv1a.Given as goal

-- the bytes that are left lead to the word
abbrev pub invariant-loop-i : goal.invariant-loop-i
invariant-loop-i g l =
    fold fnv_step l.word (drop l.i (g.K.Kind.bytes l.key)) ≡ fnv l.seed (g.K.Kind.bytes l.key)
