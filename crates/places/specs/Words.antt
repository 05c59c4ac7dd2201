-- The word of a key: 32-bit FNV-1a with a seed.
use Rattle.std.specs.Prelude.{ℕ, ◌*◌, ◌%◌, ◌^◌, fold, bit_xor}
use Rattle.seating.specs.Layouts.{Key}

-- a byte goes into the word by exclusive or, and the word is then multiplied
abbrev pub fnv_step : ℕ → ℕ → ℕ
fnv_step h b = (bit_xor h b * 0x01000193) % 2 ^ 32

-- the bytes in turn; seed 0 gives the published function
abbrev pub fnv : ℕ → Key → ℕ
fnv z k = fold fnv_step (bit_xor 0x811c9dc5 z) k
