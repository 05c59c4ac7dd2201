-- The word of a key, a byte at a time.
use Rattle.std.proofs.Common.{◌≡◌, ℕ, ◌+◌, ◌<◌, ◌≤◌, List, length, get_or, drop, fold}
use Rattle.std.proofs.lemmas.List.{at_drop_more, at_drop_all}
use Rattle.places.specs.Words.{fnv_step}

pub fnv_more : (h : ℕ) (bs : List ℕ) (i : ℕ) → i < length bs → fold fnv_step h (drop i bs) ≡ fold fnv_step (fnv_step h (get_or bs i 0)) (drop (i + 1) bs)
fnv_more h bs i l = at_drop_more (fold fnv_step h) bs i 0 l

pub fnv_all : (h : ℕ) (bs : List ℕ) (i : ℕ) → length bs ≤ i → fold fnv_step h (drop i bs) ≡ h
fnv_all h bs i l = at_drop_all (fold fnv_step h) bs i l
