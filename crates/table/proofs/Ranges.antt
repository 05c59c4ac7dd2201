-- Numbers in a row, one more of them and the first of them: the library's lemmas on a list by index, at the index itself.
use Rattle.std.proofs.Common.{◌≡◌, ℕ, ◌+◌, ◌≤◌, Bool, cond, filter, [], ◌∷◌, ◌++◌, take, refl}
use Rattle.std.specs.List.{range_with_len}
use Rattle.std.proofs.lemmas.List.{map-id}
use Rattle.std.proofs.lemmas.List.FromFn.{map-range_with_len_more, take-map-range_with_len, filter_of_map_range_with_len_more}

pub one_more : (a n : ℕ) → range_with_len a (n + 1) ≡ range_with_len a n ++ (a + n) ∷ []
one_more a n = simp map-id at (map-range_with_len_more (λ x. x) a n (a + n) refl)

pub take_range : (a n k : ℕ) → k ≤ n → take k (range_with_len a n) ≡ range_with_len a k
take_range a n k h = simp map-id at (take-map-range_with_len (λ x. x) a n k h)

pub filter_more : (p : ℕ → Bool) (a n j : ℕ) → a + n ≡ j → filter p (range_with_len a (n + 1)) ≡ filter p (range_with_len a n) ++ cond (p j) (j ∷ []) []
filter_more p a n j e = simp map-id at (filter_of_map_range_with_len_more p (λ x. x) a n j e)
