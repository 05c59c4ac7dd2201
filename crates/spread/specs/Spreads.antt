-- How keys spread over buckets.
use Rattle.std.specs.Prelude.{◌≡◌, ℕ, ◌+◌, ◌-◌, ◌^◌, ◌<◌, ◌≤◌, min, Bool, cond, List, length, ◌==◌, slice_index, count_by}
use Rattle.std.specs.List.{list_any}

-- bucket b is among the choices
abbrev pub chosen : ℕ → List ℕ → Bool
chosen b choices = list_any (λ c. c == b) choices

-- one more, up to the largest count
abbrev pub more : ℕ → ℕ
more n = min (n + 1) (2 ^ 64 - 1)

-- each chosen bucket has one key more, however often the key chooses it
pub record Noted (choices before after : List ℕ) : Type 0 where
  pub long : length after ≡ length before
  pub each : (b : ℕ) → b < length before → slice_index after b ≡ cond (chosen b choices) (more (slice_index before b)) (slice_index before b)

-- how many buckets no key chose
abbrev pub idle : List ℕ → ℕ
idle counts = count_by (λ c. c == 0) counts

-- b is the lowest of the buckets that the most keys chose
pub record Busiest (counts : List ℕ) (b : ℕ) : Type 0 where
  pub inside : b < length counts
  pub top : (j : ℕ) → j < length counts → slice_index counts j ≤ slice_index counts b
  pub first : (j : ℕ) → j < b → slice_index counts j < slice_index counts b
