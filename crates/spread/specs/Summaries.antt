-- What a summary tells of the counts.
use Rattle.std.specs.Prelude.{◌≡◌, ℕ, ◌*◌, ◌/◌, List, length, sum, slice_index}
use Rattle.spread.specs.Spreads.{idle, Busiest}
use Rattle.spread.specs.declared.spread.reports.Summary.{Summary}

pub record Tells (counts : List ℕ) (s : Summary) : Type 0 where
  pub buckets : s.buckets ≡ length counts
  pub none : s.idle ≡ idle counts
  pub busiest : Busiest counts s.busiest
  pub keys : s.keys ≡ slice_index counts s.busiest
  pub mean : s.mean ≡ sum counts * 100 / length counts
