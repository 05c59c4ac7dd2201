-- A way that is carried out by walking it back, entry by entry.
use Rattle.std.specs.Prelude.{◌≡◌, ℕ, suc, ◌<◌, List, []}
use Rattle.search.specs.Queues.{Queue, Tidy, slot}
use Rattle.search.specs.Searches.{Trail, onto}
use Rattle.seating.specs.Layouts.{Content}
use Rattle.seating.specs.Paths.{Distinct, carry}
use Rattle.seating.specs.Slots.{at}

-- the way back from the entry j can be carried out
pub record Road (q : Queue) (j : ℕ) (walk : List ℕ) : Type 0 where
  pub sound : Tidy q
  pub low : j < q.tail
  pub trail : Trail q (suc j) walk
  pub apart : Distinct (onto walk [])

-- the slots of the way that lie past the entry p have been filled
pub record Halfway (xs : List Content) (q : Queue) (walk : List ℕ) (p : ℕ) (ys : List Content) : Type 0 where
  pub low : p < q.tail
  pub rest : List ℕ
  pub done : List ℕ
  pub trail : Trail q (suc p) rest
  pub whole : onto rest done ≡ onto walk []
  pub here : ys ≡ carry xs done (at xs (slot q p))
