-- What is proved of seating: each statement is the contract of a function of this crate.
use Rattle.std.specs.Prelude.{◌≡◌, ℕ, ◌<◌, ◌≤◌, Bool, true, ◌≢◌, ◌⊎◌, ◌↔◌, List, [], ◌∷◌, length, take, drop as past, slice_index_or}
use mathlib.Core.List.{Memᴰ}
use Rattle.std.specs.List.{AllByRecursion}
use Rattle.seating.specs.Assignments.{Seats, Seatable, Unseatable, stashed_by}
use Rattle.seating.specs.Blocking.{blocking, Blocks}
use Rattle.seating.specs.Layouts.{Key, Value, Content, Layout, slots, Stash, Allowed}
use Rattle.seating.specs.Layouts.Content.{holding}
use Rattle.seating.specs.Paths.{Path, Pathless, Distinct, carry}
use Rattle.seating.specs.Runs.{fresh}
use Rattle.seating.specs.Slots.{at, Sits, Held, Stored, Occupied, keys, moved, stashed}
use Rattle.seating.specs.Steps.{Lent, MakeDoes, PutAnswer, PutDoes, DropAnswer, DropDoes}
use Rattle.seating.specs.Steps.DropAnswer.{dropped}
use Rattle.seating.specs.Steps.MakeAnswer.{made}
use Rattle.seating.specs.Steps.PutAnswer.{seated}
use Rattle.seating.specs.Tables.{Lawful, Sound}

-- no key comes twice
abbrev pub Apart : List Key → Type 0
Apart ks = (i j : ℕ) → i < length ks → j < length ks → slice_index_or ks i [] ≡ slice_index_or ks j [] → i ≡ j

-- keys that an assignment seats in listed slots are no more than these slots
abbrev pub Pigeonhole : Type 0
Pigeonhole =
    (L : Layout) (ks : List Key) (cs : List ℕ) (f : Key → ℕ) → Seats L (λ k. Memᴰ k ks) f → Apart ks
    → ((k : Key) → Memᴰ k ks → Memᴰ (f k) cs) → length ks ≤ length cs

abbrev pub Ascending : List ℕ → Type 0
Ascending [] = Unit {0}
Ascending (c ∷ cs) = AllByRecursion (λ d. c < d) cs × Ascending cs

-- the blocking set of k is the least set with the candidates of k, the stash, and the candidates of each key in it
pub record LeastBlocking (L : Layout) (xs : List Content) (k : Key) : Type 0 where
  pub blocks : Blocks L xs k (λ i. Memᴰ i (blocking L xs k))
  pub least : (D : ℕ → Bool) → Blocks L xs k (λ i. D i ≡ true) → (i : ℕ) → Memᴰ i (blocking L xs k) → D i ≡ true
  pub ascends : Ascending (blocking L xs k)

abbrev pub BlockingLeast : Type 0
BlockingLeast = (L : Layout) (xs : List Content) (k : Key) → LeastBlocking L xs k

-- every slot of the blocking set of k is occupied
abbrev pub Blocked : Layout → List Content → Key → Type 0
Blocked L xs k = (i : ℕ) → Memᴰ i (blocking L xs k) → Occupied xs i

-- where no path and no vacant slot of the stash is left for k, its blocking set is full
abbrev pub StuckBlocked : Type 0
StuckBlocked =
    (L : Layout) (xs : List Content) (k : Key) → Sound L xs → Pathless L xs k → ((t : ℕ) → Stash L t → Occupied xs t)
    → Blocked L xs k

-- k, or a held key
abbrev pub Beside : List Content → Key → Key → Type 0
Beside xs k j = (j ≡ k) ⊎ Held xs j

-- where the blocking set of a key that is not held is full, no assignment seats it and all held keys
abbrev pub RefusalHonest : Type 0
RefusalHonest =
    (L : Layout) (xs : List Content) (k : Key) → Lawful L xs → (Held xs k → ⊥) → Blocked L xs k
    → Unseatable L (Beside xs k)

-- then a key, k or held, lets all the others be seated when it is left out, exactly if it is k or sits in the blocking set
abbrev pub BlameExact : Type 0
BlameExact =
    (L : Layout) (xs : List Content) (k j : Key) → Lawful L xs → (Held xs k → ⊥) → Blocked L xs k → Beside xs k j
    → Seatable L (λ h. Beside xs k h × (h ≢ j)) ↔ ((j ≡ k) ⊎ ((i : ℕ) × Memᴰ i (blocking L xs k) × Sits xs j i))

-- no assignment of the held keys has fewer of them in the stash
abbrev pub StashLeast : Type 0
StashLeast =
    (L : Layout) (xs : List Content) → Sound L xs → (f : Key → ℕ) → Seats L (Held xs) f
    → stashed L xs ≤ stashed_by L f (keys xs)

-- ys holds what xs holds, and k with v
abbrev pub Gains : List Content → List Content → Key → Value → Type 0
Gains xs ys k v = (h : Key) (u : Value) → Stored ys h u ↔ (Stored xs h u ⊎ (holding k v ≡ holding h u))

-- a path with no slot twice, carried out for a key that is not held: lawful slots stay so and gain the key, and slots off
-- the path stay as they were
abbrev pub CarriedOut : Type 0
CarriedOut =
    (L : Layout) (xs : List Content) (k : Key) (v : Value) (is : List ℕ)
    → Lawful L xs → (Held xs k → ⊥) → Path (Allowed L) xs k is → Distinct is
    → Lawful L (carry xs is (holding k v)) × Gains xs (carry xs is (holding k v)) k v
    × ((j : ℕ) → (Memᴰ j is → ⊥) → at (carry xs is (holding k v)) j ≡ at xs j)

-- a put and a drop keep the invariant
abbrev pub PutSound : Type 0
PutSound =
    (L : Layout) (xs : List Content) (k : Key) (v : Value) (was : Lent) (a : PutAnswer) (ys : List Content) (is : Lent)
    → PutDoes L xs k v was a ys is → Sound L xs → Sound L ys

abbrev pub DropSound : Type 0
DropSound =
    (L : Layout) (xs : List Content) (k : Key) (was : List ℕ) (a : DropAnswer) (ys : List Content) (is : List ℕ)
    → DropDoes L xs k was a ys is → Sound L xs → Sound L ys

-- so does making, of the table's own slots, and leaves the others
abbrev pub MakeSound : Type 0
MakeSound =
    (L : Layout) (xs ys : List Content) → MakeDoes L xs made ys
    → (take (slots L) ys ≡ fresh L) × Sound L (fresh L) × (past (slots L) ys ≡ past (slots L) xs)

-- in sound slots, what put and drop answer as moves is the number of keys held before and after whose slot differs
abbrev pub PutMoves : Type 0
PutMoves =
    (L : Layout) (xs : List Content) (k : Key) (v : Value) (was : Lent) (m s : ℕ) (ys : List Content) (is : Lent)
    → PutDoes L xs k v was (seated m s) ys is → Sound L xs → m ≡ moved xs ys

abbrev pub DropMoves : Type 0
DropMoves =
    (L : Layout) (xs : List Content) (k : Key) (was : List ℕ) (m s : ℕ) (ys : List Content) (is : List ℕ)
    → DropDoes L xs k was (dropped m s) ys is → Sound L xs → m ≡ moved xs ys
