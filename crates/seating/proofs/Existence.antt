-- Every call has a step, and every list of calls a run.
use Rattle.std.proofs.Common.{◌≡◌, ℕ, ◌*◌, ◌⊎◌, List, [], ◌∷◌, ◌++◌, length, drop as past, set, replicate, refl, subst, inl, inr, arith}
use Rattle.std.proofs.lemmas.List.{length-replicate}
use Rattle.seating.specs.Blocking.{blocking}
use Rattle.seating.specs.Calls.{Nothing}
use Rattle.seating.specs.Calls.Call.{put, drop}
use Rattle.seating.specs.Layouts.{Key, Content, Layout, slots, Stash, Allowed}
use Rattle.seating.specs.Layouts.Content.{vacant, holding}
use Rattle.seating.specs.Paths.{carry}
use Rattle.seating.specs.Runs.{Ran, fresh, PutExists, DropExists, RunExists, HeldMap}
use Rattle.seating.specs.Runs.Ran.{begun, putting, dropping}
use Rattle.seating.specs.Slots.{at, Sits}
use Rattle.seating.specs.Steps.{Lent, Found, Missing, blank}
use Rattle.seating.specs.Steps.PutAnswer.{seated, renewed, too_short, full}
use Rattle.seating.specs.Steps.DropAnswer.{dropped, too_short as lent_short, not_held}
use Rattle.seating.proofs.Deciding.{Either, both?, le?, some?}
use Rattle.seating.proofs.Histories.{ran_tracks, fresh_sound, fresh_tracks}
use Rattle.seating.proofs.Searching.{candidate?, vacant?, stash?, shortest?, nearest?, sized}
use Rattle.seating.proofs.Sitting.{occupied, in_slots}
use Rattle.seating.proofs.Values.{has_or_not, value_stored, stored_value}

allowed? : (L : Layout) (k : Key) (i : ℕ) → Either (Allowed L k i)
allowed? L k i = elim (candidate? L k i) [
  | inl c ↦ inl (inl c)
  | inr n ↦ elim (stash? L i) [ inl s ↦ inl (inr s) | inr m ↦ inr (λ a. elim a [ inl c ↦ n c | inr s ↦ m s ]) ]
]

sits? : (xs : List Content) (k : Key) (i : ℕ) → Either (Sits xs k i)
sits? xs k i = elim (has_or_not k (at xs i)) [ inl (v, e, _) ↦ inl (v, e) | inr (n, _) ↦ inr (λ s. n s.0 s.1) ]

found? : (L : Layout) (xs : List Content) (k : Key) → ((i : ℕ) × Found L xs k i) ⊎ Missing L xs k
found? L xs k = elim (some? (Found L xs k) (λ i. both? (allowed? L k i) (sits? xs k i)) (slots L))
    [ inl (i, _, f) ↦ inl (i, f) | inr n ↦ inr (λ i f. n (i, in_slots L k i f.0, f)) ]

free? : (L : Layout) (xs : List Content) → ((t : ℕ) × Stash L t × (at xs t ≡ vacant)) ⊎ ((t : ℕ) → Stash L t → (k : Key) × Sits xs k t)
free? L xs = elim (some? (λ t. Stash L t × (at xs t ≡ vacant)) (λ t. both? (stash? L t) (vacant? (at xs t))) (slots L))
    [ inl (t, _, (s, e)) ↦ inl (t, s, e) | inr n ↦ inr (λ t s. occupied xs t (λ e. n (t, s.1, (s, e)))) ]

pub put_exists_lem : PutExists
put_exists_lem L xs k v was = elim (both? (le? (3 * slots L) (length was.work)) (le? (slots L) (length was.list))) [
  | inr n ↦ (too_short, (xs, (was, (n, refl, refl))))
  | inl room ↦ elim (found? L xs k) [
    | inl (i, f) ↦ (renewed, (set xs i (holding k v), (back, (room, (i, f, refl), refl))))
    | inr miss ↦ elim (shortest? L xs k) [
      | inl (way, sh) ↦ (let (n, e) = sized way sh.path in (
        seated n _,
        (
          carry xs way (holding k v),
          (
            back,
            (room, miss, inl (record { way = way; shortest = sh; moves = omega arith; after = refl }), refl, refl),
          ),
        ),
      ))
      | inr none ↦ elim (free? L xs) [
        | inl (t, s, e) ↦ (
          seated 0 _,
          (
            set xs t (holding k v),
            (
              back,
              (room, miss, inr (record { none = none; slot = t; stash = s; free = e; moves = refl; after = refl }), refl, refl),
            ),
          ),
        )
        | inr st ↦ (
          full (length (blocking L xs k)),
          (
            xs,
            (
              record { work = blank was.work; list = blocking L xs k ++ past (length (blocking L xs k)) was.list },
              (room, miss, record { none = none; filled = st }, refl, refl, refl),
            ),
          ),
        )
      ]
    ]
  ]
]
  where
    back : Lent
    back = record { work = blank was.work; list = was.list }

pub drop_exists_lem : DropExists
drop_exists_lem L xs k was = elim (le? (3 * slots L) (length was)) [
  | inr n ↦ (lent_short, (xs, (was, (omega arith, refl, refl))))
  | inl room ↦ elim (found? L xs k) [
    | inr miss ↦ (not_held, (xs, (blank was, (room, miss, refl, refl))))
    | inl (i, f) ↦ elim (nearest? L (set xs i vacant)) [
      | inl (t, (h, (w, (way, z)))) ↦ (
        dropped (length way) _,
        (
          set (carry (set xs i vacant) way (holding h w)) t vacant,
          (
            blank was,
            (room, (i, f, inr (record { slot = t; key = h; value = w; way = way; nearest = z; moves = refl; after = refl })), refl, refl),
          ),
        ),
      )
      | inr rest ↦ (
        dropped 0 _,
        (
          set xs i vacant,
          (
            blank was,
            (room, (i, f, inl (record { settled = rest; moves = refl; after = refl })), refl, refl),
          ),
        ),
      )
    ]
  ]
]

pub run_exists_lem : RunExists
run_exists_lem L start [] = (start, begun)
run_exists_lem L start (put k v work list ∷ h) =
    let (xs, r) = run_exists_lem L start h in
    let was : Lent = record { work = replicate work 0; list = replicate list 0 } in
    let (a, (ys, (is, d))) = put_exists_lem L xs k v was in
    let t = subst (λ (n : ℕ). Ran L start (put k v n (length was.list) ∷ h) ys) (length-replicate work 0) (putting was is a r d) in
    (ys, subst (λ (n : ℕ). Ran L start (put k v work n ∷ h) ys) (length-replicate list 0) t)
run_exists_lem L start (drop k work ∷ h) =
    let (xs, r) = run_exists_lem L start h in
    let (a, (ys, (is, d))) = drop_exists_lem L xs k (replicate work 0) in
    (ys, subst (λ (n : ℕ). Ran L start (drop k n ∷ h) ys) (length-replicate work 0) (dropping (replicate work 0) is a r d))

pub held_map_lem : HeldMap
held_map_lem L h =
    let (xs, r) = run_exists_lem L (fresh L) h in
    let (g, tr) = ran_tracks L (fresh L) Nothing (fresh_sound L) (fresh_tracks L) r in
    (xs, g.law.whole, λ k v. ((λ e. (tr k v).0 (value_stored xs k v e)), (λ p. stored_value L xs g.law k v ((tr k v).1 p))))
