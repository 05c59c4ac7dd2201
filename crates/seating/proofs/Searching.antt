-- A shortest path is found, or there is none: the paths of each length are looked through.
use Rattle.std.proofs.Common.{◌≡◌, ℕ, zero, suc, ◌/◌, ◌<◌, ◌≤◌, true, ◌⊎◌, List, [], ◌∷◌, length, get_or, sym, refl, ap, ◌∙◌, inl, inr, arith}
use mathlib.Core.List.{Memᴰ}
use Rattle.seating.specs.Layouts.{Key, Value, Content, Layout, bucket_slots, slots, Stash, Candidate}
use Rattle.seating.specs.Layouts.Content.{vacant, holding}
use Rattle.seating.specs.Paths.{Path, CuckooPath, Pathless, Shortest, Nearest, Distinct}
use Rattle.seating.specs.Paths.Path.{last, next}
use Rattle.seating.specs.Slots.{at, Sits}
use Rattle.seating.specs.Tables.{Settled}
use Rattle.seating.proofs.Counts.{pigeon, all_count}
use Rattle.seating.proofs.Deciding.{Either, both?, le?, lt?, some?, least?}
use Rattle.seating.proofs.Loops.{mem?, loopless, low_path}
use Rattle.seating.proofs.Pigeons.{member}
use Rattle.seating.proofs.Sitting.{not_both}

pub candidate? : (L : Layout) (k : Key) (i : ℕ) → Either (Candidate L k i)
candidate? L k i = elim (both? (lt? i (bucket_slots L)) (mem? (i / L.width) (L.choices k)))
    [ inl (l, m) ↦ inl (l, m) | inr n ↦ inr (λ c. n (c.0, c.1)) ]

pub vacant? : (c : Content) → Either (c ≡ vacant)
vacant? vacant = inl refl
vacant? (holding k v) = inr (λ e. not_both _ k v e refl)

-- a path of n + 1 slots
abbrev LongChain : Layout → List Content → ℕ → Key → Type 0
LongChain L xs n k = (is : List ℕ) × CuckooPath L xs k is × (length is ≡ suc n)

module _ (L : Layout) (xs : List Content) where
  on? : (n : ℕ) → ((h : Key) → Either (LongChain L xs n h)) → (c : Content) → Either ((h : Key) × ((v : Value) × (c ≡ holding h v)) × LongChain L xs n h)
  on? n d vacant = inr (λ r. not_both _ r.0 r.1.0 refl r.1.1)
  on? n d (holding h v) = elim (d h) [
    | inl ch ↦ inl (h, (v, refl), ch)
    | inr m ↦ inr (λ r. m (let e : r.0 ≡ h = cc r.1.1 in rw e at r.2))
  ]

  first_last : (k : Key) → (is : List ℕ) → CuckooPath L xs k is → length is ≡ 1 → (i : ℕ) × (i < bucket_slots L) × (Candidate L k i × (at xs i ≡ vacant))
  first_last k [] ch l = elim ch [ ]
  first_last k (i ∷ []) (last m e) l = (i, m.0, (m, e))
  first_last k (i ∷ []) (next m s r) l = elim r [ ]
  first_last k (i ∷ j ∷ is) (next m s r) l = absurd (omega arith)

  first_next : (n : ℕ) (k : Key) → (is : List ℕ) → CuckooPath L xs k is → length is ≡ suc (suc n)
      → (i : ℕ) × (i < bucket_slots L) × (Candidate L k i × ((h : Key) × Sits xs h i × LongChain L xs n h))
  first_next n k [] ch l = elim ch [ ]
  first_next n k (i ∷ []) (last m e) l = absurd (omega arith)
  first_next n k (i ∷ is) (next {h = h} m s r) l = (i, m.0, (m, (h, s, (is, r, omega arith))))

  path? : (n : ℕ) (k : Key) → Either (LongChain L xs n k)
  path? zero k = elim (some? (λ i. Candidate L k i × (at xs i ≡ vacant)) (λ i. both? (candidate? L k i) (vacant? (at xs i))) (bucket_slots L)) [
    | inl (i, l, p) ↦ inl (i ∷ [], last p.0 p.1, omega arith)
    | inr m ↦ inr (λ r. m (first_last k r.0 r.1 r.2))
  ]
  path? (suc n) k = elim (some? (λ i. Candidate L k i × ((h : Key) × Sits xs h i × LongChain L xs n h))
      (λ i. both? (candidate? L k i) (on? n (path? n) (at xs i))) (bucket_slots L)) [
        | inl (i, l, (c, (h, s, (is, ch, e)))) ↦ inl (i ∷ is, next c s ch, omega arith)
        | inr m ↦ inr (λ r. m (first_next n k r.0 r.1 r.2))
      ]

-- no more slots than there are
apart : (is : List ℕ) → Distinct is → (a b : ℕ) → a < length is → b < length is → get_or is a 0 ≡ get_or is b 0 → a ≡ b
apart [] d a b l m e = absurd (omega arith)
apart (i ∷ is) d zero zero l m e = refl
apart (i ∷ is) d zero (suc b) l m e = absurd (d.0 (rw (sym e) at (member is 0 b (omega arith))))
apart (i ∷ is) d (suc a) zero l m e = absurd (d.0 (rw e at (member is 0 a (omega arith))))
apart (i ∷ is) d (suc a) (suc b) l m e = ap suc (apart is d.1 a b (omega arith) (omega arith) e)

few : (n : ℕ) (is : List ℕ) → Distinct is → ((i : ℕ) → Memᴰ i is → i < n) → length is ≤ n
few n is d low = omega (
  arith,
  all_count (length is),
  all_count n,
  pigeon (length is) n (λ _. true) (λ _. true) (λ a j. (a < length is) × (get_or is a 0 ≡ j))
      (λ a l _. (get_or is a 0, low _ (member is 0 a l), refl, (l, refl)))
      (λ a b j l m p q. apart is d a b l m (p.1 ∙ sym q.1)),
)

pub sized : {May : Key → ℕ → Type 0} {xs : List Content} {k : Key} (is : List ℕ) → Path May xs k is → (n : ℕ) × (length is ≡ suc n)
sized [] ch = elim ch [ ]
sized (i ∷ is) ch = (length is, refl)

-- where there is a path there is one with no more slots than the buckets have
bounded : (L : Layout) (xs : List Content) (k : Key) (is : List ℕ) → CuckooPath L xs k is → (n : ℕ) × (n < bucket_slots L) × LongChain L xs n k
bounded L xs k is c =
    let (js, ch, d) = loopless k c in let (n, e) = sized js ch in
    let l = few (bucket_slots L) js d (low_path L ch) in (n, omega arith, (js, ch, e))

pub shortest? : (L : Layout) (xs : List Content) (k : Key) → ((is : List ℕ) × Shortest L xs k is) ⊎ Pathless L xs k
shortest? L xs k = elim (least? (λ n. LongChain L xs n k) (λ n. path? L xs n k) (bucket_slots L)) [
  | inl (n, (is, ch, e), least) ↦ inl (is, record { path = ch; least = λ js c. (let (m, f) = sized js c in let l = least m (js, c, f) in omega arith) })
  | inr none ↦ inr (λ is c. (let (n, l, r) = bounded L xs k is c in none n l r))
]

-- a path of n + 1 slots from the key in slot t of the stash
abbrev Out : Layout → List Content → ℕ → ℕ → Type 0
Out L xs n t = Stash L t × ((h : Key) × Sits xs h t × LongChain L xs n h)

pub stash? : (L : Layout) (t : ℕ) → Either (Stash L t)
stash? L t = both? (le? (bucket_slots L) t) (lt? t (slots L))

pub nearest? : (L : Layout) (xs : List Content) → ((t : ℕ) × ((h : Key) × ((w : Value) × ((is : List ℕ) × Nearest L xs t h w is)))) ⊎ Settled L xs
nearest? L xs = elim (least? (λ n. (t : ℕ) × (t < slots L) × Out L xs n t)
    (λ n. some? (Out L xs n) (λ t. both? (stash? L t) (on? L xs n (path? L xs n) (at xs t))) (slots L)) (bucket_slots L)) [
      | inl (n, (t, l, (st, (h, (w, e), (is, ch, len)))), least) ↦ inl (
        t,
        (
          h,
          (
            w,
            (
              is,
              record {
                stash = st;
                here = e;
                path = ch;
                least = λ g s js ss si c. (let (m, f) = sized js c in let q = least m (s, ss.1, (ss, (g, si, (js, c, f)))) in omega arith);
              },
            ),
          ),
        ),
      )
      | inr none ↦ inr (λ h t st s is c. (let (n, l, r) = bounded L xs h is c in none n l (t, st.1, (st, (h, s, r)))))
    ]
