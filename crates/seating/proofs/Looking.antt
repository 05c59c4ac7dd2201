-- Looking a key up goes through every slot that it may take.
use Rattle.std.proofs.Common.{◌≡◌, ℕ, zero, suc, ◌+◌, ◌*◌, ◌/◌, ◌<◌, ◌≤◌, ◌⊎◌, List, [], ◌∷◌, ◌++◌, length, Some, None, sym, refl, ap, ◌∙◌, inl, inr, mod-lt, add-mul, one-mul, mul-zero, div-add-mod', arith, length-append}
use mathlib.Core.List.Memᴰ
use mathlib.Core.List.{Memᴰ}
use Rattle.std.specs.List.{range_with_len, flat_map}
use Rattle.std.proofs.lemmas.List.FromFn.{length-range_with_len}
use Rattle.std.proofs.lemmas.Bool.{cases_eq}
use Rattle.seating.specs.Layouts.{Key, Value, Content, Layout, bucket_slots, Allowed}
use Rattle.seating.specs.Lookups.{bucket_list, look_order, look_in, lookup}
use Rattle.seating.specs.Maps.{GetMapLaw}
use Rattle.seating.specs.Slots.{at, Sits, Stored, value_of}
use Rattle.seating.proofs.Values.{has_or_not, stored_value, absent_value}

pub in_counting : (a n i : ℕ) → a ≤ i → i < a + n → Memᴰ i (range_with_len a n)
in_counting a zero i l u = absurd (omega arith)
in_counting a (suc n) i l u = elim (cases_eq i a)
    [ inl e ↦ Memᴰ.head e | inr m ↦ Memᴰ.tail (in_counting (a + 1) n i (omega arith) (omega arith)) ]

pub in_front : {i : ℕ} (xs ys : List ℕ) → Memᴰ i xs → Memᴰ i (xs ++ ys)
in_front [] ys m = absurd (Memᴰ.not-nil m)
in_front (x ∷ xs) ys m = elim (Memᴰ.cases_cons m) [ inl e ↦ Memᴰ.head e | inr q ↦ Memᴰ.tail (in_front xs ys q) ]

pub in_back : {i : ℕ} (xs ys : List ℕ) → Memᴰ i ys → Memᴰ i (xs ++ ys)
in_back [] ys m = m
in_back (x ∷ xs) ys m = Memᴰ.tail (in_back xs ys m)

in_joined : {i : ℕ} (f : ℕ → List ℕ) (bs : List ℕ) (b : ℕ) → Memᴰ b bs → Memᴰ i (f b) → Memᴰ i (flat_map f bs)
in_joined f [] b m q = absurd (Memᴰ.not-nil m)
in_joined f (c ∷ bs) b m q = elim (Memᴰ.cases_cons m)
    [ inl e ↦ in_front (f c) (flat_map f bs) (rw e at q) | inr n ↦ in_back (f c) (flat_map f bs) (in_joined f bs b n q) ]

-- a bucket slot lies in its bucket
in_bucket : (L : Layout) (i : ℕ) → i < bucket_slots L → Memᴰ i (bucket_list L (i / L.width))
in_bucket L i l = in_counting _ _ i (omega (arith, div-add-mod' i L.width)) (omega (arith, div-add-mod' i L.width, mod-lt i {m = L.width} wide))
  where
    wide : 0 < L.width
    wide = elim (cases_eq L.width 0)
        [ inl e ↦ absurd (omega (arith, ap (λ w. L.buckets * w) e, mul-zero L.buckets)) | inr n ↦ omega arith ]

pub order_has : (L : Layout) (k : Key) (i : ℕ) → Allowed L k i → Memᴰ i (look_order L k)
order_has L k i (inl c) = in_front _ _ (in_joined (bucket_list L) (L.choices k) (i / L.width) c.1 (in_bucket L i c.0))
order_has L k i (inr s) = in_back (flat_map (bucket_list L) (L.choices k)) _ (in_counting (bucket_slots L) L.stash i s.0 s.1)

-- a lookup finds a slot of its list that has the key, or there is none
pub looks : (xs : List Content) (k : Key) (is : List ℕ)
    → ((v : Value) × Stored xs k v × ((look_in xs k is).0 ≡ Some v)) ⊎ (((i : ℕ) → Memᴰ i is → Sits xs k i → ⊥) × ((look_in xs k is).0 ≡ None))
looks xs k [] = inr (λ i m. absurd (Memᴰ.not-nil m), refl)
looks xs k (i ∷ is) = elim (has_or_not k (at xs i)) [
  | inl (v, e, f) ↦ inl (v, (i, e), rw f refl)
  | inr (n, f) ↦ elim (looks xs k is) [
    | inl (v, s, e) ↦ inl (v, s, rw f e)
    | inr (m, e) ↦ inr (
      λ j q s. elim (Memᴰ.cases_cons q)
          [ inl z ↦ n s.0 (rw z at s.1) | inr q' ↦ m j q' s ],
      rw f e,
    )
  ]
]

pub looks_few : (xs : List Content) (k : Key) (is : List ℕ) → (look_in xs k is).1 ≤ length is
looks_few xs k [] = omega arith
looks_few xs k (i ∷ is) = elim (has_or_not k (at xs i))
    [ inl (v, e, f) ↦ rw f (omega arith) | inr (n, f) ↦ rw f (omega (arith, looks_few xs k is)) ]

length_buckets : (L : Layout) (bs : List ℕ) → length (flat_map (bucket_list L) bs) ≡ length bs * L.width
length_buckets L [] = omega arith
length_buckets L (b ∷ bs) =
    rw (length-append (bucket_list L b) (flat_map (bucket_list L) bs), length-range_with_len (b * L.width) L.width, length_buckets L bs)
    (omega (arith, add-mul 1 (length bs) L.width, one-mul L.width))

length_order : (L : Layout) (k : Key) → length (look_order L k) ≡ length (L.choices k) * L.width + L.stash
length_order L k =
    rw (length-append (flat_map (bucket_list L) (L.choices k)) (range_with_len (bucket_slots L) L.stash), length_buckets L (L.choices k), length-range_with_len (bucket_slots L) L.stash) refl

pub get_map_law_lem : GetMapLaw
get_map_law_lem L xs k law = (value, omega (arith, looks_few xs k (look_order L k), length_order L k))
  where
    value : (lookup L xs k).0 ≡ value_of xs k
    value = elim (looks xs k (look_order L k)) [
      | inl (v, s, e) ↦ e ∙ sym (stored_value L xs law k v s)
      | inr (n, e) ↦ e ∙ sym (absent_value xs k (λ h. n h.0 (order_has L k h.0 (law.placed k h.0 h.1)) h.1))
    ]
