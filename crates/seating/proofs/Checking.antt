-- Tests that decide, by computing, that there is no path and that an assignment is one.
use Rattle.std.proofs.Common.{◌≡◌, ℕ, ◌/◌, ◌<◌, Bool, true, false, not, ◌&&◌, ◌||◌, eqb, ltb, List, [], ◌∷◌, inl, inr, arith}
use mathlib.Core.List.Memᴰ
use mathlib.Core.List.{Memᴰ}
use Rattle.std.specs.List.{range_with_len}
use Rattle.std.specs.Str.{bytes_eq}
use Rattle.std.proofs.lemmas.Slice.Eq.{bytes_eq-Decides}
use Rattle.std.proofs.lemmas.Bool.{and_parts, or_cases, both_ways, not-true, eq-eqb, ltb-true, false≢true}
use Rattle.seating.specs.Assignments.{Seats}
use Rattle.seating.specs.Blocking.{some_of, allows}
use Rattle.seating.specs.Layouts.{Key, Content, Layout, bucket_slots, slots, Candidate}
use Rattle.seating.specs.Layouts.Content.{vacant, holding}
use Rattle.seating.specs.Paths.{CuckooPath, Pathless}
use Rattle.seating.specs.Paths.Path.{last, next}
use Rattle.seating.specs.Slots.{at}
use Rattle.seating.proofs.Blockings.{allows_may}
use Rattle.seating.proofs.Listing.{in_among}
use Rattle.seating.proofs.Looking.{in_counting}

-- P holds of each element
abbrev each_of : {A : Type 0} → (A → Bool) → List A → Bool
each_of P [] = true
each_of P (x ∷ xs) = P x && each_of P xs

each_in : {A : Type 0} (P : A → Bool) (xs : List A) → each_of P xs ≡ true → (x : A) → Memᴰ x xs → P x ≡ true
each_in P [] e x m = absurd (Memᴰ.not-nil m)
each_in P (y ∷ xs) e x m = let p = and_parts (P y) _ e in
    elim (Memᴰ.cases_cons m) [ inl q ↦ rw q p.0 | inr q ↦ each_in P xs p.1 x q ]

-- the candidates of k lie in X
abbrev shut_in : Layout → (ℕ → Bool) → Key → Bool
shut_in L X k = each_of (λ i. not (some_of (eqb (i / L.width)) (L.choices k)) || X i) (range_with_len 0 (bucket_slots L))

abbrev walled_at : Layout → (ℕ → Bool) → Content → Bool
walled_at L X vacant = false
walled_at L X (holding k v) = shut_in L X k

-- X is full, and the keys in it cannot leave it
abbrev pub walls : Layout → List Content → (ℕ → Bool) → Key → Bool
walls L xs X k = shut_in L X k && each_of (λ i. not (X i) || walled_at L X (at xs i)) (range_with_len 0 (bucket_slots L))

module _ (L : Layout) (xs : List Content) (X : ℕ → Bool) where
  shut : (k : Key) → shut_in L X k ≡ true → (i : ℕ) → Candidate L k i → X i ≡ true
  shut k e i c = elim (or_cases (not (some_of (eqb (i / L.width)) (L.choices k))) _
      (each_in (λ i. not (some_of (eqb (i / L.width)) (L.choices k)) || X i) (range_with_len 0 (bucket_slots L)) e i (in_counting 0 (bucket_slots L) i (omega arith) (omega (arith, c.0)))))
      [ inl n ↦ absurd (both_ways _ (not-true _ n) (in_among _ _ c.1)) | inr x ↦ x ]

  module _ (e : each_of (λ i. not (X i) || walled_at L X (at xs i)) (range_with_len 0 (bucket_slots L)) ≡ true) where
    walled : (i : ℕ) → i < bucket_slots L → X i ≡ true → walled_at L X (at xs i) ≡ true
    walled i l x = elim (or_cases (not (X i)) _ (each_in (λ i. not (X i) || walled_at L X (at xs i)) (range_with_len 0 (bucket_slots L)) e i (in_counting 0 (bucket_slots L) i (omega arith) (omega arith))))
        [ inl n ↦ absurd (both_ways _ (not-true _ n) x) | inr w ↦ w ]

    no_path : {k : Key} {is : List ℕ} → shut_in L X k ≡ true → CuckooPath L xs k is → ⊥
    no_path {k} s (last {i = i} c v) = false≢true (rw v at (walled i c.0 (shut k s i c)))
    no_path {k} s (next {h = h} {i = i} c t r) = no_path (rw t.1 at (walled i c.0 (shut k s i c))) r

pub pathless : (L : Layout) (xs : List Content) (X : ℕ → Bool) (k : Key) → walls L xs X k ≡ true → Pathless L xs k
pathless L xs X k e is p = let w = and_parts (shut_in L X k) _ e in no_path L xs X w.1 w.0 p

-- f assigns the listed keys
abbrev pub assigns : Layout → List Key → (Key → ℕ) → Bool
assigns L ks f =
    each_of (λ k. ltb (f k) (slots L) && allows L k (f k)) ks
    && each_of (λ j. each_of (λ k. not (eqb (f j) (f k)) || bytes_eq j k) ks) ks

pub seats : (L : Layout) (ks : List Key) (f : Key → ℕ) → assigns L ks f ≡ true → Seats L (λ k. Memᴰ k ks) f
seats L ks f e = record {
  allowed = λ k m. (let w = and_parts (ltb (f k) (slots L)) _ (each_in (λ k. ltb (f k) (slots L) && allows L k (f k)) ks p.0 k m) in
      allows_may L k (f k) (ltb-true _ _ w.0) w.1);
  apart = λ j k a b q. elim (or_cases (not (eqb (f j) (f k))) _
      (each_in (λ k. not (eqb (f j) (f k)) || bytes_eq j k) ks (each_in (λ j. each_of (λ k. not (eqb (f j) (f k)) || bytes_eq j k) ks) ks p.1 j a) k b))
      [ inl n ↦ absurd (both_ways _ (not-true _ n) (eq-eqb _ _ q)) | inr s ↦ (bytes_eq-Decides j k).0 s ];
}
  where
    p : (each_of (λ k. ltb (f k) (slots L) && allows L k (f k)) ks ≡ true) × (each_of (λ j. each_of (λ k. not (eqb (f j) (f k)) || bytes_eq j k) ks) ks ≡ true)
    p = and_parts (each_of (λ k. ltb (f k) (slots L) && allows L k (f k)) ks) _ e
