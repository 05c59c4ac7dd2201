-- The keys that moved, counted: those on the path that was carried out.
use Rattle.std.proofs.Common.{◌≡◌, ℕ, zero, suc, ◌+◌, ◌<◌, ◌≤◌, Bool, true, false, not, ◌&&◌, eqb, ltb, ◌≢◌, ◌⊎◌, List, [], ◌∷◌, length, is_some, sym, refl, ap, ◌∙◌, inl, inr, arith}
use mathlib.Core.List.Memᴰ
use mathlib.Core.List.{Memᴰ}
use Rattle.std.proofs.lemmas.List.{get_or-set_same, get_or-set_other, length-set}
use Rattle.std.proofs.lemmas.Bool.{and_parts, and_from, or_cases, or_right, not_from_false, not-true, ne_eqb, eq-eqb, lt-ltb, both_ways, false≢true}
use Rattle.seating.specs.Blocking.{some_of}
use Rattle.seating.specs.Layouts.{Key, Content, Layout, slots}
use Rattle.seating.specs.Layouts.Content.{vacant}
use Rattle.seating.specs.Paths.{Path, CuckooPath, Distinct, carry}
use Rattle.seating.specs.Paths.Path.{last, next}
use Rattle.seating.specs.Slots.{at, Sits, Held, value_of, slot_of, moved}
use Rattle.seating.specs.Tables.{Lawful}
use Rattle.seating.proofs.Carrying.{carry_off}
use Rattle.seating.proofs.Counts.{bit, count, without, count_without, count_same}
use Rattle.seating.proofs.Least.{passing, count_keys}
use Rattle.seating.proofs.Listing.{agree, among_in, in_among}
use Rattle.seating.proofs.Loops.{mem?, low_path}
use Rattle.seating.proofs.Sitting.{not_both, content, sits_low}
use Rattle.seating.proofs.Values.{slot_is, stored_value, absent_value}

count_none : (n : ℕ) → count (λ i. false) n ≡ 0
count_none zero = refl
count_none (suc n) = omega (arith, count_none n)

-- listed numbers with none twice, all below n, are as many as the list is long
count_listed : (cs : List ℕ) (n : ℕ) → Distinct cs → ((i : ℕ) → Memᴰ i cs → i < n) → count (λ i. some_of (eqb i) cs) n ≡ length cs
count_listed [] n d low = count_none n
count_listed (c ∷ cs) n d low =
    let here : bit (ltb c n && some_of (eqb c) (c ∷ cs)) ≡ 1 =
    ap bit (and_from _ _ (lt-ltb c n (low c (Memᴰ.head refl))) (in_among (c ∷ cs) c (Memᴰ.head refl))) in
    omega (
      arith,
      count_without (λ i. some_of (eqb i) (c ∷ cs)) c n,
      here,
      count_same (without (λ i. some_of (eqb i) (c ∷ cs)) c) (λ i. some_of (eqb i) cs) n (λ i l. agree _ _ (into i) (from i)),
      count_listed cs n d.1 (λ i m. low i (Memᴰ.tail m)),
    )
  where
    into : (i : ℕ) → without (λ i. some_of (eqb i) (c ∷ cs)) c i ≡ true → some_of (eqb i) cs ≡ true
    into i e = let p = and_parts (some_of (eqb i) (c ∷ cs)) _ e in
        elim (or_cases (eqb i c) _ p.0) [ inl q ↦ absurd (both_ways _ (not-true _ p.1) q) | inr q ↦ q ]

    from : (i : ℕ) → some_of (eqb i) cs ≡ true → without (λ i. some_of (eqb i) (c ∷ cs)) c i ≡ true
    from i e = and_from _ _ (or_right (eqb i c) _ e) (not_from_false _ (ne_eqb i c (λ q. d.0 (rw q at (among_in cs i e)))))

-- if the keys in the slots cs sit elsewhere after, and all other keys stay or are gone, as many keys moved
pub moved_count : (L : Layout) (xs ys : List Content) (cs : List ℕ) → Lawful L xs → Lawful L ys → Distinct cs
    → ((i : ℕ) → Memᴰ i cs → (h : Key) × Sits xs h i × ((j : ℕ) × (j ≢ i) × Sits ys h j))
    → ((i : ℕ) → (Memᴰ i cs → ⊥) → (h : Key) → Sits xs h i → Sits ys h i ⊎ (Held ys h → ⊥))
    → moved xs ys ≡ length cs
moved_count L xs ys cs law law' d on off =
    count_keys changed xs
    ∙ count_same (λ i. passing changed (at xs i)) (λ i. some_of (eqb i) cs) (length xs) (λ i l. agree _ _ (into i) (from i))
    ∙ count_listed cs (length xs) d (λ i m. let (h, s, _) = on i m in sits_low L xs law h i s)
  where
    changed : Key → Bool
    changed k = is_some (value_of ys k) && not (eqb (slot_of xs k) (slot_of ys k))

    stays : (h : Key) (i : ℕ) → Sits xs h i → Sits ys h i ⊎ (Held ys h → ⊥) → changed h ≡ true → ⊥
    stays h i s (inl t) e =
        let p = and_parts (is_some (value_of ys h)) _ e in
        both_ways _ (not-true _ p.1) (eq-eqb _ _ (slot_is L xs law h i s ∙ sym (slot_is L ys law' h i t)))
    stays h i s (inr gone) e =
        let p = and_parts (is_some (value_of ys h)) _ e in
        false≢true (ap is_some (sym (absent_value ys h gone)) ∙ p.0)

    into : (i : ℕ) → passing changed (at xs i) ≡ true → some_of (eqb i) cs ≡ true
    into i e = elim (content (at xs i)) [
      | inl v ↦ absurd (false≢true (rw v at e))
      | inr (h, (w, q)) ↦ elim (mem? i cs) [
        | inl m ↦ in_among cs i m
        | inr n ↦ absurd (stays h i (w, q) (off i n h (w, q)) (rw q at e))
      ]
    ]

    from : (i : ℕ) → some_of (eqb i) cs ≡ true → passing changed (at xs i) ≡ true
    from i e = let (h, s, (j, ne, t)) = on i (among_in cs i e) in
        rw s.1 (and_from _ _ (ap is_some (stored_value L ys law' h t.0 (j, t.1)))
        (not_from_false _ (ne_eqb _ _ (λ q. ne (sym (slot_is L ys law' h j t) ∙ sym q ∙ slot_is L xs law h i s)))))

-- all but the last
abbrev pub initial : List ℕ → List ℕ
initial [] = []
initial (i ∷ []) = []
initial (i ∷ j ∷ is) = i ∷ initial (j ∷ is)

pub initial_in : (is : List ℕ) (a : ℕ) → Memᴰ a (initial is) → Memᴰ a is
initial_in [] a m = m
initial_in (i ∷ []) a m = absurd (Memᴰ.not-nil m)
initial_in (i ∷ j ∷ is) a m = elim (Memᴰ.cases_cons m) [ inl e ↦ Memᴰ.head e | inr q ↦ Memᴰ.tail (initial_in (j ∷ is) a q) ]

pub initial_distinct : (is : List ℕ) → Distinct is → Distinct (initial is)
initial_distinct [] d = tt
initial_distinct (i ∷ []) d = tt
initial_distinct (i ∷ j ∷ is) d = ((λ m. d.0 (initial_in (j ∷ is) i m)), initial_distinct (j ∷ is) d.1)

pub length_initial : (i : ℕ) (is : List ℕ) → length (initial (i ∷ is)) + 1 ≡ length (i ∷ is)
length_initial i [] = refl
length_initial i (j ∷ is) = omega (arith, length_initial j is)

length_carry : (xs : List Content) (is : List ℕ) (c : Content) → length (carry xs is c) ≡ length xs
length_carry xs [] c = refl
length_carry xs (i ∷ is) c = length-set _ i c ∙ length_carry xs is (at xs i)

pub carry_first : (xs : List Content) (i : ℕ) (is : List ℕ) (c : Content) → i < length xs → at (carry xs (i ∷ is) c) i ≡ c
carry_first xs i is c l = get_or-set_same (carry xs is (at xs i)) i c vacant (omega (arith, length_carry xs is (at xs i)))

-- a slot of a path before its last holds a key, which sits in another slot of the path when it was carried out
pub path_moves : (L : Layout) (xs : List Content) → slots L ≤ length xs → (is : List ℕ) {k : Key} (c : Content) → CuckooPath L xs k is → Distinct is
    → (a : ℕ) → Memᴰ a (initial is)
    → ((h : Key) × Sits xs h a) × ((j : ℕ) × Memᴰ j is × (j ≢ a) × (at (carry xs is c) j ≡ at xs a))
path_moves L xs low [] c p d a m = absurd (Memᴰ.not-nil m)
path_moves L xs low (i ∷ []) c p d a m = absurd (Memᴰ.not-nil m)
path_moves L xs low (i ∷ j ∷ is) c (next {h = h} may s r) d a m = elim (Memᴰ.cases_cons m) [
  | inl e ↦ (let ne : j ≢ i = λ q. d.0 (Memᴰ.head (sym q)) in (
    (h, rw e s),
    (
      j,
      Memᴰ.tail (Memᴰ.head refl),
      rw e ne,
      rw e (get_or-set_other _ i j c vacant ne ∙ carry_first xs j is (at xs i) (omega (arith, low, low_path L r j (Memᴰ.head refl)))),
    ),
  ))
  | inr q ↦ (let (o, (b, mb, nb, e)) = path_moves L xs low (j ∷ is) (at xs i) r d.1 a q in
      (o, (b, Memᴰ.tail mb, nb, get_or-set_other _ i b c vacant (λ z. d.0 (rw z at mb)) ∙ e)))
]

-- a slot of a path is the last, which is vacant, or one before it
path_inner : {May : Key → ℕ → Type 0} (xs : List Content) (is : List ℕ) {k : Key} → Path May xs k is
    → (a : ℕ) → Memᴰ a is → Memᴰ a (initial is) ⊎ (at xs a ≡ vacant)
path_inner xs [] p a m = absurd (Memᴰ.not-nil m)
path_inner xs (i ∷ []) (last may e) a m = inr (rw (Memᴰ.eq_of_singleton m) e)
path_inner xs (i ∷ []) (next may s r) a m = elim r [ ]
path_inner xs (i ∷ j ∷ is) (next may s r) a m = elim (Memᴰ.cases_cons m) [
  | inl e ↦ inl (Memᴰ.head e)
  | inr q ↦ elim (path_inner xs (j ∷ is) r a q) [ inl z ↦ inl (Memᴰ.tail z) | inr z ↦ inr z ]
]

-- a key that is not on the inner part of a path stays
pub off_path : {May : Key → ℕ → Type 0} (xs : List Content) (is : List ℕ) {k : Key} (c : Content) → Path May xs k is
    → (a : ℕ) → (Memᴰ a (initial is) → ⊥) → (h : Key) → Sits xs h a → Sits (carry xs is c) h a
off_path xs is c p a n h s = (
  s.0,
  carry_off xs is c a (λ m. elim (path_inner xs is p a m)
      [ inl q ↦ n q | inr e ↦ not_both _ h s.0 e s.1 ]) ∙ s.1,
)
