-- Looks at some slots and then at others.
use Rattle.std.proofs.Common.{◌≡◌, ℕ, ◌+◌, ◌<◌, ◌≤◌, true, false, List, [], ◌∷◌, ◌++◌, length, get_or, take, drop, is_some, Some, None, Option, sym, refl, ap, ◌∙◌, inl, inr, append-nil, arith, take-append-drop, MatchOption}
use mathlib.Core.List.Memᴰ
use mathlib.Core.List.{Memᴰ}
use Rattle.std.specs.List.{range_with_len, flat_map}
use Rattle.std.proofs.lemmas.List.{take_more}
use Rattle.std.proofs.lemmas.List.FromFn.{length-range_with_len}
use Rattle.std.proofs.lemmas.Grind.{flat_map-append}
use Rattle.seating.specs.Layouts.{Key, Value, Content}
use Rattle.seating.specs.Lookups.{looked, look_in}
use Rattle.seating.specs.Slots.{at, value_at}
use Rattle.seating.proofs.Looking.{in_front, in_back, looks_few}
use Rattle.seating.proofs.Values.{has_or_not}
use Rattle.table.specs.Looks.{Looks}
use Rattle.table.specs.declared.looks.Hit.{Hit}
use Rattle.table.proofs.Ranges.{one_more, take_range}
use Rattle.table.specs.declared.Looked.{Looked}

look_through : (xs : List Content) (k : Key) (is js : List ℕ) → (look_in xs k is).0 ≡ None
    → ((look_in xs k (is ++ js)).0 ≡ (look_in xs k js).0) × ((look_in xs k (is ++ js)).1 ≡ (look_in xs k is).1 + (look_in xs k js).1)
look_through xs k [] js e = (refl, omega arith)
look_through xs k (i ∷ is) js e = go (λ e. look_through xs k is js e) (value_at k (at xs i)) e
  where
    go : ((look_in xs k is).0 ≡ None → ((look_in xs k (is ++ js)).0 ≡ (look_in xs k js).0) × ((look_in xs k (is ++ js)).1 ≡ (look_in xs k is).1 + (look_in xs k js).1))
        → (o : Option Value) → (looked o (look_in xs k is)).0 ≡ None
        → ((looked o (look_in xs k (is ++ js))).0 ≡ (look_in xs k js).0) × ((looked o (look_in xs k (is ++ js))).1 ≡ (looked o (look_in xs k is)).1 + (look_in xs k js).1)
    go ih (Some v) e = absurd (let z : ◌≡◌ {A = ℕ} 0 1 = cc in omega arith)
    go ih None e = let r = ih e in (r.0, omega (arith, r.1))

look_stops : (xs : List Content) (k : Key) (is js : List ℕ) (v : Value) → (look_in xs k is).0 ≡ Some v → look_in xs k (is ++ js) ≡ look_in xs k is
look_stops xs k [] js v e = absurd (let z : ◌≡◌ {A = ℕ} 0 1 = cc in omega arith)
look_stops xs k (i ∷ is) js v e = go (λ e. look_stops xs k is js v e) (value_at k (at xs i)) e
  where
    go : ((look_in xs k is).0 ≡ Some v → look_in xs k (is ++ js) ≡ look_in xs k is) → (o : Option Value) → (looked o (look_in xs k is)).0 ≡ Some v
        → looked o (look_in xs k (is ++ js)) ≡ looked o (look_in xs k is)
    go ih (Some u) e = refl
    go ih None e = rw (ih e) refl

cases_as : {A P P' : Type 0} {Q Q' : A → Type 0} (o : Option A) → (P → P') → ((x : A) → Q x → Q' x) → MatchOption o P Q → MatchOption o P' Q'
cases_as None f g c = f c
cases_as (Some x) f g c = g x c

-- nothing looked at, and nothing found
abbrev pub unfound : ℕ → Looked Hit
unfound n = record { found = None; looks = n }

-- some slots in vain, then others
pub looks_then : (xs : List Content) (k : Key) (is js : List ℕ) (n : ℕ) (t : Looked Hit) → Looks xs k is (unfound n) → Looks xs k js t
    → Looks xs k (is ++ js) (record { found = t.found; looks = n + t.looks })
looks_then xs k is js n t a b =
    let r = look_through xs k is js a.value in record {
      value = r.0 ∙ b.value;
      count = omega (arith, r.1, a.count, b.count);
      slot = cases_as t.found
          (λ f i m s. elim (Memᴰ.append_cases is m) [ inl q ↦ a.slot i q s | inr q ↦ f i q s ])
          (λ h p. (in_back is js p.0, p.1)) b.slot;
    }

-- what was found is found whatever comes behind
pub looks_stop : (xs : List Content) (k : Key) (is js : List ℕ) (t : Looked Hit) → is_some t.found ≡ true → Looks xs k is t → Looks xs k (is ++ js) t
looks_stop xs k is js t = go t.found t.looks
  where
    go : (o : Option Hit) (n : ℕ) → is_some o ≡ true → Looks xs k is (record { found = o; looks = n }) → Looks xs k (is ++ js) (record { found = o; looks = n })
    go None n s a = cc
    go (Some h) n s a =
        let e = look_stops xs k is js h.value a.value in record {
          value = ap (λ (p : Option Value × ℕ). p.0) e ∙ a.value;
          count = ap (λ (p : Option Value × ℕ). p.1) e ∙ a.count;
          slot = (in_front is js a.slot.0, a.slot.1);
        }

pub none_if : {A : Type 0} (o : Option A) → is_some o ≡ false → o ≡ None
none_if None e = refl
none_if (Some x) e = cc

-- a search that found nothing
pub looks_unfound : (xs : List Content) (k : Key) (is : List ℕ) (t : Looked Hit) → is_some t.found ≡ false → Looks xs k is t → Looks xs k is (unfound t.looks)
looks_unfound xs k is t s l = rw (none_if t.found s) at l

-- one slot
pub look_miss : (xs : List Content) (k : Key) (i : ℕ) → None ≡ value_at k (at xs i) → Looks xs k (i ∷ []) (unfound 1)
look_miss xs k i e = record {
  value = rw (sym e) refl;
  count = rw (sym e) refl;
  slot = λ j m s. elim (has_or_not k (at xs i)) [
    | inl (v, p, f) ↦ absurd (let z : ◌≡◌ {A = ℕ} 0 1 = cc (e, f) in omega arith)
    | inr (n, f) ↦ n s.0 (rw (Memᴰ.eq_of_singleton m) at s.1)
  ];
}

pub look_hit : (xs : List Content) (k : Key) (i v : ℕ) → Some v ≡ value_at k (at xs i)
    → Looks xs k (i ∷ []) (record { found = Some (record { slot = i; value = v }); looks = 1 })
look_hit xs k i v e = record {
  value = rw (sym e) refl;
  count = rw (sym e) refl;
  slot = (
    Memᴰ.head refl,
    elim (has_or_not k (at xs i)) [
      | inl (u, p, f) ↦ (let z : u ≡ v = cc (e, f) in rw z at p)
      | inr (n, f) ↦ absurd (let z : ◌≡◌ {A = ℕ} 0 1 = cc (e, f) in omega arith)
    ],
  );
}

module _ (xs : List Content) (k : Key) (a j : ℕ) where
  pub range_more : None ≡ value_at k (at xs (a + j)) → Looks xs k (range_with_len a j) (unfound j) → Looks xs k (range_with_len a (j + 1)) (unfound (j + 1))
  range_more e l = rw (one_more a j) (looks_then xs k (range_with_len a j) ((a + j) ∷ []) j (unfound 1) l (look_miss xs k (a + j) e))

  pub range_hit : (n v : ℕ) → j < n → Some v ≡ value_at k (at xs (a + j)) → Looks xs k (range_with_len a j) (unfound j)
      → Looks xs k (range_with_len a n) (record { found = Some (record { slot = a + j; value = v }); looks = j + 1 })
  range_hit n v l e s =
      let here : Looks xs k (range_with_len a (j + 1)) (record { found = Some (record { slot = a + j; value = v }); looks = j + 1 }) =
      rw (one_more a j) (looks_then xs k (range_with_len a j) ((a + j) ∷ []) j _ s (look_hit xs k (a + j) v e)) in
      let first : take (j + 1) (range_with_len a n) ≡ range_with_len a (j + 1) = take_range a n (j + 1) (omega arith) in
      rw (take-append-drop (j + 1) (range_with_len a n)) at (looks_stop xs k (take (j + 1) (range_with_len a n)) (drop (j + 1) (range_with_len a n)) _ refl (rw (← first) at here))

-- one bucket more of the chosen ones, which are read as cs
module _ (xs : List Content) (k : Key) (f : ℕ → List ℕ) (bs cs : List ℕ) (is : cs ≡ bs) (j n : ℕ) (l : j < length cs) (before : Looks xs k (flat_map f (take j bs)) (unfound n)) where
  one_bucket : flat_map f (take j bs) ++ f (get_or cs j 0) ≡ flat_map f (take (j + 1) bs)
  one_bucket = rw (← is) (sym (ap (flat_map f) (take_more cs j 0 l) ∙ flat_map-append f (take j cs) (get_or cs j 0 ∷ []) ∙ ap (λ (t : List ℕ). flat_map f (take j cs) ++ t) (append-nil (f (get_or cs j 0)))))

  pub bucket_more : (t : Looked Hit) → Looks xs k (f (get_or cs j 0)) t → Looks xs k (flat_map f (take (j + 1) bs)) (record { found = t.found; looks = n + t.looks })
  bucket_more t s = rw one_bucket at (looks_then xs k (flat_map f (take j bs)) (f (get_or cs j 0)) n t before s)

  pub bucket_hit : (t : Looked Hit) → is_some t.found ≡ true → Looks xs k (f (get_or cs j 0)) t → Looks xs k (flat_map f bs) (record { found = t.found; looks = n + t.looks })
  bucket_hit t e s =
      let here = bucket_more t s in
      let whole : flat_map f (take (j + 1) bs) ++ flat_map f (drop (j + 1) bs) ≡ flat_map f bs =
      sym (flat_map-append f (take (j + 1) bs) (drop (j + 1) bs)) ∙ ap (flat_map f) (take-append-drop (j + 1) bs) in
      rw whole at (looks_stop xs k (flat_map f (take (j + 1) bs)) (flat_map f (drop (j + 1) bs)) _ e here)

-- no more looks at a range than it has slots
pub range_few : {xs : List Content} {k : Key} (a n : ℕ) (t : Looked Hit) → Looks xs k (range_with_len a n) t → t.looks ≤ n
range_few {xs = xs} {k = k} a n t l = omega (arith, l.count, looks_few xs k (range_with_len a n), length-range_with_len a n)
