-- Keys in listed slots are no more than the slots.
use Rattle.std.proofs.Common.{◌≡◌, ℕ, zero, suc, ◌<◌, true, List, [], ◌∷◌, length, get_or, sym, refl, ◌∙◌, arith}
use mathlib.Core.List.{Memᴰ}
use Rattle.seating.specs.Theorems.{Pigeonhole}
use Rattle.seating.proofs.Counts.{pigeon, all_count}

pub place : {a : ℕ} {cs : List ℕ} → Memᴰ a cs → (j : ℕ) × (j < length cs) × (a ≡ get_or cs j 0)
place (Memᴰ.head e) = (0, omega arith, e)
place (Memᴰ.tail m) = let r = place m in (suc r.0, omega arith, r.2)

pub member : {A : Type 0} (xs : List A) (d : A) (i : ℕ) → i < length xs → Memᴰ (get_or xs i d) xs
member [] d i l = absurd (omega arith)
member (x ∷ xs) d zero l = Memᴰ.head refl
member (x ∷ xs) d (suc i) l = Memᴰ.tail (member xs d i (omega arith))

pub pigeonhole : Pigeonhole
pigeonhole L ks cs f seats apart into =
    omega (
      arith,
      all_count (length ks),
      all_count (length cs),
      pigeon (length ks) (length cs) (λ _. true) (λ _. true) (λ i j. (i < length ks) × (f (get_or ks i []) ≡ get_or cs j 0))
          (λ i l _. let r = place (into _ (member ks [] i l)) in (r.0, r.1, refl, (l, r.2)))
          (λ i i' j l l' e e'.
          apart i i' l l' (seats.apart _ _ (member ks [] i l) (member ks [] i' l') (e.1 ∙ sym e'.1))),
    )
