-- Texts cut at marks.
use Rattle.std.proofs.Common.{◌≡◌, ◌==◌, ℕ, ◌+◌, ◌^◌, ◌<◌, ◌≤◌, true, false, not, List, [], ◌∷◌, ◌++◌, length, take, drop, Some, decimal, arith, position, refl, nat_lt, add-one, get_or}
use Rattle.std.specs.Char.{is_ascii_digit}
use Rattle.std.specs.List.{list_all, position_or_len}
use Rattle.std.proofs.lemmas.Bool.Decides.{nat_tests}
use Rattle.std.proofs.lemmas.List.{take-append-drop}
use Rattle.std.proofs.lemmas.Grind.{common_steps}
use borrow.Author.Tests.{eqb-true}
use Rattle.std.proofs.lemmas.List.Quantifiers.{position-Some}
use Rattle.std.proofs.lemmas.Option.{option_and_then_some}
use Rattle.std.proofs.Math.Seq.{take-append_seam, drop-append-add, drop-cons}
use Rattle.numerals.specs.Numbers.{number}
use Rattle.numerals.specs.Parts.{split, below, part}
use Rattle.numerals.proofs.Digits.{numbers_read_back_lem, numbers_exact_lem, decimal_digits}

-- the bytes hold no mark
abbrev pub Clear : ℕ → List ℕ → Type 0
Clear mark xs = list_all (λ b. not (b == mark)) xs ≡ true

digits_clear : (mark : ℕ) (xs : List ℕ) → list_all is_ascii_digit xs ≡ true → is_ascii_digit mark ≡ false → Clear mark xs
digits_clear mark [] d m = refl
digits_clear mark (x ∷ xs) d m = grind (arith, nat_tests, digits_clear mark xs)

pub decimal_clear : (mark n : ℕ) → n < 2 ^ 64 → is_ascii_digit mark ≡ false → Clear mark (decimal n)
decimal_clear mark n h m = digits_clear mark (decimal n) (decimal_digits n h) m

-- a mark behind bytes that hold none is the first
first_mark : (mark : ℕ) (xs rest : List ℕ) → Clear mark xs → position_or_len (λ b. b == mark) (xs ++ (mark ∷ rest)) ≡ length xs
first_mark mark [] rest h = grind (arith, nat_tests)
first_mark mark (x ∷ xs) rest h = grind (arith, nat_tests, first_mark mark xs rest)

pub split_back : (mark : ℕ) (xs rest : List ℕ) → Clear mark xs → split mark (xs ++ (mark ∷ rest)) ≡ Some (xs, rest)
split_back mark xs rest h =
    let t : nat_lt (length xs) (length (xs ++ (mark ∷ rest))) ≡ true = grind (arith, nat_tests, common_steps) in
    rw (first_mark mark xs rest h, t, take-append_seam xs (mark ∷ rest), drop-append-add xs (mark ∷ rest) 1) refl

-- the text is what stands before the mark, the mark, and what stands behind it
pub split_exact : (mark : ℕ) (s xs rest : List ℕ) → split mark s ≡ Some (xs, rest) → xs ++ (mark ∷ rest) ≡ s
split_exact mark s xs rest e =
    option_and_then_some _ (position (λ b. b == mark) s) (xs, rest) e (λ i hi f.
    let at = position-Some (λ b. b == mark) s i 0 hi in
    let marked : get_or s i 0 ≡ mark = eqb-true _ _ at.1 in
    let behind : drop i s ≡ mark ∷ drop (i + 1) s = rw (← marked, add-one) (drop-cons s i 0 at.0) in
    let whole : take i s ++ (mark ∷ drop (i + 1) s) ≡ s = rw (← behind) (take-append-drop i s) in
    grind (arith, f, whole))

-- a number that is written is read
pub below_back : (limit n : ℕ) → n < limit → limit ≤ 10 ^ 18 → below limit (decimal n) ≡ Some n
below_back limit n h w = grind (arith, nat_tests, numbers_read_back_lem n (omega arith))

pub part_back : (limit mark n : ℕ) (rest : List ℕ) → n < limit → limit ≤ 10 ^ 18 → is_ascii_digit mark ≡ false → part limit mark (decimal n ++ (mark ∷ rest)) ≡ Some (n, rest)
part_back limit mark n rest h w m =
    rw (split_back mark (decimal n) rest (decimal_clear mark n (omega arith) m), below_back limit n h w) refl

-- a number below the limit is read from its text only
pub below_exact : (limit : ℕ) (s : List ℕ) (n : ℕ) → below limit s ≡ Some n → (n < limit) × (decimal n ≡ s)
below_exact limit s n e = option_and_then_some _ (number s) n e (λ k h f. let own = numbers_exact_lem s k h in grind (arith, nat_tests))

-- and a part from the number's text, the mark, and what stands behind
pub part_exact : (limit mark : ℕ) (s : List ℕ) (n : ℕ) (rest : List ℕ) → part limit mark s ≡ Some (n, rest) → (n < limit) × (decimal n ++ (mark ∷ rest) ≡ s)
part_exact limit mark s n rest e =
    option_and_then_some _ (split mark s) (n, rest) e (λ p hp f.
    option_and_then_some _ (below limit p.0) (n, rest) f (λ k hk g.
    let own = below_exact limit p.0 k hk in
    let whole = split_exact mark s p.0 p.1 hp in
    (grind (arith, own, g), grind (arith, own, g, whole))))
