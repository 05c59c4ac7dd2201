-- A word in hexadecimal, with zeros in front.
use Rattle.std.proofs.Common.{◌≡◌, ℕ, zero, suc, ◌+◌, ◌-◌, ◌/◌, ◌%◌, ◌^◌, ◌<◌, false, List, [], ◌∷◌, ◌++◌, length, replicate, refl, sym, ap, ◌∙◌, inl, inr, append-nil, arith}
use Rattle.std.specs.Fmt.{digits, digits_onto, digit_glyph, padded_integral, format_spec, char_count}
use Rattle.std.proofs.Math.Nat.{div-div-eq-div-mul, pow-suc}
use Rattle.std.proofs.lemmas.Bool.Decides.{eqb_tells}
use Rattle.placing.specs.Shown.{hex_text}

-- the last k digits of n, in front of the text
abbrev digits_before : ℕ → ℕ → List ℕ → List ℕ
digits_before zero n text = text
digits_before (suc k) n text = digits_before k (n / 16) (digit_glyph false (n % 16) ∷ text)

zero_after : (k : ℕ) (text : List ℕ) → replicate k 48 ++ 48 ∷ text ≡ 48 ∷ (replicate k 48 ++ text)
zero_after zero text = refl
zero_after (suc k) text = ap (λ (s : List ℕ). 48 ∷ s) (zero_after k text)

zeros_before : (k : ℕ) (text : List ℕ) → digits_before k 0 text ≡ replicate k 48 ++ text
zeros_before zero text = refl
zeros_before (suc k) text = zeros_before k (48 ∷ text) ∙ zero_after k text

eight_wide : (numeral : List ℕ) → padded_integral (format_spec 32 0 4 8 (2 ^ 64 - 1)) false [] numeral ≡ replicate (8 - length numeral) 48 ++ numeral
unfolding padded_integral char_count
eight_wide numeral =
    let none : 8 - length numeral - 0 - 0 ≡ 8 - length numeral = omega arith in
    rw (none, append-nil)

whole_digits : (n : ℕ) → digits 16 false n ≡ digits_onto 64 16 false n []
unfolding digits
whole_digits n = refl

last_digit : (k m n : ℕ) (text : List ℕ) → m ≡ k → n / 16 ≡ 0 → replicate m 48 ++ text ≡ digits_before k (n / 16) text
last_digit k m n text e f = rw (e, f) (sym (zeros_before k text))

padded : (k i n : ℕ) (text : List ℕ) → n < 16 ^ suc k → k < i → replicate (suc k + length text - length (digits_onto i 16 false n text)) 48 ++ digits_onto i 16 false n text ≡ digits_before (suc k) n text
padded k zero n text small fuel = absurd (omega arith)
padded zero (suc i) n text small fuel =
    elim (eqb_tells (n / 16) 0) [
      | inl p ↦ rw p.0 (last_digit 0 _ n (digit_glyph false (n % 16) ∷ text) (omega arith) p.1)
      | inr p ↦ absurd (omega (arith, p.1))
    ]
padded (suc k) (suc i) n text small fuel =
    let more : List ℕ = digit_glyph false (n % 16) ∷ text in
    let all : List ℕ = digits_onto i 16 false (n / 16) more in
    elim (eqb_tells (n / 16) 0) [
      | inl p ↦ rw p.0 (last_digit (suc k) _ n more (omega arith) p.1)
      | inr p ↦
          rw p.0
          (ap (λ (m : ℕ). replicate m 48 ++ all) {x = suc (suc k) + length text - length all} {y = suc k + suc (length text) - length all} (omega arith)
          ∙ padded k i (n / 16) more (omega (arith, pow-suc 16 (suc k))) (omega arith))
    ]

eight_digits : (n : ℕ) → digits_before 8 n [] ≡ hex_text n
eight_digits n = simp div-div-eq-div-mul

-- what `{:08x}` writes of a word
pub padded_hex : (n : ℕ) → n < 2 ^ 32 → padded_integral (format_spec 32 0 4 8 (2 ^ 64 - 1)) false [] (digits 16 false n) ≡ hex_text n
padded_hex n small =
    eight_wide (digits 16 false n)
    ∙ ap (λ (s : List ℕ). replicate (8 - length s) 48 ++ s) (whole_digits n)
    ∙ padded 7 64 n [] small (omega arith)
    ∙ eight_digits n
