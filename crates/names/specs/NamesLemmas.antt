-- Texts with zeros behind.
use Rattle.std.specs.Prelude.{◌≡◌, ℕ, zero, suc, ◌+◌, ◌-◌, ◌<◌, true, false, ◌&&◌, List, [], ◌∷◌, ◌++◌, length, take, drop, set, replicate, ◌≢◌, slice_index, slice_set, refl}
use Rattle.std.proofs.Common.{sym, ap, ◌∙◌, arith, eq-eqb, ne_eqb}
use Rattle.std.proofs.lemmas.List.{append_assoc, set_at, length-take-le, take_more, drop_at}
use Rattle.std.proofs.ByRecursion.{All-from_get_or, All-take}
use Rattle.names.specs.Blank.{blank}
use Rattle.keys.specs.Bytes.{KeySized}
use Rattle.names.specs.Names.{name_bytes}
use Rattle.names.specs.declared.name.Name.{Name}

pub blank_replicate : (n : ℕ) → blank (replicate n 0) ≡ true
blank_replicate zero = refl
blank_replicate (suc n) = blank_replicate n

pub blank_behind : (bs : List ℕ) (n m : ℕ) → length bs ≡ n → blank (drop n (bs ++ replicate m 0)) ≡ true
blank_behind bs n m e = ap blank (drop_at bs (replicate m 0) n e) ∙ blank_replicate m

replicate_one_less : (n i : ℕ) → i < n → replicate {A = ℕ} (n - i) 0 ≡ 0 ∷ replicate (n - (i + 1)) 0
replicate_one_less n i h = let e : n - i ≡ suc (n - (i + 1)) = omega arith in ap (λ (m : ℕ). replicate {A = ℕ} m 0) e

-- one byte more in front of the zeros
pub padded_more : (n : ℕ) (bs : List ℕ) (i : ℕ) → i < length bs → i < n → slice_set (take i bs ++ replicate (n - i) 0) i (slice_index bs i) ≡ take (i + 1) bs ++ replicate (n - (i + 1)) 0
padded_more n bs i h l =
    ap (λ (r : List ℕ). set (take i bs ++ r) i (slice_index bs i)) (replicate_one_less n i l)
    ∙ set_at (take i bs) 0 (replicate (n - (i + 1)) 0) (slice_index bs i) i (length-take-le i bs (omega arith))
    ∙ sym (append_assoc (take i bs) (slice_index bs i ∷ []) (replicate (n - (i + 1)) 0))
    ∙ ap (λ (t : List ℕ). t ++ replicate (n - (i + 1)) 0) (sym (take_more bs i 0 h))

pub blank_nonzero : (b : ℕ) (bs : List ℕ) → (b ≢ 0) → blank (b ∷ bs) ≡ false
blank_nonzero b bs h = ap (λ t. t && blank bs) (ne_eqb b 0 h)

pub blank_zero : (b : ℕ) (bs : List ℕ) → b ≡ 0 → blank (b ∷ bs) ≡ blank bs
blank_zero b bs h = ap (λ t. t && blank bs) (eq-eqb b 0 h)

pub name_length : (k : Name) → length (name_bytes k) ≡ k.record.len
name_length k = length-take-le k.record.len k.record.text (omega (arith, k.whole, k.few))

pub name_sized : (k : Name) → KeySized (name_bytes k)
name_sized k = record {
  some = omega (arith, name_length k, k.some);
  few = omega (arith, name_length k, k.few);
  octets = All-take (λ b. b < 256) k.record.len k.record.text (All-from_get_or (λ b. b < 256) k.record.text 0 (λ i h. k.octets i));
}
