-- What every place rule shows, for each of our own.
use Rattle.std.specs.Prelude.{ℕ, ◌/◌, ◌^◌, ◌≤◌, [], ◌∷◌, refl}
use Rattle.std.proofs.Common.{mod-lt, arith}
use Rattle.seating.specs.Layouts.{Key}
use Rattle.places.specs.DigitCounts.{digits, digit_choices}
use Rattle.places.specs.Meanings.{two_count, two_places, digits_count, digits_degree, digits_places, xor_count, xor_places}
use Rattle.places.specs.Rules.{RuleSized, Placed, XorSize, two_choices}
use Rattle.places.specs.Words.{fnv}
use Rattle.places.specs.declared.digits.DigitCount.{DigitCount}
use Rattle.places.specs.declared.digits.DigitCount.TheVariants.{Two as two, Three as three}
use Rattle.places.specs.declared.digits.Digits.{Digits}
use Rattle.places.specs.declared.two.Two.{Two}
use Rattle.places.specs.declared.xor.Xor.{Xor}
use Rattle.places.specs.Powers.{power_some, tested_size, xor_inside}

sized : (n d : ℕ) → 1 ≤ n → n ≤ 512 → 1 ≤ d → d ≤ 3 → RuleSized n d
sized n d a b c e = record { some = a; few = b; one = c; three = e }

placed_two : (n h : ℕ) → 2 ≤ n → Placed n 2 (two_choices n h)
placed_two n h l =
    let m : ℕ = n / 2 in
    record {
      count = refl;
      inside = (
        omega (arith, mod-lt h {m = m} (omega arith)),
        (omega (arith, mod-lt (h / m) {m = m} (omega arith)), tt),
      );
    }

placed_digits : (c : DigitCount) (n h : ℕ) → 1 ≤ n → Placed n (digits c) (digit_choices c n h)
placed_digits two n h l = record { count = refl; inside = (mod-lt _ l, (mod-lt _ l, tt)) }
placed_digits three n h l = record { count = refl; inside = (mod-lt _ l, (mod-lt _ l, (mod-lt _ l, tt))) }

sized_digits : (c : DigitCount) (n : ℕ) → 1 ≤ n → n ≤ 512 → RuleSized n (digits c)
sized_digits two n a b = sized n 2 a b (omega arith) (omega arith)
sized_digits three n a b = sized n 3 a b (omega arith) (omega arith)

pub two_sized : (r : Two) → RuleSized (two_count r) 2
two_sized r = sized r.buckets 2 (omega (arith, r.some)) r.few (omega arith) (omega arith)

pub two_placed : (r : Two) (k : Key) → Placed (two_count r) 2 (two_places r k)
two_placed r k = placed_two r.buckets (fnv r.seed k) r.some

pub digits_sized : (r : Digits) → RuleSized (digits_count r) (digits_degree r)
digits_sized r = sized_digits r.count r.buckets r.some r.few

pub digits_placed : (r : Digits) (k : Key) → Placed (digits_count r) (digits_degree r) (digits_places r k)
digits_placed r k = placed_digits r.count r.buckets (fnv r.seed k) r.some

xor_power : (r : Xor) → XorSize r.buckets
xor_power r = tested_size r.buckets r.power r.few

pub xor_sized : (r : Xor) → RuleSized (xor_count r) 2
xor_sized r = sized r.buckets 2 (power_some (xor_power r).0 r.buckets (xor_power r).1) r.few (omega arith) (omega arith)

pub xor_placed : (r : Xor) (k : Key) → Placed (xor_count r) 2 (xor_places r k)
xor_placed r k =
    let h : ℕ = fnv r.seed k in
    let p : XorSize r.buckets = xor_power r in
    record {
      count = refl;
      inside = (
        mod-lt h (power_some p.0 r.buckets p.1),
        (xor_inside p.0 r.buckets h (fnv 0 ((h / 2 ^ 24) ∷ [])) p.1, tt),
      );
    }
