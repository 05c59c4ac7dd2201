-- Where bytes have their first line feed, and what a reader has left behind it.
use Rattle.std.proofs.Common.{◌≡◌, ◌≢◌, ◌==◌, ℕ, ◌+◌, ◌<◌, not, None, Some, List, [], ◌∷◌, ◌++◌, All, length, take, drop, take-append-drop, get_or, position, ap, sym, subst, append_assoc, ◌∙◌, arith, ne_eqb, eqb-true}
use Rattle.std.specs.List.{position_or_len}
use Rattle.std.proofs.lemmas.Bool.{eqb-false}
use Rattle.std.proofs.lemmas.Bool.Decides.{nat_tests}
use Rattle.std.proofs.lemmas.List.{append-nil, get_or-take, take_more, take_all, length-take-le}
use Rattle.std.proofs.lemmas.List.Elements.{All-head, All-tail}
use Rattle.std.proofs.lemmas.List.Quantifiers.{position-Some}
use Rattle.std.proofs.lemmas.List.Sums.{fails_before_first, prefix_len-le-length}
use Rattle.std.proofs.Math.Seq.{take-append_seam}
use Rattle.lines.specs.Lines.{until_feed}

-- no byte is a line feed
abbrev pub Clear : List ℕ → Type 0
Clear bs = All (λ b. b ≢ 10) bs

pub clear_before : (s : List ℕ) (i : ℕ) → position (λ b. b == 10) s ≡ Some i → (i < length s) × Clear (take i s) × (take (i + 1) s ≡ take i s ++ 10 ∷ [])
clear_before s i e =
    let at = position-Some (λ b. b == 10) s i 0 e in
    let feed : get_or s i 0 ≡ 10 = eqb-true _ _ at.1 in (
      at.0,
      λ k d l.
          let lt : k < i = omega (arith, length-take-le i s (omega arith)) in
          rw (get_or-take i s k d lt) (eqb-false _ _ ((position-Some (λ b. b == 10) s i d e).2 k lt)),
      rw (← feed) (take_more s i 0 at.0),
    )

pub clear_all : (s : List ℕ) → position (λ b. b == 10) s ≡ None → Clear s
clear_all s e k d l =
    let most = prefix_len-le-length (λ b. not (b == 10)) s in
    let all : position_or_len (λ b. b == 10) s ≡ length s = grind (arith, nat_tests) in
    eqb-false _ _ (fails_before_first (λ b. b == 10) s k d (omega arith))

-- the first line feed is none of bytes that hold none
first_behind : (bs rest : List ℕ) → Clear bs → position_or_len (λ b. b == 10) (bs ++ rest) ≡ length bs + position_or_len (λ b. b == 10) rest
first_behind [] rest h = omega arith
first_behind (b ∷ bs) rest h =
    let other = ne_eqb b 10 (All-head (λ x. x ≢ 10) b bs h) in
    let more = first_behind bs rest (All-tail (λ x. x ≢ 10) b bs h) in
    grind (arith, nat_tests)

pub until_before : (bs rest : List ℕ) → Clear bs → until_feed (bs ++ 10 ∷ rest) ≡ bs
until_before bs rest h =
    ap (λ (n : ℕ). take n (bs ++ 10 ∷ rest)) (first_behind bs (10 ∷ rest) h ∙ omega arith) ∙ take-append_seam bs (10 ∷ rest)

pub until_clear : (bs : List ℕ) → Clear bs → until_feed bs ≡ bs
until_clear bs h =
    take_all _ bs (omega (arith, rw append-nil at (first_behind bs [] h)))

pub until_at : (s : List ℕ) (i : ℕ) → position (λ b. b == 10) s ≡ Some i → until_feed s ≡ take i s
until_at s i e =
    let at = clear_before s i e in
    let whole : take i s ++ 10 ∷ drop (i + 1) s ≡ s = sym (append_assoc (take i s) (10 ∷ []) (drop (i + 1) s)) ∙ ap (λ (t : List ℕ). t ++ drop (i + 1) s) (sym at.2) ∙ take-append-drop (i + 1) s in
    subst (λ (t : List ℕ). until_feed t ≡ take i s) whole (until_before (take i s) (drop (i + 1) s) at.1)
