-- The marked numbers at the front of a list, one more number looked at.
use Rattle.std.proofs.Common.{◌≡◌, ℕ, suc, ◌+◌, ◌<◌, Bool, true, false, cond, List, [], ◌∷◌, ◌++◌, length, get_or, drop, set, sym, refl, ap, ◌∙◌, append-nil, add-one, arith, length-append, drop-cons}
use lib.Seq.{set_at, append_snoc}
use Rattle.search.specs.Searches.{marked, marked_below}
use Rattle.table.specs.Views.{Listed}
use Rattle.table.proofs.Ranges.{filter_more}

marked_more : (marks : List ℕ) (n : ℕ) (b : Bool) → marked marks n ≡ b → marked_below marks (n + 1) ≡ marked_below marks n ++ cond b (n ∷ []) []
marked_more marks n b e = filter_more (marked marks) 0 n n (omega arith) ∙ rw e refl

pub marked_not : (marks : List ℕ) (n : ℕ) (was is : List ℕ) (r : ℕ) → marked marks n ≡ false → Listed (marked_below marks n) was r is → Listed (marked_below marks (n + 1)) was r is
marked_not marks n was is r e l =
    let m : marked_below marks (n + 1) ≡ marked_below marks n = marked_more marks n false e ∙ append-nil (marked_below marks n) in
    (l.0 ∙ ap length (sym m), l.1 ∙ ap (λ x. x ++ drop r was) (sym m))

pub marked_too : (marks : List ℕ) (n : ℕ) (was is : List ℕ) (r : ℕ) → marked marks n ≡ true → r < length was
    → Listed (marked_below marks n) was r is → Listed (marked_below marks (n + 1)) was (r + 1) (set is r n)
marked_too marks n was is r e h l =
    let m = marked_more marks n true e in
    let front = marked_below marks n in (
      omega (arith, l.0, ap length m, length-append front (n ∷ [])),
      ap (λ t. set t r n) l.1
          ∙ ap (λ t. set (front ++ t) r n) (drop-cons was r 0 h)
          ∙ set_at front (get_or was r 0) (drop (suc r) was) n r (sym l.0)
          ∙ sym (append_snoc front n (drop (suc r) was))
          ∙ ap (λ t. t ++ drop (suc r) was) (sym m)
          ∙ ap (λ x. marked_below marks (n + 1) ++ drop x was) (sym (add-one r)),
    )
