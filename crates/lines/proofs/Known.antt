-- What is read of the bytes that are known.
use Rattle.std.proofs.Common.{◌≡◌, ℕ, ◌<◌, Option, None, Some, List, [], ◌∷◌, ◌++◌, length, sym, ap, ◌∙◌, arith, append_assoc, length-append, ◌≢◌, subst, zero, suc, ◌≤◌, nat_lt, refl, true, IfSome}
use Rattle.std.specs.Bool.{then_some}
use Rattle.std.specs.Io.BufRead.{drop_through}
use Rattle.std.specs.Io.KnownBytes.{Keeps, Consumes, IsAtEnd}
use Rattle.std.proofs.BufReadLemmas.{drop_through-append}
use Rattle.std.proofs.KnownBytes.{Consumes-trans}
use Rattle.std.proofs.lemmas.Bool.Decides.{nat_tests}
use Rattle.std.proofs.lemmas.List.{append-nil, nil_from_length}
use Rattle.lines.specs.Lines.{line_text, until_feed}
use Rattle.std.proofs.lemmas.List.Elements.{All-append}
use Rattle.lines.specs.Pieces.{Grows}
use Rattle.lines.specs.Said.{said, SaysLine, ReadsLine}
use Rattle.lines.specs.declared.line.Line.{Line}
use Rattle.lines.proofs.Feeds.{Clear, until_before, until_clear}

-- the line says the bytes that were taken so far
pub record Taken (old now : Option (List ℕ)) (line : Line) (done : List ℕ) : Type 0 where
  pub clear : Clear done
  pub said : said line ≡ line_text done
  pub consumed : Consumes old now done

pub says_line : (old now : Option (List ℕ)) (line : Line) (done : List ℕ) → Taken old now line done → SaysLine line
says_line old now line done t = (done, until_clear done t.clear, t.said)

pub taken_more : (old now after : Option (List ℕ)) (line more : Line) (done bs : List ℕ) → Taken old now line done → Grows line more bs → Consumes now after bs → Taken old after more (done ++ bs)
taken_more old now after line more done bs t w c =
    record { clear = All-append (λ b. b ≢ 10) done bs t.clear w.clear; said = w.said done t.said; consumed = Consumes-trans _ _ _ done bs t.consumed c }

-- a line up to its line feed
feed_read : (old after : Option (List ℕ)) (line : Line) (bs : List ℕ) → Clear bs → said line ≡ line_text bs → Consumes old after (bs ++ 10 ∷ []) → ReadsLine old (Some line) after
feed_read None after line bs h t c = (tt, tt)
feed_read (Some xs) None line bs h t c = absurd c
feed_read (Some xs) (Some ys) line bs h t c =
    let whole : xs ≡ bs ++ 10 ∷ ys = c ∙ append_assoc bs (10 ∷ []) ys in (
      (omega (arith, ap length whole, length-append bs (10 ∷ ys)), t ∙ ap line_text (sym (ap until_feed whole ∙ until_before bs ys h))),
      ap Some (sym (ap (drop_through 10) whole ∙ drop_through-append 10 bs (10 ∷ ys) h)),
    )

pub reads_feed : (old now after : Option (List ℕ)) (line more : Line) (done bs : List ℕ) → Taken old now line done → Grows line more bs → Consumes now after (bs ++ 10 ∷ []) → SaysLine more × ReadsLine old (Some more) after
reads_feed old now after line more done bs t w c =
    let clear = All-append (λ b. b ≢ 10) done bs t.clear w.clear in
    let said = w.said done t.said in
    let consumed = subst (Consumes _ _) (sym (append_assoc done bs (10 ∷ []))) (Consumes-trans _ _ _ done (bs ++ 10 ∷ []) t.consumed c) in
    ((done ++ bs, until_clear (done ++ bs) clear, said), feed_read old after more (done ++ bs) clear said consumed)

-- a line that the end of the input ends
pub reads_end : (old now after : Option (List ℕ)) (line : Line) (done : List ℕ) → Taken old now line done → IsAtEnd now → Keeps now after → 0 < length done → ReadsLine old (Some line) after
reads_end None now after line done t e k some = (tt, tt)
reads_end (Some xs) None after line done t e k some = absurd t.consumed
reads_end (Some xs) (Some ys) None line done t e k some = absurd k
reads_end (Some xs) (Some ys) (Some zs) line done t e k some =
    let whole : xs ≡ done = t.consumed ∙ ap (λ (r : List ℕ). done ++ r) e ∙ append-nil done in (
      (omega (arith, ap length whole), t.said ∙ ap line_text (sym (ap until_feed whole ∙ until_clear done t.clear))),
      ap Some (k ∙ e ∙ sym (ap (drop_through 10) (whole ∙ sym (append-nil done)) ∙ drop_through-append 10 done [] t.clear)),
    )

-- no line is left
pub reads_none : (old now after : Option (List ℕ)) (line : Line) (done : List ℕ) → Taken old now line done → IsAtEnd now → Keeps now after → length done ≡ 0 → ReadsLine old None after
reads_none None now after line done t e k none = (tt, tt)
reads_none (Some xs) None after line done t e k none = absurd t.consumed
reads_none (Some xs) (Some ys) None line done t e k none = absurd k
reads_none (Some xs) (Some ys) (Some zs) line done t e k none =
    let all : xs ≡ [] = t.consumed ∙ ap (λ (r : List ℕ). done ++ r) e ∙ append-nil done ∙ nil_from_length done none in
    (all, ap Some (k ∙ e ∙ sym (ap (drop_through 10) all)))

-- which of the two, by how many pieces were taken
pub reads_at_end : (old now after : Option (List ℕ)) (line same : Line) (done : List ℕ) (taken : ℕ) (o : Option Line) → Taken old now line done → IsAtEnd now → Keeps now after → same ≡ line → taken ≤ length done → (taken ≡ 0 → length done ≡ 0) → o ≡ then_some (nat_lt 0 taken) same → IfSome o SaysLine × ReadsLine old o after
reads_at_end old now after line same done zero o t e k q most none is = rw is (tt, reads_none old now after line done t e k (none refl))
reads_at_end old now after line same done (suc n) o t e k q most none is =
    let some : nat_lt 0 (suc n) ≡ true = grind (arith, nat_tests) in
    rw (is, some, q) (says_line old now line done t, reads_end old now after line done t e k (omega arith))
