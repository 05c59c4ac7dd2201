-- What is consumed of the piece is what the line has more, and its line feed.
use Rattle.std.proofs.Common.{ℕ, ◌+◌, List, ◌++◌, length, take, sym, ap, subst, ◌∙◌, rules, arith}
use Rattle.std.proofs.lemmas.List.{take_all}
use Rattle.std.specs.Io.BufRead.{FillKeeps}
use Rattle.std.specs.Io.KnownBytes.{Consumes}
use Rattle.std.proofs.BufReadLemmas.{Consumes_shown}
use Rattle.lines.proofs.Feeds.{clear_before, clear_all, until_clear, until_at}
use Rattle.lines.specs.Lines.{line_text}
use Rattle.lines.proofs.take_piece.Goals as goal

pub returns-in_default : goal.returns-in_default
returns-in_default g c =
    let shown = c.in_ok-piece.piece.now in
    let clear = clear_all shown (sym c.take_until_feed.ensures.feed ∙ c.in_default.is) in
    let rested = c.fill_buf.follows.lender-at-none in
    let filled = subst (FillKeeps _ (g.R.Read.remaining rested) (g.R.BufRead.consumable_len rested)) c.in_ok-piece.was c.fill_buf.follows.holds-at-none in
    let moved = Consumes_shown _ _ _ _ shown (length shown) (omega arith) c.in_ok-piece.ensures.front c.in_ok-piece.ensures.end filled.0 filled.1 c.consume.ensures.bytes in (
      shown,
      record { clear = clear; said = λ done h. c.take_until_feed.ensures.after done h ∙ ap (λ (b : List ℕ). line_text (done ++ b)) (until_clear shown clear) },
      subst (Consumes _ _) (take_all _ shown (omega arith)) moved.0,
      search rules,
    )

pub returns : goal.returns
returns g c =
    let shown = c.in_ok-piece.piece.now in
    let found = sym c.take_until_feed.ensures.feed ∙ c.in-Some.is in
    let at = clear_before shown c.in-Some.at found in
    let rested = c.fill_buf.follows.lender-at-none in
    let filled = subst (FillKeeps _ (g.R.Read.remaining rested) (g.R.BufRead.consumable_len rested)) c.in_ok-piece.was c.fill_buf.follows.holds-at-none in
    let moved = Consumes_shown _ _ _ _ shown (c.in-Some.at + 1) (omega arith) c.in_ok-piece.ensures.front c.in_ok-piece.ensures.end filled.0 filled.1 c.consume-2.ensures.bytes in (
      take c.in-Some.at shown,
      record { clear = at.1; said = λ done h. c.take_until_feed.ensures.after done h ∙ ap (λ (b : List ℕ). line_text (done ++ b)) (until_at shown c.in-Some.at found) },
      subst (Consumes _ _) at.2 moved.0,
    )
