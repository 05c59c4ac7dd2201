use Rattle.std.proofs.Common.{◌≡◌, suc, [], ◌∷◌, length, refl, ap, ◌∙◌, arith}
use Rattle.search.specs.Queues.{slot, link}
use Rattle.search.proofs.Walking.{halfway_start, halfway_more, halfway_end, trail_one, trail_on, trail_root}
use Rattle.table.proofs.frontier.Frontier.carry_out.Goals as goal

pub loop-before-init : goal.loop-before-init
loop-before-init g c = rw c.len-p.ensures.len (
  omega (arith, c.requires.1.low),
  λ w r. halfway_start _ _ _ w r,
  λ w is r t. let e = ap length (trail_one refl t r.trail) in omega (arith, e),
  refl,
)

pub loop-before-preserved : goal.loop-before-preserved
loop-before-preserved g c =
    let q = c.args.self.now in
    let p = c.loop-before.p in
    let b = c.in-Some.before in
    let i = c.loop-before.invariant in
    let e : link q p ≡ suc b = omega (arith, c.in-Some.ensures) in
    let k = c.requires.1.sound.back p (omega (arith, i.0)) in (
      omega (arith, i.0, k, e),
      λ w r. rw (c.set_content.ensures.after, c.slot-in-Some.ensures.slot) (halfway_more _ _ _ w r _ _ (i.1 w r) b e _ (rw c.slot.ensures.slot at c.content_at-held.ensures)),
      λ w is r t. let x = i.2 w (slot q p ∷ is) r (trail_on q p b is k e t) in omega (arith, x),
      c.set_content.ensures.stays ∙ i.3,
    )

pub returns-clause-after : goal.returns-clause-after
returns-clause-after g c = λ w r.
    let q = c.args.self.now in
    let p = c.loop-before.p in
    let i = c.loop-before.invariant in
    let x = i.2 w (slot q p ∷ []) r (trail_root q p (r.sound.back p (omega (arith, i.0))) c.in_default.ensures) in
    (rw c.slot-2.ensures.slot at c.set_content-2.ensures.after ∙ halfway_end _ _ _ w r _ _ (i.1 w r) _ c.in_default.ensures, omega (arith, x))
