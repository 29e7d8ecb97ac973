use Rattle.std.proofs.Common.{arith, sym, ap, ◌+◌, ◌*◌, ◌≡◌, suc, ◌∙◌}
use Rattle.large_program.specs.Draws.{below, after_draws}
use Rattle.large_program.specs.Arrivals.{after_program, boundary_of}
use Rattle.large_program.proofs.DrawLaws.{next_drawn, none_yet}
use Rattle.large_program.proofs.ProgramFacts.{arrivals_more, first_boundary, next_boundary}
use Rattle.large_program.proofs.arriving.arrivals.Goals as goal

pub loop-init : goal.loop-init
loop-init c = (c.new-all.ensures, sym (first_boundary c.args.n), omega arith, c.after-draws.ensures ∙ sym (none_yet (after_program c.args.n)))

pub loop-preserved : goal.loop-preserved
loop-preserved c =
    let n = c.args.n in
    let i = c.loop.counter in
    let was = c.loop.invariant in
    let one = c.below-source.ensures in
    let two = c.below-gap.ensures in
    let first = next_drawn (2 * i) (after_program n) _ _ was.3 one.number in
    let second = next_drawn (2 * i + 1) (after_program n) _ _ first two.number in
    let e : 2 * i + 1 + 1 ≡ 2 * (i + 1) = omega arith in
    let f : 2 * i + 1 + 1 ≡ 2 * i + 2 = omega arith in
    let g : suc i ≡ i + 1 = omega arith in
    let source = one.drawn ∙ ap (below 11) first in
    let gap = two.drawn ∙ ap (below 600) (second ∙ ap (λ k. after_draws k (after_program n)) f) in
    let small = two.small in
    let least = was.2 in (
      c.in_ok-push.ensures.ok ∙ arrivals_more n i c.loop.all _ was.0 (λ j. record { at = was.1 j; source = source j }),
      (λ j. was.1 j + (1 + gap j)) ∙ sym (next_boundary n i) ∙ ap (boundary_of n) g,
      omega (arith, small, least),
      second ∙ ap (λ k. after_draws k (after_program n)) e,
    )
