use Rattle.std.proofs.Common.{◌≡◌, ◌+◌, ◌<◌, ◌≤◌, [], ◌∷◌, ◌++◌, length, get_or, take, drop, None, inl, inr, sym, subst, arith}
use Rattle.std.proofs.lemmas.List.{take_more, length-take-le}
use Rattle.frp_tree.specs.Limits.{most}
use Rattle.efrp_syntax.specs.declared.begun.Begun.{Begun}
use Rattle.efrp_syntax.specs.Programs.{counted, IsFirstTooManyAt}
use Rattle.efrp_syntax.proofs.CountFacts.{HasCounted, first_many, counted_more, counted_none, around, no_kind}
use Rattle.efrp_syntax.proofs.counts.one_too_many.Goals as goal
use Rattle.efrp_syntax.proofs.counts.one_too_many.Goals.{then-of-most-via-then-of-most, then-of-most-via-else-of-most+then-note, in-Some+else-of-most+else-note, in_default}

pub returns-then-of-most : goal.returns-then-of-most
returns-then-of-most c =
    let xs = c.args.begun.now in
    let i = c.loop-place.place in
    let d : Begun = record { kind = None; entry = 0 } in
    let long : length (take i xs) ≡ i = length-take-le i xs (omega (arith, c.loop-place-test.true)) in
    let placed : IsFirstTooManyAt xs (length (take i xs)) c.in-Some.kind → IsFirstTooManyAt xs i c.in-Some.kind = subst (λ k. IsFirstTooManyAt xs k c.in-Some.kind) long in
    elim c.then-of-most.branch [
      | then-of-most-via-then-of-most w ↦
          let high : most c.in-Some.kind < counted c.in-Some.kind c.and-counts.result = omega (arith, c.most.ensures, c.of.ensures, w.if-of-most.true) in
          placed (first_many xs (take i xs) (drop (i + 1) xs) (get_or xs i d) c.in-Some.kind c.loop-place.counts c.and-counts.result (around xs i d c.loop-place-test.true) c.in-Some.is c.loop-place.invariant c.and-counts.ensures (inl high))
      | then-of-most-via-else-of-most+then-note w ↦
          placed (first_many xs (take i xs) (drop (i + 1) xs) (get_or xs i d) c.in-Some.kind c.loop-place.counts c.and-counts.result (around xs i d c.loop-place-test.true) c.in-Some.is c.loop-place.invariant c.and-counts.ensures (inr w.if-note.true))
    ]

pub loop-place-preserved : goal.loop-place-preserved
loop-place-preserved c =
    let xs = c.args.begun.now in
    let i = c.loop-place.place in
    let d : Begun = record { kind = None; entry = 0 } in
    let longer : take (i + 1) xs ≡ take i xs ++ get_or xs i d ∷ [] = take_more xs i d c.loop-place-test.true in
    elim c.match-note.branch [
      | in-Some+else-of-most+else-note w ↦
          let low : counted w.in-Some.kind w.and-counts.result ≤ most w.in-Some.kind = omega (arith, w.most.ensures, w.of.ensures, w.if-of-most.false) in
          subst (λ ys. HasCounted ys c.match-note.counts) (sym longer) (subst (HasCounted (take i xs ++ get_or xs i d ∷ [])) (sym w.counts-is) (counted_more (take i xs) (get_or xs i d) w.in-Some.kind c.loop-place.counts w.and-counts.result w.in-Some.is c.loop-place.invariant w.and-counts.ensures low w.if-note.false))
      | in_default w ↦
          subst (λ ys. HasCounted ys c.match-note.counts) (sym longer) (subst (HasCounted (take i xs ++ get_or xs i d ∷ [])) (sym w.counts-is) (counted_none (take i xs) (get_or xs i d) c.loop-place.counts (no_kind _ w.in_default.not-Some) c.loop-place.invariant))
    ]
