use Rattle.std.proofs.Common.{◌≢◌, ℕ, ◌<◌, ◌+◌, List, [], length, get_or, Some, sym, ap, ◌∙◌, arith}
use Rattle.std.specs.Cmp.Lexicographic.{same_text, other_text}
use Rattle.std.proofs.lemmas.Option.{slice_get-get_or, get_or_from_slice_get, slice_get_within}
use Rattle.frp_tree.specs.Tokens.{marks}
use Rattle.efrp_syntax.proofs.marks.number_of.Goals as goal

pub returns-then-eq : goal.returns-then-eq
returns-then-eq c =
    let low : c.loop-number.number < length marks = omega (arith, c.loop-number-test.true) in
    slice_get-get_or marks c.loop-number.number [] low ∙ ap Some (sym c.text_of.ensures ∙ sym c.as_bytes.ensures.value ∙ same_text _ _ c.if-eq.ensures)

more_differ : (xs : List (List ℕ)) (w : List ℕ) (i : ℕ) → get_or xs i [] ≢ w → ((k : ℕ) → k < i → get_or xs k [] ≢ w) → (k : ℕ) → k < i + 1 → get_or xs k [] ≢ w
more_differ xs w i h before k l e = h (grind (arith, before k, e))

pub loop-number-preserved : goal.loop-number-preserved
loop-number-preserved c = more_differ marks c.args.text.now c.loop-number.number (λ e. other_text _ _ c.if-eq.ensures (c.as_bytes.ensures.value ∙ c.text_of.ensures ∙ e)) c.loop-number.invariant

pub returns : goal.returns
returns c = λ k e. c.loop-number.invariant k (omega (arith, slice_get_within marks k _ e, c.loop-number-test.false)) (get_or_from_slice_get marks k _ [] e)
