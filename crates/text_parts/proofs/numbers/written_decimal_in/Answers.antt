use Rattle.std.proofs.Common.{sym, ap, subst, ◌∙◌, arith}
use Rattle.std.specs.Str.{IsUtf8}
use Rattle.std.proofs.lemmas.Bool.{both_ways}
use Rattle.text_parts.specs.Numbers.{is_plain}
use Rattle.text_parts.proofs.WrittenFacts.{decimal_utf8, decimal_plain, parsed}
use Rattle.text_parts.proofs.numbers.written_decimal_in.Goals as goal

pub returns-then-not-is_plain : goal.returns-then-not-is_plain
returns-then-not-is_plain c = λ n small e. both_ways (is_plain c.args.field.now) (sym c.if-not-is_plain.ensures) (ap is_plain e ∙ decimal_plain n (omega arith))

pub returns-in_err-text : goal.returns-in_err-text
returns-in_err-text c = rw c.from_residual.ensures (λ n small e. c.in_err-text.ensures (subst IsUtf8 (sym e) (decimal_utf8 n (omega arith))))

pub returns : goal.returns
returns c = rw c.ok.ensures.value (parsed c.args.field.now c.in_ok-text.field-0.now c.parse.result (sym c.if-not-is_plain.ensures) c.in_ok-text.ensures c.parse.ensures.value.0)
