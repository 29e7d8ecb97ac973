use Rattle.std.proofs.Common.{length, refl, ap, arith}
use Rattle.efrp_syntax.proofs.FirstTokenFacts.{first_word, word_big}
use Rattle.efrp_syntax.proofs.prefixes.word.Goals as goal

pub returns-then-bytes-gt-LONGEST_NAME : goal.returns-then-bytes-gt-LONGEST_NAME
returns-then-bytes-gt-LONGEST_NAME c =
    (refl, word_big c.args.text.now c.run.result.0.now c.run.result.1.now c.requires.letter c.requires.no_comment c.run.ensures (omega arith))

pub returns : goal.returns
returns c =
    let name = c.in_ok-name_of.ensures.ok in
    (first_word c.args.text.now c.run.result.0.now c.run.result.1.now c.in_ok-name_of.field-0 c.requires.letter c.requires.no_comment c.run.ensures name, omega (arith, ap length name))
