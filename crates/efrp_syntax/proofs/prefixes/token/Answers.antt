use Rattle.std.proofs.Common.{refl, sym}
use Rattle.efrp_syntax.proofs.FirstTokenFacts.{mark_taken, mark_none, behind_number}
use Rattle.efrp_syntax.proofs.prefixes.token.Goals as goal

pub returns-then-begins_word : goal.returns-then-begins_word
returns-then-begins_word c = (refl, behind_number c.args.after_number c.args.text.now c.if-after_number.true (sym c.if-begins_word.ensures))

pub returns-in-Some : goal.returns-in-Some
returns-in-Some c =
    (mark_taken c.args.after_number c.args.text.now c.in-Some.rest.now c.in-Some.number c.in-Some.ensures c.requires (sym c.if-begins_word-2.ensures), tt)

pub returns-in-None : goal.returns-in-None
returns-in-None c = (refl, mark_none c.args.after_number c.args.text.now c.in-None.ensures (sym c.if-begins_word-2.ensures))
