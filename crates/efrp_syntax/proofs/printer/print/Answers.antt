use Rattle.std.proofs.Common.{◌≡◌, ◌∙◌, sym, subst}
use Rattle.frp_tree.specs.Tree.{program_tree_of}
use Rattle.frp_tree.specs.Grammar.{SpellsUnbounded}
use Rattle.frp_tree.specs.Printed.{printed}
use Rattle.frp_tree.proofs.PrintedTextLaws.{printed_spells, short_spells}
use Rattle.efrp_syntax.proofs.printer.print.Goals as goal

pub returns-clause-spells : goal.returns-clause-spells
returns-clause-spells c = λ text s. let e : c.finish.result ≡ printed (program_tree_of c.args.p.now) = c.finish.ensures ∙ c.in_ok-text.ensures in
    subst (λ b. SpellsUnbounded b (program_tree_of c.args.p.now)) (sym e) (printed_spells (program_tree_of c.args.p.now) text s)

pub returns-clause-short : goal.returns-clause-short
returns-clause-short c = λ text s h. let e : c.finish.result ≡ printed (program_tree_of c.args.p.now) = c.finish.ensures ∙ c.in_ok-text.ensures in
    short_spells (program_tree_of c.args.p.now) c.finish.result (subst (λ b. SpellsUnbounded b (program_tree_of c.args.p.now)) (sym e) (printed_spells (program_tree_of c.args.p.now) text s)) h
