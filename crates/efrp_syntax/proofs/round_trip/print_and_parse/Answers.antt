use Rattle.std.proofs.Common.{◌≡◌, ◌≤◌, length, sym, ap, subst}
use Rattle.frp_tree.specs.Tree.{program_tree_of}
use Rattle.frp_tree.specs.Grammar.{Spells}
use Rattle.frp_tree.specs.Printed.{printed}
use Rattle.efrp_syntax.proofs.round_trip.print_and_parse.Goals as goal

pub returns-clause-same : goal.returns-clause-same
returns-clause-same c = λ text s h.
    let e : c.in_ok-text.text ≡ printed (program_tree_of c.args.p.now) = c.in_ok-text.ensures.printed in
    let k = c.in_ok-text.ensures.short text s (subst (λ n. n ≤ 65536) (sym (ap length e)) h) in
    c.parse.ensures.spelled (program_tree_of c.args.p.now) (subst (λ b. Spells b (program_tree_of c.args.p.now)) (sym c.as_slice.ensures) k)
