use Rattle.std.specs.Prelude.{◌<◌}
use Rattle.std.proofs.Common.{sym, ap, subst, arith, length, get_or, ◌∙◌}
use Rattle.std.proofs.lemmas.List.{length-map, length-set, take_all}
use Rattle.std.proofs.lemmas.Option.{unwrap_or-slice_get}
use Rattle.frp_tree.specs.declared.syntax.Decl.{Decl}
use Rattle.frp_tree.specs.declared.syntax.Program.{Program}
use Rattle.frp_tree.specs.Tree.{behaviour_of, decl_of, program_tree_of}
use Rattle.efrp_meaning.specs.Meaning.{rule_on}
use Rattle.reaction_model.specs.Values.{nothing, settled_by}
use Rattle.reaction_model.proofs.RowFacts.{tree-at, is-typed, names-differ}
use Rattle.reaction_model.proofs.SettledFacts.{AreSettled, begins, number-within, settled-all, settles-more}
use Rattle.reaction_model.proofs.passes.settle.Goals as goal

pub returns : goal.returns
returns c = λ s j state samples given.
    let p = program_tree_of c.args.typed.now.program in
    let event = c.args.event.now in
    let all = take_all c.loop-i.i-index c.args.order.now c.loop-i-test.false in
    settled-all p s j event c.args.order.now c.loop-i.values c.requires.ordered (subst (λ front. AreSettled p s j event front c.loop-i.values) all (c.loop-i.invariant.1 s j state samples given))

pub loop-i-init : goal.loop-i-init
loop-i-init c =
    let p = program_tree_of c.args.typed.now.program in
    (c.requires.for_each, λ s j state samples given. begins p s j c.args.event.now c.args.values.now given)

pub loop-i-preserved : goal.loop-i-preserved
loop-i-preserved c =
    let typed = c.args.typed.now in
    let p = program_tree_of typed.program in
    let event = c.args.event.now in
    let order = c.args.order.now in
    let k = c.loop-i.i-index in
    let i = get_or order k 0 in
    let values = c.loop-i.values in
    let decls = c.as_slice-decls.result.now in
    let d = c.index-decls-i.result in
    let same = c.as_slice-decls.ensures ∙ ap (λ (q : Program). q.decls) c.program.ensures in
    let mapped = length-map typed.program.decls decl_of in
    let lengths = ap length same in
    let within = number-within p event order c.requires.ordered k c.loop-i-test.true in
    let inside : i < length decls = omega (arith, mapped, lengths, within) in
    let found = tree-at decl_of decls typed.program.decls i d same inside c.index-decls-i.is in
    let is =
    c.settled_by-value.ensures
    ∙ ap (λ (e : Decl). settled_by p values (get_or values i nothing) (rule_on event (behaviour_of e.behaviour))) (sym c.index-decls-i.is)
    ∙ ap (λ v. settled_by p values v (rule_on event (behaviour_of d.behaviour))) (sym (unwrap_or-slice_get values i nothing)) in (
      length-set values i c.settled_by-value.result ∙ c.loop-i.invariant.0,
      λ s j state samples given.
          settles-more p (is-typed p typed.checked typed.formed) (names-differ p typed.checked) s state j samples event c.requires.causal order c.requires.ordered k c.loop-i-test.true (decl_of d) found values
          (c.loop-i.invariant.0 ∙ sym mapped) (c.loop-i.invariant.1 s j state samples given) c.settled_by-value.result is,
    )
