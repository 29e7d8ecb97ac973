use Rattle.std.specs.Prelude.{◌≡◌, ◌-◌, ◌<◌, false, [], if◌then◌else◌, refl}
use Rattle.std.proofs.Common.{List, ℕ, drop, arith, sym, ap, subst, ◌∙◌, fold, get_or, length}
use Rattle.std.proofs.lemmas.List.{drop_all, length-map}
use Rattle.std.proofs.lemmas.Option.{get_or_from_slice_get, slice_get_read}
use Rattle.efrp_types.specs.Numbers.{event_name}
use Rattle.efrp_types.specs.declared.typed.Typed.{Typed}
use Rattle.frp_tree.specs.declared.syntax.Decl.{Decl}
use Rattle.frp_tree.specs.declared.syntax.Program.{Program}
use Rattle.frp_tree.specs.Tree.{behaviour_of, decl_of, program_tree_of}
use Rattle.event_needs.specs.Marking.{own_names, with_name}
use Rattle.event_needs.proofs.NumberLaws.{each-get, names-differ, tree-at}
use Rattle.event_needs.proofs.ReachFacts.{IsReached, begins, step-back, are-named}
use Rattle.event_needs.proofs.walks.mark_plain.Goals as goal

pub loop-k-init : goal.loop-k-init
loop-k-init c =
    let p = program_tree_of c.args.c.now.typed.program in
    let event = event_name p c.args.event in
    let order = c.order-order.result.now in
    subst (λ (rest : List ℕ). IsReached p (names-differ c.args.c.now) event rest c.args.marked.now.items) (sym (drop_all (length order) order (omega arith)))
    (begins p (names-differ c.args.c.now) event c.args.marked.now.items c.requires.first)

pub loop-k-preserved : goal.loop-k-preserved
loop-k-preserved c =
    let typed = c.args.c.now.typed in
    let p = program_tree_of typed.program in
    let event = event_name p c.args.event in
    let order = c.order-order.result.now in
    let k = c.loop-k.k in
    let i = get_or order (k - 1) 0 in
    let decls = c.as_slice-decls.result.now in
    let d = c.index-decls-i.result in
    let same = c.as_slice-decls.ensures ∙ ap (λ (q : Program). q.decls) (c.program.ensures ∙ ap (λ (t : Typed). t.program) c.typed-typed.ensures) in
    let some = c.loop-k-test.true in
    let most = c.loop-k.auto.k in
    let within = each-get (λ n. n < length p.decls) order (k - 1) c.order-order.ensures.within (omega (arith, some, most)) in
    let lengths = ap length same in
    let mapped = length-map typed.program.decls decl_of in
    let at = tree-at decl_of decls typed.program.decls i d same (omega (arith, lengths, mapped, within)) c.index-decls-i.is in
    let marks = subst (λ (t : Typed). c.mark_own.new.marked.items ≡ fold (with_name (program_tree_of t.program)) c.loop-k.marked.items (if c.index-is_marked.result.now then own_names (behaviour_of (get_or decls i d).behaviour) else [])) c.typed-typed.ensures c.mark_own.ensures.marks
    ∙ ap (λ (e : Decl). fold (with_name p) c.loop-k.marked.items (if c.index-is_marked.result.now then own_names (behaviour_of e.behaviour) else [])) (sym c.index-decls-i.is) in
    let long = c.loop-k.invariant.len in
    let read = slice_get_read c.loop-k.marked.items (length c.loop-k.marked.items) i c.index-is_marked.result.now refl (omega (arith, long, within)) c.index-is_marked.ensures in
    let is = get_or_from_slice_get c.loop-k.marked.items i c.index-is_marked.result.now false read in
    step-back p (names-differ c.args.c.now) event order c.order-order.ensures k some most (decl_of d) at c.loop-k.marked.items c.loop-k.invariant c.index-is_marked.result.now is c.mark_own.new.marked.items marks

pub returns : goal.returns
returns c =
    let p = program_tree_of c.args.c.now.typed.program in
    let event = event_name p c.args.event in
    let order = c.order-order.result.now in
    let end : c.loop-k.k ≡ 0 = let none = c.loop-k-test.false in omega (arith, none) in
    are-named p (names-differ c.args.c.now) event order c.order-order.ensures c.loop-k.marked.items
    (subst (λ (n : ℕ). IsReached p (names-differ c.args.c.now) event (drop n order) c.loop-k.marked.items) end c.loop-k.invariant)
