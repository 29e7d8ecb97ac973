use Rattle.std.proofs.Common.{refl, sym, ap, ◌∙◌}
use Rattle.std.proofs.lemmas.Option.{same_Some}
use Rattle.frp_tree.specs.declared.syntax.Program.{Program}
use Rattle.frp_tree.specs.Tree.{behaviour_of, clause_of, decl_of, program_tree_of, tree_of}
use Rattle.efrp_types.specs.declared.typed.Typed.{Typed}
use Rattle.expr_lower.specs.Places.{is_wide}
use Rattle.event_needs.specs.Needed.{is_needed}
use Rattle.event_needs.proofs.CheckedLaws.{checked-typed}
use Rattle.event_needs.proofs.NumberLaws.{names-differ}
use Rattle.event_ops.proofs.AssignFacts.{clause-bind, clause-later, clause-now, clause-ours, no-clause, place-inside, plain-bind, plain-ours, plain-step}
use Rattle.event_ops.proofs.DoneFacts.{assign-at, assign-of, by-clause, by-itself, decl-at, not-plain}
use Rattle.event_ops.proofs.ReadyFacts.{can-add, typed-as, wanted}
use Rattle.event_ops.proofs.SumFacts.{needed-plain}
use Rattle.event_ops.proofs.assigning.assign.Goals as goal

pub add_lasting-requires-clause-can : goal.add_lasting-requires-clause-can
add_lasting-requires-clause-can c =
    let k = c.args.c.now in
    let p = program_tree_of k.typed.program in
    let event = c.args.event.now in
    let plan = c.args.plan.now in
    let ready = c.requires.ready in
    let typed = checked-typed k in
    let differ = names-differ k in
    let plain = needed-plain p differ event in
    let work = c.as_slice.result.now in
    let decls = c.as_slice-2.result.now in
    let decls_are = c.as_slice-2.ensures ∙ ap (λ (q : Program). q.decls) (c.program.ensures ∙ ap (λ (t : Typed). t.program) c.typed.ensures) in
    let a = assign-of k event plan ready c.args.k c.requires.inside work c.as_slice.ensures decls decls_are in
    let d = c.index-as_slice-assign.result in
    let e = tree_of c.in-Some.clause.now.expr in
    let it = by-clause k event plan ready c.args.k c.requires.inside work c.as_slice.ensures decls decls_are d c.index-as_slice-assign.is (clause_of c.in-Some.clause.now) c.in-Some.ensures in
    can-add p typed differ event plan ready plain c.args.k a (decl_of d) e it c.args.draft.now c.requires.so_far

pub add_lasting-requires-clause-wide : goal.add_lasting-requires-clause-wide
add_lasting-requires-clause-wide c t is =
    let k = c.args.c.now in
    let p = program_tree_of k.typed.program in
    let event = c.args.event.now in
    let plan = c.args.plan.now in
    let ready = c.requires.ready in
    let typed = checked-typed k in
    let differ = names-differ k in
    let plain = needed-plain p differ event in
    let work = c.as_slice.result.now in
    let decls = c.as_slice-2.result.now in
    let decls_are = c.as_slice-2.ensures ∙ ap (λ (q : Program). q.decls) (c.program.ensures ∙ ap (λ (t : Typed). t.program) c.typed.ensures) in
    let a = assign-of k event plan ready c.args.k c.requires.inside work c.as_slice.ensures decls decls_are in
    let d = c.index-as_slice-assign.result in
    let e = tree_of c.in-Some.clause.now.expr in
    let it = by-clause k event plan ready c.args.k c.requires.inside work c.as_slice.ensures decls decls_are d c.index-as_slice-assign.is (clause_of c.in-Some.clause.now) c.in-Some.ensures in
    c.is_wide-wide.ensures ∙ ap is_wide (same_Some d.ty t (sym (typed-as p typed differ event plan ready plain c.args.k a (decl_of d) e it) ∙ is))

pub copy_to-requires : goal.copy_to-requires
copy_to-requires c =
    let k = c.args.c.now in
    let p = program_tree_of k.typed.program in
    let event = c.args.event.now in
    let plan = c.args.plan.now in
    let ready = c.requires.ready in
    let typed = checked-typed k in
    let differ = names-differ k in
    let plain = needed-plain p differ event in
    let work = c.as_slice.result.now in
    let decls = c.as_slice-2.result.now in
    let decls_are = c.as_slice-2.ensures ∙ ap (λ (q : Program). q.decls) (c.program.ensures ∙ ap (λ (t : Typed). t.program) c.typed.ensures) in
    let a = assign-of k event plan ready c.args.k c.requires.inside work c.as_slice.ensures decls decls_are in
    let d = c.index-as_slice-assign.result in
    let e = tree_of c.in-Some.clause.now.expr in
    let it = by-clause k event plan ready c.args.k c.requires.inside work c.as_slice.ensures decls decls_are d c.index-as_slice-assign.is (clause_of c.in-Some.clause.now) c.in-Some.ensures in
    let lasting = c.in_ok-at-in-Some.ensures d.ty (typed-as p typed differ event plan ready plain c.args.k a (decl_of d) e it) in
    place-inside p typed differ event plan ready plain c.args.k a (decl_of d) e it c.args.draft.now c.add_lasting.new.self c.requires.so_far c.in_ok-at-in-Some.at lasting.values

pub returns-then-assign : goal.returns-then-assign
returns-then-assign c =
    let k = c.args.c.now in
    let p = program_tree_of k.typed.program in
    let event = c.args.event.now in
    let plan = c.args.plan.now in
    let ready = c.requires.ready in
    let typed = checked-typed k in
    let differ = names-differ k in
    let plain = needed-plain p differ event in
    let work = c.as_slice.result.now in
    let decls = c.as_slice-2.result.now in
    let decls_are = c.as_slice-2.ensures ∙ ap (λ (q : Program). q.decls) (c.program.ensures ∙ ap (λ (t : Typed). t.program) c.typed.ensures) in
    let a = assign-of k event plan ready c.args.k c.requires.inside work c.as_slice.ensures decls decls_are in
    let d = c.index-as_slice-assign.result in
    let e = tree_of c.in-Some.clause.now.expr in
    let it = by-clause k event plan ready c.args.k c.requires.inside work c.as_slice.ensures decls decls_are d c.index-as_slice-assign.is (clause_of c.in-Some.clause.now) c.in-Some.ensures in
    let lasting = c.in_ok-at-in-Some.ensures d.ty (typed-as p typed differ event plan ready plain c.args.k a (decl_of d) e it) in
    clause-later p typed differ event plan ready plain c.args.k a (decl_of d) e it c.args.draft.now c.add_lasting.new.self c.requires.so_far c.in_ok-at-in-Some.at lasting c.is_wide-wide.result c.is_wide-wide.ensures c.copy_to.new.self
    c.copy_to.ensures.ops c.copy_to.ensures.states c.copy_to.ensures.cells c.in_ok-copy_to-in-Some.ensures.copies c.if-assign.true

pub bind-requires : goal.bind-requires
bind-requires c =
    let k = c.args.c.now in
    let p = program_tree_of k.typed.program in
    let event = c.args.event.now in
    let plan = c.args.plan.now in
    let ready = c.requires.ready in
    let typed = checked-typed k in
    let differ = names-differ k in
    let plain = needed-plain p differ event in
    let work = c.as_slice.result.now in
    let decls = c.as_slice-2.result.now in
    let decls_are = c.as_slice-2.ensures ∙ ap (λ (q : Program). q.decls) (c.program.ensures ∙ ap (λ (t : Typed). t.program) c.typed.ensures) in
    let a = assign-of k event plan ready c.args.k c.requires.inside work c.as_slice.ensures decls decls_are in
    let d = c.index-as_slice-assign.result in
    let e = tree_of c.in-Some.clause.now.expr in
    let it = by-clause k event plan ready c.args.k c.requires.inside work c.as_slice.ensures decls decls_are d c.index-as_slice-assign.is (clause_of c.in-Some.clause.now) c.in-Some.ensures in
    let lasting = c.in_ok-at-in-Some.ensures d.ty (typed-as p typed differ event plan ready plain c.args.k a (decl_of d) e it) in
    clause-bind p typed differ event plan ready plain c.args.k a (decl_of d) e it c.args.draft.now c.add_lasting.new.self c.requires.so_far c.in_ok-at-in-Some.at lasting c.is_wide-wide.result c.is_wide-wide.ensures c.copy_to.new.self
    c.copy_to.ensures.ops c.copy_to.ensures.states c.copy_to.ensures.cells c.in_ok-copy_to-in-Some.ensures.copies

pub add-requires : goal.add-requires
add-requires c =
    let k = c.args.c.now in
    let p = program_tree_of k.typed.program in
    let event = c.args.event.now in
    let plan = c.args.plan.now in
    let ready = c.requires.ready in
    let typed = checked-typed k in
    let differ = names-differ k in
    let plain = needed-plain p differ event in
    let work = c.as_slice.result.now in
    let decls = c.as_slice-2.result.now in
    let decls_are = c.as_slice-2.ensures ∙ ap (λ (q : Program). q.decls) (c.program.ensures ∙ ap (λ (t : Typed). t.program) c.typed.ensures) in
    let a = assign-of k event plan ready c.args.k c.requires.inside work c.as_slice.ensures decls decls_are in
    let d = c.index-as_slice-assign.result in
    let e = tree_of c.in-Plain.e in
    let it = by-itself k event plan ready c.args.k c.requires.inside work c.as_slice.ensures decls decls_are d c.index-as_slice-assign.is e (ap behaviour_of c.in-Plain.is) in
    can-add p typed differ event plan ready plain c.args.k a (decl_of d) e it c.args.draft.now c.requires.so_far

pub bind-requires-in-Plain : goal.bind-requires-in-Plain
bind-requires-in-Plain c =
    let k = c.args.c.now in
    let p = program_tree_of k.typed.program in
    let event = c.args.event.now in
    let plan = c.args.plan.now in
    let ready = c.requires.ready in
    let typed = checked-typed k in
    let differ = names-differ k in
    let plain = needed-plain p differ event in
    let work = c.as_slice.result.now in
    let decls = c.as_slice-2.result.now in
    let decls_are = c.as_slice-2.ensures ∙ ap (λ (q : Program). q.decls) (c.program.ensures ∙ ap (λ (t : Typed). t.program) c.typed.ensures) in
    let a = assign-of k event plan ready c.args.k c.requires.inside work c.as_slice.ensures decls decls_are in
    let d = c.index-as_slice-assign.result in
    let e = tree_of c.in-Plain.e in
    let it = by-itself k event plan ready c.args.k c.requires.inside work c.as_slice.ensures decls decls_are d c.index-as_slice-assign.is e (ap behaviour_of c.in-Plain.is) in
    plain-bind p typed differ event plan ready plain c.args.k a (decl_of d) e it c.args.draft.now c.add.new.self c.requires.so_far c.in_ok-at-in-Plain.at (c.in_ok-at-in-Plain.ensures d.ty (typed-as p typed differ event plan ready plain c.args.k a (decl_of d) e it))

pub unreachable-requires : goal.unreachable-requires
unreachable-requires c =
    let k = c.args.c.now in
    let p = program_tree_of k.typed.program in
    let event = c.args.event.now in
    let plan = c.args.plan.now in
    let ready = c.requires.ready in
    let typed = checked-typed k in
    let differ = names-differ k in
    let plain = needed-plain p differ event in
    let work = c.as_slice.result.now in
    let decls = c.as_slice-2.result.now in
    let decls_are = c.as_slice-2.ensures ∙ ap (λ (q : Program). q.decls) (c.program.ensures ∙ ap (λ (t : Typed). t.program) c.typed.ensures) in
    let a = assign-of k event plan ready c.args.k c.requires.inside work c.as_slice.ensures decls decls_are in
    let d = c.index-as_slice-assign.result in
    let assign = assign-at k event plan ready c.args.k c.requires.inside work c.as_slice.ensures decls decls_are in
    let at = decl-at k event plan ready c.args.k c.requires.inside work c.as_slice.ensures decls decls_are d c.index-as_slice-assign.is in
    no-clause event (behaviour_of d.behaviour) (is_needed p event (decl_of d)) a.next (not-plain d.behaviour c.in_default.not-Plain) c.in-None.ensures (wanted p typed differ event plan ready plain c.args.k a (decl_of d) assign at)

pub returns-else-assign : goal.returns-else-assign
returns-else-assign c =
    let k = c.args.c.now in
    let p = program_tree_of k.typed.program in
    let event = c.args.event.now in
    let plan = c.args.plan.now in
    let ready = c.requires.ready in
    let typed = checked-typed k in
    let differ = names-differ k in
    let plain = needed-plain p differ event in
    let work = c.as_slice.result.now in
    let decls = c.as_slice-2.result.now in
    let decls_are = c.as_slice-2.ensures ∙ ap (λ (q : Program). q.decls) (c.program.ensures ∙ ap (λ (t : Typed). t.program) c.typed.ensures) in
    let a = assign-of k event plan ready c.args.k c.requires.inside work c.as_slice.ensures decls decls_are in
    let d = c.index-as_slice-assign.result in
    let e = tree_of c.in-Some.clause.now.expr in
    let it = by-clause k event plan ready c.args.k c.requires.inside work c.as_slice.ensures decls decls_are d c.index-as_slice-assign.is (clause_of c.in-Some.clause.now) c.in-Some.ensures in
    let lasting = c.in_ok-at-in-Some.ensures d.ty (typed-as p typed differ event plan ready plain c.args.k a (decl_of d) e it) in
    clause-now p typed differ event plan ready plain c.args.k a (decl_of d) e it c.args.draft.now c.add_lasting.new.self c.requires.so_far c.in_ok-at-in-Some.at lasting c.is_wide-wide.result c.is_wide-wide.ensures c.copy_to.new.self
    c.copy_to.ensures.ops c.copy_to.ensures.states c.copy_to.ensures.cells c.in_ok-copy_to-in-Some.ensures.copies c.if-assign.false
    (record { ops = c.copy_to.new.self.ops; cells = c.bind.new.self; copies = c.copy_to.new.self.copies; states = c.copy_to.new.self.states }) refl refl refl
    (c.bind.ensures.kept p (clause-ours p typed differ event plan ready plain c.args.k a (decl_of d) e it c.args.draft.now c.add_lasting.new.self c.requires.so_far c.in_ok-at-in-Some.at lasting c.is_wide-wide.result c.is_wide-wide.ensures c.copy_to.new.self
    c.copy_to.ensures.ops c.copy_to.ensures.states c.copy_to.ensures.cells c.in_ok-copy_to-in-Some.ensures.copies))
    c.bind.ensures.binds

pub returns-in_ok-at-in-Plain : goal.returns-in_ok-at-in-Plain
returns-in_ok-at-in-Plain c =
    let k = c.args.c.now in
    let p = program_tree_of k.typed.program in
    let event = c.args.event.now in
    let plan = c.args.plan.now in
    let ready = c.requires.ready in
    let typed = checked-typed k in
    let differ = names-differ k in
    let plain = needed-plain p differ event in
    let work = c.as_slice.result.now in
    let decls = c.as_slice-2.result.now in
    let decls_are = c.as_slice-2.ensures ∙ ap (λ (q : Program). q.decls) (c.program.ensures ∙ ap (λ (t : Typed). t.program) c.typed.ensures) in
    let a = assign-of k event plan ready c.args.k c.requires.inside work c.as_slice.ensures decls decls_are in
    let d = c.index-as_slice-assign.result in
    let e = tree_of c.in-Plain.e in
    let it = by-itself k event plan ready c.args.k c.requires.inside work c.as_slice.ensures decls decls_are d c.index-as_slice-assign.is e (ap behaviour_of c.in-Plain.is) in
    plain-step p typed differ event plan ready plain c.args.k a (decl_of d) e it c.args.draft.now c.add.new.self c.requires.so_far c.in_ok-at-in-Plain.at (c.in_ok-at-in-Plain.ensures d.ty (typed-as p typed differ event plan ready plain c.args.k a (decl_of d) e it)) (ap behaviour_of c.in-Plain.is)
    (record { ops = c.add.new.self.ops; cells = c.bind-in-Plain.new.self; copies = c.add.new.self.copies; states = c.add.new.self.states }) refl refl refl
    (c.bind-in-Plain.ensures.kept p (plain-ours p typed differ event plan ready plain c.args.k a (decl_of d) e it c.args.draft.now c.add.new.self c.requires.so_far c.in_ok-at-in-Plain.at (c.in_ok-at-in-Plain.ensures d.ty (typed-as p typed differ event plan ready plain c.args.k a (decl_of d) e it))))
    c.bind-in-Plain.ensures.binds
