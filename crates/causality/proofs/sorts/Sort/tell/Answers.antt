use Rattle.std.proofs.Common.{◌≡◌, ◌-◌, sym, ap, subst, ◌∙◌, length, arith, true, []}
use Rattle.std.proofs.lemmas.List.{get_or_read}
use Rattle.linked_rows.specs.Rows.{row}
use Rattle.causality.specs.declared.edges.Edge.{Edge}
use Rattle.causality.specs.Graphs.{is_marked}
use Rattle.causality.specs.Waits.{Waits, user_of}
use Rattle.causality.proofs.WaitFacts.{begin-telling, end-telling, waits-some, user-in, user-free, no-first, unchanged}
use Rattle.causality.proofs.sorts.Sort.tell.Goals as goal

pub lower-is_ready-requires-clause-some : goal.lower-is_ready-requires-clause-some
lower-is_ready-requires-clause-some c =
    let g = c.args.graph.now in
    let es = c.loop-node.self.edges.items in
    let placed = c.loop-node.self.placed.items in
    let waits = c.loop-node.self.waits.items in
    let rows = c.loop-node.self.rows in
    let next = c.pop_front.new.self in
    let told = begin-telling g es placed waits rows next c.args.i c.in-Some.node c.loop-node.invariant.waits c.requires.inside
    (subst (λ m. is_marked m c.args.i ≡ true) (sym c.loop-node.invariant.placed) c.requires.placed) c.in-Some.ensures.answer c.in-Some.ensures.left in
    let is_user : user_of es (length g) c.in-Some.node ≡ c.index.result.now.user =
    (let a = told.1.0 in let b = told.1.1 in
    sym (ap (λ (f : Edge). f.user) (get_or_read es (c.in-Some.node - length g) c.index.result.now (omega (arith, a, b)) c.index.ensures (record { user = 0; used = 0 })))) in
    waits-some g es placed waits next c.in-Some.node (row next c.args.i) told.0 told.1 c.index.result.now.user is_user

pub put_if-requires-clause-node_in : goal.put_if-requires-clause-node_in
put_if-requires-clause-node_in c =
    let g = c.args.graph.now in
    let es = c.loop-node.self.edges.items in
    let placed = c.loop-node.self.placed.items in
    let waits = c.loop-node.self.waits.items in
    let rows = c.loop-node.self.rows in
    let next = c.pop_front.new.self in
    let told = begin-telling g es placed waits rows next c.args.i c.in-Some.node c.loop-node.invariant.waits c.requires.inside
    (subst (λ m. is_marked m c.args.i ≡ true) (sym c.loop-node.invariant.placed) c.requires.placed) c.in-Some.ensures.answer c.in-Some.ensures.left in
    let is_user : user_of es (length g) c.in-Some.node ≡ c.index.result.now.user =
    (let a = told.1.0 in let b = told.1.1 in
    sym (ap (λ (f : Edge). f.user) (get_or_read es (c.in-Some.node - length g) c.index.result.now (omega (arith, a, b)) c.index.ensures (record { user = 0; used = 0 })))) in
    let inside = user-in g es placed waits next c.in-Some.node (row next c.args.i) told.0 told.1 c.index.result.now.user is_user in
    let nodes = told.0.nodes in
    omega (arith, inside, nodes)

pub put_if-requires-clause-free : goal.put_if-requires-clause-free
put_if-requires-clause-free c ready =
    let g = c.args.graph.now in
    let es = c.loop-node.self.edges.items in
    let placed = c.loop-node.self.placed.items in
    let waits = c.loop-node.self.waits.items in
    let rows = c.loop-node.self.rows in
    let next = c.pop_front.new.self in
    let told = begin-telling g es placed waits rows next c.args.i c.in-Some.node c.loop-node.invariant.waits c.requires.inside
    (subst (λ m. is_marked m c.args.i ≡ true) (sym c.loop-node.invariant.placed) c.requires.placed) c.in-Some.ensures.answer c.in-Some.ensures.left in
    let is_user : user_of es (length g) c.in-Some.node ≡ c.index.result.now.user =
    (let a = told.1.0 in let b = told.1.1 in
    sym (ap (λ (f : Edge). f.user) (get_or_read es (c.in-Some.node - length g) c.index.result.now (omega (arith, a, b)) c.index.ensures (record { user = 0; used = 0 })))) in
    user-free g es placed waits next c.in-Some.node (row next c.args.i) told.0 told.1 c.index.result.now.user is_user

pub loop-node-preserved : goal.loop-node-preserved
loop-node-preserved c =
    let g = c.args.graph.now in
    let es = c.loop-node.self.edges.items in
    let placed = c.loop-node.self.placed.items in
    let waits = c.loop-node.self.waits.items in
    let rows = c.loop-node.self.rows in
    let next = c.pop_front.new.self in
    let told = begin-telling g es placed waits rows next c.args.i c.in-Some.node c.loop-node.invariant.waits c.requires.inside
    (subst (λ m. is_marked m c.args.i ≡ true) (sym c.loop-node.invariant.placed) c.requires.placed) c.in-Some.ensures.answer c.in-Some.ensures.left in
    let is_user : user_of es (length g) c.in-Some.node ≡ c.index.result.now.user =
    (let a = told.1.0 in let b = told.1.1 in
    sym (ap (λ (f : Edge). f.user) (get_or_read es (c.in-Some.node - length g) c.index.result.now (omega (arith, a, b)) c.index.ensures (record { user = 0; used = 0 })))) in
    let done = end-telling g es placed waits c.lower-is_ready.new.waits.items next c.put_if.new.rows c.args.i c.in-Some.node c.index.result.now.user c.lower-is_ready.result
    told.0 told.1 c.requires.inside is_user c.lower-is_ready.ensures.answer c.lower-is_ready.ensures.lowered c.put_if.ensures in
    record {
      waits = done;
      placed = c.loop-node.invariant.placed;
      nodes = done.nodes ∙ sym c.loop-node.invariant.waits.nodes ∙ c.loop-node.invariant.nodes;
    }

pub returns-clause-waits : goal.returns-clause-waits
returns-clause-waits c =
    let g = c.args.graph.now in
    let es = c.loop-node.self.edges.items in
    let placed = c.loop-node.self.placed.items in
    let waits = c.loop-node.self.waits.items in
    let rows = c.loop-node.self.rows in
    let none = no-first c.pop_front.result (row rows c.args.i) c.in_default.not-Some c.pop_front.ensures.answer in
    subst (λ v. Waits g es placed waits v []) (sym (unchanged rows c.pop_front.new.self c.args.i none c.pop_front.ensures.left))
    (subst (Waits g es placed waits rows) none c.loop-node.invariant.waits)
