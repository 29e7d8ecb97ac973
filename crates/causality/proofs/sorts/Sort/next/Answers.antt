use Rattle.std.proofs.Common.{sym, subst, length, set, true, drop}
use Rattle.linked_rows.specs.Rows.{IsFree, row}
use Rattle.causality.specs.Waits.{Waits}
use Rattle.causality.proofs.WaitFacts.{head-row, is-next, none-next, waits-place, none-first}
use Rattle.causality.proofs.sorts.Sort.next.Goals as goal

pub tell-requires-clause-waits : goal.tell-requires-clause-waits
tell-requires-clause-waits c =
    let g = c.args.graph.now in
    let es = c.args.self.now.edges.items in
    let placed = c.args.self.now.placed.items in
    let waits = c.args.self.now.waits.items in
    let rows = c.args.self.now.rows in
    let i = c.in-Some.node in
    let rest = drop 1 (row rows (length g)) in
    let first = head-row (row rows (length g)) i c.in-Some.ensures.answer in
    let free = subst (λ v. IsFree v i) c.in-Some.ensures.left c.in-Some.ensures.free in
    subst (λ v. Waits g es (set placed i true) waits v (row v i)) (sym c.in-Some.ensures.left) (waits-place g es placed waits rows c.requires.waits i rest first free)

pub returns-in-Some-clause-answer : goal.returns-in-Some-clause-answer
returns-in-Some-clause-answer c =
    let g = c.args.graph.now in
    let rows = c.args.self.now.rows in
    let i = c.in-Some.node in
    let first = head-row (row rows (length g)) i c.in-Some.ensures.answer in
    let free = subst (λ v. IsFree v i) c.in-Some.ensures.left c.in-Some.ensures.free in
    is-next g c.args.self.now.edges.items c.args.self.now.placed.items c.args.self.now.waits.items rows c.requires.waits i (drop 1 (row rows (length g))) first free

pub returns-in-None-clause-answer : goal.returns-in-None-clause-answer
returns-in-None-clause-answer c =
    let g = c.args.graph.now in
    let rows = c.args.self.now.rows in
    none-next g c.args.self.now.edges.items c.args.self.now.placed.items c.args.self.now.waits.items rows c.requires.waits
    (none-first (row rows (length g)) c.in-None.ensures.answer)
