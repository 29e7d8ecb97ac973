use Rattle.std.proofs.Common.{refl, sym, subst}
use Rattle.std.proofs.lemmas.Bool.{false≢true}
use Rattle.map_file.proofs.ReadingFacts.{HasRead, read_start, read_more, no_entry, not_added, no_line_there, read_whole, faulty_no_map, read_alone}
use Rattle.map_file.proofs.reader.read.Goals as goal

pub loop-line-init : goal.loop-line-init
loop-line-init c = subst (HasRead c.args.bytes.now c.args.bytes.now 1) (sym c.empty-draft.ensures) (read_start c.args.bytes.now)

pub returns-in_default-2-clause-fault : goal.returns-in_default-2-clause-fault
returns-in_default-2-clause-fault c =
    let line = c.in-Some.ensures in
    no_entry c.args.bytes.now c.loop-line.rest.now c.in-Some.line.now c.in-Some.after.now c.loop-line.number c.loop-line.draft c.loop-line.invariant line.1 line.0 (rw c.in_default-2.is at c.in_ok-entry.ensures)

pub returns-in_default-2-clause-complete : goal.returns-in_default-2-clause-complete
returns-in_default-2-clause-complete c = faulty_no_map _ _ (returns-in_default-2-clause-fault c)

pub returns-then-not-added-clause-fault : goal.returns-then-not-added-clause-fault
returns-then-not-added-clause-fault c =
    let line = c.in-Some.ensures in
    let entry = rw c.in-Some-2.is at c.in_ok-entry.ensures in
    let refused = rw c.if-not-added.true at c.in_ok-added.ensures in
    not_added c.args.bytes.now c.loop-line.rest.now c.in-Some.line.now c.in-Some.after.now c.loop-line.number c.loop-line.draft c.add.new.draft c.in-Some-2.entry c.loop-line.invariant line.1 line.0 entry.0 entry.1 refused

pub returns-then-not-added-clause-complete : goal.returns-then-not-added-clause-complete
returns-then-not-added-clause-complete c = faulty_no_map _ _ (returns-then-not-added-clause-fault c)

pub loop-line-preserved : goal.loop-line-preserved
loop-line-preserved c =
    let line = c.in-Some.ensures in
    let entry = rw c.in-Some-2.is at c.in_ok-entry.ensures in
    let added = rw c.if-not-added.false at c.in_ok-added.ensures in
    read_more c.args.bytes.now c.loop-line.rest.now c.in-Some.line.now c.in-Some.after.now c.loop-line.number c.loop-line.draft c.add.new.draft c.in-Some-2.entry c.loop-line.invariant line.1 entry.1 entry.0 added

pub returns-then-not-is_whole-clause-fault : goal.returns-then-not-is_whole-clause-fault
returns-then-not-is_whole-clause-fault c =
    no_line_there c.args.bytes.now c.loop-line.rest.now c.loop-line.number c.loop-line.draft c.loop-line.invariant c.in_default.ensures (λ none end. false≢true (c.if-not-is_whole.ensures.1 (none, end)))

pub returns-then-not-is_whole-clause-complete : goal.returns-then-not-is_whole-clause-complete
returns-then-not-is_whole-clause-complete c = faulty_no_map _ _ (returns-then-not-is_whole-clause-fault c)

pub returns-clause-map : goal.returns-clause-map
returns-clause-map c =
    let whole = c.if-not-is_whole.ensures.0 refl in
    read_whole c.args.bytes.now c.loop-line.rest.now c.loop-line.number c.loop-line.draft c.loop-line.invariant whole.0 whole.1

pub returns-clause-complete : goal.returns-clause-complete
returns-clause-complete c = read_alone _ _ (returns-clause-map c)
