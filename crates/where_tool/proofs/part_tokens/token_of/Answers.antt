use Rattle.std.proofs.Common.{ap, ◌-◌, ◌∙◌}
use Rattle.frp_tree.specs.declared.kinds.Kind.TheVariants.{Definitions, Entries, Nodes}
use Rattle.where_tool.specs.PartTokens.{before_nodes, head_of}
use Rattle.where_tool.proofs.PlaceFacts.{note-place}
use Rattle.where_tool.proofs.part_tokens.token_of.Goals as goal

pub returns-in-Event-clause-is : goal.returns-in-Event-clause-is
returns-in-Event-clause-is c = λ cells spelled noted. rw c.in-Event.is (c.head.ensures.is cells noted)

pub returns-in-Setup-clause-is : goal.returns-in-Setup-clause-is
returns-in-Setup-clause-is c = λ cells spelled noted. rw c.in-Setup.is (c.head-in-Setup.ensures.is cells noted)

pub returns-in-Decl-clause-is : goal.returns-in-Decl-clause-is
returns-in-Decl-clause-is c = λ cells spelled noted. rw c.in-Decl.is (c.head-in-Decl.ensures.is cells noted)

pub returns-in-Output-clause-is : goal.returns-in-Output-clause-is
returns-in-Output-clause-is c = λ cells spelled noted. rw c.in-Output.is (c.head-in-Output.ensures.is cells noted)

pub returns-in-Clause-clause-is : goal.returns-in-Clause-clause-is
returns-in-Clause-clause-is c = λ cells spelled noted. rw c.in-Clause.is (c.token_before.ensures ∙ ap (λ n. n - 1) (c.arrow.ensures.is cells spelled noted))

pub returns-in-Entry-clause-is : goal.returns-in-Entry-clause-is
returns-in-Entry-clause-is c =
    λ cells spelled noted. rw c.in-Entry.is
    (note-place Entries c.head-from.result (head_of Definitions c.in-Entry.decl cells) c.in-Entry.entry c.note_behind.result c.args.notes.now cells c.note_behind.ensures.is (c.head-from.ensures.is cells noted) noted)

pub returns-in-Node-clause-is : goal.returns-in-Node-clause-is
returns-in-Node-clause-is c =
    λ cells spelled noted. rw c.in-Node.is
    (note-place Nodes c.before_nodes-from.result (before_nodes c.in-Node.host cells) c.in-Node.node c.note_behind-in-Node.result c.args.notes.now cells c.note_behind-in-Node.ensures.is
    (c.before_nodes-from.ensures.is cells spelled noted) noted)
