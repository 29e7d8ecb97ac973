use Rattle.std.proofs.Common.{◌≡◌, ◌≢◌, ◌<◌, ◌++◌, length, set, sym, ap, subst, ◌∙◌}
use Rattle.std.proofs.lemmas.List.{with_items_is, length-set}
use Rattle.linked_rows.specs.Links.{prev_at, next_at, IsTakenOut, IsLinked, lists_in, lists_of}
use Rattle.linked_rows.specs.Rows.{IsFree, with_row}
use Rattle.linked_rows.proofs.LinkedFacts.{kept}
use Rattle.linked_rows.proofs.RowFacts.{same_nodes, shows, standing, ready_out, out_linked, out_free, below_all}
use Rattle.linked_rows.proofs.rows.Rows.remove.Goals as goal

pub take_out-requires-clause-place_in : goal.take_out-requires-clause-place_in
take_out-requires-clause-place_in c = let st = standing c.self.inside.links.items c.self.inside.nodes c.args.self.now c.self.invariant c.self.view_is c.args.node c.requires in subst (λ s. c.args.node < length s) (sym c.deref_mut.ensures.value) (ready_out c.self.inside.links.items c.self.inside.nodes c.args.self.now c.self.invariant c.self.view_is c.args.node st.0 st.1 st.2 st.3).0

pub take_out-requires-clause-prev_in : goal.take_out-requires-clause-prev_in
take_out-requires-clause-prev_in c = let st = standing c.self.inside.links.items c.self.inside.nodes c.args.self.now c.self.invariant c.self.view_is c.args.node c.requires in subst (λ s. prev_at s c.args.node < length s) (sym c.deref_mut.ensures.value) (ready_out c.self.inside.links.items c.self.inside.nodes c.args.self.now c.self.invariant c.self.view_is c.args.node st.0 st.1 st.2 st.3).1

pub take_out-requires-clause-next_in : goal.take_out-requires-clause-next_in
take_out-requires-clause-next_in c = let st = standing c.self.inside.links.items c.self.inside.nodes c.args.self.now c.self.invariant c.self.view_is c.args.node c.requires in subst (λ s. next_at s c.args.node < length s) (sym c.deref_mut.ensures.value) (ready_out c.self.inside.links.items c.self.inside.nodes c.args.self.now c.self.invariant c.self.view_is c.args.node st.0 st.1 st.2 st.3).2

pub take_out-requires-clause-apart_from_prev : goal.take_out-requires-clause-apart_from_prev
take_out-requires-clause-apart_from_prev c = let st = standing c.self.inside.links.items c.self.inside.nodes c.args.self.now c.self.invariant c.self.view_is c.args.node c.requires in subst (λ s. c.args.node ≢ prev_at s c.args.node) (sym c.deref_mut.ensures.value) (ready_out c.self.inside.links.items c.self.inside.nodes c.args.self.now c.self.invariant c.self.view_is c.args.node st.0 st.1 st.2 st.3).3

pub take_out-requires-clause-apart_from_next : goal.take_out-requires-clause-apart_from_next
take_out-requires-clause-apart_from_next c = let st = standing c.self.inside.links.items c.self.inside.nodes c.args.self.now c.self.invariant c.self.view_is c.args.node c.requires in subst (λ s. c.args.node ≢ next_at s c.args.node) (sym c.deref_mut.ensures.value) (ready_out c.self.inside.links.items c.self.inside.nodes c.args.self.now c.self.invariant c.self.view_is c.args.node st.0 st.1 st.2 st.3).4

pub invariant_of-self : goal.invariant_of-self
invariant_of-self c =
    let st = standing c.self.inside.links.items c.self.inside.nodes c.args.self.now c.self.invariant c.self.view_is c.args.node c.requires in
    let out = subst (λ s. IsTakenOut s c.take_out.new.links c.args.node) c.deref_mut.ensures.value c.take_out.ensures in
    subst (λ s. IsLinked s c.self.inside.nodes (lists_in s c.self.inside.nodes)) (sym (with_items_is c.self.inside.links c.take_out.new.links (c.take_out.ensures.size ∙ c.deref_mut.ensures.len)))
    (kept c.take_out.new.links c.self.inside.nodes (set c.args.self.now.lists st.0 (st.1 ++ st.2))
    (out_linked c.self.inside.links.items c.self.inside.nodes c.args.self.now c.self.invariant c.self.view_is c.take_out.new.links c.args.node st.0 st.1 st.2 st.3 out))

pub returns-clause-moved : goal.returns-clause-moved
returns-clause-moved c l a b st =
    let out = subst (λ s. IsTakenOut s c.take_out.new.links c.args.node) c.deref_mut.ensures.value c.take_out.ensures in
    subst (λ s. lists_of s c.self.inside.nodes ≡ with_row c.args.self.now l (a ++ b)) (sym (with_items_is c.self.inside.links c.take_out.new.links (c.take_out.ensures.size ∙ c.deref_mut.ensures.len)))
    (shows c.take_out.new.links c.self.inside.nodes c.args.self.now l (a ++ b) (same_nodes c.self.inside.links.items c.self.inside.nodes c.args.self.now c.self.invariant c.self.view_is)
    (out_linked c.self.inside.links.items c.self.inside.nodes c.args.self.now c.self.invariant c.self.view_is c.take_out.new.links c.args.node l a b st out))

pub returns-clause-lists : goal.returns-clause-lists
returns-clause-lists c = let st = standing c.self.inside.links.items c.self.inside.nodes c.args.self.now c.self.invariant c.self.view_is c.args.node c.requires in ap (λ v. length v.lists) (returns-clause-moved c st.0 st.1 st.2 st.3) ∙ length-set c.args.self.now.lists st.0 (st.1 ++ st.2)

pub returns-clause-nodes : goal.returns-clause-nodes
returns-clause-nodes c = same_nodes c.self.inside.links.items c.self.inside.nodes c.args.self.now c.self.invariant c.self.view_is

pub returns-clause-below : goal.returns-clause-below
returns-clause-below c = let st = standing c.self.inside.links.items c.self.inside.nodes c.args.self.now c.self.invariant c.self.view_is c.args.node c.requires in below_all c.self.inside.links.items c.self.inside.nodes c.args.self.now c.self.invariant c.self.view_is c.args.node c.requires

pub returns-clause-free : goal.returns-clause-free
returns-clause-free c =
    let st = standing c.self.inside.links.items c.self.inside.nodes c.args.self.now c.self.invariant c.self.view_is c.args.node c.requires in
    let out = subst (λ s. IsTakenOut s c.take_out.new.links c.args.node) c.deref_mut.ensures.value c.take_out.ensures in
    subst (λ v. IsFree v c.args.node) (sym (returns-clause-moved c st.0 st.1 st.2 st.3)) (out_free c.self.inside.links.items c.self.inside.nodes c.args.self.now c.self.invariant c.self.view_is c.take_out.new.links c.args.node st.0 st.1 st.2 st.3 out)
