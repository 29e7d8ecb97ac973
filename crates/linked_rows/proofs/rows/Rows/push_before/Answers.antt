use Rattle.std.proofs.Common.{◌≡◌, ◌≢◌, ◌<◌, ◌++◌, ◌∷◌, length, set, sym, ap, subst, ◌∙◌, arith}
use Rattle.std.proofs.lemmas.List.{with_items_is, length-set}
use Rattle.linked_rows.specs.Links.{prev_at, IsPutIn, IsLinked, lists_in, lists_of}
use Rattle.linked_rows.specs.Rows.{with_row}
use Rattle.linked_rows.proofs.LinkedFacts.{kept}
use Rattle.linked_rows.proofs.RowFacts.{same_nodes, shows, standing, below, its_list, ready_before, before_linked}
use Rattle.linked_rows.proofs.rows.Rows.push_before.Goals as goal

pub put_in-requires-clause-at_in : goal.put_in-requires-clause-at_in
put_in-requires-clause-at_in c = let st = standing c.self.inside.links.items c.self.inside.nodes c.args.self.now c.self.invariant c.self.view_is c.args.at c.requires.placed in subst (λ s. c.args.at < length s) (sym c.deref_mut.ensures.value) (ready_before c.self.inside.links.items c.self.inside.nodes c.args.self.now c.self.invariant c.self.view_is c.args.node c.args.at st.0 st.1 st.2 st.3 c.requires.node_in c.requires.free).1

pub put_in-requires-clause-prev_in : goal.put_in-requires-clause-prev_in
put_in-requires-clause-prev_in c = let st = standing c.self.inside.links.items c.self.inside.nodes c.args.self.now c.self.invariant c.self.view_is c.args.at c.requires.placed in subst (λ s. prev_at s c.args.at < length s) (sym c.deref_mut.ensures.value) (ready_before c.self.inside.links.items c.self.inside.nodes c.args.self.now c.self.invariant c.self.view_is c.args.node c.args.at st.0 st.1 st.2 st.3 c.requires.node_in c.requires.free).2

pub put_in-requires-clause-apart_from_prev : goal.put_in-requires-clause-apart_from_prev
put_in-requires-clause-apart_from_prev c = let st = standing c.self.inside.links.items c.self.inside.nodes c.args.self.now c.self.invariant c.self.view_is c.args.at c.requires.placed in subst (λ s. c.args.node ≢ prev_at s c.args.at) (sym c.deref_mut.ensures.value) (ready_before c.self.inside.links.items c.self.inside.nodes c.args.self.now c.self.invariant c.self.view_is c.args.node c.args.at st.0 st.1 st.2 st.3 c.requires.node_in c.requires.free).4

pub put_in-requires-clause-apart : goal.put_in-requires-clause-apart
put_in-requires-clause-apart c = let st = standing c.self.inside.links.items c.self.inside.nodes c.args.self.now c.self.invariant c.self.view_is c.args.at c.requires.placed in (ready_before c.self.inside.links.items c.self.inside.nodes c.args.self.now c.self.invariant c.self.view_is c.args.node c.args.at st.0 st.1 st.2 st.3 c.requires.node_in c.requires.free).3

pub index-requires : goal.index-requires
index-requires c = omega (arith, below c.self.inside.links.items c.self.inside.nodes c.args.self.now c.self.invariant c.self.view_is c.args.at c.requires.placed, c.self.inside.links.ok.0)

pub invariant_of-self : goal.invariant_of-self
invariant_of-self c =
    let st = standing c.self.inside.links.items c.self.inside.nodes c.args.self.now c.self.invariant c.self.view_is c.args.at c.requires.placed in
    let put = subst (λ s. IsPutIn s c.put_in.new.links c.in-Some.list c.args.node c.args.at) c.deref_mut.ensures.value c.put_in.ensures in
    subst (λ s. IsLinked s c.self.inside.nodes (lists_in s c.self.inside.nodes)) (sym (with_items_is c.self.inside.links c.put_in.new.links (c.put_in.ensures.size ∙ c.deref_mut.ensures.len)))
    (kept c.put_in.new.links c.self.inside.nodes (set c.args.self.now.lists st.0 (st.1 ++ c.args.node ∷ c.args.at ∷ st.2))
    (before_linked c.self.inside.links.items c.self.inside.nodes c.args.self.now c.self.invariant c.self.view_is c.put_in.new.links c.args.node c.args.at c.index.result.now c.in-Some.list st.0 st.1 st.2 c.index.ensures c.in-Some.is st.3 c.requires.node_in c.requires.free put))

pub returns-in-Some-clause-moved : goal.returns-in-Some-clause-moved
returns-in-Some-clause-moved c l a b st =
    let put = subst (λ s. IsPutIn s c.put_in.new.links c.in-Some.list c.args.node c.args.at) c.deref_mut.ensures.value c.put_in.ensures in
    subst (λ s. lists_of s c.self.inside.nodes ≡ with_row c.args.self.now l (a ++ c.args.node ∷ c.args.at ∷ b)) (sym (with_items_is c.self.inside.links c.put_in.new.links (c.put_in.ensures.size ∙ c.deref_mut.ensures.len)))
    (shows c.put_in.new.links c.self.inside.nodes c.args.self.now l (a ++ c.args.node ∷ c.args.at ∷ b) (same_nodes c.self.inside.links.items c.self.inside.nodes c.args.self.now c.self.invariant c.self.view_is)
    (before_linked c.self.inside.links.items c.self.inside.nodes c.args.self.now c.self.invariant c.self.view_is c.put_in.new.links c.args.node c.args.at c.index.result.now c.in-Some.list l a b c.index.ensures c.in-Some.is st c.requires.node_in c.requires.free put))

pub returns-in_default-clause-moved : goal.returns-in_default-clause-moved
returns-in_default-clause-moved c l a b st = let told = its_list c.self.inside.links.items c.self.inside.nodes c.args.self.now c.self.invariant c.self.view_is c.args.at c.index.result.now l a b c.index.ensures st in absurd (c.in_default.not-Some l told)

pub returns-in-Some-clause-lists : goal.returns-in-Some-clause-lists
returns-in-Some-clause-lists c = let st = standing c.self.inside.links.items c.self.inside.nodes c.args.self.now c.self.invariant c.self.view_is c.args.at c.requires.placed in ap (λ v. length v.lists) (returns-in-Some-clause-moved c st.0 st.1 st.2 st.3) ∙ length-set c.args.self.now.lists st.0 (st.1 ++ c.args.node ∷ c.args.at ∷ st.2)

pub returns-in-Some-clause-nodes : goal.returns-in-Some-clause-nodes
returns-in-Some-clause-nodes c = same_nodes c.self.inside.links.items c.self.inside.nodes c.args.self.now c.self.invariant c.self.view_is
