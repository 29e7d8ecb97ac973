use Rattle.std.proofs.Common.{◌≡◌, ◌≢◌, ◌<◌, ◌++◌, ◌∷◌, [], ◌+◌, length, set, sym, subst, ◌∙◌}
use Rattle.std.proofs.lemmas.List.{with_items_is}
use Rattle.linked_rows.specs.Links.{prev_at, IsPutIn, IsLinked, lists_in, lists_of}
use Rattle.linked_rows.specs.Rows.{row, with_row}
use Rattle.linked_rows.proofs.LinkedFacts.{kept}
use Rattle.linked_rows.proofs.RowFacts.{same_nodes, shows, ready_back, back_linked}
use Rattle.linked_rows.proofs.rows.Rows.push_back.Goals as goal

pub put_in-requires-clause-prev_in : goal.put_in-requires-clause-prev_in
put_in-requires-clause-prev_in c = subst (λ s. prev_at s (c.self.inside.nodes + c.args.list) < length s) (sym c.deref_mut.ensures.value) (ready_back c.self.inside.links.items c.self.inside.nodes c.args.self.now c.self.invariant c.self.view_is c.args.list c.args.node c.requires.list_in c.requires.node_in c.requires.free).2

pub put_in-requires-clause-apart_from_prev : goal.put_in-requires-clause-apart_from_prev
put_in-requires-clause-apart_from_prev c = subst (λ s. c.args.node ≢ prev_at s (c.self.inside.nodes + c.args.list)) (sym c.deref_mut.ensures.value) (ready_back c.self.inside.links.items c.self.inside.nodes c.args.self.now c.self.invariant c.self.view_is c.args.list c.args.node c.requires.list_in c.requires.node_in c.requires.free).4

pub invariant_of-self : goal.invariant_of-self
invariant_of-self c =
    let put = subst (λ s. IsPutIn s c.put_in.new.links c.args.list c.args.node (c.self.inside.nodes + c.args.list)) c.deref_mut.ensures.value c.put_in.ensures in
    subst (λ s. IsLinked s c.self.inside.nodes (lists_in s c.self.inside.nodes)) (sym (with_items_is c.self.inside.links c.put_in.new.links (c.put_in.ensures.size ∙ c.deref_mut.ensures.len)))
    (kept c.put_in.new.links c.self.inside.nodes (set c.args.self.now.lists c.args.list (row c.args.self.now c.args.list ++ c.args.node ∷ []))
    (back_linked c.self.inside.links.items c.self.inside.nodes c.args.self.now c.self.invariant c.self.view_is c.put_in.new.links c.args.list c.args.node c.requires.list_in c.requires.node_in c.requires.free put))

pub returns : goal.returns
returns c =
    let put = subst (λ s. IsPutIn s c.put_in.new.links c.args.list c.args.node (c.self.inside.nodes + c.args.list)) c.deref_mut.ensures.value c.put_in.ensures in
    subst (λ s. lists_of s c.self.inside.nodes ≡ with_row c.args.self.now c.args.list (row c.args.self.now c.args.list ++ c.args.node ∷ [])) (sym (with_items_is c.self.inside.links c.put_in.new.links (c.put_in.ensures.size ∙ c.deref_mut.ensures.len)))
    (shows c.put_in.new.links c.self.inside.nodes c.args.self.now c.args.list (row c.args.self.now c.args.list ++ c.args.node ∷ []) (same_nodes c.self.inside.links.items c.self.inside.nodes c.args.self.now c.self.invariant c.self.view_is)
    (back_linked c.self.inside.links.items c.self.inside.nodes c.args.self.now c.self.invariant c.self.view_is c.put_in.new.links c.args.list c.args.node c.requires.list_in c.requires.node_in c.requires.free put))
