use Rattle.std.proofs.Common.{sym, subst, ◌∙◌, length, map, replicate, false, []}
use Rattle.std.proofs.lemmas.List.{length-map}
use Rattle.causality.specs.Waits.{AreReady, AreUsers, Waits}
use Rattle.causality.proofs.WaitFacts.{waits-begin}
use Rattle.causality.proofs.sorts.Sort.new.Goals as goal

pub returns-clause-waits : goal.returns-clause-waits
returns-clause-waits c =
    let g = c.args.graph.now in
    let es = c.in_ok-edges.edges.items in
    let users = c.in_ok-rows.rows in
    let rows = c.put_ready.new.rows in
    let users_are = subst (λ xs. AreUsers (length g) xs (length xs) users) c.deref.ensures.value c.in_ok-rows.ensures in
    let ws = c.deref-2.ensures.value ∙ c.in_ok-waits.ensures in
    let ready = subst (λ ws. AreReady ws (length ws) (length ws) users rows) ws c.put_ready.ensures in
    let ready_are = subst (λ n. AreReady (map length g) n n users rows) (length-map g length) ready in
    subst (λ ps. Waits g es ps c.in_ok-waits.waits.items rows []) (sym c.in_ok-placed.ensures)
    (subst (λ ws. Waits g es (replicate (length g) false) ws rows []) (sym c.in_ok-waits.ensures) (waits-begin g es users rows c.in_ok-edges.ensures users_are ready_are))
