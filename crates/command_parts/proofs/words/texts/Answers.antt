use Rattle.std.proofs.Common.{◌∙◌, refl, rules, map, map-id, string_bytes, ap, sym}
use Rattle.std.proofs.lemmas.Iterator.Adapters.{YieldsList-from_vec, YieldsList-from_skip}
use Rattle.std.proofs.lemmas.Iterator.Consumers.{YieldsList-at, YieldsList-end}
use Rattle.std.specs.Vec.Iter.{into_iter_items}
use Rattle.command_parts.proofs.words.texts.Goals as goal

-- the loop has seen all arguments but the first
pub returns-clause-words : goal.returns-clause-words
returns-clause-words c =
    let all = YieldsList-from_vec {s = c.args.arguments} (into_iter_items c.args.arguments) refl (search rules) in
    let seen = YieldsList-end
    (YieldsList-at c.into_iter-word-iterator.ensures.into_iter_gives
    (YieldsList-from_skip 1 (YieldsList-at c.skip-word-items.ensures.source all) c.skip-word-items.ensures.count))
    c.loop-word.yielded c.loop-word.word-iterator c.loop-word.yielded_by c.next.result c.next.new.self c.in-None.is c.next.ensures.steps in
    c.loop-word.invariant ∙ ap (λ words. map string_bytes words) (sym (map-id c.loop-word.yielded) ∙ seen.0)
