use Rattle.std.proofs.Common.{◌≡◌, ◌<◌, ◌||◌, ap, sym, subst, ◌∙◌}
use Rattle.text_parts.specs.Fields.{fields_of}
use Rattle.pic_regs.specs.Arrivals.{set_of}
use Rattle.arrival_script.proofs.SourceFacts.{number_of-below}
use Rattle.arrival_script.proofs.NameFacts.{NamesSoFar, named_by, names-more, names-set}
use Rattle.arrival_script.proofs.entries.sources_of.Goals as goal
use Rattle.arrival_script.proofs.entries.sources_of.Goals.{then-twice, else-twice}

pub with-set-requires : goal.with-set-requires
with-set-requires c = subst (λ n. n < 2048) (sym c.loop-name.invariant.named) (number_of-below (named_by c.loop-name.invariant.seen))

pub loop-name-preserved : goal.loop-name-preserved
loop-name-preserved c =
    let all = fields_of c.args.text.now in
    let more = fields_of c.in-Some.more.now in
    let has = set_of c.loop-name.set c.in-Some-source_of.source in
    let twice : c.if-twice.twice ≡ (c.loop-name.twice || has) =
    elim c.if-twice.branch [
      | then-twice w ↦ w.twice-is ∙ w.if-twice.true ∙ sym (ap (λ b. b || has) w.if-twice.true)
      | else-twice w ↦ w.twice-is ∙ w.has-twice.ensures ∙ sym (ap (λ b. b || has) w.if-twice.false)
    ] in
    let so = names-more all (fields_of c.loop-name.rest.now) c.loop-name.set c.loop-name.twice c.in-Some.name.now more c.in-Some-source_of.source c.loop-name.invariant c.in-Some.ensures.field c.in-Some-source_of.ensures.1 in
    subst (λ set. NamesSoFar all more set c.if-twice.twice) (sym c.with-set.ensures) (subst (NamesSoFar all more _) (sym twice) so)

pub returns-else-twice-2 : goal.returns-else-twice-2
returns-else-twice-2 c = names-set (fields_of c.args.text.now) (fields_of c.loop-name.rest.now) c.loop-name.set c.loop-name.twice c.loop-name.invariant c.in_default.ensures.field c.if-twice-2.false
