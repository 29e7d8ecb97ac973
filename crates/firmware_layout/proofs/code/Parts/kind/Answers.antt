use Rattle.std.proofs.Common.{arith, sym, ◌∙◌}
use Rattle.firmware_layout.specs.Codes.{makings_of, program_in}
use Rattle.firmware_layout.proofs.CodeFacts.{bottom_kind, long_kind, middle_kind, short_kind}
use Rattle.firmware_layout.proofs.code.Parts.kind.Goals as goal

pub returns-then-level-eq1 : goal.returns-then-level-eq1
returns-then-level-eq1 c = λ spread source.
    let p = program_in c.args.self.now in
    bottom_kind (makings_of c.args.self.now spread source) c.args.event c.level-level.result c.count.result
    (c.level-level.ensures p c.requires.parts.levels) (c.count.ensures p c.requires.parts.levels) (omega (arith, c.if-level-count.true)) c.if-level-eq1.true

pub returns-else-level-eq1 : goal.returns-else-level-eq1
returns-else-level-eq1 c = λ spread source.
    let p = program_in c.args.self.now in
    middle_kind (makings_of c.args.self.now spread source) c.args.event c.level-level.result c.count.result
    (c.level-level.ensures p c.requires.parts.levels) (c.count.ensures p c.requires.parts.levels) (omega (arith, c.if-level-count.true)) c.if-level-eq1.false

pub returns-then-is_short : goal.returns-then-is_short
returns-then-is_short c = λ spread source.
    let p = program_in c.args.self.now in
    short_kind (makings_of c.args.self.now spread source) c.args.event c.level-level.result c.count.result
    (c.level-level.ensures p c.requires.parts.levels) (c.count.ensures p c.requires.parts.levels) (omega (arith, c.if-level-count.false))
    (sym (c.is_short.ensures spread source) ∙ c.if-is_short.true)

pub returns-else-is_short : goal.returns-else-is_short
returns-else-is_short c = λ spread source.
    let p = program_in c.args.self.now in
    long_kind (makings_of c.args.self.now spread source) c.args.event c.level-level.result c.count.result
    (c.level-level.ensures p c.requires.parts.levels) (c.count.ensures p c.requires.parts.levels) (omega (arith, c.if-level-count.false))
    (sym (c.is_short.ensures spread source) ∙ c.if-is_short.false)
