use Rattle.std.proofs.Common.{arith}
use Rattle.hex_file.proofs.RunFacts.{first_record, follow_more}
use Rattle.hex_file.proofs.writer.record_len.Goals as goal

pub loop-count-preserved : goal.loop-count-preserved
loop-count-preserved c =
    let loop = c.loop-count in
    record {
      some = omega arith;
      at_most = omega arith;
      follow = follow_more c.args.words.now loop.count _ loop.invariant.some (omega arith) loop.invariant.follow c.if-words-count.true;
    }

pub returns-else-words-count-clause-records : goal.returns-else-words-count-clause-records
returns-else-words-count-clause-records c =
    let loop = c.loop-count in
    first_record c.args.words.now loop.count _ loop.invariant.some (omega arith) (omega arith) loop.invariant.follow
    (λ _ _. c.if-words-count.false)

pub returns-after-loop-count-clause-records : goal.returns-after-loop-count-clause-records
returns-after-loop-count-clause-records c =
    let loop = c.loop-count in
    first_record c.args.words.now loop.count (record { address = 0; word = 0 }) loop.invariant.some (omega arith) (omega arith) loop.invariant.follow
    (λ more few. absurd (omega arith))
