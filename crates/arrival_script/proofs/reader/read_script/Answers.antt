use Rattle.arrival_script.proofs.ReadFacts.{read-more}
use Rattle.arrival_script.proofs.reader.read_script.Goals as goal

pub loop-line-preserved : goal.loop-line-preserved
loop-line-preserved c =
    let so = c.loop-line.invariant in
    read-more c.args.bytes.now c.loop-line.rest.now c.loop-line.count c.loop-line.draft c.in-Some.line.now c.in-Some.more.now c.read_line.new.self so c.in-Some.ensures.line c.in-Some.ensures.shorter (c.in_ok-read_line.ensures so.seen so.draft)
