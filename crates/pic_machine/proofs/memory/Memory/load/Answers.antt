use Rattle.std.proofs.Common.{refl, ◌∙◌, arith, length-set}
use Rattle.pic_machine.proofs.LoadFacts.{risen, all-erased, written-more, written-all}
use Rattle.pic_machine.proofs.memory.Memory.load.Goals as goal

pub new-requires : goal.new-requires
new-requires c =
    (risen 0 c.args.words.now c.requires c.loop-word.word-index (record { address = 0; word = 0 }) c.loop-word-test.true).2

pub bounds-cells-from : goal.bounds-cells-from
bounds-cells-from c =
    let in_range = risen 0 c.args.words.now c.requires c.loop-word.word-index (record { address = 0; word = 0 }) c.loop-word-test.true in
    omega (arith, c.from.ensures, in_range.1)

pub loop-word-init : goal.loop-word-init
loop-word-init c = record { length = refl; words = all-erased c.new-cells.result 8192 c.new-cells.ensures }

pub loop-word-preserved : goal.loop-word-preserved
loop-word-preserved c = record {
  length = length-set c.loop-word.cells c.from.result c.new.result ∙ c.loop-word.invariant.length;
  words =
      written-more c.args.words.now c.loop-word.cells c.from.result c.loop-word.word-index c.new.result (record { address = 0; word = 0 }) c.requires
      c.loop-word-test.true c.loop-word.invariant.length c.from.ensures c.new.ensures c.loop-word.invariant.words;
}

pub returns : goal.returns
returns c = written-all c.args.words.now c.loop-word.cells c.loop-word.word-index (omega arith) c.loop-word.invariant.words
