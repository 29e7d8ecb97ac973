use Rattle.std.proofs.Common.{◌≡◌, ◌<◌, length, false, sym, ◌∙◌, subst, arith}
use Rattle.std.proofs.lemmas.Bool.{eqb-true, eqb-false}
use Rattle.hex_file.proofs.ReadFacts.{AreRead, nothing_read, read_empty, read_line}
use Rattle.hex_file.proofs.reader.give_lines.Goals as goal

pub loop-line-init : goal.loop-line-init
loop-line-init c = record { few = omega arith; read = nothing_read c.args.bytes.now c.args.table.now c.requires.empty }

pub loop-line-preserved : goal.loop-line-preserved
loop-line-preserved c =
    let none : length c.in-Some.line.now ≡ 0 = eqb-true _ _ (sym c.is_empty.ensures ∙ c.if-not-is_empty.false) in
    record {
      few = omega (arith, c.in-Some.ensures.shorter, c.loop-line.invariant.few);
      read = read_empty c.args.bytes.now c.loop-line.rest.now c.in-Some.line.now c.in-Some.more.now c.loop-line.number c.loop-line.table c.loop-line.ended
          c.loop-line.invariant.read c.in-Some.ensures.line none;
    }

pub loop-line-preserved-in_ok-ended : goal.loop-line-preserved-in_ok-ended
loop-line-preserved-in_ok-ended c =
    let not_none = eqb-false _ _ (sym c.is_empty.ensures ∙ c.if-not-is_empty.true) in
    let some : 0 < length c.in-Some.line.now = omega arith in
    let read : AreRead c.args.bytes.now c.loop-line.rest.now c.loop-line.number c.loop-line.table false =
    subst (AreRead c.args.bytes.now c.loop-line.rest.now c.loop-line.number c.loop-line.table) c.if-ended.false c.loop-line.invariant.read in
    record {
      few = omega (arith, c.in-Some.ensures.shorter, c.loop-line.invariant.few);
      read = read_line c.args.bytes.now c.loop-line.rest.now c.in-Some.line.now c.in-Some.more.now c.loop-line.number c.loop-line.table
          c.give_line.new.table c.in_ok-ended.ended read c.in-Some.ensures.line some (c.in_ok-ended.ensures.given read.records read.given);
    }
