use Rattle.std.proofs.Common.{◌≡◌, ◌∙◌, sym, ap, subst, false, arith}
use Rattle.hex_file.specs.Faults.{bytes_of, record_in, has_bad_sum}
use Rattle.hex_file.proofs.RecordFacts.{line_of_record}
use Rattle.hex_file.proofs.parsed.read_record.Goals as goal

pub returns-clause-record : goal.returns-clause-record
returns-clause-record c =
    let bytes = c.in_ok-bytes.ensures in
    let summed : c.deref.result.now ≡ bytes_of c.args.line.now = c.deref.ensures.value ∙ bytes.bytes in
    let parsed : c.deref-2.result.now ≡ bytes_of c.args.line.now = c.deref-2.ensures.value ∙ bytes.bytes in
    line_of_record c.args.line.now _ bytes.chars bytes.told
    (subst (λ bytes. has_bad_sum bytes ≡ false) summed c.in_ok-check_sum.ensures.right)
    (c.in_ok-record.ensures ∙ ap record_in parsed)
    (omega arith)
    (sym c.has_bad_payload.ensures ∙ c.if-has_bad_payload.false)
    (sym c.is_out_of_range.ensures ∙ c.if-is_out_of_range.false)
