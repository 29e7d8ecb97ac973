use Rattle.bank_alloc.specs.Needs.{bytes_of}
use Rattle.op_code.specs.Laws.{IsOpOn}
use Rattle.op_code.specs.Templates.{acts_of}
use Rattle.op_code.proofs.CodeFacts.{code_does, right_acts}
use Rattle.op_code.proofs.PlaceFacts.{cells-placed, names-placed}
use Rattle.op_code.proofs.coding.code_in.Goals as goal

pub addresses-named-requires : goal.addresses-named-requires
addresses-named-requires c =
    rw c.named_by.ensures (names-placed (bytes_of c.args.places.now.need) c.args.op.now c.requires.read_in c.requires.written_in)

pub returns : goal.returns
returns c =
    let need = c.args.places.now.need in
    let op = c.args.op.now in
    let on : IsOpOn (bytes_of need) op = record {
      kind = c.requires.kind;
      byte = c.requires.byte;
      placed = cells-placed (bytes_of need) op c.requires.read_in c.requires.written_in;
      apart = c.requires.apart;
      differ = c.requires.differ;
    } in
    let does = code_does need op (acts_of op) c.args.places.now.fits on (right_acts op c.requires.kind c.requires.byte) c.args.bank in
    rw (
      c.in_ok-items.ensures,
      c.as_slice.ensures,
      c.in_ok-coded.ensures.code,
      c.in_ok-coded.ensures.bank,
      c.addresses-named.ensures.is,
      c.named_by.ensures,
      c.deref.ensures.value,
      c.in_ok-acts.ensures,
    ) does
