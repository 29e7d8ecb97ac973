use Rattle.pic_isa.proofs.DecodeFacts.{its_row, no_row}
use Rattle.pic_isa.proofs.decoding.decode.Goals as goal

pub returns-clause-row : goal.returns-clause-row
returns-clause-row c = its_row c.args.word c.decode_parts.result c.requires c.decode_parts.ensures

pub returns-clause-none : goal.returns-clause-none
returns-clause-none c = no_row c.args.word c.decode_parts.result c.decode_parts.ensures
