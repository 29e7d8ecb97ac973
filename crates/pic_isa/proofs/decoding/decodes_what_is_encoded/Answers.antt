use Rattle.pic_isa.proofs.RowLaws.{written-found}
use Rattle.pic_isa.proofs.decoding.decodes_what_is_encoded.Goals as goal

pub returns : goal.returns
returns c = written-found c.args.i.now c.requires
