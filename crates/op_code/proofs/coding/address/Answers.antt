use Rattle.op_code.proofs.PlaceFacts.{address-below}
use Rattle.op_code.proofs.coding.address.Goals as goal

pub returns-clause-below : goal.returns-clause-below
returns-clause-below c = rw (c.address.ensures, c.from.ensures) (address-below c.args.places.now.need c.args.cell c.args.places.now.fits c.requires)
