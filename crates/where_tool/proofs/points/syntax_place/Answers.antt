use Rattle.std.proofs.Common.{refl}
use Rattle.where_tool.proofs.points.syntax_place.Goals as goal

pub byte_of-requires : goal.byte_of-requires
byte_of-requires c = let faulty = rw c.in-Unexpected.is at c.requires in (faulty.0, faulty.1)

pub byte_of-requires-in-TooDeep : goal.byte_of-requires-in-TooDeep
byte_of-requires-in-TooDeep c = let faulty = rw c.in-TooDeep.is at c.requires in (faulty.0, faulty.1)

pub many_place-requires : goal.many_place-requires
many_place-requires c = let faulty = rw c.in-TooMany.is at c.requires in (faulty.0, faulty.1)

pub returns-in-BadByte : goal.returns-in-BadByte
returns-in-BadByte c = rw c.in-BadByte.is refl

pub returns-in-TooBig : goal.returns-in-TooBig
returns-in-TooBig c = rw c.in-TooBig.is refl

pub returns-in-Unexpected : goal.returns-in-Unexpected
returns-in-Unexpected c = rw c.in-Unexpected.is c.byte_of.ensures

pub returns-in-TooDeep : goal.returns-in-TooDeep
returns-in-TooDeep c = rw c.in-TooDeep.is c.byte_of-in-TooDeep.ensures

pub returns-in-TooMany : goal.returns-in-TooMany
returns-in-TooMany c = rw c.in-TooMany.is (c.many_place.ensures c.in-TooMany.field-0 (rw c.in-TooMany.is at c.requires))
