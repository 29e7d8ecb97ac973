-- The set of one source.
use Rattle.std.specs.Prelude.{◌==◌}
use Rattle.pic_isa.specs.declared.sources.Source.{Source}
use Rattle.pic_isa.specs.Sources.{source_number}
use Rattle.pic_regs.specs.Arrivals.{Sources}

-- The set of one source.
abbrev pub only : Source → Sources
only source other = source_number source == source_number other
