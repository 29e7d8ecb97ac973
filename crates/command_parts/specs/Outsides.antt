-- What a call meets and leaves.
use Rattle.edge_io.specs.Files.{FilesSeen}
use Rattle.edge_io.specs.Sinks.{SinkSeen}

-- What is seen of the files and of the sink.
pub record Outside : Type 0 where
  pub files : FilesSeen
  pub out : SinkSeen
