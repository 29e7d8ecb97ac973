use Rattle.firmware_written.proofs.FirmwareLaws.{written-is_firmware}
use Rattle.firmware_written.proofs.laws.written_is_firmware.Goals as goal

pub returns : goal.returns
returns c = λ f laid m. written-is_firmware f laid m
