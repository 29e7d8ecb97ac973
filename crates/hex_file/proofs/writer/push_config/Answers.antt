use Rattle.hex_file.proofs.writer.push_config.Goals as goal

pub returns-in-Some : goal.returns-in-Some
returns-in-Some c = rw c.in-Some.is (rw c.word_bytes.ensures at c.push_record.ensures)
