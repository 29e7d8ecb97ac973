use Rattle.std.proofs.Common.{rules}
use Rattle.edge_io.proofs.HeldFileFacts.{held-named}
use Rattle.edge_io.proofs.named_files.NamedFiles.file.Goals as goal

-- what is held under the name is what the map has there
pub returns : goal.returns
returns c =
    let held_is = held-named (λ v. v.items) c.self.inside.files.entries c.args.name.now in
    rw (← c.self.view_is, held_is, ← c.get.ensures.value) (search rules)
