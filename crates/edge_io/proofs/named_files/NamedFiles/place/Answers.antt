use Rattle.std.proofs.Common.{◌≡◌, string_bytes}
use Rattle.std.proofs.lemmas.Result.{IfOk-at_ok}
use Rattle.edge_io.proofs.HeldFileFacts.{named-replaces}
use Rattle.edge_io.proofs.named_files.NamedFiles.place.Goals as goal

-- the key has the bytes of the name, and the value is the bytes
pub returns-clause-ok : goal.returns-clause-ok
returns-clause-ok c =
    let key_is_name = IfOk-at_ok (λ t. string_bytes t ≡ c.args.name.now) c.in_ok-key.was c.from_str.ensures.ok in
    let value_is_bytes = IfOk-at_ok (λ v. v.items ≡ c.args.bytes.now) c.in_ok-value.was c.from_slice.ensures.items in
    rw (← c.self.view_is, ← key_is_name, ← value_is_bytes)
    (named-replaces (λ v. v.items) c.self.inside.files c.insert.new.self _ _ c.in_ok-insert.ensures.updates)
