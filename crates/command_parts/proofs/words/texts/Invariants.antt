use Rattle.std.proofs.Common.{◌≡◌, map, string_bytes}
use Rattle.command_parts.proofs.words.texts.Given as goal

-- a text for each argument so far
abbrev pub invariant-loop-word : goal.invariant-loop-word
invariant-loop-word l = l.words ≡ map string_bytes l.yielded
