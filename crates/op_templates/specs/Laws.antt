-- What a template of an operation is: it does what the operation means, is sound, and takes few words.
use Rattle.std.specs.Prelude.{◌≡◌, ℕ, ◌≤◌, ◌<◌, ◌==◌, Bool, true, false, IsTrue, ◌||◌, if◌then◌else◌, None, List, ◌++◌}
use Rattle.std.specs.List.{list_any}
use Rattle.byte_ops.specs.declared.operations.Op.{Op}
use Rattle.byte_ops.specs.declared.operations.Op.TheVariants.{Set}
use Rattle.byte_ops.specs.Kinds.{IsOp}
use Rattle.byte_ops.specs.Meaning.{Means, read_by, written_by}
use Rattle.pic_regs.specs.Bytes.{num}
use Rattle.code_acts.specs.declared.acts.Act.{Act}
use Rattle.code_acts.specs.Acts.{State, run}
use Rattle.code_acts.specs.Codes.{is_operand, sound, words}
use Rattle.byte_ops.specs.Weights.{weight_of}
use Rattle.op_templates.specs.Templates.{has_template, template_of, named, most_words}

-- The numbers of the named bytes, by the numbers of their names; and those after acts, with the operand bytes as they were, since
-- these may change.
abbrev pub values : State → ℕ → ℕ
values s n = num (s.mem n)

abbrev pub values_after : (before after : State) → ℕ → ℕ
values_after before after n = if is_operand n then values before n else values after n

-- The names that acts of an operation may have, and those that they may write: its own, and the operand bytes.
abbrev pub is_among : List ℕ → ℕ → Bool
is_among names n = is_operand n || list_any (λ name. name == n) names

abbrev pub uses : Op → ℕ → Bool
uses op = is_among (read_by (named op) ++ written_by (named op))

abbrev pub writes : Op → ℕ → Bool
writes op = is_among (written_by (named op))

-- Acts are a template of an operation: from each state with no skip pending they come to one that the operation means, with no
-- skip pending; they are sound with the names of the operation; and they take no more words than that, which is within its weight.
pub record IsTemplate (op : Op) (acts : List Act) : Type 0 where
  pub does : (s : State) → s.skip ≡ false → Means (named op) (values s) (values_after s (run acts s))
  pub ends : (s : State) → s.skip ≡ false → (run acts s).skip ≡ false
  pub is_sound : sound (uses op) (writes op) None false acts ≡ true
  pub within : (words None acts ≤ most_words op) × (most_words op ≤ weight_of op)

-- The constant of an operation is a byte.
abbrev pub HasByte : Op → Type 0
HasByte (Set to k) = k < 256
HasByte _ = Unit

-- Each operation but products has its template.
abbrev pub HasTemplate : Op → Type 0
HasTemplate op = IsOp op → HasByte op → IsTrue (has_template op) → IsTemplate op (template_of op)
