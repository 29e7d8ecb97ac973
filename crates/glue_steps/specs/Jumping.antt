-- The words of jumps of glue.
use Rattle.std.specs.Prelude.{ℕ, Bool, [], ◌∷◌, ◌++◌}
use Rattle.pic_isa.specs.declared.instructions.Instr.{Instr}
use Rattle.code_items.specs.Lines.{Does, Goes, settings, Within}

-- The words of a jump, and of a skip instruction and a jump, from a place on, lie at places with In.
abbrev pub JumpWithin : (In : ℕ → Type 0) → Bool → (p m : ℕ) → Type 0
JumpWithin In paged p m = Within In p (settings paged m ++ Goes m ∷ [])

abbrev pub SkipWithin : (In : ℕ → Type 0) → Bool → (p m : ℕ) → Instr → Type 0
SkipWithin In paged p m i = Within In p (settings paged m ++ Does i ∷ Goes m ∷ [])
