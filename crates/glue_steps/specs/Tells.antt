-- What code with interrupts off leads to, and which bytes it puts on ports on the way.
use Rattle.std.specs.Prelude.{◌≡◌, ℕ, zero, suc, ◌⊎◌, Some, List, []}
use Rattle.std.specs.List.{cons_option}
use Rattle.pic_machine.specs.declared.steps.PortWrite.{PortWrite}
use Rattle.pic_machine.specs.Chip.{Chip}
use Rattle.pic_machine.specs.Results.{Done}
use Rattle.code_steps.specs.Steps.{own}
use Rattle.code_steps.specs.Between.{Alone}

-- Within k own steps the code comes to a chip with Q, from this chip on, and puts exactly these bytes on ports on the way, in
-- order. Before each own step sources may arrive and pins may change, and nothing else; each step is one with G.
abbrev pub Tells : (program : ℕ → ℕ) (G : Chip → Done → Type 0) (Q : Chip → Type 0) → (puts : List PortWrite) → ℕ → Chip → Type 0
Tells program G Q puts zero c = (puts ≡ []) × Q c
Tells program G Q puts (suc k) c =
    ((puts ≡ []) × Q c)
    ⊎ ((d : Chip) → Alone c d
    → (done : Done) × (own program d ≡ Some done) × G d done × (rest : List PortWrite) × (puts ≡ cons_option done.port rest) × Tells program G Q rest k done.chip)

-- Arrivals and pins don't change whether Q holds.
abbrev pub Withstands : (Q : Chip → Type 0) → Type 0
Withstands Q = (c d : Chip) → Alone c d → Q c → Q d

-- From a chip with J a step is one with G, and leaves a chip with J.
abbrev pub Given : (J : Chip → Type 0) (G : Chip → Done → Type 0) → Chip → Done → Type 0
Given J G d done = J d → G d done × J done.chip
