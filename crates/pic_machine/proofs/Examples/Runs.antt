-- Runs from power-on.
use Rattle.std.specs.Prelude.{ℕ}
use Rattle.std.proofs.Common.{◌≡◌, refl, List, [], ◌∷◌, Some, None, replicate}
use Rattle.hex_file.specs.declared.images.Word.{Word}
use Rattle.hex_file.specs.declared.images.Image.{Image}
use Rattle.pic_regs.specs.declared.starts.Start.{Start}
use Rattle.pic_regs.specs.Bytes.{num}
use Rattle.pic_regs.specs.Arrivals.{set_of, number_of}
use Rattle.pic_machine.specs.declared.steps.Did.TheVariants.{Took, Ran}
use Rattle.pic_machine.specs.Boundary.{Outer, Step, no_outer}
use Rattle.pic_machine.specs.Run.{program_of, run}
use Rattle.pic_machine.proofs.SettingFacts.{at}

abbrev word : ℕ → ℕ → Word
word where_ what = record { address = where_; word = what }

-- BSF INTCON,4; BSF INTCON,7; GOTO 002h; and from 004h on BCF INTCON,1; RETFIE.
abbrev image : Image
image = record { words = word 0 0x160B ∷ word 1 0x178B ∷ word 2 0x2802 ∷ word 4 0x108B ∷ word 5 0x0009 ∷ []; config = None; aside = [] }

abbrev start : Start
start = record { ram = replicate 368 0xEE; w = 0x77; flags = 0x02 }

-- INT arrives at the fourth boundary, and nothing past the end of the list.
abbrev outer : List Outer
outer = no_outer ∷ no_outer ∷ no_outer ∷ record no_outer { arrivals = set_of 2 } ∷ []

abbrev step : ℕ → Step
step n = run image start outer n

absent_words : program_of image 3 ≡ 0x3FFF
absent_words = refl

w_at_power_on : num (step 0).before.w ≡ 0x77
w_at_power_on = refl

status_at_power_on : at 0x003 (step 0).before ≡ 0x1A
status_at_power_on = refl

last_byte_of_ram_at_power_on : at 0x1EF (step 0).before ≡ 0xEE
last_byte_of_ram_at_power_on = refl

step_0 : (step 0).did ≡ Ran 0 0x160B
step_0 = refl

step_0_wrote : (step 0).wrote ≡ Some 0x00B
step_0_wrote = refl

step_2 : (step 2).did ≡ Ran 2 0x2802
step_2 = refl

step_3_takes : (step 3).did ≡ Took
step_3_takes = refl

step_3_latches : number_of (step 3).latched ≡ 2
step_3_latches = refl

step_4 : (step 4).did ≡ Ran 4 0x108B
step_4 = refl

step_5_returns : (step 5).after.pc ≡ 2
step_5_returns = refl

step_5_leaves_gie_set : at 0x00B (step 5).after ≡ 0x90
step_5_leaves_gie_set = refl

step_6 : (step 6).did ≡ Ran 2 0x2802
step_6 = refl

-- Long after, the ready jump still runs.
step_300 : (step 300).did ≡ Ran 2 0x2802
step_300 = refl
