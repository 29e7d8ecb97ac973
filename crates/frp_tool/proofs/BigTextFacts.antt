-- The text of a `big`, and the program that it reads again.
use Rattle.std.proofs.Common.{◌≡◌, ℕ, zero, suc, List, [], ◌∷◌, ◌++◌, length, Result, Ok, Err, ◌⊎◌, inl, inr, refl, sym, ap, subst, ◌∙◌, arith}
use Rattle.std.specs.Prelude.{codes, IfOk}
use Rattle.std.specs.Fmt.{decimal}
use Rattle.std.specs.List.{flat_map}
use Rattle.std.proofs.lemmas.List.{append_assoc}
use Rattle.frp_tree.specs.Tree.{ProgramTree, program_tree_of}
use Rattle.frp_tree.specs.Grammar.{Spells}
use Rattle.frp_tree.specs.Printed.{printed}
use Rattle.causality.specs.declared.checked.Checked.{Checked}
use Rattle.checked_source.specs.Readings.{IsRead, Reading, Passing, Reads}
use Rattle.pic_regs.specs.Registers.{Registers}
use Rattle.hex_file.specs.declared.images.Image.{Image}
use Rattle.map_file.specs.declared.maps.Map.{Map}
use Rattle.map_file.specs.MapText.{line}
use Rattle.arrival_script.specs.declared.scripts.Script.{Script}
use Rattle.arrival_script.specs.Running.{chip_at, log_of}
use Rattle.arrival_script.specs.Trace.{registers_after, state_field, state_fields}
use Rattle.arrival_script.specs.TraceParts.{spaced}
use Rattle.arrival_script.proofs.TraceLaws.{states_written}
use Rattle.pic_machine.specs.Run.{Log}
use Rattle.firmware_promises.specs.Counts.{commits}
use Rattle.firmware_map.specs.Laws.{HasNames}
use Rattle.firmware_map.proofs.SpelledLaws.{has_names}
use Rattle.large_program.specs.LargePrograms.{large_program}
use Rattle.large_program.proofs.LargeLaws.{large_fits, large_passes, prints_well}
use Rattle.large_run.specs.declared.tallies.Tally.{Tally}
use Rattle.large_run.specs.Tallies.{IsTally, latched_in, merged_in}
use Rattle.command_parts.specs.declared.halts.Halt.{Halt}
use Rattle.command_parts.specs.declared.halts.Halt.TheVariants.{Said, PutFailed, Memory}
use Rattle.command_parts.specs.Endings.{Gives}
use Rattle.command_parts.specs.Lines.{IsRefused, refusal_line}
use Rattle.efrp_meaning.specs.Bounds.{Fits}
use Rattle.firmware.specs.Builds.{HasCode}
use Rattle.frp_tool.specs.Bigs.{OrMemory, states_line, tally_line, tally_text}

-- The text that is printed is read as the program, and as nothing else.
of_reading : Reading → ProgramTree → ProgramTree
of_reading (Passing p) q = p
of_reading _ q = q

module _ (n : ℕ) (text : List ℕ) (is : text ≡ printed (large_program n)) where
  reads : Reads text (Passing (large_program n))
  reads = (subst (λ (t : List ℕ). Spells t (large_program n)) (sym is) (prints_well n).spells, large_passes n)

  pub read_large : (answer : Result Checked Halt) → Gives (λ (c : Checked). IsRead text (Passing (program_tree_of c.typed.program))) (λ (reading : Reading). IsRead text reading × IsRefused reading) (λ reading. 1) refusal_line answer
      → OrMemory (λ (c : Checked). (program_tree_of c.typed.program ≡ large_program n) × HasNames (program_tree_of c.typed.program)) answer
  unfolding of_reading
  read_large (Ok c) gives =
      (sym (ap (λ (r : Reading). of_reading r (large_program n)) (gives.1 (Passing (large_program n)) reads)), has_names text (program_tree_of c.typed.program) gives.0.0)
  read_large (Err (Said due told)) (reading, (read, refused), due_is, said) = absurd (subst IsRefused (sym (read.1 (Passing (large_program n)) reads)) refused)
  read_large (Err PutFailed) gives = absurd gives
  read_large (Err Memory) gives = tt

-- It has code and fits.
pub large_has_code : (n : ℕ) → HasCode (large_program n)
large_has_code n = let fits = large_fits n in record { no_inputs = fits.no_inputs; no_tables = fits.no_tables }

pub large_fits_chip : (n : ℕ) → Fits (large_program n)
large_fits_chip n =
    let fits = large_fits n in
    let levels_are = fits.levels_are in
    let ram = fits.ram in
    let words = fits.words in
    record { levels_fit = omega (arith, levels_are); ram_fits = omega (arith, ram); words_fit = omega (arith, words) }

-- The registers after a run are those of the chip.
registers-after : (image : Image) (s : Script) (k : ℕ) → registers_after (log_of image s) k ≡ (chip_at image s k).regs
registers-after image s zero = refl
registers-after image s (suc k) = refl

-- Both lines, from what was written.
tally_written : (n l m c d w r rest : List ℕ)
    → (codes "big " ++ (n ++ (codes " latched " ++ (l ++ (codes " merged " ++ (m ++ (codes " commits " ++ (c ++ (codes " deepest " ++ (d ++ (codes " words " ++ (w ++ (codes " ram " ++ (r ++ codes "\nend")))))))))))))) ++ rest
    ≡ line (codes "big" ∷ n ∷ codes "latched" ∷ l ∷ codes "merged" ∷ m ∷ codes "commits" ∷ c ∷ codes "deepest" ∷ d ∷ codes "words" ∷ w ∷ codes "ram" ∷ r ∷ []) ++ (codes "end" ++ rest)
tally_written n l m c d w r rest = simp append_assoc

pub big_written : (n : ℕ) (m : Map) (image : Image) (s : Script) (k : ℕ) (t : Tally) (regs : Registers) (start mid done : List ℕ) → IsTally m (log_of image s) k t → regs ≡ (chip_at image s k).regs
    → start ≡ [] → mid ≡ start ++ tally_text n m t → done ≡ mid ++ (flat_map (λ x. spaced (state_field regs x)) m.states ++ codes "\n")
    → done ≡ tally_line n m (log_of image s) k ++ states_line m (log_of image s) k
big_written n m image s k t regs start mid done tally regs_are none begun ended =
    let log = log_of image s in
    let states = flat_map (λ x. spaced (state_field regs x)) m.states ++ codes "\n" in
    ended ∙ ap (λ (text : List ℕ). text ++ states) (begun ∙ ap (λ (text : List ℕ). text ++ tally_text n m t) none)
    ∙ tally_written (decimal n) (decimal t.latched) (decimal t.merged) (decimal t.commits) (decimal t.deepest) (decimal m.words) (decimal m.ram) states
    ∙ (λ j. line (codes "big" ∷ decimal n ∷ codes "latched" ∷ decimal (tally.latched j) ∷ codes "merged" ∷ decimal (tally.merged j) ∷ codes "commits" ∷ decimal (tally.commits j)
    ∷ codes "deepest" ∷ decimal (tally.deepest j) ∷ codes "words" ∷ decimal m.words ∷ codes "ram" ∷ decimal m.ram ∷ []) ++ (codes "end" ++ states))
    ∙ ap (λ (text : List ℕ). tally_line n m log k ++ text) (sym (states_written m regs (codes "end")) ∙ ap (λ (r : Registers). line (codes "end" ∷ state_fields m r)) (regs_are ∙ sym (registers-after image s k)))
