-- A log that keeps each promise: the chip boots and comes to its ready boundary after two steps, one Tick is latched and taken
-- there, its flag is cleared, it opens, it commits, and the chip is ready again for good.
use Rattle.std.specs.Prelude.{ℕ, zero, suc, Bool, true, false, List, [], ◌∷◌, map}
use Rattle.std.proofs.Common.{◌≡◌, refl, ◌∙◌, ap, add-zero, append-nil}
use Rattle.efrp_meaning.proofs.Examples.Programs.{tick}
use Rattle.pic_machine.specs.declared.steps.PortWrite.{PortWrite}
use Rattle.pic_machine.specs.Boundary.{Step}
use Rattle.pic_machine.specs.Run.{Log}
use Rattle.firmware_promises.specs.Counts.{count, opens, commits, port_writes, reactions}
use Rattle.firmware_promises.specs.Laws.{unsampled}
use Rattle.firmware_promises.proofs.SampleLaws.{reactions_are_commits}
use Rattle.promise_examples.proofs.Logs.Stories.{chip, ran, put, took, told, counting, counting_map}

-- The setups' write, the end of the boot, the taking, and the clearing of the flag.
abbrev pub boots : Step
boots = put 7 (chip 0 false false 238) (chip 1 false false 238)

abbrev pub starts : Step
starts = ran (chip 1 false false 238) (chip 8 true false 0)

abbrev pub is_taken : Step
is_taken = took (chip 8 true false 0) (chip 8 true true 0) (chip 4 false true 0)

abbrev pub clears_flag : Step
clears_flag = ran (chip 4 false true 0) (chip 20 false false 0)

-- The open leaves a count, and the commit puts a byte.
abbrev pub opens_with : ℕ → Step
opens_with count = ran (chip 20 false false 0) (chip 21 false false count)

abbrev pub commits_with : ℕ → ℕ → Step
commits_with count its_byte = put its_byte (chip 21 false false count) (chip 22 false false count)

abbrev pub returns_with : ℕ → Step
returns_with count = ran (chip 22 false false count) (chip 8 true false count)

abbrev pub rests_with : ℕ → Step
rests_with count = ran (chip 8 true false count) (chip 8 true false count)

-- The log of one reaction, with any count and any byte.
abbrev pub reaction : ℕ → ℕ → List Step
reaction count its_byte = is_taken ∷ clears_flag ∷ opens_with count ∷ commits_with count its_byte ∷ returns_with count ∷ []

abbrev pub reacting : ℕ → ℕ → Log
reacting count its_byte = told (boots ∷ starts ∷ reaction count its_byte) (rests_with count)

-- With the right ones: count 1, and 1 on the port.
abbrev pub opens_tick : Step
opens_tick = opens_with 1

abbrev pub commits_tick : Step
commits_tick = commits_with 1 1

abbrev pub returns : Step
returns = returns_with 1

abbrev pub rests : Step
rests = rests_with 1

abbrev pub good : Log
good = reacting 1 1

-- k steps past the seventh.
abbrev pub past : ℕ → ℕ
past k = suc (suc (suc (suc (suc (suc (suc k))))))

pub count_past : (v b : ℕ) (test : Step → Bool) → test (rests_with v) ≡ false → (k : ℕ) → count (reacting v b) test (past k) ≡ count (reacting v b) test 7
count_past v b test is_not zero = refl
count_past v b test is_not (suc k) = rw (is_not, add-zero) (count_past v b test is_not k)

pub opens_past : (v b k : ℕ) → opens counting_map (reacting v b) (past k) ≡ tick ∷ []
opens_past v b zero = refl
opens_past v b (suc k) = rw append-nil (opens_past v b k)

pub commits_past : (v b k : ℕ) → commits counting_map (reacting v b) (past k) ≡ tick ∷ []
commits_past v b zero = refl
commits_past v b (suc k) = rw append-nil (commits_past v b k)

pub reactions_past : (v b k : ℕ) → reactions counting counting_map (reacting v b) (past k) ≡ unsampled tick ∷ []
reactions_past v b k = reactions_are_commits counting counting_map (reacting v b) refl (past k) ∙ ap (map unsampled) (commits_past v b k)

abbrev pub write_of : ℕ → ℕ → PortWrite
write_of its_port its_byte = record { port = its_port; byte = its_byte }

pub writes_past : (v b k : ℕ) → port_writes (reacting v b) (past k) ≡ write_of 1 7 ∷ write_of 1 b ∷ []
writes_past v b zero = refl
writes_past v b (suc k) = rw append-nil (writes_past v b k)
