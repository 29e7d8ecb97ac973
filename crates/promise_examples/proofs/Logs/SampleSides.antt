-- Each window has its samples: for the clause `samples` of `Follows`, a log that keeps it and logs that break it. The program's
-- Tick needs the input `level`, which reads PORTB, and samples it at 18.
use Rattle.std.specs.Prelude.{ℕ, zero, suc, ◌<◌, ◌≤◌, Bool, true, false, List, [], ◌∷◌, codes, Some}
use Rattle.std.proofs.Common.{◌≡◌, refl, ap, subst, arith}
use Rattle.frp_tree.specs.declared.syntax.Ty.TheVariants.{U8}
use Rattle.frp_tree.specs.declared.syntax.Lit.TheVariants as lit
use Rattle.frp_tree.specs.Tree.{ProgramTree, Name, Input}
use Rattle.efrp_meaning.proofs.Examples.Programs.{event, reactive, clause, output, tick}
use Rattle.pic_regs.specs.Bytes.{Byte, bits}
use Rattle.pic_regs.specs.Map.{Port}
use Rattle.pic_regs.specs.Registers.{read}
use Rattle.pic_machine.specs.Chip.{Chip}
use Rattle.pic_machine.specs.Boundary.{Step}
use Rattle.pic_machine.specs.Run.{Log}
use Rattle.map_file.specs.declared.maps.Map.{Map}
use Rattle.firmware_promises.specs.Counts.{ran_at, clears, committed_by, window_samples}
use Rattle.firmware_promises.specs.Follows.{IsSampled, WindowsAreSampled}
use Rattle.promise_examples.proofs.Logs.Stories.{chip, ran, told, counting_map, tick_event}
use Rattle.promise_examples.proofs.Logs.GoodLog.{rests}

abbrev level : List ℕ
level = codes "level"

-- `n` becomes what `level` reads, and is shown on PORTC.
abbrev pub sampling : ProgramTree
sampling = record {
  events = event tick (codes "INT") 1 ∷ [];
  setups = [];
  decls = record { name = level; ty = U8; behaviour = Input (codes "PORTB") } ∷ reactive (codes "n") U8 (lit.Plain 0) (clause tick (Name level) ∷ []) ∷ [];
  outputs = output (codes "PORTC") (Name (codes "n")) ∷ [];
}

abbrev pub sampling_map : Map
sampling_map = record counting_map { outputs = 2 ∷ []; samples = record { event = tick; input = level; at = 18 } ∷ [] }

-- A chip whose ports are all inputs that read this byte, and W.
abbrev reading : ℕ → ℕ → Chip → Chip
reading its_byte its_w c = record c { w = bits its_w; regs = record c.regs { tris = λ port. bits 0xFF; pins = λ port. bits its_byte } }

-- Tick's flag is cleared; an instruction runs at an address, where PORTB reads one byte and W is another then; a step between;
-- and the open.
abbrev clearing : Step
clearing = ran (chip 4 false true 0) (chip 18 false false 0)

abbrev samples_at : ℕ → ℕ → ℕ → Step
samples_at address its_byte its_w = ran (reading its_byte 0 (chip address false false 0)) (reading its_byte its_w (chip 19 false false 0))

abbrev opening : Step
opening = ran (chip 20 false false 0) (chip 21 false false 0)

abbrev window_after : Step → Step → Log
window_after sample between = told (clearing ∷ sample ∷ between ∷ opening ∷ []) rests

abbrev idle : Step
idle = ran (chip 19 false false 0) (chip 20 false false 0)

-- W is what the port reads, and nothing else happens.
abbrev good : Log
good = window_after (samples_at 18 0x10 0x10) idle

uncommitted : (k : ℕ) → 1 ≤ k → k ≤ 3 → committed_by sampling_map (good k) ≡ []
uncommitted zero from to = absurd (omega (arith, from))
uncommitted (suc zero) from to = refl
uncommitted (suc (suc zero)) from to = refl
uncommitted (suc (suc (suc zero))) from to = refl
uncommitted (suc (suc (suc (suc k)))) from to = absurd (omega (arith, to))

uncleared : (k : ℕ) → 1 ≤ k → k ≤ 3 → clears tick_event.source (good k) ≡ false
uncleared zero from to = absurd (omega (arith, from))
uncleared (suc zero) from to = refl
uncleared (suc (suc zero)) from to = refl
uncleared (suc (suc (suc zero))) from to = refl
uncleared (suc (suc (suc (suc k)))) from to = absurd (omega (arith, to))

last : (k : ℕ) → 1 < k → k < 3 → ran_at 18 (good k) ≡ false
last zero from to = absurd (omega (arith, from))
last (suc zero) from to = absurd (omega (arith, from))
last (suc (suc zero)) from to = refl
last (suc (suc (suc k))) from to = absurd (omega (arith, to))

is_sampled : IsSampled sampling sampling_map good tick_event level 3
is_sampled = record {
  address = 18;
  port = 1;
  t = 1;
  listed = refl;
  of_port = refl;
  before = omega arith;
  ran = refl;
  last = last;
  uncommitted = uncommitted;
  uncleared = uncleared;
  value = refl;
}

pub window_is_sampled : (n : ℕ) → WindowsAreSampled sampling sampling_map good n
window_is_sampled n zero h = ((λ opens. absurd cc), tt)
window_is_sampled n (suc zero) h = ((λ opens. absurd cc), tt)
window_is_sampled n (suc (suc zero)) h = ((λ opens. absurd cc), tt)
window_is_sampled n (suc (suc (suc zero))) h = ((λ opens. (is_sampled, tt)), tt)
window_is_sampled n (suc (suc (suc (suc k)))) h = ((λ opens. absurd cc), tt)

-- The window's samples are that byte.
pub samples_are : window_samples sampling sampling_map good tick 4 ≡ 0x10 ∷ []
samples_are = refl

-- The sample of a log's window.
sample_of : (sample between : Step) → WindowsAreSampled sampling sampling_map (window_after sample between) 4 → IsSampled sampling sampling_map (window_after sample between) tick_event level 3
sample_of sample between it = ((it 3 (omega arith)).0 refl).0

-- Sampled before the last clearing; a commit between.
pub sample_must_come_after_the_clearing : WindowsAreSampled sampling sampling_map (window_after (samples_at 18 0x10 0x10) (ran (chip 19 false true 0) (chip 20 false false 0))) 4 → ⊥
sample_must_come_after_the_clearing it =
    let s = sample_of (samples_at 18 0x10 0x10) (ran (chip 19 false true 0) (chip 20 false false 0)) it in
    let no : true ≡ false = s.uncleared 2 (let h = s.before in omega (arith, h)) (omega arith) in cc

pub no_commit_after_the_sample : WindowsAreSampled sampling sampling_map (window_after (samples_at 18 0x10 0x10) (ran (chip 21 false false 0) (chip 20 false false 0))) 4 → ⊥
no_commit_after_the_sample it =
    let s = sample_of (samples_at 18 0x10 0x10) (ran (chip 21 false false 0) (chip 20 false false 0)) it in
    let no : tick ∷ [] ≡ [] = s.uncommitted 2 (let h = s.before in omega (arith, h)) (omega arith) in cc

-- Never sampled; and another value in W.
its_address : (address : ℕ) → Some 18 ≡ Some address → address ≡ 18
its_address address e = cc

never_ran : (t : ℕ) → t < 3 → ran_at 18 (window_after (samples_at 17 0x10 0x10) idle t) ≡ true → ⊥
never_ran zero h e = cc
never_ran (suc zero) h e = cc
never_ran (suc (suc zero)) h e = cc
never_ran (suc (suc (suc t))) h e = omega (arith, h)

pub sample_must_come : WindowsAreSampled sampling sampling_map (window_after (samples_at 17 0x10 0x10) idle) 4 → ⊥
sample_must_come it =
    let s = sample_of (samples_at 17 0x10 0x10) idle it in
    never_ran s.t s.before (subst (λ address. ran_at address (window_after (samples_at 17 0x10 0x10) idle s.t) ≡ true) (its_address s.address s.listed) s.ran)

abbrev other_value : Log
other_value = window_after (samples_at 18 0x10 0x11) idle

ran_at_one : (t : ℕ) → t < 3 → ran_at 18 (other_value t) ≡ true → t ≡ 1
ran_at_one zero h e = absurd cc
ran_at_one (suc zero) h e = refl
ran_at_one (suc (suc zero)) h e = absurd cc
ran_at_one (suc (suc (suc t))) h e = absurd (omega (arith, h))

its_port : (port : ℕ) → Some 1 ≡ Some port → port ≡ 1
its_port port e = cc

last_bit : Byte → Bool
last_bit x = x.b0

pub value_must_be_what_the_port_reads : WindowsAreSampled sampling sampling_map other_value 4 → ⊥
unfolding last_bit
value_must_be_what_the_port_reads it =
    let s = sample_of (samples_at 18 0x10 0x11) idle it in
    let at = ran_at_one s.t s.before (subst (λ address. ran_at address (other_value s.t) ≡ true) (its_address s.address s.listed) s.ran) in
    let there = subst (λ t. (other_value t).after.w ≡ read (Port s.port) (other_value t).arrived.regs) at s.value in
    let of_b = subst (λ port. (other_value 1).after.w ≡ read (Port port) (other_value 1).arrived.regs) (its_port s.port s.of_port) there in
    let no : true ≡ false = ap last_bit of_b in cc
