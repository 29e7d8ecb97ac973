-- The code of sound acts ends anywhere, and leaves what the machine says.
use Rattle.std.proofs.Common.{◌≡◌, ℕ, ◌+◌, ◌%◌, ◌<◌, ◌≤◌, Bool, true, false, ◌==◌, if◌then◌else◌, None, List, [], ◌∷◌, length, ap, ◌∙◌, sym, refl, subst, arith}
use Rattle.std.proofs.lemmas.Bool.{ne_eqb, eq-eqb, eqb-true}
use Rattle.pic_isa.specs.declared.instructions.Instr.{Instr}
use Rattle.pic_regs.specs.Bytes.{Byte}
use Rattle.pic_machine.specs.Chip.{Chip}
use Rattle.pic_machine.specs.Results.{Flags, Same, Zero, Carry, All, with_flags}
use Rattle.code_steps.specs.declared.banks.Bank.{Bank}
use Rattle.code_steps.specs.Steps.{next}
use Rattle.code_steps.specs.Between.{Others, Keeps}
use Rattle.code_steps.specs.Ends.{Ended}
use Rattle.code_steps.proofs.ComesLaws.{comes_wider}
use Rattle.code_steps.proofs.BetweenLaws.{keeps_others}
use Rattle.code_acts.specs.declared.acts.Act.{Act}
use Rattle.code_acts.specs.declared.acts.Act.TheVariants.{Near}
use Rattle.code_acts.specs.Acts.{State, Into, Nowhere, IntoW, IntoName, into, name_of, mem_after, carry_after, zero_after, act, step_in, run}
use Rattle.code_acts.specs.Codes.{code, bank_after, has_word, names_allowed, writes_allowed}
use Rattle.code_acts.specs.Standing.{StandFrom, Placed, PlacesOf, view, Like, AtStart, OwnIn}
use Rattle.code_acts.specs.Laws.{CodeEnds, CodeLeaves}
use Rattle.code_acts.proofs.StepFacts.{outcome, skips_on, plain_after, after}
use Rattle.code_acts.proofs.SettingFacts.{Line, bit_set, At}
use Rattle.code_acts.proofs.RunLaws.{like_both, act_like}
use Rattle.code_acts.proofs.GoFacts.{Carries, go}

-- Instructions that stand in program memory stand in line, where there is room.
line_of : (program : ℕ → ℕ) (p : ℕ) (instrs : List Instr) → p + length instrs ≤ 8192 → StandFrom program p instrs → Line program p instrs
line_of program p [] room stand = tt
line_of program p (i ∷ []) room stand = (stand.0, tt)
line_of program p (i ∷ j ∷ more) room stand =
    let there : next p ≡ p + 1 = omega arith in
    (stand.0, line_of program (p + 1) (j ∷ more) (omega arith) (subst (λ q. StandFrom program q (j ∷ more)) there stand.1))

at_start : (program : ℕ → ℕ) (bank : Bank) (instrs : List Instr) (c : Chip) → AtStart program bank instrs c
    → At program c.pc (c.pc + length instrs) false c.pc instrs c
at_start program bank instrs c at =
    let low : c.pc < 8192 = at.pc in
    record { pc = omega arith; from = omega arith; ends = refl; top = at.room; line = line_of program c.pc instrs at.room at.stand }

-- Whole runs of others: nothing is carried.
nothing : (place : ℕ → ℕ) (uses writes : ℕ → Bool) → Carries place uses writes Others (λ acts skip c. Unit {0})
nothing place uses writes = record {
  narrow = λ c d r. r;
  stays = λ acts skip c d r i. tt;
  sets = λ acts high v d i. tt;
  acted = λ a more d names writes_to i. tt;
  passed = λ a more d i. tt;
  came_near = λ a more d word i. tt;
}

pub ends_anywhere : (uses writes : ℕ → Bool) (place : ℕ → ℕ) (bank : Bank) (acts : List Act) → CodeEnds uses writes place bank acts
ends_anywhere uses writes place bank acts placed sounds program c at =
    let instrs = code place bank acts in
    let stop = c.pc + length instrs in
    comes_wider program Others Others (OwnIn writes place instrs c) (OwnIn writes place instrs c) (λ e. Ended (stop % 8192) (bank_after place bank acts) e × Unit {0})
    (Ended (stop % 8192) (bank_after place bank acts))
    (λ x y r. r)
    (λ d done step. step)
    (λ e q. q.0)
    (length instrs)
    c
    (go program place uses writes placed Others (λ acts skip c. Unit {0}) (nothing place uses writes) c.pc stop acts false false None bank c.pc c sounds tt (λ e. e)
    (at_start program bank instrs c at) tt at.holds)

-- What the chip shows after an act is what the machine has.
flags_carry : (flags : Flags) (status : Byte) → carry_after flags status.b0 ≡ (with_flags flags status).b0
flags_carry Same status = refl
flags_carry (Zero z) status = refl
flags_carry (Carry c) status = refl
flags_carry (All c dc z) status = refl

flags_zero : (flags : Flags) (status : Byte) → zero_after flags status.b2 ≡ (with_flags flags status).b2
flags_zero Same status = refl
flags_zero (Zero z) status = refl
flags_zero (Carry c) status = refl
flags_zero (All c dc z) status = refl

same_test : (m n p q : ℕ) (b : Bool) → (m == n) ≡ b → (p ≡ q → m ≡ n) → (m ≡ n → p ≡ q) → (m == n) ≡ (p == q)
same_test m n p q true is back on = is ∙ sym (eq-eqb p q (on (eqb-true m n is)))
same_test m n p q false is back on =
    is ∙ sym (ne_eqb p q (λ e. let clash : true ≡ false = sym (eq-eqb m n (back e)) ∙ is in absurd (cc)))

mem_shown : (uses writes : ℕ → Bool) (place : ℕ → ℕ) → Placed uses writes place → (to : Into) (byte : Byte) (plain : ℕ → Byte) (m : ℕ)
    → writes_allowed writes to ≡ true → uses m ≡ true → mem_after to byte (λ n. plain (place n)) m ≡ plain_after place to byte plain (place m)
mem_shown uses writes place placed Nowhere byte plain m allowed used = refl
mem_shown uses writes place placed IntoW byte plain m allowed used = refl
mem_shown uses writes place placed (IntoName n) byte plain m allowed used =
    ap (λ b. if b then byte else plain (place m))
    (same_test m n (place m) (place n) (m == n) refl (λ e. sym (placed.apart n m allowed used (sym e))) (λ e. ap place e))

view_after : (uses writes : ℕ → Bool) (place : ℕ → ℕ) → Placed uses writes place → (a : Act) (d : Chip) → writes_allowed writes (into a) ≡ true
    → Like uses (act a (view place d)) (view place (after place a d))
view_after uses writes place placed a d allowed = record {
  w = refl;
  carry = flags_carry (outcome place a d).flags d.regs.status;
  zero = flags_zero (outcome place a d).flags d.regs.status;
  mem = λ n used. mem_shown uses writes place placed (into a) (outcome place a d).byte d.regs.plain n allowed used;
}

-- Changes elsewhere: a state is carried that is like what the chip shows, and from which the machine comes to what it comes to.
abbrev Follows : (uses : ℕ → Bool) → (place : ℕ → ℕ) → (result : State) → List Act → Bool → Chip → Type 0
Follows uses place result acts skip c = (s : State) × (s.skip ≡ skip) × Like uses s (view place c) × (run acts s ≡ result)

like_stays : (uses : ℕ → Bool) (place : ℕ → ℕ) (s : State) (c d : Chip) → Keeps (PlacesOf uses place) c d → Like uses s (view place c) → Like uses s (view place d)
like_stays uses place s c d r like = record {
  w = like.w ∙ sym r.w;
  carry = like.carry ∙ sym (ap (λ (x : Byte). x.b0) r.status);
  zero = like.zero ∙ sym (ap (λ (x : Byte). x.b2) r.status);
  mem = λ n used. like.mem n used ∙ sym (r.cells (place n) (n, used, refl));
}

follows_set : (uses : ℕ → Bool) (place : ℕ → ℕ) (s : State) (high v : Bool) (d : Chip) → Like uses s (view place d) → Like uses s (view place (bit_set high v d))
follows_set uses place s true v d like = record { w = like.w; carry = like.carry; zero = like.zero; mem = like.mem }
follows_set uses place s false v d like = record { w = like.w; carry = like.carry; zero = like.zero; mem = like.mem }

-- The machine goes on after an act, after a skipped act, and after the choice of a bank.
follows_act : (uses writes : ℕ → Bool) (place : ℕ → ℕ) → Placed uses writes place → (result : State) (a : Act) (more : List Act) (d : Chip)
    → names_allowed uses (name_of a) ≡ true → writes_allowed writes (into a) ≡ true → Follows uses place result (a ∷ more) false d
    → Follows uses place result more (skips_on place a d) (after place a d)
follows_act uses writes place placed result a more d names writes_to (s, none, like, comes) =
    let acted = act_like uses a s (view place d) names like in (
      act a s,
      acted.1,
      like_both uses (act a s) (act a (view place d)) (view place (after place a d)) acted.0 (view_after uses writes place placed a d writes_to),
      sym (ap (λ b. run more (step_in b a s)) none) ∙ comes,
    )

follows_skip : (uses : ℕ → Bool) (place : ℕ → ℕ) (result : State) (a : Act) (more : List Act) (d : Chip) → Follows uses place result (a ∷ more) true d
    → Follows uses place result more false d
follows_skip uses place result a more d (s, skips, like, comes) = (
  record s { skip = false },
  refl,
  record { w = like.w; carry = like.carry; zero = like.zero; mem = like.mem },
  sym (ap (λ b. run more (step_in b a s)) skips) ∙ comes,
)

follows_near : (uses : ℕ → Bool) (place : ℕ → ℕ) (result : State) (a : Act) (more : List Act) (d : Chip) → has_word a ≡ false
    → Follows uses place result (a ∷ more) false d → Follows uses place result more false d
follows_near uses place result (Near n) more d word (s, none, like, comes) = (
  record s { skip = false },
  refl,
  record { w = like.w; carry = like.carry; zero = like.zero; mem = like.mem },
  sym (ap (λ b. run more (step_in b (Near n) s)) none) ∙ comes,
)
follows_near uses place result _ more d word i = absurd (cc)

follows : (uses writes : ℕ → Bool) (place : ℕ → ℕ) → Placed uses writes place → (result : State)
    → Carries place uses writes (Keeps (PlacesOf uses place)) (Follows uses place result)
follows uses writes place placed result = record {
  narrow = keeps_others (PlacesOf uses place);
  stays = λ acts skip c d r i. (i.0, i.1, like_stays uses place i.0 c d r i.2, i.3);
  sets = λ acts high v d i. (i.0, i.1, follows_set uses place i.0 high v d i.2, i.3);
  acted = follows_act uses writes place placed result;
  passed = follows_skip uses place result;
  came_near = follows_near uses place result;
}

pub leaves : (uses writes : ℕ → Bool) (place : ℕ → ℕ) (bank : Bank) (acts : List Act) → CodeLeaves uses writes place bank acts
leaves uses writes place bank acts placed sounds program c at =
    let instrs = code place bank acts in
    let stop = c.pc + length instrs in
    let R = Keeps (PlacesOf uses place) in
    let result = run acts (view place c) in
    let I = Follows uses place result in
    let to = bank_after place bank acts in
    let start : I acts false c = (view place c, refl, record { w = refl; carry = refl; zero = refl; mem = λ n used. refl }, refl) in
    comes_wider program R R (OwnIn writes place instrs c) (OwnIn writes place instrs c) (λ e. Ended (stop % 8192) to e × I [] false e)
    (λ e. Ended (stop % 8192) to e × Like uses result (view place e))
    (λ x y r. r)
    (λ d done step. step)
    (λ e q. (q.0, subst (λ s. Like uses s (view place e)) q.1.3 q.1.2))
    (length instrs)
    c
    (go program place uses writes placed R I (follows uses writes place placed result) c.pc stop acts false false None bank c.pc c sounds tt (λ e. e)
    (at_start program bank instrs c at) start at.holds)
