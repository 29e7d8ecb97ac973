-- Code in parts: where it stands, what it comes to under any relation, what may be promised less, and PCLATH; and where named
-- bytes lie.
use Rattle.std.proofs.Common.{◌≡◌, ℕ, suc, ◌+◌, ◌%◌, ◌<◌, ◌≤◌, Bool, true, false, if◌then◌else◌, List, [], ◌∷◌, ◌++◌, length, length-append, map, ap, ◌∙◌, sym, refl, subst, arith}
use Rattle.pic_isa.specs.declared.instructions.Instr.{Instr}
use Rattle.pic_machine.specs.Chip.{Chip}
use Rattle.pic_machine.specs.Results.{Done}
use Rattle.code_steps.specs.declared.banks.Bank.{Bank}
use Rattle.code_steps.specs.Steps.{next, Comes}
use Rattle.code_steps.specs.Ends.{Own, Ended}
use Rattle.code_steps.proofs.ComesLaws.{comes_wider, comes_then}
use Rattle.code_steps.proofs.OwnLaws.{own_wider}
use Rattle.code_items.specs.declared.items.Item.TheVariants.{Ins}
use Rattle.code_items.specs.Items.{is_skip}
use Rattle.code_items.specs.Lines.{Does, Placed as LinesPlaced, Stands, ahead, lines, lines_of}
use Rattle.code_acts.specs.Standing.{StandFrom, AtStart}

-- Instructions that stand as items stand.
line_of_one : (held paged : Bool) (i : Instr) (skip : Bool) → is_skip i ≡ skip → lines_of held paged (Ins i) [] ≡ Does i ∷ []
line_of_one held paged i true is = ap (λ b. if b then [] ++ Does i ∷ [] else Does i ∷ []) is
line_of_one held paged i false is = ap (λ b. if b then [] ++ Does i ∷ [] else Does i ∷ []) is

none_ahead : (paged : Bool) (instrs : List Instr) → ahead paged (map Ins instrs) ≡ []
none_ahead paged [] = refl
none_ahead paged (i ∷ more) = refl

lines_of_instrs : (held paged : Bool) (instrs : List Instr) → lines held paged (map Ins instrs) ≡ map Does instrs
lines_of_instrs held paged [] = refl
lines_of_instrs held paged (i ∷ more) =
    ap (λ ls. lines_of held paged (Ins i) ls ++ lines (is_skip i) paged (map Ins more)) (none_ahead paged more)
    ∙ ap (λ ls. ls ++ lines (is_skip i) paged (map Ins more)) (line_of_one held paged i (is_skip i) refl)
    ∙ ap (λ ls. Does i ∷ ls) (lines_of_instrs (is_skip i) paged more)

stand_of_lines : (program marks : ℕ → ℕ) (p q : ℕ) (instrs : List Instr) → LinesPlaced program marks p (map Does instrs) q → StandFrom program p instrs
stand_of_lines program marks p q [] placed = tt
stand_of_lines program marks p q (i ∷ more) placed = (placed.0, stand_of_lines program marks (next p) q more placed.1)

pub stand_of_items : (paged : Bool) (program marks : ℕ → ℕ) (p q : ℕ) (instrs : List Instr) → Stands paged program marks p (map Ins instrs) q → StandFrom program p instrs
stand_of_items paged program marks p q instrs stands =
    stand_of_lines program marks p q instrs (subst (λ ls. LinesPlaced program marks p ls q) (lines_of_instrs false paged instrs) stands)

-- And instructions that stand, stand as items.
lines_of_stand : (program marks : ℕ → ℕ) (p : ℕ) (instrs : List Instr) → p < 8192 → StandFrom program p instrs
    → LinesPlaced program marks p (map Does instrs) ((p + length instrs) % 8192)
lines_of_stand program marks p [] below stand = omega arith
lines_of_stand program marks p (i ∷ more) below stand =
    let there : (next p + length more) % 8192 ≡ (p + suc (length more)) % 8192 = omega arith in
    (stand.0, subst (LinesPlaced program marks (next p) (map Does more)) there (lines_of_stand program marks (next p) more (omega arith) stand.1))

pub items_of_stand : (program marks : ℕ → ℕ) (p : ℕ) (instrs : List Instr) → p < 8192 → StandFrom program p instrs
    → Stands false program marks p (map Ins instrs) ((p + length instrs) % 8192)
items_of_stand program marks p instrs below stand =
    subst (λ ls. LinesPlaced program marks p ls ((p + length instrs) % 8192)) (sym (lines_of_instrs false false instrs))
    (lines_of_stand program marks p instrs below stand)

-- They stand in two parts.
pub stand-append : (program : ℕ → ℕ) (p : ℕ) (xs ys : List Instr) → p < 8192 → StandFrom program p (xs ++ ys)
    → StandFrom program p xs × StandFrom program ((p + length xs) % 8192) ys
stand-append program p [] ys below stand =
    let here : p ≡ (p + 0) % 8192 = omega arith in (tt, subst (λ q. StandFrom program q ys) here stand)
stand-append program p (x ∷ xs) ys below stand =
    let rest = stand-append program (next p) xs ys (omega arith) stand.1 in
    let there : (next p + length xs) % 8192 ≡ (p + suc (length xs)) % 8192 = omega arith in
    ((stand.0, rest.0), subst (λ q. StandFrom program q ys) there rest.1)

-- Code comes to its end from each chip that is about to run it, with `Post` of how it was and how it is.
abbrev pub CodeComes : (R : Chip → Chip → Type 0) → (may : ℕ → Type 0) → (bank to : Bank) → List Instr → (Post : Chip → Chip → Type 0) → Type 0
CodeComes R may bank to instrs Post =
    (program : ℕ → ℕ) (c : Chip) → AtStart program bank instrs c
    → Comes program R (Own may c.pc (c.pc + length instrs)) (λ e. Ended ((c.pc + length instrs) % 8192) to e × Post c e) (length instrs) c

-- Less may come between, and less be promised.
pub code_wider : (R S : Chip → Chip → Type 0) (may also : ℕ → Type 0) (bank to : Bank) (instrs : List Instr) (P Q : Chip → Chip → Type 0)
    → ((c d : Chip) → S c d → R c d) → ((address : ℕ) → may address → also address) → ((c e : Chip) → P c e → Q c e)
    → CodeComes R may bank to instrs P → CodeComes S also bank to instrs Q
code_wider R S may also bank to instrs P Q narrow more less come program c at =
    let stop = c.pc + length instrs in
    comes_wider program R S (Own may c.pc stop) (Own also c.pc stop) (λ e. Ended (stop % 8192) to e × P c e) (λ e. Ended (stop % 8192) to e × Q c e) narrow
    (own_wider may also c.pc stop c.pc stop more (omega arith) (omega arith))
    (λ e p. (p.0, less c e p.1))
    (length instrs)
    c
    (come program c at)

-- The second part, begun where the first has ended.
second_part : (R : Chip → Chip → Type 0) (may : ℕ → Type 0) (mid to : Bank) (ys : List Instr) (Q : Chip → Chip → Type 0) → CodeComes R may mid to ys Q
    → (program : ℕ → ℕ) (start at : ℕ) (d : Chip) → start ≤ at → at + length ys ≤ 8192 → StandFrom program (at % 8192) ys → Ended (at % 8192) mid d
    → Comes program R (Own may start (at + length ys)) (λ e. Ended ((at + length ys) % 8192) to e × Q d e) (length ys) d
second_part R may mid to [] Q come program start at d low room stand ended =
    let here : d.pc ≡ at % 8192 = ended.0 in
    let done = come program d (record { pc = omega arith; room = omega arith; stand = tt; holds = ended.1 }) in
    let there : (d.pc + 0) % 8192 ≡ (at + 0) % 8192 = omega arith in
    ((done.0.0 ∙ there, done.0.1), done.1)
second_part R may mid to (y ∷ ys) Q come program start at d low room stand ended =
    let here : d.pc ≡ at % 8192 = ended.0 in
    let same : d.pc ≡ at = omega arith in
    let stop = at + suc (length ys) in
    comes_wider program R R (Own may d.pc (d.pc + suc (length ys))) (Own may start stop) (λ e. Ended ((d.pc + suc (length ys)) % 8192) to e × Q d e)
    (λ e. Ended (stop % 8192) to e × Q d e)
    (λ x z r. r)
    (own_wider may may d.pc (d.pc + suc (length ys)) start stop (λ address allowed. allowed) (omega arith) (omega arith))
    (λ e p. (subst (λ q. Ended ((q + suc (length ys)) % 8192) to e) same p.0, p.1))
    (suc (length ys))
    d
    (come program d (record { pc = omega arith; room = omega arith; stand = subst (λ q. StandFrom program q (y ∷ ys)) (sym here) stand; holds = ended.1 }))

-- One part after the other, with what both together leave.
pub code_in_parts : (R : Chip → Chip → Type 0) (may : ℕ → Type 0) (bank mid to : Bank) (xs ys : List Instr) (P Q S : Chip → Chip → Type 0)
    → ((c d e : Chip) → P c d → Q d e → S c e) → CodeComes R may bank mid xs P → CodeComes R may mid to ys Q → CodeComes R may bank to (xs ++ ys) S
code_in_parts R may bank mid to xs ys P Q S joined first second program c at =
    let low : c.pc < 8192 = at.pc in
    let count : length (xs ++ ys) ≡ length xs + length ys = length-append xs ys in
    let room : c.pc + length (xs ++ ys) ≤ 8192 = at.room in
    let middle = c.pc + length xs in
    let stop = middle + length ys in
    let whole : stop ≡ c.pc + length (xs ++ ys) = omega arith in
    let parts = stand-append program c.pc xs ys low at.stand in
    let Wide : Chip → Done → Type 0 = Own may c.pc stop in
    let End : Chip → Type 0 = λ e. Ended (stop % 8192) to e × S c e in
    let begun = comes_wider program R R (Own may c.pc middle) Wide (λ d. Ended (middle % 8192) mid d × P c d) (λ d. Ended (middle % 8192) mid d × P c d)
    (λ x z r. r)
    (own_wider may may c.pc middle c.pc stop (λ address allowed. allowed) (omega arith) (omega arith))
    (λ d p. p)
    (length xs)
    c
    (first program c (record { pc = low; room = omega arith; stand = parts.0; holds = at.holds })) in
    let both = comes_then program R Wide (λ d. Ended (middle % 8192) mid d × P c d) End (length xs) (length ys) c begun (λ d p.
    comes_wider program R R Wide Wide (λ e. Ended (stop % 8192) to e × Q d e) End
    (λ x z r. r)
    (λ x done step. step)
    (λ e q. (q.0, joined c d e p.1 q.1))
    (length ys)
    d
    (second_part R may mid to ys Q second program c.pc middle d (omega arith) (omega arith) parts.1 p.0)) in
    subst (λ n. Comes program R (Own may c.pc (c.pc + n)) (λ e. Ended ((c.pc + n) % 8192) to e × S c e) n c) (sym count)
    (subst (λ q. Comes program R (Own may c.pc q) (λ e. Ended (q % 8192) to e × S c e) (length xs + length ys) c) (omega arith) both)
