-- Steps that have no line, and lines that are written field by field.
use Rattle.std.proofs.Common.{◌≡◌, ℕ, ◌||◌, ◌==◌, Bool, true, false, cond, not, ◌&&◌, List, [], ◌∷◌, ◌++◌, map, Option, Some, None, Result, Ok, Err, OnOk, is_none, codes, refl, sym, ap, subst, ◌∙◌}
use Rattle.std.specs.Fmt.{decimal}
use Rattle.std.specs.List.{flat_map, list_any}
use Rattle.std.proofs.Math.Path.{fun_ext}
use Rattle.std.proofs.lemmas.Bool.{and_parts, eqb-true}
use Rattle.std.proofs.lemmas.List.{append_assoc}
use Rattle.text_parts.specs.Digits.{hex2}
use Rattle.pic_regs.specs.Bytes.{num}
use Rattle.pic_regs.specs.Registers.{Registers}
use Rattle.pic_regs.specs.Arrivals.{Sources, no_source, set_of, number_of}
use Rattle.pic_regs.proofs.ArrivalLaws.{set_of-number_of}
use Rattle.pic_machine.specs.declared.steps.Did.{Did}
use Rattle.pic_machine.specs.declared.steps.Did.TheVariants.{Took, Ran, Stopped}
use Rattle.pic_machine.specs.declared.steps.PortWrite.{PortWrite}
use Rattle.pic_machine.specs.declared.steps.Stepped.{Stepped}
use Rattle.pic_machine.specs.Chip.{Chip}
use Rattle.pic_machine.specs.Boundary.{Step, stepped}
use Rattle.pic_machine.specs.Dids.{is_stop}
use Rattle.map_file.specs.declared.maps.Map.{Map}
use Rattle.map_file.specs.MapText.{line}
use Rattle.arrival_script.specs.Scripts.{sources}
use Rattle.arrival_script.specs.Trace.{arrival_line, arrival_lines, take_line, sample_line, open_line, port_line, commit_line, step_line, step_lines, state_field, state_fields}
use Rattle.arrival_script.specs.TraceParts.{spaced, names_address, samples_address, is_named, is_silent, is_quiet}
use Rattle.arrival_script.proofs.SourceFacts.{set_of-zero}

-- A set whose number is 0 is empty.
no-source : (set : Sources) → number_of set ≡ 0 → set ≡ no_source
no-source set e = fun_ext (λ source. sym (set_of-number_of set source) ∙ ap (λ n. set_of n source) e ∙ set_of-zero source)

-- Lines of events or samples that a step doesn't name.
none-named : {X : Type 0} (named : X → Bool) (f : X → Bool) (text : X → List ℕ) (xs : List X)
    → ((x : X) → named x ≡ false → f x ≡ false) → list_any named xs ≡ false → flat_map (λ x. cond (f x) (text x) []) xs ≡ []
none-named named f text [] none h = refl
none-named named f text (x ∷ more) none h = go (named x) refl (none-named named f text more none) h
  where
    go : (b : Bool) → named x ≡ b → (list_any named more ≡ false → flat_map (λ y. cond (f y) (text y) []) more ≡ []) → (b || list_any named more) ≡ false
        → (cond (f x) (text x) [] ++ flat_map (λ y. cond (f y) (text y) []) more) ≡ []
    go true n rest k = cc
    go false n rest k = ap (λ b. cond b (text x) [] ++ flat_map (λ y. cond (f y) (text y) []) more) (none x n) ∙ rest k

or_first : (a b : Bool) → (a || b) ≡ false → a ≡ false
or_first true b h = h
or_first false b h = refl

or_second : (a b : Bool) → (a || b) ≡ false → b ≡ false
or_second true b h = cc
or_second false b h = h

-- The lines of a step, by its parts.
abbrev lines_by : Map → ℕ → Sources → Sources → Did → ℕ → Option PortWrite → Registers → List ℕ
lines_by m k latched merged did w port r =
    arrival_lines k latched merged
    ++ (take_line k did
    ++ (flat_map (sample_line k did w) m.samples
    ++ (flat_map (open_line k did) m.events
    ++ (port_line k port
    ++ flat_map (commit_line m k did r) m.events))))

quiet-lines : (m : Map) (k address word w : ℕ) (r : Registers) → is_named m address ≡ false → lines_by m k no_source no_source (Ran address word) w None r ≡ []
quiet-lines m k address word w r named =
    let events = or_first (list_any (names_address address) m.events) (list_any (samples_address address) m.samples) named in
    let samples : flat_map (sample_line k (Ran address word) w) m.samples ≡ [] =
    none-named (samples_address address) (λ s. address == s.at) (λ s. step_line k (codes "sample" ∷ s.event ∷ s.input ∷ hex2 w ∷ [])) m.samples (λ s h. h)
    (or_second (list_any (names_address address) m.events) (list_any (samples_address address) m.samples) named) in
    let opens : flat_map (open_line k (Ran address word)) m.events ≡ [] =
    none-named (names_address address) (λ e. address == e.«open») (λ e. step_line k (codes "open" ∷ e.name ∷ [])) m.events (λ e h. or_first (address == e.«open») (address == e.commit) h) events in
    let commits : flat_map (commit_line m k (Ran address word) r) m.events ≡ [] =
    none-named (names_address address) (λ e. address == e.commit) (λ e. step_line k (codes "commit" ∷ e.name ∷ state_fields m r)) m.events (λ e h. or_second (address == e.«open») (address == e.commit) h) events in
    ap (λ l. l ++ (flat_map (open_line k (Ran address word)) m.events ++ flat_map (commit_line m k (Ran address word) r) m.events)) samples
    ∙ ap (λ l. l ++ flat_map (commit_line m k (Ran address word) r) m.events) opens ∙ commits

pub quiet-step : (m : Map) (k : ℕ) (step : Step) (address word : ℕ) → number_of step.latched ≡ 0 → number_of step.merged ≡ 0 → step.did ≡ Ran address word → step.port ≡ None
    → is_named m address ≡ false → step_lines m k step ≡ []
quiet-step m k step address word latched merged did port named =
    let w = num step.after.w in let r = step.after.regs in
    ap (λ set. lines_by m k set step.merged step.did w step.port r) (no-source step.latched latched)
    ∙ ap (λ set. lines_by m k no_source set step.did w step.port r) (no-source step.merged merged)
    ∙ ap (λ d. lines_by m k no_source no_source d w step.port r) did
    ∙ ap (λ p. lines_by m k no_source no_source (Ran address word) w p r) port
    ∙ quiet-lines m k address word w r named

-- Fields behind a first one, each behind a space.
pub line-spaced : (first : List ℕ) (fields : List (List ℕ)) → line (first ∷ fields) ≡ first ++ (flat_map spaced fields ++ codes "\n")
line-spaced first [] = refl
line-spaced first (field ∷ fields) = ap (λ rest. first ++ (codes " " ++ rest)) (line-spaced field fields ∙ sym (append_assoc field (flat_map spaced fields) (codes "\n")))

pub flat_map-map : {X Y : Type 0} (f : Y → List ℕ) (g : X → Y) (xs : List X) → flat_map f (map g xs) ≡ flat_map (λ x. f (g x)) xs
flat_map-map f g [] = refl
flat_map-map f g (x ∷ xs) = ap (λ rest. f (g x) ++ rest) (flat_map-map f g xs)

-- A report that tells of no line, and the lines that the writers add.
quiet-report : (m : Map) (silent : Bool) (did : Did) → is_quiet m silent did ≡ true → (address : ℕ) × (word : ℕ) × (did ≡ Ran address word) × (silent ≡ true) × (is_named m address ≡ false)
quiet-report m silent Took h = cc
quiet-report m silent (Stopped address why) h = cc
quiet-report m true (Ran address word) h = (address, word, refl, refl, not_true (is_named m address) h)
  where
    not_true : (b : Bool) → not b ≡ true → b ≡ false
    not_true true e = cc
    not_true false e = refl
quiet-report m false (Ran address word) h = cc

no_port : (port : Option PortWrite) → is_none port ≡ true → port ≡ None
no_port None h = refl
no_port (Some write) h = cc

pub quiet : (m : Map) (k : ℕ) (step : Step) (report : Stepped) → report ≡ stepped step → is_quiet m (is_silent report) report.did ≡ true → step_lines m k step ≡ []
quiet m k step report e h =
    let told : is_quiet m (is_silent (stepped step)) step.did ≡ true = subst (λ r. is_quiet m (is_silent r) r.did ≡ true) e h in
    let q = quiet-report m (is_silent (stepped step)) step.did told in
    let l = and_parts (number_of step.latched == 0 && number_of step.merged == 0) (is_none step.port) q.3 in
    let n = and_parts (number_of step.latched == 0) (number_of step.merged == 0) l.0 in
    quiet-step m k step q.0 q.1 (eqb-true (number_of step.latched) 0 n.0) (eqb-true (number_of step.merged) 0 n.1) q.2 (no_port step.port l.1) q.4

-- A quiet step is no stop.
pub quiet-goes : (m : Map) (k : ℕ) (step : Step) (report : Stepped) → report ≡ stepped step → is_quiet m (is_silent report) report.did ≡ true → is_stop step.did ≡ false
quiet-goes m k step report e h =
    let q = quiet-report m (is_silent report) report.did h in
    ap is_stop (sym (ap (λ (r : Stepped). r.did) e) ∙ q.2)

pub on_ok : {E : Type 0} {P Q : Type 0} (r : Result (Unit {0}) E) → (P → Q) → OnOk r P → OnOk r Q
on_ok (Ok done) f p = f p
on_ok (Err e) f p = p

set-told : (set : Sources) → set_of (number_of set) ≡ set
set-told set = fun_ext (set_of-number_of set)

-- What is added piece by piece.
pub step-written : (m : Map) (k : ℕ) (step : Step) (report : Stepped) (chip : Chip) (w : ℕ) (t0 t1 t2 t3 t4 t5 t6 : List ℕ) → report ≡ stepped step → chip ≡ step.after → w ≡ num chip.w
    → t1 ≡ t0 ++ flat_map (arrival_line k (set_of report.latched) (set_of report.merged)) sources → t2 ≡ t1 ++ take_line k report.did
    → t3 ≡ t2 ++ flat_map (sample_line k report.did w) m.samples → t4 ≡ t3 ++ flat_map (open_line k report.did) m.events → t5 ≡ t4 ++ port_line k report.port
    → t6 ≡ t5 ++ flat_map (commit_line m k report.did chip.regs) m.events → t6 ≡ t0 ++ step_lines m k step
step-written m k step report chip w t0 t1 t2 t3 t4 t5 t6 e s v w1 w2 w3 w4 w5 w6 =
    six t0 (arrival_lines k (set_of report.latched) (set_of report.merged)) (take_line k report.did) (flat_map (sample_line k report.did w) m.samples)
    (flat_map (open_line k report.did) m.events) (port_line k report.port) (flat_map (commit_line m k report.did chip.regs) m.events) t1 t2 t3 t4 t5 t6 w1 w2 w3 w4 w5 w6
    ∙ ap (λ told. t0 ++ lines_by m k (set_of told.latched) (set_of told.merged) told.did w told.port chip.regs) e
    ∙ ap (λ n. t0 ++ lines_by m k (set_of (number_of step.latched)) (set_of (number_of step.merged)) step.did n step.port chip.regs) v
    ∙ ap (λ (c : Chip). t0 ++ lines_by m k (set_of (number_of step.latched)) (set_of (number_of step.merged)) step.did (num c.w) step.port c.regs) s
    ∙ ap (λ set. t0 ++ lines_by m k set (set_of (number_of step.merged)) step.did (num step.after.w) step.port step.after.regs) (set-told step.latched)
    ∙ ap (λ set. t0 ++ lines_by m k step.latched set step.did (num step.after.w) step.port step.after.regs) (set-told step.merged)
  where
    six : (t a b i o p c t1 t2 t3 t4 t5 t6 : List ℕ) → t1 ≡ t ++ a → t2 ≡ t1 ++ b → t3 ≡ t2 ++ i → t4 ≡ t3 ++ o → t5 ≡ t4 ++ p → t6 ≡ t5 ++ c → t6 ≡ t ++ (a ++ (b ++ (i ++ (o ++ (p ++ c)))))
    six t a b i o p c t1 t2 t3 t4 t5 t6 w1 w2 w3 w4 w5 w6 = rw (w6, w5, w4, w3, w2, w1) (simp append_assoc)

-- A line that is begun and ended with the states.
pub states-written : (m : Map) (r : Registers) (last : List ℕ) → line (last ∷ state_fields m r) ≡ last ++ (flat_map (λ s. spaced (state_field r s)) m.states ++ codes "\n")
states-written m r last = line-spaced last (state_fields m r) ∙ ap (λ fields. last ++ (fields ++ codes "\n")) (flat_map-map spaced (state_field r) m.states)

pub commit-written : (m : Map) (k : ℕ) (r : Registers) (name t0 t1 t2 : List ℕ) → t1 ≡ t0 ++ (decimal k ++ (codes " commit " ++ name))
    → t2 ≡ t1 ++ (flat_map (λ s. spaced (state_field r s)) m.states ++ codes "\n") → t2 ≡ t0 ++ step_line k (codes "commit" ∷ name ∷ state_fields m r)
commit-written m k r name t0 t1 t2 w1 w2 = rw (w2, w1, states-written m r name) (simp append_assoc)

pub end-written : (m : Map) (n depth : ℕ) (r : Registers) (t0 t1 t2 : List ℕ) → t1 ≡ t0 ++ (codes "end " ++ (decimal n ++ (codes " deepest " ++ decimal depth)))
    → t2 ≡ t1 ++ (flat_map (λ s. spaced (state_field r s)) m.states ++ codes "\n") → t2 ≡ t0 ++ line (codes "end" ∷ decimal n ∷ codes "deepest" ∷ decimal depth ∷ state_fields m r)
end-written m n depth r t0 t1 t2 w1 w2 = rw (w2, w1, states-written m r (decimal depth)) (simp append_assoc)
