-- A text that is read line by line.
use Rattle.std.proofs.Common.{◌≡◌, ℕ, ◌+◌, ◌<◌, ◌≤◌, Bool, true, false, cond, List, [], ◌∷◌, ◌++◌, length, Option, Some, None, Result, Ok, refl, sym, ap, ◌∙◌, arith}
use Rattle.std.specs.Str.Lines.{lines}
use Rattle.std.proofs.lemmas.List.{append_assoc}
use Rattle.arrival_script.specs.declared.scripts.Cause.{Cause}
use Rattle.arrival_script.specs.declared.scripts.ScriptFault.{ScriptFault}
use Rattle.arrival_script.specs.declared.drafts.Draft.{Draft}
use Rattle.text_parts.specs.Fields.{fields_of}
use Rattle.arrival_script.specs.Scripts.{Line, Fault, is_told, told_from, told_lines, line_cause, fault_among}
use Rattle.arrival_script.specs.Drafts.{IsDraftOf, Adds, Takes}

-- What is known of a text where this rest is left, behind this many lines: the lines before are those of the draft, and no cause
-- applies to them.
pub record ReadSoFar (bytes rest : List ℕ) (count : ℕ) (d : Draft) : Type 0 where
  pub seen : List Line
  pub draft : IsDraftOf seen d
  pub told : told_lines bytes ≡ seen ++ told_from (count + 1) (lines rest)
  pub first : fault_among [] (told_lines bytes) ≡ fault_among seen (told_from (count + 1) (lines rest))
  pub total : length (lines bytes) ≡ count + length (lines rest)
  pub room : count + length rest ≤ length bytes

abbrev line_at : ℕ → List ℕ → Line
line_at n text = record { number = n; fields = fields_of text }

abbrev after_cause : Option Cause → List Line → Line → List Line → Option Fault
after_cause (Some cause) before line more = Some (record { line = line.number; cause = cause })
after_cause None before line more = fault_among (before ++ line ∷ []) more

among-more : (before : List Line) (line : Line) (more : List Line) → fault_among before (line ∷ more) ≡ after_cause (line_cause before line) before line more
among-more before line more = go (line_cause before line)
  where
    go : (o : Option Cause) → elim o as (λ _. Option Fault) [ Some cause ↦ Some (record { line = line.number; cause = cause }) | None ↦ fault_among (before ++ line ∷ []) more ] ≡ after_cause o before line more
    go (Some cause) = refl
    go None = refl

abbrev done : Result (Unit {0}) ScriptFault
done = Ok tt

-- The lines from the first one of the rest on.
told-rest : (rest text more : List ℕ) (n : ℕ) → lines rest ≡ text ∷ lines more → told_from n (lines rest) ≡ cond (is_told (fields_of text)) (line_at n text ∷ told_from (n + 1) (lines more)) (told_from (n + 1) (lines more))
told-rest rest text more n e = ap (told_from n) e

pub read-more : (bytes rest : List ℕ) (count : ℕ) (d : Draft) (text more : List ℕ) (new : Draft) (so : ReadSoFar bytes rest count d) → lines rest ≡ text ∷ lines more → length more < length rest
    → Takes so.seen (line_at (count + 1) text) new done → ReadSoFar bytes more (count + 1) new
read-more bytes rest count d text more new so e shorter takes = go (is_told (fields_of text)) refl takes
  where
    total : length (lines bytes) ≡ count + 1 + length (lines more)
    total = let t = so.total in let l : length (lines rest) ≡ length (text ∷ lines more) = ap length e in omega arith

    room : count + 1 + length more ≤ length bytes
    room = let r = so.room in omega arith

    go : (b : Bool) → is_told (fields_of text) ≡ b → elim b as (λ _. Type 0) [ true ↦ Adds so.seen (line_at (count + 1) text) new done | false ↦ (done ≡ Ok tt) × IsDraftOf so.seen new ]
        → ReadSoFar bytes more (count + 1) new
    go true h step =
        let line = line_at (count + 1) text in
        let later = told_from (count + 1 + 1) (lines more) in
        let from : told_from (count + 1) (lines rest) ≡ line ∷ later = told-rest rest text more (count + 1) e ∙ ap (λ b. cond b (line ∷ later) later) h in
        record {
          seen = so.seen ++ line ∷ [];
          draft = step.1;
          told = so.told ∙ ap (λ ls. so.seen ++ ls) from ∙ sym (append_assoc so.seen (line ∷ []) later);
          first = so.first ∙ ap (fault_among so.seen) from ∙ among-more so.seen line later ∙ ap (λ o. after_cause o so.seen line later) step.0;
          total = total;
          room = room;
        }
    go false h step =
        let line = line_at (count + 1) text in
        let later = told_from (count + 1 + 1) (lines more) in
        let from : told_from (count + 1) (lines rest) ≡ later = told-rest rest text more (count + 1) e ∙ ap (λ b. cond b (line ∷ later) later) h in
        record { seen = so.seen; draft = step.1; told = so.told ∙ ap (λ ls. so.seen ++ ls) from; first = so.first ∙ ap (fault_among so.seen) from; total = total; room = room }
