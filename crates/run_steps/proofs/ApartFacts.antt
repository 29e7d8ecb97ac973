-- The lines of a window: the first one is quiet, and the last one stands apart.
use Rattle.std.proofs.Common.{◌≡◌, ℕ, ◌/◌, ◌%◌, ◌==◌, Bool, true, false, if◌then◌else◌, Option, Some, None, List, [], ◌∷◌, ◌++◌, refl, sym, ap, subst, ◌∙◌, append_assoc}
use Rattle.std.proofs.lemmas.List.{append-nil}
use Rattle.std.specs.List.{AllByRecursion}
use Rattle.pic_regs.specs.declared.places.Place.{Place}
use Rattle.pic_regs.specs.declared.places.Place.TheVariants as place
use Rattle.pic_regs.specs.Places.{reg_of}
use Rattle.code_steps.specs.declared.banks.Bank.{Bank}
use Rattle.code_acts.specs.Codes.{low_bit, high_bit, moved}
use Rattle.glue_steps.specs.declared.lines.Line.{Line}
use Rattle.glue_steps.specs.declared.lines.Line.TheVariants.{Bit, Clear, Load, Nothing, Store}
use Rattle.glue_steps.specs.Stretches.{may_skip}
use Rattle.glue_steps.specs.Still.{StillLines}
use Rattle.glue_parts.specs.Pieces.{bit_lines, is_known, knows, lines_for}
use Rattle.glue_parts.specs.Places.{bank_of}
use Rattle.scratch_commit.specs.Deeds.{Deed, Copy, Make, Pause, bank_behind, bank_past, lines_in, lines_of}
use Rattle.scratch_commit.proofs.DeedLaws.{all_both, lines_then}
use Rattle.run_steps.specs.Deeds.{DeedStill}
use Rattle.run_steps.proofs.MoveFacts.{IsCopy, IsEnding, IsOpening}
use Rattle.run_steps.proofs.StretchFacts.{still_both, still_in}
use Rattle.run_steps.proofs.WindowFacts.{IsStill, Plain, is_quiet, quiet_still}

-- Bank settings are quiet, and quiet lines skip nothing and are glue.
abbrev AllQuiet : List Line → Type 0
AllQuiet lines = AllByRecursion (λ line. is_quiet line ≡ true) lines

quiet_bit : (b : ℕ) (v there : Bool) → AllQuiet (if there then [] else Bit v place.Status b ∷ [])
quiet_bit b v true = tt
quiet_bit b v false = (refl, tt)

quiet_choice : (bank : Bank) (k : ℕ) (there first : Bool)
    → AllQuiet (if there then [] else if first then Clear place.Status ∷ [] else bit_lines 5 (low_bit bank) (k % 2 == 1) ++ bit_lines 6 (high_bit bank) (k / 2 == 1))
quiet_choice bank k true first = tt
quiet_choice bank k false true = (refl, tt)
quiet_choice bank k false false =
    all_both (λ line. is_quiet line ≡ true) (bit_lines 5 (low_bit bank) (k % 2 == 1)) (bit_lines 6 (high_bit bank) (k / 2 == 1))
    (quiet_bit 5 (k % 2 == 1) (knows (low_bit bank) (k % 2 == 1))) (quiet_bit 6 (k / 2 == 1) (knows (high_bit bank) (k / 2 == 1)))

quiet_for : (bank : Bank) (o : Option ℕ) → AllQuiet (lines_for bank o)
quiet_for bank None = tt
quiet_for bank (Some k) = quiet_choice bank k (is_known bank k) (k == 0)

quiet_plain : (line : Line) → is_quiet line ≡ true → may_skip line ≡ false
quiet_plain (Load p) quiet = refl
quiet_plain Nothing quiet = refl
quiet_plain (Clear p) quiet = refl
quiet_plain (Bit v p b) quiet = refl
quiet_plain _ quiet = absurd (cc)

all_plain : (lines : List Line) → AllQuiet lines → Plain lines
all_plain [] quiet = tt
all_plain (line ∷ lines) quiet = (quiet_plain line quiet.0, all_plain lines quiet.1)

all_still : (May : ℕ → Type 0) (lines : List Line) → AllQuiet lines → StillLines May lines
all_still May [] quiet = tt
all_still May (line ∷ lines) quiet = let own = quiet_still May line quiet.0 in (own.0, own.1, all_still May lines quiet.1)

-- The lines of a deed: quiet ones before the last.
record Shape (lines : List Line) : Type 0 where
  pub quiets : List Line
  pub last : Line
  pub are : lines ≡ quiets ++ last ∷ []
  pub quiet : AllQuiet quiets
  pub plain : may_skip last ≡ false

abbrev loading : Bank → (from to : Place) → List Line
loading bank from to = (lines_for bank (bank_of (reg_of from)) ++ Load from ∷ []) ++ lines_for (moved bank (bank_of (reg_of from))) (bank_of (reg_of to))

loading_quiet : (bank : Bank) (from to : Place) → AllQuiet (loading bank from to)
loading_quiet bank from to =
    let one = lines_for bank (bank_of (reg_of from)) in
    let two = lines_for (moved bank (bank_of (reg_of from))) (bank_of (reg_of to)) in
    all_both (λ line. is_quiet line ≡ true) (one ++ Load from ∷ []) two
    (all_both (λ line. is_quiet line ≡ true) one (Load from ∷ []) (quiet_for bank (bank_of (reg_of from))) (refl, tt))
    (quiet_for (moved bank (bank_of (reg_of from))) (bank_of (reg_of to)))

loading_is : (bank : Bank) (from to : Place) → lines_of bank (Copy from to) ≡ loading bank from to ++ Store to ∷ []
loading_is bank from to =
    let one = lines_for bank (bank_of (reg_of from)) in
    let two = lines_for (moved bank (bank_of (reg_of from))) (bank_of (reg_of to)) in sym (append_assoc (one ++ Load from ∷ []) two (Store to ∷ []))

shape_of : (bank : Bank) (deed : Deed) → IsEnding deed → Shape (lines_of bank deed)
shape_of bank Pause ending = record { quiets = []; last = Nothing; are = refl; quiet = tt; plain = refl }
shape_of bank (Make v p b) ending = record { quiets = []; last = Bit v p b; are = refl; quiet = tt; plain = refl }
shape_of bank (Copy from to) ending = record { quiets = loading bank from to; last = Store to; are = loading_is bank from to; quiet = loading_quiet bank from to; plain = refl }
shape_of bank _ ending = absurd ending

shape_still : (May : ℕ → Type 0) (bank : Bank) (deed : Deed) (ending : IsEnding deed) → DeedStill May deed → IsStill May (shape_of bank deed ending).last
unfolding shape_of
shape_still May bank Pause ending still = (refl, tt)
shape_still May bank (Make v p b) ending still = (still.0, still.1)
shape_still May bank (Copy from to) ending still = (still.0, still.1)
shape_still May bank _ ending still = absurd ending

shape_plain : (lines : List Line) → Shape lines → Plain lines
shape_plain lines shape =
    subst Plain (sym shape.are) (all_both (λ line. may_skip line ≡ false) shape.quiets (shape.last ∷ []) (all_plain shape.quiets shape.quiet) (shape.plain, tt))

opening_ends : (deed : Deed) → IsOpening deed → IsEnding deed
opening_ends Pause opening = tt
opening_ends (Copy from to) opening = tt
opening_ends _ opening = absurd opening

plain_in : (bank : Bank) (deeds : List Deed) → AllByRecursion IsOpening deeds → Plain (lines_in bank deeds)
plain_in bank [] opening = tt
plain_in bank (deed ∷ deeds) opening =
    all_both (λ line. may_skip line ≡ false) (lines_of bank deed) (lines_in (bank_behind bank deed) deeds)
    (shape_plain (lines_of bank deed) (shape_of bank deed (opening_ends deed opening.0))) (plain_in (bank_behind bank deed) deeds opening.1)

-- The first line.
record First (lines : List Line) : Type 0 where
  pub first : Line
  pub more : List Line
  pub are : lines ≡ first ∷ more
  pub quiet : is_quiet first ≡ true

head_quiet : (xs : List Line) (line : Line) (rest : List Line) → AllQuiet xs → is_quiet line ≡ true → First ((xs ++ line ∷ []) ++ rest)
head_quiet [] line rest quiet its = record { first = line; more = rest; are = refl; quiet = its }
head_quiet (x ∷ xs) line rest quiet its = record { first = x; more = (xs ++ line ∷ []) ++ rest; are = refl; quiet = quiet.0 }

first_more : (xs ys : List Line) → First xs → First (xs ++ ys)
first_more xs ys its = record { first = its.first; more = its.more ++ ys; are = ap (λ lines. lines ++ ys) its.are; quiet = its.quiet }

first_of : (bank : Bank) (deed : Deed) → IsOpening deed → First (lines_of bank deed)
first_of bank Pause opening = record { first = Nothing; more = []; are = refl; quiet = refl }
first_of bank (Copy from to) opening =
    head_quiet (lines_for bank (bank_of (reg_of from))) (Load from) (lines_for (moved bank (bank_of (reg_of from))) (bank_of (reg_of to)) ++ Store to ∷ [])
    (quiet_for bank (bank_of (reg_of from))) refl
first_of bank _ opening = absurd opening

-- The lines of a window.
pub record OfWindow (May Last : ℕ → Type 0) (lines : List Line) : Type 0 where
  pub first : Line
  pub middle : List Line
  pub last : Line
  pub are : lines ≡ first ∷ (middle ++ last ∷ [])
  pub plain : Plain (first ∷ (middle ++ last ∷ []))
  pub quiet : is_quiet first ≡ true
  pub still : StillLines May middle
  pub ends : IsStill Last last

-- One copy alone.
copy_lines : (May Last : ℕ → Type 0) (bank : Bank) (deed : Deed) → IsCopy deed → DeedStill Last deed → OfWindow May Last (lines_of bank deed)
copy_lines May Last bank (Copy from to) copy still =
    let its = head_quiet (lines_for bank (bank_of (reg_of from))) (Load from) (lines_for (moved bank (bank_of (reg_of from))) (bank_of (reg_of to)))
    (quiet_for bank (bank_of (reg_of from))) refl in
    let are : lines_of bank (Copy from to) ≡ its.first ∷ (its.more ++ Store to ∷ []) = loading_is bank from to ∙ ap (λ lines. lines ++ Store to ∷ []) its.are in
    let quiet : AllQuiet (its.first ∷ its.more) = subst AllQuiet its.are (loading_quiet bank from to) in
    record {
      first = its.first;
      middle = its.more;
      last = Store to;
      are = are;
      plain = subst Plain are (shape_plain (lines_of bank (Copy from to)) (shape_of bank (Copy from to) tt));
      quiet = its.quiet;
      still = all_still May its.more quiet.1;
      ends = (still.0, still.1);
    }
copy_lines May Last bank _ copy still = absurd copy

pub window_lines : (May Last : ℕ → Type 0) (bank : Bank) (front : List Deed) (last : Deed) → AllByRecursion IsOpening front → IsEnding last → (front ≡ [] → IsCopy last)
    → AllByRecursion (DeedStill May) front → DeedStill Last last → OfWindow May Last (lines_in bank (front ++ last ∷ []))
window_lines May Last bank [] last opening ending alone still ends =
    subst (OfWindow May Last) (sym (append-nil (lines_of bank last))) (copy_lines May Last bank last (alone refl) ends)
window_lines May Last bank (deed ∷ front) last opening ending alone still ends =
    let all : List Deed = deed ∷ front in
    let before : List Line = lines_in bank all in
    let behind : Bank = bank_past bank all in
    let shape = shape_of behind last ending in
    let head = first_more (lines_of bank deed) (lines_in (bank_behind bank deed) front) (first_of bank deed opening.0) in
    let last_lines : lines_in behind (last ∷ []) ≡ shape.quiets ++ shape.last ∷ [] = append-nil (lines_of behind last) ∙ shape.are in
    let are : lines_in bank (all ++ last ∷ []) ≡ head.first ∷ ((head.more ++ shape.quiets) ++ shape.last ∷ []) =
    lines_then bank all (last ∷ []) ∙ ap (λ lines. before ++ lines) last_lines ∙ ap (λ lines. lines ++ (shape.quiets ++ shape.last ∷ [])) head.are
    ∙ ap (λ lines. head.first ∷ lines) (sym (append_assoc head.more shape.quiets (shape.last ∷ []))) in
    let plain_last : Plain (lines_in behind (last ∷ [])) =
    subst Plain (sym (append-nil (lines_of behind last))) (shape_plain (lines_of behind last) shape) in
    let plain_all : Plain (lines_in bank (all ++ last ∷ [])) =
    subst Plain (sym (lines_then bank all (last ∷ [])))
    (all_both (λ line. may_skip line ≡ false) before (lines_in behind (last ∷ [])) (plain_in bank all opening) plain_last) in
    let still_before : StillLines May (head.first ∷ head.more) = subst (StillLines May) head.are (still_in May bank all still) in
    record {
      first = head.first;
      middle = head.more ++ shape.quiets;
      last = shape.last;
      are = are;
      plain = subst Plain are plain_all;
      quiet = head.quiet;
      still = still_both May head.more shape.quiets still_before.2 (all_still May shape.quiets shape.quiet);
      ends = shape_still Last behind last ending ends;
    }
