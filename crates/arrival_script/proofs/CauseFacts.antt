-- The cause that applies to a line, from the one that it has by itself and what stands before it.
use Rattle.std.proofs.Common.{◌≡◌, Bool, true, false, not, cond, ◌&&◌, ◌||◌, nat_lt, List, length, Option, Some, None, refl, sym, ap, ◌∙◌}
use Rattle.std.specs.List.{list_all, list_any}
use Rattle.arrival_script.specs.declared.scripts.Cause.{Cause}
use Rattle.arrival_script.specs.declared.scripts.Cause.TheVariants.{AfterSteps, BadLine, BadNumber, UnknownSource, UnknownPort, SourceTwice, NotRising, PinTwice}
use Rattle.arrival_script.specs.Scripts.{Line, is_fill, is_late, is_pin, is_timed, is_opening, is_steps, has_form, is_misplaced, has_number, names, third, is_source, is_port, has_twice, rises, is_twice, line_cause}
use Rattle.arrival_script.specs.Entries.{own_cause}

-- The tests in order, by their answers.
abbrev own : Bool → Bool → Bool → Bool → Bool → Option Cause
own form number known no_port twice =
    cond (not form) (Some BadLine) (cond (not number) (Some BadNumber) (cond (not known) (Some UnknownSource) (cond no_port (Some UnknownPort) (cond twice (Some SourceTwice) None))))

-- The tests of a line that has no cause by itself.
abbrev pub by_place : Bool → Bool → Bool → Option Cause
by_place misplaced falls again = cond misplaced (Some BadLine) (cond falls (Some NotRising) (cond again (Some PinTwice) None))

abbrev in_order : Bool → Bool → Bool → Bool → Bool → Bool → Bool → Bool → Bool → Option Cause
in_order form misplaced number known no_port twice falls again after =
    cond after (Some AfterSteps) (cond (not form || misplaced) (Some BadLine) (cond (not number) (Some BadNumber) (cond (not known) (Some UnknownSource) (cond no_port (Some UnknownPort)
    (cond twice (Some SourceTwice) (cond falls (Some NotRising) (cond again (Some PinTwice) None)))))))

refused : (opening form misplaced number known no_port twice falls again : Bool) (cause : Cause) → own form number known no_port twice ≡ Some cause → (misplaced ≡ true → opening ≡ true)
    → (opening ≡ true → cause ≡ BadLine) → in_order form misplaced number known no_port twice falls again false ≡ Some cause
refused opening false misplaced number known no_port twice falls again cause e m h = e
refused opening true true number known no_port twice falls again cause e m h = ap (λ c. Some c) (sym (h (m refl)))
refused opening true false false known no_port twice falls again cause e m h = e
refused opening true false true false no_port twice falls again cause e m h = e
refused opening true false true true true twice falls again cause e m h = e
refused opening true false true true false true falls again cause e m h = e
refused opening true false true true false false falls again cause e m h = cc

passed : (form misplaced number known no_port twice falls again : Bool) → own form number known no_port twice ≡ None
    → in_order form misplaced number known no_port twice falls again false ≡ by_place misplaced falls again
passed false misplaced number known no_port twice falls again e = cc
passed true misplaced false known no_port twice falls again e = cc
passed true misplaced true false no_port twice falls again e = cc
passed true misplaced true true true twice falls again e = cc
passed true misplaced true true false true falls again e = cc
passed true true true true false false falls again e = refl
passed true false true true false false falls again e = refl

misplaced-opening : (before : List Line) (line : Line) → is_misplaced before line ≡ true → is_opening line ≡ true
misplaced-opening before line = go (is_fill line) (is_late line) (nat_lt 0 (length before)) (not (list_all is_fill before))
  where
    go : (fill late started other : Bool) → (fill && started || late && other) ≡ true → (fill || late) ≡ true
    go true late started other h = refl
    go false true started other h = refl
    go false false started other h = h

pub cause-after : (before : List Line) (line : Line) → list_any is_steps before ≡ true → line_cause before line ≡ Some AfterSteps
cause-after before line e =
    ap (in_order (has_form line) (is_misplaced before line) (has_number line) (list_all is_source (names line)) (is_pin line && not (is_port (third line))) (has_twice (names line))
    (is_timed line && not (rises before line)) (is_pin line && is_twice before line)) e

pub cause-own : (before : List Line) (line : Line) (cause : Cause) → list_any is_steps before ≡ false → own_cause line ≡ Some cause → (is_opening line ≡ true → cause ≡ BadLine)
    → line_cause before line ≡ Some cause
cause-own before line cause e own opening =
    ap (in_order (has_form line) (is_misplaced before line) (has_number line) (list_all is_source (names line)) (is_pin line && not (is_port (third line))) (has_twice (names line))
    (is_timed line && not (rises before line)) (is_pin line && is_twice before line)) e
    ∙ refused (is_opening line) (has_form line) (is_misplaced before line) (has_number line) (list_all is_source (names line)) (is_pin line && not (is_port (third line))) (has_twice (names line))
    (is_timed line && not (rises before line)) (is_pin line && is_twice before line) cause own (misplaced-opening before line) opening

pub cause-behind : (before : List Line) (line : Line) → list_any is_steps before ≡ false → own_cause line ≡ None
    → line_cause before line ≡ by_place (is_misplaced before line) (is_timed line && not (rises before line)) (is_pin line && is_twice before line)
cause-behind before line e own =
    ap (in_order (has_form line) (is_misplaced before line) (has_number line) (list_all is_source (names line)) (is_pin line && not (is_port (third line))) (has_twice (names line))
    (is_timed line && not (rises before line)) (is_pin line && is_twice before line)) e
    ∙ passed (has_form line) (is_misplaced before line) (has_number line) (list_all is_source (names line)) (is_pin line && not (is_port (third line))) (has_twice (names line))
    (is_timed line && not (rises before line)) (is_pin line && is_twice before line) own
