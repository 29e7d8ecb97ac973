-- Own steps of the code as boundaries of the chip, and what they tell by the core's label.
use Rattle.std.specs.Prelude.{ℕ, ◌<◌, ◌==◌, Bool, true, false, ◌&&◌, not, ◌⊎◌, List, [], Option, Some, None, IfSome}
use Rattle.std.specs.List.{cons_option}
use Rattle.std.proofs.Common.{◌≡◌, refl, sym, ap, subst, ◌∙◌, inl, inr}
use Rattle.std.proofs.lemmas.Bool.{both_ways}
use Rattle.std.proofs.Math.Bool.{and-true}
use Rattle.pic_isa.specs.declared.sources.Source.{Source}
use Rattle.pic_regs.specs.Registers.{flag, requested}
use Rattle.pic_machine.specs.declared.steps.Did.TheVariants.{Ran}
use Rattle.pic_machine.specs.declared.steps.PortWrite.{PortWrite}
use Rattle.pic_machine.specs.Chip.{Chip}
use Rattle.pic_machine.specs.Results.{Done}
use Rattle.pic_machine.specs.Boundary.{Outer, Turn, Step, boundary}
use Rattle.pic_machine.proofs.TurnLaws.{with_outer, step_of, taking, takes-due, takes-it}
use Rattle.map_file.specs.declared.maps.Map.{Map}
use Rattle.firmware_promises.specs.MapNames.{is_listed}
use Rattle.firmware_promises.specs.Counts.{put_by}
use Rattle.timed_core.specs.Steps.{Run, Phase, Label, is_on}
use Rattle.timed_core.specs.Steps.Label.{Takes, Clears, Opens, Commits, Returns}
use Rattle.timed_core.specs.Tale.{is_clearing}
use Rattle.timed_core.specs.Counts.{is_commit}
use Rattle.timed_core.specs.Promises.{is_boot, is_taking}
use Rattle.core_story.specs.Values.{Values}
use Rattle.core_story.specs.Interface.{Told, Next, is_return, is_opening}
use Rattle.code_steps.specs.Steps.{own}
use Rattle.code_steps.proofs.OwnLaws.{own_boundary, own_late}
use Rattle.glue_steps.specs.Laws.{StillIn}
use Rattle.glue_steps.specs.Still.{Off}
use Rattle.glue_steps.proofs.StillLaws.{still_flags}
use Rattle.glue_steps.proofs.BoundaryLaws.{off_boundary}
use Rattle.firmware_parts.specs.Layout.{Layout, Part, piece}
use Rattle.firmware_parts.specs.Layout.Part.{Work}
use Rattle.firmware_parts.specs.Contexts.{AtLevel}
use Rattle.firmware_parts.specs.Runs.{WorkStep}
use Rattle.code_story.specs.Arranged.{IsPart}
use Rattle.code_story.specs.Code.{Code}
use Rattle.code_story.specs.Laws.{is_window_part}
use Rattle.code_story.specs.Relation.{level_of_top, Sim}
use Rattle.code_story.proofs.ArrangedFacts.{Elsewhere, part_is_elsewhere, above_its_top, top_is_level, heard_at}

-- What the own step at a boundary is to show for its label: `after` is the chip behind it.
pub record Shows (m : Map) (l : Layout) (ph : Phase) (st : List Run) (label : Label) (outer : Outer) (c after : Chip) (done : Done) : Type 0 where
  pub taking : is_taking label ≡ false
  pub returned : (l.program c.pc == 0x0009) ≡ is_return label
  pub opened : (x : ℕ) → 0 < l.level x → (c.pc == l.opens x) ≡ is_opening x label
  pub committed : (x : ℕ) → 0 < l.level x → (c.pc == l.commits x) ≡ is_commit x label
  pub flags : (x : ℕ) → 0 < l.level x → flag (l.source x) after.regs ≡ (flag (l.source x) (with_outer outer c).regs && not (is_clearing x label))
  pub heard : is_on ph ≡ true → (c.regs.intcon.b7 ≡ true) × AtLevel l (level_of_top l st) (with_outer outer c)
  pub kept : is_boot ph ≡ true → (source : Source) → flag source after.regs ≡ flag source (with_outer outer c).regs
  pub listed : IfSome done.wrote (λ a. is_listed m a ≡ true)

-- A label that opens, commits, clears, takes and returns nothing.
pub record IsPlain (label : Label) : Type 0 where
  pub taking : is_taking label ≡ false
  pub returned : is_return label ≡ false
  pub opened : (x : ℕ) → is_opening x label ≡ false
  pub committed : (x : ℕ) → is_commit x label ≡ false
  pub cleared : (x : ℕ) → is_clearing x label ≡ false

abbrev pub is_plain : Label → Bool
is_plain Takes = false
is_plain (Clears e) = false
is_plain (Opens e) = false
is_plain (Commits e) = false
is_plain Returns = false
is_plain _ = true

plainly : (label : Label) → is_plain label ≡ true → IsPlain label
plainly Takes plain = absurd (cc)
plainly (Clears e) plain = absurd (cc)
plainly (Opens e) plain = absurd (cc)
plainly (Commits e) plain = absurd (cc)
plainly Returns plain = absurd (cc)
plainly _ plain = record { taking = refl; returned = refl; opened = λ x. refl; committed = λ x. refl; cleared = λ x. refl }

kept_all : (b c : Bool) → c ≡ false → (b && not c) ≡ b
kept_all b c none = ap (λ k. b && not k) none ∙ and-true b

none_cleared : (b : Bool) → (b && not b) ≡ false
none_cleared true = refl
none_cleared false = refl

-- The turn that runs the word at the program counter.
abbrev pub running_turn : (program : ℕ → ℕ) → Chip → (after : Chip) → Done → Turn
running_turn program c after done = record { after = after; did = Ran c.pc (program c.pc); wrote = done.wrote; port = done.port }

-- What a step puts, by the bytes that are left.
pub puts_nothing : (put : Option PortWrite) (rest : List PortWrite) → [] ≡ cons_option put rest → (put_by put ≡ []) × (rest ≡ [])
puts_nothing None rest same = (refl, sym same)
puts_nothing (Some write) rest same = absurd (cc)

pub puts_last : (put : Option PortWrite) → put_by put ≡ cons_option put []
puts_last None = refl
puts_last (Some write) = refl

module _ (f : Code) where
  abbrev pub NextFrom : Phase → List Run → Values → Step → Type 0
  NextFrom ph st v step = Next f.p f.m f.t (Sim f) ph st v step

  pub told_by : (ph : Phase) (st : List Run) (label : Label) (outer : Outer) (c after : Chip) (done : Done) → Shows f.m f.l ph st label outer c after done
      → Told f.m f.t ph st label (step_of outer c (running_turn f.l.program c after done))
  told_by ph st label outer c after done shows = record {
    takes_is = sym shows.taking;
    returns_is = shows.returned;
    opened = λ x e found. let its = f.arranged.places.events x e found in ap (λ place. c.pc == place) (sym its.opens) ∙ shows.opened x its.real;
    committed = λ x e found. let its = f.arranged.places.events x e found in ap (λ place. c.pc == place) (sym its.commits) ∙ shows.committed x its.real;
    flags = λ x e found.
        let its = f.arranged.places.events x e found in
        subst (λ source. flag source after.regs ≡ (flag source (with_outer outer c).regs && not (is_clearing x label))) its.source (shows.flags x its.real);
    heard = λ x e found on above.
        let its = shows.heard on in heard_at f (level_of_top f.l st) x e outer c (top_is_level f st) its.1 its.0 found (above_its_top f st x above);
    kept = λ boot source. ap (λ b. flag source (with_outer outer c).regs && not b) (shows.kept boot source) ∙ none_cleared (flag source (with_outer outer c).regs);
    goes_on = refl;
    listed = shows.listed;
  }

  -- A plain label.
  pub shows_plainly : (ph : Phase) (st : List Run) (label : Label) (outer : Outer) (c after : Chip) (done : Done) → is_plain label ≡ true → Elsewhere f.l c.pc
      → (f.l.program c.pc == 0x0009) ≡ false → ((source : Source) → flag source after.regs ≡ flag source (with_outer outer c).regs)
      → (is_on ph ≡ true → (c.regs.intcon.b7 ≡ true) × AtLevel f.l (level_of_top f.l st) (with_outer outer c)) → IfSome done.wrote (λ a. is_listed f.m a ≡ true)
      → Shows f.m f.l ph st label outer c after done
  shows_plainly ph st label outer c after done plain elsewhere no_return flags heard listed =
      let is : IsPlain label = plainly label plain in
      record {
        taking = is.taking;
        returned = no_return ∙ sym is.returned;
        opened = λ x real. elsewhere.no_open x real ∙ sym (is.opened x);
        committed = λ x real. elsewhere.no_commit x real ∙ sym (is.committed x);
        flags = λ x real. flags (f.l.source x) ∙ sym (kept_all (flag (f.l.source x) (with_outer outer c).regs) (is_clearing x label) (is.cleared x));
        heard = heard;
        kept = λ boot source. flags source;
        listed = listed;
      }

  -- What a part may write is listed.
  pub listed_by : (part : Part) (o : Option ℕ) → IsPart f.l part → IfSome o (λ a. (a ≡ 0x003) ⊎ (f.l.may part a ≡ true)) → IfSome o (λ a. is_listed f.m a ≡ true)
  listed_by part None is_part wrote = tt
  listed_by part (Some a) is_part (inl status) = ap (is_listed f.m) status ∙ f.arranged.writes.status_listed
  listed_by part (Some a) is_part (inr may) = f.arranged.writes.listed part a is_part may

  -- A step of glue that is no open and no commit; and one of work.
  pub still_shows : (part : Part) (ph : Phase) (st : List Run) (label : Label) (outer : Outer) (c : Chip) (done : Done) → IsPart f.l part → is_window_part part ≡ false → is_plain label ≡ true → is_on ph ≡ false
      → StillIn f.l.program (piece f.l part) (with_outer outer c) done → Shows f.m f.l ph st label outer c done.chip done
  still_shows part ph st label outer c done is_part other plain off step =
      shows_plainly ph st label outer c done.chip done plain (part_is_elsewhere f part c.pc is_part other step.inside) step.no_return
      (λ source. still_flags f.l.program _ _ (with_outer outer c) done step source) (λ on. absurd (both_ways (is_on ph) off on)) (listed_by part done.wrote is_part step.wrote)

  pub work_shows : (e : ℕ) (ph : Phase) (st : List Run) (label : Label) (outer : Outer) (c after : Chip) (done : Done) → IsPart f.l (Work e) → is_plain label ≡ true
      → ((source : Source) → flag source after.regs ≡ flag source done.chip.regs) → (is_on ph ≡ true → (c.regs.intcon.b7 ≡ true) × AtLevel f.l (level_of_top f.l st) (with_outer outer c))
      → WorkStep f.l e (with_outer outer c) done → Shows f.m f.l ph st label outer c after done
  work_shows e ph st label outer c after done is_part plain same heard step =
      shows_plainly ph st label outer c after done plain (part_is_elsewhere f (Work e) c.pc is_part refl step.inside) step.no_return
      (λ source. same source ∙ ap (λ (x : Chip). flag source x.regs) step.kept) heard (listed_by (Work e) done.wrote is_part step.wrote)

  -- Boundaries: with GIE clear the own step; with it set the own step where none is requested, and a late one where it is; and takings.
  module _ (ph : Phase) (st : List Run) (v : Values) (outer : Outer) (c : Chip) where
    pub by_off : (done : Done) → c.due ≡ false → Off c → own f.l.program (with_outer outer c) ≡ Some done
        → NextFrom ph st v (step_of outer c (running_turn f.l.program c done.chip done)) → NextFrom ph st v (boundary f.l.program outer c)
    by_off done none_due off is next = subst (NextFrom ph st v) (sym (off_boundary f.l.program outer c done none_due off is)) next

    pub by_own : (done : Done) → c.due ≡ false → requested (with_outer outer c).regs ≡ false → own f.l.program (with_outer outer c) ≡ Some done
        → NextFrom ph st v (step_of outer c (running_turn f.l.program c done.chip done)) → NextFrom ph st v (boundary f.l.program outer c)
    by_own done none_due request is next = subst (NextFrom ph st v) (sym (own_boundary f.l.program outer c done none_due is request)) next

    pub by_late : (done : Done) → c.due ≡ false → requested (with_outer outer c).regs ≡ true → outer.late ≡ true → own f.l.program (with_outer outer c) ≡ Some done
        → NextFrom ph st v (step_of outer c (running_turn f.l.program c (record done.chip { due = true }) done)) → NextFrom ph st v (boundary f.l.program outer c)
    by_late done none_due request late is next = subst (NextFrom ph st v) (sym (own_late f.l.program outer c done none_due is request late)) next

    pub by_taking : c.due ≡ false → requested (with_outer outer c).regs ≡ true → outer.late ≡ false → NextFrom ph st v (taking outer c) → NextFrom ph st v (boundary f.l.program outer c)
    by_taking none_due request late next = subst (NextFrom ph st v) (sym (takes-it f.l.program outer c none_due request late)) next

    pub by_due : c.due ≡ true → NextFrom ph st v (taking outer c) → NextFrom ph st v (boundary f.l.program outer c)
    by_due due next = subst (NextFrom ph st v) (sym (takes-due f.l.program outer c due)) next
