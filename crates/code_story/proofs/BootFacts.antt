-- The boot: its steps, and the one that turns interrupts on.
use Rattle.std.specs.Prelude.{ℕ, zero, suc, true, false, List, [], ◌∷◌, Option, Some, None}
use Rattle.std.specs.List.{cons_option}
use Rattle.std.proofs.Common.{◌≡◌, refl, sym, ap, subst, ◌∙◌, arith, inl, inr}
use Rattle.std.proofs.lemmas.Bool.{both_ways}
use Rattle.efrp_meaning.specs.States.{IsState}
use Rattle.pic_regs.specs.declared.starts.Start.{Start}
use Rattle.pic_regs.specs.Start.{IsStart}
use Rattle.pic_machine.specs.declared.steps.PortWrite.{PortWrite}
use Rattle.pic_machine.specs.Chip.{Chip}
use Rattle.pic_machine.specs.Results.{Done}
use Rattle.pic_machine.specs.Boundary.{Outer, boundary}
use Rattle.pic_machine.specs.Run.{power_on}
use Rattle.pic_machine.proofs.TurnLaws.{with_outer, step_of}
use Rattle.firmware_promises.specs.Counts.{put_by}
use Rattle.timed_core.specs.Steps.{Run}
use Rattle.timed_core.specs.Steps.Phase.{Boots, Rests}
use Rattle.timed_core.specs.Steps.Label.{Stays, Puts, Readies}
use Rattle.timed_core.specs.Shape.{Shape}
use Rattle.core_story.specs.Values.{Values, first_values}
use Rattle.code_steps.specs.Steps.{own, next}
use Rattle.code_steps.proofs.BetweenLaws.{arrival_alone, alone_frame}
use Rattle.glue_steps.specs.Lines.{did}
use Rattle.glue_steps.specs.Laws.{StillIn}
use Rattle.glue_steps.proofs.StillLaws.{still_off}
use Rattle.glue_steps.proofs.TellsLaws.{tells_longer}
use Rattle.firmware_parts.specs.Layout.{piece}
use Rattle.firmware_parts.specs.Layout.Part.{Boot, Taking}
use Rattle.firmware_parts.specs.Runs.{Leads, turns}
use Rattle.firmware_parts.specs.Vector.{AtBootEnd}
use Rattle.code_story.specs.Code.{Code}
use Rattle.code_story.specs.Relation.{InBoot, Resting}
use Rattle.code_story.proofs.ChipFacts.{no_return_by}
use Rattle.code_story.proofs.ArrangedFacts.{boot_end_is_elsewhere, Elsewhere}
use Rattle.code_story.proofs.KeptFacts.{untouched, still_stack, set_up_stays}
use Rattle.code_story.proofs.ToldFacts.{NextFrom, told_by, shows_plainly, still_shows, running_turn, by_off}

module _ (f : Code) where
  -- At power-on.
  pub boot_begins : (start : Start) → IsStart start → InBoot f f.t.boot (first_values f.p f.initial) (power_on start)
  boot_begins start is_start = record {
    none_due = refl;
    off = refl;
    top = refl;
    depth = refl;
    first = refl;
    leads = tells_longer f.l.program _ _ _ f.booting f.t.boot (power_on start) f.arranged.boots_in_time (f.vector.boots start is_start);
  }

  module _ (j : ℕ) (v : Values) (outer : Outer) (c : Chip) (boot : InBoot f j v c) where
    -- The step that turns interrupts on: control comes to the ready address.
    abbrev on : Done
    on = did (turns true) (with_outer outer c)

    ready : AtBootEnd f.p f.l f.initial c → Resting f false v on.chip
    ready end = record {
      on = refl;
      due_is = boot.none_due;
      past = record {
        rbie = end.heard.rbie;
        set_up = set_up_stays f Taking c on.chip tt refl (untouched f.l Taking c on.chip refl refl refl) end.set_up;
        typed = subst (IsState f.p) (sym boot.first) f.arranged.states.first;
      };
      shows = end.states ∙ sym boot.first;
      at_ready = record {
        there = ap next end.there ∙ f.vector.ready_next;
        heard = record { peie = end.heard.peie; t0ie = end.heard.t0ie; inte = end.heard.inte; rbie = end.heard.rbie; pie1 = end.heard.pie1; pie2 = end.heard.pie2 };
        bank = end.bank;
        page = end.page;
      };
      top = boot.top;
      depth = boot.depth;
    }

    boot_ends : AtBootEnd f.p f.l f.initial c → v.left ≡ [] → NextFrom f (Boots j) [] v (boundary f.l.program outer c)
    boot_ends end left =
        let is = f.vector.boot_turns_on (with_outer outer c) end.there in
        by_off f (Boots j) [] v outer c on boot.none_due boot.off is (record {
          label = Readies;
          phase = Rests;
          stack = [];
          values = v;
          goes = refl;
          valued = (refl, left, refl);
          told = told_by f (Boots j) [] Readies outer c on.chip on (shows_plainly f (Boots j) [] Readies outer c on.chip on refl
              (subst (Elsewhere f.l) (sym end.there) (boot_end_is_elsewhere f)) (no_return_by f.l.program (with_outer outer c) on is refl) (λ source. refl) (λ h. absurd (both_ways false refl h)) f.arranged.writes.intcon_listed);
          keeps = ready end;
        })

  -- A step before it.
  module _ (k : ℕ) (v : Values) (outer : Outer) (c : Chip) (boot : InBoot f (suc k) v c) (done : Done) (is : own f.l.program (with_outer outer c) ≡ Some done)
      (step : StillIn f.l.program (piece f.l Boot) (with_outer outer c) done) (rest : List PortWrite) (leads : Leads f.l Boot (AtBootEnd f.p f.l f.initial) rest k done.chip) where
    goes_on : (w : Values) → w.state ≡ v.state → w.left ≡ rest → InBoot f k w done.chip
    goes_on w same left = record {
      none_due = ap (λ (x : Chip). x.due) step.kept ∙ boot.none_due;
      off = still_off f.l.program _ _ (with_outer outer c) done step;
      top = (still_stack f.l Boot outer c done step).top ∙ boot.top;
      depth = (still_stack f.l Boot outer c done step).depth ∙ boot.depth;
      first = same ∙ boot.first;
      leads = subst (λ puts. Leads f.l Boot (AtBootEnd f.p f.l f.initial) puts k done.chip) (sym left) leads;
    }

    boot_step : (o : Option PortWrite) → done.port ≡ o → v.left ≡ cons_option o rest → NextFrom f (Boots (suc k)) [] v (step_of outer c (running_turn f.l.program c done.chip done))
    boot_step None none left = record {
      label = Stays;
      phase = Boots k;
      stack = [];
      values = v;
      goes = (k, omega arith, refl);
      valued = (ap put_by none, refl);
      told = told_by f (Boots (suc k)) [] Stays outer c done.chip done (still_shows f Boot (Boots (suc k)) [] Stays outer c done tt refl refl refl step);
      keeps = goes_on v refl left;
    }
    boot_step (Some write) put left = record {
      label = Puts;
      phase = Boots k;
      stack = [];
      values = record v { left = rest };
      goes = (k, omega arith, refl);
      valued = (write, ap put_by put, left, refl, refl);
      told = told_by f (Boots (suc k)) [] Puts outer c done.chip done (still_shows f Boot (Boots (suc k)) [] Puts outer c done tt refl refl refl step);
      keeps = goes_on (record v { left = rest }) refl refl;
    }

  next_in_boot : (j : ℕ) (v : Values) (outer : Outer) (c : Chip) → InBoot f j v c → Leads f.l Boot (AtBootEnd f.p f.l f.initial) v.left j c → NextFrom f (Boots j) [] v (boundary f.l.program outer c)
  next_in_boot zero v outer c boot end = boot_ends zero v outer c boot end.1 end.0
  next_in_boot (suc k) v outer c boot (inl end) = boot_ends (suc k) v outer c boot end.1 end.0
  next_in_boot (suc k) v outer c boot (inr goes) =
      let step = goes (with_outer outer c) (arrival_alone outer c) in
      by_off f (Boots (suc k)) [] v outer c step.0 boot.none_due boot.off step.1 (boot_step k v outer c boot step.0 step.1 step.2 step.3 step.5 step.0.port refl step.4)

  pub next_boots : (j : ℕ) (st : List Run) (v : Values) (outer : Outer) (c : Chip) → Shape f.t (Boots j) st → InBoot f j v c → NextFrom f (Boots j) st v (boundary f.l.program outer c)
  next_boots j [] v outer c shape boot = next_in_boot j v outer c boot boot.leads
  next_boots j (r ∷ rs) v outer c shape boot = absurd shape.0

  -- In the boot control isn't at the ready address.
  pub boot_is_before : (j : ℕ) (v : Values) (c : Chip) → InBoot f j v c → c.pc ≡ f.m.ready → ⊥
  boot_is_before j v c boot there = by j boot.leads
    where
      at_end : AtBootEnd f.p f.l f.initial c → ⊥
      at_end end = f.arranged.places.boot_end_is_before (sym end.there ∙ there ∙ sym f.arranged.places.ready)

      by : (k : ℕ) → Leads f.l Boot (AtBootEnd f.p f.l f.initial) v.left k c → ⊥
      by zero end = at_end end.1
      by (suc k) (inl end) = at_end end.1
      by (suc k) (inr goes) =
          let step = goes c (alone_frame.same c) in
          both_ways (f.l.inside Boot f.l.ready) f.arranged.places.boot_misses_ready (ap (f.l.inside Boot) (f.arranged.places.ready ∙ sym there) ∙ step.2.inside)
