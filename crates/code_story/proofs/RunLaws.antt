-- Whatever a run saves, it gives back: so it may be said of all runs alike.
use Rattle.std.specs.Prelude.{ℕ}
use Rattle.std.proofs.Common.{refl, ◌∙◌}
use Rattle.frp_tree.specs.Tree.{ProgramTree}
use Rattle.pic_machine.specs.Chip.{Chip}
use Rattle.map_file.specs.declared.maps.Map.{Map}
use Rattle.timed_core.specs.Timing.{Timing}
use Rattle.glue_steps.proofs.TellsLaws.{tells_wider}
use Rattle.firmware_parts.specs.Layout.{Layout}
use Rattle.firmware_parts.specs.Runs.{AtClear, DoesRun}
use Rattle.code_story.specs.Code.{GivesBack}
use Rattle.code_story.proofs.KeptFacts.{enables_same}

module _ (p : ProgramTree) (m : Map) (t : Timing) (l : Layout) (Saved : ℕ → Chip → Chip → Type 0) (starting e : ℕ) (run : DoesRun p m t l Saved starting e) where
  gives_back : (x c : Chip) → Saved e x c → GivesBack t l e x c
  gives_back x c saved d enables frame there off easy bank = run.exits x d there off easy (run.saved_stays x c d saved enables frame) bank

  clear_gives_back : (x c : Chip) → AtClear p m l Saved e x c → AtClear p m l (GivesBack t l) e x c
  clear_gives_back x c ends = record {
    there = ends.there;
    off = ends.off;
    easy = ends.easy;
    saved = gives_back x c ends.saved;
    masked = ends.masked;
    bank = ends.bank;
    done = ends.done;
    open_bank = ends.open_bank;
  }

  pub run_gives_back : DoesRun p m t l (GivesBack t l) starting e
  run_gives_back = record {
    saved_stays = λ x c d saved enables frame y more bytes. saved y (enables_same c d y enables more) (λ address its. bytes address its ∙ frame address its);
    starts = λ x c low there off rbie usual entered at_level above home typed.
        tells_wider l.program _ _ (AtClear p m l Saved e x) (AtClear p m l (GivesBack t l) e x) (λ d done step. step) (clear_gives_back x) _ starting c
        (run.starts x c low there off rbie usual entered at_level above home typed);
    clears = run.clears;
    opens_next = run.opens_next;
    begins = run.begins;
    turns_on = run.turns_on;
    work_next = run.work_next;
    void = run.void;
    clean = run.clean;
    turns_off = run.turns_off;
    slips = run.slips;
    repeats = run.repeats;
    passes = run.passes;
    window = run.window;
    exits = λ x c there off easy saved bank. saved c (record { peie = refl; t0ie = refl; inte = refl; pie1 = refl; pie2 = refl }) (λ address its. refl) there off easy bank;
  }
