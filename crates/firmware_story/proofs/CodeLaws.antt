-- Firmware of which each piece does its own is code whose parts do what they are to do and lie as they should.
use Rattle.std.proofs.Common.{◌≡◌, ℕ, ◌<◌, List, Some, refl}
use Rattle.efrp_meaning.specs.Bounds.{boot}
use Rattle.efrp_meaning.specs.Meaning.{initial_state}
use Rattle.map_file.specs.declared.maps.Map.{Map}
use Rattle.pic_machine.specs.Chip.{Chip}
use Rattle.timed_core.specs.Timing.{Timing}
use Rattle.firmware_parts.specs.Layout.{Layout}
use Rattle.firmware_parts.specs.Runs.{DoesRun}
use Rattle.firmware_parts.specs.Times.{dispatching, starting, times}
use Rattle.run_steps.specs.Saved.{SavedBy}
use Rattle.run_steps.proofs.RunLaws.{run_does}
use Rattle.vector_steps.proofs.VectorLaws.{vector-does}
use Rattle.code_story.specs.Code.{Code, GivesBack}
use Rattle.code_story.proofs.RunLaws.{run_gives_back}
use Rattle.firmware_layout.specs.Laws.{layout_with}
use Rattle.firmware_layout.specs.Layouts.{event_level, spots_in}
use Rattle.firmware_layout.specs.Made.{IsMade}
use Rattle.firmware_layout.specs.Pieces.{Makings, plan_in}
use Rattle.firmware_layout.specs.Sound.{IsCodeIn, IsMapIn}
use Rattle.firmware_layout.proofs.EventLaws.{is_event}
use Rattle.firmware_layout.proofs.MadeLaws.{is_making}
use Rattle.firmware_layout.proofs.StateLaws.{layout-arranged}
use Rattle.firmware_story.specs.Laws.{AreWords, FirmwareHasCode}
use Rattle.firmware_story.proofs.RunLaws.{run-is_in}
use Rattle.firmware_story.proofs.VectorLaws.{vector-is-had}

module _ (f : Makings) (program marks : ℕ → ℕ) (m : Map) (initial : List ℕ) (made : IsMade f) (code : IsCodeIn f program marks) (map_in : IsMapIn f marks m) (words : AreWords program)
    (begins : initial_state f.p ≡ Some initial) where
  abbrev l : Layout
  l = layout_with f program marks m

  abbrev t : Timing
  t = times f.p m

  -- What a run has saved it gives back.
  abbrev Saved : ℕ → Chip → Chip → Type 0
  Saved event = SavedBy l (plan_in f event)

  runs : (e : ℕ) → 0 < event_level f e → DoesRun f.p m t l (GivesBack t l) (starting f.p) e
  runs e real =
      run_gives_back f.p m t l Saved (starting f.p) e
      (run_does f.p m t l marks (starting f.p) (spots_in f marks e).entry (plan_in f) e (run-is_in f program marks m e made code map_in words (is_event f e real)))

  its_code : Code
  its_code = record {
    p = f.p;
    m = m;
    t = t;
    l = l;
    initial = initial;
    booting = boot f.p;
    dispatching = dispatching f.p;
    starting = starting f.p;
    arranged = layout-arranged f program marks m initial (is_making f made) code map_in begins;
    vector = vector-does f.p f.need f.spread l initial (vector-is-had f program marks m initial made code map_in begins);
    runs = runs;
  }

pub firmware-has-code : (f : Makings) (program marks : ℕ → ℕ) (m : Map) (initial : List ℕ) → FirmwareHasCode f program marks m initial
unfolding its_code
firmware-has-code f program marks m initial made code map_in words begins = record {
  code = its_code f program marks m initial made code map_in words begins;
  for_program = refl;
  for_map = refl;
  in_memory = refl;
}
