-- In a log that has a story the reactions so far are a serial run, and the values and port writes are its.
use Rattle.std.specs.Prelude.{ℕ, zero, suc, List, [], ◌++◌, map, fold, Option, Some, option_map}
use Rattle.std.proofs.Common.{◌≡◌, refl, sym, ap, subst, ◌∙◌}
use Rattle.std.proofs.lemmas.List.{map-append}
use Rattle.std.proofs.lemmas.List.Sums.{fold-append}
use Rattle.frp_tree.specs.Tree.{ProgramTree}
use Rattle.efrp_meaning.specs.Meaning.{State, Occurrence, SerialRun, add_reaction, and_then_on, initial_state, serial}
use Rattle.pic_machine.specs.Run.{Log}
use Rattle.map_file.specs.declared.maps.Map.{Map}
use Rattle.firmware_promises.specs.Counts.{port_writes, put_by, reactions}
use Rattle.firmware_promises.specs.Counts as logs
use Rattle.firmware_promises.specs.Laws.{unsampled}
use Rattle.firmware_promises.proofs.SampleLaws.{reactions_are_commits}
use Rattle.timed_core.specs.Timing.{Timing}
use Rattle.timed_core.specs.Steps.{Label}
use Rattle.timed_core.specs.Steps.Label.{Commits}
use Rattle.timed_core.specs.Tale.{Tale, now}
use Rattle.timed_core.specs.Counts.{committed_by}
use Rattle.timed_core.proofs.ShapeLaws.{moves}
use Rattle.core_story.specs.Values.{Values, name_at}
use Rattle.core_story.specs.Story.{Story}
use Rattle.core_story.proofs.CountLaws.{committed_by_is}
use Rattle.core_story.proofs.PartLaws.{Extends, Part, Grown, grown}

abbrev occurrences : List (List ℕ) → List Occurrence
occurrences names = map unsampled names

-- A run goes on as the label extends it.
extended : (p : ProgramTree) (m : Map) (l : Label) (run after : SerialRun) → Extends p m l run after → fold (and_then_on p) (Some run) (occurrences (map (name_at m) (committed_by l))) ≡ Some after
extended p m (Commits e) run after ext = ap (option_map (add_reaction run)) ext.1 ∙ ap {B = Option SerialRun} (λ r. Some r) (sym ext.2)
extended p m _ run after ext = ap {B = Option SerialRun} (λ r. Some r) (sym ext)

module _ (p : ProgramTree) (m : Map) (t : Timing) (log : Log) (story : Story p m t log) where
  abbrev tale : Tale t
  tale = story.tale

  -- The serial run of the reactions of the first n steps, and what it is to the values and to the writes.
  pub record Held (n : ℕ) : Type 0 where
    pub run : SerialRun
    pub is_run : serial p (occurrences (logs.commits m log n)) ≡ Some run
    pub state : run.state ≡ (story.values n).state
    pub part : Part p m (tale.phase n) (tale.stack n) (story.values n) run (port_writes log n)

  serial_more : (names more : List (List ℕ)) → serial p (occurrences (names ++ more)) ≡ fold (and_then_on p) (serial p (occurrences names)) (occurrences more)
  serial_more names more =
      ap (serial p) (map-append unsampled names more)
      ∙ fold-append (and_then_on p) (option_map (λ (s : State). record { state = s; ports = [] }) (initial_state p)) (occurrences names) (occurrences more)

  pub held : (n : ℕ) → Held n
  held zero = record {
    run = record { state = story.initial; ports = [] };
    is_run = ap (option_map (λ (s : State). record { state = s; ports = [] })) story.begins;
    state = ap (λ (v : Values). v.state) (sym story.starts);
    part =
        subst (λ ph. Part p m ph (tale.stack 0) (story.values 0) (record { state = story.initial; ports = [] }) []) (sym tale.starts)
        (refl, ap (λ (v : Values). v.left) story.starts);
  }
  held (suc n) =
      let h = held n in
      let g : Grown p m (tale.label n) h.run (tale.phase (suc n)) (tale.stack (suc n)) (story.values (suc n)) (port_writes log n ++ put_by (log n).port) =
      grown p m t (now tale n) (story.values n) (story.values (suc n)) (put_by (log n).port) h.run (port_writes log n) (moves t tale n) (story.valued n) h.state h.part in
      record {
        run = g.after;
        is_run =
            serial_more (logs.commits m log n) (logs.committed_by m (log n))
            ∙ ap (λ run. fold (and_then_on p) run (occurrences (logs.committed_by m (log n)))) h.is_run
            ∙ ap (λ names. fold (and_then_on p) (Some h.run) (occurrences names)) (committed_by_is p m t log story n)
            ∙ extended p m (tale.label n) h.run g.after g.extends;
        state = g.state;
        part = g.part;
      }

  pub serial_is : (n : ℕ) → serial p (reactions p m log n) ≡ Some (held n).run
  serial_is n = ap (serial p) (reactions_are_commits p m log story.no_inputs n) ∙ (held n).is_run
