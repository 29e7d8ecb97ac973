-- In a log that has a story the states and the port writes are those of the serial run of its reactions.
use Rattle.std.specs.Prelude.{ℕ, true, false, List, [], ◌∷◌, ◌++◌, length, take, Option, Some, option_map}
use Rattle.std.proofs.Common.{◌≡◌, refl, sym, ap, subst, ◌∙◌, arith, append-nil}
use Rattle.std.proofs.Math.Seq.{take-append_seam}
use Rattle.frp_tree.specs.Tree.{ProgramTree}
use Rattle.efrp_meaning.specs.Meaning.{Reaction, SerialRun, react, state_after, ports_after}
use Rattle.pic_machine.specs.declared.steps.PortWrite.{PortWrite}
use Rattle.pic_machine.specs.Run.{Log}
use Rattle.map_file.specs.declared.maps.Map.{Map}
use Rattle.firmware_promises.specs.Counts.{port_writes, window_samples, reactions}
use Rattle.firmware_promises.specs.Follows.{Follows, NoWindow, Window, StatesAreSerial, PutsAre, PutsAreSerial, BootPutsSetups, setup_puts, reaction_puts}
use Rattle.firmware_promises.proofs.SampleLaws.{no_samples, windows_are_sampled}
use Rattle.timed_core.specs.Timing.{Timing}
use Rattle.timed_core.specs.Steps.{Run, Phase}
use Rattle.timed_core.specs.Steps.Phase.{Boots, Copies}
use Rattle.timed_core.specs.Tale.{Tale}
use Rattle.timed_core.specs.Promises.{is_boot}
use Rattle.timed_core.proofs.ShapeLaws.{shape_at}
use Rattle.timed_core.specs.Shape.{Shape}
use Rattle.core_story.specs.Values.{Values}
use Rattle.core_story.specs.Interface.{shows_state}
use Rattle.core_story.specs.Story.{Story}
use Rattle.core_story.proofs.BootLaws.{ready_from, ready_in_time, boot_is_quiet, before_ready, in_boot, past_boot}
use Rattle.core_story.proofs.WindowLaws.{StandsOpen, no_window, window_stands, alternates, no_taking_inside, closes}
use Rattle.core_story.proofs.PartLaws.{Part, its_puts}
use Rattle.core_story.proofs.SerialLaws.{Held, held, serial_is}

-- Past the boot and outside windows the states are shown, and what is put is that of the reactions.
shown_outside : (t : Timing) (ph : Phase) (st : List Run) → Shape t ph st → is_boot ph ≡ false → (StandsOpen ph st → ⊥) → shows_state ph ≡ true
shown_outside t (Boots j) st s past none = absurd cc
shown_outside t (Copies j) [] s past none = absurd s.0
shown_outside t (Copies j) (r ∷ rs) s past none = absurd (none (record { left = j; run = r; rest = rs; phase = refl; stack = refl }))
shown_outside t _ st s past none = refl

module _ (p : ProgramTree) (m : Map) where
  all_put : (ph : Phase) (st : List Run) (v : Values) (run : SerialRun) (written : List PortWrite) → shows_state ph ≡ true → Part p m ph st v run written
      → written ≡ setup_puts p ++ its_puts p m run.ports
  all_put (Boots j) st v run written shown part = absurd cc
  all_put (Copies j) st v run written shown part = absurd cc
  all_put _ st v run written shown part = part

  put_in_boot : (ph : Phase) (st : List Run) (v : Values) (run : SerialRun) (written : List PortWrite) → is_boot ph ≡ true → Part p m ph st v run written → written ++ v.left ≡ setup_puts p
  put_in_boot (Boots j) st v run written b part = part.1
  put_in_boot _ st v run written b part = absurd cc

prefix : (done left total : List PortWrite) → done ++ left ≡ total → done ≡ take (length done) total
prefix done left total h = sym (take-append_seam done left) ∙ ap (take (length done)) h

module _ (p : ProgramTree) (m : Map) (t : Timing) (log : Log) (story : Story p m t log) where
  abbrev tale : Tale t
  tale = story.tale

  state_is : (k : ℕ) → state_after p (reactions p m log k) ≡ Some (story.values k).state
  state_is k = ap (option_map (λ (run : SerialRun). run.state)) (serial_is p m t log story k) ∙ ap {B = Option (List ℕ)} (λ s. Some s) (held p m t log story k).state

  ports_are : (k : ℕ) → ports_after p (reactions p m log k) ≡ Some (held p m t log story k).run.ports
  ports_are k = ap (option_map (λ (run : SerialRun). run.ports)) (serial_is p m t log story k)

  shown : (k : ℕ) → is_boot (tale.phase k) ≡ false → NoWindow m log k → shows_state (tale.phase k) ≡ true
  shown k past none = shown_outside t (tale.phase k) (tale.stack k) (shape_at t tale k) past (no_window p m t log story k none)

  puts_outside : (k : ℕ) → is_boot (tale.phase k) ≡ false → NoWindow m log k → PutsAre p m log k []
  puts_outside k past none =
      let h : Held p m t log story k = held p m t log story k in (
        h.run.ports,
        ports_are k,
        all_put p m (tale.phase k) (tale.stack k) (story.values k) h.run (port_writes log k) (shown k past none) h.part
            ∙ ap (λ xs. setup_puts p ++ xs) (sym (append-nil (its_puts p m h.run.ports))),
      )

  abbrev PutsPrefix : ℕ → List ℕ → Type 0
  PutsPrefix k e =
      (state : List ℕ) × (reaction : Reaction) × (i : ℕ) × (state_after p (reactions p m log k) ≡ Some state) × (react p state (window_samples p m log e k) e ≡ Some reaction)
      × PutsAre p m log k (take i (reaction_puts p reaction.ports))

  puts_inside : (k : ℕ) (e : List ℕ) → Window m log k e → PutsPrefix k e
  puts_inside k e is_open =
      let it = window_stands p m t log story k e is_open in
      let w : StandsOpen (tale.phase k) (tale.stack k) = it.0 in
      let h : Held p m t log story k = held p m t log story k in
      let part : Part p m (Copies w.left) (w.run ∷ w.rest) (story.values k) h.run (port_writes log k) =
      subst (λ st. Part p m (Copies w.left) st (story.values k) h.run (port_writes log k)) w.stack
      (subst (λ ph. Part p m ph (tale.stack k) (story.values k) h.run (port_writes log k)) w.phase h.part) in
      let sampled = no_samples p m log story.no_inputs e k in (
        (story.values k).state,
        part.0,
        length part.1,
        state_is k,
        (λ i. react p (story.values k).state (sampled i) (sym it.1 i)) ∙ part.2,
        (
          h.run.ports,
          ports_are k,
          part.5 ∙ ap (λ xs. setup_puts p ++ (its_puts p m h.run.ports ++ xs)) (prefix part.1 (story.values k).left (reaction_puts p part.0.ports) part.4),
        ),
      )

  module _ (n : ℕ) where
    pub states_are_serial : StatesAreSerial p m log n
    states_are_serial r k is_it from to none =
        let past = past_boot p m t log story k (let h = ready_from p m t log story n r is_it in omega arith) in
        state_is k ∙ ap {B = Option (List ℕ)} (λ s. Some s) (sym ((story.seen k).holds (shown k past none)))

    pub puts_are_serial : PutsAreSerial p m log n
    puts_are_serial r k is_it from to =
        let past = past_boot p m t log story k (let h = ready_from p m t log story n r is_it in omega arith) in (puts_outside k past, puts_inside k)

    pub boot_puts_setups : BootPutsSetups p m log n
    boot_puts_setups k to before =
        let b = in_boot p m t log story k (before_ready p m t log story n k to before) in
        let h : Held p m t log story k = held p m t log story k in (
          length (port_writes log k),
          prefix (port_writes log k) (story.values k).left (setup_puts p) (put_in_boot p m (tale.phase k) (tale.stack k) (story.values k) h.run (port_writes log k) b h.part),
        )

    pub follows : Follows p m log n
    follows = record {
      ready = ready_in_time p m t log story n;
      quiet = boot_is_quiet p m t log story n;
      turns = alternates p m t log story n;
      undisturbed = no_taking_inside p m t log story n;
      closes = closes p m t log story n;
      states = states_are_serial;
      puts = puts_are_serial;
      setups = boot_puts_setups;
      samples = windows_are_sampled p m log story.no_inputs n;
    }
