-- What each step of the core does to the run of reactions and to the port writes.
use Rattle.std.specs.Prelude.{ℕ, Bool, true, false, List, [], ◌∷◌, ◌++◌, Some, flat_map}
use Rattle.std.proofs.Common.{◌≡◌, refl, sym, ap, subst, ◌∙◌, append_assoc, append-nil}
use Rattle.std.proofs.lemmas.Grind.{flat_map-append}
use Rattle.frp_tree.specs.Tree.{ProgramTree}
use Rattle.efrp_meaning.specs.Meaning.{Reaction, react, SerialRun, add_reaction}
use Rattle.pic_machine.specs.declared.steps.PortWrite.{PortWrite}
use Rattle.map_file.specs.declared.maps.Map.{Map}
use Rattle.firmware_promises.specs.Follows.{setup_puts, reaction_puts}
use Rattle.timed_core.specs.Timing.{Timing}
use Rattle.timed_core.specs.Steps.{Run, Phase, Label, locked}
use Rattle.timed_core.specs.Steps.Phase.{Boots, Copies}
use Rattle.timed_core.specs.Steps.Label.{Opens, Commits}
use Rattle.timed_core.proofs.MoveLaws.{Move, boots, boots_puts, readies, locks, opens, opens_short, copies, copies_puts, commits}
use Rattle.core_story.specs.Values.{Values, Valued, name_at}

-- The run of reactions that a step leaves: one more where it commits.
abbrev pub Extends : ProgramTree → Map → Label → SerialRun → SerialRun → Type 0
Extends p m (Commits e) run after = (r : Reaction) × (react p run.state [] (name_at m e) ≡ Some r) × (after ≡ add_reaction run r)
Extends p m _ run after = after ≡ run

module _ (p : ProgramTree) (m : Map) where
  abbrev pub its_puts : List (List ℕ) → List PortWrite
  its_puts ports = flat_map (reaction_puts p) ports

  -- In the boot a part of the setups' writes is written, in a window a part of its reaction's, and else those of the reactions.
  abbrev pub Part : Phase → List Run → Values → SerialRun → List PortWrite → Type 0
  Part (Boots j) st v run written = (run.ports ≡ []) × (written ++ v.left ≡ setup_puts p)
  Part (Copies j) [] v run written = ⊥
  Part (Copies j) (r ∷ rs) v run written =
      (reaction : Reaction) × (done : List PortWrite) × (react p v.state [] (name_at m r.event) ≡ Some reaction) × (v.next ≡ reaction.state) × (done ++ v.left ≡ reaction_puts p reaction.ports)
      × (written ≡ setup_puts p ++ (its_puts run.ports ++ done))
  Part _ st v run written = written ≡ setup_puts p ++ its_puts run.ports

  pub record Grown (l : Label) (run : SerialRun) (ph : Phase) (st : List Run) (w : Values) (written : List PortWrite) : Type 0 where
    pub after : SerialRun
    pub extends : Extends p m l run after
    pub state : after.state ≡ w.state
    pub part : Part ph st w after written

  nothing_more : (written puts total : List PortWrite) → puts ≡ [] → written ≡ total → written ++ puts ≡ total
  nothing_more written puts total none same = ap (λ xs. written ++ xs) none ∙ append-nil written ∙ same

  locked_part : (t : Timing) (b : Bool) (st : List Run) (w : Values) (run : SerialRun) (written : List PortWrite) → written ≡ setup_puts p ++ its_puts run.ports → Part (locked t b) st w run written
  locked_part t true st w run written h = h
  locked_part t false st w run written h = h

  one_more_put : (written left rest total : List PortWrite) (b : PortWrite) (puts : List PortWrite) → puts ≡ b ∷ [] → left ≡ b ∷ rest → written ++ left ≡ total → (written ++ puts) ++ rest ≡ total
  one_more_put written left rest total b puts put first all =
      ap (λ xs. (written ++ xs) ++ rest) put ∙ append_assoc written (b ∷ []) rest ∙ ap (λ xs. written ++ xs) (sym first) ∙ all

  further : (first middle done puts written : List PortWrite) → written ≡ first ++ (middle ++ done) → written ++ puts ≡ first ++ (middle ++ (done ++ puts))
  further first middle done puts written h =
      ap (λ xs. xs ++ puts) h ∙ append_assoc first (middle ++ done) puts ∙ ap (λ xs. first ++ xs) (append_assoc middle done puts)

  one_reaction_more : (ports : List (List ℕ)) (last : List ℕ) → its_puts (ports ++ last ∷ []) ≡ its_puts ports ++ reaction_puts p last
  one_reaction_more ports last = flat_map-append (reaction_puts p) ports (last ∷ []) ∙ ap (λ xs. its_puts ports ++ xs) (append-nil (reaction_puts p last))

  module _ (t : Timing) (flags : ℕ → Bool) (v w : Values) (puts : List PortWrite) (run : SerialRun) (written : List PortWrite) where
    opened : {j : ℕ} (r : Run) (rs : List Run) → Valued p m (Opens r.event) puts v w → run.state ≡ v.state → written ≡ setup_puts p ++ its_puts run.ports
        → Grown (Opens r.event) run (Copies j) (r ∷ rs) w (written ++ puts)
    opened r rs val state part = record {
      after = run;
      extends = refl;
      state = state ∙ ap (λ (x : Values). x.state) (sym val.3);
      part = (
        val.1,
        [],
        subst (λ s. react p s [] (name_at m r.event) ≡ Some val.1) (ap (λ (x : Values). x.state) (sym val.3)) val.2,
        ap (λ (x : Values). x.next) val.3,
        ap (λ (x : Values). x.left) val.3,
        nothing_more written puts (setup_puts p ++ (its_puts run.ports ++ [])) val.0 (part ∙ ap (λ xs. setup_puts p ++ xs) (sym (append-nil (its_puts run.ports)))),
      );
    }

    pub grown : {ph ph' : Phase} {l : Label} {st st' : List Run} → Move t flags ph l st ph' st' → Valued p m l puts v w → run.state ≡ v.state → Part ph st v run written
        → Grown l run ph' st' w (written ++ puts)
    grown (boots h) val state part = record {
      after = run;
      extends = refl;
      state = state ∙ ap (λ (x : Values). x.state) (sym val.1);
      part = (part.0, ap (λ xs. (written ++ xs) ++ w.left) val.0 ∙ ap (λ xs. xs ++ w.left) (append-nil written) ∙ ap (λ (x : Values). written ++ x.left) val.1 ∙ part.1);
    }
    grown (boots_puts h) val state part = record {
      after = run;
      extends = refl;
      state = state ∙ sym val.3;
      part = (part.0, one_more_put written v.left w.left (setup_puts p) val.0 puts val.1 val.2 part.1);
    }
    grown readies val state part = record {
      after = run;
      extends = refl;
      state = state ∙ ap (λ (x : Values). x.state) (sym val.2);
      part =
          ap (λ xs. written ++ xs) (val.0 ∙ sym val.1) ∙ part.1 ∙ sym (append-nil (setup_puts p)) ∙ ap (λ ports. setup_puts p ++ its_puts ports) (sym part.0);
    }
    grown (locks {r = r} {rs = rs} none) val state part = record {
      after = run;
      extends = refl;
      state = state ∙ ap (λ (x : Values). x.state) (sym val.1);
      part = locked_part t r.void (r ∷ rs) w run (written ++ puts) (nothing_more written puts (setup_puts p ++ its_puts run.ports) val.0 part);
    }
    grown (opens {r = r} {rs = rs}) val state part = opened r rs val state part
    grown (opens_short {r = r} {rs = rs} is_short h) val state part = opened r rs val state part
    grown (copies {st = []} h) val state part = absurd part
    grown (copies {st = r ∷ rs} h) val state part = record {
      after = run;
      extends = refl;
      state = state ∙ ap (λ (x : Values). x.state) (sym val.1);
      part = (
        part.0,
        part.1,
        subst (λ s. react p s [] (name_at m r.event) ≡ Some part.0) (ap (λ (x : Values). x.state) (sym val.1)) part.2,
        ap (λ (x : Values). x.next) val.1 ∙ part.3,
        ap (λ (x : Values). part.1 ++ x.left) val.1 ∙ part.4,
        nothing_more written puts (setup_puts p ++ (its_puts run.ports ++ part.1)) val.0 part.5,
      );
    }
    grown (copies_puts {st = []} h) val state part = absurd part
    grown (copies_puts {st = r ∷ rs} h) val state part = record {
      after = run;
      extends = refl;
      state = state ∙ sym val.3;
      part = (
        part.0,
        part.1 ++ puts,
        subst (λ s. react p s [] (name_at m r.event) ≡ Some part.0) (sym val.3) part.2,
        val.4 ∙ part.3,
        one_more_put part.1 v.left w.left (reaction_puts p part.0.ports) val.0 puts val.1 val.2 part.4,
        further (setup_puts p) (its_puts run.ports) part.1 puts written part.5,
      );
    }
    grown (commits {r = r} {rs = rs}) val state part = record {
      after = add_reaction run part.0;
      extends = (part.0, subst (λ s. react p s [] (name_at m r.event) ≡ Some part.0) (sym state) part.2, refl);
      state = sym part.3 ∙ ap (λ (x : Values). x.state) (sym val.1);
      part =
          further (setup_puts p) (its_puts run.ports) part.1 puts written part.5
          ∙ ap (λ xs. setup_puts p ++ (its_puts run.ports ++ (part.1 ++ xs))) val.0
          ∙ ap (λ xs. setup_puts p ++ (its_puts run.ports ++ xs)) part.4
          ∙ ap (λ xs. setup_puts p ++ xs) (sym (one_reaction_more run.ports part.0.ports));
    }
    grown _ val state part = record {
      after = run;
      extends = refl;
      state = state ∙ ap (λ (x : Values). x.state) (sym val.1);
      part = nothing_more written puts (setup_puts p ++ its_puts run.ports) val.0 part;
    }
