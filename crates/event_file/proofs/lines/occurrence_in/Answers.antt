use Rattle.std.proofs.Common.{◌≡◌, List, Some, map, position, sym, ap, subst, ◌∙◌}
use Rattle.std.specs.List.{list_all, list_any}
use Rattle.std.specs.Str.{bytes_eq}
use Rattle.text_parts.specs.Fields.{fields_of}
use Rattle.frp_tree.specs.declared.syntax.Decl.{Decl}
use Rattle.frp_tree.specs.declared.syntax.Event.{Event}
use Rattle.frp_tree.specs.declared.syntax.Program.{Program}
use Rattle.frp_tree.specs.Tree.{decl_of, program_tree_of}
use Rattle.event_file.specs.Events.{gives}
use Rattle.event_file.specs.Parts.{SamplesOf, inputs_among}
use Rattle.event_file.proofs.LineFacts.{unknown-name, outer-space, other-field, states-event}
use Rattle.event_file.proofs.lines.occurrence_in.Goals as goal
use Rattle.event_file.proofs.lines.occurrence_in.Goals.{then-not-has_no_outer_space-via-then-not-has_no_outer_space, then-not-has_no_outer_space-via-else-not-has_no_outer_space+then-not-are_samples}

pub returns-in_default-event_place : goal.returns-in_default-event_place
returns-in_default-event_place c =
    unknown-name (program_tree_of c.args.t.now.program) c.args.text.now c.in-Some.name.now (fields_of c.in-Some.fields.now) c.in-Some.ensures.field
    (sym (ap (λ es. position (λ (e : Event). bytes_eq c.in-Some.name.now e.name) es) (c.as_slice.ensures ∙ ap (λ (p : Program). p.events) c.program-program.ensures)) ∙ sym c.event_place.ensures ∙ c.in_default-event_place.is)

pub returns-then-not-has_no_outer_space : goal.returns-then-not-has_no_outer_space
returns-then-not-has_no_outer_space c =
    let decls : c.as_slice-decls.result.now ≡ c.args.t.now.program.decls = c.as_slice-decls.ensures ∙ ap (λ (p : Program). p.decls) c.program-program.ensures in
    elim c.then-not-has_no_outer_space.branch [
      | then-not-has_no_outer_space-via-then-not-has_no_outer_space w ↦
          outer-space (program_tree_of c.args.t.now.program) c.args.text.now c.in-Some.name.now (fields_of c.in-Some.fields.now) c.in-Some.ensures.field (sym c.has_no_outer_space.ensures ∙ w.if-not-has_no_outer_space.true)
      | then-not-has_no_outer_space-via-else-not-has_no_outer_space+then-not-are_samples w ↦
          other-field (program_tree_of c.args.t.now.program) c.args.text.now c.in-Some.name.now (fields_of c.in-Some.fields.now) c.in-Some.ensures.field
          (sym (ap (λ (ds : List Decl). list_all (λ field. list_any (gives field) (inputs_among (map decl_of ds))) (fields_of c.in-Some.fields.now)) decls) ∙ sym w.are_samples.ensures ∙ w.if-not-are_samples.true)
    ]

pub returns-in-Some-2 : goal.returns-in-Some-2
returns-in-Some-2 c =
    let decls : c.as_slice-decls.result.now ≡ c.args.t.now.program.decls = c.as_slice-decls.ensures ∙ ap (λ (p : Program). p.decls) c.program-program.ensures in
    let given = subst (SamplesOf (fields_of c.in-Some.fields.now) (inputs_among (map decl_of c.as_slice-decls.result.now))) c.in-Some-2.is c.in_ok-samples.ensures in
    states-event (program_tree_of c.args.t.now.program) c.args.text.now c.in-Some.name.now (fields_of c.in-Some.fields.now) c.in-Some-event_place.event c.in-Some-2.samples c.in-Some.ensures.field
    (sym (ap (λ es. position (λ (e : Event). bytes_eq c.in-Some.name.now e.name) es) (c.as_slice.ensures ∙ ap (λ (p : Program). p.events) c.program-program.ensures)) ∙ sym c.event_place.ensures ∙ c.in-Some-event_place.is)
    (sym c.has_no_outer_space.ensures ∙ c.if-not-has_no_outer_space.false)
    (sym (ap (λ (ds : List Decl). list_all (λ field. list_any (gives field) (inputs_among (map decl_of ds))) (fields_of c.in-Some.fields.now)) decls) ∙ sym c.are_samples.ensures ∙ c.if-not-are_samples.false)
    (subst (λ (ds : List Decl). SamplesOf (fields_of c.in-Some.fields.now) (inputs_among (map decl_of ds)) (Some c.in-Some-2.samples)) decls given)
