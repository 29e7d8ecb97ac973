use Rattle.std.proofs.Common.{arith, ap, length, sum_by, sym, ◌∙◌}
use Rattle.std.proofs.lemmas.List.{length-map}
use Rattle.frp_tree.specs.declared.syntax.Decl.{Decl}
use Rattle.frp_tree.specs.declared.syntax.Program.{Program}
use Rattle.frp_tree.specs.Tree.{DeclTree, behaviour_of, decl_of, output_of}
use Rattle.efrp_meaning.specs.Bounds.{bytes_in, words_in}
use Rattle.efrp_types.specs.declared.typed.Typed.{Typed}
use Rattle.event_needs.proofs.SumLaws.{sum-mapped}
use Rattle.program_bounds.proofs.sizes.sizes_of.Goals as goal

pub returns : goal.returns
returns c =
    let k = c.args.c.now in
    let written = k.typed.formed.written in
    let same = c.program-program.ensures ∙ ap (λ (t : Typed). t.program) c.typed.ensures in
    let decls = c.as_slice-decls.ensures ∙ ap (λ (q : Program). q.decls) same in
    let events = c.len.ensures ∙ ap (λ (q : Program). length q.events) same in
    let setups = c.len-2.ensures ∙ ap (λ (q : Program). length q.setups) same in
    let outputs = c.len-3.ensures ∙ ap (λ (q : Program). length q.outputs) same ∙ sym (length-map k.typed.program.outputs output_of) in
    let most_events = written.events in
    let most_setups = written.setups in
    let most_outputs = written.outputs in
    record {
      events = events;
      few_events = omega (arith, events, most_events);
      setups = setups;
      few_setups = omega (arith, setups, most_setups);
      outputs = outputs;
      few_outputs = omega (arith, outputs, most_outputs);
      states = c.state_bytes.ensures.bytes ∙ ap (sum_by (λ (d : Decl). bytes_in d.ty (behaviour_of d.behaviour))) decls ∙ sym (sum-mapped (λ (d : DeclTree). bytes_in d.ty d.behaviour) decl_of k.typed.program.decls);
      few_states = c.state_bytes.ensures.few;
      tables = c.table_words.ensures.words ∙ ap (sum_by (λ (d : Decl). words_in d.ty (behaviour_of d.behaviour))) decls ∙ sym (sum-mapped (λ (d : DeclTree). words_in d.ty d.behaviour) decl_of k.typed.program.decls);
      few_tables = c.table_words.ensures.few;
    }
