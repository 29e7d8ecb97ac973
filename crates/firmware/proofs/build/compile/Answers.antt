use Rattle.std.proofs.Common.{List, sym, subst, rules}
use Rattle.frp_tree.specs.Tree.{program_tree_of}
use Rattle.event_code.specs.declared.works.Work.{Work}
use Rattle.firmware.specs.Builds.{HasCode}
use Rattle.firmware.specs.Making.{AreWorks}
use Rattle.firmware.proofs.build.compile.Goals as goal

pub works_of-requires-clause-needs : goal.works_of-requires-clause-needs
works_of-requires-clause-needs c =
    c.places_of-places.ensures (program_tree_of c.args.c.now.typed.program) c.in_ok-levels.ensures.ok.0 c.in_ok-bounds.ensures.ok.0

pub built-requires-clause-parts : goal.built-requires-clause-parts
built-requires-clause-parts c =
    let p = program_tree_of c.args.c.now.typed.program in
    let code : HasCode p = search rules in
    record {
      buildable = record {
        has_code = code;
        levels_fit = c.in_ok-levels.ensures.ok.1;
        ram_fits = c.in_ok-bounds.ensures.ok.1;
      };
      names = c.requires.names;
      levels = c.in_ok-levels.ensures.ok.0;
      needs = c.places_of-places.ensures p c.in_ok-levels.ensures.ok.0 c.in_ok-bounds.ensures.ok.0;
      works = subst (λ (works : List Work). AreWorks p c.places_of-places.result.need works) (sym c.as_slice.ensures.value) c.in_ok-works.ensures;
    }
