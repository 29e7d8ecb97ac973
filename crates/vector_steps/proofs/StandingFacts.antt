-- The pieces of a vector that stands, in the words of the laws on boot and taking.
use Rattle.std.proofs.Common.{◌≡◌, ℕ, ◌+◌, ◌<◌, ◌≤◌, true, List, ◌∷◌, ◌++◌, length, drop, sym, ap, subst, ◌∙◌, arith}
use Rattle.frp_tree.specs.Tree.{ProgramTree}
use Rattle.bank_alloc.specs.declared.needs.Needs.{Needs}
use Rattle.glue_parts.specs.declared.spread.Spread.{Spread}
use Rattle.isr_vector.proofs.BootCountLaws.{BootMay}
use Rattle.firmware_parts.specs.Layout.{Layout}
use Rattle.firmware_parts.specs.Layout.Part.{Boot}
use Rattle.vector_steps.specs.Standing.{HasVector, taking_for}
use Rattle.vector_steps.proofs.BootingLaws.{BootStands}

pub boot_stands : (p : ProgramTree) (need : Needs) (spread : Spread) (l : Layout) (initial : List ℕ) (has : HasVector p need spread l initial)
    → BootStands p need (l.enables 0) l.program has.marks spread.pages (λ x. l.inside Boot x ≡ true) (λ a. l.may Boot a ≡ true) (taking_for p spread l) has.boot_at has.head_end has.boot_stop
boot_stands p need spread l initial has =
    let near = has.near in
    let ready = has.ready in
    let end = has.boot_end in record {
      typed = has.typed;
      fits = has.fits;
      placed = has.placed;
      may = record { writes = has.may_write; pie1 = has.may_pie1; pie2 = has.may_pie2; intcon = has.may_intcon };
      head = has.head;
      boot = has.boot;
      at = has.at;
      near = omega (arith, near, ready);
      in_first = has.in_first;
      in_rest = λ x within. let below = within.1 in has.in_rest x within.0 (omega (arith, below, end));
    }
