-- A text that spells a program is read as one thing: the program, or its first fault.
use Rattle.std.specs.Prelude.{◌≡◌, ℕ, Bool, true, false, List, [], ◌++◌, Result, Ok, Err, ◌⊎◌, refl, if◌then◌else◌}
use Rattle.std.proofs.Common.{inl, inr, ap, sym, subst, ◌∙◌}
use Rattle.frp_tree.specs.declared.syntax.Program.{Program}
use Rattle.frp_tree.specs.Tree.{ProgramTree, program_tree_of}
use Rattle.frp_tree.specs.Grammar.{Spells}
use Rattle.efrp_syntax.specs.declared.faults.SyntaxFault.{SyntaxFault}
use Rattle.efrp_syntax.specs.declared.faults.SyntaxFault.TheVariants as syntax
use Rattle.efrp_syntax.specs.Parsed.{Parsed, HasFault, IsProgram, IsSyntaxFault}
use Rattle.efrp_types.specs.declared.faults.CheckFault.{CheckFault}
use Rattle.efrp_types.specs.declared.faults.CheckFault.TheVariants as check
use Rattle.efrp_types.specs.declared.typed.Typed.{Typed}
use Rattle.efrp_types.specs.Answers.{IsFirst}
use Rattle.efrp_types.specs.NameFaults.{name_faults}
use Rattle.efrp_types.specs.TypeFaults.{type_faults}
use Rattle.efrp_types.specs.Passes.{IsChecked, Passes}
use Rattle.causality.specs.declared.checked.Checked.{Checked}
use Rattle.causality.specs.Orders.{IsFirstCycle}
use Rattle.causality.proofs.CycleLaws.{cycle-is-first, checked-passes}
use Rattle.checked_source.specs.declared.faults.SourceFault.{SourceFault}
use Rattle.checked_source.specs.declared.faults.SourceFault.TheVariants as source
use Rattle.checked_source.specs.Readings.{Reading, Passing, Faulty, Misused, Cyclic, Reads, IsRead, Found, Parses, Types, Sorts, SpellsOnly, check_faults, is_syntax_memory, is_check_memory, of_syntax, of_check}

-- No faults at all, and the first of the names' or of the types'.
none-checked : (p : ProgramTree) → IsChecked p → check_faults p ≡ []
none-checked p checked = ap (λ fs. fs ++ type_faults p) checked.names ∙ checked.types

pub first-of-names : (p : ProgramTree) (fault : CheckFault) → IsFirst fault (name_faults p) → IsFirst fault (check_faults p)
first-of-names p fault first = (first.0 ++ type_faults p, ap (λ fs. fs ++ type_faults p) first.1)

pub no-first : (p : ProgramTree) (fault : CheckFault) → IsChecked p → ¬ IsFirst fault (check_faults p)
no-first p fault checked first = let none = none-checked p checked in let is = first.1 in cc

one-first : (fault other : CheckFault) (faults : List CheckFault) → IsFirst fault faults → IsFirst other faults → other ≡ fault
one-first fault other faults first second = let a = first.1 in let b = second.1 in cc

module _ (text : List ℕ) (p : ProgramTree) (spelled : SpellsOnly text p) where
  only-passing : Passes p → (other : Reading) → Reads text other → other ≡ Passing p
  only-passing passes (Passing q) reads = ap (λ t. Passing t) (spelled.only q reads.0)
  only-passing passes (Faulty fault) reads = absurd (spelled.faultless fault reads)
  only-passing passes (Misused fault) (q, spells, first) = absurd (no-first p fault passes.checked (subst (λ t. IsFirst fault (check_faults t)) (spelled.only q spells) first))
  only-passing passes (Cyclic event name) (q, spells, both) = absurd ((cycle-is-first p).not_causal event name (subst (λ t. IsFirstCycle t event name) (spelled.only q spells) both.1) passes.causal)

  pub read-passing : Passes p → IsRead text (Passing p)
  read-passing passes = ((spelled.spells, passes), only-passing passes)

  only-misused : (told : CheckFault) → IsFirst told (check_faults p) → (other : Reading) → Reads text other → other ≡ Misused told
  only-misused told is (Passing q) reads = absurd (no-first p told (subst Passes (spelled.only q reads.0) reads.1).checked is)
  only-misused told is (Faulty fault) reads = absurd (spelled.faultless fault reads)
  only-misused told is (Misused fault) (q, spells, first) =
      ap (λ f. Misused f) (one-first told fault (check_faults p) is (subst (λ t. IsFirst fault (check_faults t)) (spelled.only q spells) first))
  only-misused told is (Cyclic event name) (q, spells, both) = absurd (no-first p told (subst IsChecked (spelled.only q spells) both.0) is)

  pub read-misused : (told : CheckFault) → IsFirst told (check_faults p) → IsRead text (Misused told)
  read-misused told is = ((p, spelled.spells, is), only-misused told is)

  only-cyclic : (event name : List ℕ) → IsChecked p → IsFirstCycle p event name → (other : Reading) → Reads text other → other ≡ Cyclic event name
  only-cyclic event name checked is (Passing q) reads = absurd ((cycle-is-first p).not_causal event name is (subst Passes (spelled.only q reads.0) reads.1).causal)
  only-cyclic event name checked is (Faulty fault) reads = absurd (spelled.faultless fault reads)
  only-cyclic event name checked is (Misused fault) (q, spells, first) = absurd (no-first p fault checked (subst (λ t. IsFirst fault (check_faults t)) (spelled.only q spells) first))
  only-cyclic event name checked is (Cyclic other another) (q, spells, both) =
      let same = (cycle-is-first p).one other event another name (subst (λ t. IsFirstCycle t other another) (spelled.only q spells) both.1) is in
      ap (λ e. Cyclic e another) same.0 ∙ ap (λ x. Cyclic event x) same.1

  pub read-cyclic : (event name : List ℕ) → IsChecked p → IsFirstCycle p event name → IsRead text (Cyclic event name)
  read-cyclic event name checked is = ((p, spelled.spells, (checked, is)), only-cyclic event name checked is)

-- What the parser answers.
module _ (text : List ℕ) (answer : Result Program SyntaxFault) (parsed : Parsed text answer) (spelled : (p : ProgramTree) → Spells text p → IsProgram p answer) (fault : (f : SyntaxFault) → HasFault text f → IsSyntaxFault f answer) where
  pub spells-only : (p : Program) → answer ≡ Ok p → SpellsOnly text (program_tree_of p)
  spells-only p is = record {
    spells = subst (λ (a : Result Program SyntaxFault). Parsed text a) is parsed;
    only = λ q spells. sym (subst (λ (a : Result Program SyntaxFault). IsProgram q a) is (spelled q spells));
    faultless = λ f has. subst (λ (a : Result Program SyntaxFault). IsSyntaxFault f a) is (fault f has);
  }

  same-fault : (f told : SyntaxFault) → is_syntax_memory told ≡ false → (told ≡ f) ⊎ (told ≡ syntax.Memory) → Faulty f ≡ Faulty told
  same-fault f told some (inl e) = ap (λ g. Faulty g) (sym e)
  same-fault f told some (inr e) = let m = ap is_syntax_memory e in cc

  not-memory : (told : SyntaxFault) → is_syntax_memory told ≡ false → told ≡ syntax.Memory → ⊥
  not-memory told some e = let m = ap is_syntax_memory e in cc

  only-faulty : (told : SyntaxFault) → is_syntax_memory told ≡ false → answer ≡ Err told → (other : Reading) → Reads text other → other ≡ Faulty told
  only-faulty told some is (Passing q) reads = absurd (not-memory told some (subst (λ (a : Result Program SyntaxFault). IsProgram q a) is (spelled q reads.0)))
  only-faulty told some is (Faulty f) reads = same-fault f told some (subst (λ (a : Result Program SyntaxFault). IsSyntaxFault f a) is (fault f reads))
  only-faulty told some is (Misused f) (q, spells, first) = absurd (not-memory told some (subst (λ (a : Result Program SyntaxFault). IsProgram q a) is (spelled q spells)))
  only-faulty told some is (Cyclic event name) (q, spells, both) = absurd (not-memory told some (subst (λ (a : Result Program SyntaxFault). IsProgram q a) is (spelled q spells)))

  has-fault : (told : SyntaxFault) → is_syntax_memory told ≡ false → HasFault text told ⊎ (told ≡ syntax.Memory) → HasFault text told
  has-fault told some (inl h) = h
  has-fault told some (inr e) = absurd (not-memory told some e)

  told-syntax : (told : SyntaxFault) (memory : Bool) → is_syntax_memory told ≡ memory → answer ≡ Err told → Parses text (Err (if memory then source.Memory else source.Syntax told))
  told-syntax told true e is = tt
  told-syntax told false e is = (has-fault told e (subst (λ (a : Result Program SyntaxFault). Parsed text a) is parsed), only-faulty told e is)

  pub parses-fault : (told : SyntaxFault) → answer ≡ Err told → Parses text (Err (of_syntax told))
  parses-fault told is = told-syntax told (is_syntax_memory told) refl is

-- What the checks answer.
module _ (p : Program) where
  told-check : (faults : List CheckFault) → ((f : CheckFault) → IsFirst f faults → IsFirst f (check_faults (program_tree_of p)))
      → (told : CheckFault) (memory : Bool) → is_check_memory told ≡ memory → IsFirst told faults ⊎ (told ≡ check.Memory) → Types p (Err (if memory then source.Memory else source.Check told))
  told-check faults step told true e tells = tt
  told-check faults step told false e (inl first) = step told first
  told-check faults step told false e (inr is) = let m = ap is_check_memory is in absurd cc

  pub names-fault : (told : CheckFault) → IsFirst told (name_faults (program_tree_of p)) ⊎ (told ≡ check.Memory) → Types p (Err (of_check told))
  names-fault told tells = told-check _ (first-of-names (program_tree_of p)) told (is_check_memory told) refl tells

-- What comes of the passes together.
pub found-typing : (text : List ℕ) (p : Program) (told : SourceFault) → SpellsOnly text (program_tree_of p) → Types p (Err told) → Found text (Err told)
found-typing text p (source.Syntax f) spelled types = absurd types
found-typing text p (source.Check f) spelled types = read-misused text (program_tree_of p) spelled f types
found-typing text p (source.Cycle event name) spelled types = absurd types
found-typing text p source.Memory spelled types = tt

pub found-sorting : (text : List ℕ) (p : Program) (t : Typed) (answer : Result Checked SourceFault) → SpellsOnly text (program_tree_of p) → t.program ≡ p → Sorts t answer → Found text answer
found-sorting text p t (Ok c) spelled same sorts =
    let is : program_tree_of p ≡ program_tree_of c.typed.program = ap program_tree_of (sym (sorts ∙ same)) in
    read-passing text (program_tree_of c.typed.program) (subst (SpellsOnly text) is spelled) (checked-passes c)
found-sorting text p t (Err (source.Syntax f)) spelled same sorts = absurd sorts
found-sorting text p t (Err (source.Check f)) spelled same sorts = absurd sorts
found-sorting text p t (Err (source.Cycle event name)) spelled same sorts =
    let is : program_tree_of p ≡ program_tree_of t.program = ap program_tree_of (sym same) in
    read-cyclic text (program_tree_of t.program) (subst (SpellsOnly text) is spelled) event name t.checked sorts
found-sorting text p t (Err source.Memory) spelled same sorts = tt
