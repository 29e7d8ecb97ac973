use Rattle.std.proofs.Common.{◌≡◌, List, map, Result, Ok, Err, IfOk}
use Rattle.std.specs.declared.alloc.AllocError.{AllocError}
use Rattle.frp_tree.specs.declared.tokens.Token.{Token}
use Rattle.frp_tree.specs.Cells.{Cell, tokens_of, IsWithinLimits}
use Rattle.frp_tree.specs.Grammar.{SpellsProgram}
use Rattle.frp_tree.specs.Tree.{ProgramTree}
use Rattle.efrp_syntax.specs.declared.begun.Begun.{Begun}
use Rattle.efrp_syntax.specs.Answers.{begun}
use Rattle.efrp_syntax.specs.Programs.{AreNoted}
use Rattle.efrp_syntax.proofs.PlaceFacts.{noted_whole}
use Rattle.efrp_syntax.proofs.places.notes_of.Goals as goal

whole : (ts : List Token) (r : Result (List Begun) AllocError) → IfOk r (λ notes. AreNoted ts notes)
    → (p : ProgramTree) (cells : List Cell) → SpellsProgram p cells → IsWithinLimits cells → tokens_of cells ≡ ts → IfOk r (λ notes. notes ≡ map begun cells)
whole ts (Ok notes) noted p cells spelled within is = noted_whole ts notes noted p cells spelled within is
whole ts (Err e) noted p cells spelled within is = tt

pub returns : goal.returns
returns c = whole c.args.tokens.now c.noted.result c.noted.ensures
