-- Code of some operations, with that of one more behind it.
use Rattle.std.proofs.Common.{◌≡◌, ℕ, ◌+◌, List, [], ◌∷◌, ◌++◌, take, sym, ap, subst, ◌∙◌}
use Rattle.std.proofs.lemmas.List.{append-nil}
use Rattle.byte_ops.specs.declared.operations.Op.{Op}
use Rattle.bank_alloc.specs.declared.needs.Needs.{Needs}
use Rattle.code_steps.specs.declared.banks.Bank.{Bank}
use Rattle.code_steps.specs.declared.banks.Bank.TheVariants.{Known}
use Rattle.code_items.specs.declared.items.Item.{Item}
use Rattle.op_code.specs.Operations.{DoesInOrder, DoesOp}
use Rattle.op_code.proofs.OrderLaws.{none_does, one_more_does, parts_do}

pub one-behind : (ops : List Op) (k : ℕ) (op : Op) (need : Needs) (bank mid : Bank) (xs ys zs : List Item) → take (k + 1) ops ≡ take k ops ++ op ∷ []
    → DoesInOrder (take k ops) need (Known 0) bank xs → DoesOp op need bank mid ys → zs ≡ xs ++ ys → DoesInOrder (take (k + 1) ops) need (Known 0) mid zs
one-behind ops k op need bank mid xs ys zs split so_far does all =
    let one = one_more_does op [] need bank mid mid ys [] does (none_does need mid) in
    let both = parts_do (take k ops) (op ∷ []) need (Known 0) bank mid xs (ys ++ []) so_far one in
    subst (λ os. DoesInOrder os need (Known 0) mid zs) (sym split)
    (subst (λ items. DoesInOrder (take k ops ++ op ∷ []) need (Known 0) mid items) (ap (λ items. xs ++ items) (append-nil ys) ∙ sym all) both)
