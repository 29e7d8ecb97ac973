-- What is made of an expression, put together as the code does it.
use Rattle.std.proofs.Common.{ℕ, ◌≤◌, List, ◌++◌, ap, subst, ◌∙◌, arith, rules, append_assoc}
use Rattle.std.proofs.Math.Nat.{le-add_right}
use Rattle.frp_tree.specs.declared.syntax.Lit.{Lit}
use Rattle.frp_tree.specs.declared.syntax.Lit.TheVariants as lit
use Rattle.frp_tree.specs.declared.syntax.Ty.{Ty}
use Rattle.frp_tree.specs.declared.syntax.Ty.TheVariants as ty
use Rattle.frp_tree.specs.declared.syntax.UnOp.{UnOp}
use Rattle.frp_tree.specs.declared.syntax.UnOp.TheVariants as unary
use Rattle.frp_tree.specs.declared.syntax.BinOp.{BinOp}
use Rattle.frp_tree.specs.Tree.{Tree, Const, Name, Unary, Binary, Shift, If, Convert, Look}
use Rattle.expr_lower.specs.declared.drafts.Operand.{Operand}
use Rattle.expr_lower.specs.declared.drafts.Draft.{Draft}
use Rattle.expr_lower.specs.Nodes.{Adds, Made, behind, made, of_binary, of_convert, of_literal, of_unary, size_of}

-- A node gives out no fewer cells than its operands.
pub literal-grows : (next : ℕ) (l : Lit) → next ≤ (of_literal next l).next
literal-grows next (lit.Plain n) = omega arith
literal-grows next (lit.Wide n) = omega arith
literal-grows next (lit.Truth b) = omega arith

pub unary-grows : (f : UnOp) (next : ℕ) (a : Operand) → next ≤ (of_unary f next a).next
unary-grows unary.Com next a = le-add_right next (size_of a.wide)
unary-grows unary.Not next a = omega arith

pub binary-grows : (f : BinOp) (next : ℕ) (a b : Operand) → next ≤ (of_binary f next a b).next
binary-grows _ next a b = search (rules, le-add_right)

pub convert-grows : (to : Ty) (next : ℕ) (a : Operand) → next ≤ (of_convert to next a).next
convert-grows ty.Bool next a = omega arith
convert-grows ty.U8 next a = omega arith
convert-grows ty.U16 next a = omega arith

module _ (names : List ℕ → Operand) where
  pub grows : (next : ℕ) (e : Tree) → next ≤ (made names next e).next
  grows next (Const literal) = literal-grows next literal
  grows next (Name x) = omega arith
  grows next (Unary f a) = let m = made names next a in omega (arith, grows next a, unary-grows f m.next m.to)
  grows next (Binary f a b) =
      let m = made names next a in
      let n = made names m.next b in
      omega (arith, grows next a, grows m.next b, binary-grows f n.next m.to n.to)
  grows next (Shift side a amount) =
      let m = made names next a in
      omega (arith, grows next a, le-add_right m.next (size_of m.to.wide))
  grows next (If c a b) =
      let k = made names next c in
      let m = made names k.next a in
      let n = made names m.next b in
      omega (arith, grows next c, grows k.next a, grows m.next b, le-add_right n.next (size_of m.to.wide))
  grows next (Convert to a) = let m = made names next a in omega (arith, grows next a, convert-grows to m.next m.to)
  grows next (Look table index) = omega arith

-- A draft that goes on by one thing and then by another.
pub then-adds : (d e f : Draft) (m n : Made) (a b : Operand) → Adds d e m a → Adds e f n b → Adds d f (behind m.ops n) b
then-adds d e f m n a b first second =
    (second.0 ∙ ap (λ ops. ops ++ n.ops) first.0 ∙ append_assoc d.ops m.ops n.ops, second.1, second.2)

-- By a node of one operand.
pub one-added : (d e f : Draft) (m : Made) (node : ℕ → Operand → Made) (a b : Operand) → Adds d e m a → Adds e f (node e.next a) b → Adds d f (behind m.ops (node m.next m.to)) b
one-added d e f m node a b first second =
    then-adds d e f m (node m.next m.to) a b first
    (subst (λ (to : Operand). Adds e f (node m.next to) b) first.2 (subst (λ next. Adds e f (node next a) b) first.1 second))

-- By a node of two.
pub two-added :
    (d e f g : Draft) (m : Made) (second : ℕ → Made) (node : ℕ → Operand → Operand → Made) (a b c : Operand)
    → Adds d e m a → Adds e f (second e.next) b → Adds f g (node f.next a b) c
    → let n = second m.next in Adds d g (behind (m.ops ++ n.ops) (node n.next m.to n.to)) c
two-added d e f g m second node a b c one two last =
    let n = second m.next in
    let at : Adds e f n b = subst (λ next. Adds e f (second next) b) one.1 two in
    let both : Adds d f (behind m.ops n) b = then-adds d e f m n a b one at in
    let here : Adds f g (node f.next m.to b) c = subst (λ (to : Operand). Adds f g (node f.next to b) c) one.2 last in
    one-added d f g (behind m.ops n) (λ next to. node next m.to to) b c both here

-- By a node of three.
pub three-added :
    (d e f g h : Draft) (k : Made) (second third : ℕ → Made) (node : ℕ → Operand → Operand → Operand → Made) (t a b c : Operand)
    → Adds d e k t → Adds e f (second e.next) a → Adds f g (third f.next) b → Adds g h (node g.next t a b) c
    → let m = second k.next in let n = third m.next in Adds d h (behind (k.ops ++ m.ops ++ n.ops) (node n.next k.to m.to n.to)) c
three-added d e f g h k second third node t a b c one two three last =
    let m = second k.next in
    let n = third m.next in
    let at : Adds e f m a = subst (λ next. Adds e f (second next) a) one.1 two in
    let both : Adds d f (behind k.ops m) a = then-adds d e f k m t a one at in
    let here : Adds g h (node g.next k.to a b) c = subst (λ (to : Operand). Adds g h (node g.next to a b) c) one.2 last in
    two-added d f g h (behind k.ops m) third (λ next second third. node next k.to second third) a b c both three here
