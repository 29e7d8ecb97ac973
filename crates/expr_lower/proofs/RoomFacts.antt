-- Where what is made of an expression has room, so have its parts; and what is returned of them is returned of it.
use Rattle.std.proofs.Common.{◌≡◌, ℕ, ◌≤◌, List, sym, subst, arith, Result, Ok, Err, IfOk}
use Rattle.std.specs.declared.alloc.AllocError.{AllocError}
use Rattle.std.proofs.Math.Nat.{le-add_right}
use Rattle.frp_tree.specs.declared.syntax.Ty.{Ty}
use Rattle.frp_tree.specs.declared.syntax.Side.{Side}
use Rattle.frp_tree.specs.declared.syntax.UnOp.{UnOp}
use Rattle.frp_tree.specs.declared.syntax.BinOp.{BinOp}
use Rattle.frp_tree.specs.Tree.{Tree, Unary, Binary, Shift, If, Convert}
use Rattle.expr_lower.specs.declared.drafts.Operand.{Operand}
use Rattle.expr_lower.specs.declared.drafts.Draft.{Draft}
use Rattle.expr_lower.specs.Nodes.{Adds, Made, made, of_binary, of_convert, of_if, of_shift, of_unary, size_of}
use Rattle.expr_lower.proofs.MadeFacts.{binary-grows, grows, one-added, three-added, two-added}

module _ (names : List ℕ → Operand) where
  abbrev pub HasRoom : ℕ → Tree → Type 0
  HasRoom next e = (made names next e).next ≤ 65536

  pub binary-first : (next : ℕ) (f : BinOp) (e a b : Tree) → e ≡ Binary f a b → HasRoom next e → HasRoom next a
  binary-first next f e a b is room =
      let m = made names next a in
      let n = made names m.next b in
      let whole : (of_binary f n.next m.to n.to).next ≤ 65536 = subst (HasRoom next) is room in
      omega (arith, grows names m.next b, binary-grows f n.next m.to n.to)

  pub binary-last :
      (d g h : Draft) (f : BinOp) (e a b : Tree) (x y : Operand)
      → e ≡ Binary f a b → HasRoom d.next e → Adds d g (made names d.next a) x → Adds g h (made names g.next b) y → (of_binary f h.next x y).next ≤ 65536
  binary-last d g h f e a b x y is room first second =
      let m = made names d.next a in
      let n = made names m.next b in
      let whole : (of_binary f n.next m.to n.to).next ≤ 65536 = subst (HasRoom d.next) is room in
      let at : Adds g h n y = subst (λ k. Adds g h (made names k b) y) first.1 second in
      let same : (of_binary f h.next x n.to).next ≤ 65536 =
      subst (λ (to : Operand). (of_binary f h.next to n.to).next ≤ 65536) (sym first.2) (subst (λ k. (of_binary f k m.to n.to).next ≤ 65536) (sym at.1) whole) in
      subst (λ (to : Operand). (of_binary f h.next x to).next ≤ 65536) (sym at.2) same

  pub if-first : (next : ℕ) (e c a b : Tree) → e ≡ If c a b → HasRoom next e → HasRoom next c
  if-first next e c a b is room =
      let k = made names next c in
      let m = made names k.next a in
      let n = made names m.next b in
      let whole : (of_if n.next k.to m.to n.to).next ≤ 65536 = subst (HasRoom next) is room in
      omega (arith, grows names k.next a, grows names m.next b, le-add_right n.next (size_of m.to.wide))

  pub if-second : (d g : Draft) (e c a b : Tree) (x : Operand) → e ≡ If c a b → HasRoom d.next e → Adds d g (made names d.next c) x → HasRoom g.next a
  if-second d g e c a b x is room first =
      let k = made names d.next c in
      let m = made names k.next a in
      let n = made names m.next b in
      let whole : (of_if n.next k.to m.to n.to).next ≤ 65536 = subst (HasRoom d.next) is room in
      let enough : HasRoom k.next a = omega (arith, grows names m.next b, le-add_right n.next (size_of m.to.wide)) in
      subst (λ i. HasRoom i a) (sym first.1) enough

  pub if-third :
      (d g h : Draft) (e c a b : Tree) (x y : Operand)
      → e ≡ If c a b → HasRoom d.next e → Adds d g (made names d.next c) x → Adds g h (made names g.next a) y → HasRoom h.next b
  if-third d g h e c a b x y is room first second =
      let k = made names d.next c in
      let m = made names k.next a in
      let n = made names m.next b in
      let whole : (of_if n.next k.to m.to n.to).next ≤ 65536 = subst (HasRoom d.next) is room in
      let at : Adds g h m y = subst (λ i. Adds g h (made names i a) y) first.1 second in
      let enough : HasRoom m.next b = omega (arith, le-add_right n.next (size_of m.to.wide)) in
      subst (λ i. HasRoom i b) (sym at.1) enough

  pub if-last :
      (d g h i : Draft) (e c a b : Tree) (x y z : Operand)
      → e ≡ If c a b → HasRoom d.next e → Adds d g (made names d.next c) x → Adds g h (made names g.next a) y → Adds h i (made names h.next b) z
      → (of_if i.next x y z).next ≤ 65536
  if-last d g h i e c a b x y z is room first second third =
      let k = made names d.next c in
      let m = made names k.next a in
      let n = made names m.next b in
      let whole : (of_if n.next k.to m.to n.to).next ≤ 65536 = subst (HasRoom d.next) is room in
      let at : Adds g h m y = subst (λ j. Adds g h (made names j a) y) first.1 second in
      let here : Adds h i n z = subst (λ j. Adds h i (made names j b) z) at.1 third in
      let same : (of_if i.next k.to m.to n.to).next ≤ 65536 = subst (λ j. (of_if j k.to m.to n.to).next ≤ 65536) (sym here.1) whole in
      subst (λ (to : Operand). (of_if i.next x to z).next ≤ 65536) (sym at.2) same

  -- What is returned.
  abbrev Returns : Result Operand AllocError → Draft → Draft → Made → Type 0
  Returns r d e m = IfOk r (Adds d e m)

  returns : (r : Result Operand AllocError) (d e f g : Draft) (m n : Made) → ((b : Operand) → Adds e f m b → Adds d g n b) → Returns r e f m → Returns r d g n
  returns (Ok b) d e f g m n then h = then b h
  returns (Err x) d e f g m n then h = tt

  pub unary-returns :
      (r : Result Operand AllocError) (d g h : Draft) (f : UnOp) (e a : Tree) (x : Operand)
      → e ≡ Unary f a → Adds d g (made names d.next a) x → IfOk r (Adds g h (of_unary f g.next x)) → IfOk r (Adds d h (made names d.next e))
  unary-returns r d g h f e a x is first last =
      subst (λ t. IfOk r (Adds d h (made names d.next t))) (sym is)
      (returns r d g h h (of_unary f g.next x) (made names d.next (Unary f a)) (λ b s. one-added d g h (made names d.next a) (of_unary f) x b first s) last)

  pub shift-returns :
      (r : Result Operand AllocError) (d g h : Draft) (side : Side) (n : ℕ) (e a : Tree) (x : Operand)
      → e ≡ Shift side a n → Adds d g (made names d.next a) x → IfOk r (Adds g h (of_shift side n g.next x)) → IfOk r (Adds d h (made names d.next e))
  shift-returns r d g h side n e a x is first last =
      subst (λ t. IfOk r (Adds d h (made names d.next t))) (sym is)
      (returns r d g h h (of_shift side n g.next x) (made names d.next (Shift side a n)) (λ b s. one-added d g h (made names d.next a) (of_shift side n) x b first s) last)

  pub convert-returns :
      (r : Result Operand AllocError) (d g h : Draft) (to : Ty) (e a : Tree) (x : Operand)
      → e ≡ Convert to a → Adds d g (made names d.next a) x → IfOk r (Adds g h (of_convert to g.next x)) → IfOk r (Adds d h (made names d.next e))
  convert-returns r d g h to e a x is first last =
      subst (λ t. IfOk r (Adds d h (made names d.next t))) (sym is)
      (returns r d g h h (of_convert to g.next x) (made names d.next (Convert to a)) (λ b s. one-added d g h (made names d.next a) (of_convert to) x b first s) last)

  pub binary-returns :
      (r : Result Operand AllocError) (d g h i : Draft) (f : BinOp) (e a b : Tree) (x y : Operand)
      → e ≡ Binary f a b → Adds d g (made names d.next a) x → Adds g h (made names g.next b) y → IfOk r (Adds h i (of_binary f h.next x y))
      → IfOk r (Adds d i (made names d.next e))
  binary-returns r d g h i f e a b x y is first second last =
      subst (λ t. IfOk r (Adds d i (made names d.next t))) (sym is)
      (returns r d h i i (of_binary f h.next x y) (made names d.next (Binary f a b))
      (λ z s. two-added d g h i (made names d.next a) (λ k. made names k b) (of_binary f) x y z first second s) last)

  pub if-returns :
      (r : Result Operand AllocError) (d g h i j : Draft) (e c a b : Tree) (w x y : Operand)
      → e ≡ If c a b → Adds d g (made names d.next c) w → Adds g h (made names g.next a) x → Adds h i (made names h.next b) y
      → IfOk r (Adds i j (of_if i.next w x y)) → IfOk r (Adds d j (made names d.next e))
  if-returns r d g h i j e c a b w x y is first second third last =
      subst (λ t. IfOk r (Adds d j (made names d.next t))) (sym is)
      (returns r d i j j (of_if i.next w x y) (made names d.next (If c a b))
      (λ z s. three-added d g h i j (made names d.next c) (λ k. made names k a) (λ k. made names k b) of_if w x y z first second third s) last)
