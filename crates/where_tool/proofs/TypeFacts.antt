-- The walk over the types of an expression.
use Rattle.std.proofs.Common.{◌≡◌, ℕ, ◌+◌, Bool, true, false, List, ◌++◌, Option, Some, None, IsSome, Result, refl, ap, subst, sym, ◌∙◌, arith, if◌then◌else◌}
use Rattle.std.specs.Prelude.{option_and_then}
use Rattle.frp_tree.specs.declared.syntax.Ty.{Ty}
use Rattle.frp_tree.specs.declared.syntax.Ty.TheVariants as ty
use Rattle.frp_tree.specs.declared.syntax.UnOp.{UnOp}
use Rattle.frp_tree.specs.declared.syntax.BinOp.{BinOp}
use Rattle.frp_tree.specs.declared.syntax.Side.{Side}
use Rattle.frp_tree.specs.Limits.{nodes}
use Rattle.frp_tree.specs.Tree.{Tree, Name, Unary, Binary, Shift, If, Convert, Look, DeclTree, ProgramTree}
use Rattle.efrp_meaning.specs.Decls.{decl_named, is_table}
use Rattle.efrp_meaning.specs.Types.{value_type, entry_type, type_of_name, type_of, type_of_table, unary_type, binary_type, shift_type, if_type, convert_type, look_type}
use Rattle.efrp_types.specs.declared.faults.CheckFault.{CheckFault}
use Rattle.efrp_types.specs.TypeFaults.{unlike, unary_faults, binary_faults, shift_faults, convert_faults, node_of_one, node_of_two, node_of_three}
use Rattle.where_tool.specs.declared.parts.Host.{Host}
use Rattle.where_tool.specs.declared.parts.Part.{Part}
use Rattle.where_tool.specs.declared.parts.Part.TheVariants as part
use Rattle.where_tool.specs.declared.parts.Halted.{Halted}
use Rattle.where_tool.specs.declared.type_walk.Typing.{Typing}
use Rattle.where_tool.specs.Visits.{Visit, visit, first_part, type_visits, root}
use Rattle.where_tool.specs.Walks.{Halts, Goes, IsTyping}
use Rattle.where_tool.proofs.WalkFacts.{none-visited, none-both, halts-first, halts-rest}

-- A node behind its operands.
one-halts : (f : Ty → List CheckFault) («at» : Part) (vs : List Visit) (o : Option Ty) (a : Ty) (why : Halted) → first_part vs ≡ None → o ≡ Some a → Halts (first_part (visit «at» (f a))) why
    → Halts (first_part (vs ++ visit «at» (node_of_one f o))) why
one-halts f «at» vs o a why none is halts = halts-rest vs _ why none (subst (λ k. Halts (first_part (visit «at» (node_of_one f k))) why) (sym is) halts)

one-none : (f : Ty → List CheckFault) («at» : Part) (vs : List Visit) (o : Option Ty) (a : Ty) → first_part vs ≡ None → o ≡ Some a → first_part (visit «at» (f a)) ≡ None
    → first_part (vs ++ visit «at» (node_of_one f o)) ≡ None
one-none f «at» vs o a none is quiet = none-both vs _ none (subst (λ k. first_part (visit «at» (node_of_one f k)) ≡ None) (sym is) quiet)

two-halts : (f : Ty → Ty → List CheckFault) («at» : Part) (vs ws : List Visit) (o k : Option Ty) (a b : Ty) (why : Halted) → first_part vs ≡ None → first_part ws ≡ None → o ≡ Some a → k ≡ Some b
    → Halts (first_part (visit «at» (f a b))) why → Halts (first_part (vs ++ (ws ++ visit «at» (node_of_two f o k)))) why
two-halts f «at» vs ws o k a b why none second is other halts =
    halts-rest vs _ why none (halts-rest ws _ why second
    (subst (λ m. Halts (first_part (visit «at» (node_of_two f m k))) why) (sym is) (subst (λ m. Halts (first_part (visit «at» (node_of_two f (Some a) m))) why) (sym other) halts)))

two-none : (f : Ty → Ty → List CheckFault) («at» : Part) (vs ws : List Visit) (o k : Option Ty) (a b : Ty) → first_part vs ≡ None → first_part ws ≡ None → o ≡ Some a → k ≡ Some b
    → first_part (visit «at» (f a b)) ≡ None → first_part (vs ++ (ws ++ visit «at» (node_of_two f o k))) ≡ None
two-none f «at» vs ws o k a b none second is other quiet =
    none-both vs _ none (none-both ws _ second
    (subst (λ m. first_part (visit «at» (node_of_two f m k)) ≡ None) (sym is) (subst (λ m. first_part (visit «at» (node_of_two f (Some a) m)) ≡ None) (sym other) quiet)))

-- The type of a definition, as a name's and as a table's.
value-is : (b : Bool) (t : Ty) → IsSome (if b then None else Some t) → (if b then None else Some t) ≡ Some t
value-is true t there = cc
value-is false t there = refl

entry-is : (b : Bool) (t : Ty) → IsSome (if b then Some t else None) → (if b then Some t else None) ≡ Some t
entry-is true t there = refl
entry-is false t there = cc

look-is : («at» : Part) (owner : List ℕ) (t a : Ty) → first_part (visit «at» (unlike owner ty.U8 a)) ≡ None → look_type (Some t) (Some a) ≡ Some t
unfolding first_part
look-is «at» owner t ty.Bool quiet = cc
look-is «at» owner t ty.U8 quiet = refl
look-is «at» owner t ty.U16 quiet = cc

module _ (p : ProgramTree) (owner : List ℕ) (h : Host) where
  -- An expression whose first node has this number has no fault in itself, and is typed so.
  abbrev pub IsTyped : ℕ → Tree → Typing → Type 0
  IsTyped n e t = (first_part (type_visits p owner h n e) ≡ None) × IsTyping p n e t

  moved : (m n : ℕ) (e : Tree) (t : Typing) → m ≡ n → IsTyped m e t → IsTyped n e t
  moved m n e t is typed = subst (λ k. IsTyped k e t) is typed

  -- What a node's check tells: no fault, and its type.
  abbrev pub IsNode : ℕ → List CheckFault → Option Ty → Ty → Type 0
  IsNode n faults type t = (first_part (visit (part.Node h n) faults) ≡ None) × (type ≡ Some t)

  abbrev pub HaltsAt : ℕ → List CheckFault → Halted → Type 0
  HaltsAt n faults why = Halts (first_part (visit (part.Node h n) faults)) why

  abbrev pub HaltsIn : ℕ → Tree → Halted → Type 0
  HaltsIn n e why = Halts (first_part (type_visits p owner h n e)) why

  -- Of one operand: `~` and `!`, a conversion, a look-up, a shift.
  pub unary-halts : (op : UnOp) (a : Tree) (n : ℕ) (t : Typing) (why : Halted) → IsTyped (n + 1) a t → HaltsAt n (unary_faults owner op t.ty) why → HaltsIn n (Unary op a) why
  unary-halts op a n t why typed halts = one-halts (unary_faults owner op) (part.Node h n) (type_visits p owner h (n + 1) a) (type_of p a) t.ty why typed.0 typed.1.ty halts

  pub unary-typed : (op : UnOp) (a : Tree) (n : ℕ) (t : Typing) (type : Ty) → IsTyped (n + 1) a t → IsNode n (unary_faults owner op t.ty) (unary_type op (Some t.ty)) type
      → IsTyped n (Unary op a) (record { ty = type; own = n; next = t.next })
  unary-typed op a n t type typed node = (
    one-none (unary_faults owner op) (part.Node h n) (type_visits p owner h (n + 1) a) (type_of p a) t.ty typed.0 typed.1.ty node.0,
    record { ty = ap (unary_type op) typed.1.ty ∙ node.1; own = omega arith; next = omega (arith, typed.1.next) },
  )

  pub convert-halts : (to : Ty) (a : Tree) (n : ℕ) (t : Typing) (why : Halted) → IsTyped (n + 1) a t → HaltsAt n (convert_faults owner to t.ty) why → HaltsIn n (Convert to a) why
  convert-halts to a n t why typed halts = one-halts (convert_faults owner to) (part.Node h n) (type_visits p owner h (n + 1) a) (type_of p a) t.ty why typed.0 typed.1.ty halts

  pub convert-typed : (to : Ty) (a : Tree) (n : ℕ) (t : Typing) (type : Ty) → IsTyped (n + 1) a t → IsNode n (convert_faults owner to t.ty) (convert_type to (Some t.ty)) type
      → IsTyped n (Convert to a) (record { ty = type; own = n; next = t.next })
  convert-typed to a n t type typed node = (
    one-none (convert_faults owner to) (part.Node h n) (type_visits p owner h (n + 1) a) (type_of p a) t.ty typed.0 typed.1.ty node.0,
    record { ty = ap (convert_type to) typed.1.ty ∙ node.1; own = omega arith; next = omega (arith, typed.1.next) },
  )

  pub look-halts : (table : List ℕ) (a : Tree) (n : ℕ) (t : Typing) (why : Halted) → IsTyped (n + 1) a t → HaltsAt n (unlike owner ty.U8 t.ty) why → HaltsIn n (Look table a) why
  look-halts table a n t why typed halts = one-halts (unlike owner ty.U8) (part.Node h n) (type_visits p owner h (n + 1) a) (type_of p a) t.ty why typed.0 typed.1.ty halts

  pub look-typed : (table : List ℕ) (a : Tree) (n : ℕ) (t : Typing) (type : Ty) → IsTyped (n + 1) a t → IsNode n (unlike owner ty.U8 t.ty) (look_type (type_of_table p table) (Some t.ty)) type
      → IsTyped n (Look table a) (record { ty = type; own = n; next = t.next })
  look-typed table a n t type typed node = (
    one-none (unlike owner ty.U8) (part.Node h n) (type_visits p owner h (n + 1) a) (type_of p a) t.ty typed.0 typed.1.ty node.0,
    record { ty = ap (look_type (type_of_table p table)) typed.1.ty ∙ node.1; own = omega arith; next = omega (arith, typed.1.next) },
  )

  -- A name that is that of a definition, and a table that is looked at.
  pub name-typed : (x : List ℕ) (d : DeclTree) (n : ℕ) → decl_named p.decls x ≡ Some d → IsSome (type_of_name p x) → IsTyped n (Name x) (record { ty = d.ty; own = n; next = n + 1 })
  name-typed x d n is there = (
    none-visited,
    record {
      ty = ap (option_and_then value_type) is ∙ value-is (is_table d.behaviour) d.ty (subst (λ o. IsSome (option_and_then value_type o)) is there);
      own = omega arith;
      next = refl;
    },
  )

  table-is : (table : List ℕ) (d : DeclTree) → decl_named p.decls table ≡ Some d → IsSome (type_of_table p table) → type_of_table p table ≡ Some d.ty
  table-is table d is there = ap (option_and_then entry_type) is ∙ entry-is (is_table d.behaviour) d.ty (subst (λ o. IsSome (option_and_then entry_type o)) is there)

  pub look-named : (table : List ℕ) (a : Tree) (d : DeclTree) (n : ℕ) (t : Typing) → decl_named p.decls table ≡ Some d → IsSome (type_of_table p table) → IsTyped (n + 1) a t
      → first_part (visit (part.Node h n) (unlike owner ty.U8 t.ty)) ≡ None → IsTyped n (Look table a) (record { ty = d.ty; own = n; next = t.next })
  look-named table a d n t is there typed quiet =
      look-typed table a n t d.ty typed (quiet, ap (λ o. look_type o (Some t.ty)) (table-is table d is there) ∙ look-is (part.Node h n) owner d.ty t.ty quiet)

  pub shift-halts : (side : Side) (a : Tree) (amount n : ℕ) (t : Typing) (why : Halted) → IsTyped n a t → HaltsAt t.next (shift_faults owner amount t.ty) why → HaltsIn n (Shift side a amount) why
  shift-halts side a amount n t why typed halts =
      one-halts (shift_faults owner amount) (part.Node h (n + nodes a)) (type_visits p owner h n a) (type_of p a) t.ty why typed.0 typed.1.ty (subst (λ k. HaltsAt k (shift_faults owner amount t.ty) why) typed.1.next halts)

  pub shift-typed : (side : Side) (a : Tree) (amount n : ℕ) (t : Typing) (type : Ty) → IsTyped n a t → IsNode t.next (shift_faults owner amount t.ty) (shift_type (Some t.ty) amount) type
      → IsTyped n (Shift side a amount) (record { ty = type; own = t.next; next = t.next + 1 })
  shift-typed side a amount n t type typed node = (
    one-none (shift_faults owner amount) (part.Node h (n + nodes a)) (type_visits p owner h n a) (type_of p a) t.ty typed.0 typed.1.ty
        (subst (λ k. first_part (visit (part.Node h k) (shift_faults owner amount t.ty)) ≡ None) typed.1.next node.0),
    record { ty = ap (λ o. shift_type o amount) typed.1.ty ∙ node.1; own = typed.1.next; next = omega (arith, typed.1.next) },
  )

  -- Of two operands.
  behind : (n : ℕ) (a b : Tree) (t u : Typing) → IsTyped n a t → IsTyped (t.next + 1) b u → IsTyped (n + nodes a + 1) b u
  behind n a b t u typed other = moved (t.next + 1) (n + nodes a + 1) b u (ap (λ k. k + 1) typed.1.next) other

  pub right-halts : (op : BinOp) (a b : Tree) (n : ℕ) (t : Typing) (why : Halted) → IsTyped n a t → HaltsIn (t.next + 1) b why → HaltsIn n (Binary op a b) why
  right-halts op a b n t why typed halts =
      halts-rest (type_visits p owner h n a) _ why typed.0 (halts-first (type_visits p owner h (n + nodes a + 1) b) _ why (subst (λ k. HaltsIn (k + 1) b why) typed.1.next halts))

  pub binary-halts : (op : BinOp) (a b : Tree) (n : ℕ) (t u : Typing) (why : Halted) → IsTyped n a t → IsTyped (t.next + 1) b u → HaltsAt t.next (binary_faults owner op t.ty u.ty) why → HaltsIn n (Binary op a b) why
  binary-halts op a b n t u why typed other halts =
      let right = behind n a b t u typed other in
      two-halts (binary_faults owner op) (part.Node h (n + nodes a)) (type_visits p owner h n a) (type_visits p owner h (n + nodes a + 1) b) (type_of p a) (type_of p b) t.ty u.ty why typed.0 right.0 typed.1.ty right.1.ty
      (subst (λ k. HaltsAt k (binary_faults owner op t.ty u.ty) why) typed.1.next halts)

  pub binary-typed : (op : BinOp) (a b : Tree) (n : ℕ) (t u : Typing) (type : Ty) → IsTyped n a t → IsTyped (t.next + 1) b u → IsNode t.next (binary_faults owner op t.ty u.ty) (binary_type op (Some t.ty) (Some u.ty)) type
      → IsTyped n (Binary op a b) (record { ty = type; own = t.next; next = u.next })
  binary-typed op a b n t u type typed other node =
      let right = behind n a b t u typed other in (
        two-none (binary_faults owner op) (part.Node h (n + nodes a)) (type_visits p owner h n a) (type_visits p owner h (n + nodes a + 1) b) (type_of p a) (type_of p b) t.ty u.ty typed.0 right.0 typed.1.ty right.1.ty
            (subst (λ k. first_part (visit (part.Node h k) (binary_faults owner op t.ty u.ty)) ≡ None) typed.1.next node.0),
        record {
          ty = ap (λ o. binary_type op o (type_of p b)) typed.1.ty ∙ ap (binary_type op (Some t.ty)) right.1.ty ∙ node.1;
          own = typed.1.next;
          next = omega (arith, right.1.next);
        },
      )

  -- An `if`.
  abbrev choice_faults : Ty → Ty → Ty → List CheckFault
  choice_faults tc ta tb = unlike owner ty.Bool tc ++ unlike owner ta tb

  second : (n : ℕ) (c a : Tree) (t u : Typing) → IsTyped (n + 1) c t → IsTyped t.next a u → IsTyped (n + 1 + nodes c) a u
  second n c a t u typed other = moved t.next (n + 1 + nodes c) a u typed.1.next other

  last : (n : ℕ) (c a b : Tree) (t u v : Typing) → IsTyped (n + 1) c t → IsTyped t.next a u → IsTyped u.next b v → IsTyped (n + 1 + nodes c + nodes a) b v
  last n c a b t u v typed other third = let there = second n c a t u typed other in moved u.next (n + 1 + nodes c + nodes a) b v there.1.next third

  pub second-halts : (c a b : Tree) (n : ℕ) (t : Typing) (why : Halted) → IsTyped (n + 1) c t → HaltsIn t.next a why → HaltsIn n (If c a b) why
  second-halts c a b n t why typed halts =
      halts-rest (type_visits p owner h (n + 1) c) _ why typed.0 (halts-first (type_visits p owner h (n + 1 + nodes c) a) _ why (subst (λ k. HaltsIn k a why) typed.1.next halts))

  pub last-halts : (c a b : Tree) (n : ℕ) (t u : Typing) (why : Halted) → IsTyped (n + 1) c t → IsTyped t.next a u → HaltsIn u.next b why → HaltsIn n (If c a b) why
  last-halts c a b n t u why typed other halts =
      let there = second n c a t u typed other in
      halts-rest (type_visits p owner h (n + 1) c) _ why typed.0 (halts-rest (type_visits p owner h (n + 1 + nodes c) a) _ why there.0
      (halts-first (type_visits p owner h (n + 1 + nodes c + nodes a) b) _ why (subst (λ k. HaltsIn k b why) there.1.next halts)))

  node-is : (c a b : Tree) (t u v : Typing) (P : List CheckFault → Type 0) → type_of p c ≡ Some t.ty → type_of p a ≡ Some u.ty → type_of p b ≡ Some v.ty → P (choice_faults t.ty u.ty v.ty)
      → P (node_of_three choice_faults (type_of p c) (type_of p a) (type_of p b))
  node-is c a b t u v P one two three good =
      subst (λ o. P (node_of_three choice_faults o (type_of p a) (type_of p b))) (sym one)
      (subst (λ o. P (node_of_three choice_faults (Some t.ty) o (type_of p b))) (sym two)
      (subst (λ o. P (node_of_three choice_faults (Some t.ty) (Some u.ty) o)) (sym three) good))

  pub if-halts : (c a b : Tree) (n : ℕ) (t u v : Typing) (why : Halted) → IsTyped (n + 1) c t → IsTyped t.next a u → IsTyped u.next b v → HaltsAt n (unlike owner ty.Bool t.ty ++ unlike owner u.ty v.ty) why → HaltsIn n (If c a b) why
  if-halts c a b n t u v why typed other third halts =
      let there = second n c a t u typed other in
      let end = last n c a b t u v typed other third in
      halts-rest (type_visits p owner h (n + 1) c) _ why typed.0 (halts-rest (type_visits p owner h (n + 1 + nodes c) a) _ why there.0
      (halts-rest (type_visits p owner h (n + 1 + nodes c + nodes a) b) _ why end.0
      (node-is c a b t u v (λ faults. HaltsAt n faults why) typed.1.ty there.1.ty end.1.ty halts)))

  pub if-typed : (c a b : Tree) (n : ℕ) (t u v : Typing) (type : Ty) → IsTyped (n + 1) c t → IsTyped t.next a u → IsTyped u.next b v
      → IsNode n (unlike owner ty.Bool t.ty ++ unlike owner u.ty v.ty) (if_type (Some t.ty) (Some u.ty) (Some v.ty)) type → IsTyped n (If c a b) (record { ty = type; own = n; next = v.next })
  if-typed c a b n t u v type typed other third node =
      let there = second n c a t u typed other in
      let end = last n c a b t u v typed other third in (
        none-both (type_visits p owner h (n + 1) c) _ typed.0 (none-both (type_visits p owner h (n + 1 + nodes c) a) _ there.0
            (none-both (type_visits p owner h (n + 1 + nodes c + nodes a) b) _ end.0
            (node-is c a b t u v (λ faults. first_part (visit (part.Node h n) faults) ≡ None) typed.1.ty there.1.ty end.1.ty node.0))),
        record {
          ty = ap (λ o. if_type o (type_of p a) (type_of p b)) typed.1.ty ∙ ap (λ o. if_type (Some t.ty) o (type_of p b)) there.1.ty ∙ ap (if_type (Some t.ty) (Some u.ty)) end.1.ty ∙ node.1;
          own = omega arith;
          next = omega (arith, end.1.next);
        },
      )

  -- An expression of which a type is wanted: its own node is looked at once more.
  pub root-goes : (wanted : Ty) (e : Tree) (t : Typing) (r : Result (Unit {0}) Halted) → IsTyped 0 e t → Goes (visit (part.Node h t.own) (unlike owner wanted t.ty)) r
      → Goes (visit (part.Node h (root e)) (node_of_one (unlike owner wanted) (type_of p e))) r
  root-goes wanted e t r typed goes =
      let own : t.own ≡ root e = omega (arith, typed.1.own) in
      subst (λ (o : Option Ty). Goes (visit (part.Node h (root e)) (node_of_one (unlike owner wanted) o)) r) (sym typed.1.ty)
      (subst (λ (k : ℕ). Goes (visit (part.Node h k) (unlike owner wanted t.ty)) r) own goes)
