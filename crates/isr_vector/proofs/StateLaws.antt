-- The bytes of a state: as many as the program's states have, and each is one.
use Rattle.std.proofs.Common.{◌≡◌, ℕ, ◌+◌, ◌<◌, Bool, true, false, if◌then◌else◌, Some, List, [], ◌∷◌, length, map, filter, sum_by, refl, ap, ◌∙◌, arith, length-append}
use Rattle.std.specs.List.{AllByRecursion}
use Rattle.std.proofs.lemmas.List.Sums.{sum_by-cons}
use Rattle.frp_tree.specs.declared.syntax.Ty.{Ty}
use Rattle.frp_tree.specs.declared.syntax.Ty.TheVariants as ty
use Rattle.frp_tree.specs.Tree.{BehaviourTree, Plain, Input, Table, Reactive, DeclTree, ProgramTree}
use Rattle.efrp_meaning.specs.Bounds.{bytes_in, state_bytes, type_bytes}
use Rattle.efrp_meaning.specs.Decls.{is_reactive, reactive_decls}
use Rattle.efrp_meaning.specs.Meaning.{State, initial_state}
use Rattle.efrp_meaning.specs.States.{AreValuesOf}
use Rattle.efrp_meaning.specs.Types.{IsTyped}
use Rattle.efrp_meaning.specs.Values.{modulus}
use Rattle.efrp_meaning.proofs.StateLaws.{begins-in-a-state}
use Rattle.isr_vector.specs.Booting.{bytes_of_value, bytes_of_values, bytes_of_state, bytes_where, first_bytes}
use Rattle.isr_vector.specs.Laws.{StateHasBytes}
use Rattle.isr_vector.proofs.ListLaws.{all_both}

value-length : (t : Ty) (n : ℕ) → length (bytes_of_value t n) ≡ type_bytes t
value-length ty.Bool n = refl
value-length ty.U8 n = refl
value-length ty.U16 n = refl

value_fits : (t : Ty) (n : ℕ) → n < modulus t → AllByRecursion (λ byte. byte < 256) (bytes_of_value t n)
value_fits ty.Bool n below = (omega (arith, below), tt)
value_fits ty.U8 n below = (below, tt)
value_fits ty.U16 n below = (omega arith, (omega (arith, below), tt))

values-length : (ds : List DeclTree) (s : List ℕ) → AreValuesOf (map (λ (d : DeclTree). d.ty) ds) s → length (bytes_of_values ds s) ≡ sum_by (λ (d : DeclTree). type_bytes d.ty) ds
values-length [] [] are = refl
values-length (d ∷ ds) (n ∷ ns) are =
    let rest = values-length ds ns are.1 in
    let own = value-length d.ty n in
    let step = sum_by-cons (λ (d : DeclTree). type_bytes d.ty) d ds in
    length-append (bytes_of_value d.ty n) (bytes_of_values ds ns) ∙ omega (arith, rest, own, step)
values-length [] (n ∷ ns) are = absurd are
values-length (d ∷ ds) [] are = absurd are

values_fit : (ds : List DeclTree) (s : List ℕ) → AreValuesOf (map (λ (d : DeclTree). d.ty) ds) s → AllByRecursion (λ byte. byte < 256) (bytes_of_values ds s)
values_fit [] [] are = tt
values_fit (d ∷ ds) (n ∷ ns) are = all_both (λ byte. byte < 256) (bytes_of_value d.ty n) (bytes_of_values ds ns) (value_fits d.ty n are.0) (values_fit ds ns are.1)
values_fit [] (n ∷ ns) are = absurd are
values_fit (d ∷ ds) [] are = absurd are

-- Only reactive definitions have bytes.
in_is : (t : Ty) (b : BehaviourTree) → bytes_in t b ≡ (if is_reactive b then type_bytes t else 0)
in_is t (Plain e) = refl
in_is t (Input port) = refl
in_is t (Table entries) = refl
in_is t (Reactive init clauses) = refl

sum_where : (f : DeclTree → ℕ) (d : DeclTree) (ds : List DeclTree) (v : Bool) → sum_by f (if v then d ∷ ds else ds) ≡ (if v then f d else 0) + sum_by f ds
sum_where f d ds true = sum_by-cons f d ds
sum_where f d ds false = omega arith

reactive_sum : (ds : List DeclTree) → sum_by (λ (d : DeclTree). type_bytes d.ty) (filter (λ (d : DeclTree). is_reactive d.behaviour) ds) ≡ sum_by (λ (d : DeclTree). bytes_in d.ty d.behaviour) ds
reactive_sum [] = refl
reactive_sum (d ∷ ds) =
    let rest = reactive_sum ds in
    let own = in_is d.ty d.behaviour in
    let step = sum_by-cons (λ (d : DeclTree). bytes_in d.ty d.behaviour) d ds in
    sum_where (λ (d : DeclTree). type_bytes d.ty) d (filter (λ (d : DeclTree). is_reactive d.behaviour) ds) (is_reactive d.behaviour) ∙ omega (arith, rest, own, step)

pub state-bytes : (p : ProgramTree) (s : State) → StateHasBytes p s
state-bytes p s state = (values-length (reactive_decls p) s state ∙ reactive_sum p.decls, values_fit (reactive_decls p) s state)

-- The first bytes are those of the initial state.
pub first-is : (p : ProgramTree) (s : State) → initial_state p ≡ Some s → first_bytes p ≡ bytes_of_state p s
first-is p s is = ap (bytes_where p) is

pub first-length : (p : ProgramTree) → IsTyped p → length (first_bytes p) ≡ state_bytes p
first-length p typed =
    let begins = begins-in-a-state p typed in ap length (first-is p begins.0 begins.1) ∙ (state-bytes p begins.0 begins.2).0
