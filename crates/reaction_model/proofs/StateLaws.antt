-- Values of the types of a program are a state, and bytes are samples.
use Rattle.std.specs.Prelude.{◌≡◌, ℕ, suc, ◌<◌, true, false, List, [], ◌∷◌, length, map}
use Rattle.std.proofs.Common.{arith, get_or}
use Rattle.frp_tree.specs.declared.syntax.Ty.{Ty}
use Rattle.frp_tree.specs.declared.syntax.Ty.TheVariants.{U8, U16}
use Rattle.frp_tree.specs.declared.syntax.Ty.TheVariants as ty
use Rattle.frp_tree.specs.declared.syntax.Value.{Value}
use Rattle.frp_tree.specs.declared.syntax.Value.TheVariants as value
use Rattle.frp_tree.specs.Tree.{DeclTree, ProgramTree}
use Rattle.efrp_meaning.specs.Decls.{reactive_decls, inputs_of}
use Rattle.efrp_meaning.specs.States.{AreValuesOf, AreSamples, IsState}
use Rattle.efrp_meaning.specs.Values.{modulus, number_of}
use Rattle.reaction_model.specs.States.{IsOf, AreOf, HasTypes, numbers_of}

number-below : (t : Ty) (v : Value) → IsOf t v → number_of v < modulus t
number-below ty.Bool (value.Bool true) is = omega arith
number-below ty.Bool (value.Bool false) is = omega arith
number-below U8 (value.U8 n) is = is
number-below U16 (value.U16 n) is = is
number-below ty.Bool (value.U8 n) is = absurd is
number-below ty.Bool (value.U16 n) is = absurd is
number-below U8 (value.Bool b) is = absurd is
number-below U8 (value.U16 n) is = absurd is
number-below U16 (value.Bool b) is = absurd is
number-below U16 (value.U8 n) is = absurd is

values-are : (ts : List Ty) (vs : List Value) → AreOf ts vs → AreValuesOf ts (numbers_of vs)
values-are [] [] are = tt
values-are (t ∷ ts) (v ∷ vs) are = (number-below t v are.0, values-are ts vs are.1)
values-are [] (v ∷ vs) are = absurd are
values-are (t ∷ ts) [] are = absurd are

-- Values of the types of a program are a state.
pub types-are-a-state : (p : ProgramTree) (vs : List Value) → HasTypes p vs → IsState p (numbers_of vs)
types-are-a-state p vs types = values-are (map (λ (d : DeclTree). d.ty) (reactive_decls p)) vs types

bytes-of : (ds : List DeclTree) (js : List ℕ) → ((k : ℕ) → get_or js k 0 < 256) → length js ≡ length ds → AreValuesOf (map (λ (d : DeclTree). U8) ds) js
bytes-of [] [] small same = tt
bytes-of (d ∷ ds) (j ∷ js) small same = (small 0, bytes-of ds js (λ k. small (suc k)) (omega (arith, same)))
bytes-of [] (j ∷ js) small same = absurd (omega arith)
bytes-of (d ∷ ds) [] small same = absurd (omega arith)

-- Bytes, as many as there are inputs, are samples.
pub bytes-are-samples : (p : ProgramTree) (js : List ℕ) → ((k : ℕ) → get_or js k 0 < 256) → length js ≡ length (inputs_of p) → AreSamples p js
bytes-are-samples p js small same = bytes-of (inputs_of p) js small same
