-- Within the limits of counts the words of the runs of all events are few, and the bound on the steps until all has settled is a number
-- of 32 bits.
use Rattle.std.specs.Prelude.{ℕ, ◌+◌, ◌*◌, ◌^◌, ◌<◌, ◌≤◌, sum_by}
use Rattle.std.proofs.Common.{arith}
use Rattle.frp_tree.specs.declared.syntax.Event.{Event}
use Rattle.frp_tree.specs.declared.syntax.Ty.{Ty}
use Rattle.frp_tree.specs.declared.syntax.Ty.TheVariants as ty
use Rattle.frp_tree.specs.Tree.{BehaviourTree, Plain, Input, Table, Reactive, DeclTree, ProgramTree}
use Rattle.efrp_meaning.specs.Bounds.{body, bytes_in, off, settle_bound, state_bytes, type_bytes}
use Rattle.efrp_types.specs.Laws.{IsWellFormed}
use Rattle.program_bounds.proofs.FewFacts.{body-few}
use Rattle.program_bounds.proofs.SumFacts.{sum-few}

type-few : (t : Ty) → type_bytes t ≤ 2
type-few ty.Bool = omega arith
type-few ty.U8 = omega arith
type-few ty.U16 = omega arith

state-few : (t : Ty) (b : BehaviourTree) → bytes_in t b ≤ 2
state-few t (Plain e) = omega arith
state-few t (Input port) = omega arith
state-few t (Table entries) = omega arith
state-few t (Reactive init clauses) = type-few t

pub states-few : (p : ProgramTree) → IsWellFormed p → state_bytes p ≤ 256
states-few p formed =
    let all = sum-few (λ (d : DeclTree). bytes_in d.ty d.behaviour) 2 (λ d. state-few d.ty d.behaviour) p.decls in
    let decls = formed.written.decls in
    omega (arith, all, decls)

pub settle-few : (p : ProgramTree) → IsWellFormed p → settle_bound p < 2 ^ 32
settle-few p formed =
    let states = states-few p formed in
    let events = formed.written.events in
    let setups = formed.written.setups in
    let outputs = formed.written.outputs in
    let each : (e : Event) → 3 * body p e.name + 4 * off p ≤ 9900000 = λ e. let own = body-few p formed e.name in omega (arith, own, states, events, outputs) in
    let all = sum-few (λ (e : Event). 3 * body p e.name + 4 * off p) 9900000 each p.events in
    omega (arith, all, states, events, setups)

-- What an event's run moves counts at most so much.
pub words-few : (p : ProgramTree) → IsWellFormed p → (copied : ℕ) → copied ≤ 2048 → sum_by (λ (e : Event). 128 + body p e.name + copied) p.events ≤ 40000000
words-few p formed copied few =
    let most : (e : Event) → 128 + body p e.name + copied ≤ 3279744 = λ e. let own = body-few p formed e.name in omega (arith, own, few) in
    let all = sum-few (λ (e : Event). 128 + body p e.name + copied) 3279744 most p.events in
    let events = formed.written.events in
    omega (arith, all, events)
