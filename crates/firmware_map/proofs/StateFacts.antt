-- The states of a program as a map lists them: their names, and the addresses of their bytes.
use Rattle.std.proofs.Common.{◌≡◌, ◌≢◌, ℕ, suc, ◌+◌, ◌<◌, ◌≤◌, List, [], ◌∷◌, ◌++◌, length, filter, map, sum_by, if◌then◌else◌, refl, ap, arith}
use Rattle.std.specs.List.{AllByRecursion, flat_map}
use Rattle.std.proofs.lemmas.List.Sums.{sum_by-cons}
use Rattle.frp_tree.specs.declared.syntax.Ty.{Ty}
use Rattle.frp_tree.specs.declared.syntax.Ty.TheVariants.{Bool as BoolTy, U8, U16}
use Rattle.frp_tree.specs.Tree.{BehaviourTree, Reactive, DeclTree}
use Rattle.efrp_meaning.specs.Bounds.{bytes_in, type_bytes}
use Rattle.efrp_meaning.specs.Decls.{is_reactive}
use Rattle.map_file.specs.declared.maps.MapState.{MapState}
use Rattle.map_file.specs.MapRules.{AllDiffer}
use Rattle.expr_lower.specs.Nodes.{new_pair}
use Rattle.expr_lower.specs.Numbered.{state_cells}
use Rattle.expr_lower.specs.Places.{is_wide}
use Rattle.bank_alloc.specs.declared.needs.Needs.{Needs}
use Rattle.bank_alloc.specs.Addresses.{address_of}
use Rattle.bank_alloc.specs.Needs.{bytes_of}
use Rattle.bank_alloc.proofs.AddressLaws.{addresses-differ}
use Rattle.event_code.specs.States.{listed, states_from}
use Rattle.firmware_promises.specs.Firmware.{bytes_of as value_bytes, typed_decl, typed_state}

-- The bytes of a definition's state, and the addresses of states' bytes.
abbrev pub size : DeclTree → ℕ
size d = bytes_in d.ty d.behaviour

abbrev pub addresses : List MapState → List ℕ
addresses states = flat_map (λ (s : MapState). value_bytes s.ty s.low s.high) states

module _ (need : Needs) where
  -- The state of this type whose cells are numbered from this one on.
  abbrev state_at : (name : List ℕ) → Ty → ℕ → MapState
  state_at name t next = record { name = name; ty = t; low = address_of need (new_pair (is_wide t) next).low; high = address_of need (new_pair (is_wide t) next).high }

  -- What holds of the addresses of cells from one on up to another holds of the bytes of the states that lie in them.
  module _ (P : ℕ → Type 0) (top : ℕ) where
    abbrev Each : ℕ → Type 0
    Each next = (cell : ℕ) → next ≤ cell → cell < top → P (address_of need cell)

    all-of-state : (name : List ℕ) (t : Ty) (next : ℕ) (rest : List MapState) → Each next → next + type_bytes t ≤ top → AllByRecursion P (addresses rest)
        → AllByRecursion P (addresses (state_at name t next ∷ rest))
    all-of-state name BoolTy next rest each room all = (each next (omega arith) (omega arith), all)
    all-of-state name U8 next rest each room all = (each next (omega arith) (omega arith), all)
    all-of-state name U16 next rest each room all = (each next (omega arith) (omega arith), (each (next + 1) (omega arith) (omega arith), all))

    all-of-decl : (d : DeclTree) (b : BehaviourTree) (next : ℕ) (rest : List MapState) → Each next → next + bytes_in d.ty b ≤ top → AllByRecursion P (addresses rest)
        → AllByRecursion P (addresses (listed need d (state_cells next d.ty b) ++ rest))
    all-of-decl d (Reactive init clauses) next rest each room all = all-of-state d.name d.ty next rest each room all
    all-of-decl d _ next rest each room all = all

    pub all-states : (next : ℕ) (ds : List DeclTree) → Each next → next + sum_by size ds ≤ top → AllByRecursion P (addresses (states_from need next ds))
    all-states next [] each room = tt
    all-states next (d ∷ ds) each room =
        let split = sum_by-cons size d ds in
        all-of-decl d d.behaviour next (states_from need (next + size d) ds) each (omega (arith, split))
        (all-states (next + size d) ds (λ cell low high. each cell (omega arith) high) (omega (arith, split)))

  -- The bytes of states have different addresses.
  module _ (fits : bytes_of need ≤ 352) where
    abbrev Apart : ℕ → List MapState → Type 0
    Apart cell rest = AllByRecursion (λ y. y ≢ address_of need cell) (addresses rest)

    abbrev Differ : List MapState → Type 0
    Differ states = AllDiffer (λ (a : ℕ). a) (addresses states)

    later : (cell next : ℕ) (ds : List DeclTree) → cell < next → next + sum_by size ds ≤ bytes_of need → Apart cell (states_from need next ds)
    later cell next ds less room =
        all-states (λ y. y ≢ address_of need cell) (bytes_of need) next ds
        (λ k low high same. let one = addresses-differ need fits k cell high (omega arith) same in omega (arith, one)) room

    next-differs : (next : ℕ) → next + 2 ≤ bytes_of need → address_of need (next + 1) ≢ address_of need next
    next-differs next room same = let one = addresses-differ need fits (next + 1) next (omega arith) (omega arith) same in omega (arith, one)

    differ-state : (name : List ℕ) (t : Ty) (next : ℕ) (rest : List MapState) → ((cell : ℕ) → cell < next + type_bytes t → Apart cell rest) → next + type_bytes t ≤ bytes_of need
        → Differ rest → Differ (state_at name t next ∷ rest)
    differ-state name BoolTy next rest apart room differ = (apart next (omega arith), differ)
    differ-state name U8 next rest apart room differ = (apart next (omega arith), differ)
    differ-state name U16 next rest apart room differ = ((next-differs next room, apart next (omega arith)), (apart (next + 1) (omega arith), differ))

    differ-decl : (d : DeclTree) (b : BehaviourTree) (next : ℕ) (rest : List MapState) → ((cell : ℕ) → cell < next + bytes_in d.ty b → Apart cell rest) → next + bytes_in d.ty b ≤ bytes_of need
        → Differ rest → Differ (listed need d (state_cells next d.ty b) ++ rest)
    differ-decl d (Reactive init clauses) next rest apart room differ = differ-state d.name d.ty next rest apart room differ
    differ-decl d _ next rest apart room differ = differ

    pub states-differ : (next : ℕ) (ds : List DeclTree) → next + sum_by size ds ≤ bytes_of need → Differ (states_from need next ds)
    states-differ next [] room = tt
    states-differ next (d ∷ ds) room =
        let split = sum_by-cons size d ds in
        let behind = next + size d in
        differ-decl d d.behaviour next (states_from need behind ds) (λ cell less. later cell behind ds less (omega (arith, split))) (omega (arith, split))
        (states-differ behind ds (omega (arith, split)))

  -- They are the reactive definitions, by name and type.
  named-decl : (d : DeclTree) (b : BehaviourTree) (next : ℕ) (rest : List MapState) (more : List DeclTree) → map typed_state rest ≡ map typed_decl more
      → map typed_state (listed need d (state_cells next d.ty b) ++ rest) ≡ map typed_decl (if is_reactive b then d ∷ more else more)
  named-decl d (Reactive init clauses) next rest more same = ap (λ xs. typed_decl d ∷ xs) same
  named-decl d _ next rest more same = same

  pub states-named : (next : ℕ) (ds : List DeclTree) → map typed_state (states_from need next ds) ≡ map typed_decl (filter (λ (d : DeclTree). is_reactive d.behaviour) ds)
  states-named next [] = refl
  states-named next (d ∷ ds) =
      named-decl d d.behaviour next (states_from need (next + size d) ds) (filter (λ (c : DeclTree). is_reactive c.behaviour) ds) (states-named (next + size d) ds)

  -- What a definition and the addresses of its cells give holds of each state; there are no more states than definitions.
  module _ (Q : DeclTree → Type 0) (R : MapState → Type 0) (top : ℕ) (gives : (d : DeclTree) (next : ℕ) → Q d → next + type_bytes d.ty ≤ top → R (state_at d.name d.ty next)) where
    each-decl : (d : DeclTree) (b : BehaviourTree) (next : ℕ) (rest : List MapState) → Q d → next + bytes_in d.ty b ≤ top → AllByRecursion R rest
        → AllByRecursion R (listed need d (state_cells next d.ty b) ++ rest)
    each-decl d (Reactive init clauses) next rest its room all = (gives d next its room, all)
    each-decl d _ next rest its room all = all

    pub each-state : (next : ℕ) (ds : List DeclTree) → AllByRecursion Q ds → next + sum_by size ds ≤ top → AllByRecursion R (states_from need next ds)
    each-state next [] all room = tt
    each-state next (d ∷ ds) all room =
        let split = sum_by-cons size d ds in
        each-decl d d.behaviour next (states_from need (next + size d) ds) all.0 (omega (arith, split)) (each-state (next + size d) ds all.1 (omega (arith, split)))

  few-decl : (d : DeclTree) (b : BehaviourTree) (next n : ℕ) (rest : List MapState) → length rest ≤ n → length (listed need d (state_cells next d.ty b) ++ rest) ≤ suc n
  few-decl d (Reactive init clauses) next n rest few = omega arith
  few-decl d _ next n rest few = omega arith

  pub few-states : (next : ℕ) (ds : List DeclTree) → length (states_from need next ds) ≤ length ds
  few-states next [] = omega arith
  few-states next (d ∷ ds) = few-decl d d.behaviour next (length ds) (states_from need (next + size d) ds) (few-states (next + size d) ds)

  -- Where names of definitions differ, those of states do.
  abbrev Others : List ℕ → List MapState → Type 0
  Others name states = AllByRecursion (λ (s : MapState). s.name ≢ name) states

  other-decl : (name : List ℕ) (d : DeclTree) (b : BehaviourTree) (next : ℕ) (rest : List MapState) → d.name ≢ name → Others name rest → Others name (listed need d (state_cells next d.ty b) ++ rest)
  other-decl name d (Reactive init clauses) next rest differs others = (differs, others)
  other-decl name d _ next rest differs others = others

  other-states : (name : List ℕ) (next : ℕ) (ds : List DeclTree) → AllByRecursion (λ (d : DeclTree). d.name ≢ name) ds → Others name (states_from need next ds)
  other-states name next [] all = tt
  other-states name next (d ∷ ds) all = other-decl name d d.behaviour next (states_from need (next + size d) ds) all.0 (other-states name (next + size d) ds all.1)

  name-decl : (d : DeclTree) (b : BehaviourTree) (next : ℕ) (rest : List MapState) → Others d.name rest → AllDiffer (λ (s : MapState). s.name) rest
      → AllDiffer (λ (s : MapState). s.name) (listed need d (state_cells next d.ty b) ++ rest)
  name-decl d (Reactive init clauses) next rest others differ = (others, differ)
  name-decl d _ next rest others differ = differ

  pub names-differ : (next : ℕ) (ds : List DeclTree) → AllDiffer (λ (d : DeclTree). d.name) ds → AllDiffer (λ (s : MapState). s.name) (states_from need next ds)
  names-differ next [] differ = tt
  names-differ next (d ∷ ds) differ =
      name-decl d d.behaviour next (states_from need (next + size d) ds) (other-states d.name (next + size d) ds differ.0) (names-differ (next + size d) ds differ.1)
