-- An event moves no more bytes than a commit copies: one to each of the states' cells at most, and one to each output.
use Rattle.std.proofs.Common.{◌≡◌, ℕ, ◌+◌, ◌<◌, ◌≤◌, ◌==◌, ◌||◌, Bool, true, false, Some, List, [], ◌∷◌, length, map, refl, sym, ap, subst, ◌∙◌, arith, length-append}
use Rattle.std.specs.List.{AllByRecursion, IsDistinct, list_any}
use Rattle.std.proofs.lemmas.Bool.{eqb-true, ne_eqb}
use Rattle.std.proofs.lemmas.List.{length-map}
use Rattle.std.proofs.lemmas.Map.Steps.{length-le_from_distinct_below}
use Rattle.frp_tree.specs.Tree.{OutputTree, ProgramTree}
use Rattle.efrp_meaning.specs.Bounds.{commit_bytes, state_bytes}
use Rattle.pic_isa.specs.Names.{port_at}
use Rattle.byte_ops.specs.Cells.{AreNot, Differ}
use Rattle.bank_alloc.specs.declared.needs.Needs.{Needs}
use Rattle.event_ops.specs.declared.results.Copied.{Copied}
use Rattle.event_ops.specs.declared.results.Put.{Put}
use Rattle.event_ops.specs.declared.results.EventOps.{EventOps}
use Rattle.event_ops.specs.Works.{IsCopy, Works}
use Rattle.event_code.specs.Moves.{move_of, moves_of, put_of}

-- Cells that differ and lie below a number are no more than it.
none-equal : (cell : ℕ) (cells : List ℕ) → AreNot cell cells → AllByRecursion (λ other. (cell == other) ≡ false) cells
none-equal cell [] differ = tt
none-equal cell (other ∷ cells) differ = (ne_eqb cell other differ.0, none-equal cell cells differ.1)

distinct-cells : (cells : List ℕ) → Differ cells → IsDistinct ◌==◌ cells
unfolding IsDistinct
distinct-cells [] differ = tt
distinct-cells (cell ∷ cells) differ = (none-equal cell cells differ.0, distinct-cells cells differ.1)

one-below : (most : ℕ) (cells : List ℕ) → AllByRecursion (λ cell. cell < most) cells → (cell : ℕ) → list_any (λ other. cell == other) cells ≡ true → cell < most
one-below most [] below cell here = absurd (cc)
one-below most (other ∷ cells) below cell here = by (cell == other) refl here (one-below most cells below.1 cell)
  where
    by : (b : Bool) → (cell == other) ≡ b → (b || list_any (λ x. cell == x) cells) ≡ true → (list_any (λ x. cell == x) cells ≡ true → cell < most) → cell < most
    by true same either later = subst (λ x. x < most) (sym (eqb-true cell other same)) below.0
    by false same either later = later either

pub few-cells : (most : ℕ) (cells : List ℕ) → AllByRecursion (λ cell. cell < most) cells → Differ cells → length cells ≤ most
few-cells most cells below differ = length-le_from_distinct_below cells most (distinct-cells cells differ) (one-below most cells below)

-- What is copied goes to cells of states.
copies-below : (states cells : ℕ) (copies : List Copied) → AllByRecursion (IsCopy states cells) copies → AllByRecursion (λ cell. cell < states) (map (λ (c : Copied). c.to) copies)
copies-below states cells [] are = tt
copies-below states cells (c ∷ copies) are = (are.0.to, copies-below states cells copies are.1)

pub moves-few : (p : ProgramTree) (event : List ℕ) (need : Needs) (ops : EventOps) → Works p event ops → length (moves_of need ops) ≤ commit_bytes p
moves-few p event need ops works =
    let targets : List ℕ = map (λ (c : Copied). c.to) ops.copies in
    let copies = few-cells (state_bytes p) targets (copies-below (state_bytes p) ops.cells ops.copies works.copies) works.once in
    let ports = ap length works.ports in
    let all = length-append (map (move_of need) ops.copies) (map (put_of need) ops.puts) in
    let of_copies = length-map ops.copies (λ (c : Copied). c.to) in
    let copied = length-map ops.copies (move_of need) in
    let put = length-map ops.puts (put_of need) in
    let of_puts = length-map ops.puts (λ (q : Put). Some q.port) in
    let of_outputs = length-map p.outputs (λ (o : OutputTree). port_at o.port) in
    omega (arith, copies, ports, all, of_copies, copied, put, of_puts, of_outputs)
