use Rattle.std.proofs.Common.{sym, ◌∙◌, eq-eqb, ne_eqb}
use Rattle.std.specs.Prelude.{◌==◌, ℕ, Bool}
use Rattle.std.proofs.lemmas.Bool.{or_from}
use Rattle.bank_alloc.specs.Addresses.{address_of}
use Rattle.firmware_map.specs.Written.{some_below}
use Rattle.firmware_map.proofs.CellFacts.{some-at, some-next, some-none}
use Rattle.firmware_map.proofs.uses.Uses.is_cell.Goals as goal

pub loop-cell-init : goal.loop-cell-init
loop-cell-init c = some-none (λ cell. c.args.address == address_of c.args.self.now.places.now.need cell)

pub returns-then-address : goal.returns-then-address
returns-then-address c =
    let need = c.args.self.now.places.now.need in
    let cell = c.loop-cell.cell in
    sym (some-at c.args.self.now.cells cell (λ k. c.args.address == address_of need k) c.loop-cell-test.true
    (eq-eqb c.args.address (address_of need cell) (sym c.if-address.true ∙ c.address.ensures)))

pub loop-cell-preserved : goal.loop-cell-preserved
loop-cell-preserved c =
    let need = c.args.self.now.places.now.need in
    let cell = c.loop-cell.cell in
    let test : ℕ → Bool = λ k. c.args.address == address_of need k in
    some-next cell test
    ∙ or_from (test cell) (some_below cell test) (ne_eqb c.args.address (address_of need cell) (λ same. c.if-address.false (c.address.ensures ∙ sym same))) c.loop-cell.invariant
