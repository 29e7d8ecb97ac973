-- What the moves of an event leave in the cells, and what they put on ports.
use Rattle.std.specs.List.{AllByRecursion, flat_map, zip}
use Rattle.std.proofs.Common.{◌≡◌, ℕ, ◌<◌, ◌≤◌, ◌==◌, Bool, true, false, List, [], ◌∷◌, ◌++◌, map, Some, if◌then◌else◌, refl, sym, ap, ap₂, ◌∙◌, arith}
use Rattle.std.proofs.lemmas.Bool.{eq-eqb, eqb-true, ne_eqb}
use Rattle.frp_tree.specs.Tree.{OutputTree}
use Rattle.pic_isa.specs.Names.{port_at}
use Rattle.pic_regs.specs.Bytes.{Byte, num}
use Rattle.pic_machine.specs.declared.steps.PortWrite.{PortWrite}
use Rattle.byte_ops.specs.Cells.{AreNot, Differ}
use Rattle.bank_alloc.specs.declared.needs.Needs.{Needs}
use Rattle.bank_alloc.specs.Addresses.{address_of}
use Rattle.bank_alloc.specs.Needs.{bytes_of}
use Rattle.bank_alloc.proofs.AddressLaws.{addresses-differ}
use Rattle.firmware_promises.specs.Follows.{put_on}
use Rattle.glue_parts.specs.declared.moves.Move.{Move}
use Rattle.glue_parts.specs.Moves.{after_move, after_moves, puts_by}
use Rattle.event_ops.specs.declared.results.Copied.{Copied}
use Rattle.event_ops.specs.declared.results.Put.{Put}
use Rattle.event_ops.specs.Works.{IsCopy, copied}
use Rattle.event_code.specs.Moves.{move_of, put_of}
use Rattle.event_code.proofs.StateLaws.{cells_in}

-- Moves one behind the other.
pub after-append : (xs ys : List Move) (plain : ℕ → Byte) → after_moves (xs ++ ys) plain ≡ after_moves ys (after_moves xs plain)
after-append [] ys plain = refl
after-append (x ∷ xs) ys plain = after-append xs ys (after_move x plain)

-- What the byte in a cell puts on its port.
abbrev pub put_by : (ℕ → ℕ) → Put → PortWrite
put_by cells q = record { port = q.port; byte = cells q.from }

module _ (need : Needs) where
  -- Moves to states put nothing, and those to ports leave the plain bytes.
  pub puts-copies : (cs : List Copied) (ys : List Move) (plain : ℕ → Byte) → puts_by (map (move_of need) cs ++ ys) plain ≡ puts_by ys (after_moves (map (move_of need) cs) plain)
  puts-copies [] ys plain = refl
  puts-copies (c ∷ cs) ys plain = puts-copies cs ys (after_move (move_of need c) plain)

  pub after-puts : (qs : List Put) (plain : ℕ → Byte) → after_moves (map (put_of need) qs) plain ≡ plain
  after-puts [] plain = refl
  after-puts (q ∷ qs) plain = after-puts qs plain

  pub puts-puts : (qs : List Put) (plain : ℕ → Byte) → puts_by (map (put_of need) qs) plain ≡ map (put_by (cells_in need plain)) qs
  puts-puts [] plain = refl
  puts-puts (q ∷ qs) plain = ap (λ ws. put_by (cells_in need plain) q ∷ ws) (puts-puts qs plain)

-- The test of one number is that of another, where they are equal together.
same-test : (m n j k : ℕ) → (m ≡ n → j ≡ k) → (j ≡ k → m ≡ n) → (m == n) ≡ (j == k)
same-test m n j k on back = by_test (j == k) refl
  where
    by_test : (b : Bool) → (j == k) ≡ b → (m == n) ≡ b
    by_test true same = eq-eqb m n (back (eqb-true j k same))
    by_test false other = ne_eqb m n (λ e. let clash : true ≡ false = sym (eq-eqb j k (on e)) ∙ other in cc)

num-choice : (b : Bool) (x y : Byte) → num (if b then x else y) ≡ (if b then num x else num y)
num-choice true x y = refl
num-choice false x y = refl

if-false : (b : Bool) (x y : ℕ) → b ≡ false → (if b then x else y) ≡ y
if-false b x y is = ap (λ t. if t then x else y) is

module _ (need : Needs) (fits : bytes_of need ≤ 352) (states cells : ℕ) (few : states ≤ cells) (placed : cells ≤ bytes_of need) where
  -- What the cells hold after one is copied.
  moved-cell : (c : Copied) (plain : ℕ → Byte) → c.to < states → (cell : ℕ) → cell < bytes_of need
      → cells_in need (after_move (move_of need c) plain) cell ≡ (if c.to == cell then cells_in need plain c.from else cells_in need plain cell)
  moved-cell c plain to cell below =
      let byte = plain (address_of need c.from) in
      let old = plain (address_of need cell) in
      num-choice (address_of need cell == address_of need c.to) byte old
      ∙ ap (λ b. if b then num byte else num old)
      (same-test (address_of need cell) (address_of need c.to) c.to cell
      (λ e. sym (addresses-differ need fits cell c.to below (omega arith) e)) (λ e. ap (address_of need) (sym e)))

  -- A copy before others changes what those to other cells don't.
  copied-step : (c : Copied) → c.to < states → (f g : ℕ → ℕ) → ((cell : ℕ) → cell < bytes_of need → g cell ≡ (if c.to == cell then f c.from else f cell)) → (cs : List Copied)
      → AllByRecursion (IsCopy states cells) cs → AreNot c.to (map (λ (x : Copied). x.to) cs) → (cell : ℕ) → cell < bytes_of need
      → copied cs g cell ≡ (if c.to == cell then f c.from else copied cs f cell)
  copied-step c to f g is [] all other cell below = is cell below
  copied-step c to f g is (x ∷ xs) all other cell below = by_test (x.to == cell) refl (copied-step c to f g is xs all.1 other.1 cell below)
    where
      from_other : (c.to == x.from) ≡ false
      from_other = let old = all.0.old in ne_eqb c.to x.from (λ e. omega (arith, old, to, e))

      by_test : (b : Bool) → (x.to == cell) ≡ b → copied xs g cell ≡ (if c.to == cell then f c.from else copied xs f cell)
          → (if b then g x.from else copied xs g cell) ≡ (if c.to == cell then f c.from else (if b then f x.from else copied xs f cell))
      by_test true same rest =
          let given = all.0.given in
          let there : c.to ≡ cell → ⊥ = λ e. other.0 (e ∙ sym (eqb-true x.to cell same)) in
          is x.from (omega (arith, given)) ∙ if-false (c.to == x.from) (f c.from) (f x.from) from_other
          ∙ sym (if-false (c.to == cell) (f c.from) (f x.from) (ne_eqb c.to cell there))
      by_test false same rest = rest

  -- Copies one after the other leave what they leave all at once.
  pub after-copies : (cs : List Copied) → AllByRecursion (IsCopy states cells) cs → Differ (map (λ (x : Copied). x.to) cs) → (plain : ℕ → Byte) (cell : ℕ) → cell < bytes_of need
      → cells_in need (after_moves (map (move_of need) cs) plain) cell ≡ copied cs (cells_in need plain) cell
  after-copies [] all once plain cell below = refl
  after-copies (c ∷ cs) all once plain cell below =
      let to = all.0.to in
      let next = after_move (move_of need c) plain in
      after-copies cs all.1 once.1 next cell below
      ∙ copied-step c to (cells_in need plain) (cells_in need next) (moved-cell c plain to) cs all.1 once.0 cell below

  -- A cell that is none of a state's is left; and cells that hold the same are copied to the same.
  pub copied-old : (cs : List Copied) → AllByRecursion (IsCopy states cells) cs → (f : ℕ → ℕ) (cell : ℕ) → states ≤ cell → copied cs f cell ≡ f cell
  copied-old [] all f cell old = refl
  copied-old (x ∷ xs) all f cell old =
      let to = all.0.to in
      if-false (x.to == cell) (f x.from) (copied xs f cell) (ne_eqb x.to cell (λ e. omega (arith, to, old, e))) ∙ copied-old xs all.1 f cell old

  pub copied-same : (f g : ℕ → ℕ) → ((cell : ℕ) → cell < bytes_of need → f cell ≡ g cell) → (cs : List Copied) → AllByRecursion (IsCopy states cells) cs → (cell : ℕ) → cell < bytes_of need
      → copied cs f cell ≡ copied cs g cell
  copied-same f g same [] all cell below = same cell below
  copied-same f g same (x ∷ xs) all cell below =
      let given = all.0.given in
      ap₂ (λ m n. if x.to == cell then m else n) (same x.from (omega (arith, given))) (copied-same f g same xs all.1 cell below)

-- The bytes in the cells that are put are those of the outputs, on their ports.
pub puts-outputs : (cells : ℕ → ℕ) (qs : List Put) (os : List OutputTree) → map (λ (q : Put). Some q.port) qs ≡ map (λ (o : OutputTree). port_at o.port) os
    → flat_map (λ (pair : OutputTree × ℕ). put_on (port_at pair.0.port) pair.1) (zip os (map (λ (q : Put). cells q.from) qs)) ≡ map (put_by cells) qs
puts-outputs cells [] [] same = refl
puts-outputs cells [] (o ∷ os) same = absurd (cc)
puts-outputs cells (q ∷ qs) [] same = absurd (cc)
puts-outputs cells (q ∷ qs) (o ∷ os) same =
    let port : port_at o.port ≡ Some q.port = cc in
    let more : map (λ (x : Put). Some x.port) qs ≡ map (λ (x : OutputTree). port_at x.port) os = cc in
    ap₂ (λ ws vs. ws ++ vs) (ap (λ n. put_on n (cells q.from)) port) (puts-outputs cells qs os more)
