-- Pins that change at a boundary, one port after the other.
use Rattle.std.proofs.Common.{◌≡◌, ℕ, ◌+◌, ◌-◌, ◌==◌, ◌<◌, ◌≤◌, ◌&&◌, ◌||◌, Bool, true, false, cond, List, [], ◌∷◌, length, get_or, take, drop, Option, Some, None, refl, sym, ap, subst, ◌∙◌, arith}
use Rattle.std.specs.List.{find, list_any}
use Rattle.std.specs.Option.{option_map}
use Rattle.std.proofs.Math.Path.{fun_ext}
use Rattle.std.proofs.lemmas.Bool.{ne_eqb, eq-eqb, eqb-true}
use Rattle.std.proofs.lemmas.Grind.{common_steps}
use Rattle.pic_regs.specs.Bytes.{Byte, bits}
use Rattle.pic_regs.specs.Registers.{with_pins}
use Rattle.pic_machine.specs.Chip.{Chip}
use Rattle.pic_machine.specs.Boundary.{with_changed_pins}
use Rattle.arrival_script.specs.declared.scripts.PinChange.{PinChange}
use Rattle.arrival_script.specs.Scripts.{is_same_pin}
use Rattle.arrival_script.specs.Sends.{ChangeFrom}
use Rattle.arrival_script.specs.Trace.{pins_at}

-- A chip with one change made.
abbrev pub with_change : PinChange → Chip → Chip
with_change p c = record c { regs = with_pins p.port (bits p.byte) c.regs }

abbrev found_at : List PinChange → ℕ → ℕ → Option PinChange
found_at changes boundary port = find (λ p. p.at == boundary && p.port == port) changes

-- No change of the port of one that is apart from all of them.
none-same : (p : PinChange) (more : List PinChange) → list_any (is_same_pin p) more ≡ false → found_at more p.at p.port ≡ None
none-same p [] h = refl
none-same p (q ∷ more) h = go (is_same_pin p q) (swapped p q) (none-same p more) h
  where
    swapped : (a b : PinChange) → is_same_pin a b ≡ (b.at == a.at && b.port == a.port)
    swapped a b = ap (λ t. t && a.port == b.port) (eqb-sym a.at b.at) ∙ ap (λ t. b.at == a.at && t) (eqb-sym a.port b.port)
      where
        eqb-sym : (m n : ℕ) → (m == n) ≡ (n == m)
        eqb-sym m n = grind arith

    go : (b : Bool) → b ≡ (q.at == p.at && q.port == p.port) → (list_any (is_same_pin p) more ≡ false → found_at more p.at p.port ≡ None) → (b || list_any (is_same_pin p) more) ≡ false
        → cond (q.at == p.at && q.port == p.port) (Some q) (found_at more p.at p.port) ≡ None
    go true e rest h = cc
    go false e rest h = ap (λ b. cond b (Some q) (found_at more p.at p.port)) (sym e) ∙ rest h

-- One change made, and the others to be made.
abbrev byte_or : Option PinChange → Byte → Byte
byte_or o old = elim (option_map (λ (p : PinChange). bits p.byte) o) as (λ _. Byte) [ Some byte ↦ byte | None ↦ old ]

pins-here : (p : PinChange) (more : List PinChange) (c : Chip) → list_any (is_same_pin p) more ≡ false
    → with_changed_pins (pins_at more p.at) (with_change p c) ≡ with_changed_pins (pins_at (p ∷ more) p.at) c
pins-here p more c apart = ap (λ f. record c { regs = record c.regs { pins = f } }) (fun_ext at_port)
  where
    at_port : (port : ℕ) → byte_or (found_at more p.at port) (cond (port == p.port) (bits p.byte) (c.regs.pins port)) ≡ byte_or (cond (p.at == p.at && p.port == port) (Some p) (found_at more p.at port)) (c.regs.pins port)
    at_port port = go (p.port == port) refl
      where
        turned : (port == p.port) ≡ (p.port == port)
        turned = grind arith

        here : (p.at == p.at) ≡ true
        here = eq-eqb p.at p.at refl

        go : (b : Bool) → (p.port == port) ≡ b
            → byte_or (found_at more p.at port) (cond (port == p.port) (bits p.byte) (c.regs.pins port)) ≡ byte_or (cond (p.at == p.at && p.port == port) (Some p) (found_at more p.at port)) (c.regs.pins port)
        go true e =
            let none : found_at more p.at port ≡ None = ap (found_at more p.at) (sym (eqb-true p.port port e)) ∙ none-same p more apart in
            ap (λ o. byte_or o (cond (port == p.port) (bits p.byte) (c.regs.pins port))) none
            ∙ ap (λ b. cond b (bits p.byte) (c.regs.pins port)) (turned ∙ e)
            ∙ sym (ap (λ b. byte_or (cond (b && p.port == port) (Some p) (found_at more p.at port)) (c.regs.pins port)) here
            ∙ ap (λ b. byte_or (cond b (Some p) (found_at more p.at port)) (c.regs.pins port)) e)
        go false e =
            ap (λ b. byte_or (found_at more p.at port) (cond b (bits p.byte) (c.regs.pins port))) (turned ∙ e)
            ∙ sym (ap (λ b. byte_or (cond (b && p.port == port) (Some p) (found_at more p.at port)) (c.regs.pins port)) here
            ∙ ap (λ b. byte_or (cond b (Some p) (found_at more p.at port)) (c.regs.pins port)) e)

pins-later : (p : PinChange) (more : List PinChange) (k : ℕ) → p.at < k → pins_at more k ≡ pins_at (p ∷ more) k
pins-later p more k h = fun_ext (λ port. sym (ap (λ b. option_map (λ q. bits q.byte) (cond (b && p.port == port) (Some p) (found_at more k port))) (ne_eqb p.at k (λ e. absurd (omega arith)))))

pub none-here : (rest : List PinChange) (low boundary port : ℕ) → ChangeFrom low rest → boundary < low → pins_at rest boundary port ≡ None
none-here [] low boundary port change h = refl
none-here (p ∷ more) low boundary port change h =
    let l = change.0 in
    ap (λ b. option_map (λ q. bits q.byte) (cond (b && p.port == port) (Some p) (found_at more boundary port))) (ne_eqb p.at boundary (λ e. absurd (omega arith)))
    ∙ none-here more p.at boundary port change.3 (omega arith)

-- Some changes of a boundary are made, and these are left.
pub record PinsSoFar (changes rest : List PinChange) (boundary : ℕ) (old now : Chip) : Type 0 where
  pub chip : with_changed_pins (pins_at rest boundary) now ≡ with_changed_pins (pins_at changes boundary) old
  pub later : (k : ℕ) → boundary < k → pins_at rest k ≡ pins_at changes k
  pub change : ChangeFrom boundary rest

pub pins-more : (changes rest : List PinChange) (boundary : ℕ) (old now next : Chip) (d : PinChange) → PinsSoFar changes rest boundary old now → 1 ≤ length rest
    → (get_or rest 0 d).at ≡ boundary → next ≡ with_change (get_or rest 0 d) now → PinsSoFar changes (take (length rest - 1) (drop 1 rest)) boundary old next
pins-more changes [] boundary old now next d so some at e = absurd (omega arith)
pins-more changes (p ∷ more) boundary old now next d so some at e =
    subst (λ rest. PinsSoFar changes rest boundary old next) (sym left) (record {
      chip = ap (with_changed_pins (pins_at more boundary)) e
          ∙ ap (λ b. with_changed_pins (pins_at more b) (with_change p now)) (sym at) ∙ pins-here p more now so.change.2 ∙ ap (λ b. with_changed_pins (pins_at (p ∷ more) b) now) at ∙ so.chip;
      later = λ k h. pins-later p more k (omega arith) ∙ so.later k h;
      change = subst (λ low. ChangeFrom low more) at so.change.3;
    })
  where
    left : take (length (p ∷ more) - 1) more ≡ more
    left = grind (arith, common_steps)

ended : (changes rest : List PinChange) (boundary : ℕ) (old now : Chip) → PinsSoFar changes rest boundary old now → ((port : ℕ) → pins_at rest boundary port ≡ None)
    → now ≡ with_changed_pins (pins_at changes boundary) old
ended changes rest boundary old now so none = sym (ap (λ f. with_changed_pins f now) (fun_ext none)) ∙ so.chip

-- None is left at the boundary.
pub pins-all : (changes rest : List PinChange) (boundary : ℕ) (old now : Chip) → PinsSoFar changes rest boundary old now → length rest < 1
    → (now ≡ with_changed_pins (pins_at changes boundary) old) × ChangeFrom (boundary + 1) rest
pins-all changes [] boundary old now so none = (ended changes [] boundary old now so (λ port. refl), tt)
pins-all changes (p ∷ more) boundary old now so none = absurd (omega arith)

pub pins-rest : (changes rest : List PinChange) (boundary : ℕ) (old now : Chip) (d : PinChange) → PinsSoFar changes rest boundary old now → 1 ≤ length rest
    → ((get_or rest 0 d).at ≡ boundary → ⊥) → (now ≡ with_changed_pins (pins_at changes boundary) old) × ChangeFrom (boundary + 1) rest
pins-rest changes [] boundary old now d so some other = absurd (omega arith)
pins-rest changes (p ∷ more) boundary old now d so some other =
    let low : boundary ≤ p.at = so.change.0 in
    let above : boundary + 1 ≤ p.at = omega arith in
    let change : ChangeFrom (boundary + 1) (p ∷ more) = (above, so.change.1, so.change.2, so.change.3) in
    (ended changes (p ∷ more) boundary old now so (λ port. none-here (p ∷ more) (boundary + 1) boundary port change (omega arith)), change)
