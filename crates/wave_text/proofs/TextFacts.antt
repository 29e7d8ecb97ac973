-- Lines that are written one after the other.
use Rattle.std.proofs.Common.{◌≡◌, ℕ, zero, suc, ◌+◌, ◌<◌, List, [], ◌∷◌, ◌++◌, length, take, get_or, Result, Ok, Err, OnOk, is_ok, if◌then◌else◌, sym, ap, ◌∙◌, arith}
use Rattle.std.proofs.lemmas.List.{append_assoc, append-nil, flat_map_more, take_more}
use Rattle.std.specs.List.{flat_map}
use Rattle.wave_text.specs.declared.signals.Signal.{Signal}
use Rattle.wave_text.specs.Waves.{change_line, change_lines}

pub on_ok : {E : Type 0} {P Q : Type 0} (r : Result (Unit {0}) E) → (P → Q) → OnOk r P → OnOk r Q
on_ok (Ok done) f p = f p
on_ok (Err e) f p = p

-- A text of the lines before place i, and then the line at i, has the lines before i + 1.
pub one_more_line : {X : Type 0} (f : X → List ℕ) (start before after : List ℕ) (xs : List X) (i : ℕ) (x : X)
    → i < length xs → x ≡ get_or xs i x → before ≡ start ++ flat_map f (take i xs) → after ≡ before ++ f x
    → after ≡ start ++ flat_map f (take (i + 1) xs)
one_more_line f start before after xs i x inside item so_far now = grind (arith, take_more xs i x inside, flat_map_more f start (take i xs) x)

-- The same of an element that is read.
pub one_more_at : {X : Type 0} (f : X → List ℕ) (start before after : List ℕ) (xs : List X) (i : ℕ) (d : X)
    → i < length xs → before ≡ start ++ flat_map f (take i xs) → after ≡ before ++ f (get_or xs i d)
    → after ≡ start ++ flat_map f (take (i + 1) xs)
one_more_at f start before after xs i d inside so_far now = grind (arith, take_more xs i d inside, flat_map_more f start (take i xs) (get_or xs i d))

-- A text that was pushed.
pub pushed : {E : Type 0} (r : Result (Unit {0}) E) (old piece new : List ℕ) → new ≡ (if is_ok r then old ++ piece else old) → OnOk r (new ≡ old ++ piece)
pushed (Ok done) old piece new e = e
pushed (Err e) old piece new h = tt

-- The same of the lines of what changed.
changes-more : (before now : List Signal) (i : ℕ) (d e : Signal) → i < length before → i < length now
    → change_lines (take (suc i) before) (take (suc i) now) ≡ change_lines (take i before) (take i now) ++ change_line (get_or before i d) (get_or now i e)
changes-more [] now i d e h g = absurd (omega arith)
changes-more (b ∷ before) [] i d e h g = absurd (omega arith)
changes-more (b ∷ before) (n ∷ now) zero d e h g = append-nil (change_line b n)
changes-more (b ∷ before) (n ∷ now) (suc i) d e h g =
    ap (λ l. change_line b n ++ l) (changes-more before now i d e (omega arith) (omega arith))
    ∙ sym (append_assoc (change_line b n) (change_lines (take i before) (take i now)) (change_line (get_or before i d) (get_or now i e)))

pub one_more_change : (start text after : List ℕ) (before now : List Signal) (i : ℕ) (d e : Signal) → i < length before → length before ≡ length now
    → text ≡ start ++ change_lines (take i before) (take i now) → after ≡ text ++ change_line (get_or before i d) (get_or now i e)
    → after ≡ start ++ change_lines (take (i + 1) before) (take (i + 1) now)
one_more_change start text after before now i d e h same so_far line =
    let next : i + 1 ≡ suc i = omega arith in
    line ∙ ap (λ t. t ++ change_line (get_or before i d) (get_or now i e)) so_far
    ∙ append_assoc start (change_lines (take i before) (take i now)) (change_line (get_or before i d) (get_or now i e))
    ∙ ap (λ l. start ++ l) (sym (changes-more before now i d e h (omega (arith, same))))
    ∙ ap (λ k. start ++ change_lines (take k before) (take k now)) (sym next)

-- Parts of a text.
pub four : (t a b c d t1 t2 t3 t4 : List ℕ) → t1 ≡ t ++ a → t2 ≡ t1 ++ b → t3 ≡ t2 ++ c → t4 ≡ t3 ++ d → t4 ≡ t ++ (a ++ (b ++ (c ++ d)))
four t a b c d t1 t2 t3 t4 w1 w2 w3 w4 = rw (w4, w3, w2, w1) (simp append_assoc)

pub five : (t a b c d e t1 t2 t3 t4 t5 : List ℕ) → t1 ≡ t ++ a → t2 ≡ t1 ++ b → t3 ≡ t2 ++ c → t4 ≡ t3 ++ d → t5 ≡ t4 ++ e → t5 ≡ t ++ (a ++ (b ++ (c ++ (d ++ e))))
five t a b c d e t1 t2 t3 t4 t5 w1 w2 w3 w4 w5 = rw (w5, w4, w3, w2, w1) (simp append_assoc)

pub ten : (t a b c d e f g h i j t1 t2 t3 t4 t5 t6 t7 t8 t9 t10 : List ℕ) → t1 ≡ t ++ a → t2 ≡ t1 ++ b → t3 ≡ t2 ++ c → t4 ≡ t3 ++ d → t5 ≡ t4 ++ e
    → t6 ≡ t5 ++ f → t7 ≡ t6 ++ g → t8 ≡ t7 ++ h → t9 ≡ t8 ++ i → t10 ≡ t9 ++ j
    → t10 ≡ t ++ (a ++ (b ++ (c ++ (d ++ (e ++ (f ++ (g ++ (h ++ (i ++ j)))))))))
ten t a b c d e f g h i j t1 t2 t3 t4 t5 t6 t7 t8 t9 t10 w1 w2 w3 w4 w5 w6 w7 w8 w9 w10 = rw (w10, w9, w8, w7, w6, w5, w4, w3, w2, w1) (simp append_assoc)
