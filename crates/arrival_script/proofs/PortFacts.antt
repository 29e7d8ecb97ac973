-- Names of ports, and changes of their pins.
use Rattle.std.proofs.Common.{◌≡◌, ℕ, ◌<◌, Bool, true, false, cond, nat_lt, List, lit<, is_some, Option, Some, None, MatchOption, IsTrue, codes, refl, sym, subst}
use Rattle.std.specs.List.{list_all}
use Rattle.std.specs.Str.{bytes_eq, IsUtf8}
use Rattle.std.proofs.lemmas.Slice.Eq.{bytes_eq-Decides}
use Rattle.pic_isa.specs.Names.{port_at}
use Rattle.arrival_script.specs.Scripts.{is_port, port_number}
use Rattle.arrival_script.proofs.SourceFacts.{text_utf8}

-- The port that a name has, by which of the five it is.
abbrev chosen : Bool → Bool → Bool → Bool → Bool → Option ℕ
chosen a b c d e = cond a (Some 0) (cond b (Some 1) (cond c (Some 2) (cond d (Some 3) (cond e (Some 4) None))))

abbrev IsAnswer : Option ℕ → Option ℕ → Type 0
IsAnswer r o = MatchOption r (is_some o ≡ false) (λ port. IsTrue (is_some o) × (port ≡ elim o as (λ _. ℕ) [ None ↦ 0 | Some number ↦ number ]) × (port < 5))

answers : (a b c d e : Bool) → IsAnswer (chosen a b c d e) (chosen a b c d e)
answers true b c d e = (refl, refl, lit< tt)
answers false true c d e = (refl, refl, lit< tt)
answers false false true d e = (refl, refl, lit< tt)
answers false false false true e = (refl, refl, lit< tt)
answers false false false false true = (refl, refl, lit< tt)
answers false false false false false = refl

pub port_answer : (name field : List ℕ) (r : Option ℕ) → name ≡ field → r ≡ port_at name
    → MatchOption r (is_port field ≡ false) (λ port. IsTrue (is_port field) × (port ≡ port_number field) × (port < 5))
port_answer name field r e is =
    let found : IsAnswer r (port_at name) =
    subst (λ o. IsAnswer o (port_at name)) (sym is)
    (answers (bytes_eq name (codes "PORTA")) (bytes_eq name (codes "PORTB")) (bytes_eq name (codes "PORTC")) (bytes_eq name (codes "PORTD")) (bytes_eq name (codes "PORTE"))) in
    subst (λ w. IsAnswer r (port_at w)) e found

-- What is no text is no port's name.
pub no_text-port : (name : List ℕ) → ¬ IsUtf8 name → is_port name ≡ false
no_text-port name no_text =
    rw (unlike (codes "PORTA") refl, unlike (codes "PORTB") refl, unlike (codes "PORTC") refl, unlike (codes "PORTD") refl, unlike (codes "PORTE") refl) refl
  where
    unlike : (port : List ℕ) → list_all (λ b. nat_lt b 128) port ≡ true → bytes_eq name port ≡ false
    unlike port ascii = go (bytes_eq name port) (bytes_eq-Decides name port).0
      where
        go : (b : Bool) → (b ≡ true → name ≡ port) → b ≡ false
        go true e = absurd (no_text (let P : List ℕ → Type 0 = λ bs. IsUtf8 bs in subst P (sym (e refl)) (text_utf8 port ascii)))
        go false e = refl
