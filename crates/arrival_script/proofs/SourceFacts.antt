-- Names of sources, and sets that grow by one source.
use Rattle.std.proofs.Common.{◌≡◌, ◌≢◌, ℕ, zero, suc, ◌+◌, ◌*◌, ◌<◌, ◌^◌, ◌||◌, Bool, true, false, nat_lt, List, [], ◌∷◌, subst, lit<, Option, Some, None, IfSome, IfNone, MatchOption, IsTrue, refl, sym, ap, ◌∙◌, arith}
use Rattle.std.specs.List.{list_all}
use Rattle.std.specs.Str.{bytes_eq, IsAscii, IsUtf8}
use Rattle.std.proofs.lemmas.Bool.{ltb-true, and_parts}
use Rattle.std.proofs.lemmas.Str.{IsUtf8-from_ascii}
use Rattle.std.proofs.lemmas.Slice.Eq.{bytes_eq-Decides}
use Rattle.pic_isa.specs.declared.sources.Source.{Source}
use Rattle.pic_isa.specs.declared.sources.Source.TheVariants.{T0, Int, Psp, Ad, Ssp, Ccp1, Tmr2, Tmr1, Ee, Bcl, Ccp2}
use Rattle.pic_isa.specs.Sources.{source_name, source_number}
use Rattle.pic_regs.specs.Arrivals.{Sources, set_of, number_of}
use Rattle.pic_regs.specs.Bytes.{one_if}
use Rattle.pic_regs.proofs.ByteLaws.{one_if-small}
use Rattle.pic_regs.proofs.ArrivalLaws.{number_of-set_of}
use Rattle.arrival_script.specs.Scripts.{is_source}

-- Names are ASCII.
ascii : (bs : List ℕ) → list_all (λ b. nat_lt b 128) bs ≡ true → IsAscii bs
ascii [] h i = lit< tt
ascii (b ∷ bs) h zero = ltb-true b 128 (and_parts (nat_lt b 128) (list_all (λ b. nat_lt b 128) bs) h).0
ascii (b ∷ bs) h (suc i) = ascii bs (and_parts (nat_lt b 128) (list_all (λ b. nat_lt b 128) bs) h).1 i

name_ascii : (source : Source) → list_all (λ b. nat_lt b 128) (source_name source) ≡ true
name_ascii T0 = refl
name_ascii _ = refl

pub text_utf8 : (bs : List ℕ) → list_all (λ b. nat_lt b 128) bs ≡ true → IsUtf8 bs
text_utf8 bs h = IsUtf8-from_ascii bs (ascii bs h)

name_utf8 : (source : Source) → IsUtf8 (source_name source)
name_utf8 source = text_utf8 (source_name source) (name_ascii source)

-- A source's name is one, and what is no source's name isn't.
pub is_source-name : (source : Source) → is_source (source_name source) ≡ true
is_source-name T0 = refl
is_source-name _ = refl

pub source-named : (name : List ℕ) (source : Source) → name ≡ source_name source → is_source name ≡ true
source-named name source e = ap is_source e ∙ is_source-name source

unlike : (xs ys : List ℕ) → xs ≢ ys → bytes_eq ys xs ≡ false
unlike xs ys h = go (bytes_eq ys xs) (bytes_eq-Decides ys xs).0
  where
    go : (b : Bool) → (b ≡ true → ys ≡ xs) → b ≡ false
    go true e = absurd (h (sym (e refl)))
    go false e = refl

pub no_source-named : (name : List ℕ) → ((source : Source) → name ≢ source_name source) → is_source name ≡ false
no_source-named name none =
    rw (unlike name (source_name T0) (none T0), unlike name (source_name Int) (none Int), unlike name (source_name Psp) (none Psp), unlike name (source_name Ad) (none Ad), unlike name (source_name Ssp) (none Ssp), unlike name (source_name Ccp1) (none Ccp1), unlike name (source_name Tmr2) (none Tmr2), unlike name (source_name Tmr1) (none Tmr1), unlike name (source_name Ee) (none Ee), unlike name (source_name Bcl) (none Bcl), unlike name (source_name Ccp2) (none Ccp2)) refl

pub no_text-named : (name : List ℕ) → ¬ IsUtf8 name → is_source name ≡ false
no_text-named name no_text = no_source-named name (λ source e. no_text (let P : List ℕ → Type 0 = λ bs. IsUtf8 bs in subst P (sym e) (name_utf8 source)))

-- The source that a text names is that which its bytes name.
pub named_answer : (field name : List ℕ) (r : Option Source) → name ≡ field → IfSome r (λ source. name ≡ source_name source) → IfNone r ((source : Source) → name ≢ source_name source)
    → MatchOption r (is_source field ≡ false) (λ source. IsTrue (is_source field) × (field ≡ source_name source))
named_answer field name None e some none = subst (λ w. is_source w ≡ false) e (no_source-named name none)
named_answer field name (Some source) e some none = let is : field ≡ source_name source = sym e ∙ some in (source-named field source is, is)

-- A set with one more source, as a number.
abbrev pub with_source : Source → Sources → Sources
with_source source set other = bytes_eq (source_name other) (source_name source) || set other

number_of-with : (n : ℕ) (source : Source) → n < 2048 → n + 2 ^ source_number source ≡ number_of (with_source source (set_of n)) + 2 ^ source_number source * one_if (set_of n source)
number_of-with n T0 below = omega (arith, number_of-set_of n below)
number_of-with n Int below = omega (arith, number_of-set_of n below)
number_of-with n Psp below = omega (arith, number_of-set_of n below)
number_of-with n Ad below = omega (arith, number_of-set_of n below)
number_of-with n Ssp below = omega (arith, number_of-set_of n below)
number_of-with n Ccp1 below = omega (arith, number_of-set_of n below)
number_of-with n Tmr2 below = omega (arith, number_of-set_of n below)
number_of-with n Tmr1 below = omega (arith, number_of-set_of n below)
number_of-with n Ee below = omega (arith, number_of-set_of n below)
number_of-with n Bcl below = omega (arith, number_of-set_of n below)
number_of-with n Ccp2 below = omega (arith, number_of-set_of n below)

pub number_of-more : (n : ℕ) (source : Source) → n < 2048 → set_of n source ≡ false → n + 2 ^ source_number source ≡ number_of (with_source source (set_of n))
number_of-more n source below h =
    let p = 2 ^ source_number source in
    let e : n + p ≡ number_of (with_source source (set_of n)) + p * 0 = number_of-with n source below ∙ ap (λ b. number_of (with_source source (set_of n)) + p * one_if b) h in
    omega arith

pub number_of-same : (n : ℕ) (source : Source) → n < 2048 → set_of n source ≡ true → n ≡ number_of (with_source source (set_of n))
number_of-same n source below h =
    let p = 2 ^ source_number source in
    let e : n + p ≡ number_of (with_source source (set_of n)) + p * 1 = number_of-with n source below ∙ ap (λ b. number_of (with_source source (set_of n)) + p * one_if b) h in
    omega arith

pub number_of-below : (set : Sources) → number_of set < 2048
number_of-below set =
    omega (arith, one_if-small (set T0), one_if-small (set Int), one_if-small (set Psp), one_if-small (set Ad), one_if-small (set Ssp), one_if-small (set Ccp1), one_if-small (set Tmr2), one_if-small (set Tmr1), one_if-small (set Ee), one_if-small (set Bcl), one_if-small (set Ccp2))

-- No source is in 0.
pub set_of-zero : (source : Source) → set_of 0 source ≡ false
set_of-zero T0 = refl
set_of-zero _ = refl

pub set_of-some : (n : ℕ) (source : Source) → set_of n source ≡ true → 0 < n
set_of-some zero source h = let e = set_of-zero source in cc
set_of-some (suc n) source h = omega arith
