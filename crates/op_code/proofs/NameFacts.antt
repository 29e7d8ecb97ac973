-- Lists of names and of the cells that they stand for.
use Rattle.std.proofs.Common.{◌≡◌, ◌≢◌, ℕ, ◌+◌, ◌*◌, ◌⊎◌, Bool, true, false, ◌==◌, ◌||◌, if◌then◌else◌, List, [], ◌∷◌, ◌++◌, map, ap, ◌∙◌, sym, refl, subst, inl, inr, arith}
use Rattle.std.proofs.lemmas.Bool.{ne_eqb, eq-eqb, eqb-true}
use Rattle.std.proofs.lemmas.List.{map-append}
use Rattle.std.specs.List.{AllByRecursion, list_any}
use Rattle.byte_ops.specs.declared.operations.Op.{Op}
use Rattle.byte_ops.specs.declared.operations.Op.TheVariants.{Set, Copy, Com, Not, Bits, Sum, Compare, Logic, Choose, Shift, Product}
use Rattle.byte_ops.specs.Cells.{AreNot, Differ}
use Rattle.byte_ops.specs.Meaning.{HasBools, read_by, result_in, value_of, written_by}
use Rattle.bank_alloc.specs.declared.needs.Needs.{Needs}
use Rattle.bank_alloc.specs.Addresses.{address_of}
use Rattle.frp_tree.specs.declared.syntax.UnOp.TheVariants as unary
use Rattle.efrp_meaning.specs.Values.{binary_value, if_value, shift_value, unary_value}
use Rattle.code_acts.specs.declared.acts.Places.{Places}
use Rattle.code_acts.specs.Codes.{is_operand, place_of}
use Rattle.op_templates.specs.Templates.{named}
use Rattle.op_templates.specs.Laws.{uses}
use Rattle.op_code.specs.declared.named.Named.{Named}
use Rattle.op_code.specs.Named.{addresses_of, cell_at, named_by}
use Rattle.op_code.specs.Operations.{cells_of_op, is_one_of}

pub or_cases : (a b : Bool) → (a || b) ≡ true → (a ≡ true) ⊎ (b ≡ true)
or_cases true b h = inl refl
or_cases false b h = inr h

pub or_right : (a b : Bool) → b ≡ true → (a || b) ≡ true
or_right true b h = refl
or_right false b h = h

pub any-append : (p : ℕ → Bool) (xs ys : List ℕ) → list_any p (xs ++ ys) ≡ (list_any p xs || list_any p ys)
any-append p [] ys = refl
any-append p (x ∷ xs) ys = ap (λ b. p x || b) (any-append p xs ys) ∙ or_joined (p x) (list_any p xs) (list_any p ys)
  where
    or_joined : (a b c : Bool) → (a || (b || c)) ≡ ((a || b) || c)
    or_joined true b c = refl
    or_joined false b c = refl

pub or_left : (a b : Bool) → a ≡ true → (a || b) ≡ true
or_left a b h = ap (λ c. c || b) h

pub all-joined : {X : Type 0} (P : X → Type 0) (xs ys : List X) → AllByRecursion P xs → AllByRecursion P ys → AllByRecursion P (xs ++ ys)
all-joined P [] ys first second = second
all-joined P (x ∷ xs) ys first second = (first.0, all-joined P xs ys first.1 second)

pub all-parts : (P : ℕ → Type 0) (xs ys : List ℕ) → AllByRecursion P (xs ++ ys) → AllByRecursion P xs × AllByRecursion P ys
all-parts P [] ys all = (tt, all)
all-parts P (x ∷ xs) ys all = let rest = all-parts P xs ys all.1 in ((all.0, rest.0), rest.1)

-- What holds of all cells of names holds of the cell of each.
pub at_name : (P : ℕ → Type 0) (f : ℕ → ℕ) (xs : List ℕ) (n : ℕ) → AllByRecursion P (map f xs) → is_one_of xs n ≡ true → P (f n)
at_name P f [] n all h = absurd (cc)
at_name P f (x ∷ xs) n all h =
    elim (or_cases (x == n) (is_one_of xs n) h) as (λ e. P (f n)) [
      | inl e ↦ subst (λ m. P (f m)) (eqb-true x n e) all.0
      | inr e ↦ at_name P f xs n all.1 e
    ]

pub at_each : (P : ℕ → Type 0) (xs : List ℕ) (n : ℕ) → AllByRecursion P xs → is_one_of xs n ≡ true → P n
at_each P [] n all h = absurd (cc)
at_each P (x ∷ xs) n all h =
    elim (or_cases (x == n) (is_one_of xs n) h) as (λ e. P n) [ inl e ↦ subst P (eqb-true x n e) all.0 | inr e ↦ at_each P xs n all.1 e ]

pub one_of-map : (f : ℕ → ℕ) (xs : List ℕ) (n : ℕ) → is_one_of xs n ≡ true → is_one_of (map f xs) (f n) ≡ true
one_of-map f [] n h = absurd (cc)
one_of-map f (x ∷ xs) n h =
    elim (or_cases (x == n) (is_one_of xs n) h) as (λ e. is_one_of (f x ∷ map f xs) (f n) ≡ true) [
      | inl e ↦ ap (λ b. b || is_one_of (map f xs) (f n)) (eq-eqb (f x) (f n) (ap f (eqb-true x n e)))
      | inr e ↦ or_right (f x == f n) (is_one_of (map f xs) (f n)) (one_of-map f xs n e)
    ]

pub all_of : (P : ℕ → Type 0) (xs : List ℕ) → ((n : ℕ) → is_one_of xs n ≡ true → P n) → AllByRecursion P xs
all_of P [] each = tt
all_of P (x ∷ xs) each =
    (each x (ap (λ b. b || is_one_of xs x) (eq-eqb x x refl)), all_of P xs (λ n e. each n (or_right (x == n) (is_one_of xs n) e)))

pub not_one : (xs : List ℕ) (n : ℕ) → AreNot n xs → is_one_of xs n ≡ false
not_one [] n h = refl
not_one (x ∷ xs) n h = ap (λ b. b || is_one_of xs n) (ne_eqb x n (λ e. h.0 (sym e))) ∙ not_one xs n h.1

-- Names whose cells differ are the same where their cells are.
pub same_name : (f : ℕ → ℕ) (xs : List ℕ) (n m : ℕ) → Differ (map f xs) → is_one_of xs n ≡ true → is_one_of xs m ≡ true → f n ≡ f m → n ≡ m
same_name f [] n m differ is also same = absurd (cc)
same_name f (x ∷ xs) n m differ is also same =
    elim (or_cases (x == n) (is_one_of xs n) is) as (λ e. n ≡ m) [
      | inl e ↦ elim (or_cases (x == m) (is_one_of xs m) also) as (λ d. n ≡ m) [
        | inl d ↦ sym (eqb-true x n e) ∙ eqb-true x m d
        | inr d ↦ absurd (at_name (λ cell. f x ≢ cell) f xs m differ.0 d (ap f (eqb-true x n e) ∙ same))
      ]
      | inr e ↦ elim (or_cases (x == m) (is_one_of xs m) also) as (λ d. n ≡ m) [
        | inl d ↦ absurd (at_name (λ cell. f x ≢ cell) f xs n differ.0 e (ap f (eqb-true x m d) ∙ sym same))
        | inr d ↦ same_name f xs n m differ.1 e d same
      ]
    ]

-- The address of a name is that of its cell.
abbrev far_place : Places → ℕ → ℕ
far_place places n =
    cell_at (record { to = places.to; to_high = places.to_high; a = places.a; a_high = places.a_high; b = places.b; b_high = places.b_high; c = places.c }) n

picked : (f : ℕ → ℕ) (s t u v w x : Bool) (c d e g h i j : ℕ)
    → (if s then f c else if t then f d else if u then f e else if v then f g else if w then f h else if x then f i else f j)
    ≡ f (if s then c else if t then d else if u then e else if v then g else if w then h else if x then i else j)
picked f true t u v w x c d e g h i j = refl
picked f false true u v w x c d e g h i j = refl
picked f false false true v w x c d e g h i j = refl
picked f false false false true w x c d e g h i j = refl
picked f false false false false true x c d e g h i j = refl
picked f false false false false false true c d e g h i j = refl
picked f false false false false false false c d e g h i j = refl

pub place-cell : (need : Needs) (cells : Named) (n : ℕ) → is_operand n ≡ false → place_of (addresses_of need cells) n ≡ address_of need (cell_at cells n)
place-cell need cells n is =
    ap (λ b. if b then 0x74 + n else far_place (addresses_of need cells) n) is
    ∙ picked (address_of need) (n == 12) (n == 13) (n == 14) (n == 15) (n == 16) (n == 17) cells.to cells.to_high cells.a cells.a_high cells.b cells.b_high cells.c

-- The cells of an operation are those of its names: those that it reads, and those that it writes.
cells-of : (op : Op)
    → (read_by op ≡ map (cell_at (named_by op)) (read_by (named op))) × (written_by op ≡ map (cell_at (named_by op)) (written_by (named op)))
cells-of (Set to k) = (refl, refl)
cells-of (Copy to a) = (refl, refl)
cells-of (Com to a) = (refl, refl)
cells-of (Not to a) = (refl, refl)
cells-of (Bits f to a b) = (refl, refl)
cells-of (Sum f true to a b) = (refl, refl)
cells-of (Sum f false to a b) = (refl, refl)
cells-of (Compare f true to a b) = (refl, refl)
cells-of (Compare f false to a b) = (refl, refl)
cells-of (Logic f to a b) = (refl, refl)
cells-of (Choose true to c a b) = (refl, refl)
cells-of (Choose false to c a b) = (refl, refl)
cells-of (Shift side true n to a) = (refl, refl)
cells-of (Shift side false n to a) = (refl, refl)
cells-of (Product f true to a b) = (refl, refl)
cells-of (Product f false to a b) = (refl, refl)

pub read-cells : (op : Op) → read_by op ≡ map (cell_at (named_by op)) (read_by (named op))
read-cells op = (cells-of op).0

pub written-cells : (op : Op) → written_by op ≡ map (cell_at (named_by op)) (written_by (named op))
written-cells op = (cells-of op).1

pub all-cells : (op : Op) → cells_of_op op ≡ map (cell_at (named_by op)) (cells_of_op (named op))
all-cells op =
    let f = cell_at (named_by op) in
    ap (λ xs. xs ++ written_by op) (read-cells op) ∙ ap (λ ys. map f (read_by (named op)) ++ ys) (written-cells op)
    ∙ sym (map-append f (read_by (named op)) (written_by (named op)))

-- Names that an operation writes are no operand bytes.
pub written_far : (op : Op) → AllByRecursion (λ n. is_operand n ≡ false) (written_by (named op))
written_far (Set to k) = (refl, tt)
written_far (Copy to a) = (refl, tt)
written_far (Com to a) = (refl, tt)
written_far (Not to a) = (refl, tt)
written_far (Bits f to a b) = (refl, tt)
written_far (Sum f true to a b) = (refl, (refl, tt))
written_far (Sum f false to a b) = (refl, tt)
written_far (Compare f wide to a b) = (refl, tt)
written_far (Logic f to a b) = (refl, tt)
written_far (Choose true to c a b) = (refl, (refl, tt))
written_far (Choose false to c a b) = (refl, tt)
written_far (Shift side true n to a) = (refl, (refl, tt))
written_far (Shift side false n to a) = (refl, tt)
written_far (Product f true to a b) = (refl, (refl, tt))
written_far (Product f false to a b) = (refl, tt)

both : (f : ℕ → ℕ → ℕ) {a b c d : ℕ} → a ≡ b → c ≡ d → f a c ≡ f b d
both f p q = λ i. f (p i) (q i)

pair : {a b c d : ℕ} → a ≡ b → c ≡ d → a + 256 * c ≡ b + 256 * d
pair p q = λ i. p i + 256 * q i

-- Its result depends on what these names hold alone.
pub result-cells : (op : Op) (named_bytes cells : ℕ → ℕ) → AllByRecursion (λ n. named_bytes n ≡ cells (cell_at (named_by op) n)) (written_by (named op))
    → result_in (named op) named_bytes ≡ result_in op cells
result-cells (Set to k) x y all = all.0
result-cells (Copy to a) x y all = all.0
result-cells (Com to a) x y all = all.0
result-cells (Not to a) x y all = all.0
result-cells (Bits f to a b) x y all = all.0
result-cells (Sum f true to a b) x y all = let low = all.0 in let high = all.1.0 in cc
result-cells (Sum f false to a b) x y all = all.0
result-cells (Compare f wide to a b) x y all = all.0
result-cells (Logic f to a b) x y all = all.0
result-cells (Choose true to c a b) x y all = let low = all.0 in let high = all.1.0 in cc
result-cells (Choose false to c a b) x y all = all.0
result-cells (Shift side true n to a) x y all = let low = all.0 in let high = all.1.0 in cc
result-cells (Shift side false n to a) x y all = all.0
result-cells (Product f true to a b) x y all = let low = all.0 in let high = all.1.0 in cc
result-cells (Product f false to a b) x y all = all.0

-- Its bools and its value are those of its names, where these hold what its cells hold.
module _ (x y : ℕ → ℕ) where
  -- The names that an operation reads hold what its cells hold.
  abbrev pub Agree : Op → Type 0
  Agree op = AllByRecursion (λ n. x n ≡ y (cell_at (named_by op) n)) (read_by (named op))

  pub bools-cells : (op : Op) → Agree op → HasBools op y → HasBools (named op) x
  bools-cells (Not to a) all h = let e = all.0 in omega (arith, e, h)
  bools-cells (Logic f to a b) all h = let e = all.0 in let d = all.1.0 in let i = h.0 in let j = h.1 in (omega (arith, e, i), omega (arith, d, j))
  bools-cells (Choose true to c a b) all h = let e = all.0 in omega (arith, e, h)
  bools-cells (Choose false to c a b) all h = let e = all.0 in omega (arith, e, h)
  bools-cells _ all h = tt

  pub value-cells : (op : Op) → Agree op → value_of (named op) x ≡ value_of op y
  value-cells (Set to k) all = refl
  value-cells (Copy to a) all = all.0
  value-cells (Com to a) all = ap (unary_value unary.Com 256) all.0
  value-cells (Not to a) all = ap (unary_value unary.Not 2) all.0
  value-cells (Bits f to a b) all = both (binary_value f 256) all.0 all.1.0
  value-cells (Sum f true to a b) all = both (binary_value f 65536) (pair all.0 all.1.0) (pair all.1.1.0 all.1.1.1.0)
  value-cells (Sum f false to a b) all = both (binary_value f 256) all.0 all.1.0
  value-cells (Compare f true to a b) all = both (binary_value f 65536) (pair all.0 all.1.0) (pair all.1.1.0 all.1.1.1.0)
  value-cells (Compare f false to a b) all = both (binary_value f 256) all.0 all.1.0
  value-cells (Logic f to a b) all = both (binary_value f 2) all.0 all.1.0
  value-cells (Choose true to c a b) all =
      ap (λ n. if_value n (x 14 + 256 * x 15) (x 16 + 256 * x 17)) all.0 ∙ both (if_value (y c)) (pair all.1.0 all.1.1.0) (pair all.1.1.1.0 all.1.1.1.1.0)
  value-cells (Choose false to c a b) all = ap (λ n. if_value n (x 14) (x 16)) all.0 ∙ both (if_value (y c)) all.1.0 all.1.1.0
  value-cells (Shift side true n to a) all = ap (shift_value side n 65536) (pair all.0 all.1.0)
  value-cells (Shift side false n to a) all = ap (shift_value side n 256) all.0
  value-cells (Product f true to a b) all = both (binary_value f 65536) (pair all.0 all.1.0) (pair all.1.1.0 all.1.1.1.0)
  value-cells (Product f false to a b) all = both (binary_value f 256) all.0 all.1.0

-- Names that an operation reads are no operand bytes.
pub read_far : (op : Op) → AllByRecursion (λ n. is_operand n ≡ false) (read_by (named op))
read_far (Set to k) = tt
read_far (Copy to a) = (refl, tt)
read_far (Com to a) = (refl, tt)
read_far (Not to a) = (refl, tt)
read_far (Bits f to a b) = (refl, (refl, tt))
read_far (Sum f true to a b) = (refl, (refl, (refl, (refl, tt))))
read_far (Sum f false to a b) = (refl, (refl, tt))
read_far (Compare f true to a b) = (refl, (refl, (refl, (refl, tt))))
read_far (Compare f false to a b) = (refl, (refl, tt))
read_far (Logic f to a b) = (refl, (refl, tt))
read_far (Choose true to c a b) = (refl, (refl, (refl, (refl, (refl, tt)))))
read_far (Choose false to c a b) = (refl, (refl, (refl, tt)))
read_far (Shift side true n to a) = (refl, (refl, tt))
read_far (Shift side false n to a) = (refl, tt)
read_far (Product f true to a b) = (refl, (refl, (refl, (refl, tt))))
read_far (Product f false to a b) = (refl, (refl, tt))

pub read_used : (op : Op) (n : ℕ) → is_one_of (read_by (named op)) n ≡ true → uses op n ≡ true
read_used op n one =
    or_right (is_operand n) (is_one_of (cells_of_op (named op)) n)
    (any-append (λ m. m == n) (read_by (named op)) (written_by (named op)) ∙ ap (λ b. b || is_one_of (written_by (named op)) n) one)
