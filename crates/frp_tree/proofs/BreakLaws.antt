-- A list of tokens that has a tree within the limits breaks off nowhere, and one that breaks off does so at one place, for one
-- cause.
use Rattle.std.proofs.Common.{◌≡◌, ℕ, ◌+◌, ◌<◌, ◌≤◌, cond, List, [], ◌∷◌, ◌++◌, length, take, drop, sym, ap, subst, ◌∙◌, arith, inl, inr}
use Rattle.std.specs.List.{AllByRecursion}
use Rattle.std.proofs.lemmas.Bool.{cases_lt}
use Rattle.std.proofs.lemmas.List.Sums.{sum_by-append}
use Rattle.std.proofs.lemmas.List.{append-nil, append_assoc, length-append, length-map, length-take-le, take-map, take-append-drop, take-append-le, take_all, same_from_push}
use Rattle.frp_tree.specs.declared.kinds.Kind.{Kind}
use Rattle.frp_tree.specs.declared.limits.TheConstants.{DEEPEST_NESTING, MOST_ENTRIES_OF_A_TABLE}
use Rattle.frp_tree.specs.declared.tokens.Token.{Token}
use Rattle.frp_tree.specs.Tree.{ProgramTree}
use Rattle.frp_tree.specs.Limits.{most}
use Rattle.frp_tree.specs.Cells.{Cell, tokens_of, is_of, count_of, IsWithinLimits}
use Rattle.frp_tree.specs.Grammar.{SpellsProgram, HasTreeWithin}
use Rattle.frp_tree.specs.Breaks.{Begins, IsViable, IsViableWithin, IsUnexpected, IsFirstPast, IsTooDeep, IsOneTooMany, in_program, in_table, IsTooMany}
use Rattle.frp_tree.proofs.MarkLaws.{one_marking}

-- Prefixes.

pub begins_front : (u v : List Cell) → Begins (u ++ v) → Begins u
begins_front u v b = record { program = b.program; ahead = v ++ b.ahead; spelled = subst (SpellsProgram b.program) (append_assoc u v b.ahead) b.spelled }

pub begins_take : (n : ℕ) (u : List Cell) → Begins u → Begins (take n u)
begins_take n u b = begins_front (take n u) (drop n u) (subst Begins (sym (take-append-drop n u)) b)

pub take_take : (m n : ℕ) (ts : List Token) → m ≤ n → n ≤ length ts → take m (take n ts) ≡ take m ts
take_take m n ts h k =
    sym (take-append-le m (take n ts) (drop n ts) (omega (arith, length-take-le n ts k))) ∙ ap (take m) (take-append-drop n ts)

length_front : (u : List Cell) (n : ℕ) (ts : List Token) → n ≤ length ts → tokens_of u ≡ take n ts → length u ≡ n
length_front u n ts h e = sym (length-map u (λ (c : Cell). c.token)) ∙ ap length e ∙ length-take-le n ts h

-- Cells of a shorter prefix of the tokens are a prefix of those of a longer one.
pub front_of : (ts : List Token) (u v : List Cell) (m n : ℕ) → Begins u → Begins v → m ≤ n → n ≤ length ts → tokens_of u ≡ take m ts → tokens_of v ≡ take n ts → u ≡ take m v
front_of ts u v m n a b h k p q =
    one_marking u (take m v) a (begins_take m v b) (p ∙ sym (take_take m n ts h k) ∙ ap (take m) (sym q) ∙ take-map (λ (c : Cell). c.token) m v)

-- What a token that is past a limit does to cells.

all_behind : (P : Cell → Type 0) (u v : List Cell) → AllByRecursion P (u ++ v) → AllByRecursion P v
all_behind P [] v h = h
all_behind P (c ∷ u) v h = all_behind P u v h.1

pub all_front : (P : Cell → Type 0) (u v : List Cell) → AllByRecursion P (u ++ v) → AllByRecursion P u
all_front P [] v h = tt
all_front P (c ∷ u) v h = (h.0, all_front P u v h.1)

pub all_at : (P : Cell → Type 0) (u v : List Cell) (c : Cell) → AllByRecursion P (u ++ c ∷ v) → P c
all_at P u v c h = (all_behind P u (c ∷ v) h).0

pub count_front : (kind : Kind) (u v : List Cell) → count_of kind u ≤ count_of kind (u ++ v)
count_front kind u v = omega (arith, sum_by-append (λ (c : Cell). cond (is_of kind c.begins) 1 0) u v)

-- The token is past a limit.
pub data Past (front : List Cell) (cell : Cell) : Type 0 where
  deep : DEEPEST_NESTING < cell.opens → Past front cell
  many : (kind : Kind) → IsOneTooMany kind front cell → Past front cell

pub past_out : (front rest : List Cell) (cell : Cell) → Past front cell → IsWithinLimits (front ++ cell ∷ rest) → ⊥
past_out front rest cell (deep h) w = let low : cell.opens ≤ DEEPEST_NESTING = all_at (λ c. c.opens ≤ DEEPEST_NESTING) front rest cell w.shallow in omega arith
past_out front rest cell (many kind (in_table h)) w = let low : cell.entry ≤ MOST_ENTRIES_OF_A_TABLE = all_at (λ c. c.entry ≤ MOST_ENTRIES_OF_A_TABLE) front rest cell w.short in omega arith
past_out front rest cell (many kind (in_program h)) w =
    let more : count_of kind (front ++ cell ∷ []) ≤ count_of kind (front ++ cell ∷ rest) = subst (λ cs. count_of kind (front ++ cell ∷ []) ≤ count_of kind cs) (append_assoc front (cell ∷ []) rest) (count_front kind (front ++ cell ∷ []) rest) in
    let few : count_of kind (front ++ cell ∷ rest) ≤ most kind = w.few kind in
    omega arith

-- A token past a limit stands within no cells that keep the limits and have its tokens.
pub past_within : (ts : List Token) (k n : ℕ) (v : List Cell) → (f : IsFirstPast ts k) → Past f.front f.cell → Begins v → IsWithinLimits v → tokens_of v ≡ take n ts → k < n → n ≤ length ts → ⊥
past_within ts k n v f p b w q h l =
    let front : f.front ++ f.cell ∷ [] ≡ take (k + 1) v = front_of ts (f.front ++ f.cell ∷ []) v (k + 1) n f.begins b (omega arith) l f.tokens q in
    let whole : f.front ++ f.cell ∷ drop (k + 1) v ≡ v = sym (append_assoc f.front (f.cell ∷ []) (drop (k + 1) v)) ∙ ap (λ cs. cs ++ drop (k + 1) v) front ∙ take-append-drop (k + 1) v in
    past_out f.front (drop (k + 1) v) f.cell p (subst IsWithinLimits (sym whole) w)

-- The pairs.

pub tree_not_past : (ts : List Token) (p : ProgramTree) (k : ℕ) → HasTreeWithin p ts → (f : IsFirstPast ts k) → Past f.front f.cell → ⊥
tree_not_past ts p k t f a =
    past_within ts k (length ts) t.cells f a (record { program = p; ahead = []; spelled = subst (SpellsProgram p) (sym (append-nil t.cells)) t.spelled }) t.within (t.tokens ∙ sym (take_all (length ts) ts (omega arith))) f.inside (omega arith)

pub tree_not_unexpected : (ts : List Token) (p : ProgramTree) (n : ℕ) → HasTreeWithin p ts → IsUnexpected ts n → ⊥
tree_not_unexpected ts p n t u = u.no_tree p (record { cells = t.cells; spelled = t.spelled; tokens = t.tokens })

viable : (ts : List Token) → IsViableWithin ts → IsViable ts
viable ts v = record { front = v.front; begins = v.begins; tokens = v.tokens }

pub unexpected_once : (ts : List Token) (m n : ℕ) → IsUnexpected ts m → IsUnexpected ts n → m ≡ n
unexpected_once ts m n a b = elim (cases_lt m n) [
  | inl h ↦ absurd (a.longest n h b.inside (viable (take n ts) b.viable))
  | inr h ↦ elim (cases_lt n m) [
    | inl k ↦ absurd (b.longest m k a.inside (viable (take m ts) a.viable))
    | inr k ↦ omega arith
  ]
]

pub unexpected_not_past : (ts : List Token) (n k : ℕ) → IsUnexpected ts n → (f : IsFirstPast ts k) → Past f.front f.cell → ⊥
unexpected_not_past ts n k u f p = elim (cases_lt k n) [
  | inl h ↦ past_within ts k n u.viable.front f p u.viable.begins u.viable.within u.viable.tokens h u.inside
  | inr h ↦ let inside : k < length ts = f.inside in u.longest (k + 1) (omega arith) (omega arith) (record { front = f.front ++ f.cell ∷ []; begins = f.begins; tokens = f.tokens })
]

-- What stands before a token past a limit.
front_tokens : (ts : List Token) (k : ℕ) → (f : IsFirstPast ts k) → tokens_of f.front ≡ take k ts
front_tokens ts k f =
    let inside : k < length ts = f.inside in
    let long : length (f.front ++ f.cell ∷ []) ≡ k + 1 = length_front (f.front ++ f.cell ∷ []) (k + 1) ts (omega arith) f.tokens in
    let short : length f.front ≡ k = omega (arith, length-append f.front (f.cell ∷ [])) in
    let fore : take k (f.front ++ f.cell ∷ []) ≡ f.front = take-append-le k f.front (f.cell ∷ []) (omega arith) ∙ take_all k f.front (omega arith) in
    ap tokens_of (sym fore) ∙ sym (take-map (λ (c : Cell). c.token) k (f.front ++ f.cell ∷ [])) ∙ ap (take k) f.tokens ∙ take_take k (k + 1) ts (omega arith) (omega arith)

-- Two tokens past limits are the same one.
not_before : (ts : List Token) (k j : ℕ) → (f : IsFirstPast ts k) → Past f.front f.cell → (g : IsFirstPast ts j) → k < j → ⊥
not_before ts k j f p g h =
    let inside : j < length ts = g.inside in
    past_within ts k j g.front f p (begins_front g.front (g.cell ∷ []) g.begins) g.within (front_tokens ts j g) h (omega arith)

pub past_once : (ts : List Token) (k j : ℕ) → (f : IsFirstPast ts k) → (g : IsFirstPast ts j) → Past f.front f.cell → Past g.front g.cell → (k ≡ j) × (f.cell ≡ g.cell)
past_once ts k j f g p q = elim (cases_lt k j) [
  | inl h ↦ absurd (not_before ts k j f p g h)
  | inr h ↦ elim (cases_lt j k) [
    | inl i ↦ absurd (not_before ts j k g q f i)
    | inr i ↦
        let same : k ≡ j = omega arith in
        let cells : f.front ++ f.cell ∷ [] ≡ g.front ++ g.cell ∷ [] = one_marking (f.front ++ f.cell ∷ []) (g.front ++ g.cell ∷ []) f.begins g.begins (f.tokens ∙ ap (λ n. take (n + 1) ts) same ∙ sym g.tokens) in
        let (fronts, lasts) = same_from_push f.front g.front f.cell g.cell cells in
        (same, lasts)
  ]
]

pub deep_once : (ts : List Token) (k j : ℕ) → IsTooDeep ts k → IsTooDeep ts j → k ≡ j
deep_once ts k j a b = let both = past_once ts k j a.first b.first (deep a.deep) (deep b.deep) in both.0

pub many_once : (ts : List Token) (k j : Kind) → IsTooMany ts k → IsTooMany ts j → k ≡ j
many_once ts k j a b =
    let both = past_once ts a.n b.n a.first b.first (many k a.many) (many j b.many) in
    let same : a.first.cell ≡ b.first.cell = both.1 in
    cc (a.begun, b.begun)

pub deep_not_many : (ts : List Token) (k : ℕ) (kind : Kind) → IsTooDeep ts k → IsTooMany ts kind → ⊥
deep_not_many ts k kind a b =
    let both = past_once ts k b.n a.first b.first (deep a.deep) (many kind b.many) in
    let low : a.first.cell.opens ≤ DEEPEST_NESTING = subst (λ c. c.opens ≤ DEEPEST_NESTING) (sym both.1) b.shallow in
    let high : DEEPEST_NESTING < a.first.cell.opens = a.deep in
    omega arith
