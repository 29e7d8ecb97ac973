-- What a reader of tokens answers: the one phrase with which the tokens begin, or where they stop to begin one.
use Rattle.std.specs.Prelude.{◌≡◌, ℕ, ◌<◌, ◌≤◌, List, [], ◌∷◌, ◌++◌, length, map, Option, Some, None, Result, Ok, Err}
use Rattle.std.specs.List.{AllByRecursion}
use Rattle.std.specs.Borrow.{Bor}
use Rattle.frp_tree.specs.declared.limits.TheConstants.{DEEPEST_NESTING}
use Rattle.frp_tree.specs.declared.tokens.Token.{Token}
use Rattle.frp_tree.specs.Cells.{Cell, tokens_of}
use Rattle.efrp_syntax.specs.declared.begun.Begun.{Begun}
use Rattle.efrp_syntax.specs.declared.begun.Stop.{Stop}
use Rattle.efrp_syntax.specs.declared.begun.Stop.TheVariants.{Unexpected, TooDeep, Memory}

-- The next token.
abbrev pub head : List Token → Option Token
head [] = None
head (t ∷ ts) = Some t

-- What a cell's token begins; and the cell of a token that opens nothing and begins this.
abbrev pub begun : Cell → Begun
begun c = record { kind = c.begins; entry = c.entry }

abbrev pub noted : Begun → Token → Cell
noted note t = record { token = t; opens = 0; begins = note.kind; entry = note.entry }

-- The cell of a token that opens a nesting.
abbrev pub opened : Begun → ℕ → Token → Cell
opened note nesting t = record { token = t; opens = nesting; begins = note.kind; entry = note.entry }

abbrev pub IsShallow : List Cell → Type 0
IsShallow cells = AllByRecursion (λ (c : Cell). c.opens ≤ DEEPEST_NESTING) cells

-- The tokens begin with the cells `used` of a phrase of kind G, here e, and the rest follows. Wherever these cells and the
-- next token stand, no other phrase stands there that may end where it ends, as S says of what follows it. What the cells
-- begin is noted behind what was noted before.
pub record Found {A : Type 0} (G : A → List Cell → Type 0) (S : List Token → Type 0) (ts : List Token) (e : A) (rest : List Token) (before after : List Begun) : Type 0 where
  pub used : List Cell
  pub split : ts ≡ tokens_of used ++ rest
  pub spelled : G e used
  pub shallow : IsShallow used
  pub noted : after ≡ before ++ map begun used
  pub only : (other : A) (w : List Cell) (c more : List Token) → G other w → S c → head more ≡ head rest → tokens_of w ++ c ≡ tokens_of used ++ more → (other ≡ e) × (w ≡ used)

-- Readers stop at a token that is odd: no phrase goes on with it; or at one that opens a nesting that is too deep.
pub data Why : Type 0 where
  Odd : Why
  Deep : Why

-- The cell at a place opens a nesting that is too deep.
pub record IsDeepAt (place : ℕ) (w : List Cell) : Type 0 where
  pub before : List Cell
  pub cell : Cell
  pub after : List Cell
  pub whole : w ≡ before ++ cell ∷ after
  pub «at» : length before ≡ place
  pub deep : DEEPEST_NESTING < cell.opens

-- These cells begin with one of the next token, which opens a nesting that is too deep.
pub record IsDeepNext (tail : List Token) (ahead : List Cell) : Type 0 where
  pub cell : Cell
  pub after : List Cell
  pub whole : ahead ≡ cell ∷ after
  pub token : head tail ≡ Some cell.token
  pub deep : DEEPEST_NESTING < cell.opens

abbrev pub Next : Why → List Token → List Cell → Type 0
Next Odd tail ahead = Unit {0}
Next Deep tail ahead = IsDeepNext tail ahead

-- What is wrong with every phrase that has these tokens up to the place and the next one.
abbrev pub Bad : Why → ℕ → List Cell → Type 0
Bad Odd place w = ⊥
Bad Deep place w = IsDeepAt place w

-- The tokens begin with the cells `used`, with which some phrase begins, and n tokens are left. No phrase goes on with the
-- next token, or each that does is too deep there.
pub record Stuck (why : Why) {A : Type 0} (G : A → List Cell → Type 0) (S : List Token → Type 0) (ts : List Token) (n : ℕ) (before after : List Begun) : Type 0 where
  pub used : List Cell
  pub tail : List Token
  pub split : ts ≡ tokens_of used ++ tail
  pub left : length tail ≡ n
  pub shallow : IsShallow used
  pub noted : after ≡ before ++ map begun used
  pub example : A
  pub ahead : List Cell
  pub viable : G example (used ++ ahead)
  pub next : Next why tail ahead
  pub dead : (e : A) (w : List Cell) (c more : List Token) → G e w → S c → head more ≡ head tail → tokens_of w ++ c ≡ tokens_of used ++ more → Bad why (length used) w

-- The stop of a reader, and its answer; `view` is the phrase that stands in memory.
pub data Fails {A : Type 0} (G : A → List Cell → Type 0) (S : List Token → Type 0) (ts : List Token) (before after : List Begun) : Stop → Type 0 where
  odd : {n : ℕ} → Stuck Odd G S ts n before after → Fails G S ts before after (Unexpected n)
  deep : {n : ℕ} → Stuck Deep G S ts n before after → Fails G S ts before after (TooDeep n)
  memory : Fails G S ts before after Memory

abbrev pub Answers : {A T : Type 0} → (A → List Cell → Type 0) → (List Token → Type 0) → (T → A) → List Token → List Begun → List Begun → Result (T × Bor (List Token)) Stop → Type 0
Answers G S view ts before after (Ok found) = Found G S ts (view found.0) found.1.now before after
Answers G S view ts before after (Err stop) = Fails G S ts before after stop

-- The answer of a reader that gives the rest alone.
abbrev pub Passes : (Unit {0} → List Cell → Type 0) → (List Token → Type 0) → List Token → List Begun → List Begun → Result (Bor (List Token)) Stop → Type 0
Passes G S ts before after (Ok rest) = Found G S ts tt rest.now before after
Passes G S ts before after (Err stop) = Fails G S ts before after stop

-- Whatever follows.
abbrev pub Anything : List Token → Type 0
Anything c = Unit {0}

-- The kinds of phrases. One token, which tells a value; and a token that tells none.
pub record One {A : Type 0} (cell : A → Cell) (Is : A → Type 0) (e : A) (w : List Cell) : Type 0 where
  pub is : Is e
  pub whole : w ≡ cell e ∷ []

abbrev pub Tok : Cell → Unit {0} → List Cell → Type 0
Tok cell = One (λ (u : Unit {0}). cell) (λ (u : Unit {0}). Unit {0})

-- Nothing more, with this value.
pub record Done {A : Type 0} (x : A) (e : A) (w : List Cell) : Type 0 where
  pub value : e ≡ x
  pub whole : w ≡ []

-- One phrase and then one that may depend on it.
pub record Seq {A B : Type 0} (G : A → List Cell → Type 0) (K : A → B → List Cell → Type 0) (e : B) (w : List Cell) : Type 0 where
  pub first : A
  pub front : List Cell
  pub back : List Cell
  pub spelled : G first front
  pub then_spelled : K first e back
  pub whole : w ≡ front ++ back

-- Some phrase of a kind.
pub record Example {A : Type 0} (G : A → List Cell → Type 0) : Type 0 where
  pub value : A
  pub cells : List Cell
  pub spelled : G value cells

-- What may follow the second phrase, with it may follow the first; and after each first phrase there is a second one.
pub record Fits {A B : Type 0} (G : A → List Cell → Type 0) (S : List Token → Type 0) (K : A → B → List Cell → Type 0) (T : List Token → Type 0) : Type 0 where
  pub follows : (a : A) (e : B) (v : List Cell) (c : List Token) → K a e v → T c → S (tokens_of v ++ c)
  pub goes_on : (a : A) → Example (K a)

-- At tokens with this next one the phrases of kind H are those of kind G.
pub record Like {A : Type 0} (G : A → List Cell → Type 0) (S : List Token → Type 0) (H : A → List Cell → Type 0) (T : List Token → Type 0) (ts : List Token) : Type 0 where
  pub into : (e : A) (w : List Cell) → G e w → H e w
  pub from : (e : A) (w : List Cell) (c : List Token) → H e w → T c → head (tokens_of w ++ c) ≡ head ts → G e w
  pub stops : (c : List Token) → T c → S c
