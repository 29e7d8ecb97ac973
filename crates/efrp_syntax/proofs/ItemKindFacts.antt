-- How phrases of several parts are taken apart and put together, and rows of things.
use Rattle.std.proofs.Common.{◌≡◌, ◌<◌, List, [], ◌∷◌, ◌++◌, length, Option, None, Result, refl, sym, ap, subst, ◌∙◌, arith}
use Rattle.std.specs.Borrow.{Bor}
use Rattle.std.specs.Result.{IsErrAnd}
use Rattle.std.proofs.lemmas.Result.{err_from_is_err_and}
use Rattle.std.proofs.lemmas.List.{append-nil, append_assoc, length-append}
use Rattle.frp_tree.specs.declared.tokens.Token.{Token}
use Rattle.frp_tree.specs.Cells.{Cell, tokens_of}
use Rattle.frp_tree.specs.Grammar.{Row, none, next}
use Rattle.efrp_syntax.specs.declared.begun.Begun.{Begun}
use Rattle.efrp_syntax.specs.declared.begun.Stop.{Stop}
use Rattle.efrp_syntax.specs.Answers.{Answers, head, Found, Fails, Anything, One, Tok, Done, Seq, Example, Fits, Like}
use Rattle.efrp_syntax.specs.Items.{Ends}
use Rattle.efrp_syntax.proofs.PhraseLaws.{map_append, found_done, found_like, found_next, fails_like, fails_first, fails_next}

-- An exit of a reader.
pub exits : {A T : Type 0} (G : A → List Cell → Type 0) (S : List Token → Type 0) (view : T → A) (ts : List Token) (before after : List Begun) (result : Result (T × Bor (List Token)) Stop) (stop : Stop)
    → IsErrAnd result (λ s. s ≡ stop) → Fails G S ts before after stop → Answers G S view ts before after result
exits G S view ts before after result stop h f = let p = err_from_is_err_and result h in rw (p.1, p.2) f

-- Some phrase of a kind.

pub some_one : {A : Type 0} (cell : A → Cell) (Is : A → Type 0) (x : A) → Is x → Example (One cell Is)
some_one cell Is x i = record { value = x; cells = cell x ∷ []; spelled = record { is = i; whole = refl } }

pub some_tok : (cell : Cell) → Example (Tok cell)
some_tok cell = some_one (λ u. cell) (λ u. Unit {0}) tt tt

pub some_done : {A : Type 0} (x : A) → Example (Done x)
some_done x = record { value = x; cells = []; spelled = record { value = refl; whole = refl } }

pub some_seq : {A B : Type 0} {G : A → List Cell → Type 0} {K : A → B → List Cell → Type 0} → Example G → ((a : A) → Example (K a)) → Example (Seq G K)
some_seq x f = let y = f x.value in record { value = y.value; cells = x.cells ++ y.cells; spelled = record { first = x.value; front = x.cells; back = y.cells; spelled = x.spelled; then_spelled = y.spelled; whole = refl } }

pub some_row : {A : Type 0} (Item : A → List Cell → Type 0) → Example (Row Item)
some_row Item = record { value = []; cells = []; spelled = none }

-- What may follow a phrase that ends by itself.
pub fits_any : {A B : Type 0} {G : A → List Cell → Type 0} {K : A → B → List Cell → Type 0} {T : List Token → Type 0} → ((a : A) → Example (K a)) → Fits G Anything K T
fits_any f = record { follows = λ a e v c k t. tt; goes_on = f }

-- One token, and then a phrase.

pub record Opened {A B : Type 0} (cell : A → Cell) (Is : A → Type 0) (K : A → B → List Cell → Type 0) (e : B) (w : List Cell) : Type 0 where
  pub value : A
  pub rest : List Cell
  pub is : Is value
  pub spelled : K value e rest
  pub whole : w ≡ cell value ∷ rest

pub opened : {A B : Type 0} {cell : A → Cell} {Is : A → Type 0} {K : A → B → List Cell → Type 0} {e : B} {w : List Cell} → Seq (One cell Is) K e w → Opened cell Is K e w
opened s = record { value = s.first; rest = s.back; is = s.spelled.is; spelled = s.then_spelled; whole = s.whole ∙ ap (λ cs. cs ++ s.back) s.spelled.whole }

pub opening : {A B : Type 0} {cell : A → Cell} {Is : A → Type 0} {K : A → B → List Cell → Type 0} {e : B} {v : List Cell} (x : A) → Is x → K x e v → Seq (One cell Is) K e (cell x ∷ v)
opening {cell = cell} {v = v} x i k = record { first = x; front = cell x ∷ []; back = v; spelled = record { is = i; whole = refl }; then_spelled = k; whole = refl }

pub closing : {A : Type 0} (x : A) → Done x x []
closing x = record { value = refl; whole = refl }

-- Rows: things of a row begin with a token that no other thing begins with.

-- The things of a row behind some that stand before.
pub record From {A : Type 0} (Item : A → List Cell → Type 0) (front : List A) (xs : List A) (w : List Cell) : Type 0 where
  pub more : List A
  pub whole : xs ≡ front ++ more
  pub spelled : Row Item more w

-- Each thing begins so.
abbrev pub AllBegin : {A : Type 0} → (A → List Cell → Type 0) → (Option Token → Type 0) → Type 0
AllBegin {A} Item P = (x : A) (w : List Cell) (c : List Token) → Item x w → P (head (tokens_of w ++ c))

pub tokens_then : (u v : List Cell) (c : List Token) → tokens_of (u ++ v) ++ c ≡ tokens_of u ++ (tokens_of v ++ c)
tokens_then u v c = ap (λ ts. ts ++ c) (map_append (λ (x : Cell). x.token) u v) ∙ append_assoc (tokens_of u) (tokens_of v) c

-- A row with which the tokens begin is empty where they don't begin so.
row_empty : {A : Type 0} {Item : A → List Cell → Type 0} {xs : List A} {w : List Cell} (P : Option Token → Type 0) (c : List Token) → AllBegin Item P → Row Item xs w → (P (head (tokens_of w ++ c)) → ⊥) → (xs ≡ []) × (w ≡ [])
row_empty P c b none h = (refl, refl)
row_empty P c b (next {x = x} first rest i r) h = absurd (h (subst (λ ts. P (head ts)) (sym (tokens_then first rest c)) (b x first (tokens_of rest ++ c) i)))

-- And isn't where they do.
pub like_next : {A : Type 0} {Item : A → List Cell → Type 0} {ts : List Token} (P : Option Token → Type 0) (front : List A) → P (head ts) → Like (Seq Item (λ x. From Item (front ++ x ∷ []))) (Ends P) (From Item front) (Ends P) ts
like_next {A = A} {Item = Item} {ts = ts} P front here = record { into = into; from = from; stops = λ c t. t }
  where
    into : (e : List A) (w : List Cell) → Seq Item (λ x. From Item (front ++ x ∷ [])) e w → From Item front e w
    into e w s = record {
      more = s.first ∷ s.then_spelled.more;
      whole = s.then_spelled.whole ∙ append_assoc front (s.first ∷ []) s.then_spelled.more;
      spelled = subst (Row Item (s.first ∷ s.then_spelled.more)) (sym s.whole) (next s.front s.back s.spelled s.then_spelled.spelled);
    }

    go : (e more : List A) (w : List Cell) (c : List Token) → e ≡ front ++ more → Row Item more w → Ends P c → head (tokens_of w ++ c) ≡ head ts → Seq Item (λ x. From Item (front ++ x ∷ [])) e w
    go e more w c q none t h = absurd (t (subst P (sym h) here))
    go e more w c q (next {x = x} {xs = xs} first rest i r) t h = record {
      first = x;
      front = first;
      back = rest;
      spelled = i;
      then_spelled = record { more = xs; whole = q ∙ sym (append_assoc front (x ∷ []) xs); spelled = r };
      whole = refl;
    }

    from : (e : List A) (w : List Cell) (c : List Token) → From Item front e w → Ends P c → head (tokens_of w ++ c) ≡ head ts → Seq Item (λ x. From Item (front ++ x ∷ [])) e w
    from e w c s t h = go e s.more w c s.whole s.spelled t h

like_done : {A : Type 0} {Item : A → List Cell → Type 0} {ts : List Token} (P : Option Token → Type 0) (front : List A) → AllBegin Item P → (P (head ts) → ⊥) → Like (Done front) (Ends P) (From Item front) (Ends P) ts
like_done {A = A} {Item = Item} {ts = ts} P front b here = record {
  into = λ e w d. record { more = []; whole = d.value ∙ sym (append-nil front); spelled = subst (Row Item []) (sym d.whole) none };
  from = λ e w c s t h.
      let empty = row_empty P c b s.spelled (λ p. here (subst P h p)) in
      record { value = s.whole ∙ ap (λ xs. front ++ xs) empty.0 ∙ append-nil front; whole = empty.1 };
  stops = λ c t. t;
}

like_start : {A : Type 0} {Item : A → List Cell → Type 0} {ts : List Token} (S : List Token → Type 0) → Like (From Item []) S (Row Item) S ts
like_start {Item = Item} S = record {
  into = λ e w s. subst (λ xs. Row Item xs w) (sym s.whole) s.spelled;
  from = λ e w c s t h. record { more = e; whole = refl; spelled = s };
  stops = λ c t. t;
}

-- How far a row has been read: what comes of the rest comes of the whole.
pub record HasRead {A : Type 0} (Item : A → List Cell → Type 0) (P : Option Token → Type 0) (ts rest : List Token) (before mid : List Begun) (found : List A) : Type 0 where
  pub failing : (stop : Stop) (after : List Begun) → Fails (From Item found) (Ends P) rest mid after stop → Fails (Row Item) (Ends P) ts before after stop
  pub finding : (xs : List A) (more : List Token) (after : List Begun) → Found (From Item found) (Ends P) rest xs more mid after → Found (Row Item) (Ends P) ts xs more before after

pub read_start : {A : Type 0} (Item : A → List Cell → Type 0) (P : Option Token → Type 0) (ts : List Token) (before : List Begun) → HasRead Item P ts ts before before []
read_start Item P ts before = record {
  failing = λ stop after f. fails_like (like_start (Ends P)) f;
  finding = λ xs more after f. found_like (like_start (Ends P)) f;
}

fits_more : {A : Type 0} {Item : A → List Cell → Type 0} {T : List Token → Type 0} (front : List A) → Fits Item Anything (λ x. From Item (front ++ x ∷ [])) T
fits_more front = fits_any (λ x. record { value = front ++ x ∷ []; cells = []; spelled = record { more = []; whole = sym (append-nil (front ++ x ∷ [])); spelled = none } })

pub read_next : {A : Type 0} {Item : A → List Cell → Type 0} {P : Option Token → Type 0} {ts rest more : List Token} {before mid last : List Begun} {found : List A} (x : A)
    → HasRead Item P ts rest before mid found → P (head rest) → Found Item Anything rest x more mid last → HasRead Item P ts more before last (found ++ x ∷ [])
read_next {P = P} {found = found} x h p f = record {
  failing = λ stop after g. h.failing stop after (fails_like (like_next P found p) (fails_next (fits_more found) f g));
  finding = λ xs rest after g. h.finding xs rest after (found_like (like_next P found p) (found_next (fits_more found) f g));
}

pub read_stop : {A : Type 0} {Item : A → List Cell → Type 0} {P : Option Token → Type 0} {ts rest : List Token} {before mid after : List Begun} {found : List A} (stop : Stop)
    → HasRead Item P ts rest before mid found → P (head rest) → Fails Item Anything rest mid after stop → Fails (Row Item) (Ends P) ts before after stop
read_stop {P = P} {after = after} {found = found} stop h p f = h.failing stop after (fails_like (like_next P found p) (fails_first (fits_more found) f))

pub read_all : {A : Type 0} {Item : A → List Cell → Type 0} {P : Option Token → Type 0} {ts rest : List Token} {before mid : List Begun} {found : List A}
    → AllBegin Item P → HasRead Item P ts rest before mid found → (P (head rest) → ⊥) → Found (Row Item) (Ends P) ts found rest before mid
read_all {P = P} {rest = rest} {mid = mid} {found = found} b h n = h.finding found rest mid (found_like (like_done P found b n) (found_done (Ends P) rest found mid))

-- A thing that is read leaves fewer tokens.
pub read_shorter : {A : Type 0} {Item : A → List Cell → Type 0} {S : List Token → Type 0} {ts rest : List Token} {e : A} {before after : List Begun} (P : Option Token → Type 0)
    → AllBegin Item P → (P None → ⊥) → Found Item S ts e rest before after → length rest < length ts
read_shorter {Item = Item} {ts = ts} {rest = rest} {e = e} P b n f = go f.used f.spelled f.split
  where
    go : (w : List Cell) → Item e w → ts ≡ tokens_of w ++ rest → length rest < length ts
    go [] i s = absurd (n (b e [] [] i))
    go (c ∷ w) i s = omega (arith, ap length s, length-append (tokens_of (c ∷ w)) rest)
