-- The laws on kinds of phrases: what comes of the parts of a phrase comes of the whole.
use Rattle.std.proofs.Common.{◌≡◌, ◌≢◌, ℕ, ◌+◌, ◌<◌, ◌≤◌, List, [], ◌∷◌, ◌++◌, length, map, Some, Result, Ok, Err, refl, sym, ap, subst, ◌∙◌, arith}
use Rattle.std.specs.Borrow.{Bor}
use Rattle.std.specs.Result.{IsErrAnd}
use Rattle.std.proofs.lemmas.Result.{err_from_is_err_and}
use Rattle.std.proofs.lemmas.List.{append-nil, append_assoc, length-append, append_cancel_left}
use Rattle.frp_tree.specs.declared.limits.TheConstants.{DEEPEST_NESTING}
use Rattle.frp_tree.specs.declared.tokens.Token.{Token}
use Rattle.frp_tree.specs.Cells.{Cell, tokens_of}
use Rattle.efrp_syntax.specs.declared.begun.Begun.{Begun}
use Rattle.efrp_syntax.specs.declared.begun.Stop.{Stop}
use Rattle.efrp_syntax.specs.declared.begun.Stop.TheVariants.{Unexpected, TooDeep, Memory}
use Rattle.efrp_syntax.specs.Answers.{Answers, Passes, head, begun, IsShallow, Found, Why, Odd, Deep, IsDeepAt, Next, Bad, Stuck, Fails, odd, deep, memory, One, Tok, Done, Seq, Fits, Like}

-- Lists of cells and of tokens.

pub map_append : {A B : Type 0} (f : A → B) (xs ys : List A) → map f (xs ++ ys) ≡ map f xs ++ map f ys
map_append f [] ys = refl
map_append f (x ∷ xs) ys = ap (λ zs. f x ∷ zs) (map_append f xs ys)

pub tokens_append : (xs ys : List Cell) (rest : List Token) → tokens_of (xs ++ ys) ++ rest ≡ tokens_of xs ++ (tokens_of ys ++ rest)
tokens_append xs ys rest = ap (λ ts. ts ++ rest) (map_append (λ (c : Cell). c.token) xs ys) ∙ append_assoc (tokens_of xs) (tokens_of ys) rest

pub shallow_append : (xs ys : List Cell) → IsShallow xs → IsShallow ys → IsShallow (xs ++ ys)
shallow_append [] ys h k = k
shallow_append (x ∷ xs) ys h k = (h.0, shallow_append xs ys h.1 k)

pub head_append : (xs more rest : List Token) → head more ≡ head rest → head (xs ++ more) ≡ head (xs ++ rest)
head_append [] more rest h = h
head_append (x ∷ xs) more rest h = refl

noted_append : (before mid after : List Begun) (xs ys : List Cell) → mid ≡ before ++ map begun xs → after ≡ mid ++ map begun ys → after ≡ before ++ map begun (xs ++ ys)
noted_append before mid after xs ys p q =
    q ∙ ap (λ bs. bs ++ map begun ys) p ∙ append_assoc before (map begun xs) (map begun ys) ∙ ap (λ bs. before ++ bs) (sym (map_append begun xs ys))

split_append : (ts rest more : List Token) (xs ys : List Cell) → ts ≡ tokens_of xs ++ rest → rest ≡ tokens_of ys ++ more → ts ≡ tokens_of (xs ++ ys) ++ more
split_append ts rest more xs ys p q = p ∙ ap (λ us. tokens_of xs ++ us) q ∙ sym (tokens_append xs ys more)

-- What is deep at a place of a part.

deep_behind : (place : ℕ) (w more : List Cell) → IsDeepAt place w → IsDeepAt place (w ++ more)
deep_behind place w more d = record {
  before = d.before;
  cell = d.cell;
  after = d.after ++ more;
  whole = ap (λ cs. cs ++ more) d.whole ∙ append_assoc d.before (d.cell ∷ d.after) more;
  «at» = d.at;
  deep = d.deep;
}

deep_before : (place : ℕ) (front w : List Cell) → IsDeepAt place w → IsDeepAt (length front + place) (front ++ w)
deep_before place front w d = record {
  before = front ++ d.before;
  cell = d.cell;
  after = d.after;
  whole = ap (λ cs. front ++ cs) d.whole ∙ sym (append_assoc front d.before (d.cell ∷ d.after));
  «at» = length-append front d.before ∙ ap (λ n. length front + n) d.at;
  deep = d.deep;
}

bad_behind : (why : Why) (place : ℕ) (w more : List Cell) → Bad why place w → Bad why place (w ++ more)
bad_behind Odd place w more b = b
bad_behind Deep place w more b = deep_behind place w more b

bad_before : (why : Why) (place : ℕ) (front w : List Cell) → Bad why place w → Bad why (length front + place) (front ++ w)
bad_before Odd place front w b = b
bad_before Deep place front w b = deep_before place front w b

next_append : (why : Why) (tail : List Token) (ahead more : List Cell) → Next why tail ahead → Next why tail (ahead ++ more)
next_append Odd tail ahead more n = tt
next_append Deep tail ahead more n = record { cell = n.cell; after = n.after ++ more; whole = ap (λ cs. cs ++ more) n.whole; token = n.token; deep = n.deep }

-- One phrase and then one that may depend on it.

pub found_next : {A B : Type 0} {G : A → List Cell → Type 0} {S T : List Token → Type 0} {K : A → B → List Cell → Type 0} {ts rest rest' : List Token} {a : A} {e : B} {before mid after : List Begun}
    → Fits G S K T → Found G S ts a rest before mid → Found (K a) T rest e rest' mid after → Found (Seq G K) T ts e rest' before after
found_next {A = A} {B = B} {G = G} {S = S} {T = T} {K = K} {ts = ts} {rest = rest} {rest' = rest'} {a = a} {e = e} {before = before} {mid = mid} {after = after} fits f g = record {
  used = f.used ++ g.used;
  split = split_append ts rest rest' f.used g.used f.split g.split;
  spelled = record { first = a; front = f.used; back = g.used; spelled = f.spelled; then_spelled = g.spelled; whole = refl };
  shallow = shallow_append f.used g.used f.shallow g.shallow;
  noted = noted_append before mid after f.used g.used f.noted g.noted;
  only = only;
}
  where
    only : (other : B) (w : List Cell) (c more : List Token) → Seq G K other w → T c → head more ≡ head rest' → tokens_of w ++ c ≡ tokens_of (f.used ++ g.used) ++ more → (other ≡ e) × (w ≡ f.used ++ g.used)
    only other w c more s t h p =
        let whole : tokens_of s.front ++ (tokens_of s.back ++ c) ≡ tokens_of f.used ++ (tokens_of g.used ++ more) = sym (tokens_append s.front s.back c) ∙ ap (λ cs. tokens_of cs ++ c) (sym s.whole) ∙ p ∙ tokens_append f.used g.used more in
        let next : head (tokens_of g.used ++ more) ≡ head rest = head_append (tokens_of g.used) more rest' h ∙ ap head (sym g.split) in
        let one = f.only s.first s.front (tokens_of s.back ++ c) (tokens_of g.used ++ more) s.spelled (fits.follows s.first other s.back c s.then_spelled t) next whole in
        let behind : tokens_of s.back ++ c ≡ tokens_of g.used ++ more = append_cancel_left (tokens_of f.used) (tokens_of s.back ++ c) (tokens_of g.used ++ more) (ap (λ cs. tokens_of cs ++ (tokens_of s.back ++ c)) (sym one.1) ∙ whole) in
        let two = g.only other s.back c more (subst (λ x. K x other s.back) one.0 s.then_spelled) t h behind in
        (two.0, s.whole ∙ ap (λ cs. cs ++ s.back) one.1 ∙ ap (λ cs. f.used ++ cs) two.1)

-- A phrase of two parts.
pub seq : {A B : Type 0} {G : A → List Cell → Type 0} {K : A → B → List Cell → Type 0} {e : B} (a : A) (us vs : List Cell) → G a us → K a e vs → Seq G K e (us ++ vs)
seq a us vs s t = record { first = a; front = us; back = vs; spelled = s; then_spelled = t; whole = refl }

-- A stop of one phrase, told of another: with an example of the other, and why none of it goes on.
stuck_as : {why : Why} {A B : Type 0} {G : A → List Cell → Type 0} {H : B → List Cell → Type 0} {S T : List Token → Type 0} {ts : List Token} {n : ℕ} {before after : List Begun}
    → (f : Stuck why G S ts n before after) (x : B) (cells : List Cell) → H x (f.used ++ cells) → Next why f.tail cells
    → ((e : B) (w : List Cell) (c more : List Token) → H e w → T c → head more ≡ head f.tail → tokens_of w ++ c ≡ tokens_of f.used ++ more → Bad why (length f.used) w)
    → Stuck why H T ts n before after
stuck_as f x cells viable next dead = record { used = f.used; tail = f.tail; split = f.split; left = f.left; shallow = f.shallow; noted = f.noted; example = x; ahead = cells; viable = viable; next = next; dead = dead }

-- The first of two stops the two.
stuck_first : {why : Why} {A B : Type 0} {G : A → List Cell → Type 0} {S T : List Token → Type 0} {K : A → B → List Cell → Type 0} {ts : List Token} {n : ℕ} {before after : List Begun}
    → Fits G S K T → Stuck why G S ts n before after → Stuck why (Seq G K) T ts n before after
stuck_first {why = why} {A = A} {B = B} {G = G} {S = S} {T = T} {K = K} {ts = ts} fits f =
    let x = fits.goes_on f.example in
    stuck_as f x.value (f.ahead ++ x.cells)
    (record { first = f.example; front = f.used ++ f.ahead; back = x.cells; spelled = f.viable; then_spelled = x.spelled; whole = sym (append_assoc f.used f.ahead x.cells) })
    (next_append why f.tail f.ahead x.cells f.next) dead
  where
    dead : (e : B) (w : List Cell) (c more : List Token) → Seq G K e w → T c → head more ≡ head f.tail → tokens_of w ++ c ≡ tokens_of f.used ++ more → Bad why (length f.used) w
    dead e w c more s t h p =
        let bad = f.dead s.first s.front (tokens_of s.back ++ c) more s.spelled (fits.follows s.first e s.back c s.then_spelled t) h (sym (tokens_append s.front s.back c) ∙ ap (λ cs. tokens_of cs ++ c) (sym s.whole) ∙ p) in
        subst (Bad why (length f.used)) (sym s.whole) (bad_behind why (length f.used) s.front s.back bad)

-- The second of two stops the two.
stuck_next : {why : Why} {A B : Type 0} {G : A → List Cell → Type 0} {S T : List Token → Type 0} {K : A → B → List Cell → Type 0} {ts rest : List Token} {a : A} {n : ℕ} {before mid after : List Begun}
    → Fits G S K T → Found G S ts a rest before mid → Stuck why (K a) T rest n mid after → Stuck why (Seq G K) T ts n before after
stuck_next {why = why} {A = A} {B = B} {G = G} {S = S} {T = T} {K = K} {ts = ts} {rest = rest} {a = a} {before = before} {mid = mid} {after = after} fits f g = record {
  used = f.used ++ g.used;
  tail = g.tail;
  split = split_append ts rest g.tail f.used g.used f.split g.split;
  left = g.left;
  shallow = shallow_append f.used g.used f.shallow g.shallow;
  noted = noted_append before mid after f.used g.used f.noted g.noted;
  example = g.example;
  ahead = g.ahead;
  viable = record { first = a; front = f.used; back = g.used ++ g.ahead; spelled = f.spelled; then_spelled = g.viable; whole = append_assoc f.used g.used g.ahead };
  next = g.next;
  dead = dead;
}
  where
    dead : (e : B) (w : List Cell) (c more : List Token) → Seq G K e w → T c → head more ≡ head g.tail → tokens_of w ++ c ≡ tokens_of (f.used ++ g.used) ++ more → Bad why (length (f.used ++ g.used)) w
    dead e w c more s t h p =
        let whole : tokens_of s.front ++ (tokens_of s.back ++ c) ≡ tokens_of f.used ++ (tokens_of g.used ++ more) = sym (tokens_append s.front s.back c) ∙ ap (λ cs. tokens_of cs ++ c) (sym s.whole) ∙ p ∙ tokens_append f.used g.used more in
        let next : head (tokens_of g.used ++ more) ≡ head rest = head_append (tokens_of g.used) more g.tail h ∙ ap head (sym g.split) in
        let one = f.only s.first s.front (tokens_of s.back ++ c) (tokens_of g.used ++ more) s.spelled (fits.follows s.first e s.back c s.then_spelled t) next whole in
        let behind : tokens_of s.back ++ c ≡ tokens_of g.used ++ more = append_cancel_left (tokens_of f.used) (tokens_of s.back ++ c) (tokens_of g.used ++ more) (ap (λ cs. tokens_of cs ++ (tokens_of s.back ++ c)) (sym one.1) ∙ whole) in
        let bad = g.dead e s.back c more (subst (λ x. K x e s.back) one.0 s.then_spelled) t h behind in
        let here : Bad why (length f.used + length g.used) (f.used ++ s.back) = bad_before why (length g.used) f.used s.back bad in
        subst (λ cs. Bad why (length (f.used ++ g.used)) cs) (sym (s.whole ∙ ap (λ cs. cs ++ s.back) one.1)) (subst (λ k. Bad why k (f.used ++ s.back)) (sym (length-append f.used g.used)) here)

pub fails_first : {A B : Type 0} {G : A → List Cell → Type 0} {S T : List Token → Type 0} {K : A → B → List Cell → Type 0} {ts : List Token} {before after : List Begun} {stop : Stop}
    → Fits G S K T → Fails G S ts before after stop → Fails (Seq G K) T ts before after stop
fails_first fits (odd s) = odd (stuck_first fits s)
fails_first fits (deep s) = deep (stuck_first fits s)
fails_first fits memory = memory

pub fails_next : {A B : Type 0} {G : A → List Cell → Type 0} {S T : List Token → Type 0} {K : A → B → List Cell → Type 0} {ts rest : List Token} {a : A} {before mid after : List Begun} {stop : Stop}
    → Fits G S K T → Found G S ts a rest before mid → Fails (K a) T rest mid after stop → Fails (Seq G K) T ts before after stop
fails_next fits f (odd s) = odd (stuck_next fits f s)
fails_next fits f (deep s) = deep (stuck_next fits f s)
fails_next fits f memory = memory

-- The next token chose the kind.

same_next : (ts rest more c : List Token) (w used : List Cell) → ts ≡ tokens_of used ++ rest → head more ≡ head rest → tokens_of w ++ c ≡ tokens_of used ++ more → head (tokens_of w ++ c) ≡ head ts
same_next ts rest more c w used p h q = ap head q ∙ head_append (tokens_of used) more rest h ∙ ap head (sym p)

pub found_like : {A : Type 0} {G H : A → List Cell → Type 0} {S T : List Token → Type 0} {ts rest : List Token} {e : A} {before after : List Begun}
    → Like G S H T ts → Found G S ts e rest before after → Found H T ts e rest before after
found_like {ts = ts} {rest = rest} like f = record {
  used = f.used;
  split = f.split;
  spelled = like.into _ f.used f.spelled;
  shallow = f.shallow;
  noted = f.noted;
  only = λ other w c more s t h p. f.only other w c more (like.from other w c s t (same_next ts rest more c w f.used f.split h p)) (like.stops c t) h p;
}

stuck_like : {why : Why} {A : Type 0} {G H : A → List Cell → Type 0} {S T : List Token → Type 0} {ts : List Token} {n : ℕ} {before after : List Begun}
    → Like G S H T ts → Stuck why G S ts n before after → Stuck why H T ts n before after
stuck_like {ts = ts} like f =
    stuck_as f f.example f.ahead (like.into f.example (f.used ++ f.ahead) f.viable) f.next (λ e w c more s t h p. f.dead e w c more (like.from e w c s t (same_next ts f.tail more c w f.used f.split h p)) (like.stops c t) h p)

pub fails_like : {A : Type 0} {G H : A → List Cell → Type 0} {S T : List Token → Type 0} {ts : List Token} {before after : List Begun} {stop : Stop}
    → Like G S H T ts → Fails G S ts before after stop → Fails H T ts before after stop
fails_like like (odd s) = odd (stuck_like like s)
fails_like like (deep s) = deep (stuck_like like s)
fails_like like memory = memory

-- Nothing more.
pub found_done : {A : Type 0} (S : List Token → Type 0) (ts : List Token) (x : A) (before : List Begun) → Found (Done x) S ts x ts before before
found_done S ts x before = record {
  used = [];
  split = refl;
  spelled = record { value = refl; whole = refl };
  shallow = tt;
  noted = sym (append-nil before);
  only = λ other w c more d s h p. (d.value, d.whole);
}

-- One token.

some_injective : {A : Type 0} {x y : A} → Some x ≡ Some y → x ≡ y
some_injective e = cc

pub found_one : {A : Type 0} (cell : A → Cell) (Is : A → Type 0) (S : List Token → Type 0) (ts rest : List Token) (e : A) (before after : List Begun)
    → ts ≡ (cell e).token ∷ rest → Is e → (cell e).opens ≤ DEEPEST_NESTING → after ≡ before ++ begun (cell e) ∷ []
    → ((other : A) → Is other → (cell other).token ≡ (cell e).token → other ≡ e)
    → Found (One cell Is) S ts e rest before after
found_one cell Is S ts rest e before after split is low noted same = record {
  used = cell e ∷ [];
  split = split;
  spelled = record { is = is; whole = refl };
  shallow = (low, tt);
  noted = noted;
  only = λ other w c more o s h p.
      let whole : (cell other).token ∷ c ≡ (cell e).token ∷ more = ap (λ cs. tokens_of cs ++ c) (sym o.whole) ∙ p in
      let one : other ≡ e = same other o.is (some_injective (ap head whole)) in
      (one, o.whole ∙ ap (λ x. cell x ∷ []) one);
}

-- A stop at the first token.
pub stuck_here : {why : Why} {A : Type 0} {G : A → List Cell → Type 0} {S : List Token → Type 0} {ts : List Token} (before : List Begun) (x : A) (cells : List Cell) → G x cells → Next why ts cells
    → ((e : A) (w : List Cell) (c more : List Token) → G e w → S c → head more ≡ head ts → tokens_of w ++ c ≡ more → Bad why 0 w)
    → Stuck why G S ts (length ts) before before
stuck_here {ts = ts} before x cells viable next dead = record { used = []; tail = ts; split = refl; left = refl; shallow = tt; noted = sym (append-nil before); example = x; ahead = cells; viable = viable; next = next; dead = dead }

pub stuck_one : {A : Type 0} (cell : A → Cell) (Is : A → Type 0) (S : List Token → Type 0) (ts : List Token) (x : A) (before : List Begun)
    → Is x → ((other : A) → Is other → head ts ≢ Some (cell other).token)
    → Fails (One cell Is) S ts before before (Unexpected (length ts))
stuck_one cell Is S ts x before is none =
    odd (stuck_here before x (cell x ∷ []) (record { is = is; whole = refl }) tt (λ other w c more o s h p. none other o.is (sym h ∙ ap head (sym p) ∙ ap (λ cs. head (tokens_of cs ++ c)) o.whole)))

pub deep_one : {A : Type 0} (cell : A → Cell) (Is : A → Type 0) (S : List Token → Type 0) (ts rest : List Token) (x : A) (before : List Begun)
    → ts ≡ (cell x).token ∷ rest → Is x → ((other : A) → DEEPEST_NESTING < (cell other).opens)
    → Fails (One cell Is) S ts before before (TooDeep (length ts))
deep_one cell Is S ts rest x before split is low =
    deep (stuck_here before x (cell x ∷ []) (record { is = is; whole = refl })
    (record { cell = cell x; after = []; whole = refl; token = ap head split; deep = low x })
    (λ other w c more o s h p. record { before = []; cell = cell other; after = []; whole = o.whole; «at» = refl; deep = low other }))

pub stuck_tok : (cell : Cell) (S : List Token → Type 0) (ts : List Token) (before : List Begun) → head ts ≢ Some cell.token → Fails (Tok cell) S ts before before (Unexpected (length ts))
stuck_tok cell S ts before none = stuck_one (λ u. cell) (λ u. Unit {0}) S ts tt before tt (λ other i. none)

pub deep_tok : (cell : Cell) (S : List Token → Type 0) (ts rest : List Token) (before : List Begun)
    → ts ≡ cell.token ∷ rest → DEEPEST_NESTING < cell.opens → Fails (Tok cell) S ts before before (TooDeep (length ts))
deep_tok cell S ts rest before split low = deep_one (λ u. cell) (λ u. Unit {0}) S ts rest tt before split tt (λ other. low)

-- Out of memory.
pub out_of_memory : {A T : Type 0} (G : A → List Cell → Type 0) (S : List Token → Type 0) (view : T → A) (ts : List Token) (before after : List Begun) (result : Result (T × Bor (List Token)) Stop) → IsErrAnd result (λ stop. stop ≡ Memory) → Answers G S view ts before after result
out_of_memory G S view ts before after result h = let p = err_from_is_err_and result h in rw (p.1, p.2) memory

pub passes_out_of_memory : (G : Unit {0} → List Cell → Type 0) (S : List Token → Type 0) (ts : List Token) (before after : List Begun) (result : Result (Bor (List Token)) Stop) → IsErrAnd result (λ stop. stop ≡ Memory) → Passes G S ts before after result
passes_out_of_memory G S ts before after result h = let p = err_from_is_err_and result h in rw (p.1, p.2) memory

-- What is left is no longer than what was there.
pub found_shorter : {A : Type 0} {G : A → List Cell → Type 0} {S : List Token → Type 0} {ts rest : List Token} {e : A} {before after : List Begun} → Found G S ts e rest before after → length rest ≤ length ts
found_shorter {rest = rest} f = omega (arith, ap length f.split, length-append (tokens_of f.used) rest)

-- A stop is passed on.
pub answers_stop : {A T : Type 0} (G : A → List Cell → Type 0) (S : List Token → Type 0) (view : T → A) (ts : List Token) (before after : List Begun) (result : Result (T × Bor (List Token)) Stop) (stop : Stop)
    → IsErrAnd result (λ told. told ≡ stop) → Fails G S ts before after stop → Answers G S view ts before after result
answers_stop G S view ts before after result stop h f = let p = err_from_is_err_and result h in rw (p.1, p.2) f

-- An answer of the last part, and one of a kind that the next token chose.

pub answers_like : {A T : Type 0} {G H : A → List Cell → Type 0} {S U : List Token → Type 0} {ts : List Token} (view : T → A) (before after : List Begun) (result : Result (T × Bor (List Token)) Stop)
    → Like G S H U ts → Answers G S view ts before after result → Answers H U view ts before after result
answers_like view before after (Ok found) like f = found_like like f
answers_like view before after (Err stop) like f = fails_like like f

pub answers_next : {A B T : Type 0} {G : A → List Cell → Type 0} {S U : List Token → Type 0} {K : A → B → List Cell → Type 0} {ts rest : List Token} {a : A} {before mid : List Begun} (view : T → B) (after : List Begun) (result : Result (T × Bor (List Token)) Stop)
    → Fits G S K U → Found G S ts a rest before mid → Answers (K a) U view rest mid after result → Answers (Seq G K) U view ts before after result
answers_next view after (Ok found) fits f g = found_next fits f g
answers_next view after (Err stop) fits f g = fails_next fits f g
