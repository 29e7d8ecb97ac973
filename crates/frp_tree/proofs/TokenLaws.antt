-- Laws on tokens: a text is cut into them in one way, and has one fault at most, which leaves it without tokens.
use Rattle.std.proofs.Common.{◌≡◌, ◌≢◌, ℕ, ◌+◌, ◌≤◌, Bool, true, false, ◌&&◌, List, [], ◌∷◌, ◌++◌, length, ◌⊎◌, inl, inr, refl, sym, ap, subst, ◌∙◌, arith}
use Rattle.std.specs.List.{AllByRecursion}
use Rattle.std.proofs.lemmas.Bool.{false≢true}
use Rattle.std.proofs.lemmas.List.{append-nil}
use Rattle.frp_tree.specs.Tokens.{is_blank, IsLexeme, is_number_token, starts_word, starts_comment, AtLineEnd, Cuts, here, blank, comment, lexeme, IsWithin, HasTokens, IsBadByte, IsTooBig}
use Rattle.frp_tree.specs.Prefixes.{IsBlank, IsComment, Skips, IsFirstToken}
use Rattle.frp_tree.specs.declared.tokens.Token.{Token}
use Rattle.frp_tree.proofs.LexemeLaws.{same_begin, lexeme_begins, lexeme_some, start_of, start_no_blank, same_token, same_parts}

-- What a cut begins with: it is over, something is skipped, or a token is taken.
pub data Opened (after : Bool) (text : List ℕ) (ts : List Token) (last : Bool) (rest : List ℕ) : Type 0 where
  stays : text ≡ rest → ts ≡ [] → after ≡ last → Opened after text ts last rest
  skips : (more : List ℕ) → Skips text more → Cuts false more ts last rest → Opened after text ts last rest
  takes : (t : Token) (us : List Token) (more : List ℕ) → IsFirstToken after text t more → ts ≡ t ∷ us → Cuts (is_number_token t) more us last rest → Opened after text ts last rest

pub opened : {after last : Bool} {text rest : List ℕ} {ts : List Token} → Cuts after text ts last rest → Opened after text ts last rest
opened here = stays refl refl refl
opened (blank {b = b} {bs = bs} e c) = skips bs (inl (record { byte = b; spelled = refl; blank = e })) c
opened (comment body more a n c) = skips more (inr (record { body = body; spelled = refl; in_line = a; ends = n })) c
opened (lexeme {t = t} {ts = ts} w more l n s a c) = takes t ts more (record { w = w; spelled = refl; lexeme = l; longest = n; no_comment = s; allowed = a }) refl c

-- The other way round.
pub skip : {last : Bool} {rest : List ℕ} {ts : List Token} (after : Bool) (text more : List ℕ) → Skips text more → Cuts false more ts last rest → Cuts after text ts last rest
skip {last = last} {rest = rest} {ts = ts} after text more (inl s) c = subst (λ x. Cuts after x ts last rest) (sym s.spelled) (blank s.blank c)
skip {last = last} {rest = rest} {ts = ts} after text more (inr s) c = subst (λ x. Cuts after x ts last rest) (sym s.spelled) (comment s.body more s.in_line s.ends c)

pub take_token : {last : Bool} {rest : List ℕ} {ts : List Token} (after : Bool) (text more : List ℕ) (t : Token) → IsFirstToken after text t more → Cuts (is_number_token t) more ts last rest → Cuts after text (t ∷ ts) last rest
take_token {last = last} {rest = rest} {ts = ts} after text more t f c =
    subst (λ x. Cuts after x (t ∷ ts) last rest) (sym f.spelled) (lexeme f.w more f.lexeme f.longest (ap starts_comment (sym f.spelled) ∙ f.no_comment) f.allowed c)

-- A text begins in one way.

blank_apart : (after : Bool) (text more rest : List ℕ) (t : Token) → IsBlank text more → IsFirstToken after text t rest → ⊥
blank_apart after text more rest t s f =
    let (b, x, y) = same_begin (start_of t) is_blank f.w (s.byte ∷ []) rest more (lexeme_begins t f.w f.lexeme) s.blank (sym f.spelled ∙ s.spelled) in start_no_blank t b x y

comment_starts : (text more : List ℕ) → IsComment text more → starts_comment text ≡ true
comment_starts text more s = ap starts_comment s.spelled

pub skip_apart : (after : Bool) (text more rest : List ℕ) (t : Token) → Skips text more → IsFirstToken after text t rest → ⊥
skip_apart after text more rest t (inl s) f = blank_apart after text more rest t s f
skip_apart after text more rest t (inr s) f = false≢true (sym f.no_comment ∙ comment_starts text more s)

blank_no_comment : (text more other : List ℕ) → IsBlank text more → IsComment text other → ⊥
blank_no_comment text more other s c = let e : s.byte ≡ 47 = cc (s.spelled, c.spelled) in false≢true (sym (ap is_blank e) ∙ s.blank)

one_line_end : (a b m n : List ℕ) → AllByRecursion (λ x. x ≢ 10) a → AllByRecursion (λ x. x ≢ 10) b → AtLineEnd m → AtLineEnd n → a ++ m ≡ b ++ n → m ≡ n
one_line_end [] [] m n p q r s e = e
one_line_end (x ∷ a) (y ∷ b) m n p q r s e = one_line_end a b m n p.1 q.1 r s (cc)
one_line_end [] (y ∷ b) [] n p q r s e = cc
one_line_end [] (y ∷ b) (z ∷ m) n p q r s e = let h : y ≡ z = cc in absurd (q.0 (h ∙ r))
one_line_end (x ∷ a) [] m [] p q r s e = cc
one_line_end (x ∷ a) [] m (z ∷ n) p q r s e = let h : x ≡ z = cc in absurd (p.0 (h ∙ s))

pub skip_once : (text m n : List ℕ) → Skips text m → Skips text n → m ≡ n
skip_once text m n (inl s) (inl r) = cc (s.spelled, r.spelled)
skip_once text m n (inl s) (inr r) = absurd (blank_no_comment text m n s r)
skip_once text m n (inr s) (inl r) = absurd (blank_no_comment text n m r s)
skip_once text m n (inr s) (inr r) = one_line_end s.body r.body m n s.in_line r.in_line s.ends r.ends (cc (s.spelled, r.spelled))

pub one_first_token : (a b : Bool) (text m n : List ℕ) (t u : Token) → IsFirstToken a text t m → IsFirstToken b text u n → (t ≡ u) × (m ≡ n)
one_first_token a b text m n t u f g =
    let e : f.w ++ m ≡ g.w ++ n = sym f.spelled ∙ g.spelled in
    let long : length g.w ≤ length f.w = f.longest u g.w n g.lexeme (sym e) in
    let short : length f.w ≤ length g.w = g.longest t f.w m f.lexeme e in
    let equal : length f.w ≡ length g.w = omega arith in
    let (v, r) = same_parts g.w f.w n m equal e in
    (same_token t u g.w (subst (λ x. IsLexeme x t) v f.lexeme) g.lexeme, r)

-- Nothing is cut from the end.
pub at_end : (after last : Bool) (rest : List ℕ) (ts : List Token) → Opened after [] ts last rest → (ts ≡ []) × (after ≡ last) × (rest ≡ [])
at_end after last rest ts (stays e n a) = (n, a, sym e)
at_end after last rest ts (skips more (inl s) c) = cc s.spelled
at_end after last rest ts (skips more (inr s) c) = cc s.spelled
at_end after last rest ts (takes t us more f e c) = absurd (lexeme_some t f.w more f.lexeme (sym f.spelled))

-- Of two cuts of a text, one goes on where the other stops.
abbrev pub Joined : Bool → List ℕ → List Token → Bool → List ℕ → List Token → Type 0
Joined last rest ts end other us = ((vs : List Token) × Cuts last rest vs end other × (us ≡ ts ++ vs)) ⊎ ((vs : List Token) × Cuts end other vs last rest × (ts ≡ us ++ vs))

joined_here : (after end : Bool) (text other : List ℕ) (us : List Token) → Cuts after text us end other → Joined after text [] end other us
joined_here after end text other us d = inl (us, d, refl)

-- The second cut is over.
joined_over : (after last end : Bool) (text rest other : List ℕ) (ts us : List Token) → Cuts after text ts last rest → text ≡ other → us ≡ [] → after ≡ end → Joined last rest ts end other us
joined_over after last end text rest other ts us c e n a =
    inr (ts, subst (λ x. Cuts x other ts last rest) a (subst (λ x. Cuts after x ts last rest) e c), sym (ap (λ xs. xs ++ ts) n))

joined_skip : {after last end : Bool} {text rest other : List ℕ} {ts us : List Token} (more : List ℕ) → Skips text more → Cuts after text ts last rest → Opened after text us end other → (Cuts false more us end other → Joined last rest ts end other us) → Joined last rest ts end other us
joined_skip more s c (stays e n a) go = joined_over _ _ _ _ _ _ _ _ c e n a
joined_skip {end = end} {text = text} {other = other} {us = us} more s c (skips next r d) go = go (subst (λ x. Cuts false x us end other) (skip_once text next more r s) d)
joined_skip {after = after} {text = text} more s c (takes t vs next f e d) go = absurd (skip_apart after text more next t s f)

joined_token : {after last end : Bool} {text rest other : List ℕ} {ts us : List Token} (t : Token) (more : List ℕ) → IsFirstToken after text t more → Cuts after text (t ∷ ts) last rest → Opened after text us end other → ((vs : List Token) → Cuts (is_number_token t) more vs end other → Joined last rest ts end other vs) → Joined last rest (t ∷ ts) end other us
joined_token t more f c (stays e n a) go = joined_over _ _ _ _ _ _ _ _ c e n a
joined_token {after = after} {text = text} t more f c (skips next r d) go = absurd (skip_apart after text next more t r f)
joined_token {after = after} {end = end} {text = text} {other = other} {ts = ts} {us = us} t more f c (takes u vs next g e d) go =
    let (k, m) = one_first_token after after text next more u t g f in
    let there : Cuts (is_number_token t) more vs end other = subst (λ x. Cuts (is_number_token t) x vs end other) m (subst (λ x. Cuts (is_number_token x) next vs end other) k d) in
    longer (go vs there) (e ∙ ap (λ x. x ∷ vs) k)
  where
    longer : {last : Bool} {rest : List ℕ} {vs : List Token} → Joined last rest ts end other vs → us ≡ t ∷ vs → Joined last rest (t ∷ ts) end other us
    longer (inl j) h = inl (j.0, j.1, h ∙ ap (λ xs. t ∷ xs) j.2)
    longer (inr j) h = inr (j.0, j.1, ap (λ xs. t ∷ xs) j.2 ∙ ap (λ xs. xs ++ j.0) (sym h))

pub joined : {after last end : Bool} {text rest other : List ℕ} {ts us : List Token} → Cuts after text ts last rest → Cuts after text us end other → Joined last rest ts end other us
joined here d = joined_here _ _ _ _ _ d
joined (blank {b = b} {bs = bs} e c) d = joined_skip bs (inl (record { byte = b; spelled = refl; blank = e })) (blank e c) (opened d) (λ q. joined c q)
joined (comment body more a n c) d = joined_skip more (inr (record { body = body; spelled = refl; in_line = a; ends = n })) (comment body more a n c) (opened d) (λ q. joined c q)
joined (lexeme {t = t} w more l n s a c) d = joined_token t more (record { w = w; spelled = refl; lexeme = l; longest = n; no_comment = s; allowed = a }) (lexeme w more l n s a c) (opened d) (λ vs q. joined c q)

-- A cut of a whole text begins with each other cut of it.
pub follow : {after last end : Bool} {text rest : List ℕ} {ts us : List Token} → Cuts after text ts last rest → Cuts after text us end [] → (vs : List Token) × Cuts last rest vs end [] × (us ≡ ts ++ vs)
follow c d = go (joined c d)
  where
    go : {last end : Bool} {rest : List ℕ} {ts us : List Token} → Joined last rest ts end [] us → (vs : List Token) × Cuts last rest vs end [] × (us ≡ ts ++ vs)
    go (inl j) = j
    go {last = last} {end = end} {rest = rest} {ts = ts} {us = us} (inr j) =
        let (n, a, e) = at_end end last rest j.0 (opened j.1) in
        ([], subst (λ x. Cuts last x [] end []) (sym e) (subst (λ x. Cuts last [] [] x []) (sym a) here), sym (append-nil us) ∙ ap (λ xs. us ++ xs) (sym n) ∙ sym j.2 ∙ sym (append-nil ts))

-- A text has at most one list of tokens.
pub one_list : (text : List ℕ) (ts us : List Token) → HasTokens text ts → HasTokens text us → us ≡ ts
one_list text ts us h k =
    let (vs, c, e) = follow h.2 k.2 in
    e ∙ ap (λ xs. ts ++ xs) (at_end h.1 k.1 [] vs (opened c)).0 ∙ append-nil ts

-- Nothing goes on at a bad byte.
bad_stops : (after last : Bool) (text bytes rest : List ℕ) (place : ℕ) (ts : List Token) → (bad : IsBadByte text place) → bad.after ≡ after → bad.rest ≡ bytes → Opened after bytes ts last rest → (bytes ≡ rest) × (ts ≡ []) × (after ≡ last)
bad_stops after last text bytes rest place ts bad a e (stays f n s) = (f, n, s)
bad_stops after last text bytes rest place ts bad a e (skips more (inl s) c) = absurd (false≢true (sym (bad.no_blank s.byte more (e ∙ s.spelled)) ∙ s.blank))
bad_stops after last text bytes rest place ts bad a e (skips more (inr s) c) = absurd (false≢true (sym bad.no_comment ∙ ap starts_comment e ∙ comment_starts bytes more s))
bad_stops after last text bytes rest place ts bad a e (takes t us more f g c) =
    absurd (false≢true (sym f.allowed ∙ ap (λ x. x && starts_word f.w) (sym a) ∙ bad.no_token t f.w more f.lexeme (e ∙ f.spelled)))

-- A text with a bad byte has no tokens.
pub bad_none : (text : List ℕ) (place : ℕ) (ts : List Token) → IsBadByte text place → HasTokens text ts → ⊥
bad_none text place ts bad h =
    let (vs, c, e) = follow bad.reached.cut h.2 in
    bad.some (bad_stops bad.after h.1 text bad.rest [] place vs bad refl refl (opened c)).0

pub first_too_big : (text : List ℕ) (place : ℕ) → (big : IsTooBig text place) → IsFirstToken big.after (big.w ++ big.more) big.t big.more
first_too_big text place big = record { w = big.w; spelled = refl; lexeme = big.lexeme; longest = big.longest; no_comment = big.no_comment; allowed = big.allowed }

all_middle : (P : Token → Type 0) (ts us : List Token) (t : Token) → AllByRecursion P (ts ++ t ∷ us) → P t
all_middle P [] us t h = h.0
all_middle P (x ∷ ts) us t h = all_middle P ts us t h.1

-- What goes on at a token that is too big takes it.
big_taken : (after last : Bool) (text bytes rest : List ℕ) (place : ℕ) (ts prefix : List Token) → (big : IsTooBig text place) → big.after ≡ after → big.w ++ big.more ≡ bytes → AllByRecursion IsWithin (prefix ++ ts) → Opened after bytes ts last rest → (bytes ≡ rest) × (ts ≡ []) × (after ≡ last)
big_taken after last text bytes rest place ts prefix big a e all (stays f n s) = (f, n, s)
big_taken after last text bytes rest place ts prefix big a e all (skips more s c) = absurd (skip_apart big.after (big.w ++ big.more) more big.more big.t (subst (λ x. Skips x more) (sym e) s) (first_too_big text place big))
big_taken after last text bytes rest place ts prefix big a e all (takes t us more f g c) =
    let (same, _) = one_first_token after big.after bytes more big.more t big.t f (subst (λ x. IsFirstToken big.after x big.t big.more) e (first_too_big text place big)) in
    absurd (big.past (subst IsWithin same (all_middle IsWithin prefix us t (subst (λ xs. AllByRecursion IsWithin (prefix ++ xs)) g all))))

-- A text with a token past the limits has no tokens within them.
pub big_none : (text : List ℕ) (place : ℕ) (ts : List Token) → IsTooBig text place → HasTokens text ts → ⊥
big_none text place ts big h =
    let (vs, c, e) = follow big.reached.cut h.2 in
    lexeme_some big.t big.w big.more big.lexeme (big_taken big.after h.1 text (big.w ++ big.more) [] place vs big.reached.tokens big refl refl (subst (AllByRecursion IsWithin) e h.3) (opened c)).0

-- A place where a cut can't go on within the limits.
record IsStop (text : List ℕ) (place : ℕ) (after : Bool) (rest : List ℕ) : Type 0 where
  tokens : List Token
  cut : Cuts false text tokens after rest
  within : AllByRecursion IsWithin tokens
  length_is : length text ≡ place + length rest
  stops : (last : Bool) (end : List ℕ) (ts : List Token) → AllByRecursion IsWithin (tokens ++ ts) → Cuts after rest ts last end → (rest ≡ end) × (after ≡ last)

bad_stop : (text : List ℕ) (place : ℕ) → (bad : IsBadByte text place) → IsStop text place bad.after bad.rest
bad_stop text place bad = record {
  tokens = bad.reached.tokens;
  cut = bad.reached.cut;
  within = bad.reached.within;
  length_is = bad.reached.«at»;
  stops = λ last end ts all c. let (e, n, a) = bad_stops bad.after last text bad.rest end place ts bad refl refl (opened c) in (e, a);
}

big_stop : (text : List ℕ) (place : ℕ) → (big : IsTooBig text place) → IsStop text place big.after (big.w ++ big.more)
big_stop text place big = record {
  tokens = big.reached.tokens;
  cut = big.reached.cut;
  within = big.reached.within;
  length_is = big.reached.«at»;
  stops = λ last end ts all c. let (e, n, a) = big_taken big.after last text (big.w ++ big.more) end place ts big.reached.tokens big refl refl all (opened c) in (e, a);
}

-- There is one such place.
one_stop : (text : List ℕ) (p q : ℕ) (a b : Bool) (r s : List ℕ) → IsStop text p a r → IsStop text q b s → (p ≡ q) × (a ≡ b) × (r ≡ s)
one_stop text p q a b r s h k = go (joined h.cut k.cut)
  where
    same_place : r ≡ s → p ≡ q
    same_place e = omega (arith, ap length e, h.length_is, k.length_is)

    go : Joined a r h.tokens b s k.tokens → (p ≡ q) × (a ≡ b) × (r ≡ s)
    go (inl j) = let (e, x) = h.stops b s j.0 (subst (AllByRecursion IsWithin) j.2 k.within) j.1 in (same_place e, x, e)
    go (inr j) = let (e, x) = k.stops a r j.0 (subst (AllByRecursion IsWithin) j.2 h.within) j.1 in (same_place (sym e), sym x, sym e)

-- A text has at most one fault: one bad byte ..
pub one_bad : (text : List ℕ) (p q : ℕ) → IsBadByte text p → IsBadByte text q → p ≡ q
one_bad text p q h k = (one_stop text p q h.after k.after h.rest k.rest (bad_stop text p h) (bad_stop text q k)).0

-- .. or one token that is too big ..
pub one_big : (text : List ℕ) (p q : ℕ) → IsTooBig text p → IsTooBig text q → p ≡ q
one_big text p q h k = (one_stop text p q h.after k.after (h.w ++ h.more) (k.w ++ k.more) (big_stop text p h) (big_stop text q k)).0

-- .. and not both.
pub bad_no_big : (text : List ℕ) (p q : ℕ) → IsBadByte text p → IsTooBig text q → ⊥
bad_no_big text p q h k =
    let (e, a, r) = one_stop text p q h.after k.after h.rest (k.w ++ k.more) (bad_stop text p h) (big_stop text q k) in
    false≢true (sym k.allowed ∙ ap (λ x. x && starts_word k.w) (sym a) ∙ h.no_token k.t k.w k.more k.lexeme r)
