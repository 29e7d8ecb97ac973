-- Chains of links: what stands at their places, and what is left of one after a place is put in or taken out.
use Rattle.std.specs.Prelude.{◌≡◌, ◌≢◌, ℕ, zero, suc, ◌<◌, ◌≤◌, List, [], ◌∷◌, ◌++◌, length, Some, nat_lt, eqb, true, false}
use Rattle.std.specs.List.{IsDistinct, AllByRecursion, list_any}
use Rattle.std.proofs.Common.{refl, sym, ap, subst, ◌∙◌, arith}
use Rattle.std.proofs.lemmas.Grind.{common_steps}
use Rattle.std.proofs.lemmas.Map.Keys.{IsDistinct-cons}
use Rattle.std.proofs.lemmas.Map.Steps.{length-le_from_distinct_below}
use Rattle.linked_rows.specs.declared.links.Link.{Link}
use Rattle.linked_rows.specs.Links.{next_at, prev_at, list_at, IsPutIn, IsTakenOut, IsApart, IsChain, nodes_from}

-- The first of these, or else the end.
abbrev pub first_or : List ℕ → ℕ → ℕ
first_or [] end = end
first_or (x ∷ xs) end = x

pub apart-put : (x : ℕ) (a b : List ℕ) (n : ℕ) → x ≢ n → IsApart x (a ++ b) → IsApart x (a ++ n ∷ b)
apart-put x [] b n d h = (d, h)
apart-put x (y ∷ a) b n d h = (h.0, apart-put x a b n d h.1)

pub apart-cut : (x : ℕ) (a b : List ℕ) (n : ℕ) → IsApart x (a ++ n ∷ b) → IsApart x (a ++ b)
apart-cut x [] b n h = h.1
apart-cut x (y ∷ a) b n h = (h.0, apart-cut x a b n h.1)

pub apart-at : (x : ℕ) (a b : List ℕ) (n : ℕ) → IsApart x (a ++ n ∷ b) → x ≢ n
apart-at x [] b n h = h.0
apart-at x (y ∷ a) b n h = apart-at x a b n h.1

-- what is apart from all of them and from the end is apart from the first after a
pub apart-first : (x : ℕ) (a b : List ℕ) (end : ℕ) → x ≢ end → IsApart x (a ++ b) → x ≢ first_or b end
apart-first x [] [] end d h = d
apart-first x [] (y ∷ b) end d h = h.0
apart-first x (y ∷ a) b end d h = apart-first x a b end d h.1

module _ (links : List Link) (nodes l : ℕ) where
  -- A place that doesn't belong to the list is apart from its nodes.
  pub apart_from_chain : (n : ℕ) → list_at links n ≢ Some l → (from : ℕ) (xs : List ℕ) (to : ℕ) → IsChain links nodes l from xs to → IsApart n xs
  apart_from_chain n other from [] to c = tt
  apart_from_chain n other from (x ∷ xs) to c = (λ e. other (ap (list_at links) e ∙ c.2), apart_from_chain n other x xs to c.5)

  -- A place past the nodes is apart from them.
  pub apart_from_nodes : (z : ℕ) → nodes ≤ z → (from : ℕ) (xs : List ℕ) (to : ℕ) → IsChain links nodes l from xs to → IsApart z xs
  apart_from_nodes z far from [] to c = tt
  apart_from_nodes z far from (x ∷ xs) to c = (omega (arith, c.3), apart_from_nodes z far x xs to c.5)

  -- The place before the first after a.
  pub prev_known : (size : ℕ) → nodes ≤ size → (from : ℕ) (a b : List ℕ) (to : ℕ) → IsChain links nodes l from (a ++ b) to → list_at links from ≡ Some l → from < size
      → (list_at links (prev_at links (first_or b to)) ≡ Some l) × (prev_at links (first_or b to) < size)
  prev_known size le from [] [] to c own lt = (ap (list_at links) c.1 ∙ own, subst (λ p. p < size) (sym c.1) lt)
  prev_known size le from [] (x ∷ b) to c own lt = (ap (list_at links) c.1 ∙ own, subst (λ p. p < size) (sym c.1) lt)
  prev_known size le from (x ∷ a) b to c own lt = prev_known size le x a b to c.5 c.2 (omega (arith, c.3))

  pub prev_apart : (z from : ℕ) (a b : List ℕ) (to : ℕ) → IsChain links nodes l from (a ++ b) to → z ≢ from → IsApart z (a ++ b) → z ≢ prev_at links (first_or b to)
  prev_apart z from [] [] to c d h = λ e. d (e ∙ c.1)
  prev_apart z from [] (x ∷ b) to c d h = λ e. d (e ∙ c.1)
  prev_apart z from (x ∷ a) b to c d h = prev_apart z x a b to c.5 h.0 h.1

  pub prev_of_node_apart : (from : ℕ) (a : List ℕ) (n : ℕ) (b : List ℕ) (to : ℕ) → IsChain links nodes l from (a ++ n ∷ b) to → n ≢ from → n ≢ prev_at links n
  prev_of_node_apart from [] n b to c d = λ e. d (e ∙ c.1)
  prev_of_node_apart from (x ∷ a) n b to c d = prev_of_node_apart x a n b to c.5 (λ e. apart-at x a b n c.4 (sym e))

  -- What stands at a node of the list.
  pub node_known : (from : ℕ) (a : List ℕ) (n : ℕ) (b : List ℕ) (to : ℕ) → IsChain links nodes l from (a ++ n ∷ b) to
      → (next_at links n ≡ first_or b to) × (list_at links n ≡ Some l) × (n < nodes) × IsApart n b
  node_known from [] n [] to c = (c.5.0, c.2, c.3, tt)
  node_known from [] n (y ∷ b) to c = (c.5.0, c.2, c.3, c.4)
  node_known from (x ∷ a) n b to c = node_known x a n b to c.5

  -- The first after a belongs to the list.
  pub first_known : (from : ℕ) (a b : List ℕ) (to : ℕ) → IsChain links nodes l from (a ++ b) to → list_at links to ≡ Some l → list_at links (first_or b to) ≡ Some l
  first_known from [] [] to c own = own
  first_known from [] (x ∷ b) to c own = c.2
  first_known from (x ∷ a) b to c own = first_known x a b to c.5 own

  -- No two alike, and all of them below the number of nodes
  distinct_apart : (x : ℕ) (xs : List ℕ) → IsApart x xs → AllByRecursion (λ y. eqb x y ≡ false) xs
  distinct_apart x [] h = tt
  distinct_apart x (y ∷ ys) h = (grind (arith, common_steps, h.0), distinct_apart x ys h.1)

  distinct_chain : (from : ℕ) (xs : List ℕ) (to : ℕ) → IsChain links nodes l from xs to → IsDistinct eqb xs
  unfolding IsDistinct
  distinct_chain from [] to c = tt
  distinct_chain from (x ∷ xs) to c = IsDistinct-cons eqb x xs (distinct_apart x xs c.4) (distinct_chain x xs to c.5)

  below_chain : (from : ℕ) (xs : List ℕ) (to : ℕ) → IsChain links nodes l from xs to → (q : ℕ) → list_any (eqb q) xs ≡ true → q < nodes
  below_chain from [] to c q e = absurd (grind (arith, common_steps, e))
  below_chain from (x ∷ xs) to c q e = grind (arith, common_steps, e, c.3, below_chain x xs to c.5 q)

  pub few_in_chain : (from : ℕ) (xs : List ℕ) (to : ℕ) → IsChain links nodes l from xs to → length xs ≤ nodes
  few_in_chain from xs to c = length-le_from_distinct_below xs nodes (distinct_chain from xs to c) (below_chain from xs to c)

  past : (x : ℕ) → nodes ≤ x → nat_lt x nodes ≡ false
  past x h = grind (arith, common_steps)

  within : (x : ℕ) → x < nodes → nat_lt x nodes ≡ true
  within x h = grind (arith, common_steps)

  -- The links lead through the nodes of a chain.
  pub nodes_of_chain : (most from : ℕ) (xs : List ℕ) (to : ℕ) → nodes ≤ to → length xs ≤ most → IsChain links nodes l from xs to
      → nodes_from links nodes most (next_at links from) ≡ xs
  nodes_of_chain zero from [] to far few c = refl
  nodes_of_chain zero from (x ∷ xs) to far few c = absurd (omega arith)
  nodes_of_chain (suc most) from [] to far few c = rw (c.0, past to far) refl
  nodes_of_chain (suc most) from (x ∷ xs) to far few c =
      rw (c.0, within x c.3) (ap (λ rest. x ∷ rest) (nodes_of_chain most x xs to far (omega arith) c.5))

module _ (old new : List Link) (nodes l : ℕ) where
  -- A chain of places that haven't moved.
  pub other_chain : ((x : ℕ) → list_at old x ≡ Some l → (next_at new x ≡ next_at old x) × (prev_at new x ≡ prev_at old x) × (list_at new x ≡ list_at old x))
      → (from : ℕ) (xs : List ℕ) (to : ℕ) → list_at old from ≡ Some l → list_at old to ≡ Some l → IsChain old nodes l from xs to → IsChain new nodes l from xs to
  other_chain keeps from [] to f t c = ((keeps from f).0 ∙ c.0, (keeps to t).1 ∙ c.1)
  other_chain keeps from (x ∷ xs) to f t c =
      ((keeps from f).0 ∙ c.0, (keeps x c.2).1 ∙ c.1, (keeps x c.2).2 ∙ c.2, c.3, c.4, other_chain keeps x xs to c.2 t c.5)

  -- What comes after the place of a change.
  pub rest_chain : (p n q : ℕ)
      → ((x : ℕ) → x ≢ n → x ≢ p → next_at new x ≡ next_at old x)
      → ((x : ℕ) → x ≢ n → x ≢ q → prev_at new x ≡ prev_at old x)
      → ((x : ℕ) → x ≢ n → list_at new x ≡ list_at old x)
      → (from : ℕ) (xs : List ℕ) (to : ℕ) → from ≢ n → from ≢ p → to ≢ n → to ≢ q → IsApart p xs → IsApart n xs → IsApart q xs
      → IsChain old nodes l from xs to → IsChain new nodes l from xs to
  rest_chain p n q nexts prevs lists from [] to fn fp tn tq ap_ an aq c = (nexts from fn fp ∙ c.0, prevs to tn tq ∙ c.1)
  rest_chain p n q nexts prevs lists from (x ∷ xs) to fn fp tn tq ap_ an aq c =
      let xn : x ≢ n = λ e. an.0 (sym e) in
      let xp : x ≢ p = λ e. ap_.0 (sym e) in
      let xq : x ≢ q = λ e. aq.0 (sym e) in (
        nexts from fn fp ∙ c.0,
        prevs x xn xq ∙ c.1,
        lists x xn ∙ c.2,
        c.3,
        c.4,
        rest_chain p n q nexts prevs lists x xs to xn xp tn tq ap_.1 an.1 aq.1 c.5,
      )

  -- A place that is put in stands between its neighbours.
  pub put_chain : (n at : ℕ) → IsPutIn old new l n at → n < nodes → (from : ℕ) (a b : List ℕ) (to : ℕ) → at ≡ first_or b to → nodes ≤ to
      → n ≢ from → IsApart n (a ++ b) → IsApart from (a ++ b)
      → IsChain old nodes l from (a ++ b) to → IsChain new nodes l from (a ++ n ∷ b) to
  put_chain n at put few from [] [] to is far d an af c =
      let before : prev_at old at ≡ from = ap (prev_at old) is ∙ c.1 in
      (ap (next_at new) (sym before) ∙ put.next_of_prev, put.its_prev ∙ before, put.its_list, few, tt, (put.its_next ∙ is, ap (prev_at new) (sym is) ∙ put.prev_of_next))
  put_chain n at put few from [] (y ∷ b) to is far d an af c =
      let before : prev_at old at ≡ from = ap (prev_at old) is ∙ c.1 in
      let yn : y ≢ n = λ e. an.0 (sym e) in
      let yp : y ≢ prev_at old at = λ e. af.0 (sym (e ∙ before)) in (
        ap (next_at new) (sym before) ∙ put.next_of_prev,
        put.its_prev ∙ before,
        put.its_list,
        few,
        an,
        (
          put.its_next ∙ is,
          ap (prev_at new) (sym is) ∙ put.prev_of_next,
          put.lists y yn ∙ c.2,
          c.3,
          c.4,
          rest_chain (prev_at old at) n at put.nexts put.prevs put.lists y b to yn yp (omega (arith, c.3)) (omega (arith, c.3, is)) (subst (λ p. IsApart p b) (sym before) af.1) an.1 (subst (λ p. IsApart p b) (sym is) c.4) c.5,
        ),
      )
  put_chain n at put few from (x ∷ a) b to is far d an af c =
      let xn : x ≢ n = λ e. an.0 (sym e) in
      let fp : from ≢ prev_at old at = λ e. prev_apart old nodes l from x a b to c.5 af.0 af.1 (e ∙ ap (prev_at old) is) in
      let xat : x ≢ at = λ e. apart-first x a b to (omega (arith, c.3)) c.4 (e ∙ is) in (
        put.nexts from (λ e. d (sym e)) fp ∙ c.0,
        put.prevs x xn xat ∙ c.1,
        put.lists x xn ∙ c.2,
        c.3,
        apart-put x a b n xn c.4,
        put_chain n at put few x a b to is far an.0 an.1 c.4 c.5,
      )

  -- The neighbours of a place that is taken out are neighbours of each other.
  pub take_chain : (n : ℕ) → IsTakenOut old new n → (from : ℕ) (a b : List ℕ) (to : ℕ) → nodes ≤ to → n < nodes
      → from ≢ n → IsApart from (a ++ n ∷ b)
      → IsChain old nodes l from (a ++ n ∷ b) to → IsChain new nodes l from (a ++ b) to
  take_chain n out from [] [] to far few d af c =
      (ap (next_at new) (sym c.1) ∙ out.next_of_prev ∙ c.5.0, ap (prev_at new) (sym c.5.0) ∙ out.prev_of_next ∙ c.1)
  take_chain n out from [] (y ∷ b) to far few d af c =
      let yn : y ≢ n = λ e. c.4.0 (sym e) in
      let yp : y ≢ prev_at old n = λ e. af.1.0 (sym (e ∙ c.1)) in (
        ap (next_at new) (sym c.1) ∙ out.next_of_prev ∙ c.5.0,
        ap (prev_at new) (sym c.5.0) ∙ out.prev_of_next ∙ c.1,
        out.lists y yn ∙ c.5.2,
        c.5.3,
        c.5.4,
        rest_chain (prev_at old n) n (next_at old n) out.nexts out.prevs out.lists y b to yn yp (omega (arith, few)) (omega (arith, c.5.0, c.5.3)) (subst (λ p. IsApart p b) (sym c.1) af.1.1) c.4.1 (subst (λ p. IsApart p b) (sym c.5.0) c.5.4) c.5.5,
      )
  take_chain n out from (x ∷ a) b to far few d af c =
      let xn : x ≢ n = apart-at x a b n c.4 in
      let fp : from ≢ prev_at old n = prev_apart old nodes l from x a (n ∷ b) to c.5 af.0 af.1 in
      let known = node_known old nodes l x a n b to c.5 in
      let xq : x ≢ next_at old n = λ e. apart-first x a b to (omega (arith, c.3)) (apart-cut x a b n c.4) (e ∙ known.0) in (
        out.nexts from d fp ∙ c.0,
        out.prevs x xn xq ∙ c.1,
        out.lists x xn ∙ c.2,
        c.3,
        apart-cut x a b n c.4,
        take_chain n out x a b to far few xn c.4 c.5,
      )
