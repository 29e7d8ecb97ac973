-- Arrays that hold lists: what stands at their places, and that they hold the lists after each change.
use Rattle.std.specs.Prelude.{◌≡◌, ◌≢◌, ◌↔◌, ℕ, zero, suc, ◌+◌, ◌-◌, ◌<◌, ◌≤◌, List, [], ◌∷◌, ◌++◌, length, get_or, set, replicate, Option, Some, None, cond, nat_lt, slice_get, ◌⊎◌}
use Rattle.std.specs.List.{Contains}
use Rattle.std.proofs.Common.{refl, sym, ap, subst, ◌∙◌, arith, inl, inr, ⊎_elim, append_assoc}
use Rattle.std.proofs.lemmas.Grind.{common_steps}
use Rattle.std.proofs.lemmas.Bool.{cases_eq}
use Rattle.std.proofs.lemmas.List.{same_lists, get_or_past, length-replicate, length-set, get_or-set_same, get_or-set_other}
use Rattle.std.proofs.lemmas.List.Elements.{Contains-append_left, Contains-append_right, Contains-append_cases}
use Rattle.std.proofs.lemmas.List.FromFn.{length-map-range_with_len, get_or-map-range_with_len}
use Rattle.std.proofs.lemmas.Option.{same_Some, none-some}
use Rattle.linked_rows.specs.declared.links.Link.{Link}
use Rattle.linked_rows.specs.Links.{link_at, next_at, prev_at, list_at, lone, IsPutIn, IsTakenOut, IsChain, IsLinked, nodes_from, lists_in}
use Rattle.linked_rows.proofs.ChainFacts.{first_or, apart-first, apart_from_chain, apart_from_nodes, prev_known, prev_of_node_apart, node_known, first_known, few_in_chain, nodes_of_chain, other_chain, put_chain, take_chain}

-- A list that contains a node is what comes before it, the node, and what comes after it.
pub split_at : (xs : List ℕ) (n : ℕ) → Contains xs n → (a : List ℕ) × (b : List ℕ) × (xs ≡ a ++ n ∷ b)
split_at [] n h = absurd (omega (arith, h.1))
split_at (x ∷ xs) n (zero, lt, e) = ([], xs, ap (λ y. y ∷ xs) e)
split_at (x ∷ xs) n (suc i, lt, e) =
    let rest = split_at xs n (i, omega arith, e) in
    (x ∷ rest.0, rest.1, ap (λ ys. x ∷ ys) rest.2)

pub contains_at : (a b : List ℕ) (n : ℕ) → Contains (a ++ n ∷ b) n
contains_at a b n = Contains-append_right a (n ∷ b) n (zero, omega arith, refl)

contains_cons : (y : ℕ) (b : List ℕ) (x : ℕ) → Contains b x → Contains (y ∷ b) x
contains_cons y b x (i, lt, e) = (suc i, omega arith, e)

contains_cons_cases : (y : ℕ) (b : List ℕ) (x : ℕ) → Contains (y ∷ b) x → (y ≡ x) ⊎ Contains b x
contains_cons_cases y b x (zero, lt, e) = inl e
contains_cons_cases y b x (suc i, lt, e) = inr (i, omega arith, e)

-- with a node put between, the others are still there
pub contains_put : (a b : List ℕ) (n x : ℕ) → Contains (a ++ b) x → Contains (a ++ n ∷ b) x
contains_put a b n x h =
    ⊎_elim (λ l. Contains-append_left a (n ∷ b) x l) (λ r. Contains-append_right a (n ∷ b) x (contains_cons n b x r)) (Contains-append_cases a b x h)

-- with one taken out, the others are still there
pub contains_cut : (a b : List ℕ) (n x : ℕ) → x ≢ n → Contains (a ++ n ∷ b) x → Contains (a ++ b) x
contains_cut a b n x d h =
    ⊎_elim (λ l. Contains-append_left a b x l)
    (λ r. ⊎_elim (λ e. absurd (d (sym e))) (λ more. Contains-append_right a b x more) (contains_cons_cases n b x r))
    (Contains-append_cases a (n ∷ b) x h)

-- a list that has a node is one of them
pub within : (lists : List (List ℕ)) (l x : ℕ) → Contains (get_or lists l []) x → l < length lists
within lists l x h = ⊎_elim (λ lt. lt) (λ le. absurd (omega (arith, subst (λ r. h.0 < length r) (get_or_past lists l [] le) h.1))) (below_or l (length lists))
  where
    below_or : (a b : ℕ) → (a < b) ⊎ (b ≤ a)
    below_or a b = grind arith

module _ (links : List Link) (nodes : ℕ) (lists : List (List ℕ)) (held : IsLinked links nodes lists) where
  -- The array holds exactly these lists.
  pub seen : lists_in links nodes ≡ lists
  seen =
      let count : length links - nodes ≡ length lists = omega (arith, held.size) in
      same_lists (lists_in links nodes) lists (length-map-range_with_len (λ l. nodes_from links nodes nodes (next_at links (nodes + l))) 0 (length links - nodes) ∙ count)
      (λ k d lt.
      let inside : k < length lists = omega (arith, length-map-range_with_len (λ l. nodes_from links nodes nodes (next_at links (nodes + l))) 0 (length links - nodes), lt, count) in
      get_or-map-range_with_len (λ l. nodes_from links nodes nodes (next_at links (nodes + l))) 0 (length links - nodes) k k d (omega arith) (omega arith)
      ∙ nodes_of_chain links nodes k nodes (nodes + k) (get_or lists k []) (nodes + k) (omega arith) (few_in_chain links nodes k (nodes + k) (get_or lists k []) (nodes + k) (held.chains k inside)) (held.chains k inside)
      ∙ any_default lists k d inside)
    where
      any_default : (xs : List (List ℕ)) (k : ℕ) (d : List ℕ) → k < length xs → get_or xs k [] ≡ get_or xs k d
      any_default xs k d lt = grind (arith, common_steps)

  pub kept : IsLinked links nodes (lists_in links nodes)
  kept = subst (IsLinked links nodes) (sym seen) held

  chain_of : (l : ℕ) (xs : List ℕ) → l < length lists → get_or lists l [] ≡ xs → IsChain links nodes l (nodes + l) xs (nodes + l)
  chain_of l xs lt is = subst (λ r. IsChain links nodes l (nodes + l) r (nodes + l)) is (held.chains l lt)

  -- What stands at a node of a list.
  pub node_of_list : (l : ℕ) (a : List ℕ) (n : ℕ) (b : List ℕ) → get_or lists l [] ≡ a ++ n ∷ b
      → (l < length lists) × (next_at links n ≡ first_or b (nodes + l)) × (list_at links n ≡ Some l) × (n < nodes)
  node_of_list l a n b is =
      let lt : l < length lists = within lists l n (subst (λ r. Contains r n) (sym is) (contains_at a b n)) in
      let known = node_known links nodes l (nodes + l) a n b (nodes + l) (chain_of l (a ++ n ∷ b) lt is) in
      (lt, known.0, known.1, known.2)

  pub node_in : (l n : ℕ) → Contains (get_or lists l []) n → (list_at links n ≡ Some l) × (n < nodes)
  node_in l n h =
      let parts = split_at (get_or lists l []) n h in
      let known = node_of_list l parts.0 n parts.1 parts.2 in
      (known.2, known.3)

  pub found_below : (n : ℕ) → n < nodes → (l : ℕ) → (list_at links n ≡ Some l) ↔ Contains (get_or lists l []) n
  found_below n lt l = (λ e. held.placed n l e lt, λ h. (node_in l n h).0)

  -- A place is the first of these, or the end of the list's ring.
  pub first_is : (l : ℕ) (a b : List ℕ) → l < length lists → get_or lists l [] ≡ a ++ b
      → cond (nat_lt (first_or b (nodes + l)) nodes) (Some (first_or b (nodes + l))) None ≡ slice_get b 0
  first_is l a [] lt is = far (nodes + l) (omega arith)
    where
      far : (x : ℕ) → nodes ≤ x → ◌≡◌ {A = Option ℕ} (cond (nat_lt x nodes) (Some x) None) None
      far x le = grind (arith, common_steps)
  first_is l a (y ∷ b) lt is = near y (node_of_list l a y b is).3
    where
      near : (x : ℕ) → x < nodes → ◌≡◌ {A = Option ℕ} (cond (nat_lt x nodes) (Some x) None) (Some x)
      near x le = grind (arith, common_steps)

  pub next_of_end : (l : ℕ) → l < length lists → next_at links (nodes + l) ≡ first_or (get_or lists l []) (nodes + l)
  next_of_end l lt = leads (get_or lists l []) (held.chains l lt)
    where
      leads : (xs : List ℕ) → IsChain links nodes l (nodes + l) xs (nodes + l) → next_at links (nodes + l) ≡ first_or xs (nodes + l)
      leads [] c = c.0
      leads (x ∷ xs) c = c.0

  -- Where a node can be put in.
  pub put_ready : (l : ℕ) (a b : List ℕ) (n at : ℕ) → l < length lists → get_or lists l [] ≡ a ++ b → at ≡ first_or b (nodes + l) → n < nodes → ((m : ℕ) → Contains (get_or lists m []) n → ⊥)
      → (n < length links) × (at < length links) × (prev_at links at < length links) × (n ≢ at) × (n ≢ prev_at links at)
  put_ready l a b n at lt is at_is few free =
      let chain = chain_of l (a ++ b) lt is in
      let before = prev_known links nodes l (length links) (omega (arith, held.size)) (nodes + l) a b (nodes + l) chain (held.ends l lt) (omega (arith, held.size)) in
      let own = first_known links nodes l (nodes + l) a b (nodes + l) chain (held.ends l lt) in
      let other : list_at links n ≢ Some l = λ e. free l (held.placed n l e few) in (
        omega (arith, held.size),
        subst (λ x. x < length links) (sym at_is) (first_within b (λ y rest e. (node_of_list l a y rest (is ∙ ap (λ r. a ++ r) e)).3)),
        subst (λ x. prev_at links x < length links) (sym at_is) before.1,
        λ e. other (ap (list_at links) (e ∙ at_is) ∙ own),
        λ e. other (ap (list_at links) (e ∙ ap (prev_at links) at_is) ∙ before.0),
      )
    where
      first_within : (b : List ℕ) → ((y : ℕ) (rest : List ℕ) → b ≡ y ∷ rest → y < nodes) → first_or b (nodes + l) < length links
      first_within [] h = omega (arith, held.size)
      first_within (y ∷ b) h = omega (arith, held.size, h y b refl)

  -- What a node that is taken out has round it.
  pub take_ready : (l : ℕ) (a : List ℕ) (n : ℕ) (b : List ℕ) → get_or lists l [] ≡ a ++ n ∷ b
      → (n < length links) × (prev_at links n < length links) × (next_at links n < length links) × (n ≢ prev_at links n) × (n ≢ next_at links n)
  take_ready l a n b is =
      let known = node_of_list l a n b is in
      let chain = chain_of l (a ++ n ∷ b) known.0 is in
      let before = prev_known links nodes l (length links) (omega (arith, held.size)) (nodes + l) a (n ∷ b) (nodes + l) chain (held.ends l known.0) (omega (arith, held.size, known.0)) in
      let all = node_known links nodes l (nodes + l) a n b (nodes + l) chain in
      let apart_end : n ≢ nodes + l = omega (arith, known.3) in (
        omega (arith, held.size, known.3),
        before.1,
        subst (λ x. x < length links) (sym known.1) (first_within l a n b is),
        prev_of_node_apart links nodes l (nodes + l) a n b (nodes + l) chain apart_end,
        λ e. apart-first n [] b (nodes + l) apart_end all.3 (e ∙ known.1),
      )
    where
      rest_within : (l : ℕ) (a b : List ℕ) → l < length lists → get_or lists l [] ≡ a ++ b → first_or b (nodes + l) < length links
      rest_within l a [] lt is = omega (arith, held.size)
      rest_within l a (y ∷ b) lt is = let known = node_of_list l a y b is in omega (arith, held.size, known.3)

      first_within : (l : ℕ) (a : List ℕ) (n : ℕ) (b : List ℕ) → get_or lists l [] ≡ a ++ n ∷ b → first_or b (nodes + l) < length links
      first_within l a n b is = rest_within l (a ++ n ∷ []) b (node_of_list l a n b is).0 (is ∙ sym (append_assoc a (n ∷ []) b))

module _ (old new : List Link) (nodes : ℕ) (lists : List (List ℕ)) (held : IsLinked old nodes lists) where
  -- The lists with one that has a node more.
  pub put_linked : (l : ℕ) (a b : List ℕ) (n at : ℕ) → l < length lists → get_or lists l [] ≡ a ++ b → at ≡ first_or b (nodes + l) → n < nodes → ((m : ℕ) → Contains (get_or lists m []) n → ⊥)
      → IsPutIn old new l n at → IsLinked new nodes (set lists l (a ++ n ∷ b))
  put_linked l a b n at lt is at_is few free put =
      let same_length : length (set lists l (a ++ n ∷ b)) ≡ length lists = length-set lists l (a ++ n ∷ b) in
      record {
        few_nodes = held.few_nodes;
        few_lists = omega (arith, held.few_lists, same_length);
        size = put.size ∙ held.size ∙ ap (λ k. nodes + k) (sym same_length);
        ends = λ m less. put.lists (nodes + m) (omega (arith, few)) ∙ held.ends m (omega (arith, same_length, less));
        chains = λ m less. chain_after m (omega (arith, same_length, less)) (cases_eq m l);
        placed = λ x m e few_x. placed_after x m e few_x (cases_eq x n) (cases_eq m l);
      }
    where
      free_list : (m : ℕ) → list_at old n ≢ Some m
      free_list m e = free m (held.placed n m e few)

      chain : IsChain old nodes l (nodes + l) (a ++ b) (nodes + l)
      chain = subst (λ r. IsChain old nodes l (nodes + l) r (nodes + l)) is (held.chains l lt)

      other : (m : ℕ) → (m ≡ l → ⊥) → (x y : ℕ) → list_at old x ≡ Some m → list_at old y ≡ Some l → x ≢ y
      other m d x y f g e = d (same_Some m l (sym f ∙ ap (list_at old) e ∙ g))

      at_own : list_at old at ≡ Some l
      at_own = ap (list_at old) at_is ∙ first_known old nodes l (nodes + l) a b (nodes + l) chain (held.ends l lt)

      before_own : list_at old (prev_at old at) ≡ Some l
      before_own = ap (λ x. list_at old (prev_at old x)) at_is ∙ (prev_known old nodes l (length old) (omega (arith, held.size)) (nodes + l) a b (nodes + l) chain (held.ends l lt) (omega (arith, held.size, lt))).0

      chain_after : (m : ℕ) → m < length lists → (m ≡ l) ⊎ (m ≡ l → ⊥) → IsChain new nodes m (nodes + m) (get_or (set lists l (a ++ n ∷ b)) m []) (nodes + m)
      chain_after m less (inl e) =
          subst (λ k. IsChain new nodes k (nodes + k) (get_or (set lists l (a ++ n ∷ b)) k []) (nodes + k)) (sym e)
          (subst (λ r. IsChain new nodes l (nodes + l) r (nodes + l)) (sym (get_or-set_same lists l (a ++ n ∷ b) [] lt))
          (put_chain old new nodes l n at put few (nodes + l) a b (nodes + l) at_is (omega arith) (omega (arith, few))
          (apart_from_chain old nodes l n (free_list l) (nodes + l) (a ++ b) (nodes + l) chain)
          (apart_from_nodes old nodes l (nodes + l) (omega arith) (nodes + l) (a ++ b) (nodes + l) chain) chain))
      chain_after m less (inr d) =
          subst (λ r. IsChain new nodes m (nodes + m) r (nodes + m)) (sym (get_or-set_other lists l m (a ++ n ∷ b) [] d))
          (other_chain old new nodes m
          (λ x f. let xn : x ≢ n = λ e. free_list m (sym (ap (list_at old) e) ∙ f) in
          (put.nexts x xn (other m d x (prev_at old at) f before_own), put.prevs x xn (other m d x at f at_own), put.lists x xn))
          (nodes + m) (get_or lists m []) (nodes + m) (held.ends m less) (held.ends m less) (held.chains m less))

      placed_after : (x m : ℕ) → list_at new x ≡ Some m → x < nodes → (x ≡ n) ⊎ (x ≡ n → ⊥) → (m ≡ l) ⊎ (m ≡ l → ⊥) → Contains (get_or (set lists l (a ++ n ∷ b)) m []) x
      placed_after x m e few_x (inl same) (inr d) = absurd (d (same_Some m l (sym e ∙ ap (list_at new) same ∙ put.its_list)))
      placed_after x m e few_x (inl same) (inl here) =
          subst (λ k. Contains (get_or (set lists l (a ++ n ∷ b)) k []) x) (sym here)
          (subst (λ r. Contains r x) (sym (get_or-set_same lists l (a ++ n ∷ b) [] lt)) (subst (Contains (a ++ n ∷ b)) (sym same) (contains_at a b n)))
      placed_after x m e few_x (inr d) (inl here) =
          subst (λ k. Contains (get_or (set lists l (a ++ n ∷ b)) k []) x) (sym here)
          (subst (λ r. Contains r x) (sym (get_or-set_same lists l (a ++ n ∷ b) [] lt))
          (contains_put a b n x (subst (λ r. Contains r x) is (held.placed x l (sym (put.lists x d) ∙ e ∙ ap Some here) few_x))))
      placed_after x m e few_x (inr d) (inr away) =
          subst (λ r. Contains r x) (sym (get_or-set_other lists l m (a ++ n ∷ b) [] away)) (held.placed x m (sym (put.lists x d) ∙ e) few_x)

  -- The lists with one that has a node less.
  pub take_linked : (l : ℕ) (a : List ℕ) (n : ℕ) (b : List ℕ) → get_or lists l [] ≡ a ++ n ∷ b
      → IsTakenOut old new n → IsLinked new nodes (set lists l (a ++ b))
  take_linked l a n b is out =
      let same_length : length (set lists l (a ++ b)) ≡ length lists = length-set lists l (a ++ b) in
      record {
        few_nodes = held.few_nodes;
        few_lists = omega (arith, held.few_lists, same_length);
        size = out.size ∙ held.size ∙ ap (λ k. nodes + k) (sym same_length);
        ends = λ m less. out.lists (nodes + m) (omega (arith, few)) ∙ held.ends m (omega (arith, same_length, less));
        chains = λ m less. chain_after m (omega (arith, same_length, less)) (cases_eq m l);
        placed = λ x m e few_x. placed_after x m e few_x (cases_eq x n) (cases_eq m l);
      }
    where
      lt : l < length lists
      lt = (node_of_list old nodes lists held l a n b is).0

      few : n < nodes
      few = (node_of_list old nodes lists held l a n b is).3

      own : list_at old n ≡ Some l
      own = (node_of_list old nodes lists held l a n b is).2

      chain : IsChain old nodes l (nodes + l) (a ++ n ∷ b) (nodes + l)
      chain = subst (λ r. IsChain old nodes l (nodes + l) r (nodes + l)) is (held.chains l lt)

      other : (m : ℕ) → (m ≡ l → ⊥) → (x y : ℕ) → list_at old x ≡ Some m → list_at old y ≡ Some l → x ≢ y
      other m d x y f g e = d (same_Some m l (sym f ∙ ap (list_at old) e ∙ g))

      next_own : list_at old (next_at old n) ≡ Some l
      next_own = ap (list_at old) (node_of_list old nodes lists held l a n b is).1
          ∙ first_known old nodes l (nodes + l) (a ++ n ∷ []) b (nodes + l) (subst (λ r. IsChain old nodes l (nodes + l) r (nodes + l)) (sym (append_assoc a (n ∷ []) b)) chain) (held.ends l lt)

      before_own : list_at old (prev_at old n) ≡ Some l
      before_own = (prev_known old nodes l (length old) (omega (arith, held.size)) (nodes + l) a (n ∷ b) (nodes + l) chain (held.ends l lt) (omega (arith, held.size, lt))).0

      chain_after : (m : ℕ) → m < length lists → (m ≡ l) ⊎ (m ≡ l → ⊥) → IsChain new nodes m (nodes + m) (get_or (set lists l (a ++ b)) m []) (nodes + m)
      chain_after m less (inl e) =
          subst (λ k. IsChain new nodes k (nodes + k) (get_or (set lists l (a ++ b)) k []) (nodes + k)) (sym e)
          (subst (λ r. IsChain new nodes l (nodes + l) r (nodes + l)) (sym (get_or-set_same lists l (a ++ b) [] lt))
          (take_chain old new nodes l n out (nodes + l) a b (nodes + l) (omega arith) few (omega (arith, few))
          (apart_from_nodes old nodes l (nodes + l) (omega arith) (nodes + l) (a ++ n ∷ b) (nodes + l) chain) chain))
      chain_after m less (inr d) =
          subst (λ r. IsChain new nodes m (nodes + m) r (nodes + m)) (sym (get_or-set_other lists l m (a ++ b) [] d))
          (other_chain old new nodes m
          (λ x f. (out.nexts x (other m d x n f own) (other m d x (prev_at old n) f before_own), out.prevs x (other m d x n f own) (other m d x (next_at old n) f next_own), out.lists x (other m d x n f own)))
          (nodes + m) (get_or lists m []) (nodes + m) (held.ends m less) (held.ends m less) (held.chains m less))

      placed_after : (x m : ℕ) → list_at new x ≡ Some m → x < nodes → (x ≡ n) ⊎ (x ≡ n → ⊥) → (m ≡ l) ⊎ (m ≡ l → ⊥) → Contains (get_or (set lists l (a ++ b)) m []) x
      placed_after x m e few_x (inl same) away = absurd (none-some m (sym out.its_list ∙ sym (ap (list_at new) same) ∙ e))
      placed_after x m e few_x (inr d) (inl here) =
          subst (λ k. Contains (get_or (set lists l (a ++ b)) k []) x) (sym here)
          (subst (λ r. Contains r x) (sym (get_or-set_same lists l (a ++ b) [] lt))
          (contains_cut a b n x d (subst (λ r. Contains r x) is (held.placed x l (sym (out.lists x d) ∙ e ∙ ap Some here) few_x))))
      placed_after x m e few_x (inr d) (inr away) =
          subst (λ r. Contains r x) (sym (get_or-set_other lists l m (a ++ b) [] away)) (held.placed x m (sym (out.lists x d) ∙ e) few_x)

-- The array of places that stand alone holds empty lists.
pub lone_linked : (links : List Link) (nodes lists : ℕ) → nodes ≤ 65536 → lists ≤ 65536 → length links ≡ nodes + lists
    → ((x : ℕ) → x < nodes + lists → link_at links x ≡ lone nodes x) → IsLinked links nodes (replicate lists [])
lone_linked links nodes lists few_nodes few_lists size each = record {
  few_nodes = few_nodes;
  few_lists = omega (arith, few_lists, count);
  size = size ∙ ap (λ k. nodes + k) (sym count);
  ends = λ l lt. ap (λ link. link.list) (each (nodes + l) (omega (arith, lt, count))) ∙ own l;
  chains = λ l lt. subst (λ r. IsChain links nodes l (nodes + l) r (nodes + l)) (sym (empty lists l))
      (ap (λ link. link.next) (each (nodes + l) (omega (arith, lt, count))), ap (λ link. link.prev) (each (nodes + l) (omega (arith, lt, count))));
  placed = λ x l e lt. absurd (none-some l (sym (free x lt) ∙ sym (ap (λ link. link.list) (each x (omega (arith, lt)))) ∙ e));
}
  where
    count : length (replicate {A = List ℕ} lists []) ≡ lists
    count = length-replicate lists []

    own : (l : ℕ) → ◌≡◌ {A = Option ℕ} (cond (nat_lt (nodes + l) nodes) None (Some (nodes + l - nodes))) (Some l)
    own l = grind (arith, common_steps)

    free : (x : ℕ) → x < nodes → ◌≡◌ {A = Option ℕ} (cond (nat_lt x nodes) None (Some (x - nodes))) None
    free x lt = grind (arith, common_steps)

    empty : (n l : ℕ) → get_or (replicate {A = List ℕ} n []) l [] ≡ []
    empty zero l = refl
    empty (suc n) zero = refl
    empty (suc n) (suc l) = empty n l
