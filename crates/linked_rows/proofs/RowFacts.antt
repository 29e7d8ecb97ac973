-- What the calls of `Rows` find and leave, over the lists that callers see.
use Rattle.std.specs.Prelude.{◌≡◌, ◌≢◌, ◌↔◌, ℕ, ◌+◌, ◌<◌, ◌≤◌, List, [], ◌∷◌, ◌++◌, length, get_or, set, drop, replicate, Option, Some, None, IsNone, cond, nat_lt, slice_get}
use Rattle.std.proofs.Common.{refl, sym, ap, subst, ◌∙◌, arith}
use Rattle.std.proofs.lemmas.Grind.{common_steps}
use Rattle.std.proofs.lemmas.List.{append-nil}
use Rattle.std.proofs.lemmas.Option.{none-some, same_Some}
use Rattle.std.proofs.Common.{append_assoc}
use Rattle.linked_rows.specs.declared.links.Link.{Link}
use Rattle.linked_rows.specs.Links.{link_at, next_at, prev_at, IsPutIn, IsTakenOut, IsLinked, lists_in, lists_of}
use Rattle.linked_rows.specs.Rows.{NodeLists, row, IsIn, IsPlaced, IsFree, Stands, with_row}
use Rattle.linked_rows.proofs.LinkedFacts.{split_at, seen, node_of_list, node_in, found_below, first_is, next_of_end, put_ready, take_ready, put_linked, take_linked}

pub none_from_found : (o : Option ℕ) (P : ℕ → Type 0) → ((l : ℕ) → (o ≡ Some l) ↔ P l) → IsNone o ↔ ((l : ℕ) → P l → ⊥)
none_from_found None P h = (λ _ l p. none-some l ((h l).1 p), λ _. refl)
none_from_found (Some l) P h = (λ e m p. (cc e), λ f. absurd (f l ((h l).0 refl)))

pub head_row : (r : List ℕ) (n : ℕ) → slice_get r 0 ≡ Some n → r ≡ n ∷ drop 1 r
head_row [] n e = absurd (none-some n e)
head_row (x ∷ r) n e = ap (λ y. y ∷ r) (same_Some x n e)

read_at : (links : List Link) (i : ℕ) (x : Link) → i < length links → x ≡ get_or links i x → link_at links i ≡ x
read_at links i x lt e = sym (e ∙ default links i x lt)
  where
    default : (links : List Link) (i : ℕ) (x : Link) → i < length links → get_or links i x ≡ link_at links i
    default links i x lt = grind (arith, common_steps)

-- What is left after a change, seen as lists.
pub shows : (new : List Link) (nodes : ℕ) (v : NodeLists) (l : ℕ) (r : List ℕ) → nodes ≡ v.nodes → IsLinked new nodes (set v.lists l r) → lists_of new nodes ≡ with_row v l r
shows new nodes v l r same held = ap (λ ls. record { lists = ls; nodes = nodes }) (seen new nodes (set v.lists l r) held) ∙ ap (λ n. record { lists = set v.lists l r; nodes = n }) same

pub lone_shows : (new : List Link) (nodes lists : ℕ) → IsLinked new nodes (replicate lists []) → lists_of new nodes ≡ record { lists = replicate lists []; nodes = nodes }
lone_shows new nodes lists held = ap (λ ls. record { lists = ls; nodes = nodes }) (seen new nodes (replicate lists []) held)

module _ (links : List Link) (nodes : ℕ) (v : NodeLists) (inside : IsLinked links nodes (lists_in links nodes)) (is : lists_of links nodes ≡ v) where
  pub linked : IsLinked links nodes v.lists
  linked = subst (IsLinked links nodes) (ap (λ w. w.lists) is) inside

  pub same_nodes : nodes ≡ v.nodes
  same_nodes = ap (λ w. w.nodes) is

  -- Where a node that is in some list stands.
  pub standing : (n : ℕ) → IsPlaced v n → (l : ℕ) × (a : List ℕ) × (b : List ℕ) × Stands v l a n b
  standing n h = let parts = split_at (row v h.0) n h.1 in (h.0, parts.0, parts.1, parts.2)

  pub found_then : (n : ℕ) (x : Link) → n < nodes → x ≡ get_or links n x → (l : ℕ) → (x.list ≡ Some l) ↔ IsIn v n l
  found_then n x lt e l = subst (λ y. (y.list ≡ Some l) ↔ IsIn v n l) (read_at links n x (omega (arith, linked.size)) e) (found_below links nodes v.lists linked n lt l)

  pub found_else : (n : ℕ) → nodes ≤ n → (l : ℕ) → ◌≡◌ {A = Option ℕ} None (Some l) ↔ IsIn v n l
  found_else n le l = (λ e. absurd (none-some l e), λ h. absurd (omega (arith, (node_in links nodes v.lists linked l n h).1)))

  pub first_then : (l : ℕ) (x : Link) → l < length v.lists → x ≡ get_or links (nodes + l) x → cond (nat_lt x.next nodes) (Some x.next) None ≡ slice_get (row v l) 0
  first_then l x lt e =
      ap (λ k. cond (nat_lt k nodes) (Some k) None) (sym (ap (λ y. y.next) (read_at links (nodes + l) x (omega (arith, linked.size, lt)) e)) ∙ next_of_end links nodes v.lists linked l lt)
      ∙ first_is links nodes v.lists linked l [] (row v l) lt refl

  pub below : (n : ℕ) → IsPlaced v n → n < length links
  below n h = let known = node_in links nodes v.lists linked h.0 n h.1 in omega (arith, known.1, linked.size)

  pub next_then : (n : ℕ) (x : Link) (l : ℕ) (a b : List ℕ) → x ≡ get_or links n x → Stands v l a n b → cond (nat_lt x.next nodes) (Some x.next) None ≡ slice_get b 0
  next_then n x l a b e st =
      let known = node_of_list links nodes v.lists linked l a n b st in
      ap (λ k. cond (nat_lt k nodes) (Some k) None) (sym (ap (λ y. y.next) (read_at links n x (omega (arith, linked.size, known.3)) e)) ∙ known.1)
      ∙ first_is links nodes v.lists linked l (a ++ n ∷ []) b known.0 (st ∙ sym (append_assoc a (n ∷ []) b))

  -- The list that stands at a node's place is the one that it is in.
  pub its_list : (n : ℕ) (x : Link) (l : ℕ) (a b : List ℕ) → x ≡ get_or links n x → Stands v l a n b → x.list ≡ Some l
  its_list n x l a b e st =
      let known = node_of_list links nodes v.lists linked l a n b st in
      sym (ap (λ y. y.list) (read_at links n x (omega (arith, linked.size, known.3)) e)) ∙ known.2

  pub ready_back : (l n : ℕ) → l < length v.lists → n < v.nodes → IsFree v n
      → (n < length links) × (nodes + l < length links) × (prev_at links (nodes + l) < length links) × (n ≢ nodes + l) × (n ≢ prev_at links (nodes + l))
  ready_back l n lt few free = put_ready links nodes v.lists linked l (row v l) [] n (nodes + l) lt (sym (append-nil (row v l))) refl (omega (arith, few, same_nodes)) free

  pub back_linked : (new : List Link) (l n : ℕ) → l < length v.lists → n < v.nodes → IsFree v n → IsPutIn links new l n (nodes + l) → IsLinked new nodes (set v.lists l (row v l ++ n ∷ []))
  back_linked new l n lt few free put = put_linked links new nodes v.lists linked l (row v l) [] n (nodes + l) lt (sym (append-nil (row v l))) refl (omega (arith, few, same_nodes)) free put

  pub ready_before : (n at l : ℕ) (a b : List ℕ) → Stands v l a at b → n < v.nodes → IsFree v n
      → (n < length links) × (at < length links) × (prev_at links at < length links) × (n ≢ at) × (n ≢ prev_at links at)
  ready_before n at l a b st few free =
      put_ready links nodes v.lists linked l a (at ∷ b) n at (node_of_list links nodes v.lists linked l a at b st).0 st refl (omega (arith, few, same_nodes)) free

  pub before_linked : (new : List Link) (n at : ℕ) (x : Link) (told l : ℕ) (a b : List ℕ) → x ≡ get_or links at x → x.list ≡ Some told → Stands v l a at b → n < v.nodes → IsFree v n
      → IsPutIn links new told n at → IsLinked new nodes (set v.lists l (a ++ n ∷ at ∷ b))
  before_linked new n at x told l a b e says st few free put =
      let same : told ≡ l = same_Some told l (sym says ∙ its_list at x l a b e st) in
      put_linked links new nodes v.lists linked l a (at ∷ b) n at (node_of_list links nodes v.lists linked l a at b st).0 st refl (omega (arith, few, same_nodes)) free
      (subst (λ k. IsPutIn links new k n at) same put)

  pub ready_out : (n l : ℕ) (a b : List ℕ) → Stands v l a n b
      → (n < length links) × (prev_at links n < length links) × (next_at links n < length links) × (n ≢ prev_at links n) × (n ≢ next_at links n)
  ready_out n l a b st = take_ready links nodes v.lists linked l a n b st

  pub out_linked : (new : List Link) (n l : ℕ) (a b : List ℕ) → Stands v l a n b → IsTakenOut links new n → IsLinked new nodes (set v.lists l (a ++ b))
  out_linked new n l a b st out = take_linked links new nodes v.lists linked l a n b st out

  -- A node that is taken out is in no list, and a node that is in one is one of the nodes.
  pub out_free : (new : List Link) (n l : ℕ) (a b : List ℕ) → Stands v l a n b → IsTakenOut links new n → IsFree (with_row v l (a ++ b)) n
  out_free new n l a b st out list h =
      none-some list (sym out.its_list ∙ (node_in new nodes (set v.lists l (a ++ b)) (out_linked new n l a b st out) list n h).0)

  pub below_all : (n : ℕ) → IsPlaced v n → n < v.nodes
  below_all n h = let known = node_in links nodes v.lists linked h.0 n h.1 in omega (arith, known.1, same_nodes)
