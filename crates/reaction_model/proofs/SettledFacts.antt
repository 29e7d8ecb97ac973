-- Where what stands at each number of an order so far is the definition's value, the next one's rule gives its value too.
use Rattle.std.specs.Prelude.{◌≡◌, ℕ, ◌+◌, ◌<◌, ◌≢◌, suc, Bool, true, false, not, ◌||◌, ◌==◌, List, [], ◌∷◌, ◌++◌, length, filter, count_by, slice_get, Option, Some, None, option_and_then, if◌then◌else◌, refl}
use Rattle.std.specs.List.{list_any}
use Rattle.std.specs.Str.{bytes_eq}
use Rattle.std.proofs.Common.{sym, ap, subst, ◌∙◌, arith, get_or, take, drop, drop-cons, eq-eqb}
use Rattle.std.proofs.Math.ListN.{set}
use Rattle.std.proofs.lemmas.Bool.{eqb-true, false≢true}
use Rattle.std.proofs.lemmas.List.{get_or-set_same, get_or-set_other, take-append-drop, take_more}
use Rattle.std.proofs.lemmas.List.Folds.{list_any-append}
use Rattle.std.proofs.lemmas.Option.{same_Some, unwrap_or-slice_get, slice_get-get_or, slice_get_within}
use Rattle.std.proofs.lemmas.Slice.Eq.{bytes_eq-Decides}
use Rattle.frp_tree.specs.declared.syntax.Ty.{Ty}
use Rattle.frp_tree.specs.declared.syntax.Ty.TheVariants.{U8}
use Rattle.frp_tree.specs.declared.syntax.Value.{Value}
use Rattle.frp_tree.specs.Tree.{Tree, ClauseTree, BehaviourTree, Plain, Input, Table, Reactive, DeclTree, ProgramTree}
use Rattle.efrp_meaning.specs.Decls.{decl_named, is_input, is_table, is_reactive}
use Rattle.efrp_meaning.specs.Types.{type_of, type_of_name, value_type, IsTypedAs, IsTyped}
use Rattle.efrp_meaning.specs.Needs.{names_in, IsNamedIn, clause_for}
use Rattle.efrp_meaning.specs.Meaning.{State, Samples, old_state, sample_of, Always, Now, Later, clause_rule, rule_on, evaluate, stands_for, value_by, value_on, depth}
use Rattle.efrp_meaning.specs.Causal.{dependencies_by, DependsOn, IsCausalOn}
use Rattle.efrp_meaning.specs.States.{HasValue, IsState, AreSamples, NamesDiffer}
use Rattle.efrp_meaning.proofs.TypedValueLaws.{FoundTyped, decl-typed}
use Rattle.efrp_meaning.proofs.DefinedLaws.{ClauseTyped, clause-typed, defined-at-depth}
use Rattle.efrp_meaning.proofs.MeaningLaws.{value_on-solves}
use Rattle.efrp_types.specs.Numbers.{decl_number}
use Rattle.causality.specs.Orders.{is_among, IsOrder}
use Rattle.reaction_model.specs.Values.{nothing, value_or_nothing, value_named, value_of, settled_by}
use Rattle.reaction_model.specs.Stands.{IsValue, AreGiven, AreValues}
use Rattle.reaction_model.proofs.EvaluateLaws.{value-is}
use Rattle.reaction_model.proofs.NumberFacts.{each-at, number-at, name-finds, by-number, has, one-is-some, not-before}

-- What stands at a number.
abbrev pub at : List Value → ℕ → Value
at values n = value_or_nothing (slice_get values n)

at-same : (values : List Value) (i : ℕ) (v : Value) → i < length values → at (set values i v) i ≡ v
at-same values i v inside = unwrap_or-slice_get (set values i v) i nothing ∙ get_or-set_same values i v nothing inside

at-other : (values : List Value) (i n : ℕ) (v : Value) → n ≢ i → at (set values i v) n ≡ at values n
at-other values i n v other = unwrap_or-slice_get (set values i v) n nothing ∙ get_or-set_other values i n v nothing other ∙ sym (unwrap_or-slice_get values n nothing)

-- Names but for one.
others-kept : (x y : List ℕ) → bytes_eq x y ≡ false → (names : List (List ℕ)) → list_any (bytes_eq y) names ≡ true → list_any (bytes_eq y) (filter (λ z. not (bytes_eq x z)) names) ≡ true
others-kept x y other [] h = h
others-kept x y other (n ∷ ns) h = by_name (bytes_eq y n) refl (bytes_eq x n) refl h (others-kept x y other ns)
  where
    by_name : (b : Bool) → bytes_eq y n ≡ b → (k : Bool) → bytes_eq x n ≡ k → (b || list_any (bytes_eq y) ns) ≡ true
        → (list_any (bytes_eq y) ns ≡ true → list_any (bytes_eq y) (filter (λ z. not (bytes_eq x z)) ns) ≡ true)
        → list_any (bytes_eq y) (if not k then n ∷ filter (λ z. not (bytes_eq x z)) ns else filter (λ z. not (bytes_eq x z)) ns) ≡ true
    by_name true same true own h rest = absurd (false≢true (sym other ∙ ap (bytes_eq x) ((bytes_eq-Decides y n).0 same) ∙ own))
    by_name true same false own h rest = ap (λ b. b || list_any (bytes_eq y) (filter (λ z. not (bytes_eq x z)) ns)) same
    by_name false same true own h rest = rest h
    by_name false same false own h rest = ap (λ b. b || list_any (bytes_eq y) (filter (λ z. not (bytes_eq x z)) ns)) same ∙ rest h

-- What is a value of one is one of the other, where both have the same number.
pub is-also : (t : Option Ty) (o o' : Option ℕ) (v : Value) → HasValue t o → ((n : ℕ) → o ≡ Some n → o' ≡ Some n) → IsValue t o' v → IsValue t o v
is-also None o o' v has same is = tt
is-also (Some t) None o' v has same is = absurd has
is-also (Some t) (Some n) o' v has same is = subst (λ k. IsValue (Some t) k v) (same n refl) is

-- The values of these stand at their numbers; at those of others old states and samples do.
pub record AreSettled (p : ProgramTree) (s : State) (j : Samples) (event : List ℕ) (front : List ℕ) (values : List Value) : Type 0 where
  pub settled : (n : ℕ) (d : DeclTree) → slice_get p.decls n ≡ Some d → has front n ≡ true → IsValue (value_type d) (value_on p s j event d.name (depth p)) (at values n)
  pub states : (n : ℕ) (d : DeclTree) → slice_get p.decls n ≡ Some d → has front n ≡ false → is_reactive d.behaviour ≡ true → IsValue (Some d.ty) (old_state p s d.name) (at values n)
  pub samples : (n : ℕ) (d : DeclTree) → slice_get p.decls n ≡ Some d → has front n ≡ false → is_input d.behaviour ≡ true → IsValue (Some U8) (sample_of p j d.name) (at values n)

pub begins : (p : ProgramTree) (s : State) (j : Samples) (event : List ℕ) (values : List Value) → AreGiven p s j values → AreSettled p s j event [] values
begins p s j event values given = record {
  settled = λ n d found inside. absurd (false≢true inside);
  states = λ n d found out reactive. given.states n d found reactive;
  samples = λ n d found out input. given.samples n d found input;
}

module _ (p : ProgramTree) (typed : IsTyped p) (differ : NamesDiffer p) (s : State) (is_state : IsState p s) (j : Samples) (are_samples : AreSamples p j) (event : List ℕ) (causal : IsCausalOn p event) where
  abbrev on : List ℕ → Option ℕ
  on y = value_on p s j event y (depth p)

  module _ (front : List ℕ) (values : List Value) (are : AreSettled p s j event front values) where
    -- A name whose number is among these.
    named : (y : List ℕ) → is_among p front y ≡ true → IsValue (type_of_name p y) (on y) (value_named p values y)
    named y among = by_number (decl_number p y) refl among
      where
        by_number : (o : Option ℕ) → decl_number p y ≡ o → elim o [ Some k ↦ has front k | None ↦ false ] ≡ true → IsValue (type_of_name p y) (on y) (value_named p values y)
        by_number None e h = absurd (false≢true h)
        by_number (Some k) e h =
            let c = by-number p y k e in
            subst (λ z. IsValue (type_of_name p y) (on z) (value_named p values y)) c.name
            (subst (λ o. IsValue (option_and_then value_type o) (on c.decl.name) (value_named p values y)) (sym c.found)
            (subst (λ o. IsValue (value_type c.decl) (on c.decl.name) (value_or_nothing (option_and_then (slice_get values) o))) (sym e)
            (are.settled k c.decl c.there h)))

    module _ (i : ℕ) (d : DeclTree) (found : slice_get p.decls i ≡ Some d) (out : has front i ≡ false) (behind : (y : List ℕ) → DependsOn p event d.name y → is_among p front y ≡ true) where
      finds : decl_named p.decls d.name ≡ Some d
      finds = name-finds p differ i d found

      -- What it depends on by its rule is among these.
      behind-by : (y : List ℕ) → list_any (bytes_eq y) (dependencies_by d.name (rule_on event d.behaviour)) ≡ true → is_among p front y ≡ true
      behind-by y h = behind y (ap (λ o. list_any (bytes_eq y) (elim o [ Some c ↦ dependencies_by d.name (rule_on event c.behaviour) | None ↦ [] ])) finds ∙ h)

      abbrev IsBehind : List (List ℕ) → Type 0
      IsBehind names = (y : List ℕ) → list_any (bytes_eq y) names ≡ true → is_among p front y ≡ true

      always-is : (e : Tree) → IsBehind (names_in e) → IsValue (type_of p e) (evaluate p (stands_for p s on None) e) (value_of p values e)
      always-is e known = value-is p typed values (stands_for p s on None) e (λ y inside. named y (known y inside))

      -- The own name stands for the old state.
      now-is : (e : Tree) → type_of_name p d.name ≡ Some d.ty → IsValue (Some d.ty) (old_state p s d.name) (at values i) → IsBehind (filter (λ y. not (bytes_eq d.name y)) (names_in e))
          → IsValue (type_of p e) (evaluate p (stands_for p s on (Some d.name)) e) (value_of p values e)
      now-is e type old known = value-is p typed values (stands_for p s on (Some d.name)) e (λ y inside. by_name y inside (bytes_eq d.name y) refl)
        where
          own : IsValue (type_of_name p d.name) (old_state p s d.name) (value_named p values d.name)
          own = subst (λ o. IsValue (type_of_name p d.name) (old_state p s d.name) (value_or_nothing (option_and_then (slice_get values) o))) (sym (number-at p differ i d found))
              (subst (λ t. IsValue t (old_state p s d.name) (at values i)) (sym type) old)

          by_name : (y : List ℕ) → IsNamedIn y e → (b : Bool) → bytes_eq d.name y ≡ b → IsValue (type_of_name p y) ((if b then old_state p s else on) y) (value_named p values y)
          by_name y inside true same = subst (λ z. IsValue (type_of_name p z) (old_state p s z) (value_named p values z)) ((bytes_eq-Decides d.name y).0 same) own
          by_name y inside false other = named y (known y (others-kept d.name y other (names_in e) inside))

      by_clause : (e : Tree) (later : Bool) → type_of p e ≡ Some d.ty → type_of_name p d.name ≡ Some d.ty → IsValue (Some d.ty) (old_state p s d.name) (at values i)
          → IsBehind (dependencies_by d.name (if later then Later e else Now e))
          → IsValue (Some d.ty) (value_by p s j on d.name (if later then Later e else Now e)) (settled_by p values (at values i) (if later then Later e else Now e))
      by_clause e true its type old known = old
      by_clause e false its type old known = subst (λ t. IsValue t (value_by p s j on d.name (Now e)) (value_of p values e)) its (now-is e type old known)

      by_clauses : (c : Option ClauseTree) → ClauseTyped p d.ty c → type_of_name p d.name ≡ Some d.ty → IsValue (Some d.ty) (old_state p s d.name) (at values i)
          → IsBehind (dependencies_by d.name (clause_rule c)) → IsValue (Some d.ty) (value_by p s j on d.name (clause_rule c)) (settled_by p values (at values i) (clause_rule c))
      by_clauses None its type old known = old
      by_clauses (Some c) its type old known = by_clause c.expr c.later its type old known

      by_behaviour : (b : BehaviourTree) → d.behaviour ≡ b → IsTypedAs p d.ty b → IsBehind (dependencies_by d.name (rule_on event b))
          → IsValue (if is_table b then None else Some d.ty) (value_by p s j on d.name (rule_on event b)) (settled_by p values (at values i) (rule_on event b))
      by_behaviour (Plain e) is its known = subst (λ t. IsValue t (value_by p s j on d.name (Always e)) (value_of p values e)) its (always-is e known)
      by_behaviour (Input port) is its known = subst (λ t. IsValue (Some t) (sample_of p j d.name) (at values i)) (sym its) (are.samples i d found out (ap is_input is))
      by_behaviour (Table entries) is its known = tt
      by_behaviour (Reactive init clauses) is its known =
          by_clauses (clause_for event clauses) (clause-typed p d.ty event clauses its.1)
          (ap (option_and_then value_type) finds ∙ ap (λ b. if is_table b then None else Some d.ty) is)
          (are.states i d found out (ap is_reactive is)) known

      rule-is : IsValue (value_type d) (value_by p s j on d.name (rule_on event d.behaviour)) (settled_by p values (at values i) (rule_on event d.behaviour))
      rule-is = by_behaviour d.behaviour refl (subst (FoundTyped p) finds (decl-typed p typed d.name)) behind-by

      -- What its rule gives is its value.
      next-is : IsValue (value_type d) (on d.name) (settled_by p values (at values i) (rule_on event d.behaviour))
      next-is =
          is-also (value_type d) (on d.name) (value_by p s j on d.name (rule_on event d.behaviour)) (settled_by p values (at values i) (rule_on event d.behaviour))
          (subst (λ o. HasValue (option_and_then value_type o) (on d.name)) finds (defined-at-depth p typed s is_state j are_samples event causal d.name))
          (λ n h. value_on-solves p s j event (depth p) d.name n d finds h) rule-is

      abbrev after : List Value
      after = set values i (settled_by p values (at values i) (rule_on event d.behaviour))

      has-next : (n : ℕ) → has (front ++ i ∷ []) n ≡ (has front n || ((i == n) || false))
      has-next n = list_any-append (λ m. m == n) front (i ∷ [])

      out-of : (n : ℕ) → has (front ++ i ∷ []) n ≡ false → (has front n ≡ false) × (n ≢ i)
      out-of n h = by_tests (has front n) refl (i == n) refl (sym (has-next n) ∙ h)
        where
          by_tests : (a : Bool) → has front n ≡ a → (b : Bool) → (i == n) ≡ b → (a || (b || false)) ≡ false → (has front n ≡ false) × (n ≢ i)
          by_tests true e b f h = absurd (false≢true (sym h))
          by_tests false e true f h = absurd (false≢true (sym h))
          by_tests false e false f h = (e, λ same. false≢true (sym f ∙ eq-eqb i n (sym same)))

      pub settles : i < length values → AreSettled p s j event (front ++ i ∷ []) after
      settles inside = record {
        settled = λ n c there h. by_place n c there (i == n) refl (sym (has-next n) ∙ h);
        states = λ n c there h reactive. let o = out-of n h in
            subst (IsValue (Some c.ty) (old_state p s c.name)) (sym (at-other values i n (settled_by p values (at values i) (rule_on event d.behaviour)) o.1)) (are.states n c there o.0 reactive);
        samples = λ n c there h input. let o = out-of n h in
            subst (IsValue (Some U8) (sample_of p j c.name)) (sym (at-other values i n (settled_by p values (at values i) (rule_on event d.behaviour)) o.1)) (are.samples n c there o.0 input);
      }
        where
          here : (c : DeclTree) → slice_get p.decls i ≡ Some c → IsValue (value_type c) (on c.name) (at after i)
          here c there =
              subst (λ k. IsValue (value_type k) (on k.name) (at after i)) (same_Some d c (sym found ∙ there))
              (subst (IsValue (value_type d) (on d.name)) (sym (at-same values i (settled_by p values (at values i) (rule_on event d.behaviour)) inside)) next-is)

          or-first : (a : Bool) → (a || (false || false)) ≡ true → a ≡ true
          or-first true h = refl
          or-first false h = h

          by_place : (n : ℕ) (c : DeclTree) → slice_get p.decls n ≡ Some c → (b : Bool) → (i == n) ≡ b → (has front n || (b || false)) ≡ true → IsValue (value_type c) (on c.name) (at after n)
          by_place n c there true e h = subst (λ m. (k : DeclTree) → slice_get p.decls m ≡ Some k → IsValue (value_type k) (on k.name) (at after m)) (eqb-true i n e) here c there
          by_place n c there false e h =
              subst (IsValue (value_type c) (on c.name)) (sym (at-other values i n (settled_by p values (at values i) (rule_on event d.behaviour)) (λ same. false≢true (sym e ∙ eq-eqb i n (sym same)))))
              (are.settled n c there (or-first (has front n) h))

-- Where all stand in the order, all values stand at their numbers.
pub settled-all : (p : ProgramTree) (s : State) (j : Samples) (event order : List ℕ) (values : List Value) → IsOrder p event order → AreSettled p s j event order values → AreValues p s j event values
settled-all p s j event order values ordered are n d found = are.settled n d found (one-is-some (λ m. m == n) order (ordered.once n (slice_get_within p.decls n d found)))

-- One number of an order more.
pub settles-more : (p : ProgramTree) → IsTyped p → NamesDiffer p → (s : State) → IsState p s → (j : Samples) → AreSamples p j → (event : List ℕ) → IsCausalOn p event → (order : List ℕ) → IsOrder p event order
    → (k : ℕ) → k < length order → (d : DeclTree) → slice_get p.decls (get_or order k 0) ≡ Some d → (values : List Value) → length values ≡ length p.decls → AreSettled p s j event (take k order) values
    → (v : Value) → v ≡ settled_by p values (at values (get_or order k 0)) (rule_on event d.behaviour) → AreSettled p s j event (take (k + 1) order) (set values (get_or order k 0) v)
settles-more p typed differ s is_state j are_samples event causal order ordered k more d found values long are v is =
    let i = get_or order k 0 in
    let split : order ≡ take k order ++ i ∷ drop (suc k) order = sym (take-append-drop k order) ∙ ap (λ rest. take k order ++ rest) (drop-cons order k 0 more) in
    let within = slice_get_within p.decls i d found in
    let once = ap (λ xs. count_by (λ m. m == i) xs) (sym split) ∙ ordered.once i within in
    let inside : i < length values = omega (arith, within, long) in
    subst (λ w. AreSettled p s j event (take (k + 1) order) (set values i w)) (sym is)
    (subst (λ front. AreSettled p s j event front (set values i (settled_by p values (at values i) (rule_on event d.behaviour)))) (sym (take_more order k 0 more))
    (settles p typed differ s is_state j are_samples event causal (take k order) values are i d found (not-before (take k order) (drop (suc k) order) i once)
    (λ y depends. ordered.behind (take k order) (drop (suc k) order) i d split found y depends) inside))

pub number-within : (p : ProgramTree) (event order : List ℕ) → IsOrder p event order → (k : ℕ) → k < length order → get_or order k 0 < length p.decls
number-within p event order ordered k more = each-at (λ n. n < length p.decls) order k (get_or order k 0) ordered.within (slice_get-get_or order k 0 more)
