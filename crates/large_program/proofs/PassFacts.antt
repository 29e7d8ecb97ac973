-- Each large program passes the checks of names, types and causality: what holds of each definition, whatever is drawn.
use Rattle.std.proofs.Common.{◌≡◌, ◌≢◌, ℕ, zero, suc, ◌+◌, ◌*◌, ◌%◌, ◌==◌, nat_lt, ◌<◌, ◌≤◌, Bool, true, false, not, ◌||◌, if◌then◌else◌, cond, codes, List, [], ◌∷◌, ◌++◌, map, filter, Option, Some, None, refl, ap, subst, ◌∙◌, arith}
use Rattle.std.specs.Fmt.{digits}
use Rattle.std.specs.List.{AllByRecursion, flat_map, list_all, range_with_len}
use Rattle.std.specs.Str.{bytes_eq}
use Rattle.std.proofs.lemmas.Bool.{agree_below, agree_below_at, and_from, eqb-false, eqb-true, le-leb, ne_eqb}
use Rattle.frp_tree.specs.declared.syntax.Ty.{Ty}
use Rattle.frp_tree.specs.declared.syntax.Ty.TheVariants.{U8, U16}
use Rattle.frp_tree.specs.declared.syntax.Ty.TheVariants as ty
use Rattle.frp_tree.specs.declared.syntax.Lit.TheVariants as lit
use Rattle.frp_tree.specs.declared.syntax.Event.{Event}
use Rattle.frp_tree.specs.declared.syntax.BinOp.{BinOp}
use Rattle.frp_tree.specs.declared.syntax.BinOp.TheVariants.{Add, BitXor, Lt, Sub}
use Rattle.frp_tree.specs.Tree.{Tree, Const, Name, Binary, If, ClauseTree, DeclTree, OutputTree}
use Rattle.pic_isa.specs.Sources.{sources}
use Rattle.efrp_meaning.specs.Decls.{decl_named}
use Rattle.efrp_meaning.specs.Types.{literal_type, type_of_name, binary_type, if_type}
use Rattle.efrp_meaning.specs.Needs.{names_in}
use Rattle.efrp_meaning.specs.Meaning.{Now, Later, clause_rule, rule_on}
use Rattle.efrp_meaning.specs.Causal.{dependencies_by, IsCausalOn, IsOrderOn, place_of, stands_behind}
use Rattle.efrp_meaning.proofs.CausalLaws.{ordered-is-causal}
use Rattle.efrp_types.specs.declared.faults.CheckFault.{CheckFault}
use Rattle.efrp_types.specs.declared.faults.CheckFault.TheVariants.{LiteralRange, UnknownEvent, ClauseTwice}
use Rattle.efrp_types.specs.NameFaults.{fault_if, is_event, name_fault, use_faults, behaviour_faults, expression_faults, item_faults, name_faults}
use Rattle.efrp_types.specs.TypeFaults.{unlike, node_of_one, node_of_two, node_of_three, binary_faults, faults_as, behaviour_type_faults, type_faults}
use Rattle.efrp_types.specs.Passes.{Passes}
use Rattle.large_program.specs.Draws.{after_draws, draw}
use Rattle.large_program.specs.LargePrograms.{event_name, definition_name, event_on, type_of, literal_for, partner, expression, clause, first_event, second_event, definition, nth_definition, definitions_below, large_program}

-- What holds below a number, one by one.
abbrev pub AllBelow : (ℕ → Type 0) → ℕ → Type 0
AllBelow P zero = Unit {0}
AllBelow P (suc n) = P n × AllBelow P n

pub at_one : (P : ℕ → Type 0) (n : ℕ) → AllBelow P n → (i : ℕ) → i < n → P i
at_one P zero all i below = absurd (omega arith)
at_one P (suc n) all i below = by_test (i == n) refl (at_one P n all.1 i)
  where
    by_test : (b : Bool) → (i == n) ≡ b → (i < n → P i) → P i
    by_test true e rest = let same : n ≡ i = omega (arith, eqb-true i n e) in subst P same all.0
    by_test false e rest = rest (omega (arith, eqb-false i n e))

-- Rows of definitions.
none_in_row : {A : Type 0} (faults : A → List CheckFault) (g : ℕ → A) (a n : ℕ) → ((i : ℕ) → i < a + n → faults (g i) ≡ []) → flat_map faults (map g (range_with_len a n)) ≡ []
none_in_row faults g a zero each = refl
none_in_row faults g a (suc n) each =
    ap (λ x. x ++ flat_map faults (map g (range_with_len (a + 1) n))) (each a (omega arith))
    ∙ none_in_row faults g (a + 1) n (λ i below. each i (omega arith))

pub each_in_row : {A : Type 0} (test : A → Bool) (g : ℕ → A) (a n : ℕ) → ((i : ℕ) → i < a + n → test (g i) ≡ true) → list_all test (map g (range_with_len a n)) ≡ true
each_in_row test g a zero each = refl
each_in_row test g a (suc n) each = and_from _ _ (each a (omega arith)) (each_in_row test g (a + 1) n (λ i below. each i (omega arith)))

of_each : {A : Type 0} (P : A → Type 0) → ((x : A) → P x) → (xs : List A) → AllByRecursion P xs
of_each P each [] = tt
of_each P each (x ∷ xs) = (each x, of_each P each xs)

-- The four forms.
form_cases : (P : Tree → Type 0) (a b c : Bool) (w x y z : Tree) → P w → P x → P y → P z → P (if a then w else if b then x else if c then y else z)
form_cases P true b c w x y z pw px py pz = pw
form_cases P false true c w x y z pw px py pz = px
form_cases P false false true w x y z pw px py pz = py
form_cases P false false false w x y z pw px py pz = pz

abbrev pub own_tree : ℕ → Tree
own_tree i = Name (definition_name i)

abbrev pub other_tree : ℕ → Tree
other_tree i = Name (definition_name (partner i))

abbrev pub number_tree : ℕ → ℕ → Tree
number_tree i k = Const (literal_for i k)

pub by_form : (P : Tree → Type 0) (i form k : ℕ) → P (Binary Add (own_tree i) (number_tree i k)) → P (Binary BitXor (own_tree i) (other_tree i)) → P (Binary Sub (own_tree i) (number_tree i k))
    → P (If (Binary Lt (own_tree i) (number_tree i k)) (other_tree i) (number_tree i k)) → P (expression i form k)
by_form P i form k = form_cases P (form == 0) (form == 1) (form == 2) _ _ _ _

pub partner_below : (i : ℕ) → i < 12 → partner i < 12
partner_below = at_one (λ i. partner i < 12) 12 (omega arith, (omega arith, (omega arith, (omega arith, (omega arith, (omega arith, (omega arith, (omega arith, (omega arith, (omega arith, (omega arith, (omega arith, tt))))))))))))

-- Names.

found : (n i : ℕ) → i < 12 → decl_named (definitions_below n 12) (definition_name i) ≡ Some (nth_definition n i)
unfolding digits
found n = at_one (λ i. decl_named (definitions_below n 12) (definition_name i) ≡ Some (nth_definition n i)) 12 (refl, (refl, (refl, (refl, (refl, (refl, (refl, (refl, (refl, (refl, (refl, (refl, tt))))))))))))

known : (n i : ℕ) → i < 12 → name_fault (large_program n) (definition_name i) ≡ []
unfolding digits
known n = at_one (λ i. name_fault (large_program n) (definition_name i) ≡ []) 12 (refl, (refl, (refl, (refl, (refl, (refl, (refl, (refl, (refl, (refl, (refl, (refl, tt))))))))))))

uses_known : (n i form k : ℕ) → i < 12 → use_faults (large_program n) (expression i form k) ≡ []
uses_known n i form k below =
    let own = known n i below in
    let other = known n (partner i) (partner_below i below) in
    by_form (λ e. use_faults (large_program n) e ≡ []) i form k (ap (λ x. x ++ []) own) (ap (λ x. x ++ use_faults (large_program n) (other_tree i)) own ∙ other) (ap (λ x. x ++ []) own)
    (ap (λ x. (x ++ []) ++ (use_faults (large_program n) (other_tree i) ++ [])) own ∙ ap (λ x. x ++ []) other)

is_known : (n a : ℕ) → a < 11 → is_event (large_program n).events (event_name a) ≡ true
unfolding digits
is_known n a below = agree_below_at (λ k. is_event (map event_on sources) (event_name k)) (λ k. true) 11 a refl below

differ : (a b : ℕ) → a < 11 → b < 11 → b ≢ a → bytes_eq (event_name b) (event_name a) ≡ false
unfolding digits
differ a b first second apart =
    agree_below_at (λ k. bytes_eq (event_name k) (event_name a)) (λ k. k == a) 11 b
    (agree_below_at (λ j. agree_below (λ k. bytes_eq (event_name k) (event_name j)) (λ k. k == j) 11) (λ j. true) 11 a refl first) second
    ∙ ne_eqb b a apart

pub first_below : (s : ℕ) → first_event s < 11
first_below s = omega arith

pub second_below : (s : ℕ) → second_event s < 11
second_below s = omega arith

second_differs : (s : ℕ) → second_event s ≢ first_event s
second_differs s e = apart (first_event s) (draw s 2 10) (omega arith) (omega arith) e
  where
    apart : (f d : ℕ) → f < 11 → d < 10 → (f + 1 + d) % 11 ≡ f → ⊥
    apart f d few less e = omega arith

clauses_known : (n i s : ℕ) → i < 12 → behaviour_faults (large_program n) (definition_name i) (definition i s).behaviour ≡ []
clauses_known n i s below =
    let c = clause i (first_event s) (after_draws 2 s) in
    let d = clause i (second_event s) (after_draws 5 s) in
    clear (is_event (large_program n).events c.event) (is_event (large_program n).events d.event) (bytes_eq d.event c.event)
    (use_faults (large_program n) c.expr) (use_faults (large_program n) d.expr) (UnknownEvent c.event) (ClauseTwice (definition_name i) c.event) (UnknownEvent d.event) (ClauseTwice (definition_name i) d.event)
    (is_known n (first_event s) (first_below s)) (is_known n (second_event s) (second_below s))
    (differ (first_event s) (second_event s) (first_below s) (second_below s) (second_differs s))
    (uses_known n i (draw (after_draws 2 s) 1 4) (draw (after_draws 2 s) 2 200) below) (uses_known n i (draw (after_draws 5 s) 1 4) (draw (after_draws 5 s) 2 200) below)
  where
    clear : (a b t : Bool) (us vs : List CheckFault) (f g h k : CheckFault) → a ≡ true → b ≡ true → t ≡ false → us ≡ [] → vs ≡ []
        → ((fault_if (not a) f ++ fault_if false g) ++ us) ++ (((fault_if (not b) h ++ fault_if (t || false) k) ++ vs) ++ []) ≡ []
    clear true true false us vs f g h k x y z u v = ap (λ w. w ++ (vs ++ [])) u ∙ ap (λ w. w ++ []) v
    clear false b t us vs f g h k x y z u v = cc
    clear true false t us vs f g h k x y z u v = cc
    clear true true true us vs f g h k x y z u v = cc

items_known : (n : ℕ) → item_faults (large_program n) ≡ []
unfolding digits
items_known n = refl

no_name_faults : (n : ℕ) → name_faults (large_program n) ≡ []
no_name_faults n = ap (λ x. x ++ expression_faults (large_program n)) (items_known n)
    ∙ ap (λ x. x ++ flat_map (λ (o : OutputTree). use_faults (large_program n) o.expr) (large_program n).outputs) (none_in_row (λ (d : DeclTree). behaviour_faults (large_program n) d.name d.behaviour) (nth_definition n) 0 12 (λ i below. clauses_known n i (after_draws (8 * i) n) below))
    ∙ ap (λ x. x ++ []) (known n 0 (omega arith))

-- Types.

abbrev pub typed : Bool → Ty
typed b = if b then U8 else U16

abbrev pub even : ℕ → Bool
even i = i % 2 == 0

pub own_type : (n i : ℕ) → i < 12 → type_of_name (large_program n) (definition_name i) ≡ Some (typed (even i))
unfolding digits
own_type n = at_one (λ i. type_of_name (large_program n) (definition_name i) ≡ Some (typed (even i))) 12 (refl, (refl, (refl, (refl, (refl, (refl, (refl, (refl, (refl, (refl, (refl, (refl, tt))))))))))))

pub other_type : (n i : ℕ) → i < 12 → type_of_name (large_program n) (definition_name (partner i)) ≡ Some (typed (even i))
other_type n i below = own_type n (partner i) (partner_below i below) ∙ ap (λ b. Some (typed b)) (agree_below_at (λ k. even (partner k)) even 12 i refl below)

pub number_type_is : (i k : ℕ) → k ≤ 255 → literal_type (literal_for i k) ≡ Some (typed (even i))
number_type_is i k few = by (even i)
  where
    by : (b : Bool) → literal_type (if b then lit.Plain k else lit.Wide k) ≡ Some (typed b)
    by true = ap (λ t. if t then Some U8 else None) (le-leb k 255 few)
    by false = ap (λ t. if t then Some U16 else None) (le-leb k 65535 (omega (arith, few)))

-- Faults of an expression of each form, by the types of its parts.
abbrev literal_found : List ℕ → Option Ty → List CheckFault
literal_found owner t = elim t [ Some u ↦ [] | None ↦ LiteralRange owner ∷ [] ]

abbrev of_two : BinOp → List ℕ → Ty → Option Ty → Option Ty → List CheckFault
of_two op owner t x y = (literal_found owner y ++ node_of_two (binary_faults owner op) x y) ++ node_of_one (unlike owner t) (binary_type op x y)

abbrev of_names : List ℕ → Ty → Option Ty → Option Ty → List CheckFault
of_names owner t x z = node_of_two (binary_faults owner BitXor) x z ++ node_of_one (unlike owner t) (binary_type BitXor x z)

abbrev of_three : List ℕ → Ty → Option Ty → Option Ty → Option Ty → List CheckFault
of_three owner t x z y =
    ((literal_found owner y ++ node_of_two (binary_faults owner Lt) x y)
    ++ (literal_found owner y ++ node_of_three (λ tc ta tb. unlike owner ty.Bool tc ++ unlike owner ta tb) (binary_type Lt x y) z y))
    ++ node_of_one (unlike owner t) (if_type (binary_type Lt x y) z y)

clear_at : (F : Option Ty → Option Ty → Option Ty → List CheckFault) (x z y : Option Ty) (t : Ty) → x ≡ Some t → z ≡ Some t → y ≡ Some t → F (Some t) (Some t) (Some t) ≡ [] → F x z y ≡ []
clear_at F x z y t e f g h = ap (λ o. F o z y) e ∙ ap (λ o. F (Some t) o y) f ∙ ap (λ o. F (Some t) (Some t) o) g ∙ h

each_type : (P : Ty → Type 0) (b : Bool) → P U8 → P U16 → P (typed b)
each_type P true x y = x
each_type P false x y = y

expression_typed : (n i form k : ℕ) (owner : List ℕ) → i < 12 → k ≤ 255 → faults_as (large_program n) owner (typed (even i)) (expression i form k) ≡ []
expression_typed n i form k owner below few =
    let t = typed (even i) in
    let own = own_type n i below in
    let other = other_type n i below in
    let number = number_type_is i k few in
    by_form (λ e. faults_as (large_program n) owner t e ≡ []) i form k
    (clear_at (λ x z y. of_two Add owner t x y) _ _ _ t own other number (each_type (λ u. of_two Add owner u (Some u) (Some u) ≡ []) (even i) refl refl))
    (clear_at (λ x z y. of_names owner t x z) _ _ _ t own other number (each_type (λ u. of_names owner u (Some u) (Some u) ≡ []) (even i) refl refl))
    (clear_at (λ x z y. of_two Sub owner t x y) _ _ _ t own other number (each_type (λ u. of_two Sub owner u (Some u) (Some u) ≡ []) (even i) refl refl))
    (clear_at (of_three owner t) _ _ _ t own other number (each_type (λ u. of_three owner u (Some u) (Some u) (Some u) ≡ []) (even i) refl refl))

abbrev of_one : List ℕ → Ty → Option Ty → List CheckFault
of_one owner t y = literal_found owner y ++ node_of_one (unlike owner t) y

definition_typed : (n i s : ℕ) → i < 12 → behaviour_type_faults (large_program n) (definition_name i) (type_of i) (definition i s).behaviour ≡ []
definition_typed n i s below =
    let owner = definition_name i in
    let t = typed (even i) in
    let c = expression_typed n i (draw (after_draws 2 s) 1 4) (draw (after_draws 2 s) 2 200) owner below (omega arith) in
    let d = expression_typed n i (draw (after_draws 5 s) 1 4) (draw (after_draws 5 s) 2 200) owner below (omega arith) in
    three _ _ _ (ap (of_one owner t) (number_type_is i i (omega (arith, below))) ∙ each_type (λ u. of_one owner u (Some u) ≡ []) (even i) refl refl) c d
  where
    three : (x y z : List CheckFault) → x ≡ [] → y ≡ [] → z ≡ [] → x ++ (y ++ (z ++ [])) ≡ []
    three x y z e f g = ap (λ w. w ++ (y ++ (z ++ []))) e ∙ ap (λ w. w ++ (z ++ [])) f ∙ ap (λ w. w ++ []) g

no_type_faults : (n : ℕ) → type_faults (large_program n) ≡ []
no_type_faults n =
    ap (λ x. x ++ flat_map (λ (o : OutputTree). faults_as (large_program n) o.port U8 o.expr) (large_program n).outputs)
    (none_in_row (λ (d : DeclTree). behaviour_type_faults (large_program n) d.name d.ty d.behaviour) (nth_definition n) 0 12 (λ i below. definition_typed n i (after_draws (8 * i) n) below))
    ∙ ap (λ t. node_of_one (unlike (codes "PORTB") U8) t ++ []) (own_type n 0 (omega arith))

-- Causality: what a definition depends on is declared before it.

abbrev order : List (List ℕ)
order = map definition_name (range_with_len 0 12)

abbrev before : ℕ → List (List ℕ) → Bool
before i names = list_all (λ y. nat_lt (place_of order y) (place_of order (definition_name i))) names

abbrev others_of : ℕ → List (List ℕ) → List (List ℕ)
others_of i names = filter (λ y. not (bytes_eq (definition_name i) y)) names

one_before : (i : ℕ) → i < 12 → before i (others_of i (definition_name i ∷ [])) ≡ true
unfolding digits
one_before i below = agree_below_at (λ i. before i (others_of i (definition_name i ∷ []))) (λ i. true) 12 i refl below

two_before : (i : ℕ) → i < 12 → before i (others_of i (definition_name i ∷ definition_name (partner i) ∷ [])) ≡ true
unfolding digits
two_before i below = agree_below_at (λ i. before i (others_of i (definition_name i ∷ definition_name (partner i) ∷ []))) (λ i. true) 12 i refl below

names_before : (i form k : ℕ) → i < 12 → before i (others_of i (names_in (expression i form k))) ≡ true
names_before i form k below = by_form (λ e. before i (others_of i (names_in e)) ≡ true) i form k (one_before i below) (two_before i below) (one_before i below) (two_before i below)

-- By the rule of either clause, or of none.
by_rule : (i : ℕ) (a b : Bool) (c d : ClauseTree) → before i (others_of i (names_in c.expr)) ≡ true → before i (others_of i (names_in d.expr)) ≡ true
    → before i (dependencies_by (definition_name i) (clause_rule (cond a (Some c) (cond b (Some d) None)))) ≡ true
by_rule i true b c d x y = by_later c.later c.expr x
  where
    by_later : (l : Bool) (e : Tree) → before i (others_of i (names_in e)) ≡ true → before i (dependencies_by (definition_name i) (if l then Later e else Now e)) ≡ true
    by_later true e h = refl
    by_later false e h = h
by_rule i false true c d x y = by_later d.later d.expr y
  where
    by_later : (l : Bool) (e : Tree) → before i (others_of i (names_in e)) ≡ true → before i (dependencies_by (definition_name i) (if l then Later e else Now e)) ≡ true
    by_later true e h = refl
    by_later false e h = h
by_rule i false false c d x y = refl

definition_behind : (n : ℕ) (event : List ℕ) (i : ℕ) → i < 12 → stands_behind (large_program n) event order (definition_name i) ≡ true
definition_behind n event i below =
    ap (λ o. before i (elim o [ Some d ↦ dependencies_by (definition_name i) (rule_on event d.behaviour) | None ↦ [] ])) (found n i below)
    ∙ drawn (after_draws (8 * i) n)
  where
    drawn : (s : ℕ) → before i (dependencies_by (definition_name i) (rule_on event (definition i s).behaviour)) ≡ true
    drawn s =
        let c = clause i (first_event s) (after_draws 2 s) in
        let d = clause i (second_event s) (after_draws 5 s) in
        by_rule i (bytes_eq event c.event) (bytes_eq event d.event) c d (names_before i (draw (after_draws 2 s) 1 4) (draw (after_draws 2 s) 2 200) below)
        (names_before i (draw (after_draws 5 s) 1 4) (draw (after_draws 5 s) 2 200) below)

in_order : (n : ℕ) (event : List ℕ) → IsOrderOn (large_program n) event order
in_order n event = each_in_row (λ (d : DeclTree). stands_behind (large_program n) event order d.name) (nth_definition n) 0 12 (definition_behind n event)

pub passes : (n : ℕ) → Passes (large_program n)
passes n = record {
  checked = record { names = no_name_faults n; types = no_type_faults n };
  causal = of_each (λ (e : Event). IsCausalOn (large_program n) e.name) (λ e. ordered-is-causal (large_program n) e.name order (in_order n e.name)) (large_program n).events;
}
