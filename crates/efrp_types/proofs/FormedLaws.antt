-- What a text spells is well formed: what is counted over the cells is what the tree has.
use Rattle.std.specs.Prelude.{◌≡◌, ℕ, suc, ◌+◌, ◌≤◌, Bool, true, ◌&&◌, List, [], ◌∷◌, ◌++◌, cond, length, sum_by, refl}
use Rattle.std.specs.List.{AllByRecursion, list_all}
use Rattle.std.proofs.Common.{sym, ap, subst, ◌∙◌, arith}
use Rattle.std.proofs.lemmas.Bool.{lt-ltb}
use Rattle.std.proofs.lemmas.List.Sums.{sum_by-append, sum_by-cons}
use Rattle.frp_tree.specs.declared.kinds.Kind.{Kind}
use Rattle.frp_tree.specs.declared.kinds.Kind.TheVariants.{Events, Setups, Definitions, Outputs, Nodes, Entries}
use Rattle.frp_tree.specs.declared.levels.Level.{Level}
use Rattle.frp_tree.specs.declared.limits.TheConstants.{MOST_ENTRIES_OF_A_TABLE}
use Rattle.frp_tree.specs.declared.syntax.Lit.{Lit}
use Rattle.frp_tree.specs.declared.marks.TheConstants as mark
use Rattle.frp_tree.specs.Cells.{Cell, is_of, count_of, IsWithinLimits}
use Rattle.frp_tree.specs.Grammar.{sign, SpellsExpr, literal, named, looked, brackets, signed, converted, chosen, shifted, joined, compared, alone, Row, none, next, SpellsClause, more_entries, SpellsBehaviour, plainly, input, table, reactive, SpellsDecl, SpellsOutput}
use Rattle.frp_tree.specs.Limits.{converts_to_numbers, converts_in, nodes, nodes_in, entries_in}
use Rattle.frp_tree.specs.Tree.{Tree, ClauseTree, BehaviourTree, DeclTree, OutputTree, ProgramTree}
use Rattle.frp_tree.proofs.BreakLaws.{all_front}
use Rattle.efrp_types.specs.Laws.{has_entries, SpelledIsWellFormed}

-- How many of a kind cells begin.
of-cell : (kind : Kind) (c : Cell) (cs : List Cell) → count_of kind (c ∷ cs) ≡ cond (is_of kind c.begins) 1 0 + count_of kind cs
of-cell kind c cs = sum_by-cons (λ (k : Cell). cond (is_of kind k.begins) 1 0) c cs

of-two : (kind : Kind) (cs ds : List Cell) → count_of kind (cs ++ ds) ≡ count_of kind cs + count_of kind ds
of-two kind cs ds = sum_by-append (λ (k : Cell). cond (is_of kind k.begins) 1 0) cs ds

-- At least so many of a kind are begun by these cells.
record Has (kind : Kind) (n : ℕ) (cs : List Cell) : Type 0 where
  most : n ≤ count_of kind cs

-- By the cells behind one, by one of the kind and those behind it, by the front ones, by the last ones, by both.
behind : {kind : Kind} {c : Cell} {cs : List Cell} {n : ℕ} → Has kind n cs → Has kind n (c ∷ cs)
behind {kind} {c} {cs} h = let e = of-cell kind c cs in let m = h.most in record { most = omega (arith, e, m) }

with-one : {kind : Kind} {c : Cell} {cs : List Cell} {n : ℕ} → is_of kind c.begins ≡ true → Has kind n cs → Has kind (1 + n) (c ∷ cs)
with-one {kind} {c} {cs} is h = let e = of-cell kind c cs ∙ ap (λ b. cond b 1 0 + count_of kind cs) is in let m = h.most in record { most = omega (arith, e, m) }

in-front : {kind : Kind} {cs : List Cell} {n : ℕ} (ds : List Cell) → Has kind n cs → Has kind n (cs ++ ds)
in-front {kind} {cs} ds h = let e = of-two kind cs ds in let m = h.most in record { most = omega (arith, e, m) }

in-back : {kind : Kind} {ds : List Cell} {n : ℕ} (cs : List Cell) → Has kind n ds → Has kind n (cs ++ ds)
in-back {kind} {ds} cs h = let e = of-two kind cs ds in let m = h.most in record { most = omega (arith, e, m) }

in-both : {kind : Kind} {cs ds : List Cell} {m n : ℕ} → Has kind m cs → Has kind n ds → Has kind (m + n) (cs ++ ds)
in-both {kind} {cs} {ds} g h = let e = of-two kind cs ds in let a = g.most in let b = h.most in record { most = omega (arith, e, a, b) }

no-more : {kind : Kind} {cs : List Cell} {m n : ℕ} → Has kind m cs → n ≤ m → Has kind n cs
no-more h less = let m = h.most in record { most = omega (arith, m, less) }

nothing : {kind : Kind} {cs : List Cell} → Has kind 0 cs
nothing = record { most = omega arith }

-- The nodes of what is spelled are begun by its cells.
spelled-nodes : {l : Level} {d : ℕ} {e : Tree} {ts : List Cell} → SpellsExpr l d e ts → Has Nodes (nodes e) ts
spelled-nodes literal = with-one refl nothing
spelled-nodes (named own) = with-one refl nothing
spelled-nodes (looked ts own e) = with-one refl (behind (in-front _ (spelled-nodes e)))
spelled-nodes (brackets ts e) = behind (in-front _ (spelled-nodes e))
spelled-nodes (signed ts e) = with-one refl (spelled-nodes e)
spelled-nodes (converted ts number e) = with-one refl (behind (in-front _ (spelled-nodes e)))
spelled-nodes (chosen ts us vs c a b) = with-one refl (in-both (spelled-nodes c) (behind (in-both (spelled-nodes a) (behind (spelled-nodes b)))))
spelled-nodes (shifted ts e) = no-more (in-both (spelled-nodes e) (with-one refl nothing)) (omega arith)
spelled-nodes (joined ts us level repeats a b) = no-more (in-both (spelled-nodes a) (with-one refl (spelled-nodes b))) (omega arith)
spelled-nodes (compared ts us level repeats a b) = no-more (in-both (spelled-nodes a) (with-one refl (spelled-nodes b))) (omega arith)
spelled-nodes (alone level e) = spelled-nodes e

both-true : (a b : Bool) → a ≡ true → b ≡ true → (a && b) ≡ true
both-true a b e f = ap (λ k. k && b) e ∙ f

spelled-converts : {l : Level} {d : ℕ} {e : Tree} {ts : List Cell} → SpellsExpr l d e ts → converts_to_numbers e ≡ true
spelled-converts literal = refl
spelled-converts (named own) = refl
spelled-converts (looked ts own e) = spelled-converts e
spelled-converts (brackets ts e) = spelled-converts e
spelled-converts (signed ts e) = spelled-converts e
spelled-converts (converted ts number e) = both-true _ _ number (spelled-converts e)
spelled-converts (chosen ts us vs c a b) = both-true _ _ (spelled-converts c) (both-true _ _ (spelled-converts a) (spelled-converts b))
spelled-converts (shifted ts e) = spelled-converts e
spelled-converts (joined ts us level repeats a b) = both-true _ _ (spelled-converts a) (spelled-converts b)
spelled-converts (compared ts us level repeats a b) = both-true _ _ (spelled-converts a) (spelled-converts b)
spelled-converts (alone level e) = spelled-converts e

all-behind : (Q : Cell → Type 0) (cs ds : List Cell) → AllByRecursion Q (cs ++ ds) → AllByRecursion Q ds
all-behind Q [] ds all = all
all-behind Q (c ∷ cs) ds all = all-behind Q cs ds all.1

-- What holds of each thing that is spelled, of cells of each of which something holds, holds of a row of such things.
of-row : {A : Type 0} {Item : A → List Cell → Type 0} (Q : Cell → Type 0) (P : A → Type 0) → ((x : A) (ts : List Cell) → Item x ts → AllByRecursion Q ts → P x)
    → {xs : List A} {ts : List Cell} → Row Item xs ts → AllByRecursion Q ts → AllByRecursion P xs
of-row Q P each none all = tt
of-row Q P each (next first rest x xs) all = (each _ first x (all_front Q first rest all), of-row Q P each xs (all-behind Q first rest all))

-- The like of a test.
tested : {A : Type 0} {Item : A → List Cell → Type 0} (test : A → Bool) → ((x : A) (ts : List Cell) → Item x ts → test x ≡ true) → {xs : List A} {ts : List Cell} → Row Item xs ts → list_all test xs ≡ true
tested test each none = refl
tested test each (next first rest x xs) = both-true _ _ (each _ first x) (tested test each xs)

-- And of sums and of lengths.
summed : {A : Type 0} {Item : A → List Cell → Type 0} (kind : Kind) (f : A → ℕ) → ((x : A) (ts : List Cell) → Item x ts → Has kind (f x) ts)
    → {xs : List A} {ts : List Cell} → Row Item xs ts → Has kind (sum_by f xs) ts
summed kind f each none = nothing
summed kind f each (next {x = y} {xs = ys} first rest x xs) = let e = sum_by-cons f y ys in no-more (in-both (each y first x) (summed kind f each xs)) (omega (arith, e))

numbered : {A : Type 0} {Item : A → List Cell → Type 0} (kind : Kind) → ((x : A) (ts : List Cell) → Item x ts → Has kind 1 ts)
    → {xs : List A} {ts : List Cell} → Row Item xs ts → Has kind (length xs) ts
numbered kind each none = nothing
numbered kind each (next first rest x xs) = no-more (in-both (each _ first x) (numbered kind each xs)) (omega arith)

-- Clauses.
clause-nodes : (c : ClauseTree) (ts : List Cell) → SpellsClause c ts → Has Nodes (nodes c.expr) ts
clause-nodes c ts its = subst (Has Nodes (nodes c.expr)) (sym its.whole) (behind (behind (in-front _ (spelled-nodes its.spelled))))

-- The entries of a table behind the first one.
more-counted : (before : ℕ) (ls : List Lit) → Has Entries (length ls) (more_entries before ls)
more-counted before [] = nothing
more-counted before (l ∷ ls) = no-more (behind (with-one refl (more-counted (suc before) ls))) (omega arith)

abbrev IsShort : Cell → Type 0
IsShort c = c.entry ≤ MOST_ENTRIES_OF_A_TABLE

more-short : (before : ℕ) (ls : List Lit) → before ≤ MOST_ENTRIES_OF_A_TABLE → AllByRecursion IsShort (more_entries before ls) → before + length ls ≤ MOST_ENTRIES_OF_A_TABLE
more-short before [] most all = omega (arith, most)
more-short before (l ∷ ls) most all = let h = more-short (suc before) ls all.1.0 all.1.1 in omega (arith, h)

-- Definitions.
behaviour-nodes : {b : BehaviourTree} {ts : List Cell} → SpellsBehaviour b ts → Has Nodes (nodes_in b) ts
behaviour-nodes (plainly e) = spelled-nodes e
behaviour-nodes (input own) = nothing
behaviour-nodes table = nothing
behaviour-nodes (reactive ts cs) = behind (behind (behind (behind (in-front _ (summed Nodes (λ c. nodes c.expr) clause-nodes cs)))))

behaviour-entries : {b : BehaviourTree} {ts : List Cell} → SpellsBehaviour b ts → Has Entries (entries_in b) ts
behaviour-entries (plainly e) = nothing
behaviour-entries (input own) = nothing
behaviour-entries (table {ls = ls}) = no-more (behind (behind (with-one refl (in-front _ (more-counted 1 ls))))) (omega arith)
behaviour-entries (reactive ts cs) = nothing

behaviour-short : {b : BehaviourTree} {ts : List Cell} → SpellsBehaviour b ts → AllByRecursion IsShort ts → entries_in b ≤ MOST_ENTRIES_OF_A_TABLE
behaviour-short (plainly e) all = omega arith
behaviour-short (input own) all = omega arith
behaviour-short (table {ls = ls}) all = let h = more-short 1 ls all.1.1.0 (all_front IsShort (more_entries 1 ls) (sign mark.CLOSING_BRACE ∷ []) all.1.1.1) in omega (arith, h)
behaviour-short (reactive ts cs) all = omega arith

behaviour-converts : {b : BehaviourTree} {ts : List Cell} → SpellsBehaviour b ts → converts_in b ≡ true
behaviour-converts (plainly e) = spelled-converts e
behaviour-converts (input own) = refl
behaviour-converts table = refl
behaviour-converts (reactive ts cs) = tested (λ c. converts_to_numbers c.expr) (λ c us its. spelled-converts its.spelled) cs

has-entries : {b : BehaviourTree} {ts : List Cell} → SpellsBehaviour b ts → has_entries b ≡ true
has-entries (plainly e) = refl
has-entries (input own) = refl
has-entries (table {ls = ls}) = lt-ltb 0 (suc (length ls)) (omega arith)
has-entries (reactive ts cs) = refl

-- What is begun behind the = of a definition.
of-value : {kind : Kind} {n : ℕ} (d : DeclTree) (ts : List Cell) (its : SpellsDecl d ts) → Has kind n its.value → Has kind n ts
of-value {kind} {n} d ts its h = subst (Has kind n) (sym its.whole) (behind (behind (behind (behind (behind (in-front _ h))))))

decl-short : (d : DeclTree) (ts : List Cell) → SpellsDecl d ts → AllByRecursion IsShort ts → entries_in d.behaviour ≤ MOST_ENTRIES_OF_A_TABLE
decl-short d ts its all =
    let parts = subst (AllByRecursion IsShort) its.whole all in
    behaviour-short its.spelled (all_front IsShort its.value (sign mark.SEMICOLON ∷ []) parts.1.1.1.1.1)

output-nodes : (o : OutputTree) (ts : List Cell) → SpellsOutput o ts → Has Nodes (nodes o.expr) ts
output-nodes o ts its = subst (Has Nodes (nodes o.expr)) (sym its.whole) (behind (behind (behind (in-front _ (spelled-nodes its.spelled)))))

-- An item begins with one of its kind.
begins : {kind : Kind} {ts : List Cell} {c : Cell} {cs : List Cell} → ts ≡ c ∷ cs → is_of kind c.begins ≡ true → Has kind 1 ts
begins {kind} whole is = subst (Has kind 1) (sym whole) (with-one is nothing)

within : {kind : Kind} {n most : ℕ} (cs : List Cell) → Has kind n cs → count_of kind cs ≤ most → n ≤ most
within cs h few = let m = h.most in omega (arith, m, few)

pub spelled-is-well-formed : (p : ProgramTree) → SpelledIsWellFormed p
spelled-is-well-formed p text spells =
    let its = spells.tree.spelled in
    let all = its.events ++ (its.setups ++ (its.decls ++ its.outputs)) in
    let fits = subst IsWithinLimits its.whole spells.tree.within in
    record {
      written = record {
        events = within all (in-front _ (numbered Events (λ e ts is. begins is.whole refl) its.spelled_events)) (fits.few Events);
        setups = within all (in-back _ (in-front _ (numbered Setups (λ s ts is. begins is.whole refl) its.spelled_setups))) (fits.few Setups);
        decls = within all (in-back _ (in-back _ (in-front _ (numbered Definitions (λ d ts is. begins is.whole refl) its.spelled_decls)))) (fits.few Definitions);
        outputs = within all (in-back its.events (in-back its.setups (in-back its.decls (numbered Outputs (λ o ts is. begins is.whole refl) its.spelled_outputs)))) (fits.few Outputs);
        nodes =
            within all
            (in-back _ (in-back _ (in-both
            (summed Nodes (λ d. nodes_in d.behaviour) (λ d ts is. of-value d ts is (behaviour-nodes is.spelled)) its.spelled_decls)
            (summed Nodes (λ o. nodes o.expr) output-nodes its.spelled_outputs))))
            (fits.few Nodes);
        table_entries =
            of-row IsShort (λ d. entries_in d.behaviour ≤ MOST_ENTRIES_OF_A_TABLE) decl-short its.spelled_decls
            (all_front IsShort its.decls its.outputs (all-behind IsShort its.setups _ (all-behind IsShort its.events _ fits.short)));
        entries =
            within all (in-back _ (in-back _ (in-front _ (summed Entries (λ d. entries_in d.behaviour) (λ d ts is. of-value d ts is (behaviour-entries is.spelled)) its.spelled_decls))))
            (fits.few Entries);
        decl_conversions = tested (λ d. converts_in d.behaviour) (λ d ts is. behaviour-converts is.spelled) its.spelled_decls;
        output_conversions = tested (λ o. converts_to_numbers o.expr) (λ o ts is. spelled-converts is.spelled) its.spelled_outputs;
      };
      entries = tested (λ d. has_entries d.behaviour) (λ d ts is. has-entries is.spelled) its.spelled_decls;
    }
