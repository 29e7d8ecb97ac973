-- The program of a text that spells one, its tokens and what they begin; and where its faults and cycles stand.
use Rattle.std.proofs.Common.{◌≡◌, ℕ, ◌+◌, Bool, true, false, List, [], ◌∷◌, ◌++◌, length, map, position, Option, Some, None, Result, Ok, Err, IfOk, refl, sym, ap, subst, ◌∙◌, if◌then◌else◌}
use Rattle.std.specs.Option.{IsSome}
use Rattle.std.specs.Str.{bytes_eq}
use Rattle.std.proofs.lemmas.Bool.{false≢true}
use Rattle.std.proofs.lemmas.List.{length-map}
use Rattle.std.proofs.lemmas.Slice.Eq.{bytes_eq-Decides}
use Rattle.frp_tree.specs.declared.kinds.Kind.{Kind}
use Rattle.frp_tree.specs.declared.kinds.Kind.TheVariants.{Definitions}
use Rattle.frp_tree.specs.declared.syntax.Decl.{Decl}
use Rattle.frp_tree.specs.declared.syntax.Program.{Program}
use Rattle.frp_tree.specs.declared.tokens.Token.{Token}
use Rattle.frp_tree.specs.Breaks.{IsTooMany}
use Rattle.frp_tree.specs.Cells.{Cell, tokens_of, IsWithinLimits}
use Rattle.frp_tree.specs.Grammar.{Spells, SpellsProgram}
use Rattle.frp_tree.specs.Tokens.{HasTokens}
use Rattle.frp_tree.specs.Tree.{DeclTree, ProgramTree, decl_of, program_tree_of}
use Rattle.frp_tree.proofs.OneTreeLaws.{one_program}
use Rattle.frp_tree.proofs.TokenLaws.{one_list}
use Rattle.efrp_syntax.specs.declared.begun.Begun.{Begun}
use Rattle.efrp_syntax.specs.declared.faults.SyntaxFault.TheVariants.{TooMany}
use Rattle.efrp_syntax.specs.Answers.{begun}
use Rattle.efrp_syntax.specs.Parsed.{OfTokens}
use Rattle.efrp_syntax.specs.Places.{IsTokenPlace}
use Rattle.efrp_meaning.specs.Decls.{decl_named}
use Rattle.efrp_types.specs.declared.faults.CheckFault.{CheckFault}
use Rattle.efrp_types.specs.Answers.{IsFirst}
use Rattle.efrp_types.specs.Numbers.{decl_number}
use Rattle.efrp_types.proofs.NodeLaws.{some-fault}
use Rattle.efrp_types.proofs.NumberLaws.{numbered, position_mapped}
use Rattle.causality.specs.Orders.{IsFirstOn}
use Rattle.checked_source.specs.Readings.{check_faults}
use Rattle.where_tool.specs.declared.parts.Part.{Part}
use Rattle.where_tool.specs.PartTokens.{fault_token, head_of}
use Rattle.where_tool.specs.PointParts.{Marks}
use Rattle.where_tool.specs.Points.{IsMarked, IsMetAt, IsDefinedAt, SyntaxPlace}
use Rattle.where_tool.specs.Visits.{check_visits, first_part}
use Rattle.where_tool.proofs.VisitLaws.{visits-tell}
use Rattle.where_tool.proofs.WalkFacts.{none-met}

-- What is noted of a text's tokens are the marks of its program.
pub marks : (text : List ℕ) (p : ProgramTree) (tokens : List Token) (notes : List Begun) → Spells text p → HasTokens text tokens
    → ((q : ProgramTree) (cells : List Cell) → SpellsProgram q cells → IsWithinLimits cells → tokens_of cells ≡ tokens → notes ≡ map begun cells) → Marks text tokens notes
marks text p tokens notes s has noted =
    let same : tokens ≡ s.tokens = one_list text s.tokens tokens s.cut has in
    record {
      program = p;
      cells = s.tree.cells;
      marked = record { cut = subst (λ (ts : List Token). HasTokens text ts) (sym s.tree.tokens) s.cut; spelled = s.tree.spelled; within = s.tree.within };
      tokens_is = same ∙ sym s.tree.tokens;
      notes_is = noted p s.tree.cells s.tree.spelled s.tree.within (s.tree.tokens ∙ sym same);
    }

-- There are as many notes as tokens.
pub same-length : (text : List ℕ) (tokens : List Token) (notes : List Begun) → Marks text tokens notes → length tokens ≡ length notes
same-length text tokens notes m =
    ap length m.tokens_is ∙ length-map m.cells (λ (c : Cell). c.token) ∙ sym (ap length m.notes_is ∙ length-map m.cells begun)

-- Marked cells spell the program.
spelled-by : (text : List ℕ) (p : ProgramTree) (cells : List Cell) → IsMarked text p cells → Spells text p
spelled-by text p cells m =
    record { tokens = tokens_of cells; cut = m.cut; tree = record { cells = cells; spelled = m.spelled; tokens = refl; within = m.within } }

pub same-program : (text : List ℕ) (p : ProgramTree) (tokens : List Token) (notes : List Begun) → Spells text p → (m : Marks text tokens notes) → p ≡ m.program
same-program text p tokens notes s m = one_program text p m.program s (spelled-by text m.program m.cells m.marked)

-- The token that is one too many, in the tokens at hand, stands where it stands in those of which the fault was told.
pub many-at : (text : List ℕ) (kind : Kind) (tokens row : List Token) (n place : ℕ) → row ≡ tokens → HasTokens text tokens → ((k : Kind) (many : IsTooMany row k) → n ≡ many.n) → IsTokenPlace text n place
    → OfTokens text (λ ts. IsTooMany ts kind) → SyntaxPlace text (TooMany kind) place
many-at text kind tokens row n place same has known «at» (ts, had, many) =
    let told = subst (λ (us : List Token). (k : Kind) (m : IsTooMany us k) → n ≡ m.n) (same ∙ one_list text ts tokens had has) known in
    (ts, had, (many, subst (λ k. IsTokenPlace text k place) (told kind many) «at»))

-- A good value is good in another way.
pub ok-map : {A E : Type 0} (P Q : A → Type 0) (r : Result A E) → ((x : A) → P x → Q x) → IfOk r P → IfOk r Q
ok-map P Q (Ok x) step good = step x good
ok-map P Q (Err e) step good = tt

-- A fault of a program stands at the first part that has one.
pub met-at : (text : List ℕ) (p : ProgramTree) (fault : CheckFault) (part : Part) (tokens : List Token) (notes : List Begun) (n : ℕ) → Spells text p → (m : Marks text tokens notes)
    → first_part (check_visits p) ≡ Some part → n ≡ fault_token part fault m.cells → IsMetAt text fault part n
met-at text p fault part tokens notes n s m met number =
    record {
      program = m.program;
      cells = m.cells;
      marked = m.marked;
      met = subst (λ (q : ProgramTree). first_part (check_visits q) ≡ Some part) (same-program text p tokens notes s m) met;
      number = number;
    }

-- A definition stands at its name.
pub defined-at : (text : List ℕ) (p : ProgramTree) (name : List ℕ) (decl : ℕ) (tokens : List Token) (notes : List Begun) (n : ℕ) → Spells text p → (m : Marks text tokens notes)
    → decl_number p name ≡ Some decl → n ≡ head_of Definitions decl m.cells + 1 → IsDefinedAt text name n
defined-at text p name decl tokens notes n s m named number =
    record {
      program = m.program;
      cells = m.cells;
      marked = m.marked;
      decl = decl;
      named = subst (λ (q : ProgramTree). decl_number q name ≡ Some decl) (same-program text p tokens notes s m) named;
      number = number;
    }

-- A program that has a fault has a part that has one.
pub none-not-first : (p : ProgramTree) (fault : CheckFault) → first_part (check_visits p) ≡ None → IsFirst fault (check_faults p) → ⊥
none-not-first p fault none first = some-fault fault first.0 (sym first.1 ∙ sym (visits-tell p) ∙ none-met (check_visits p) none)

-- The place of a definition in memory is its number.
pub decl-at : (p : Program) (name bytes : List ℕ) (decls : List Decl) (found : Option ℕ) → bytes ≡ name → decls ≡ p.decls → found ≡ position (λ (d : Decl). bytes_eq bytes d.name) decls
    → found ≡ decl_number (program_tree_of p) name
decl-at p name bytes decls found same row is =
    is ∙ ap (λ (q : List ℕ). position (λ (d : Decl). bytes_eq q d.name) decls) same ∙ ap (position (λ (d : Decl). bytes_eq name d.name)) row
    ∙ sym (position_mapped (λ (d : DeclTree). bytes_eq name d.name) decl_of p.decls)

-- A name of a definition stands for one, and so has a number.
stands : (front back : List DeclTree) (d : DeclTree) (x : List ℕ) → bytes_eq x d.name ≡ true → IsSome (decl_named (front ++ d ∷ back) x)
stands [] back d x same = subst (λ b. IsSome (if b then Some d else decl_named back x)) (sym same) refl
stands (c ∷ front) back d x same = by_test (bytes_eq x c.name) (stands front back d x same)
  where
    by_test : (b : Bool) → IsSome (decl_named (front ++ d ∷ back) x) → IsSome (if b then Some c else decl_named (front ++ d ∷ back) x)
    by_test true rest = refl
    by_test false rest = rest

some-of : (o : Option ℕ) → IsSome o → (n : ℕ) × (o ≡ Some n)
some-of (Some n) there = (n, refl)
some-of None there = absurd (false≢true there)

pub has-number : (p : ProgramTree) (event name : List ℕ) → IsFirstOn p event name → (n : ℕ) × (decl_number p name ≡ Some n)
has-number p event name (front, back, d, decls, is, ran, rest) =
    let there : IsSome (decl_named (front ++ d ∷ back) name) = stands front back d name ((bytes_eq-Decides name d.name).1 (sym is)) in
    some-of (decl_number p name) (numbered p name (subst (λ (ds : List DeclTree). IsSome (decl_named ds name)) (sym decls) there))
