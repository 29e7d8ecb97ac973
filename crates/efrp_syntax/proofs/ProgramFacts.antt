-- The four rows of a program, and the end behind them.
use Rattle.std.proofs.Common.{◌≡◌, ℕ, ◌==◌, true, false, List, [], ◌∷◌, ◌++◌, length, codes, Some, None, Result, refl, sym, ap, subst, ◌∙◌, arith}
use Rattle.std.specs.Str.{bytes_eq}
use Rattle.std.specs.Result.{IsErrAnd}
use Rattle.std.proofs.lemmas.Result.{err_from_is_err_and}
use Rattle.std.proofs.lemmas.List.{append-nil}
use Rattle.std.proofs.lemmas.Bool.{eqb-true}
use Rattle.frp_tree.specs.declared.syntax.Event.{Event}
use Rattle.frp_tree.specs.declared.syntax.Setup.{Setup}
use Rattle.frp_tree.specs.declared.syntax.Program.{Program}
use Rattle.frp_tree.specs.declared.tokens.Token.{Token}
use Rattle.frp_tree.specs.declared.tokens.Token.TheVariants.{Word}
use Rattle.frp_tree.specs.Tree.{DeclTree, OutputTree, ProgramTree}
use Rattle.frp_tree.specs.Cells.{Cell, tokens_of}
use Rattle.frp_tree.specs.Grammar.{Row, none, next, SpellsEvent, SpellsSetup, SpellsDecl, SpellsOutput, SpellsProgram}
use Rattle.efrp_syntax.specs.declared.begun.Begun.{Begun}
use Rattle.efrp_syntax.specs.declared.begun.Stop.{Stop}
use Rattle.efrp_syntax.specs.declared.begun.Stop.TheVariants.{Unexpected}
use Rattle.efrp_syntax.specs.Answers.{head, Found, Fails, odd, Done, Seq, Example, Fits, Like}
use Rattle.efrp_syntax.specs.Items.{StartsWord, Ends, IsEnd}
use Rattle.efrp_syntax.specs.Programs.{ReadWhole}
use Rattle.efrp_syntax.proofs.PhraseLaws.{found_done, stuck_here}
use Rattle.efrp_syntax.proofs.ItemKindFacts.{some_done, some_seq, some_row, closing, AllBegin, tokens_then}
use Rattle.efrp_syntax.proofs.ItemFacts.{setups_begin, outputs_begin}
use Rattle.efrp_syntax.proofs.DefinitionFacts.{apart, decls_begin}

pub program_exits : (ts : List Token) (before after : List Begun) (result : Result Program Stop) (stop : Stop) → IsErrAnd result (λ s. s ≡ stop) → Fails SpellsProgram IsEnd ts before after stop → ReadWhole ts before after result
program_exits ts before after result stop h f = let p = err_from_is_err_and result h in rw (p.1, p.2) f

abbrev pub a_program : List Event → List Setup → List DeclTree → List OutputTree → ProgramTree
a_program es ss ds os = record { events = es; setups = ss; decls = ds; outputs = os }

abbrev pub OutputsPart : List Event → List Setup → List DeclTree → ProgramTree → List Cell → Type 0
OutputsPart es ss ds = Seq (Row SpellsOutput) (λ os. Done (a_program es ss ds os))

abbrev pub DeclsPart : List Event → List Setup → ProgramTree → List Cell → Type 0
DeclsPart es ss = Seq (Row SpellsDecl) (OutputsPart es ss)

abbrev pub SetupsPart : List Event → ProgramTree → List Cell → Type 0
SetupsPart es = Seq (Row SpellsSetup) (DeclsPart es)

abbrev pub ProgramParts : ProgramTree → List Cell → Type 0
ProgramParts = Seq (Row SpellsEvent) SetupsPart

-- A row of things that begin with another word doesn't begin with this one, nor does what follows it.
not_in_row : {A : Type 0} {Item : A → List Cell → Type 0} {xs : List A} {w : List Cell} (u v : List ℕ) (c : List Token) → bytes_eq u v ≡ false → bytes_eq v v ≡ true → AllBegin Item (StartsWord u) → Row Item xs w
    → Ends (StartsWord v) c → Ends (StartsWord v) (tokens_of w ++ c)
not_in_row u v c a b begins none t h = t h
not_in_row u v c a b begins (next {x = x} first rest i r) t h =
    apart u v a b (sym (begins x first (tokens_of rest ++ c) i) ∙ ap head (sym (tokens_then first rest c)) ∙ h)

-- What stands before more.
before_more : (v : List ℕ) (x y w : List Cell) (c : List Token) → w ≡ x ++ y → Ends (StartsWord v) (tokens_of x ++ (tokens_of y ++ c)) → Ends (StartsWord v) (tokens_of w ++ c)
before_more v x y w c e t h = t (sym (ap head (ap (λ cs. tokens_of cs ++ c) e ∙ tokens_then x y c)) ∙ h)

at_end : (v : List ℕ) (c : List Token) → IsEnd c → Ends (StartsWord v) c
at_end v c e h = let n : None ≡ Some (Word v) = sym (ap head e) ∙ h in cc

done_end : {A : Type 0} {x y : A} (v : List ℕ) (w : List Cell) (c : List Token) → Done x y w → IsEnd c → Ends (StartsWord v) (tokens_of w ++ c)
done_end v w c d e = at_end v (tokens_of w ++ c) (ap (λ cs. tokens_of cs ++ c) d.whole ∙ e)

outputs_part_ends : {es : List Event} {ss : List Setup} {ds : List DeclTree} {p : ProgramTree} (v : List ℕ) (w : List Cell) (c : List Token) → bytes_eq (codes "output") v ≡ false → bytes_eq v v ≡ true → OutputsPart es ss ds p w → IsEnd c → Ends (StartsWord v) (tokens_of w ++ c)
outputs_part_ends v w c a b s e = before_more v s.front s.back w c s.whole (not_in_row (codes "output") v (tokens_of s.back ++ c) a b outputs_begin s.spelled (done_end v s.back c s.then_spelled e))

decls_part_ends : {es : List Event} {ss : List Setup} {p : ProgramTree} (v : List ℕ) (w : List Cell) (c : List Token) → bytes_eq (codes "let") v ≡ false → bytes_eq (codes "output") v ≡ false → bytes_eq v v ≡ true → DeclsPart es ss p w → IsEnd c → Ends (StartsWord v) (tokens_of w ++ c)
decls_part_ends v w c a a' b s e = before_more v s.front s.back w c s.whole (not_in_row (codes "let") v (tokens_of s.back ++ c) a b decls_begin s.spelled (outputs_part_ends v s.back c a' b s.then_spelled e))

setups_part_ends : {es : List Event} {p : ProgramTree} (v : List ℕ) (w : List Cell) (c : List Token) → bytes_eq (codes "setup") v ≡ false → bytes_eq (codes "let") v ≡ false → bytes_eq (codes "output") v ≡ false → bytes_eq v v ≡ true → SetupsPart es p w → IsEnd c → Ends (StartsWord v) (tokens_of w ++ c)
setups_part_ends v w c a a' a'' b s e = before_more v s.front s.back w c s.whole (not_in_row (codes "setup") v (tokens_of s.back ++ c) a b setups_begin s.spelled (decls_part_ends v s.back c a' a'' b s.then_spelled e))

some_outputs : (es : List Event) (ss : List Setup) (ds : List DeclTree) → Example (OutputsPart es ss ds)
some_outputs es ss ds = some_seq (some_row SpellsOutput) (λ os. some_done (a_program es ss ds os))

some_decls : (es : List Event) (ss : List Setup) → Example (DeclsPart es ss)
some_decls es ss = some_seq (some_row SpellsDecl) (some_outputs es ss)

some_setups : (es : List Event) → Example (SetupsPart es)
some_setups es = some_seq (some_row SpellsSetup) (some_decls es)

pub program_fits_1 : Fits (Row SpellsEvent) (Ends (StartsWord (codes "event"))) SetupsPart IsEnd
program_fits_1 = record { follows = λ a e v c k t. setups_part_ends (codes "event") v c refl refl refl refl k t; goes_on = some_setups }

pub program_fits_2 : (es : List Event) → Fits (Row SpellsSetup) (Ends (StartsWord (codes "setup"))) (DeclsPart es) IsEnd
program_fits_2 es = record { follows = λ a e v c k t. decls_part_ends (codes "setup") v c refl refl refl k t; goes_on = some_decls es }

pub program_fits_3 : (es : List Event) (ss : List Setup) → Fits (Row SpellsDecl) (Ends (StartsWord (codes "let"))) (OutputsPart es ss) IsEnd
program_fits_3 es ss = record { follows = λ a e v c k t. outputs_part_ends (codes "let") v c refl refl k t; goes_on = some_outputs es ss }

pub program_fits_4 : (es : List Event) (ss : List Setup) (ds : List DeclTree) → Fits (Row SpellsOutput) (Ends (StartsWord (codes "output"))) (λ os. Done (a_program es ss ds os)) IsEnd
program_fits_4 es ss ds = record { follows = λ a e v c k t. done_end (codes "output") v c k t; goes_on = λ os. some_done (a_program es ss ds os) }

pub program_like : {ts : List Token} → Like ProgramParts IsEnd SpellsProgram IsEnd ts
program_like {ts = ts} = record { into = into; from = from; stops = λ c t. t }
  where
    into : (p : ProgramTree) (w : List Cell) → ProgramParts p w → SpellsProgram p w
    into p w a =
        let b = a.then_spelled in
        let d = b.then_spelled in
        let o = d.then_spelled in
        let e = o.then_spelled in
        subst (λ x. SpellsProgram x w) (sym e.value) (record {
          events = a.front;
          setups = b.front;
          decls = d.front;
          outputs = o.front;
          spelled_events = a.spelled;
          spelled_setups = b.spelled;
          spelled_decls = d.spelled;
          spelled_outputs = o.spelled;
          whole = a.whole ∙ ap (λ cs. a.front ++ cs) (b.whole ∙ ap (λ cs. b.front ++ cs) (d.whole ∙ ap (λ cs. d.front ++ cs) (o.whole ∙ ap (λ cs. o.front ++ cs) e.whole ∙ append-nil o.front)));
        })

    from : (p : ProgramTree) (w : List Cell) (c : List Token) → SpellsProgram p w → IsEnd c → head (tokens_of w ++ c) ≡ head ts → ProgramParts p w
    from p w c s t h = record {
      first = p.events;
      front = s.events;
      back = s.setups ++ (s.decls ++ s.outputs);
      spelled = s.spelled_events;
      then_spelled = record {
        first = p.setups;
        front = s.setups;
        back = s.decls ++ s.outputs;
        spelled = s.spelled_setups;
        then_spelled = record {
          first = p.decls;
          front = s.decls;
          back = s.outputs;
          spelled = s.spelled_decls;
          then_spelled = record { first = p.outputs; front = s.outputs; back = []; spelled = s.spelled_outputs; then_spelled = closing p; whole = sym (append-nil s.outputs) };
          whole = refl;
        };
        whole = refl;
      };
      whole = s.whole;
    }

-- Tokens behind the last item are too many.
pub not_ended : {A : Type 0} (x : A) (ts : List Token) (before : List Begun) → false ≡ (length ts == 0) → Fails (Done x) IsEnd ts before before (Unexpected (length ts))
not_ended x ts before h = odd (stuck_here before x [] (closing x) tt (λ e w c more d t p q. some ts h (sym p ∙ ap head (sym q ∙ ap (λ cs. tokens_of cs ++ c) d.whole ∙ t))))
  where
    some : (us : List Token) → false ≡ (length us == 0) → head us ≡ None → ⊥
    some [] e n = cc
    some (u ∷ us) e n = cc

pub ended : (ts : List Token) → true ≡ (length ts == 0) → ts ≡ []
ended [] h = refl
ended (t ∷ ts) h = absurd (omega (arith, eqb-true (length (t ∷ ts)) 0 (sym h)))

pub found_end : {A : Type 0} (x : A) (ts : List Token) (before : List Begun) → true ≡ (length ts == 0) → Found (Done x) IsEnd ts x [] before before
found_end x ts before h = subst (λ us. Found (Done x) IsEnd ts x us before before) (ended ts h) (found_done IsEnd ts x before)
