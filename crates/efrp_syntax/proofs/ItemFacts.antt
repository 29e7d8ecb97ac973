-- The parts of which each item is made, and what it begins with.
use Rattle.std.proofs.Common.{◌≡◌, ℕ, false, List, [], ◌∷◌, ◌++◌, codes, refl, sym, ap, subst, ◌∙◌}
use Rattle.frp_tree.specs.declared.kinds.Kind.{Kind}
use Rattle.frp_tree.specs.declared.kinds.Kind.TheVariants.{Events, Setups, Outputs}
use Rattle.frp_tree.specs.declared.levels.Level.TheVariants as level
use Rattle.frp_tree.specs.declared.marks.TheConstants as mark
use Rattle.frp_tree.specs.declared.syntax.Event.{Event}
use Rattle.frp_tree.specs.declared.syntax.Setup.{Setup}
use Rattle.frp_tree.specs.declared.tokens.Token.{Token}
use Rattle.frp_tree.specs.declared.tokens.Token.TheVariants.{Word, Num, Mark}
use Rattle.frp_tree.specs.Names.{is_keyword}
use Rattle.frp_tree.specs.Tree.{Tree, Name, OutputTree}
use Rattle.frp_tree.specs.Cells.{Cell, tokens_of, plain, starting, node}
use Rattle.frp_tree.specs.Grammar.{word, sign, SpellsExpr, named, alone, SpellsEvent, SpellsSetup, SpellsOutput}
use Rattle.efrp_syntax.specs.Answers.{head, Anything, Tok, Done, Seq, Example, Fits, Like}
use Rattle.efrp_syntax.specs.Expressions.{Stops}
use Rattle.efrp_syntax.specs.Items.{StartsWord, NameOf, NumberOf, HeaderOf, LastNumber, EndsItem}
use Rattle.efrp_syntax.proofs.PhraseLaws.{seq}
use Rattle.efrp_syntax.proofs.EndFacts.{stops_mark}
use Rattle.efrp_syntax.proofs.ItemKindFacts.{some_one, some_tok, some_done, some_seq, fits_any, opened, opening, closing, AllBegin}

-- Some name, some number, some expression.
pub some_name : Example NameOf
some_name = some_one (λ x. word x) (λ x. is_keyword x ≡ false) (codes "a") refl

pub some_number : Example NumberOf
some_number = some_one (λ n. plain (Num n)) (λ n. Unit {0}) 0 tt

pub some_last_number : Example LastNumber
some_last_number = some_seq some_number (λ n. some_seq (some_tok (sign mark.SEMICOLON)) (λ u. some_done n))

name_alone : SpellsExpr level.Whole 0 (Name (codes "a")) (node (Word (codes "a")) ∷ [])
name_alone = alone refl (alone refl (alone refl (alone refl (alone refl (alone refl (alone refl (alone refl (alone refl (alone refl (named refl))))))))))

pub some_expr : Example (SpellsExpr level.Whole 0)
some_expr = record { value = Name (codes "a"); cells = node (Word (codes "a")) ∷ []; spelled = name_alone }

-- What the head of an item is made of.
pub record HeaderParts (kind : Kind) (w x : List ℕ) (cells : List Cell) : Type 0 where
  pub name : is_keyword x ≡ false
  pub whole : cells ≡ starting kind (Word w) ∷ word x ∷ sign mark.EQUALS ∷ []

pub header_parts : {kind : Kind} {w x : List ℕ} {cells : List Cell} → HeaderOf kind w x cells → HeaderParts kind w x cells
header_parts {kind = kind} {w = w} {x = x} h =
    let a = opened h in
    let b = opened a.spelled in
    let c = opened b.spelled in
    record {
      name = subst (λ y. is_keyword y ≡ false) (sym c.spelled.value) b.is;
      whole = a.whole ∙ ap (λ cs. starting kind (Word w) ∷ cs) (b.whole ∙ ap (λ cs. word b.value ∷ cs) (c.whole ∙ ap (λ cs. sign mark.EQUALS ∷ cs) c.spelled.whole) ∙ ap (λ y. word y ∷ sign mark.EQUALS ∷ []) (sym c.spelled.value));
    }

pub header_of : (kind : Kind) (w x : List ℕ) → is_keyword x ≡ false → HeaderOf kind w x (starting kind (Word w) ∷ word x ∷ sign mark.EQUALS ∷ [])
header_of kind w x k = opening tt tt (opening x k (opening tt tt (closing x)))

last_number_cells : {n : ℕ} {cells : List Cell} → LastNumber n cells → cells ≡ plain (Num n) ∷ sign mark.SEMICOLON ∷ []
last_number_cells h =
    let a = opened h in
    let b = opened a.spelled in
    a.whole ∙ ap (λ cs. plain (Num a.value) ∷ cs) (b.whole ∙ ap (λ cs. sign mark.SEMICOLON ∷ cs) b.spelled.whole) ∙ ap (λ m. plain (Num m) ∷ sign mark.SEMICOLON ∷ []) (sym b.spelled.value)

last_number_of : (n : ℕ) → LastNumber n (plain (Num n) ∷ sign mark.SEMICOLON ∷ [])
last_number_of n = opening n tt (opening tt tt (closing n))

-- What is joined of two parts.
pub join : {w u v x y : List Cell} → w ≡ u ++ v → u ≡ x → v ≡ y → w ≡ x ++ y
join {v = v} {x = x} e f g = e ∙ ap (λ cs. cs ++ v) f ∙ ap (λ cs. x ++ cs) g

-- Events.

abbrev pub an_event : List ℕ → List ℕ → ℕ → Event
an_event name source n = record { name = name; source = source; priority = n }

abbrev pub a_setup : List ℕ → ℕ → Setup
a_setup register n = record { register = register; byte = n }

abbrev pub an_output : List ℕ → Tree → OutputTree
an_output port e = record { port = port; expr = e }

abbrev pub EventEnd : List ℕ → List ℕ → Event → List Cell → Type 0
EventEnd name source = Seq LastNumber (λ n. Done (an_event name source n))

abbrev pub EventBack : List ℕ → Event → List Cell → Type 0
EventBack name = Seq NameOf (λ source. Seq (Tok (word (codes "priority"))) (λ u. EventEnd name source))

abbrev pub EventParts : Event → List Cell → Type 0
EventParts = Seq (HeaderOf Events (codes "event")) EventBack

pub some_event_end : (name source : List ℕ) → Example (EventEnd name source)
some_event_end name source = some_seq some_last_number (λ n. some_done (an_event name source n))

pub event_fits_1 : {T : List Token → Type 0} → Fits (HeaderOf Events (codes "event")) Anything EventBack T
event_fits_1 = fits_any (λ name. some_seq some_name (λ source. some_seq (some_tok _) (λ u. some_event_end name source)))

pub event_fits_2 : {T : List Token → Type 0} (name : List ℕ) → Fits NameOf Anything (λ source. Seq (Tok (word (codes "priority"))) (λ u. EventEnd name source)) T
event_fits_2 name = fits_any (λ source. some_seq (some_tok _) (λ u. some_event_end name source))

pub event_fits_3 : {T : List Token → Type 0} (name source : List ℕ) → Fits (Tok (word (codes "priority"))) Anything (λ u. EventEnd name source) T
event_fits_3 name source = fits_any (λ u. some_event_end name source)

pub event_fits_4 : {T : List Token → Type 0} (name source : List ℕ) → Fits LastNumber Anything (λ n. Done (an_event name source n)) T
event_fits_4 name source = fits_any (λ n. some_done (an_event name source n))

pub event_like : {ts : List Token} → Like EventParts Anything SpellsEvent Anything ts
event_like {ts = ts} = record { into = into; from = from; stops = λ c t. t }
  where
    into : (e : Event) (w : List Cell) → EventParts e w → SpellsEvent e w
    into e w s =
        let h = header_parts s.spelled in
        let a = opened s.then_spelled in
        let b = opened a.spelled in
        let n = last_number_cells b.spelled.spelled in
        let d = b.spelled.then_spelled in
        subst (λ x. SpellsEvent x w) (sym d.value) (record {
          name = h.name;
          source = a.is;
          whole = join s.whole h.whole (a.whole ∙ ap (λ cs. word a.value ∷ cs) (b.whole ∙ ap (λ cs. word (codes "priority") ∷ cs) (join b.spelled.whole n d.whole)));
        })

    from : (e : Event) (w : List Cell) (c : List Token) → SpellsEvent e w → Anything c → head (tokens_of w ++ c) ≡ head ts → EventParts e w
    from e w c s t h = subst (EventParts e) (sym s.whole)
        (seq e.name (starting Events (Word (codes "event")) ∷ word e.name ∷ sign mark.EQUALS ∷ []) (word e.source ∷ word (codes "priority") ∷ plain (Num e.priority) ∷ sign mark.SEMICOLON ∷ [])
        (header_of Events (codes "event") e.name s.name)
        (opening e.source s.source (opening tt tt (seq e.priority (plain (Num e.priority) ∷ sign mark.SEMICOLON ∷ []) [] (last_number_of e.priority) (closing e)))))

-- Setups.

abbrev pub SetupParts : Setup → List Cell → Type 0
SetupParts = Seq (HeaderOf Setups (codes "setup")) (λ register. Seq LastNumber (λ n. Done (a_setup register n)))

pub setup_fits_1 : {T : List Token → Type 0} → Fits (HeaderOf Setups (codes "setup")) Anything (λ register. Seq LastNumber (λ n. Done (a_setup register n))) T
setup_fits_1 = fits_any (λ register. some_seq some_last_number (λ n. some_done (a_setup register n)))

pub setup_fits_2 : {T : List Token → Type 0} (register : List ℕ) → Fits LastNumber Anything (λ n. Done (a_setup register n)) T
setup_fits_2 register = fits_any (λ n. some_done (a_setup register n))

pub setup_like : {ts : List Token} → Like SetupParts Anything SpellsSetup Anything ts
setup_like {ts = ts} = record { into = into; from = from; stops = λ c t. t }
  where
    into : (e : Setup) (w : List Cell) → SetupParts e w → SpellsSetup e w
    into e w s =
        let h = header_parts s.spelled in
        let b = s.then_spelled in
        let n = last_number_cells b.spelled in
        let d = b.then_spelled in
        subst (λ x. SpellsSetup x w) (sym d.value) (record { register = h.name; whole = join s.whole h.whole (join b.whole n d.whole) })

    from : (e : Setup) (w : List Cell) (c : List Token) → SpellsSetup e w → Anything c → head (tokens_of w ++ c) ≡ head ts → SetupParts e w
    from e w c s t h = subst (SetupParts e) (sym s.whole)
        (seq e.register (starting Setups (Word (codes "setup")) ∷ word e.register ∷ sign mark.EQUALS ∷ []) (plain (Num e.byte) ∷ sign mark.SEMICOLON ∷ [])
        (header_of Setups (codes "setup") e.register s.register)
        (seq e.byte (plain (Num e.byte) ∷ sign mark.SEMICOLON ∷ []) [] (last_number_of e.byte) (closing e)))

-- Outputs.

pub whole_stops : (c : List Token) → EndsItem c → Stops level.Whole c
whole_stops [] e = cc
whole_stops (t ∷ c) e = let same : t ≡ Mark mark.SEMICOLON = cc in subst (λ x. Stops level.Whole (x ∷ c)) (sym same) (stops_mark level.Whole mark.SEMICOLON c refl refl)

abbrev pub OutputEnd : List ℕ → Tree → OutputTree → List Cell → Type 0
OutputEnd port e = Seq (Tok (sign mark.SEMICOLON)) (λ u. Done (an_output port e))

abbrev pub OutputParts : OutputTree → List Cell → Type 0
OutputParts = Seq (HeaderOf Outputs (codes "output")) (λ port. Seq (SpellsExpr level.Whole 0) (OutputEnd port))

pub some_output_end : (port : List ℕ) (e : Tree) → Example (OutputEnd port e)
some_output_end port e = some_seq (some_tok _) (λ u. some_done (an_output port e))

pub output_fits_1 : {T : List Token → Type 0} → Fits (HeaderOf Outputs (codes "output")) Anything (λ port. Seq (SpellsExpr level.Whole 0) (OutputEnd port)) T
output_fits_1 = fits_any (λ port. some_seq some_expr (some_output_end port))

pub output_fits_2 : {T : List Token → Type 0} (port : List ℕ) → Fits (SpellsExpr level.Whole 0) (Stops level.Whole) (OutputEnd port) T
output_fits_2 port = record { follows = λ a e v c k t. let o = opened k in whole_stops (tokens_of v ++ c) (ap (λ cs. head (tokens_of cs ++ c)) o.whole); goes_on = some_output_end port }

pub output_fits_3 : {T : List Token → Type 0} (port : List ℕ) (e : Tree) → Fits (Tok (sign mark.SEMICOLON)) Anything (λ u. Done (an_output port e)) T
output_fits_3 port e = fits_any (λ u. some_done (an_output port e))

pub output_like : {ts : List Token} → Like OutputParts Anything SpellsOutput Anything ts
output_like {ts = ts} = record { into = into; from = from; stops = λ c t. t }
  where
    into : (e : OutputTree) (w : List Cell) → OutputParts e w → SpellsOutput e w
    into e w s =
        let h = header_parts s.spelled in
        let b = s.then_spelled in
        let o = opened b.then_spelled in
        let d = o.spelled in
        subst (λ x. SpellsOutput x w) (sym d.value) (record { value = b.front; port = h.name; spelled = b.spelled; whole = join s.whole h.whole (join b.whole refl (o.whole ∙ ap (λ cs. sign mark.SEMICOLON ∷ cs) d.whole)) })

    from : (e : OutputTree) (w : List Cell) (c : List Token) → SpellsOutput e w → Anything c → head (tokens_of w ++ c) ≡ head ts → OutputParts e w
    from e w c s t h = subst (OutputParts e) (sym s.whole)
        (seq e.port (starting Outputs (Word (codes "output")) ∷ word e.port ∷ sign mark.EQUALS ∷ []) (s.value ++ sign mark.SEMICOLON ∷ [])
        (header_of Outputs (codes "output") e.port s.port)
        (seq e.expr s.value (sign mark.SEMICOLON ∷ []) s.spelled (opening tt tt (closing e))))

-- What they begin with.

pub events_begin : AllBegin SpellsEvent (StartsWord (codes "event"))
events_begin e w c s = ap (λ cs. head (tokens_of cs ++ c)) s.whole

pub setups_begin : AllBegin SpellsSetup (StartsWord (codes "setup"))
setups_begin e w c s = ap (λ cs. head (tokens_of cs ++ c)) s.whole

pub outputs_begin : AllBegin SpellsOutput (StartsWord (codes "output"))
outputs_begin e w c s = ap (λ cs. head (tokens_of cs ++ c)) s.whole
