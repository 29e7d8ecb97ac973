-- A text's fault has one place, in the text, and one message.
use Rattle.std.proofs.Common.{◌≡◌, ℕ, ◌+◌, ◌≤◌, List, [], length, Some, inl, inr, refl, sym, ap, subst, ◌∙◌, arith}
use Rattle.std.proofs.lemmas.List.{append-nil}
use Rattle.frp_tree.specs.declared.kinds.Kind.TheVariants.{Definitions}
use Rattle.frp_tree.specs.declared.kinds.Kind.{Kind}
use Rattle.frp_tree.specs.declared.tokens.Token.{Token}
use Rattle.frp_tree.specs.Breaks.{Begins, IsTooMany}
use Rattle.frp_tree.specs.Cells.{Cell, tokens_of}
use Rattle.frp_tree.specs.Grammar.{SpellsProgram}
use Rattle.frp_tree.specs.Tree.{ProgramTree}
use Rattle.frp_tree.proofs.MarkLaws.{one_marking}
use Rattle.frp_tree.proofs.OneTreeLaws.{one_tree}
use Rattle.frp_tree.proofs.TokenLaws.{one_list}
use Rattle.efrp_syntax.specs.declared.faults.SyntaxFault.{SyntaxFault}
use Rattle.efrp_syntax.specs.declared.faults.SyntaxFault.TheVariants.{BadByte, TooBig, Unexpected, TooDeep, TooMany, Memory}
use Rattle.efrp_syntax.specs.Parsed.{HasFault}
use Rattle.efrp_syntax.specs.Places.{IsTokenPlace}
use Rattle.efrp_syntax.proofs.PlaceLaws.{one_token_place, token_within, one_many}
use Rattle.efrp_types.specs.declared.faults.CheckFault.{CheckFault}
use Rattle.efrp_types.specs.Numbers.{decl_number}
use Rattle.checked_source.specs.Readings.{Passing, Faulty, Misused, Cyclic}
use Rattle.where_tool.specs.declared.parts.Part.{Part}
use Rattle.where_tool.specs.Laws.{OnePoint, PointIsWithin}
use Rattle.where_tool.specs.Messages.{check_message}
use Rattle.where_tool.specs.PartTokens.{fault_token, head_of}
use Rattle.where_tool.specs.Points.{IsMarked, IsMetAt, IsDefinedAt, SyntaxPlace}
use Rattle.where_tool.specs.Visits.{check_visits, first_part}

whole : (p : ProgramTree) (cells : List Cell) → SpellsProgram p cells → Begins cells
whole p cells spelled = record { program = p; ahead = []; spelled = subst (SpellsProgram p) (sym (append-nil cells)) spelled }

-- A text is marked in one way.
one-marked : (text : List ℕ) (p q : ProgramTree) (cells others : List Cell) → IsMarked text p cells → IsMarked text q others → (p ≡ q) × (cells ≡ others)
one-marked text p q cells others m k =
    let same : tokens_of others ≡ tokens_of cells = one_list text (tokens_of cells) (tokens_of others) m.cut k.cut in (
      one_tree (tokens_of cells) p q (record { cells = cells; spelled = m.spelled; tokens = refl }) (record { cells = others; spelled = k.spelled; tokens = same }),
      one_marking cells others (whole p cells m.spelled) (whole q others k.spelled) (sym same),
    )

pub is-some : {A : Type 0} (x y : A) → Some x ≡ Some y → x ≡ y
is-some x y e = cc e

one-met : (text : List ℕ) (fault : CheckFault) (part other : Part) (m n : ℕ) → IsMetAt text fault part m → IsMetAt text fault other n → (part ≡ other) × (m ≡ n)
one-met text fault part other m n h k =
    let (same, cells) = one-marked text h.program k.program h.cells k.cells h.marked k.marked in
    let parts : part ≡ other = is-some part other (sym h.met ∙ ap (λ p. first_part (check_visits p)) same ∙ k.met) in
    (parts, h.number ∙ ap (λ p. fault_token p fault h.cells) parts ∙ ap (fault_token other fault) cells ∙ sym k.number)

one-defined : (text name : List ℕ) (m n : ℕ) → IsDefinedAt text name m → IsDefinedAt text name n → m ≡ n
one-defined text name m n h k =
    let (same, cells) = one-marked text h.program k.program h.cells k.cells h.marked k.marked in
    let decls : h.decl ≡ k.decl = is-some h.decl k.decl (sym h.named ∙ ap (λ p. decl_number p name) same ∙ k.named) in
    h.number ∙ ap (λ d. head_of Definitions d h.cells + 1) decls ∙ ap (λ cells. head_of Definitions k.decl cells + 1) cells ∙ sym k.number

many-place : (text : List ℕ) (ts us : List Token) (kind : Kind) (p q : ℕ) → us ≡ ts → (a : IsTooMany ts kind) → IsTokenPlace text a.n p → (b : IsTooMany us kind) → IsTokenPlace text b.n q → p ≡ q
many-place text ts us kind p q same a here =
    subst (λ vs. (b : IsTooMany vs kind) → IsTokenPlace text b.n q → p ≡ q) (sym same)
    (λ b there. one_token_place text b.n p q (subst (λ k. IsTokenPlace text k p) (one_many ts kind kind a b) here) there)

one-syntax : (text : List ℕ) (fault : SyntaxFault) (p q : ℕ) → SyntaxPlace text fault p → SyntaxPlace text fault q → p ≡ q
one-syntax text (BadByte «at») p q h k = h ∙ sym k
one-syntax text (TooBig «at») p q h k = h ∙ sym k
one-syntax text (Unexpected n) p q h k = one_token_place text n p q h k
one-syntax text (TooDeep n) p q h k = one_token_place text n p q h k
one-syntax text (TooMany kind) p q (ts, has, (many, «at»)) (us, had, (more, there)) = many-place text ts us kind p q (one_list text ts us has had) many «at» more there
one-syntax text Memory p q h k = absurd h

pub one-point : OnePoint
one-point text (Passing p) place other message told h k = absurd h
one-point text (Faulty fault) place other message told h k = (one-syntax text fault place other h.0 k.0, h.1 ∙ sym k.1)
one-point text (Misused fault) place other message told (part, n, met, «at», is) (next, m, again, there, says) =
    let (parts, numbers) = one-met text fault part next n m met again in
    (one_token_place text m place other (subst (λ k. IsTokenPlace text k place) numbers «at») there, is ∙ ap (λ p. check_message p fault) parts ∙ sym says)
one-point text (Cyclic event name) place other message told (n, defined, «at», is) (m, again, there, says) =
    (one_token_place text m place other (subst (λ k. IsTokenPlace text k place) (one-defined text name n m defined again) «at») there, is ∙ sym says)

-- It is in the text.
syntax-within : (text : List ℕ) (fault : SyntaxFault) (place : ℕ) → HasFault text fault → SyntaxPlace text fault place → place ≤ length text
syntax-within text (BadByte n) place has is = omega (arith, has.1.reached.«at», is)
syntax-within text (TooBig n) place (inl has) is = omega (arith, has.0, has.1, is)
syntax-within text (TooBig n) place (inr has) is = omega (arith, has.1.reached.«at», is)
syntax-within text (Unexpected n) place has is = token_within text n place is
syntax-within text (TooDeep n) place has is = token_within text n place is
syntax-within text (TooMany kind) place has (ts, had, (many, is)) = token_within text many.n place is
syntax-within text Memory place has is = absurd is

pub point-within : PointIsWithin
point-within text (Passing p) place message reads is = absurd is
point-within text (Faulty fault) place message reads is = syntax-within text fault place reads is.0
point-within text (Misused fault) place message reads (part, n, met, «at», is) = token_within text n place «at»
point-within text (Cyclic event name) place message reads (n, defined, «at», is) = token_within text n place «at»
