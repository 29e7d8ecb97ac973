-- The loop over a text up to a token; and what the notes of a program's reader say of its tokens.
use Rattle.std.proofs.Common.{◌≡◌, ◌≢◌, ℕ, ◌+◌, ◌-◌, ◌≤◌, Bool, true, false, List, [], ◌∷◌, ◌++◌, length, map, Result, Ok, Err, ◌==◌, inl, inr, refl, sym, ap, subst, ◌∙◌, arith}
use Rattle.std.proofs.lemmas.List.{append-nil, length-append}
use Rattle.frp_tree.specs.declared.kinds.Kind.{Kind}
use Rattle.frp_tree.specs.declared.limits.TheConstants.{DEEPEST_NESTING}
use Rattle.frp_tree.specs.declared.syntax.Program.{Program}
use Rattle.frp_tree.specs.declared.tokens.Token.{Token}
use Rattle.frp_tree.specs.Tree.{ProgramTree, program_tree_of}
use Rattle.frp_tree.specs.Tokens.{is_number_token, IsWithin}
use Rattle.frp_tree.specs.Prefixes.{Skips, IsFirstToken}
use Rattle.frp_tree.specs.Cells.{Cell, tokens_of, IsWithinLimits}
use Rattle.frp_tree.specs.Grammar.{SpellsProgram}
use Rattle.frp_tree.specs.Breaks.{Begins, IsTooMany}
use Rattle.frp_tree.proofs.BreakLaws.{all_at, many, tree_not_past, unexpected_not_past, deep_not_many, past_once}
use Rattle.efrp_syntax.specs.declared.begun.Begun.{Begun}
use Rattle.efrp_syntax.specs.declared.begun.Stop.{Stop}
use Rattle.efrp_syntax.specs.declared.begun.Stop.TheVariants as stop
use Rattle.efrp_syntax.specs.Answers.{begun, IsShallow, IsDeepAt, Fails, odd, deep, memory}
use Rattle.efrp_syntax.specs.Items.{IsEnd}
use Rattle.efrp_syntax.specs.Places.{IsTokenPlace}
use Rattle.efrp_syntax.specs.Programs.{AreNoted, ReadWhole, HasFew, IsFirstTooManyAt}
use Rattle.efrp_syntax.proofs.CuttingFacts.{HasCut, cut_skip, cut_prefix, cut_end, reaches}
use Rattle.efrp_syntax.proofs.ParsedFacts.{many_told, many_placed, found_begins, found_tree, odd_told, deep_told}

-- So far a text has been cut, and so many tokens are left up to the one with this number.
pub record HasPassed (text rest : List ℕ) (after : Bool) (left n : ℕ) : Type 0 where
  pub found : List Token
  pub cut : HasCut text rest after found
  pub count : length found + left ≡ n

pub passed_skip : (text rest more : List ℕ) (after : Bool) (left n : ℕ) → HasPassed text rest after left n → Skips rest more → HasPassed text more false left n
passed_skip text rest more after left n h s = record { found = h.found; cut = cut_skip text rest more after h.found h.cut s; count = h.count }

pub passed_token : (text rest more : List ℕ) (after : Bool) (left n : ℕ) (t : Token) → HasPassed text rest after left n → IsFirstToken after rest t more → IsWithin t → left ≢ 0
    → HasPassed text more (is_number_token t) (left - 1) n
passed_token text rest more after left n t h f w some = record {
  found = h.found ++ t ∷ [];
  cut = cut_prefix text rest more after h.found t h.cut f w;
  count = omega (arith, h.count, length-append h.found (t ∷ []), some);
}

pub passed_place : (text rest more : List ℕ) (after : Bool) (left n place : ℕ) (t : Token) → HasPassed text rest after left n → IsFirstToken after rest t more → left ≡ 0 → length text ≡ place + length rest
    → IsTokenPlace text n place
unfolding reaches
passed_place text rest more after left n place t h f none is = inl (record {
  after = after;
  rest = rest;
  token = t;
  more = more;
  reached = reaches text rest place after h.found h.cut is;
  number = omega (arith, h.count, none);
  first = f;
})

pub passed_end : (text rest : List ℕ) (after : Bool) (left n : ℕ) → length text ≤ 65536 → HasPassed text rest after left n → true ≡ (length rest == 0) → IsTokenPlace text n (length text)
passed_end text rest after left n short h none = inr (record { tokens = h.found; cut = cut_end text rest after h.found short h.cut none; few = omega (arith, h.count); «at» = refl })

-- The cells that were read: those with which a program begins, and what is noted of them.
pub record NotedCells (ts : List Token) (notes : List Begun) : Type 0 where
  pub used : List Cell
  pub tail : List Token
  pub split : ts ≡ tokens_of used ++ tail
  pub begins : Begins used
  pub shallow : IsShallow used
  pub noted : notes ≡ map begun used

pub noted_cells : (ts : List Token) (notes : List Begun) → AreNoted ts notes → NotedCells ts notes
noted_cells ts notes a = go a.answer a.read a.full
  where
    stopped : (why : Stop) → Fails SpellsProgram IsEnd ts [] notes why → why ≢ stop.Memory → NotedCells ts notes
    stopped _ (odd s) full = record { used = s.used; tail = s.tail; split = s.split; begins = record { program = s.example; ahead = s.ahead; spelled = s.viable }; shallow = s.shallow; noted = s.noted }
    stopped _ (deep s) full = record { used = s.used; tail = s.tail; split = s.split; begins = record { program = s.example; ahead = s.ahead; spelled = s.viable }; shallow = s.shallow; noted = s.noted }
    stopped _ memory full = absurd (full refl)

    go : (answer : Result Program Stop) → ReadWhole ts [] notes answer → answer ≢ Err stop.Memory → NotedCells ts notes
    go (Ok p) f full = record { used = f.used; tail = []; split = f.split; begins = found_begins f; shallow = f.shallow; noted = f.noted }
    go (Err why) f full = stopped why f (λ e. full (ap Err e))

-- Of a program's tokens all are read.
pub noted_whole : (ts : List Token) (notes : List Begun) → AreNoted ts notes → (p : ProgramTree) (cells : List Cell) → SpellsProgram p cells → IsWithinLimits cells → tokens_of cells ≡ ts → notes ≡ map begun cells
noted_whole ts notes a p cells spelled within is = go a.answer a.read a.full
  where
    deep_none : (place : ℕ) → IsDeepAt place cells → ⊥
    deep_none place d =
        let low : d.cell.opens ≤ DEEPEST_NESTING = all_at (λ (c : Cell). c.opens ≤ DEEPEST_NESTING) d.before d.after d.cell (subst IsShallow d.whole within.shallow) in
        omega (arith, low, d.deep)

    stopped : (why : Stop) → Fails SpellsProgram IsEnd ts [] notes why → why ≢ stop.Memory → ⊥
    stopped _ (odd s) full = s.dead p cells [] s.tail spelled refl refl (append-nil (tokens_of cells) ∙ is ∙ s.split)
    stopped _ (deep s) full = deep_none _ (s.dead p cells [] s.tail spelled refl refl (append-nil (tokens_of cells) ∙ is ∙ s.split))
    stopped _ memory full = full refl

    go : (answer : Result Program Stop) → ReadWhole ts [] notes answer → answer ≢ Err stop.Memory → notes ≡ map begun cells
    go (Ok q) f full =
        let both = f.only p cells [] [] spelled refl refl (append-nil (tokens_of cells) ∙ is ∙ f.split) in f.noted ∙ ap (map begun) (sym both.1)
    go (Err why) f full = absurd (stopped why f (λ e. full (ap Err e)))

-- What is one too many stands where its note stands.
pub noted_many : (ts : List Token) (notes : List Begun) (place : ℕ) (told : Kind) → AreNoted ts notes → IsFirstTooManyAt notes place told → (kind : Kind) (m : IsTooMany ts kind) → place ≡ m.n
noted_many ts notes place told a first kind m =
    let c = noted_cells ts notes a in
    let t : IsTooMany ts told = many_told ts c.tail c.used notes told c.split c.begins c.shallow c.noted first.0 in
    let «at» : t.n ≡ place = many_placed ts c.tail c.used notes told c.split c.begins c.shallow c.noted first.0 ∙ first.1 in
    sym «at» ∙ (past_once ts t.n m.n t.first m.first (many told t.many) (many kind m.many)).0

pub noted_few : (ts : List Token) (notes : List Begun) → AreNoted ts notes → HasFew notes → (kind : Kind) → IsTooMany ts kind → ⊥
noted_few ts notes a few kind m = go a.answer a.read a.full
  where
    stopped : (why : Stop) → Fails SpellsProgram IsEnd ts [] notes why → why ≢ stop.Memory → ⊥
    stopped _ (odd s) full = unexpected_not_past ts _ m.n (odd_told s few) m.first (many kind m.many)
    stopped _ (deep s) full = deep_not_many ts _ kind (deep_told s few) m
    stopped _ memory full = full refl

    go : (answer : Result Program Stop) → ReadWhole ts [] notes answer → answer ≢ Err stop.Memory → ⊥
    go (Ok p) f full = tree_not_past ts (program_tree_of p) m.n (found_tree f few) m.first (many kind m.many)
    go (Err why) f full = stopped why f (λ e. full (ap Err e))
