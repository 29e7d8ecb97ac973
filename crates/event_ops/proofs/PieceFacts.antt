-- Operations that leave a value in cells that are none of a state: those of its expression, and copies behind them.
use Rattle.std.specs.List.{AllByRecursion}
use Rattle.std.proofs.Common.{◌≡◌, ℕ, ◌+◌, ◌*◌, ◌<◌, ◌≤◌, nat_lt, cond, Bool, true, false, List, [], ◌∷◌, ◌++◌, sum_by, refl, sym, ap, subst, ◌∙◌, arith}
use Rattle.std.proofs.lemmas.Bool.{false≢true, ltb-true, ltb-false, lt-ltb}
use Rattle.std.proofs.lemmas.List.{append_assoc}
use Rattle.std.proofs.lemmas.List.Sums.{sum_by-append, sum_by-cons}
use Rattle.frp_tree.specs.declared.syntax.Ty.{Ty}
use Rattle.frp_tree.specs.Tree.{Tree, ProgramTree}
use Rattle.efrp_meaning.specs.Bounds.{result_bytes}
use Rattle.event_needs.proofs.ListLaws.{all-append}
use Rattle.byte_ops.specs.declared.operations.Op.{Op}
use Rattle.byte_ops.specs.declared.operations.Pair.{Pair}
use Rattle.byte_ops.specs.Cells.{cells_of, held}
use Rattle.byte_ops.specs.Kinds.{IsOp}
use Rattle.byte_ops.specs.Meaning.{read_by, written_by}
use Rattle.byte_ops.specs.Weights.{weight_of}
use Rattle.expr_lower.specs.Lowered.{old_among}
use Rattle.expr_lower.specs.Places.{is_wide}
use Rattle.expr_lower.specs.Running.{CanRun, DoAll, GiveOut, HoldBytes}
use Rattle.expr_lower.proofs.OrderLaws.{all-run, between, ends-after, in-more, kinds-append, leaves, order-append}
use Rattle.event_ops.specs.declared.drafts.Draft.{Draft}
use Rattle.event_ops.specs.Drafts.{Adds, GoesOn, Lasting, Moved, MovedPair, MovesPair, Values, moved, moved_if, moved_pair}

-- What can be run where there are some cells can be where there are more.
pub runs-more : (a b : ℕ) (ops : List Op) → a ≤ b → AllByRecursion (CanRun a) ops → AllByRecursion (CanRun b) ops
runs-more a b [] h all = tt
runs-more a b (o ∷ os) h all = (
  record {
    kind = all.0.kind;
    written_in = in-more a b (written_by o) h all.0.written_in;
    read_in = in-more a b (read_by o) h all.0.read_in;
    apart = all.0.apart;
    differ = all.0.differ;
  },
  runs-more a b os h all.1,
)

-- How many cells of one are among the first so many.
abbrev pub one_old : ℕ → ℕ → ℕ
one_old states cell = cond (nat_lt cell states) 1 0

pub record IsMoved (states next cell : ℕ) (m : Moved) : Type 0 where
  pub order : GiveOut next m.ops m.next
  pub kinds : AllByRecursion IsOp m.ops
  pub old : states ≤ m.at
  pub given : m.at < m.next
  pub holds : (start finish : ℕ → ℕ) → DoAll m.ops start finish → finish m.at ≡ start cell
  pub count : m.next ≡ next + one_old states cell
  pub weight : sum_by weight_of m.ops ≡ 6 * one_old states cell

pub is-moved : (states next cell : ℕ) → states ≤ next → cell < next → IsMoved states next cell (moved states next cell)
is-moved states next cell h given = by_test (nat_lt cell states) refl
  where
    by_test : (b : Bool) → nat_lt cell states ≡ b → IsMoved states next cell (moved_if b next cell)
    by_test true e =
        let one : ◌≡◌ {A = ℕ} (cond (nat_lt cell states) 1 0) 1 = ap (λ b. cond b 1 0) e in
        record {
          order = ((given, tt), (refl, tt), omega arith);
          kinds = (tt, tt);
          old = h;
          given = omega arith;
          holds = λ start finish d. d.3 next ∙ d.1.0 tt;
          count = omega (arith, one);
          weight = omega (arith, one);
        }
    by_test false e =
        let none : ◌≡◌ {A = ℕ} (cond (nat_lt cell states) 1 0) 0 = ap (λ b. cond b 1 0) e in
        record {
          order = refl;
          kinds = tt;
          old = ltb-false cell states e;
          given = given;
          holds = λ start finish d. d cell;
          count = omega (arith, none);
          weight = omega (arith, none);
        }

pub record IsMovedPair (wide : Bool) (states next : ℕ) (pair : Pair) (m : MovedPair) : Type 0 where
  pub order : GiveOut next m.ops m.next
  pub kinds : AllByRecursion IsOp m.ops
  pub low_old : states ≤ m.at.low
  pub high_old : states ≤ m.at.high
  pub low_given : m.at.low < m.next
  pub high_given : m.at.high < m.next
  pub narrow : wide ≡ false → m.at.high ≡ m.at.low
  pub holds : (start finish : ℕ → ℕ) → HoldBytes start → DoAll m.ops start finish → held wide m.at finish ≡ held wide pair start
  pub count : m.next ≡ next + old_among states (cells_of wide pair)
  pub weight : sum_by weight_of m.ops ≡ 6 * old_among states (cells_of wide pair)

among-one : (states cell : ℕ) → old_among states (cell ∷ []) ≡ one_old states cell
among-one states cell = let split = sum_by-cons (λ c. cond (nat_lt c states) 1 0) cell [] in omega (arith, split)

among-two : (states a b : ℕ) → old_among states (a ∷ b ∷ []) ≡ one_old states a + one_old states b
among-two states a b =
    let first = sum_by-cons (λ c. cond (nat_lt c states) 1 0) a (b ∷ []) in
    let second = sum_by-cons (λ c. cond (nat_lt c states) 1 0) b [] in
    omega (arith, first, second)

pub is-moved-pair : (wide : Bool) (states next : ℕ) (pair : Pair) → states ≤ next → pair.low < next → pair.high < next → IsMovedPair wide states next pair (moved_pair wide states next pair)
is-moved-pair false states next pair h low high =
    let m = is-moved states next pair.low h low in
    let one = among-one states pair.low in
    record {
      order = m.order;
      kinds = m.kinds;
      low_old = m.old;
      high_old = m.old;
      low_given = m.given;
      high_given = m.given;
      narrow = λ e. refl;
      holds = λ start finish bytes d. m.holds start finish d;
      count = omega (arith, m.count, one);
      weight = omega (arith, m.weight, one);
    }
is-moved-pair true states next pair h low high =
    let m = is-moved states next pair.low h low in
    let first = moved states next pair.low in
    let more = ends-after next first.ops first.next m.order in
    let k = is-moved states first.next pair.high (omega (arith, h, more)) (omega (arith, high, more)) in
    let second = moved states first.next pair.high in
    let further = ends-after first.next second.ops second.next k.order in
    let two = among-two states pair.low pair.high in
    let sum = sum_by-append weight_of first.ops second.ops in
    record {
      order = order-append next first.ops second.ops first.next second.next m.order k.order;
      kinds = kinds-append first.ops second.ops m.kinds k.kinds;
      low_old = m.old;
      high_old = k.old;
      low_given = omega (arith, m.given, further);
      high_given = k.given;
      narrow = λ e. absurd (false≢true (sym e));
      holds = λ start finish bytes d.
          let b = between first.ops second.ops start finish bytes d in
          let high_is : finish second.at ≡ start pair.high = k.holds b.at finish b.second ∙ leaves next first.ops first.next start b.at m.order b.first pair.high high in
          let low_is : finish first.at ≡ start pair.low = leaves first.next second.ops second.next b.at finish k.order b.second first.at m.given ∙ m.holds start b.at b.first in
          ap (λ x. x + 256 * finish second.at) low_is ∙ ap (λ x. start pair.low + 256 * x) high_is;
      count = omega (arith, m.count, k.count, two);
      weight = omega (arith, m.weight, k.weight, two, sum);
    }

-- Fewer cells have fewer among them.
one-fewer : (a b cell : ℕ) → a ≤ b → one_old a cell ≤ one_old b cell
one-fewer a b cell h = by_test (nat_lt cell a) refl
  where
    by_test : (k : Bool) → nat_lt cell a ≡ k → cond k 1 0 ≤ one_old b cell
    by_test false e = omega arith
    by_test true e =
        let less = ltb-true cell a e in
        let one : ◌≡◌ {A = ℕ} (cond (nat_lt cell b) 1 0) 1 = ap (λ x. cond x 1 0) (lt-ltb cell b (omega (arith, less, h))) in
        omega (arith, one)

fewer : (wide : Bool) (a b : ℕ) (pair : Pair) → a ≤ b → old_among a (cells_of wide pair) ≤ old_among b (cells_of wide pair)
fewer false a b pair h = let first = among-one a pair.low in let second = among-one b pair.low in let less = one-fewer a b pair.low h in omega (arith, first, second, less)
fewer true a b pair h =
    let first = among-two a pair.low pair.high in
    let second = among-two b pair.low pair.high in
    let low = one-fewer a b pair.low h in
    let high = one-fewer a b pair.high h in
    omega (arith, first, second, low, high)

-- The lowering of an expression leaves its value.
pub adds-values : (p : ProgramTree) (before after : Draft) (e : Tree) (t : Ty) (at : Pair) → Adds p before after e t at → Values p before after e t at
adds-values p before after e t at a = record {
  ops = a.ops;
  grows = record { goes_on = a.goes_on; order = a.lowers.order; runs = a.lowers.runs; count = omega (arith, a.lowers.count); weight = omega (arith, a.lowers.weight) };
  result_in = a.lowers.result_in;
  narrow = a.lowers.narrow;
  value = a.lowers.value;
}

pub goes-further : (before middle after : Draft) (xs ys : List Op) → GoesOn before middle xs → GoesOn middle after ys → GoesOn before after (xs ++ ys)
goes-further before middle after xs ys a b = record {
  ops = b.ops ∙ ap (λ o. o ++ ys) a.ops ∙ append_assoc before.ops xs ys;
  places = b.places ∙ a.places;
  copies = b.copies ∙ a.copies;
  states = b.states ∙ a.states;
}

module _ (p : ProgramTree) (before middle after : Draft) (e : Tree) (t : Ty) (pair at : Pair) (adds : Adds p before middle e t pair) (old : before.states ≤ before.cells.next) where
  more : before.cells.next ≤ middle.cells.next
  more = ends-after before.cells.next adds.ops middle.cells.next adds.lowers.order

  pair-moved : (wide : Bool) (states : ℕ) → states ≡ before.states → IsMovedPair wide states middle.cells.next pair (moved_pair wide states middle.cells.next pair)
  pair-moved wide states same = is-moved-pair wide states middle.cells.next pair (omega (arith, same, old, more)) adds.lowers.result_in.0 adds.lowers.result_in.1.0

  -- There is room for the copies,
  pub lasting-room : (wide : Bool) → wide ≡ is_wide t → before.cells.next + result_bytes p e ≤ 65536 → (moved_pair wide middle.states middle.cells.next pair).next ≤ 65536
  lasting-room wide is room =
      let m = pair-moved wide middle.states adds.goes_on.states in
      let count = subst (λ w. (moved_pair wide middle.states middle.cells.next pair).next ≡ middle.cells.next + old_among middle.states (cells_of w pair)) is m.count in
      let less = fewer (is_wide t) middle.states before.cells.next pair (omega (arith, adds.goes_on.states, old)) in
      omega (arith, count, less, adds.lowers.count, room)

  -- and behind them the value lasts.
  pub moves-lasting : MovesPair middle after (moved_pair (is_wide t) middle.states middle.cells.next pair) at → Lasting p before after e t at
  moves-lasting moves =
      let m = pair-moved (is_wide t) middle.states adds.goes_on.states in
      let mp = moved_pair (is_wide t) middle.states middle.cells.next pair in
      let less = fewer (is_wide t) middle.states before.cells.next pair (omega (arith, adds.goes_on.states, old)) in
      let order = subst (λ n. GiveOut middle.cells.next mp.ops n) (sym moves.next) m.order in
      let further = ends-after middle.cells.next mp.ops after.cells.next order in
      let sum = sum_by-append weight_of adds.ops mp.ops in
      let low_is = ap (λ (x : Pair). x.low) moves.at in
      let high_is = ap (λ (x : Pair). x.high) moves.at in
      record {
        values = record {
          ops = adds.ops ++ mp.ops;
          grows = record {
            goes_on = goes-further before middle after adds.ops mp.ops adds.goes_on moves.goes_on;
            order = order-append before.cells.next adds.ops mp.ops middle.cells.next after.cells.next adds.lowers.order order;
            runs =
                all-append (CanRun after.cells.next) adds.ops mp.ops (runs-more middle.cells.next after.cells.next adds.ops further adds.lowers.runs)
                (all-run middle.cells.next mp.ops after.cells.next order m.kinds);
            count = omega (arith, moves.next, m.count, less, adds.lowers.count);
            weight = omega (arith, sum, m.weight, less, adds.lowers.weight);
          };
          result_in = (omega (arith, low_is, m.low_given, moves.next), (omega (arith, high_is, m.high_given, moves.next), tt));
          narrow = λ is. ap (λ (x : Pair). x.high) moves.at ∙ m.narrow is ∙ sym (ap (λ (x : Pair). x.low) moves.at);
          value = λ names start finish bytes hold d.
              let b = between adds.ops mp.ops start finish bytes d in
              let v = adds.lowers.value names start b.at bytes hold b.first in
              (v.0, v.1, v.2, ap (λ (x : Pair). held (is_wide t) x finish) moves.at ∙ m.holds b.at finish b.bytes b.second ∙ v.3);
        };
        low = omega (arith, low_is, m.low_old, adds.goes_on.states);
        high = omega (arith, high_is, m.high_old, adds.goes_on.states);
      }
