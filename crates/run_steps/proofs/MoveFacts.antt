-- What the moves of a window leave in the plain bytes and put on ports; and its deeds, the last one apart.
use Rattle.std.proofs.Common.{◌≡◌, ℕ, Bool, true, false, not, ◌||◌, if◌then◌else◌, List, [], ◌∷◌, ◌++◌, refl, sym, ap, ap₂, subst, ◌∙◌, append_assoc, lit<}
use Rattle.std.proofs.lemmas.List.{append-nil}
use Rattle.std.specs.List.{AllByRecursion}
use Rattle.pic_regs.specs.declared.places.Place.{Place}
use Rattle.pic_regs.specs.declared.places.Place.TheVariants as place
use Rattle.pic_regs.specs.Bytes.{Byte, updated, with_bit}
use Rattle.pic_regs.specs.Places.{reg_of}
use Rattle.pic_regs.specs.Registers.{Registers, read}
use Rattle.glue_parts.specs.declared.kept.TheConstants.{REDO}
use Rattle.glue_parts.specs.declared.moves.Move.{Move}
use Rattle.glue_parts.specs.Moves.{after_move, after_moves, byte_from, put_to, puts_by, shown_at}
use Rattle.glue_parts.specs.Places.{is_status}
use Rattle.firmware_parts.specs.Layout.{Layout}
use Rattle.scratch_commit.specs.Deeds.{Deed, Copy, Make, Pause}
use Rattle.scratch_commit.specs.Effects.{DeedFits, effect_in, effect_of}
use Rattle.scratch_commit.specs.Plans.{Plan, over_idle}
use Rattle.scratch_commit.specs.Windows.{copying, window}
use Rattle.scratch_commit.proofs.DeedLaws.{all_both}
use Rattle.scratch_commit.proofs.EffectLaws.{effect_then}
use Rattle.run_steps.specs.Deeds.{MoveFits}
use Rattle.run_steps.specs.Premises.{MakesStates}
use Rattle.run_steps.specs.Spots.{moves_in}
use Rattle.run_steps.proofs.WindowFacts.{WindowLeaves}

-- A copy to a register: the plain bytes, and what is put.
copy_plain : (from to : Place) (r : Registers) → ((effect_of (Copy from to)).change r).plain ≡ put_to to (read (reg_of from) r) r.plain
copy_plain from place.Status r = refl
copy_plain from (place.Plain address) r = refl
copy_plain from (place.Port n) r = refl
copy_plain from _ r = refl

copy_puts : (from to : Place) (r : Registers) → (effect_of (Copy from to)).puts r ≡ shown_at to (read (reg_of from) r)
copy_puts from place.Status r = refl
copy_puts from (place.Port n) r = refl
copy_puts from _ r = refl

move_read : (move : Move) (r : Registers) → MoveFits move → read (reg_of move.from) r ≡ byte_from move.from r.plain
move_read move r fits = ap (λ (p : Place). read (reg_of p) r) fits.from ∙ sym (ap (λ (p : Place). byte_from p r.plain) fits.from)

move_plain : (move : Move) (r : Registers) → MoveFits move → ((effect_of (Copy move.from move.to)).change r).plain ≡ after_move move r.plain
move_plain move r fits = copy_plain move.from move.to r ∙ ap (λ x. put_to move.to x r.plain) (move_read move r fits)

move_puts : (move : Move) (r : Registers) → MoveFits move → (effect_of (Copy move.from move.to)).puts r ≡ shown_at move.to (byte_from move.from r.plain)
move_puts move r fits = copy_puts move.from move.to r ∙ ap (shown_at move.to) (move_read move r fits)

-- All of them.
moves_plain : (moves : List Move) (r : Registers) → AllByRecursion MoveFits moves → ((effect_in (copying moves)).change r).plain ≡ after_moves moves r.plain
moves_plain [] r fits = refl
moves_plain (move ∷ moves) r fits =
    moves_plain moves ((effect_of (Copy move.from move.to)).change r) fits.1 ∙ ap (after_moves moves) (move_plain move r fits.0)

moves_puts : (moves : List Move) (r : Registers) → AllByRecursion MoveFits moves → (effect_in (copying moves)).puts r ≡ puts_by moves r.plain
moves_puts [] r fits = refl
moves_puts (move ∷ moves) r fits =
    ap₂ (λ xs ys. xs ++ ys) (move_puts move r fits.0)
    (moves_puts moves ((effect_of (Copy move.from move.to)).change r) fits.1 ∙ ap (puts_by moves) (move_plain move r fits.0))

-- Puts of some deeds and then others.
puts_both : (xs ys : List Deed) (r : Registers) → (effect_in (xs ++ ys)).puts r ≡ (effect_in xs).puts r ++ (effect_in ys).puts ((effect_in xs).change r)
puts_both [] ys r = refl
puts_both (deed ∷ xs) ys r =
    ap (λ puts. (effect_of deed).puts r ++ puts) (puts_both xs ys ((effect_of deed).change r))
    ∙ sym (append_assoc ((effect_of deed).puts r) ((effect_in xs).puts ((effect_of deed).change r)) ((effect_in ys).puts ((effect_in xs).change ((effect_of deed).change r))))

-- Telling that a run has committed sets bit 0 of the byte at 73h, and nothing else.
abbrev tell : Bool → List Deed
tell tells = if tells then Make true REDO 0 ∷ [] else []

abbrev told_bytes : Bool → (ℕ → Byte) → ℕ → Byte
told_bytes tells memory = if tells then updated memory 0x073 (with_bit 0 true (memory 0x073)) else memory

record Told (tells : Bool) (moves : List Move) (deeds : List Deed) (r : Registers) : Type 0 where
  pub bytes : ((effect_in deeds).change r).plain ≡ told_bytes tells (after_moves moves r.plain)
  pub puts : (effect_in deeds).puts r ≡ puts_by moves r.plain

window_told : (moves : List Move) (tells : Bool) (r : Registers) → AllByRecursion MoveFits moves → Told tells moves (window moves tells) r
window_told [] true r fits = record { bytes = refl; puts = refl }
window_told [] false r fits = record { bytes = refl; puts = refl }
window_told (move ∷ moves) tells r fits = record {
  bytes = ap (λ (x : Registers). x.plain) (effect_then (copying (move ∷ moves)) (tell tells) r) ∙ tells_bytes tells ((effect_in (copying (move ∷ moves))).change r)
      ∙ ap (told_bytes tells) (moves_plain (move ∷ moves) r fits);
  puts = puts_both (copying (move ∷ moves)) (tell tells) r
      ∙ ap (λ puts. (effect_in (copying (move ∷ moves))).puts r ++ puts) (tells_puts tells ((effect_in (copying (move ∷ moves))).change r))
      ∙ append-nil ((effect_in (copying (move ∷ moves))).puts r) ∙ moves_puts (move ∷ moves) r fits;
}
  where
    tells_bytes : (t : Bool) (s : Registers) → ((effect_in (tell t)).change s).plain ≡ told_bytes t s.plain
    tells_bytes true s = refl
    tells_bytes false s = refl

    tells_puts : (t : Bool) (s : Registers) → (effect_in (tell t)).puts s ≡ []
    tells_puts true s = refl
    tells_puts false s = refl

pub window_leaves : (l : Layout) (e : ℕ) (plan : Plan) (r : Registers) → l.is_telling e ≡ not (over_idle plan) → MakesStates l e plan → WindowLeaves l e (effect_in (moves_in plan)) r
window_leaves l e plan r telling makes =
    let tells : Bool = not (over_idle plan) in
    let its = window_told plan.moves tells r makes.fit in
    record {
      states = ap l.states its.bytes ∙ told_states tells (after_moves plan.moves r.plain) ∙ sym (makes.next r.plain);
      puts = its.puts ∙ sym (makes.puts r.plain);
      told = λ is. ap (λ (memory : ℕ → Byte). (memory 0x073).b0) its.bytes ∙ told_bit tells (after_moves plan.moves r.plain) (sym telling ∙ is);
    }
  where
    told_states : (t : Bool) (memory : ℕ → Byte) → l.states (told_bytes t memory) ≡ l.states memory
    told_states true memory = makes.untold memory (with_bit 0 true (memory 0x073))
    told_states false memory = refl

    told_bit : (t : Bool) (memory : ℕ → Byte) → t ≡ true → (told_bytes t memory 0x073).b0 ≡ true
    told_bit true memory is = refl
    told_bit false memory is = absurd (cc)

-- Its deeds: the last one, and those before it. They are copies of plain bytes, pauses, and the telling at the end.
abbrev pub IsOpening : Deed → Type 0
IsOpening Pause = Unit {0}
IsOpening (Copy from to) = Unit {0}
IsOpening _ = ⊥

abbrev pub IsEnding : Deed → Type 0
IsEnding Pause = Unit {0}
IsEnding (Copy from to) = Unit {0}
IsEnding (Make v p b) = Unit {0}
IsEnding _ = ⊥

abbrev pub IsCopy : Deed → Type 0
IsCopy (Copy from to) = Unit {0}
IsCopy _ = ⊥

pub record LastApart (deeds : List Deed) : Type 0 where
  pub front : List Deed
  pub last : Deed
  pub are : deeds ≡ front ++ last ∷ []
  pub opening : AllByRecursion IsOpening front
  pub ending : IsEnding last
  pub alone : front ≡ [] → IsCopy last

copies_open : (moves : List Move) → AllByRecursion IsOpening (copying moves)
copies_open [] = tt
copies_open (move ∷ moves) = (tt, copies_open moves)

-- Copies, the last one apart.
copies_apart : (move : Move) (moves : List Move) → LastApart (copying (move ∷ moves))
copies_apart move [] = record { front = []; last = Copy move.from move.to; are = refl; opening = tt; ending = tt; alone = λ e. tt }
copies_apart move (second ∷ moves) =
    let rest = copies_apart second moves in
    record {
      front = Copy move.from move.to ∷ rest.front;
      last = rest.last;
      are = ap (λ deeds. Copy move.from move.to ∷ deeds) rest.are;
      opening = (tt, rest.opening);
      ending = rest.ending;
      alone = λ e. absurd (cc);
    }

pub window_apart : (moves : List Move) (tells : Bool) → LastApart (window moves tells)
window_apart [] true = record { front = Pause ∷ []; last = Make true REDO 0; are = refl; opening = (tt, tt); ending = tt; alone = λ e. absurd (cc) }
window_apart [] false = record { front = Pause ∷ []; last = Pause; are = refl; opening = (tt, tt); ending = tt; alone = λ e. absurd (cc) }
window_apart (move ∷ moves) true =
    record { front = copying (move ∷ moves); last = Make true REDO 0; are = refl; opening = copies_open (move ∷ moves); ending = tt; alone = λ e. absurd (cc) }
window_apart (move ∷ moves) false = subst LastApart (sym (append-nil (copying (move ∷ moves)))) (copies_apart move moves)

-- They fit.
move_fits : (move : Move) → MoveFits move → DeedFits (Copy move.from move.to)
move_fits move fits =
    let read_from : (p : Place) → p ≡ place.Plain fits.address → DeedFits (Copy p move.to) =
    λ p is. subst (λ q. DeedFits (Copy q move.to)) (sym is)
    ((fits.below, fits.there), fits.numbered, refl, ap (λ b. b || is_status (reg_of move.to)) fits.written) in
    read_from move.from fits.from

moves_fit : (moves : List Move) → AllByRecursion MoveFits moves → AllByRecursion DeedFits (copying moves)
moves_fit [] fits = tt
moves_fit (move ∷ moves) fits = (move_fits move fits.0, moves_fit moves fits.1)

pub window_fits : (moves : List Move) (tells : Bool) → AllByRecursion MoveFits moves → AllByRecursion DeedFits (window moves tells)
window_fits [] true fits = (tt, (((lit< tt, refl), refl, refl), tt))
window_fits [] false fits = (tt, (tt, tt))
window_fits (move ∷ moves) true fits = all_both DeedFits (copying (move ∷ moves)) (Make true REDO 0 ∷ []) (moves_fit (move ∷ moves) fits) (((lit< tt, refl), refl, refl), tt)
window_fits (move ∷ moves) false fits = all_both DeedFits (copying (move ∷ moves)) [] (moves_fit (move ∷ moves) fits) tt
