-- The machine: one list after another, what it keeps, and like states.
use Rattle.std.proofs.Common.{◌≡◌, ℕ, Bool, true, false, ◌==◌, if◌then◌else◌, Option, Some, None, List, [], ◌∷◌, ◌++◌, ap, ◌∙◌, sym, refl, subst}
use Rattle.std.proofs.lemmas.Bool.{ne_eqb}
use Rattle.pic_regs.specs.Bytes.{Byte}
use Rattle.pic_machine.specs.Results.{Outcome}
use Rattle.code_acts.specs.declared.acts.Act.{Act}
use Rattle.code_acts.specs.Acts.{State, Into, Nowhere, IntoW, IntoName, into, name_of, result, skips, byte_of, w_after, mem_after, carry_after, zero_after, act, step_in, run}
use Rattle.code_acts.specs.Codes.{latest, may_skip, names_allowed, writes_allowed, sound}
use Rattle.code_acts.specs.Standing.{Like}
use Rattle.code_acts.proofs.GoFacts.{sound_parts}

-- One list after another.
pub run-append : (xs ys : List Act) (s : State) → run (xs ++ ys) s ≡ run ys (run xs s)
run-append [] ys s = refl
run-append (x ∷ xs) ys s = run-append xs ys (step_in s.skip x s)

-- A state that is like one, which is like a third, is like the third.
pub like_both : (uses : ℕ → Bool) (s t u : State) → Like uses s t → Like uses t u → Like uses s u
like_both uses s t u first second = record {
  w = first.w ∙ second.w;
  carry = first.carry ∙ second.carry;
  zero = first.zero ∙ second.zero;
  mem = λ n used. first.mem n used ∙ second.mem n used;
}

like_byte : (uses : ℕ → Bool) (s t : State) → Like uses s t → (name : Option ℕ) → names_allowed uses name ≡ true → byte_of name s.mem ≡ byte_of name t.mem
like_byte uses s t like None used = refl
like_byte uses s t like (Some n) used = like.mem n used

like_w : (to : Into) (byte byte' w w' : Byte) → byte ≡ byte' → w ≡ w' → w_after to byte w ≡ w_after to byte' w'
like_w IntoW byte byte' w w' same old = same
like_w Nowhere byte byte' w w' same old = old
like_w (IntoName n) byte byte' w w' same old = old

like_mem : (uses : ℕ → Bool) (s t : State) → Like uses s t → (to : Into) (byte byte' : Byte) → byte ≡ byte' → (n : ℕ) → uses n ≡ true
    → mem_after to byte s.mem n ≡ mem_after to byte' t.mem n
like_mem uses s t like Nowhere byte byte' same n used = like.mem n used
like_mem uses s t like IntoW byte byte' same n used = like.mem n used
like_mem uses s t like (IntoName m) byte byte' same n used = λ j. if n == m then same j else like.mem n used j

-- An act on like states leaves like ones, and skips on both or on none.
pub act_like : (uses : ℕ → Bool) (a : Act) (s t : State) → names_allowed uses (name_of a) ≡ true → Like uses s t
    → Like uses (act a s) (act a t) × ((act a s).skip ≡ (act a t).skip)
act_like uses a s t names like =
    let x : byte_of (name_of a) s.mem ≡ byte_of (name_of a) t.mem = like_byte uses s t like (name_of a) names in
    let given : result a s.w s.carry (byte_of (name_of a) s.mem) ≡ result a t.w t.carry (byte_of (name_of a) t.mem) = λ j. result a (like.w j) (like.carry j) (x j) in
    let byte = ap (λ (r : Outcome). r.byte) given in (
      record {
        w = like_w (into a) _ _ s.w t.w byte like.w;
        carry = λ j. carry_after (given j).flags (like.carry j);
        zero = λ j. zero_after (given j).flags (like.zero j);
        mem = λ n used. like_mem uses s t like (into a) _ _ byte n used;
      },
      λ j. skips a (like.carry j) (like.zero j) (x j) (given j).byte,
    )

step_like : (uses : ℕ → Bool) (pending : Bool) (a : Act) (s t : State) → names_allowed uses (name_of a) ≡ true → Like uses s t
    → Like uses (step_in pending a s) (step_in pending a t) × ((step_in pending a s).skip ≡ (step_in pending a t).skip)
step_like uses true a s t names like = (record { w = like.w; carry = like.carry; zero = like.zero; mem = like.mem }, refl)
step_like uses false a s t names like = act_like uses a s t names like

pub run_like : (uses writes : ℕ → Bool) (last : Option ℕ) (behind : Bool) (acts : List Act) (s t : State) → sound uses writes last behind acts ≡ true
    → Like uses s t → s.skip ≡ t.skip → Like uses (run acts s) (run acts t)
run_like uses writes last behind [] s t sounds like pending = like
run_like uses writes last behind (a ∷ more) s t sounds like pending =
    let parts = sound_parts uses writes last behind a more sounds in
    let stepped = step_like uses s.skip a s t parts.names like in
    let next = subst (λ b. Like uses (step_in s.skip a s) (step_in b a t) × ((step_in s.skip a s).skip ≡ (step_in b a t).skip)) pending stepped in
    run_like uses writes (latest last (name_of a)) (may_skip a) more (step_in s.skip a s) (step_in t.skip a t) parts.rest next.0 next.1

-- A byte that may not be written is kept.
mem_kept : (writes : ℕ → Bool) (to : Into) (byte : Byte) (mem : ℕ → Byte) (n : ℕ) → writes_allowed writes to ≡ true → writes n ≡ false → mem_after to byte mem n ≡ mem n
mem_kept writes Nowhere byte mem n allowed missed = refl
mem_kept writes IntoW byte mem n allowed missed = refl
mem_kept writes (IntoName m) byte mem n allowed missed =
    let other : n == m ≡ false = ne_eqb n m (λ e. let clash : true ≡ false = sym allowed ∙ ap writes (sym e) ∙ missed in absurd (cc)) in
    ap (λ b. if b then byte else mem n) other

step_kept : (writes : ℕ → Bool) (pending : Bool) (a : Act) (s : State) (n : ℕ) → writes_allowed writes (into a) ≡ true → writes n ≡ false
    → (step_in pending a s).mem n ≡ s.mem n
step_kept writes true a s n allowed missed = refl
step_kept writes false a s n allowed missed = mem_kept writes (into a) _ s.mem n allowed missed

pub run_keeps : (uses writes : ℕ → Bool) (last : Option ℕ) (behind : Bool) (acts : List Act) (s : State) (n : ℕ) → sound uses writes last behind acts ≡ true
    → writes n ≡ false → (run acts s).mem n ≡ s.mem n
run_keeps uses writes last behind [] s n sounds missed = refl
run_keeps uses writes last behind (a ∷ more) s n sounds missed =
    let parts = sound_parts uses writes last behind a more sounds in
    run_keeps uses writes (latest last (name_of a)) (may_skip a) more (step_in s.skip a s) n parts.rest missed
    ∙ step_kept writes s.skip a s n parts.writes_to missed
