-- What code with interrupts off leads to: in more steps, with weaker promises, one piece after another, from a chip at which
-- sources have arrived, and what all of its steps keep.
use Rattle.std.proofs.Common.{◌≡◌, ℕ, zero, suc, ◌+◌, ◌≤◌, Option, Some, None, List, [], ◌++◌, ap, ◌∙◌, sym, refl, subst, arith, inl, inr}
use Rattle.std.specs.List.{cons_option}
use Rattle.pic_machine.specs.declared.steps.PortWrite.{PortWrite}
use Rattle.pic_machine.specs.Chip.{Chip}
use Rattle.pic_machine.specs.Results.{Done}
use Rattle.code_steps.specs.Steps.{Comes}
use Rattle.code_steps.specs.Between.{Alone}
use Rattle.code_steps.proofs.BetweenLaws.{alone_frame}
use Rattle.glue_steps.specs.Tells.{Tells, Withstands, Given}

cons-append : (put : Option PortWrite) (rest later : List PortWrite) → cons_option put rest ++ later ≡ cons_option put (rest ++ later)
cons-append (Some put) rest later = refl
cons-append None rest later = refl

module _ (program : ℕ → ℕ) where
  module _ (G : Chip → Done → Type 0) (Q : Chip → Type 0) where
    -- A chip with Q has come already, with nothing left to be put.
    pub tells_now : (puts : List PortWrite) (k : ℕ) (c : Chip) → (puts ≡ []) × Q c → Tells program G Q puts k c
    tells_now puts zero c q = q
    tells_now puts (suc k) c q = inl q

    -- More steps may be taken.
    pub tells_longer : (puts : List PortWrite) (k m : ℕ) (c : Chip) → k ≤ m → Tells program G Q puts k c → Tells program G Q puts m c
    tells_longer puts zero m c le q = tells_now puts m c q
    tells_longer puts (suc k) zero c le tell = absurd (omega arith)
    tells_longer puts (suc k) (suc m) c le (inl q) = inl q
    tells_longer puts (suc k) (suc m) c le (inr goes) =
        inr (λ d r. let step = goes d r in (step.0, step.1, step.2, step.3, step.4, tells_longer step.3 k m step.0.chip (omega arith) step.5))

    -- From a chip at which sources have arrived and pins have changed the code goes on just as well, where Q withstands that.
    pub tells_moves : Withstands Q → (puts : List PortWrite) (k : ℕ) (c d : Chip) → Alone c d → Tells program G Q puts k c → Tells program G Q puts k d
    tells_moves stays puts zero c d r q = (q.0, stays c d r q.1)
    tells_moves stays puts (suc k) c d r (inl q) = inl (q.0, stays c d r q.1)
    tells_moves stays puts (suc k) c d r (inr goes) = inr (λ e s. goes e (alone_frame.joined c d e r s))

  -- Less may be promised of each step and of the end.
  pub tells_wider : (G H : Chip → Done → Type 0) (P Q : Chip → Type 0) → ((d : Chip) (done : Done) → G d done → H d done) → ((c : Chip) → P c → Q c)
      → (puts : List PortWrite) (k : ℕ) (c : Chip) → Tells program G P puts k c → Tells program H Q puts k c
  tells_wider G H P Q steps ends puts zero c p = (p.0, ends c p.1)
  tells_wider G H P Q steps ends puts (suc k) c (inl p) = inl (p.0, ends c p.1)
  tells_wider G H P Q steps ends puts (suc k) c (inr goes) =
      inr (λ d r. let step = goes d r in (step.0, step.1, steps d step.0 step.2, step.3, step.4, tells_wider G H P Q steps ends step.3 k step.0.chip step.5))

  -- One piece of code after another: its bytes are put behind those of the first.
  pub tells_then : (G : Chip → Done → Type 0) (P Q : Chip → Type 0) (puts later : List PortWrite) (k m : ℕ) (c : Chip)
      → Tells program G P puts k c → ((e : Chip) → P e → Tells program G Q later m e) → Tells program G Q (puts ++ later) (k + m) c
  tells_then G P Q puts later k m c told then_on = go puts k c told
    where
      ended : (puts : List PortWrite) (n : ℕ) (c : Chip) → m ≤ n → (puts ≡ []) × P c → Tells program G Q (puts ++ later) n c
      ended puts n c le p =
          subst (λ bytes. Tells program G Q (bytes ++ later) n c) (sym p.0) (tells_longer G Q later m n c le (then_on c p.1))

      go : (puts : List PortWrite) (k : ℕ) (c : Chip) → Tells program G P puts k c → Tells program G Q (puts ++ later) (k + m) c
      go puts zero c p = ended puts (zero + m) c (omega arith) p
      go puts (suc k) c (inl p) = ended puts (suc k + m) c (omega arith) p
      go puts (suc k) c (inr goes) =
          let count : suc (k + m) ≡ suc k + m = omega arith in
          subst (λ n. Tells program G Q (puts ++ later) n c) count (inr (λ d r.
          let step = goes d r in
          (step.0, step.1, step.2, step.3 ++ later, ap (λ bytes. bytes ++ later) step.4 ∙ cons-append step.0.port step.3 later, go step.3 k step.0.chip step.5)))

  -- What arrivals keep and each step keeps holds at each step, and at the end too.
  pub tells_keeping : (G : Chip → Done → Type 0) (Q I : Chip → Type 0) → Withstands I → ((d : Chip) (done : Done) → G d done → I d → I done.chip)
      → (puts : List PortWrite) (k : ℕ) (c : Chip) → I c → Tells program G Q puts k c → Tells program (λ d done. G d done × I d) (λ e. Q e × I e) puts k c
  tells_keeping G Q I between by_step puts zero c kept q = (q.0, (q.1, kept))
  tells_keeping G Q I between by_step puts (suc k) c kept (inl q) = inl (q.0, (q.1, kept))
  tells_keeping G Q I between by_step puts (suc k) c kept (inr goes) = inr (λ d r.
      let step = goes d r in
      let held = between c d r kept in
      (step.0, step.1, (step.2, held), step.3, step.4, tells_keeping G Q I between by_step step.3 k step.0.chip (by_step d step.0 step.2 held) step.5))

  -- Code that comes to something over arrivals alone, and whose steps put nothing.
  pub tells_comes : (G : Chip → Done → Type 0) (Q : Chip → Type 0) (k : ℕ) (c : Chip)
      → Comes program Alone (λ d done. G d done × (done.port ≡ None)) Q k c → Tells program G Q [] k c
  tells_comes G Q zero c q = (refl, q)
  tells_comes G Q (suc k) c (inl q) = inl (refl, q)
  tells_comes G Q (suc k) c (inr goes) = inr (λ d r.
      let step = goes d r in
      (step.0, step.1, step.2.0, [], ap (λ (put : Option PortWrite). cons_option put []) (sym step.2.1), tells_comes G Q k step.0.chip step.3))

  -- What holds from chips with J on, where J is kept.
  pub tells_given : (J : Chip → Type 0) (G : Chip → Done → Type 0) (Q : Chip → Type 0) → Withstands J
      → (puts : List PortWrite) (k : ℕ) (c : Chip) → J c → Tells program (Given J G) Q puts k c → Tells program G Q puts k c
  tells_given J G Q between puts zero c j q = q
  tells_given J G Q between puts (suc k) c j (inl q) = inl q
  tells_given J G Q between puts (suc k) c j (inr goes) = inr (λ d r.
      let step = goes d r in
      let given = step.2 (between c d r j) in
      (step.0, step.1, given.0, step.3, step.4, tells_given J G Q between step.3 k step.0.chip given.1 step.5))
