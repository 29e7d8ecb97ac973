-- What code comes to: in more steps, with weaker promises, one piece after another, and from a chip that others have changed.
use Rattle.std.proofs.Common.{◌≡◌, ℕ, zero, suc, ◌+◌, ◌≤◌, subst, arith, inl, inr}
use Rattle.pic_isa.specs.declared.instructions.Instr.{Instr}
use Rattle.pic_machine.specs.Chip.{Chip}
use Rattle.pic_machine.specs.Results.{Done}
use Rattle.pic_machine.specs.Exec.{exec}
use Rattle.code_steps.specs.Steps.{Is, own_of, own, Comes}

module _ (program : ℕ → ℕ) where
  -- The own step where an instruction is known to stand.
  pub own_is : (c : Chip) (i : Instr) → Is program c.pc i → own program c ≡ exec i c
  own_is c i is = λ j. own_of (is j) c

  module _ (R : Chip → Chip → Type 0) (G : Chip → Done → Type 0) (Q : Chip → Type 0) where
    -- A chip with Q has come already.
    pub comes_now : (k : ℕ) (c : Chip) → Q c → Comes program R G Q k c
    comes_now zero c q = q
    comes_now (suc k) c q = inl q

    -- More steps may be taken.
    pub comes_longer : (k m : ℕ) (c : Chip) → k ≤ m → Comes program R G Q k c → Comes program R G Q m c
    comes_longer zero m c le q = comes_now m c q
    comes_longer (suc k) zero c le come = absurd (omega arith)
    comes_longer (suc k) (suc m) c le (inl q) = inl q
    comes_longer (suc k) (suc m) c le (inr goes) = inr (λ d r. let step = goes d r in (step.0, step.1, step.2, comes_longer k m step.0.chip (omega arith) step.3))

    -- From a chip that R has changed the code comes just as well, where R's changes join and Q withstands them.
    pub comes_moves : ((c d e : Chip) → R c d → R d e → R c e) → ((c d : Chip) → R c d → Q c → Q d)
        → (k : ℕ) (c d : Chip) → R c d → Comes program R G Q k c → Comes program R G Q k d
    comes_moves joined stays zero c d r q = stays c d r q
    comes_moves joined stays (suc k) c d r (inl q) = inl (stays c d r q)
    comes_moves joined stays (suc k) c d r (inr goes) = inr (λ e s. goes e (joined c d e r s))

  -- Less may come between, and less be promised of each step and of the end.
  pub comes_wider : (R S : Chip → Chip → Type 0) (G H : Chip → Done → Type 0) (P Q : Chip → Type 0)
      → ((c d : Chip) → S c d → R c d) → ((d : Chip) (done : Done) → G d done → H d done) → ((c : Chip) → P c → Q c)
      → (k : ℕ) (c : Chip) → Comes program R G P k c → Comes program S H Q k c
  comes_wider R S G H P Q narrow steps ends zero c p = ends c p
  comes_wider R S G H P Q narrow steps ends (suc k) c (inl p) = inl (ends c p)
  comes_wider R S G H P Q narrow steps ends (suc k) c (inr goes) =
      inr (λ d s. let step = goes d (narrow c d s) in (step.0, step.1, steps d step.0 step.2, comes_wider R S G H P Q narrow steps ends k step.0.chip step.3))

  -- One piece of code after another.
  pub comes_then : (R : Chip → Chip → Type 0) (G : Chip → Done → Type 0) (P Q : Chip → Type 0) (k m : ℕ) (c : Chip)
      → Comes program R G P k c → ((e : Chip) → P e → Comes program R G Q m e) → Comes program R G Q (k + m) c
  comes_then R G P Q zero m c p then_on = comes_longer R G Q m (zero + m) c (omega arith) (then_on c p)
  comes_then R G P Q (suc k) m c (inl p) then_on = comes_longer R G Q m (suc k + m) c (omega arith) (then_on c p)
  comes_then R G P Q (suc k) m c (inr goes) then_on =
      let count : suc (k + m) ≡ suc k + m = omega arith in
      subst (λ n. Comes program R G Q n c) count (inr (λ d r. let step = goes d r in (step.0, step.1, step.2, comes_then R G P Q k m step.0.chip step.3 then_on)))

  -- What R keeps and each step keeps holds at the end too.
  pub comes_keeping : (R : Chip → Chip → Type 0) (G : Chip → Done → Type 0) (Q I : Chip → Type 0)
      → ((c d : Chip) → R c d → I c → I d) → ((d : Chip) (done : Done) → G d done → I d → I done.chip)
      → (k : ℕ) (c : Chip) → I c → Comes program R G Q k c → Comes program R G (λ e. Q e × I e) k c
  comes_keeping R G Q I between by_step zero c kept q = (q, kept)
  comes_keeping R G Q I between by_step (suc k) c kept (inl q) = inl (q, kept)
  comes_keeping R G Q I between by_step (suc k) c kept (inr goes) = inr (λ d r.
      let step = goes d r in
      (step.0, step.1, step.2, comes_keeping R G Q I between by_step k step.0.chip (by_step d step.0 step.2 (between c d r kept)) step.3))
