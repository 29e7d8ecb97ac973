-- After each list of allowed steps what was committed is one serial run.
use Rattle.std.specs.Prelude.{ℕ, suc, ◌+◌, ◌<◌, ◌≤◌, ◌==◌, Bool, true, false, ◌&&◌, not, nat_lt, List, [], ◌∷◌, length, Some, if◌then◌else◌}
use Rattle.std.proofs.Common.{◌≡◌, refl, ap, subst, ◌∙◌, arith}
use Rattle.std.proofs.lemmas.Bool.Decides.{nat_tests}
use Rattle.preempt_core.specs.declared.steps.Step.{Step}
use Rattle.preempt_core.specs.Runs.{Active, Told, with_latch, committed_in, start, told}
use Rattle.preempt_core.specs.Serial.{one, uncommitted, Rising, ReadsPresent, Lawful, AlwaysLawful}
use Rattle.preempt_core.proofs.GoesFacts.{Goes, latches, merges, takes, works, redoes, commits, resumes, after_all}

-- Each run began within the list.
abbrev BeganBy : ℕ → List Active → Type 0
BeganBy n [] = Unit {0}
BeganBy n (r ∷ rs) = (r.began ≤ n) × BeganBy n rs

began_later : (n : ℕ) (st : List Active) → BeganBy n st → BeganBy (suc n) st
began_later n [] h = tt
began_later n (r ∷ rs) h = (let low = h.0 in omega arith, began_later n rs h.1)

latch_one : (latched : ℕ → Bool) (x e : ℕ) → latched e ≡ false → one (x == e) + one (latched x) ≡ one (with_latch latched e true x)
latch_one latched x e clear = by (x == e) refl
  where
    by : (b : Bool) → (x == e) ≡ b → one b + one (latched x) ≡ one (if b then true else latched x)
    by true same = let its : x ≡ e = grind (arith, nat_tests) in omega (arith, ap (λ y. one (latched y)) its, ap one clear)
    by false other = omega arith

take_one : (latched : ℕ → Bool) (x e : ℕ) → latched e ≡ true → one (latched x) ≡ one (with_latch latched e false x) + one (x == e && true)
take_one latched x e set = by (x == e) refl
  where
    by : (b : Bool) → (x == e) ≡ b → one (latched x) ≡ one (if b then false else latched x) + one (b && true)
    by true same = let its : x ≡ e = grind (arith, nat_tests) in omega (arith, ap (λ y. one (latched y)) its, ap one set)
    by false other = omega arith

and_one : (a b : Bool) → b ≡ false → one (a && not b) ≡ one a
and_one true b h = ap (λ c. one (not c)) h
and_one false b h = refl

and_none : (a b : Bool) → b ≡ true → one (a && not b) ≡ 0
and_none true b h = ap (λ c. one (not c)) h
and_none false b h = refl

module _ (priorities : List ℕ) (react : ℕ → List ℕ → ℕ → List ℕ) (first : List ℕ) where
  record Kept (t : Told) : Type 0 where
    lawful : Lawful priorities react first t
    began : BeganBy (length t.answers) t.stack

  -- What is known of a list of runs, where it is the stack.
  record Stands (t : Told) (st : List Active) : Type 0 where
    rising : Rising priorities st
    began : BeganBy (length t.answers) st
    present : ReadsPresent t.last t.state st

  -- The runs beneath one that commits are void from then on.
  beneath_void : (n : ℕ) (state : List ℕ) (st : List Active) → BeganBy n st → ReadsPresent (suc n) state st
  beneath_void n state [] h = tt
  beneath_void n state (r ∷ rs) h = (λ open_run clean. absurd (not_clean r.began (suc n) r.committed (let low = h.0 in omega arith) open_run clean), beneath_void n state rs h.1)
    where
      not_clean : (a b : ℕ) (c : Bool) → a < b → c ≡ false → (nat_lt a b && not c) ≡ false → ⊥
      not_clean a b true low open_run clean = absurd cc
      not_clean a b false low open_run clean = by (nat_lt a b) refl clean
        where
          by : (v : Bool) → nat_lt a b ≡ v → (v && true) ≡ false → ⊥
          by true up it = absurd cc
          by false up it = absurd (grind (arith, nat_tests))

  kept : (t u : Told) → Goes priorities react t u → Kept t → Kept u
  kept t u (latches {e = e} clear) k =
      record {
        lawful = record {
          rising = k.lawful.rising;
          once = λ x. omega (arith, k.lawful.once x, latch_one t.latched x e clear);
          present = k.lawful.present;
          is_serial = k.lawful.is_serial;
        };
        began = began_later (length t.answers) t.stack k.began;
      }
  kept t u (merges set) k =
      record {
        lawful = record { rising = k.lawful.rising; once = λ x. omega (arith, k.lawful.once x); present = k.lawful.present; is_serial = k.lawful.is_serial };
        began = began_later (length t.answers) t.stack k.began;
      }
  kept t u (takes {e = e} stands set up) k =
      record {
        lawful = record {
          rising = (up, k.lawful.rising);
          once = λ x. omega (arith, k.lawful.once x, take_one t.latched x e set);
          present = (λ open_run clean. refl, k.lawful.present);
          is_serial = k.lawful.is_serial;
        };
        began = (omega arith, began_later (length t.answers) t.stack k.began);
      }
  kept t u works k =
      record {
        lawful = record { rising = k.lawful.rising; once = λ x. omega (arith, k.lawful.once x); present = k.lawful.present; is_serial = k.lawful.is_serial };
        began = began_later (length t.answers) t.stack k.began;
      }
  kept t u (redoes {r = r} {rs = rs} stands open_run) k =
      let on = subst (Stands t) stands (record { rising = k.lawful.rising; began = k.began; present = k.lawful.present }) in
      record {
        lawful = record {
          rising = (on.rising.0, on.rising.1);
          once = λ x. omega (arith, k.lawful.once x, ap (uncommitted x) stands, and_one (x == r.event) r.committed open_run, and_one (x == r.event) false refl);
          present = (λ _ clean. refl, on.present.1);
          is_serial = k.lawful.is_serial;
        };
        began = (omega arith, began_later (length t.answers) rs on.began.1);
      }
  kept t u (commits {r = r} {rs = rs} stands open_run clean) k =
      let on = subst (Stands t) stands (record { rising = k.lawful.rising; began = k.began; present = k.lawful.present }) in
      record {
        lawful = record {
          rising = (on.rising.0, on.rising.1);
          once = λ x. omega (arith, k.lawful.once x, ap (uncommitted x) stands, and_one (x == r.event) r.committed open_run, and_none (x == r.event) true refl);
          present = (λ closed _. absurd cc, beneath_void (length t.answers) _ rs on.began.1);
          is_serial = ap (λ s. react (length (committed_in t.answers)) s r.event) (on.present.0 open_run clean ∙ k.lawful.is_serial);
        };
        began = (let low = on.began.0 in omega arith, began_later (length t.answers) rs on.began.1);
      }
  kept t u (resumes {r = r} {rs = rs} stands closed) k =
      let on = subst (Stands t) stands (record { rising = k.lawful.rising; began = k.began; present = k.lawful.present }) in
      record {
        lawful = record {
          rising = on.rising.1;
          once = λ x. omega (arith, k.lawful.once x, ap (uncommitted x) stands, and_none (x == r.event) r.committed closed);
          present = on.present.1;
          is_serial = k.lawful.is_serial;
        };
        began = began_later (length t.answers) rs on.began.1;
      }

  starts : Kept (start first)
  starts = record { lawful = record { rising = tt; once = λ x. refl; present = tt; is_serial = refl }; began = tt }

  all_kept : (steps : List Step) (t : Told) → told priorities react first steps ≡ Some t → Kept t
  all_kept = after_all priorities react first Kept starts kept

pub always_lawful : AlwaysLawful
always_lawful priorities react first steps t h = (all_kept priorities react first steps t h).lawful
