-- From what a core does to what its template does.
use Rattle.std.proofs.Common.{◌≡◌, ℕ, Bool, true, false, ◌||◌, ◌++◌, refl, ap, sym, subst, ◌∙◌, arith}
use Rattle.std.specs.Prelude.{IsTrue, if◌then◌else◌}
use Rattle.std.proofs.lemmas.Bool.{le-ltb, ltb-false, ne_eqb}
use Rattle.frp_tree.specs.declared.syntax.BinOp.{BinOp}
use Rattle.frp_tree.specs.declared.syntax.BinOp.TheVariants.{Mul, Div, Rem}
use Rattle.pic_regs.specs.Bytes.{num}
use Rattle.efrp_meaning.specs.Values.{binary_value}
use Rattle.byte_ops.specs.declared.operations.Pair.{Pair}
use Rattle.byte_ops.specs.Cells.{AreNot, held, modulus_of}
use Rattle.byte_ops.specs.Kinds.{is_product}
use Rattle.byte_ops.specs.Meaning.{Means, written_by, result_in, value_of}
use Rattle.code_acts.specs.Acts.{State, number, run}
use Rattle.code_acts.specs.Codes.{is_operand}
use Rattle.product_templates.specs.Templates.{core_of, product_template, copying_in, copying_out, low_result, high_result}
use Rattle.product_templates.specs.Laws.{values, values_after, named, core_named, template_uses, template_writes, core_names}
use Rattle.product_templates.proofs.SoundFacts.{sound_each}
use Rattle.product_templates.proofs.StateLaws.{ran, ran-is, in_parts, from_parts, ran-keeps, ran-append}

-- The cells of the operands and of the result of a core.
abbrev pub core_a : Pair
core_a = record { low = 0; high = 1 }

abbrev pub core_b : Bool → Pair
core_b wide = record { low = if wide then 2 else 3; high = 3 }

abbrev pub core_to : BinOp → Bool → Pair
core_to f wide = record { low = number (low_result f wide); high = number (high_result f) }

-- A core ends with its value and with no skip pending.
pub record Computes (f : BinOp) (wide : Bool) (s t : State) : Type 0 where
  pub no_skip : t.skip ≡ false
  pub value : held wide (core_to f wide) (values t) ≡ binary_value f (modulus_of wide) (held wide core_a (values s)) (held wide (core_b wide) (values s))

-- A byte that is no operand byte isn't written by a core.
not_a_core_name : (n : ℕ) → is_operand n ≡ false → core_names n ≡ false
not_a_core_name n far = le-ltb n 9 (omega (arith, ltb-false n 12 far))

pub core_does : (f : BinOp) (wide : Bool) (s : State) → IsTrue (is_product f) → Computes f wide s (ran (core_of f wide) s)
    → (result_in (core_named f wide) (values (run (core_of f wide) s)) ≡ value_of (core_named f wide) (values s))
    × ((n : ℕ) → is_operand n ≡ false → values (run (core_of f wide) s) n ≡ values s n)
    × ((run (core_of f wide) s).skip ≡ false)
core_does f wide s h e =
    subst
    (λ (t : State).
    (result_in (core_named f wide) (values t) ≡ value_of (core_named f wide) (values s)) × ((n : ℕ) → is_operand n ≡ false → values t n ≡ values s n) × (t.skip ≡ false))
    (ran-is (core_of f wide) s)
    (e.value, λ n far. ap num (ran-keeps core_names core_names n (core_of f wide) s (sound_each f wide h).0 (not_a_core_name n far)), e.no_skip)

-- Operands have been copied to where a core finds them.
record CopiedIn (wide : Bool) (s t : State) : Type 0 where
  no_skip : t.skip ≡ false
  a : held wide core_a (values t) ≡ held wide (record { low = 14; high = 15 }) (values s)
  b : held wide (core_b wide) (values t) ≡ held wide (record { low = 16; high = 17 }) (values s)

copied_in : (wide : Bool) (s : State) → s.skip ≡ false → CopiedIn wide s (ran (copying_in wide) s)
copied_in true s none = from_parts (λ t. CopiedIn true s t) _ s none (record { no_skip = refl; a = refl; b = refl })
copied_in false s none = from_parts (λ t. CopiedIn false s t) _ s none (record { no_skip = refl; a = refl; b = refl })

record CopiedOut (f : BinOp) (wide : Bool) (s t : State) : Type 0 where
  no_skip : t.skip ≡ false
  to : held wide (record { low = 12; high = 13 }) (values t) ≡ held wide (core_to f wide) (values s)

copied_out : (f : BinOp) (wide : Bool) (s : State) → IsTrue (is_product f) → s.skip ≡ false → CopiedOut f wide s (ran (copying_out f wide) s)
copied_out Mul true s h none = from_parts (λ t. CopiedOut Mul true s t) _ s none (record { no_skip = refl; to = refl })
copied_out Mul false s h none = from_parts (λ t. CopiedOut Mul false s t) _ s none (record { no_skip = refl; to = refl })
copied_out Div true s h none = from_parts (λ t. CopiedOut Div true s t) _ s none (record { no_skip = refl; to = refl })
copied_out Div false s h none = from_parts (λ t. CopiedOut Div false s t) _ s none (record { no_skip = refl; to = refl })
copied_out Rem true s h none = from_parts (λ t. CopiedOut Rem true s t) _ s none (record { no_skip = refl; to = refl })
copied_out Rem false s h none = from_parts (λ t. CopiedOut Rem false s t) _ s none (record { no_skip = refl; to = refl })
copied_out _ wide s h none = absurd cc

-- A byte that is no operand byte and none of the result isn't written by a template.
not_written : (f : BinOp) (wide : Bool) (n : ℕ) → is_operand n ≡ false → AreNot n (written_by (named f wide)) → template_writes f wide n ≡ false
not_written f false n far others = let not_to = ne_eqb 12 n (λ e. others.0 (sym e)) in λ j. far j || (not_to j || false)
not_written f true n far others =
    let not_to = ne_eqb 12 n (λ e. others.0 (sym e)) in
    let not_high = ne_eqb 13 n (λ e. others.1.0 (sym e)) in
    λ j. far j || (not_to j || (not_high j || false))

record Ends (f : BinOp) (wide : Bool) (s t : State) : Type 0 where
  no_skip : t.skip ≡ false
  value : held wide (record { low = 12; high = 13 }) (values t)
      ≡ binary_value f (modulus_of wide) (held wide (record { low = 14; high = 15 }) (values s)) (held wide (record { low = 16; high = 17 }) (values s))

-- The result is in no operand byte.
result_after : (wide : Bool) (s t : State) → held wide (record { low = 12; high = 13 }) (values_after s t) ≡ held wide (record { low = 12; high = 13 }) (values t)
result_after false s t = refl
result_after true s t = refl

-- From a template's end to what it means.
template_means : (f : BinOp) (wide : Bool) (s : State) → IsTrue (is_product f) → Ends f wide s (ran (product_template f wide) s)
    → Means (named f wide) (values s) (values_after s (ran (product_template f wide) s))
template_means f wide s h e =
    (λ bools. result_after wide s (ran (product_template f wide) s) ∙ e.value, λ n others. by_test n others (is_operand n) refl)
  where
    by_test : (n : ℕ) → AreNot n (written_by (named f wide)) → (b : Bool) → is_operand n ≡ b
        → (if b then values s n else values (ran (product_template f wide) s) n) ≡ values s n
    by_test n others true e = refl
    by_test n others false e =
        ap num (ran-keeps (template_uses f wide) (template_writes f wide) n (product_template f wide) s (sound_each f wide h).1 (not_written f wide n e others))

-- A template does its operation where its core does.
pub template_does : (f : BinOp) (wide : Bool) (s : State) → IsTrue (is_product f) → s.skip ≡ false
    → ((t : State) → t.skip ≡ false → Computes f wide t (ran (core_of f wide) t))
    → Means (named f wide) (values s) (values_after s (run (product_template f wide) s)) × ((run (product_template f wide) s).skip ≡ false)
template_does f wide s h none core =
    let copied = copied_in wide s none in
    let computed = core (ran (copying_in wide) s) copied.no_skip in
    let out = copied_out f wide (ran (core_of f wide) (ran (copying_in wide) s)) h computed.no_skip in
    let ended : Ends f wide s (ran (product_template f wide) s) =
    in_parts (λ t. Ends f wide s t) (copying_in wide ++ core_of f wide) (copying_out f wide) s
    (subst (λ (t : State). Ends f wide s (ran (copying_out f wide) t)) (sym (ran-append (copying_in wide) (core_of f wide) s)) (record {
      no_skip = out.no_skip;
      value = out.to ∙ computed.value ∙ (λ j. binary_value f (modulus_of wide) (copied.a j) (copied.b j));
    }))
    in
    subst (λ (t : State). Means (named f wide) (values s) (values_after s t) × (t.skip ≡ false)) (ran-is (product_template f wide) s)
    (template_means f wide s h ended, ended.no_skip)
