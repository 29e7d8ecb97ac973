-- A file has one fault at most, and none where it has an image.
use Rattle.std.proofs.Common.{◌≡◌, ◌≢◌, ℕ, suc, ◌+◌, ◌-◌, ◌<◌, ◌⊎◌, inl, inr, ⊎_elim, true, nat_lt, List, [], ◌∷◌, ◌++◌, length, take, Option, None, Some, option_map, refl, sym, ◌∙◌, ap, subst, length-append, slice_index_or, arith}
use Rattle.std.proofs.lemmas.Bool.{both_ways, eq-eqb}
use Rattle.std.proofs.lemmas.Option.{same_Some}
use Rattle.std.proofs.lemmas.List.{get_or-take, get_or_append_left, length-take-le}
use Rattle.std.proofs.lemmas.List.Elements.{filter-append}
use Rattle.std.specs.List.{All, AllZip}
use Rattle.std.specs.Str.Lines.{lines}
use Rattle.hex_file.specs.Faults.{has_end, line_fault, AreFaultless, IsOfFirstLine, FirstFault}
use Rattle.hex_file.specs.ImageOf.{HexRecord, IsRecordLine, Agree, IsImageOf}
use Rattle.hex_file.specs.declared.faults.HexFault.{HexFault}
use Rattle.hex_file.specs.declared.faults.HexFault.TheVariants.{Clash}
use Rattle.hex_file.specs.declared.images.Image.{Image}
use Rattle.hex_file.proofs.AgreeFacts.{agree_more, agree_no_clash}
use Rattle.hex_file.proofs.FaultFacts.{clash_alone}
use Rattle.hex_file.proofs.ReadFacts.{filled, filled_one, end_more, ends_none, init_of_more}
use Rattle.hex_file.proofs.GivenFacts.{clash_of_other}
use Rattle.hex_file.proofs.LineFacts.{records_of_lines}

-- The record of a line among others.

record HasLine (before : List HexRecord) (line : List ℕ) (all : List HexRecord) : Type 0 where
  pub found : HexRecord
  pub after : List HexRecord
  pub split : all ≡ before ++ found ∷ after
  pub is : IsRecordLine line found

zip_at : (prefix : List (List ℕ)) (line : List ℕ) (back : List (List ℕ)) (before all : List HexRecord) → AllZip IsRecordLine prefix before
    → AllZip IsRecordLine (prefix ++ line ∷ back) all → HasLine before line all
zip_at [] line back [] [] zipped every = absurd every
zip_at [] line back [] (r ∷ all) zipped every = record { found = r; after = all; split = refl; is = every.0 }
zip_at [] line back (s ∷ before) all zipped every = absurd zipped
zip_at (l ∷ prefix) line back [] all zipped every = absurd zipped
zip_at (l ∷ prefix) line back (s ∷ before) [] zipped every = absurd every
zip_at (l ∷ prefix) line back (s ∷ before) (r ∷ all) zipped every =
    let rest : HasLine before line all = zip_at prefix line back before all zipped.1 every.1 in
    let same : (s ∷ []) ≡ (r ∷ []) = records_of_lines (l ∷ []) (s ∷ []) (r ∷ []) (zipped.0, tt) (every.0, tt) in
    let first : r ≡ s = cc in
    record { found = rest.found; after = rest.after; split = ap (λ rs. r ∷ rs) rest.split ∙ ap (λ s. s ∷ (before ++ rest.found ∷ rest.after)) first; is = rest.is }

line_at : (texts before : List (List ℕ)) (line : List ℕ) (after : List (List ℕ)) (all records : List HexRecord) → AreFaultless texts all
    → texts ≡ before ++ line ∷ after → 0 < length line → AreFaultless before records → HasLine records line all
line_at texts before line after all records every split some prefix =
    let joined : filled (before ++ line ∷ after) ≡ filled before ++ line ∷ filled after =
    filter-append (λ line. nat_lt 0 (length line)) before (line ∷ after)
    ∙ ap (λ more. filled before ++ more) (filter-append (λ line. nat_lt 0 (length line)) (line ∷ []) after ∙ ap (λ one. one ++ filled after) (filled_one line some)) in
    zip_at (filled before) line (filled after) records all prefix.spelled
    (subst (λ texts. AllZip IsRecordLine texts all) (ap filled split ∙ joined) every.spelled)

-- Records before another one aren't the last.

before_last : (before : List HexRecord) (r : HexRecord) (after : List HexRecord)
    → All (λ r. r.kind ≢ 1) (take (length (before ++ r ∷ after) - 1) (before ++ r ∷ after)) → All (λ r. r.kind ≢ 1) before
before_last before r after once k d below =
    let all : List HexRecord = before ++ r ∷ after in
    let most : ℕ = length all - 1 in
    let many : length all ≡ length before + suc (length after) = length-append before (r ∷ after) in
    let taken : length (take most all) ≡ most = length-take-le most all (omega arith) in
    let same : slice_index_or (take most all) k d ≡ slice_index_or before k d = get_or-take most all k d (omega arith) ∙ get_or_append_left before (r ∷ after) d k below in
    subst (λ (s : HexRecord). s.kind ≢ 1) same (once k d (omega arith))

-- A line before the end of lines without a fault has none.
no_fault_at : (texts before : List (List ℕ)) (line : List ℕ) (after : List (List ℕ)) (all records : List HexRecord) (number : ℕ) → AreFaultless texts all
    → texts ≡ before ++ line ∷ after → 0 < length line → AreFaultless before records → line_fault records number line ≡ None
no_fault_at texts before line after all records number every split some prefix =
    let at : HasLine records line all = line_at texts before line after all records every split some prefix in
    let agreed : Agree (records ++ at.found ∷ at.after) = subst Agree at.split every.agreed in
    let once : All (λ r. r.kind ≢ 1) (take (length (records ++ at.found ∷ at.after) - 1) (records ++ at.found ∷ at.after)) =
    subst (λ all. All (λ r. r.kind ≢ 1) (take (length all - 1) all)) at.split every.once in
    clash_alone records number line at.found (ends_none records (before_last records at.found at.after once)) at.is
    ∙ ap (option_map (λ address. Clash number address)) (agree_no_clash records at.found at.after agreed)

pub same_records : (texts : List (List ℕ)) (a b : List HexRecord) → AreFaultless texts a → AreFaultless texts b → a ≡ b
same_records texts a b is also = records_of_lines (filled texts) a b is.spelled also.spelled

-- One line.

record IsBehind (x : List ℕ) (xs ys : List (List ℕ)) : Type 0 where
  pub more : List (List ℕ)
  pub split : ys ≡ xs ++ x ∷ more

Splits : List (List ℕ) → List ℕ → List (List ℕ) → List ℕ → Type 0
Splits xs x ys y = ((xs ≡ ys) × (x ≡ y)) ⊎ (IsBehind x xs ys ⊎ IsBehind y ys xs)

two_splits : (xs : List (List ℕ)) (x : List ℕ) (xs' ys : List (List ℕ)) (y : List ℕ) (ys' : List (List ℕ)) → xs ++ x ∷ xs' ≡ ys ++ y ∷ ys' → Splits xs x ys y
unfolding Splits
two_splits [] x xs' [] y ys' e = let same : x ≡ y = cc in inl (refl, same)
two_splits [] x xs' (z ∷ ys) y ys' e = let same : z ≡ x = cc in inr (inl (record { more = ys; split = ap (λ z. z ∷ ys) same }))
two_splits (z ∷ xs) x xs' [] y ys' e = let same : z ≡ y = cc in inr (inr (record { more = xs; split = ap (λ z. z ∷ xs) same }))
two_splits (z ∷ xs) x xs' (w ∷ ys) y ys' e =
    let first : z ≡ w = cc in
    let rest : xs ++ x ∷ xs' ≡ ys ++ y ∷ ys' = cc in
    ⊎_elim
    (λ same. let prefix : z ∷ xs ≡ w ∷ ys = cc (same.0, first) in inl (prefix, same.1))
    (λ other. inr (⊎_elim
    (λ (behind : IsBehind x xs ys). inl (record { more = behind.more; split = ap (λ ys. w ∷ ys) behind.split ∙ ap (λ w. w ∷ (xs ++ x ∷ behind.more)) (sym first) }))
    (λ (behind : IsBehind y ys xs). inr (record { more = behind.more; split = ap (λ xs. z ∷ xs) behind.split ∙ ap (λ z. z ∷ (ys ++ y ∷ behind.more)) first }))
    other))
    (two_splits xs x xs' ys y ys' rest)

none_is_some : (fault : HexFault) (o : Option HexFault) → o ≡ None → o ≡ Some fault → ⊥
none_is_some fault o none some = let e : None ≡ Some fault = sym none ∙ some in cc

same_line : (bytes : List ℕ) (f g : HexFault) → IsOfFirstLine bytes f → IsOfFirstLine bytes g → f ≡ g
unfolding Splits
same_line bytes f g a b = ⊎_elim
    (λ same.
    let prefix : AreFaultless b.before a.records = subst (λ before. AreFaultless before a.records) same.0 a.faultless in
    let records : a.records ≡ b.records = same_records b.before a.records b.records prefix b.faultless in
    let told : line_fault a.records (length a.before + 1) a.line ≡ line_fault b.records (length b.before + 1) b.line = cc (same.0, same.1, records) in
    same_Some _ _ (sym a.told ∙ told ∙ b.told))
    (λ apart. ⊎_elim
    (λ (behind : IsBehind a.line a.before b.before).
    absurd (none_is_some f _ (no_fault_at b.before a.before a.line behind.more b.records a.records (length a.before + 1) b.faultless behind.split a.filled a.faultless) a.told))
    (λ (behind : IsBehind b.line b.before a.before).
    absurd (none_is_some g _ (no_fault_at a.before b.before b.line behind.more a.records b.records (length b.before + 1) a.faultless behind.split b.filled b.faultless) b.told))
    apart)
    (two_splits a.before a.line a.after b.before b.line b.after (sym a.split ∙ b.split))

pub no_line_of_faultless : (bytes : List ℕ) (records : List HexRecord) (fault : HexFault) → AreFaultless (lines bytes) records → IsOfFirstLine bytes fault → ⊥
no_line_of_faultless bytes records fault every a =
    none_is_some fault _ (no_fault_at (lines bytes) a.before a.line a.after records a.records (length a.before + 1) every a.split a.filled a.faultless) a.told

-- A file has one first fault at most.
pub one_fault : (bytes : List ℕ) (f g : HexFault) → FirstFault bytes f → FirstFault bytes g → f ≡ g
one_fault bytes f g a b = ⊎_elim
    (λ a. ⊎_elim (λ b. same_line bytes f g a b) (λ b. absurd (no_line_of_faultless bytes b.records f b.faultless a)) b)
    (λ a. ⊎_elim (λ b. absurd (no_line_of_faultless bytes a.records g a.faultless b)) (λ b. a.told ∙ sym b.told) b)
    a

-- A file that has an image has no fault.

image_faultless : (bytes : List ℕ) (image : Image) (is : IsImageOf bytes image) → AreFaultless (lines bytes) (is.records ++ is.spelled.end ∷ [])
image_faultless bytes image is = record {
  spelled = is.spelled.lines;
  agreed = agree_more is.records is.spelled.end is.agreed (clash_of_other is.records is.spelled.end (λ e. let two : 1 ≡ 0 = sym is.spelled.ended ∙ e in omega arith));
  once = subst (All (λ r. r.kind ≢ 1)) (sym (init_of_more is.records is.spelled.end)) is.spelled.once;
}

pub no_image_of_fault : (bytes : List ℕ) (fault : HexFault) (image : Image) → FirstFault bytes fault → IsImageOf bytes image → ⊥
no_image_of_fault bytes fault image first is = ⊎_elim
    (λ a. no_line_of_faultless bytes _ fault (image_faultless bytes image is) a)
    (λ a.
    let same : a.records ≡ is.records ++ is.spelled.end ∷ [] = same_records (lines bytes) _ _ a.faultless (image_faultless bytes image is) in
    let ends : has_end (is.records ++ is.spelled.end ∷ []) ≡ true = end_more is.records is.spelled.end (ends_none is.records is.spelled.once) ∙ eq-eqb _ _ is.spelled.ended in
    both_ways _ (ends_none a.records a.unended) (ap has_end same ∙ ends))
    first
