-- The fields of a line are found again where they were joined by single spaces.
use Rattle.std.proofs.Common.{nat_lt, ◌≡◌, ◌≢◌, ℕ, ◌≤◌, Bool, true, List, [], ◌∷◌, ◌++◌, codes, refl, sym, ap, ◌∙◌, arith}
use Rattle.std.specs.List.{list_all, join_with_byte, AllByRecursion}
use Rattle.std.proofs.lemmas.Bool.{ltb-true, and_parts}
use Rattle.std.proofs.lemmas.List.{append_assoc, append_cancel_right}
use Rattle.std.proofs.lemmas.List.Splits.{join_with_byte-slice_split}
use Rattle.text_parts.specs.Cuts.{Lacks}
use Rattle.text_parts.specs.Fields.{parts_of}
use Rattle.text_parts.proofs.CutLaws.{split-cut, split-last}
use Rattle.map_file.specs.MapFaults.{HasNoEnd, IsWholeLine}
use Rattle.map_file.specs.MapText.{line}

-- Fields whose bytes are all above the space.

abbrev pub is_visible : ℕ → Bool
is_visible b = nat_lt 32 b

abbrev pub AllVisible : List (List ℕ) → Type 0
AllVisible fields = AllByRecursion (λ field. list_all is_visible field ≡ true) fields

-- Neither a space nor LF is among them.
visible_lacks : (y : ℕ) (bs : List ℕ) → y ≤ 32 → list_all is_visible bs ≡ true → Lacks y bs
visible_lacks y [] low h = tt
visible_lacks y (b ∷ bs) low h = let (above, rest) = and_parts (is_visible b) (list_all is_visible bs) h in (λ e. omega (arith, ltb-true 32 b above), visible_lacks y bs low rest)

-- A line is its fields with single spaces between, and LF.
pub joined : (fields : List (List ℕ)) → line fields ≡ join_with_byte 32 fields ++ codes "\n"
joined [] = refl
joined (f ∷ []) = refl
joined (f ∷ g ∷ gs) = ap (λ u. f ++ (32 ∷ u)) (joined (g ∷ gs)) ∙ sym (append_assoc f (32 ∷ join_with_byte 32 (g ∷ gs)) (codes "\n"))

-- Joined fields are cut again into the same fields.
pub fields_again : (f : List ℕ) (fields : List (List ℕ)) → AllVisible (f ∷ fields) → parts_of (join_with_byte 32 (f ∷ fields)) ≡ f ∷ fields
fields_again f [] all = split-last 32 f (visible_lacks 32 f (omega arith) all.0)
fields_again f (g ∷ gs) all = split-cut 32 f (join_with_byte 32 (g ∷ gs)) (visible_lacks 32 f (omega arith) all.0) ∙ ap (λ u. f ∷ u) (fields_again g gs all.1)

pub all_append : {X : Type 0} (P : X → Type 0) (xs ys : List X) → AllByRecursion P xs → AllByRecursion P ys → AllByRecursion P (xs ++ ys)
all_append P [] ys h k = k
all_append P (x ∷ xs) ys h k = (h.0, all_append P xs ys h.1 k)

joined_no_end : (fields : List (List ℕ)) → AllVisible fields → HasNoEnd (join_with_byte 32 fields)
joined_no_end [] all = tt
joined_no_end (f ∷ []) all = visible_lacks 10 f (omega arith) all.0
joined_no_end (f ∷ g ∷ gs) all = all_append (λ b. b ≢ 10) f (32 ∷ join_with_byte 32 (g ∷ gs)) (visible_lacks 10 f (omega arith) all.0) (λ e. omega arith, joined_no_end (g ∷ gs) all.1)

pub line_whole : (fields : List (List ℕ)) → AllVisible fields → IsWholeLine (line fields)
line_whole fields all = record { body = join_with_byte 32 fields; ends = joined fields; one = joined_no_end fields all }

-- The fields of a line tell the line, and the line tells its fields.
pub line_told : (bytes : List ℕ) (fields : List (List ℕ)) → parts_of bytes ≡ fields → bytes ++ codes "\n" ≡ line fields
line_told bytes fields e = ap (λ u. u ++ codes "\n") (sym (join_with_byte-slice_split 32 bytes) ∙ ap (join_with_byte 32) e) ∙ sym (joined fields)

pub fields_told : (bytes f : List ℕ) (fields : List (List ℕ)) → AllVisible (f ∷ fields) → bytes ++ codes "\n" ≡ line (f ∷ fields) → parts_of bytes ≡ f ∷ fields
fields_told bytes f fields all e =
    let same = append_cancel_right bytes (join_with_byte 32 (f ∷ fields)) (codes "\n") (e ∙ joined (f ∷ fields)) in
    ap parts_of same ∙ fields_again f fields all

-- Two lines that are alike have the same fields.
pub one_fields : (f g : List ℕ) (fs gs : List (List ℕ)) → AllVisible (f ∷ fs) → AllVisible (g ∷ gs) → line (f ∷ fs) ≡ line (g ∷ gs) → f ∷ fs ≡ g ∷ gs
one_fields f g fs gs all all' e =
    let bytes = join_with_byte 32 (f ∷ fs) in
    sym (fields_told bytes f fs all (sym (joined (f ∷ fs)))) ∙ fields_told bytes g gs all' (sym (joined (f ∷ fs)) ∙ e)
