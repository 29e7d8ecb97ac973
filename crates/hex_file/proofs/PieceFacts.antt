-- The pieces that an image's words are written in: each stands at successive addresses and has one word at least and eight
-- at most, and together they are the words, in order.
use Rattle.std.proofs.Common.{◌≡◌, ℕ, ◌+◌, ◌<◌, ◌==◌, true, false, List, [], ◌∷◌, ◌++◌, length, refl, sym, ◌∙◌, ap, subst, cond, ⊎_elim, arith}
use Rattle.std.proofs.lemmas.Bool.{cases_eq}
use Rattle.std.proofs.lemmas.Grind.{flat_map-append}
use Rattle.std.specs.List.{AllByRecursion, flat_map}
use Rattle.hex_file.specs.declared.images.Word.{Word}
use Rattle.hex_file.specs.Written.{words_record, before_runs, runs_of, eights, data_records}
use Rattle.hex_file.proofs.RunFacts.{before_runs_next, before_runs_apart}

-- The words stand at successive addresses, the first of them at this one.
abbrev pub Successive : ℕ → List Word → Type 0
Successive at [] = Unit {0}
Successive at (w ∷ ws) = (w.address ≡ at) × Successive (at + 1) ws

abbrev pub IsRun : List Word → Type 0
IsRun [] = Unit {0}
IsRun (w ∷ ws) = Successive (w.address + 1) ws

abbrev pub IsPiece : List Word → Type 0
IsPiece [] = ⊥
IsPiece (w ∷ ws) = Successive (w.address + 1) ws × (length ws < 8)

-- Lists in a row.
abbrev pub flat : List (List Word) → List Word
flat lists = flat_map (λ list. list) lists

abbrev pub pieces_of : List Word → List (List Word)
pieces_of words = flat_map eights (runs_of words)

pub all_append : {X : Type 0} (P : X → Type 0) (xs ys : List X) → AllByRecursion P xs → AllByRecursion P ys → AllByRecursion P (xs ++ ys)
all_append P [] ys all more = more
all_append P (x ∷ xs) ys all more = (all.0, all_append P xs ys all.1 more)

-- The runs.

before_flat : (w : Word) (runs : List (List Word)) → flat (before_runs w runs) ≡ w ∷ flat runs
before_flat w [] = refl
before_flat w ([] ∷ runs) = refl
before_flat w ((v ∷ vs) ∷ runs) =
    elim (v.address == w.address + 1) as (λ b. flat (cond b ((w ∷ v ∷ vs) ∷ runs) ((w ∷ []) ∷ (v ∷ vs) ∷ runs)) ≡ w ∷ v ∷ (vs ++ flat runs))
    [ true ↦ refl | false ↦ refl ]

runs_flat : (words : List Word) → flat (runs_of words) ≡ words
runs_flat [] = refl
runs_flat (w ∷ ws) = before_flat w (runs_of ws) ∙ ap (λ words. w ∷ words) (runs_flat ws)

joined : (w v : Word) (vs : List Word) → v.address ≡ w.address + 1 → IsRun (v ∷ vs) → IsRun (w ∷ v ∷ vs)
joined w v vs next run = (next, subst (λ at. Successive (at + 1) vs) next run)

before_are_runs : (w : Word) (runs : List (List Word)) → AllByRecursion IsRun runs → AllByRecursion IsRun (before_runs w runs)
before_are_runs w [] all = (tt, tt)
before_are_runs w ([] ∷ runs) all = (tt, all.1)
before_are_runs w ((v ∷ vs) ∷ runs) all = ⊎_elim
    (λ next. subst (AllByRecursion IsRun) (sym (before_runs_next w v vs runs next)) (joined w v vs next all.0, all.1))
    (λ apart. subst (AllByRecursion IsRun) (sym (before_runs_apart w v vs runs apart)) (tt, all))
    (cases_eq v.address (w.address + 1))

are_runs : (words : List Word) → AllByRecursion IsRun (runs_of words)
are_runs [] = tt
are_runs (w ∷ ws) = before_are_runs w (runs_of ws) (are_runs ws)

-- Their pieces.

eights_flat : (run : List Word) → flat (eights run) ≡ run
eights_flat [] = refl
eights_flat (a ∷ []) = refl
eights_flat (a ∷ b ∷ []) = refl
eights_flat (a ∷ b ∷ c ∷ []) = refl
eights_flat (a ∷ b ∷ c ∷ d ∷ []) = refl
eights_flat (a ∷ b ∷ c ∷ d ∷ e ∷ []) = refl
eights_flat (a ∷ b ∷ c ∷ d ∷ e ∷ f ∷ []) = refl
eights_flat (a ∷ b ∷ c ∷ d ∷ e ∷ f ∷ g ∷ []) = refl
eights_flat (a ∷ b ∷ c ∷ d ∷ e ∷ f ∷ g ∷ h ∷ rest) = ap (λ words. a ∷ b ∷ c ∷ d ∷ e ∷ f ∷ g ∷ h ∷ words) (eights_flat rest)

prefix_of : (at : ℕ) (prefix rest : List Word) → Successive at (prefix ++ rest) → Successive at prefix
prefix_of at [] rest follow = tt
prefix_of at (w ∷ prefix) rest follow = (follow.0, prefix_of (at + 1) prefix rest follow.1)

rest_of : (at : ℕ) (prefix rest : List Word) → Successive at (prefix ++ rest) → Successive (at + length prefix) rest
rest_of at [] rest follow = subst (λ a. Successive a rest) (omega arith) follow
rest_of at (w ∷ prefix) rest follow =
    let further : at + 1 + length prefix ≡ at + length (w ∷ prefix) = omega arith in
    subst (λ a. Successive a rest) further (rest_of (at + 1) prefix rest follow.1)

run_of_successive : (at : ℕ) (words : List Word) → Successive at words → IsRun words
run_of_successive at [] follow = tt
run_of_successive at (w ∷ ws) follow = subst (λ a. Successive (a + 1) ws) (sym follow.0) follow.1

eights_are_pieces : (run : List Word) → IsRun run → AllByRecursion IsPiece (eights run)
eights_are_pieces [] is = tt
eights_are_pieces (a ∷ []) is = ((is, omega arith), tt)
eights_are_pieces (a ∷ b ∷ []) is = ((is, omega arith), tt)
eights_are_pieces (a ∷ b ∷ c ∷ []) is = ((is, omega arith), tt)
eights_are_pieces (a ∷ b ∷ c ∷ d ∷ []) is = ((is, omega arith), tt)
eights_are_pieces (a ∷ b ∷ c ∷ d ∷ e ∷ []) is = ((is, omega arith), tt)
eights_are_pieces (a ∷ b ∷ c ∷ d ∷ e ∷ f ∷ []) is = ((is, omega arith), tt)
eights_are_pieces (a ∷ b ∷ c ∷ d ∷ e ∷ f ∷ g ∷ []) is = ((is, omega arith), tt)
eights_are_pieces (a ∷ b ∷ c ∷ d ∷ e ∷ f ∷ g ∷ h ∷ rest) is = (
  (prefix_of (a.address + 1) (b ∷ c ∷ d ∷ e ∷ f ∷ g ∷ h ∷ []) rest is, omega arith),
  eights_are_pieces rest (run_of_successive _ rest (rest_of (a.address + 1) (b ∷ c ∷ d ∷ e ∷ f ∷ g ∷ h ∷ []) rest is)),
)

cut_flat : (runs : List (List Word)) → flat (flat_map eights runs) ≡ flat runs
cut_flat [] = refl
cut_flat (run ∷ runs) =
    flat_map-append (λ list. list) (eights run) (flat_map eights runs) ∙ (λ i. eights_flat run i ++ cut_flat runs i)

cut_are_pieces : (runs : List (List Word)) → AllByRecursion IsRun runs → AllByRecursion IsPiece (flat_map eights runs)
cut_are_pieces [] all = tt
cut_are_pieces (run ∷ runs) all = all_append IsPiece (eights run) (flat_map eights runs) (eights_are_pieces run all.0) (cut_are_pieces runs all.1)

pub pieces_flat : (words : List Word) → flat (pieces_of words) ≡ words
pieces_flat words = cut_flat (runs_of words) ∙ runs_flat words

pub are_pieces : (words : List Word) → AllByRecursion IsPiece (pieces_of words)
are_pieces words = cut_are_pieces (runs_of words) (are_runs words)

-- The data records are those of the pieces.

records_cut : (runs : List (List Word)) → flat_map (λ run. flat_map words_record (eights run)) runs ≡ flat_map words_record (flat_map eights runs)
records_cut [] = refl
records_cut (run ∷ runs) =
    ap (λ rest. flat_map words_record (eights run) ++ rest) (records_cut runs) ∙ sym (flat_map-append words_record (eights run) (flat_map eights runs))

pub records_of_pieces : (words : List Word) → data_records words ≡ flat_map words_record (pieces_of words)
records_of_pieces words = records_cut (runs_of words)
