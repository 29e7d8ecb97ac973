-- The data records, taken one by one from the beginning: words at successive addresses, of which there are
-- eight or after which the next address is missing, make the first record.
use Rattle.std.proofs.Common.{◌≡◌, ◌≢◌, ℕ, zero, suc, ◌+◌, ◌-◌, ◌<◌, ◌≤◌, List, [], ◌∷◌, ◌++◌, length, take, drop, get_or, refl, sym, ap, ◌∙◌, ⊎_elim, arith, eq-eqb, ne_eqb, append_assoc, append-nil, add-one, sub-one, length-take}
use Rattle.std.proofs.lemmas.Bool.{cases_lt, cases_eq}
use Rattle.std.proofs.lemmas.List.{get_or_default}
use Rattle.std.specs.List.{flat_map}
use Rattle.hex_file.specs.declared.images.Word.{Word}
use Rattle.hex_file.specs.Written.{words_record, before_runs, runs_of, eights, data_records}

-- The first n words stand at successive addresses.
abbrev pub Follow : List Word → ℕ → Type 0
Follow words n = (k : ℕ) (d : Word) → suc k < n → (get_or words (suc k) d).address ≡ (get_or words k d).address + 1

follow_next : (words : List Word) (k : ℕ) (d : Word) → suc k < length words → Follow words (suc k)
    → (get_or words (suc k) d).address ≡ (get_or words k d).address + 1 → Follow words (suc (suc k))
follow_next words k d within follow next j e below = ⊎_elim
    (λ earlier. follow j e earlier)
    (λ last. let same : j ≡ k = omega arith in let before : k < length words = omega arith in
    rw (same, get_or_default words (suc k) e d within, get_or_default words k e d before) next)
    (cases_lt (suc j) (suc k))

-- One word more, which stands at the next address.
pub follow_more : (words : List Word) (n : ℕ) (d : Word) → 0 < n → n < length words → Follow words n
    → (get_or words n d).address ≡ (get_or words (n - 1) d).address + 1 → Follow words (n + 1)
follow_more words zero d some within follow next = absurd (omega arith)
follow_more words (suc k) d some within follow next = rw add-one (follow_next words k d within follow (rw sub-one at next))

-- pieces of eight

eights_short : (w : Word) (ws : List Word) → length ws < 8 → eights (w ∷ ws) ≡ (w ∷ ws) ∷ []
eights_short w [] few = refl
eights_short w (a ∷ []) few = refl
eights_short w (a ∷ b ∷ []) few = refl
eights_short w (a ∷ b ∷ c ∷ []) few = refl
eights_short w (a ∷ b ∷ c ∷ d ∷ []) few = refl
eights_short w (a ∷ b ∷ c ∷ d ∷ e ∷ []) few = refl
eights_short w (a ∷ b ∷ c ∷ d ∷ e ∷ f ∷ []) few = refl
eights_short w (a ∷ b ∷ c ∷ d ∷ e ∷ f ∷ g ∷ []) few = refl
eights_short w (a ∷ b ∷ c ∷ d ∷ e ∷ f ∷ g ∷ h ∷ ws) few = absurd (omega arith)

eights-append : (w : Word) (prefix rest : List Word) → length prefix ≡ 7 → eights (w ∷ (prefix ++ rest)) ≡ (w ∷ prefix) ∷ eights rest
eights-append w [] rest seven = absurd (omega arith)
eights-append w (a ∷ []) rest seven = absurd (omega arith)
eights-append w (a ∷ b ∷ []) rest seven = absurd (omega arith)
eights-append w (a ∷ b ∷ c ∷ []) rest seven = absurd (omega arith)
eights-append w (a ∷ b ∷ c ∷ d ∷ []) rest seven = absurd (omega arith)
eights-append w (a ∷ b ∷ c ∷ d ∷ e ∷ []) rest seven = absurd (omega arith)
eights-append w (a ∷ b ∷ c ∷ d ∷ e ∷ f ∷ []) rest seven = absurd (omega arith)
eights-append w (a ∷ b ∷ c ∷ d ∷ e ∷ f ∷ g ∷ []) rest seven = refl
eights-append w (a ∷ b ∷ c ∷ d ∷ e ∷ f ∷ g ∷ h ∷ ws) rest seven = absurd (omega arith)

-- runs

-- A word joins the run that begins at the next address.
pub before_runs_next : (w v : Word) (vs : List Word) (runs : List (List Word)) → v.address ≡ w.address + 1
    → before_runs w ((v ∷ vs) ∷ runs) ≡ (w ∷ v ∷ vs) ∷ runs
before_runs_next w v vs runs next = rw (eq-eqb v.address (w.address + 1) next)

pub before_runs_apart : (w v : Word) (vs : List Word) (runs : List (List Word)) → v.address ≢ w.address + 1
    → before_runs w ((v ∷ vs) ∷ runs) ≡ (w ∷ []) ∷ (v ∷ vs) ∷ runs
before_runs_apart w v vs runs apart = rw (ne_eqb v.address (w.address + 1) apart)

-- The first run begins with the first word.
record Begins (w : Word) (runs : List (List Word)) : Type 0 where
  others : List Word
  behind : List (List Word)
  is : runs ≡ (w ∷ others) ∷ behind

before_runs_begins : (w : Word) (runs : List (List Word)) → Begins w (before_runs w runs)
before_runs_begins w [] = record { others = []; behind = []; is = refl }
before_runs_begins w ([] ∷ runs) = record { others = []; behind = runs; is = refl }
before_runs_begins w ((v ∷ vs) ∷ runs) = ⊎_elim
    (λ next. record { others = v ∷ vs; behind = runs; is = before_runs_next w v vs runs next })
    (λ apart. record { others = []; behind = (v ∷ vs) ∷ runs; is = before_runs_apart w v vs runs apart })
    (cases_eq v.address (w.address + 1))

runs_begin : (w : Word) (ws : List Word) → Begins w (runs_of (w ∷ ws))
runs_begin w ws = before_runs_begins w (runs_of ws)

-- Where the next address is missing after n words, they are the first run.
runs_stop : (w : Word) (ws : List Word) (n : ℕ) (d : Word) → n ≤ length ws → Follow (w ∷ ws) (suc n)
    → (n < length ws → (get_or ws n d).address ≢ (get_or (w ∷ ws) n d).address + 1)
    → runs_of (w ∷ ws) ≡ (w ∷ take n ws) ∷ runs_of (drop n ws)
runs_stop w [] zero d within follow apart = refl
runs_stop w [] (suc n) d within follow apart = absurd (omega arith)
runs_stop w (v ∷ vs) zero d within follow apart =
    let first = runs_begin v vs in
    ap (before_runs w) first.is ∙ before_runs_apart w v first.others first.behind (apart (omega arith))
    ∙ ap (λ runs. (w ∷ []) ∷ runs) (sym first.is)
runs_stop w (v ∷ vs) (suc n) d within follow apart =
    ap (before_runs w) (runs_stop v vs n d (omega arith) (λ k e below. follow (suc k) e (omega arith)) (λ below. apart (omega arith)))
    ∙ before_runs_next w v (take n vs) (runs_of (drop n vs)) (follow 0 w (omega arith))

-- Where it is there, the first run goes on with the run after them.
runs_go_on : (w : Word) (ws : List Word) (n : ℕ) (d : Word) → n < length ws → Follow (w ∷ ws) (suc (suc n))
    → (others : List Word) (behind : List (List Word)) → runs_of (drop n ws) ≡ (get_or ws n d ∷ others) ∷ behind
    → runs_of (w ∷ ws) ≡ (w ∷ (take n ws ++ get_or ws n d ∷ others)) ∷ behind
runs_go_on w [] n d within follow others behind is = absurd (omega arith)
runs_go_on w (v ∷ vs) zero d within follow others behind is =
    ap (before_runs w) is ∙ before_runs_next w v others behind (follow 0 w (omega arith))
runs_go_on w (v ∷ vs) (suc n) d within follow others behind is =
    ap (before_runs w) (runs_go_on v vs n d (omega arith) (λ k e below. follow (suc k) e (omega arith)) others behind is)
    ∙ before_runs_next w v (take n vs ++ get_or vs n d ∷ others) behind (follow 0 w (omega arith))

-- The first word of what is left is at its place.
begins_at : (ws : List Word) (n : ℕ) (d : Word) → n < length ws → Begins (get_or ws n d) (runs_of (drop n ws))
begins_at [] n d within = absurd (omega arith)
begins_at (v ∷ vs) zero d within = runs_begin v vs
begins_at (v ∷ vs) (suc n) d within = begins_at vs n d (omega arith)

-- the first record

module _ (record_for : List Word → List ℕ) where
  -- The records of a list of runs, each of which is cut into pieces of eight.
  abbrev records : List (List Word) → List ℕ
  records runs = flat_map (λ run. flat_map record_for (eights run)) runs

  record_of_stop : (w : Word) (ws : List Word) (n : ℕ) (d : Word) → n < 8 → n ≤ length ws → Follow (w ∷ ws) (suc n)
      → (n < length ws → (get_or ws n d).address ≢ (get_or (w ∷ ws) n d).address + 1)
      → records (runs_of (w ∷ ws)) ≡ record_for (w ∷ take n ws) ++ records (runs_of (drop n ws))
  record_of_stop w ws n d few within follow apart =
      let behind = records (runs_of (drop n ws)) in
      ap records (runs_stop w ws n d within follow apart)
      ∙ ap (λ pieces. flat_map record_for pieces ++ behind) (eights_short w (take n ws) (omega (arith, length-take n ws)))
      ∙ ap (λ bytes. bytes ++ behind) (append-nil (record_for (w ∷ take n ws)))

  record_of_eight : (w : Word) (ws : List Word) (n : ℕ) → n ≡ 7 → n < length ws → Follow (w ∷ ws) (suc (suc n))
      → records (runs_of (w ∷ ws)) ≡ record_for (w ∷ take n ws) ++ records (runs_of (drop n ws))
  record_of_eight w ws n seven more follow =
      let first = begins_at ws n w more in
      let rest = get_or ws n w ∷ first.others in
      ap records (runs_go_on w ws n w more follow first.others first.behind first.is)
      ∙ ap (λ pieces. flat_map record_for pieces ++ records first.behind) (eights-append w (take n ws) rest (omega (arith, length-take n ws)))
      ∙ append_assoc (record_for (w ∷ take n ws)) (flat_map record_for (eights rest)) (records first.behind)
      ∙ ap (λ bytes. record_for (w ∷ take n ws) ++ bytes) (sym (ap records first.is))

  first_record_for : (w : Word) (ws : List Word) (n : ℕ) (d : Word) → n < 8 → n ≤ length ws → Follow (w ∷ ws) (suc n)
      → (n < length ws → n < 7 → (get_or ws n d).address ≢ (get_or (w ∷ ws) n d).address + 1)
      → records (runs_of (w ∷ ws)) ≡ record_for (w ∷ take n ws) ++ records (runs_of (drop n ws))
  first_record_for w ws n d few within follow apart = ⊎_elim
      (λ short. record_of_stop w ws n d few within follow (λ more. apart more short))
      (λ full. ⊎_elim
      (λ more. ⊎_elim
      (λ next. record_of_eight w ws n (omega arith) more (follow_next (w ∷ ws) n d (omega arith) follow next))
      (λ gap. record_of_stop w ws n d few within follow (λ _. gap))
      (cases_eq (get_or ws n d).address ((get_or (w ∷ ws) n d).address + 1)))
      (λ last. record_of_stop w ws n d few within follow (λ more. absurd (omega arith)))
      (cases_lt n (length ws)))
      (cases_lt n 7)

-- The first words, as many as stand at successive addresses and eight at most, make the first record.
pub first_record : (words : List Word) (n : ℕ) (d : Word) → 0 < n → n ≤ 8 → n ≤ length words → Follow words n
    → (n < length words → n < 8 → (get_or words n d).address ≢ (get_or words (n - 1) d).address + 1)
    → data_records words ≡ words_record (take n words) ++ data_records (drop n words)
first_record words zero d some few within follow apart = absurd (omega arith)
first_record [] (suc n) d some few within follow apart = absurd (omega arith)
first_record (w ∷ ws) (suc n) d some few within follow apart =
    first_record_for words_record w ws n d (omega arith) (omega arith) follow (λ more short. rw sub-one at (apart (omega arith) (omega arith)))
