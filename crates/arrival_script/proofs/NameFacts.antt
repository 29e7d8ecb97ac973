-- The names of an `at` line, from the first on.
use Rattle.std.proofs.Common.{◌≡◌, ℕ, ◌<◌, ◌&&◌, ◌||◌, Bool, true, false, not, cond, List, [], ◌∷◌, ◌++◌, length, Some, None, Ok, refl, sym, ap, subst, ◌∙◌}
use Rattle.std.specs.List.{list_all, list_any}
use Rattle.std.specs.Str.{bytes_eq}
use Rattle.std.specs.Bool.{one_answer}
use Rattle.std.proofs.Math.Path.{fun_ext}
use Rattle.std.proofs.Math.Bool.{or-false, or_comm}
use Rattle.std.proofs.lemmas.Bool.{and_from}
use Rattle.std.proofs.lemmas.List.{append-nil, append_assoc}
use Rattle.std.proofs.lemmas.List.Folds.{list_any-append, list_all-append}
use Rattle.std.proofs.lemmas.Slice.Eq.{bytes_eq-Decides}
use Rattle.pic_isa.specs.declared.sources.Source.{Source}
use Rattle.pic_isa.specs.Sources.{source_name}
use Rattle.pic_regs.specs.Arrivals.{Sources, set_of, number_of}
use Rattle.pic_regs.proofs.ArrivalLaws.{set_of-number_of}
use Rattle.arrival_script.specs.declared.scripts.Cause.TheVariants.{UnknownSource, SourceTwice}
use Rattle.arrival_script.specs.Scripts.{is_source, has_twice}
use Rattle.arrival_script.specs.Entries.{SetOf}
use Rattle.arrival_script.proofs.ListFacts.{has_pair-push}
use Rattle.arrival_script.proofs.SourceFacts.{with_source, source-named, number_of-below, set_of-some}

-- The sources that names name.
abbrev pub named_by : List (List ℕ) → Sources
named_by found source = list_any (bytes_eq (source_name source)) found

-- Names of which those before the rest are sources' names: their set, and whether two are alike.
pub record NamesSoFar (all rest : List (List ℕ)) (set : ℕ) (twice : Bool) : Type 0 where
  pub seen : List (List ℕ)
  pub split : all ≡ seen ++ rest
  pub sources : list_all is_source seen ≡ true
  pub named : set ≡ number_of (named_by seen)
  pub alike : has_twice seen ≡ twice
  pub some : 0 < length seen → 0 < set

bytes_eq-sym : (xs ys : List ℕ) → bytes_eq xs ys ≡ bytes_eq ys xs
bytes_eq-sym xs ys =
    let there = bytes_eq-Decides xs ys in let back = bytes_eq-Decides ys xs in
    one_answer (bytes_eq xs ys) (bytes_eq ys xs) there ((λ e. sym (back.0 e)), λ e. back.1 (sym e))

named_by-push : (seen : List (List ℕ)) (set : ℕ) (source : Source) → set ≡ number_of (named_by seen)
    → with_source source (set_of set) ≡ named_by (seen ++ source_name source ∷ [])
named_by-push seen set source e = fun_ext (λ other.
    let here : Bool = bytes_eq (source_name other) (source_name source) in
    let before : set_of set other ≡ named_by seen other = ap (λ n. set_of n other) e ∙ set_of-number_of (named_by seen) other in
    ap (λ b. here || b) before ∙ or_comm here (named_by seen other) ∙ ap (λ b. named_by seen other || b) (sym (or-false here))
    ∙ sym (list_any-append (bytes_eq (source_name other)) seen (source_name source ∷ [])))

has_some : (source : Source) (set : Sources) → 0 < number_of (with_source source set)
has_some source set =
    let name_of = source_name source in
    set_of-some (number_of (with_source source set)) source (set_of-number_of (with_source source set) source ∙ ap (λ b. b || set source) ((bytes_eq-Decides name_of name_of).1 refl))

-- One name more.
pub names-more : (all rest : List (List ℕ)) (set : ℕ) (twice : Bool) (name : List ℕ) (more : List (List ℕ)) (source : Source)
    → NamesSoFar all rest set twice → rest ≡ name ∷ more → name ≡ source_name source
    → NamesSoFar all more (number_of (with_source source (set_of set))) (twice || set_of set source)
names-more all rest set twice name more source so e n =
    let name_of = source_name source in
    let spelled : rest ≡ name_of ∷ more = e ∙ ap (λ w. w ∷ more) n in
    record {
      seen = so.seen ++ name_of ∷ [];
      split = so.split ∙ ap (λ r. so.seen ++ r) spelled ∙ sym (append_assoc so.seen (name_of ∷ []) more);
      sources = list_all-append is_source so.seen (name_of ∷ []) ∙ and_from (list_all is_source so.seen) (list_all is_source (name_of ∷ [])) so.sources (and_from (is_source name_of) true (source-named name_of source refl) refl);
      named = ap number_of (named_by-push so.seen set source so.named);
      alike = has_pair-push bytes_eq bytes_eq-sym so.seen name_of ∙ ap (λ b. b || list_any (bytes_eq name_of) so.seen) so.alike
          ∙ ap (λ b. twice || b) (sym (ap (λ n. set_of n source) so.named ∙ set_of-number_of (named_by so.seen) source));
      some = λ h. has_some source (set_of set);
    }

-- All names.
whole : (all rest : List (List ℕ)) (set : ℕ) (twice : Bool) (so : NamesSoFar all rest set twice) → rest ≡ [] → so.seen ≡ all
whole all rest set twice so e = sym (so.split ∙ ap (λ r. so.seen ++ r) e ∙ append-nil so.seen)

pub names-set : (all rest : List (List ℕ)) (set : ℕ) (twice : Bool) → NamesSoFar all rest set twice → rest ≡ [] → twice ≡ false → SetOf all (Ok set)
names-set all rest set twice so e h =
    let same = whole all rest set twice so e in
    let known : list_all is_source all ≡ true = ap (list_all is_source) (sym same) ∙ so.sources in
    let double : has_twice all ≡ false = ap has_twice (sym same) ∙ so.alike ∙ h in
    let is : set ≡ number_of (named_by all) = so.named ∙ ap (λ found. number_of (named_by found)) same in (
      ap (λ b. cond (not b) (Some UnknownSource) (cond (has_twice all) (Some SourceTwice) None)) known ∙ ap (λ b. cond b (Some SourceTwice) None) double,
      is,
      subst (λ n. n < 2048) (sym is) (number_of-below (named_by all)),
      subst (λ found. 0 < length found → 0 < set) same so.some,
    )
