-- Programs with no inputs: their windows need no samples, and their reactions are their commits.
use Rattle.std.specs.Prelude.{ℕ, zero, suc, Bool, true, false, List, [], ◌∷◌, ◌++◌, map, filter, if◌then◌else◌}
use Rattle.std.specs.List.{AllByRecursion, list_any}
use Rattle.std.specs.Str.{bytes_eq}
use Rattle.std.proofs.Common.{◌≡◌, refl, sym, ap, ap₂, subst, ◌∙◌}
use Rattle.std.proofs.lemmas.List.{map-append}
use Rattle.frp_tree.specs.Tree.{DeclTree, ProgramTree}
use Rattle.efrp_meaning.specs.Decls.{inputs_of}
use Rattle.efrp_meaning.specs.Needs.{inputs_needed, is_named_in, needed}
use Rattle.efrp_meaning.specs.Meaning.{Samples}
use Rattle.pic_machine.specs.Run.{Log}
use Rattle.map_file.specs.declared.maps.MapEvent.{MapEvent}
use Rattle.map_file.specs.declared.maps.Map.{Map}
use Rattle.firmware_promises.specs.Counts.{ran_at, opened_by, committed_by, commits, sample_at, sampled, window_samples, samples_before, reactions}
use Rattle.firmware_promises.specs.Follows.{IsSampled, WindowsAreSampled}
use Rattle.firmware_promises.specs.Laws.{unsampled}

neither : (b : Bool) (x y : Samples) → x ≡ [] → y ≡ [] → (if b then x else y) ≡ []
neither true x y first second = first
neither false x y first second = second

module _ (p : ProgramTree) (m : Map) (log : Log) (none : inputs_of p ≡ []) where
  no_samples_before : (event : List ℕ) (n : ℕ) → samples_before p m log event n ≡ []
  no_samples_before event n = ap (map (λ (input : DeclTree). sampled log (sample_at m event input.name) n)) none

  -- A window has no samples.
  pub no_samples : (event : List ℕ) (n : ℕ) → window_samples p m log event n ≡ []
  no_samples event zero = ap (map (λ (input : DeclTree). 0)) none
  no_samples event (suc n) =
      neither (list_any (bytes_eq event) (opened_by m (log n))) (samples_before p m log event n) (window_samples p m log event n) (no_samples_before event n) (no_samples event n)

  each_unsampled : (n : ℕ) (names : List (List ℕ)) → map (λ name. record { event = name; samples = window_samples p m log name n }) names ≡ map unsampled names
  each_unsampled n [] = refl
  each_unsampled n (name ∷ names) = ap₂ (λ samples rest. record { event = name; samples = samples } ∷ rest) (no_samples name n) (each_unsampled n names)

  -- The reactions are the commits.
  pub reactions_are_commits : (n : ℕ) → reactions p m log n ≡ map unsampled (commits m log n)
  reactions_are_commits zero = refl
  reactions_are_commits (suc n) =
      ap₂ (λ before here. before ++ here) (reactions_are_commits n) (each_unsampled n (committed_by m (log n)))
      ∙ sym (map-append unsampled (commits m log n) (committed_by m (log n)))

  none_needed : (event : List ℕ) → inputs_needed p event ≡ []
  none_needed event = ap (λ inputs. map (λ (d : DeclTree). d.name) (filter (λ (d : DeclTree). is_named_in d.name (needed p event)) inputs)) none

  -- No window needs a sample.
  abbrev IsSampledThere : ℕ → MapEvent → Type 0
  IsSampledThere s e = ran_at e.«open» (log s) ≡ true → AllByRecursion (λ input. IsSampled p m log e input s) (inputs_needed p e.name)

  each_is_sampled : (s : ℕ) (events : List MapEvent) → AllByRecursion (IsSampledThere s) events
  each_is_sampled s [] = tt
  each_is_sampled s (e ∷ events) =
      ((λ opens. subst (λ inputs. AllByRecursion (λ input. IsSampled p m log e input s) inputs) (sym (none_needed e.name)) tt), each_is_sampled s events)

  pub windows_are_sampled : (n : ℕ) → WindowsAreSampled p m log n
  windows_are_sampled n s h = each_is_sampled s m.events
