-- What is counted over a log, at one step more.
use Rattle.std.proofs.Common.{◌≡◌, ℕ, suc, ◌+◌, Bool, length, map, max, count_ones, sym, ap, ◌∙◌, add-one, arith}
use Rattle.std.specs.List.{count_by, filter, sum_by}
use Rattle.std.specs.Simd.Lanes.{mask_l}
use Rattle.std.proofs.lemmas.List.{length-map, length-append}
use Rattle.std.proofs.lemmas.List.Sums.{length-filter}
use Rattle.std.proofs.lemmas.Simd.{ones-mask_l}
use Rattle.pic_isa.specs.declared.sources.Source.{Source}
use Rattle.pic_isa.specs.Sources.{sources}
use Rattle.pic_regs.specs.Bytes.{one_if}
use Rattle.pic_regs.specs.Arrivals.{Sources, number_of}
use Rattle.pic_machine.specs.declared.steps.Did.{Did}
use Rattle.pic_machine.specs.Boundary.{Step}
use Rattle.pic_machine.specs.Dids.{is_run_at}
use Rattle.pic_machine.specs.Run.{Log}
use Rattle.map_file.specs.declared.maps.MapEvent.{MapEvent}
use Rattle.map_file.specs.declared.maps.Map.{Map}
use Rattle.arrival_script.specs.Trace.{deepest}
use Rattle.firmware_promises.specs.Counts.{count, commits, committed_by, latches}
use Rattle.large_run.specs.declared.tallies.Tally.{Tally}
use Rattle.large_run.specs.Tallies.{IsTally, merges}

-- The bits of a set's number are its sources.
pub ones-of_set : (set : Sources) → count_ones (number_of set) ≡ sum_by (λ source. one_if (set source)) sources
ones-of_set set = ap count_ones (is_mask set) ∙ ones-mask_l set sources
  where
    is_mask : (set : Sources) → number_of set ≡ mask_l (map set sources)
    is_mask set = omega arith

-- Counts of all sources at one step more.
pub more-of_all : (log : Log) (test : Source → Step → Bool) (k : ℕ)
    → sum_by (λ source. count log (test source) (k + 1)) sources ≡ sum_by (λ source. count log (test source) k) sources + sum_by (λ source. one_if (test source (log k))) sources
more-of_all log test k = ap (λ n. sum_by (λ source. count log (test source) n) sources) (add-one k) ∙ at_once
  where
    at_once : sum_by (λ source. count log (test source) (suc k)) sources ≡ sum_by (λ source. count log (test source) k) sources + sum_by (λ source. one_if (test source (log k))) sources
    at_once = omega arith

-- The events that a step commits are those whose commit address it ran.
pub committed-is : (m : Map) (did : Did) (step : Step) → step.did ≡ did → count_by (λ e. is_run_at e.commit did) m.events ≡ length (committed_by m step)
committed-is m did step e =
    ap (λ d. count_by (λ (x : MapEvent). is_run_at x.commit d) m.events) (sym e)
    ∙ sym (length-filter (λ (x : MapEvent). is_run_at x.commit step.did) m.events)
    ∙ sym (length-map (filter (λ (x : MapEvent). is_run_at x.commit step.did) m.events) (λ (x : MapEvent). x.name))

pub commits-more : (m : Map) (log : Log) (k : ℕ) → length (commits m log (k + 1)) ≡ length (commits m log k) + length (committed_by m (log k))
commits-more m log k = ap (λ n. length (commits m log n)) (add-one k) ∙ length-append (commits m log k) (committed_by m (log k))

-- What a tally counts of one step.
pub record Counted (m : Map) (step : Step) (t next : Tally) : Type 0 where
  pub latched : next.latched ≡ t.latched + count_ones (number_of step.latched)
  pub merged : next.merged ≡ t.merged + count_ones (number_of step.merged)
  pub commits : next.commits ≡ t.commits + length (committed_by m step)
  pub deepest : next.deepest ≡ max t.deepest step.after.depth

pub tally-more : (m : Map) (log : Log) (k : ℕ) (t next : Tally) → Counted m (log k) t next → IsTally m log k t → IsTally m log (k + 1) next
tally-more m log k t next did so = record {
  latched = let a = did.latched in let b = so.latched in omega (arith, ones-of_set (log k).latched, more-of_all log latches k);
  merged = let a = did.merged in let b = so.merged in omega (arith, ones-of_set (log k).merged, more-of_all log merges k);
  commits = let a = did.commits in let b = so.commits in omega (arith, commits-more m log k);
  deepest = did.deepest ∙ ap (λ d. max d (log k).after.depth) so.deepest ∙ sym (ap (deepest log) (add-one k));
}
