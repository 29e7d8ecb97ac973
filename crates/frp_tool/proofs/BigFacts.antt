-- The steps of `big`, put together.
use Rattle.std.proofs.Common.{◌≡◌, ◌≢◌, ℕ, ◌≤◌, List, Option, Some, None, Result, Ok, Err, String, string_bytes, ◌⊎◌, inl, inr, arith, refl, ◌∙◌, ap, subst}
use Rattle.std.specs.declared.alloc.Global.{Global}
use Rattle.edge_io.specs.Files.{FilesSeen, SameOthers, Replaces, BothTold}
use Rattle.edge_io.specs.Sinks.{SinkSeen}
use Rattle.map_file.specs.MapText.{map_text}
use Rattle.command_parts.specs.declared.halts.Halt.{Halt}
use Rattle.command_parts.specs.declared.halts.Halt.TheVariants.{Said, PutFailed, Memory}
use Rattle.command_parts.specs.Outsides.{Outside}
use Rattle.command_parts.specs.Endings.{Ends, Finishes}
use Rattle.frp_tool.specs.Writes.{Stores}
use Rattle.frp_tool.specs.Bigs.{BigRequest, Large, BigVerdict, BigComes, BigLeft, HexFailed, MapFailed, Done, big_status, big_lines, BigWorks, Bigs, OrMemory}
use Rattle.command_parts.proofs.ToldLaws.{chain, keeps_refl}

-- Memory ran out before anything was written.
pub early_works : {A : Type 0} (Good : A → Type 0) (r : BigRequest) (a : FilesSeen) (e : Halt) → OrMemory Good (Err e) → BigWorks r a a (Err e)
early_works Good r a (Said due line) gives = absurd gives
early_works Good r a PutFailed gives = gives
early_works Good r a Memory gives = inl (inl (keeps_refl a))

module _ (r : BigRequest) (a b : FilesSeen) (f : Large r.number) where
  -- HEX wasn't written.
  pub hex_works : (bytes : List ℕ) (e : Halt) → Stores a b r.hex bytes (Err e) → BigWorks r a b (Err e)
  hex_works bytes (Said due line) ((rose, left), is, said) = (HexFailed, (rose, left), is, said)
  hex_works bytes PutFailed stores = stores
  hex_works bytes Memory (inl kept) = inl (inl kept)
  hex_works bytes Memory (inr (rose, left)) = inr (HexFailed, (rose, left))

  module _ (c : FilesSeen) (hex : List ℕ) (is_hex : hex ≡ f.hex) (stored : Stores a b r.hex hex (Ok tt)) (fewer : a.write_faults ≤ b.write_faults) (apart : r.hex ≢ r.map) where
    map_left : BothTold b c (λ old new. SameOthers old new r.map) → BigLeft r a c (MapFailed f)
    map_left left = chain a b c _ _ _ (λ old mid new h k. (k r.hex apart ∙ h.0 ∙ ap (λ bytes. Some bytes) is_hex, λ name one two. k name two ∙ h.1 name one)) stored left

    -- MAP wasn't written.
    pub map_works : (bytes : List ℕ) (e : Halt) → Stores b c r.map bytes (Err e) → BigWorks r a c (Err e)
    map_works bytes (Said due line) ((rose, left), is, said) = (MapFailed f, (omega (arith, rose, fewer), map_left left), is, said)
    map_works bytes PutFailed stores = stores
    map_works bytes Memory (inl kept) =
        inl (inr (f, chain a b c _ _ _ (λ old mid new h k. (k r.hex ∙ h.0 ∙ ap (λ bytes. Some bytes) is_hex, λ other differs. k other ∙ h.1 other differs)) stored kept))
    map_works bytes Memory (inr (rose, left)) = inr (MapFailed f, (omega (arith, rose, fewer), map_left left))

    -- Both were written.
    pub done_works : (bytes : List ℕ) (text : String Global) → bytes ≡ map_text f.map → Stores b c r.map bytes (Ok tt) → string_bytes text ≡ big_lines r (Done f) → BigWorks r a c (Ok (Some text))
    done_works bytes text is_map stores said =
        (f, (tt, chain a b c _ _ _ (λ old mid new h k. (k.1 r.hex apart ∙ h.0 ∙ ap (λ bytes. Some bytes) is_hex, k.0 ∙ ap (λ bytes. Some bytes) is_map, λ name one two. k.1 name two ∙ h.1 name one)) stored stores), said)

-- What is made of a verdict.
module _ (r : BigRequest) (before : Outside) (files : FilesSeen) (out : SinkSeen) (status : ℕ) where
  abbrev left : Outside
  left = record { files = files; out = out }

  verdict_ends : (v : BigVerdict r.number) (due : ℕ) (line : List ℕ) → BigComes r before.files files v → due ≡ big_status v → line ≡ big_lines r v → Ends before.out out due line status → Bigs r before left status
  verdict_ends v due line (cause, is_left) is said ends =
      inr (v, cause, is_left, subst (λ (text : List ℕ). Ends before.out out (big_status v) text status) said (subst (λ (n : ℕ). Ends before.out out n line status) is ends))

  -- What is made of the work of a `big` ends it.
  pub big_ends : (work : Result (Option (String Global)) Halt) → BigWorks r before.files files work → Finishes before.out out work status → Bigs r before left status
  big_ends (Ok (Some line)) (f, comes, said) ends = verdict_ends (Done f) 0 (string_bytes line) comes refl said ends
  big_ends (Ok None) works ends = absurd works
  big_ends (Err (Said due line)) (v, comes, is, said) ends = verdict_ends v due (string_bytes line) comes is said ends
  big_ends (Err PutFailed) works ends = absurd works
  big_ends (Err Memory) (inl cut) (six, same) = inl (six, (λ k. (same k).taken), cut)
  big_ends (Err Memory) (inr (v, (cause, is_left))) (six, same) = inr (v, cause, is_left, inr (inr (six, λ k. (same k).taken)))
