-- The steps of `compile`, put together.
use Rattle.std.proofs.Common.{◌≡◌, ◌≢◌, ℕ, ◌≤◌, List, Option, Some, None, Result, Ok, Err, String, string_bytes, ◌⊎◌, inl, inr, arith, refl, ◌∙◌, ap, subst}
use Rattle.std.specs.declared.alloc.Global.{Global}
use Rattle.edge_io.specs.Files.{FilesSeen, SameFiles, SameOthers, Replaces, BothTold, KeepsFiles}
use Rattle.edge_io.specs.Sinks.{SinkSeen}
use Rattle.map_file.specs.MapText.{map_text}
use Rattle.command_parts.specs.declared.halts.Halt.{Halt}
use Rattle.command_parts.specs.declared.halts.Halt.TheVariants.{Said, PutFailed, Memory}
use Rattle.command_parts.specs.Outsides.{Outside}
use Rattle.command_parts.specs.Endings.{Ends, Gives, Finishes}
use Rattle.frp_tree.specs.Tree.{ProgramTree}
use Rattle.firmware.specs.Builds.{IsBuildFault}
use Rattle.firmware.specs.declared.faults.BuildFault.{BuildFault}
use Rattle.firmware.specs.declared.faults.BuildFault.TheVariants as build
use Rattle.frp_tool.specs.Lines.{build_line}
use Rattle.frp_tool.specs.SourceTexts.{SourceGives, SourceCause, source_status, source_line}
use Rattle.frp_tool.specs.Writes.{Stores}
use Rattle.frp_tool.specs.Compiles.{CompileRequest, Firmware, CompileVerdict, IsCompiled, CompileComes, CompileLeft, NoProgram, Unbuilt, HexFailed, MapFailed, Done, compile_status, compile_line, CompileWorks, Compiles}
use Rattle.command_parts.proofs.ToldLaws.{chain, keeps_trans}

-- The program wasn't read.
pub unread_works : {A : Type 0} (Good : A → Type 0) (r : CompileRequest) (a b : FilesSeen) (e : Halt) → KeepsFiles a b → Gives Good (SourceCause r.source a b) source_status (source_line r.source) (Err e) → CompileWorks r a b (Err e)
unread_works Good r a b (Said due line) keeps (fault, cause, is, said) = (NoProgram fault, (cause, keeps), is, said)
unread_works Good r a b PutFailed keeps gives = gives
unread_works Good r a b Memory keeps gives = inl (inl keeps)

-- A fault that isn't out of memory is the program's.
pub is_fault : (p : ProgramTree) (fault : BuildFault) → fault ≢ build.Memory → (fault ≡ build.Memory) ⊎ IsBuildFault p fault → IsBuildFault p fault
is_fault p fault other (inl memory) = absurd (other memory)
is_fault p fault other (inr has) = has

-- Nothing was built of it.
pub unbuilt_works : {A : Type 0} (Good : A → Type 0) (r : CompileRequest) (a b : FilesSeen) (p : ProgramTree) (e : Halt) → KeepsFiles a b → SourceGives r.source a p
    → Gives Good (IsBuildFault p) (λ (fault : BuildFault). 1) build_line (Err e) → CompileWorks r a b (Err e)
unbuilt_works Good r a b p (Said due line) keeps spells (fault, has, is, said) = (Unbuilt p fault, ((spells, has), keeps), is, said)
unbuilt_works Good r a b p PutFailed keeps spells gives = gives
unbuilt_works Good r a b p Memory keeps spells gives = inl (inl keeps)

module _ (r : CompileRequest) (a b c : FilesSeen) (f : Firmware) (spells : IsCompiled r a f.program) (keeps : KeepsFiles a b) (fewer : a.write_faults ≤ b.write_faults) where
  -- HEX wasn't written.
  pub hex_works : (bytes : List ℕ) (e : Halt) → Stores b c r.hex bytes (Err e) → CompileWorks r a c (Err e)
  hex_works bytes (Said due line) ((rose, left), is, said) =
      (HexFailed f.program, ((spells, omega (arith, rose)), chain a b c _ _ _ (λ old mid new h k other differs. k other differs ∙ h other) keeps left), is, said)
  hex_works bytes PutFailed stores = stores
  hex_works bytes Memory (inl kept) = inl (inl (keeps_trans a b c keeps kept))
  hex_works bytes Memory (inr (rose, left)) =
      inr (HexFailed f.program, ((spells, omega (arith, rose)), chain a b c _ _ _ (λ old mid new h k other differs. k other differs ∙ h other) keeps left))

  module _ (d : FilesSeen) (hex : List ℕ) (is_hex : hex ≡ f.hex) (stored : Stores b c r.hex hex (Ok tt)) (fewer' : b.write_faults ≤ c.write_faults) (apart : r.hex ≢ r.map) where
    hex_left : BothTold a c (λ old new. Replaces old new r.hex hex)
    hex_left = chain a b c SameFiles _ _ (λ old mid new h k. (k.0, λ other differs. k.1 other differs ∙ h other)) keeps stored

    map_left : BothTold c d (λ old new. SameOthers old new r.map) → CompileLeft r a d (MapFailed f)
    map_left left = chain a c d _ _ _ (λ old mid new h k. (k r.hex apart ∙ h.0 ∙ ap (λ bytes. Some bytes) is_hex, λ name one two. k name two ∙ h.1 name one)) hex_left left

    -- MAP wasn't written.
    pub map_works : (bytes : List ℕ) (e : Halt) → Stores c d r.map bytes (Err e) → CompileWorks r a d (Err e)
    map_works bytes (Said due line) ((rose, left), is, said) = (MapFailed f, ((spells, omega (arith, rose, fewer, fewer')), map_left left), is, said)
    map_works bytes PutFailed stores = stores
    map_works bytes Memory (inl kept) =
        inl (inr (f, spells, chain a c d _ _ _ (λ old mid new h k. (k r.hex ∙ h.0 ∙ ap (λ bytes. Some bytes) is_hex, λ other differs. k other ∙ h.1 other differs)) hex_left kept))
    map_works bytes Memory (inr (rose, left)) = inr (MapFailed f, ((spells, omega (arith, rose, fewer, fewer')), map_left left))

    -- Both were written.
    pub done_works : (bytes : List ℕ) (line : String Global) → bytes ≡ map_text f.map → Stores c d r.map bytes (Ok tt) → string_bytes line ≡ compile_line r (Done f) → CompileWorks r a d (Ok (Some line))
    done_works bytes line is_map stores said =
        (f, (spells, chain a c d _ _ _ (λ old mid new h k. (k.1 r.hex apart ∙ h.0 ∙ ap (λ bytes. Some bytes) is_hex, k.0 ∙ ap (λ bytes. Some bytes) is_map, λ name one two. k.1 name two ∙ h.1 name one)) hex_left stores), said)

-- What is made of a verdict.
module _ (r : CompileRequest) (before : Outside) (files : FilesSeen) (out : SinkSeen) (status : ℕ) where
  abbrev left : Outside
  left = record { files = files; out = out }

  verdict_ends : (v : CompileVerdict) (due : ℕ) (line : List ℕ) → CompileComes r before.files files v → due ≡ compile_status v → line ≡ compile_line r v → Ends before.out out due line status → Compiles r before left status
  verdict_ends v due line (cause, is_left) is said ends =
      inr (v, cause, is_left, subst (λ (text : List ℕ). Ends before.out out (compile_status v) text status) said (subst (λ (n : ℕ). Ends before.out out n line status) is ends))

  -- What is made of the work of a `compile` ends it.
  pub compile_ends : (work : Result (Option (String Global)) Halt) → CompileWorks r before.files files work → Finishes before.out out work status → Compiles r before left status
  compile_ends (Ok (Some line)) (f, comes, said) ends = verdict_ends (Done f) 0 (string_bytes line) comes refl said ends
  compile_ends (Ok None) works ends = absurd works
  compile_ends (Err (Said due line)) (v, comes, is, said) ends = verdict_ends v due (string_bytes line) comes is said ends
  compile_ends (Err PutFailed) works ends = absurd works
  compile_ends (Err Memory) (inl cut) (six, same) = inl (six, (λ k. (same k).taken), cut)
  compile_ends (Err Memory) (inr (v, (cause, is_left))) (six, same) = inr (v, cause, is_left, inr (inr (six, λ k. (same k).taken)))
