-- The relation between the core and the chip is kept at each boundary; so firmware keeps what it promises, settles, keeps the account
-- and the response, and is tied to the core of lists.
use Rattle.std.specs.Prelude.{◌≤◌, ◌⊎◌, Bool, true, false, List, [], ◌∷◌}
use Rattle.std.proofs.Common.{◌≡◌, refl, sym, subst, ◌∙◌, arith, inl, inr}
use Rattle.std.proofs.lemmas.Bool.{both_ways}
use Rattle.hex_file.specs.declared.images.Image.{Image}
use Rattle.pic_machine.specs.Chip.{Chip}
use Rattle.pic_machine.specs.Boundary.{Outer, boundary}
use Rattle.pic_machine.specs.Run.{program_of}
use Rattle.firmware_promises.specs.Firmware.{AlwaysKeeps, AlwaysSettles}
use Rattle.timed_core.specs.Steps.{Run, Phase, is_on}
use Rattle.timed_core.specs.Steps.Phase.{Boots, Rests, Works, Owes, Chooses, Begins, Repeats, Nears, Copies, Leaves}
use Rattle.timed_core.specs.Promises.{is_boot}
use Rattle.timed_core.specs.Shape.{Shape, StillSet}
use Rattle.core_story.specs.Values.{Values}
use Rattle.core_story.specs.Interface.{Seen, Simulated, flag_at, is_rest, shows_state, nested}
use Rattle.core_story.specs.Laws.{Maps, TellsStories}
use Rattle.core_story.proofs.ImageLaws as images
use Rattle.core_steps.specs.Laws.{AlwaysAccounted, AlwaysResponds, AlwaysTied}
use Rattle.core_steps.proofs.AccountLaws.{images_account, images_respond}
use Rattle.core_steps.proofs.TiedLaws.{images_tied}
use Rattle.code_story.specs.Code.{Code}
use Rattle.code_story.specs.Relation.{InGlue, Resting, Working, Beginning, ShortAtOpen, Sim}
use Rattle.code_story.proofs.ToldFacts.{NextFrom}
use Rattle.code_story.proofs.BootFacts.{boot_begins, boot_is_before, next_boots}
use Rattle.code_story.proofs.TakingFacts.{next_rests, next_owes}
use Rattle.code_story.proofs.WorkFacts.{next_works}
use Rattle.code_story.proofs.ChoiceFacts.{next_chooses}
use Rattle.code_story.proofs.BeginFacts.{next_repeats}
use Rattle.code_story.proofs.OpenFacts.{next_begins, next_nears}
use Rattle.code_story.proofs.WindowFacts.{next_copies}
use Rattle.code_story.proofs.LeaveFacts.{next_leaves}

module _ (f : Code) where
  next : (outer : Outer) (ph : Phase) (st : List Run) (v : Values) (c : Chip) → Shape f.t ph st → StillSet (flag_at f.m c.regs) ph → Sim f ph st v c → NextFrom f ph st v (boundary f.l.program outer c)
  next outer (Boots j) st v c shape still sim = next_boots f j st v outer c shape sim
  next outer Rests st v c shape still sim = next_rests f st v outer c shape sim
  next outer Works st v c shape still sim = next_works f st v outer c shape sim
  next outer (Owes on g) st v c shape still sim = next_owes f on g st v outer c shape still sim
  next outer (Chooses j g) st v c shape still sim = next_chooses f j g st v outer c shape sim
  next outer (Begins j) st v c shape still sim = next_begins f j st v outer c shape sim
  next outer (Repeats j) st v c shape still sim = next_repeats f j st v outer c shape sim
  next outer (Nears j) st v c shape still sim = next_nears f j st v outer c shape sim
  next outer (Copies j) st v c shape still sim = next_copies f j st v outer c shape sim
  next outer (Leaves e j) st v c shape still sim = next_leaves f e j st v outer c shape sim

  -- What is seen of a chip with interrupts off, at rest, and at work.
  seen_glue : (ph : Phase) (st : List Run) (v : Values) (c : Chip) → is_on ph ≡ false → is_rest ph ≡ false → is_boot ph ≡ false → InGlue f.p v c
      → (shows_state ph ≡ true → f.l.states c.regs.plain ≡ v.state) → c.depth ≤ nested ph st → Seen f.p f.m ph st v c
  seen_glue ph st v c off busy past_boot glue shows deep = record {
    on = glue.off ∙ sym off;
    there = λ rests. absurd (both_ways (is_rest ph) busy rests);
    not_there = λ boots. absurd (both_ways (is_boot ph) past_boot boots);
    holds = λ it. f.arranged.states.read c ∙ shows it;
    set_up = λ it. glue.past.set_up;
    depth = deep;
  }

  seen_rest : (due : Bool) (ph : Phase) (st : List Run) (v : Values) (c : Chip) → is_on ph ≡ true → is_boot ph ≡ false → Resting f due v c → c.depth ≤ nested ph st → Seen f.p f.m ph st v c
  seen_rest due ph st v c on past_boot rest deep = record {
    on = rest.on ∙ sym on;
    there = λ rests. rest.at_ready.there ∙ f.arranged.places.ready;
    not_there = λ boots. absurd (both_ways (is_boot ph) past_boot boots);
    holds = λ it. f.arranged.states.read c ∙ rest.shows;
    set_up = λ it. rest.past.set_up;
    depth = deep;
  }

  seen_work : (on due : Bool) (ph : Phase) (r : Run) (rs : List Run) (v : Values) (c : Chip) → is_on ph ≡ on → is_rest ph ≡ false → is_boot ph ≡ false → Working f on due r rs v c
      → c.depth ≤ nested ph (r ∷ rs) → Seen f.p f.m ph (r ∷ rs) v c
  seen_work on due ph r rs v c same busy past_boot work deep = record {
    on = work.on_is ∙ sym same;
    there = λ rests. absurd (both_ways (is_rest ph) busy rests);
    not_there = λ boots. absurd (both_ways (is_boot ph) past_boot boots);
    holds = λ it. f.arranged.states.read c ∙ work.shows;
    set_up = λ it. work.past.set_up;
    depth = deep;
  }

  seen : (ph : Phase) (st : List Run) (v : Values) (c : Chip) → Sim f ph st v c → Seen f.p f.m ph st v c
  seen (Boots j) st v c boot = record {
    on = boot.off;
    there = λ rests. absurd (both_ways false refl rests);
    not_there = λ it. boot_is_before f j v c boot;
    holds = λ it. absurd (both_ways false refl it);
    set_up = λ it. absurd (both_ways true it refl);
    depth = let none = boot.depth in omega (arith, none);
  }
  seen Rests st v c rest = seen_rest false Rests st v c refl refl rest (let none = rest.depth in omega (arith, none))
  seen Works [] v c sim = absurd sim
  seen Works (r ∷ rs) v c sim = seen_work true false Works r rs v c refl refl refl sim.0 (let deep = sim.0.beneath.over.depth in omega (arith, deep))
  seen (Owes on g) [] v c sim = seen_rest true (Owes on g) [] v c sim.0 refl sim.1 (let none = sim.1.depth in omega (arith, none))
  seen (Owes on g) (r ∷ rs) v c sim = seen_work on true (Owes on g) r rs v c refl refl refl sim.0 (let deep = sim.0.beneath.over.depth in omega (arith, deep))
  seen (Chooses j g) st v c sim = seen_glue (Chooses j g) st v c refl refl refl sim.glue (λ it. sim.shows) (let deep = sim.over.depth in omega (arith, deep))
  seen (Begins j) [] v c sim = absurd sim
  seen (Begins j) (r ∷ rs) v c sim = by sim.1
    where
      deep : c.depth ≤ nested (Begins j) (r ∷ rs)
      deep = let its = sim.0.beneath.over.depth in omega (arith, its)

      by : Beginning f r.event j v c ⊎ ShortAtOpen f r.event v c → Seen f.p f.m (Begins j) (r ∷ rs) v c
      by (inl begins) = seen_glue (Begins j) (r ∷ rs) v c refl refl refl sim.0.glue (λ it. begins.shows) deep
      by (inr opens) = seen_glue (Begins j) (r ∷ rs) v c refl refl refl sim.0.glue (λ it. opens.shows) deep
  seen (Repeats j) [] v c sim = absurd sim
  seen (Repeats j) (r ∷ rs) v c sim = seen_glue (Repeats j) (r ∷ rs) v c refl refl refl sim.0.glue (λ it. sim.1.shows) (let deep = sim.0.beneath.over.depth in omega (arith, deep))
  seen (Nears j) [] v c sim = absurd sim
  seen (Nears j) (r ∷ rs) v c sim = seen_glue (Nears j) (r ∷ rs) v c refl refl refl sim.0.glue (λ it. sim.1.shows) (let deep = sim.0.beneath.over.depth in omega (arith, deep))
  seen (Copies j) [] v c sim = absurd sim
  seen (Copies j) (r ∷ rs) v c sim = seen_glue (Copies j) (r ∷ rs) v c refl refl refl sim.0.glue (λ it. absurd (both_ways false refl it)) (let deep = sim.0.beneath.over.depth in omega (arith, deep))
  seen (Leaves e j) st v c sim = seen_glue (Leaves e j) st v c refl refl refl sim.glue (λ it. sim.shows) (let deep = sim.over.depth in omega (arith, deep))

  pub simulated : Simulated f.p f.m f.t f.l.program (Sim f)
  simulated = record {
    fitted = f.arranged.fitted;
    no_inputs = f.arranged.states.no_inputs;
    initial = f.initial;
    begins = f.arranged.states.begins;
    starts = boot_begins f;
    next = next;
    seen = seen;
  }

  -- An image with this code.
  module _ (image : Image) (is_its : f.l.program ≡ program_of image) (maps : Maps f.p image f.m) where
    simulates : Simulated f.p f.m f.t (program_of image) (Sim f)
    simulates = subst (λ program. Simulated f.p f.m f.t program (Sim f)) is_its simulated

    tells_stories : TellsStories f.p image f.m f.t
    tells_stories = images.tells_stories f.p image f.m f.t (Sim f) simulates maps.rules

    pub always_keeps : AlwaysKeeps f.p image f.m
    always_keeps = images.always_keeps f.p image f.m f.t (Sim f) simulates maps

    pub always_settles : AlwaysSettles f.p image f.m
    always_settles = images.always_settles f.p image f.m f.t (Sim f) simulates maps

    pub always_accounted : AlwaysAccounted f.p image f.m
    always_accounted = images_account f.p image f.m f.t maps tells_stories

    pub always_responds : AlwaysResponds f.p image f.m
    always_responds = images_respond f.p image f.m f.t maps tells_stories

    pub always_tied : AlwaysTied f.p image f.m
    always_tied = images_tied f.p image f.m f.t maps tells_stories
