-- What is written of the image and the map is firmware for the program, and treats its events in time and in order.
use Rattle.std.proofs.Common.{◌≡◌, ℕ, List, [], length, Option, None, Some, option_map, ap, arith, lit<, refl, subst, sym}
use Rattle.std.proofs.lemmas.Option.{none-some}
use Rattle.efrp_meaning.specs.Bounds.{levels, settle_bound}
use Rattle.efrp_meaning.specs.Meaning.{SerialRun, initial_state}
use Rattle.efrp_types.proofs.GoodLaws.{passed-runs}
use Rattle.frp_tree.specs.Tree.{ProgramTree}
use Rattle.hex_file.specs.declared.images.Image.{Image}
use Rattle.hex_file.specs.Written.{IsWritable, written}
use Rattle.hex_file.proofs.WrittenLaws.{written_means_image}
use Rattle.pic_machine.specs.Run.{program_of, word_at}
use Rattle.map_file.specs.declared.maps.Map.{Map}
use Rattle.map_file.specs.MapRules.{IsMap}
use Rattle.map_file.specs.MapText.{map_text}
use Rattle.code_items.specs.Items.{has_pages, words_in}
use Rattle.page_layout.specs.declared.laid.Laid.{Laid}
use Rattle.page_layout.specs.Emitted.{places}
use Rattle.firmware_promises.specs.Firmware.{AlwaysKeeps, AlwaysSettles, IsFirmware, Names, Reports}
use Rattle.core_story.specs.Laws.{Maps}
use Rattle.core_steps.specs.Laws.{AlwaysAccounted, AlwaysResponds, AlwaysTied}
use Rattle.core_steps.specs.Scheduled.{IsScheduled}
use Rattle.firmware_map.specs.Laws.{HasNames}
use Rattle.firmware_map.specs.Maps.{Made, made_of}
use Rattle.firmware_map.proofs.MapLaws.{map-keeps-rules, map-lists-rightly}
use Rattle.code_story.proofs.SimulatedLaws.{always_accounted, always_keeps, always_responds, always_settles, always_tied}
use Rattle.firmware_layout.specs.Made.{IsMade, IsSpread}
use Rattle.firmware_layout.specs.Pieces.{Makings, items_of}
use Rattle.firmware_layout.specs.Sound.{AreMakings}
use Rattle.firmware_layout.proofs.MadeLaws.{is_making}
use Rattle.firmware_story.specs.Laws.{HasCode}
use Rattle.firmware_story.proofs.CodeLaws.{firmware-has-code}
use Rattle.firmware_words.proofs.WordLaws.{words-are-bounded}
use Rattle.firmware_written.specs.Written.{IsLaidOut, IsMapped, IsWritten, WrittenIsFirmware, image_of}
use Rattle.firmware_written.proofs.CodeFacts.{is_code}
use Rattle.firmware_written.proofs.MapFacts.{few_bytes, fits_map, is_map_in, used_placed}
use Rattle.firmware_written.proofs.NameFacts.{names_rightly}
use Rattle.firmware_written.proofs.WordFacts.{words-below}

-- A program that passes the checks has a first state.
has_first : (o : Option (List ℕ)) (r : SerialRun) → option_map (λ (s : List ℕ). record { state = s; ports = [] }) o ≡ Some r → (s : List ℕ) × (o ≡ Some s)
has_first None r begun = absurd (none-some r begun)
has_first (Some s) r begun = (s, refl)

first_state : (f : Makings) → IsMade f → (s : List ℕ) × (initial_state f.p ≡ Some s)
first_state f made = let run = passed-runs f.p [] made.written made.passes tt in has_first (initial_state f.p) run.0 run.1

-- An image that has a program's code keeps what is promised of it in every run.
record Promised (p : ProgramTree) (image : Image) (m : Map) : Type 0 where
  keeps : AlwaysKeeps p image m
  settles : AlwaysSettles p image m
  accounted : AlwaysAccounted p image m
  responds : AlwaysResponds p image m
  tied : AlwaysTied p image m

promised : (p : ProgramTree) (image : Image) (m : Map) → HasCode p m (program_of image) → Maps p image m → Promised p image m
promised p image m has maps =
    let own : Maps has.code.p image has.code.m = subst (λ n. Maps has.code.p image n) (sym has.for_map) (subst (λ q. Maps q image m) (sym has.for_program) maps) in
    let all : Promised has.code.p image has.code.m = record {
      keeps = always_keeps has.code image has.in_memory own;
      settles = always_settles has.code image has.in_memory own;
      accounted = always_accounted has.code image has.in_memory own;
      responds = always_responds has.code image has.in_memory own;
      tied = always_tied has.code image has.in_memory own;
    } in
    subst (λ n. Promised p image n) has.for_map (subst (λ q. Promised q image has.code.m) has.for_program all)

module _ (f : Makings) (laid : Laid) (m : Map) (made : IsMade f) (spread : IsSpread f) (pages : f.spread.pages ≡ has_pages (items_of f)) (named : HasNames f.p)
    (is : IsLaidOut f laid) (mapped : IsMapped f laid m) where
  abbrev image : Image
  image = image_of laid

  abbrev its : Made
  its = made_of laid.marks (length laid.words) (levels f.p) (settle_bound f.p)

  makings : AreMakings f
  makings = is_making f made

  writable : IsWritable image
  writable = record { words = is.rise; config = lit< tt }

  rules : IsMap m
  rules = map-keeps-rules f.p mapped.used its m made.written made.passes.checked named (fits_map f made laid m mapped is) (used_placed f made laid m mapped) mapped.is_map

  names : Names f.p image m
  names = names_rightly f laid m made makings pages is mapped

  reports : Reports f.p image m
  reports =
      let words = mapped.is_map.words in
      let settle = mapped.is_map.settle in
      let depth = mapped.is_map.depth in
      let number = is.number in
      let same = ap (λ b. words_in b (items_of f)) pages in
      let most = words-are-bounded f made spread in
      let few = made.few in
      record {
        words = words;
        words_bounded = omega (arith, words, number, same, most);
        ram = mapped.is_map.ram;
        ram_bounded = few_bytes f made laid m mapped;
        settle_bounded = omega (arith, settle);
        depth_in_range = omega (arith, depth, few);
        depth_bounded = omega (arith, depth);
      }

  kept : Promised f.p image m
  kept =
      let first = first_state f made in
      let code = firmware-has-code f (word_at laid.words) (places laid.marks) m first.0 made (is_code f laid makings pages is) (is_map_in f made laid m mapped) (words-below 0 laid.words is.rise) first.1 in
      promised f.p image m code (record { names = names; rules = rules })

  is_firmware : IsFirmware f.p (written image) (map_text m)
  is_firmware = record {
    image = image;
    firmware_map = m;
    means = written_means_image image writable refl;
    writable = writable;
    is_written = refl;
    configured = refl;
    rules = rules;
    is_text = refl;
    names = names;
    reports = reports;
    lists = map-lists-rightly f.p mapped.used its m (used_placed f made laid m mapped) mapped.is_map;
    keeps = kept.keeps;
    settles = kept.settles;
  }

  is_scheduled : IsScheduled f.p (written image) (map_text m)
  is_scheduled = record {
    image = image;
    firmware_map = m;
    means = written_means_image image writable refl;
    rules = rules;
    is_text = refl;
    accounted = kept.accounted;
    responds = kept.responds;
    tied = kept.tied;
  }

  pub is_written : IsWritten f.p image m
  is_written = record {
    writable = writable;
    means = written_means_image image writable refl;
    rules = rules;
    firmware = is_firmware;
    scheduled = is_scheduled;
    reported = record { depth = mapped.is_map.depth; settle = mapped.is_map.settle };
  }

pub written-is_firmware : (f : Makings) (laid : Laid) (m : Map) → WrittenIsFirmware f laid m
written-is_firmware f laid m made spread pages named is mapped = is_written f laid m made spread pages named is mapped
