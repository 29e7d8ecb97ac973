-- The code of a program that can be built: it can be laid out, it has few words, and what is laid out of it is firmware.
use Rattle.std.proofs.Common.{◌≡◌, ℕ, ◌<◌, ◌≤◌, ◌^◌, ◌⊎◌, inl, inr, nat_lt, Some, List, [], length, sym, ap, subst, ◌∙◌}
use Rattle.std.specs.List.{AllByRecursion}
use Rattle.efrp_meaning.specs.Bounds.{words_bound}
use Rattle.pic_isa.specs.declared.sources.Source.{Source}
use Rattle.hex_file.specs.declared.images.Aside.{Aside}
use Rattle.hex_file.specs.declared.images.Image.{Image}
use Rattle.map_file.specs.declared.maps.Map.{Map}
use Rattle.bank_alloc.specs.Needs.{bytes_of}
use Rattle.code_items.specs.declared.items.Item.{Item}
use Rattle.code_items.specs.Items.{ItemFits, OnceEach, has_pages, words_in}
use Rattle.glue_parts.specs.declared.spread.Spread.{Spread}
use Rattle.page_layout.specs.declared.laid.Laid.{Laid}
use Rattle.isr_vector.specs.Taking.{AreSources}
use Rattle.firmware_layout.specs.declared.code.Parts.{Parts}
use Rattle.firmware_layout.specs.Codes.{makings_of, program_in}
use Rattle.firmware_layout.specs.Made.{IsMade, IsSpread}
use Rattle.firmware_layout.specs.Pieces.{Makings, items_of}
use Rattle.firmware_words.specs.Laws.{CanBeLaid}
use Rattle.firmware_words.proofs.WordLaws.{code-can-be-laid, words-are-bounded}
use Rattle.firmware_written.specs.Written.{IsLaidOut, IsMapped, IsWritten, image_of}
use Rattle.firmware_written.proofs.FirmwareLaws.{written-is_firmware}
use Rattle.firmware.specs.declared.build.Built.{Built}
use Rattle.firmware.specs.declared.faults.BuildFault.{BuildFault}
use Rattle.firmware.specs.Builds.{IsBuildFault, IsBuilt}
use Rattle.firmware.specs.Making.{AreMade, IsCodeFault, IsFault}
use Rattle.firmware.proofs.MadeFacts.{is_made, source_in, sources_are}

-- What firmware is made of, with the sources that the levels keep.
abbrev pub made_of_parts : Parts → Spread → Makings
made_of_parts parts spread = makings_of parts spread (source_in parts)

-- The code of the parts, and how far it is spread.
pub record IsCodeFor (parts : Parts) (spread : Spread) (items : List Item) : Type 0 where
  pub made : IsMade (made_of_parts parts spread)
  pub items_are : items ≡ items_of (made_of_parts parts spread)
  pub pages : spread.pages ≡ has_pages items
  pub spread_is : IsSpread (made_of_parts parts spread)

pub is_code_for : (parts : Parts) (spread : Spread) (items : List Item) → AreMade parts
    → ((source : ℕ → Source) → AreSources (program_in parts) source → items ≡ items_of (makings_of parts spread source))
    → spread.pages ≡ has_pages items → spread.banks ≡ nat_lt 80 (bytes_of parts.places.now.need)
    → ((source : ℕ → Source) → AreSources (program_in parts) source → IsSpread (makings_of parts spread source))
    → IsCodeFor parts spread items
is_code_for parts spread items made are pages banks spreads =
    let sources = sources_are parts made in
    record {
      made = is_made parts made spread (source_in parts) sources banks;
      items_are = are (source_in parts) sources;
      pages = pages;
      spread_is = spreads (source_in parts) sources;
    }

module _ (parts : Parts) (spread : Spread) (items : List Item) (its : IsCodeFor parts spread items) where
  can_be_laid : CanBeLaid (made_of_parts parts spread)
  can_be_laid = code-can-be-laid (made_of_parts parts spread) its.made

  pub few_items : length items < 2 ^ 29
  few_items = subst (λ is. length is < 2 ^ 29) (sym its.items_are) can_be_laid.few

  pub items_fit : AllByRecursion ItemFits items
  items_fit = subst (AllByRecursion ItemFits) (sym its.items_are) can_be_laid.fit

  pub marks_once : OnceEach items
  marks_once = subst OnceEach (sym its.items_are) can_be_laid.once

  words_bounded : words_in (has_pages items) items ≤ words_bound (program_in parts)
  words_bounded =
      let bound = words-are-bounded (made_of_parts parts spread) its.made its.spread_is in
      subst (λ is. words_in (has_pages items) is ≤ words_bound (program_in parts)) (sym its.items_are)
      (subst (λ pages. words_in pages (items_of (made_of_parts parts spread)) ≤ words_bound (program_in parts)) its.pages bound)

  -- A fault of the code is one of the program.
  pub is_fault : (fault : BuildFault) → AreMade parts → IsCodeFault items fault → IsFault (program_in parts) fault
  is_fault fault made (inl memory) = inl memory
  is_fault fault made (inr many) = inr (subst (IsBuildFault (program_in parts)) (sym many.0) (made.buildable, many.1, words_bounded))

  -- What is laid out of it, with its map, is built of the program.
  pub is_built : (laid : Laid) (m : Map) (aside : List Aside) → AreMade parts → IsLaidOut (made_of_parts parts spread) laid
      → IsMapped (made_of_parts parts spread) laid m → aside ≡ []
      → IsBuilt (program_in parts) (record { image = record { words = laid.words; config = Some 0x3F3A; aside = aside }; map = m })
  is_built laid m aside made laid_out mapped none =
      let f = made_of_parts parts spread in
      let written : IsWritten (program_in parts) (image_of laid) m =
      written-is_firmware f laid m its.made its.spread_is (its.pages ∙ ap has_pages its.items_are) made.names laid_out mapped in
      let built : IsBuilt (program_in parts) (record { image = image_of laid; map = m }) = record {
        writable = written.writable;
        means = written.means;
        rules = written.rules;
        firmware = written.firmware;
        scheduled = written.scheduled;
        reported = written.reported;
        buildable = made.buildable;
      } in
      subst (λ (bytes : List Aside). IsBuilt (program_in parts) (record { image = record { words = laid.words; config = Some 0x3F3A; aside = bytes }; map = m })) (sym none) built
