-- First faulty lines of short texts.
use Rattle.std.proofs.Common.{◌≡◌, ◌≢◌, ℕ, List, [], ◌∷◌, ◌++◌, get_or, inr, codes, refl, sym, ap, ◌∙◌, arith}
use Rattle.std.specs.Fmt.{digits}
use Rattle.pic_isa.specs.declared.sources.Source.TheVariants as source
use Rattle.map_file.specs.declared.maps.MapEvent.{MapEvent}
use Rattle.map_file.specs.declared.maps.MapSample.{MapSample}
use Rattle.map_file.specs.declared.drafts.Draft.{Draft}
use Rattle.map_file.specs.declared.entries.Entry.TheVariants as entry
use Rattle.map_file.specs.declared.entries.Section.TheVariants as section
use Rattle.map_file.specs.Drafts.{empty_draft}
use Rattle.map_file.specs.MapText.{map_text}
use Rattle.map_file.specs.MapFaults.{IsMapText, Begins, IsWholeLine, FirstFaulty}
use Rattle.map_file.proofs.WholeLineFacts.{one_line, line_some}
use Rattle.map_file.proofs.ReadingFacts.{HasRead, read_start, read_more, not_added}
use Rattle.map_file.proofs.Examples.Texts.{empty, sample}
use Rattle.map_file.proofs.Examples.Rules.{empty_keeps_the_rules}

empty_text : List ℕ
empty_text = codes "efrp map 1\nready 0000\nreport depth 0 ram 0 words 0 settle 0\n"

the_text_of_a_map : IsMapText empty_text
unfolding digits empty_text
the_text_of_a_map = record { map = empty; rules = empty_keeps_the_rules; text = refl }

a_prefix_of_two_lines : Begins (codes "efrp map 1\nready 0000\n")
unfolding digits
a_prefix_of_two_lines = record { map = empty; rules = empty_keeps_the_rules; rest = codes "report depth 0 ram 0 words 0 settle 0\n"; text = refl }

nothing : Begins []
nothing = record { map = empty; rules = empty_keeps_the_rules; rest = map_text empty; text = refl }

-- The first line is missing.
no_byte : FirstFaulty [] 1
no_byte = record { lines = []; rest = []; cut = refl; whole = tt; number = refl; begins = nothing; refused = λ line after whole e b. line_some line after whole (sym e); no_text = λ t. cc (t.text) }

-- Another version: a map's text has 49 there.
other_version : List ℕ
other_version = codes "efrp map 2\n"

unlike : (rest after : List ℕ) → codes "efrp map 1\n" ++ rest ≢ other_version ++ after
unfolding other_version
unlike rest after e = omega (arith, ap (λ (bytes : List ℕ). get_or bytes 9 0) e)

second_version : FirstFaulty other_version 1
unfolding other_version
second_version = record {
  lines = [];
  rest = other_version;
  cut = refl;
  whole = tt;
  number = refl;
  begins = nothing;
  refused = λ line after whole e b. unlike _ b.rest (b.text ∙ go line after whole e b.rest);
  no_text = λ t. unlike _ [] (sym t.text);
}
  where
    all : IsWholeLine other_version
    all = record { body = codes "efrp map 2"; ends = refl; one = search (arith) }

    go : (line after : List ℕ) → IsWholeLine line → other_version ≡ line ++ after → (rest : List ℕ) → line ++ rest ≡ other_version ++ rest
    go line after whole e rest = ap (λ u. u ++ rest) (sym (one_line other_version line [] after all whole e).0)

-- Samples that aren't in the form at their place. The line before has been read.

abbrev head : Draft
head = record empty_draft { section = section.Events }

read_head : (rest : List ℕ) → HasRead (codes "efrp map 1\n" ++ rest) rest 2 head
read_head rest = read_more (codes "efrp map 1\n" ++ rest) (codes "efrp map 1\n" ++ rest) (codes "efrp map 1") rest 1 empty_draft head entry.Head (read_start (codes "efrp map 1\n" ++ rest)) refl refl tt (refl, refl, refl, refl)

abbrev level : MapSample
level = sample (codes "Tick") (codes "level") 0x12

-- The event that it names isn't known yet.
sample_before_its_event : FirstFaulty (codes "efrp map 1\nsample Tick level 0012\nevent Tick INT 1 open 0041 commit 1A47\n") 2
sample_before_its_event =
    let rest = codes "sample Tick level 0012\nevent Tick INT 1 open 0041 commit 1A47\n" in
    not_added (codes "efrp map 1\n" ++ rest) rest (codes "sample Tick level 0012") (codes "event Tick INT 1 open 0041 commit 1A47\n") 2 head head (entry.Sample level) (read_head rest) refl (search (arith)) (search (arith)) refl (inr refl)

-- A pair of an event and an input that an earlier line names, in a text that begins with an event and a sample.

abbrev tick : MapEvent
tick = record { name = codes "Tick"; source = source.Int; priority = 1; «open» = 0x41; commit = 0x1A47 }

abbrev ticking : Draft
ticking = record { section = section.Events; map = record empty { events = tick ∷ [] }; lowest = 0 }

abbrev leveling : Draft
leveling = record { section = section.Samples; map = record empty { events = tick ∷ []; samples = level ∷ [] }; lowest = 0 }

abbrev three_lines : List ℕ
three_lines = codes "efrp map 1\nevent Tick INT 1 open 0041 commit 1A47\nsample Tick level 0012\n"

read_tick : (rest : List ℕ) → HasRead (codes "efrp map 1\nevent Tick INT 1 open 0041 commit 1A47\n" ++ rest) rest 3 ticking
unfolding digits
read_tick rest =
    let line = codes "event Tick INT 1 open 0041 commit 1A47" in
    read_more (codes "efrp map 1\nevent Tick INT 1 open 0041 commit 1A47\n" ++ rest) (line ++ codes "\n" ++ rest) line rest 2 head ticking (entry.Event tick) (read_head (line ++ codes "\n" ++ rest)) refl refl (search (arith)) (refl, refl, refl, refl)

read_level : (rest : List ℕ) → HasRead (three_lines ++ rest) rest 4 leveling
read_level rest =
    let line = codes "sample Tick level 0012" in
    read_more (three_lines ++ rest) (line ++ codes "\n" ++ rest) line rest 3 ticking leveling (entry.Sample level) (read_tick (line ++ codes "\n" ++ rest)) refl refl (search (arith)) (refl, refl, refl, refl)

pair_named_twice : FirstFaulty (three_lines ++ codes "sample Tick level 0013\n") 4
pair_named_twice =
    let rest = codes "sample Tick level 0013\n" in
    not_added (three_lines ++ rest) rest (codes "sample Tick level 0013") [] 4 leveling leveling (entry.Sample (sample (codes "Tick") (codes "level") 0x13)) (read_level rest) refl (search (arith)) (search (arith)) refl (inr refl)
