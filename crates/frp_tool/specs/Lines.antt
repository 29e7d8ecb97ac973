-- The lines that a command puts: the usage line, the counts of a program, the lines of an events file's faults and of a program
-- of which nothing is built, the summary.
use Rattle.std.specs.Prelude.{ℕ, List, [], ◌++◌, length, codes}
use Rattle.std.specs.Fmt.{decimal}
use Rattle.map_file.specs.declared.maps.Map.{Map}
use Rattle.frp_tree.specs.Tree.{ProgramTree}
use Rattle.firmware.specs.declared.faults.BuildFault.{BuildFault}
use Rattle.firmware.specs.declared.faults.BuildFault.TheVariants as build
use Rattle.efrp_meaning.specs.Bounds.{words_bound, ram_bound, settle_bound}
use Rattle.command_parts.specs.Lines.{named_line}

-- What is put where the words form no command.
abbrev pub usage : List ℕ
usage = codes "usage: efrp check SRC / compile SRC HEX MAP / run HEX MAP SCRIPT / model SRC EVENTS / big N HEX MAP\n"

-- What `check` puts of a program that passes: how many events, definitions and outputs it has.
abbrev pub counts_line : ProgramTree → List ℕ
counts_line p =
    codes "ok events " ++ (decimal (length p.events) ++ (codes " definitions " ++ (decimal (length p.decls)
    ++ (codes " outputs " ++ (decimal (length p.outputs) ++ codes "\n")))))

-- The line of an events file's line that states no event, and that of one with too many.
abbrev pub unknown_line : ℕ → List ℕ
unknown_line n = named_line (codes "refused: events ") (decimal n)

abbrev pub many_events_line : List ℕ
many_events_line = codes "refused: events many\n"

-- The line of a program of which nothing is built: it has an input or a table; or so many levels, bytes of RAM or words. Out of
-- memory has none.
abbrev pub build_line : BuildFault → List ℕ
build_line build.Form = codes "refused: form\n"
build_line (build.Stack n) = named_line (codes "refused: stack ") (decimal n)
build_line (build.Ram n) = named_line (codes "refused: ram ") (decimal n)
build_line (build.Code n) = named_line (codes "refused: code ") (decimal n)
build_line build.Memory = []

-- A number and its bound.
abbrev pub bounded : List ℕ → ℕ → ℕ → List ℕ
bounded front number most = front ++ (decimal number ++ (codes " of " ++ decimal most))

-- The summary of a map, with the bounds on words, RAM and settling beside its numbers.
abbrev pub summary_of : Map → ℕ → ℕ → ℕ → List ℕ
summary_of m most_words most_ram most_settle =
    bounded (codes "words ") m.words most_words ++ (bounded (codes " ram ") m.ram most_ram
    ++ (bounded (codes " depth ") m.depth 8 ++ (bounded (codes " settle ") m.settle most_settle ++ codes "\n")))

-- What `compile` puts: the map's numbers, each beside the program's bound.
abbrev pub summary : Map → ProgramTree → List ℕ
summary m p = summary_of m (words_bound p) (ram_bound p) (settle_bound p)
