-- Facts about the tables of names.
use Rattle.std.proofs.Common.{lit<, ℕ, ◌<◌, Bool, true, false, List, [], ◌∷◌, Some, IfSome, cond}
use Rattle.std.specs.List.{AllByRecursion}
use Rattle.std.specs.Map.{lookup}
use Rattle.std.specs.Str.{bytes_eq}
use Rattle.pic_isa.specs.Names.{setup_registers, register_at}

-- What holds of each value of a table holds of what a look-up finds.
lookup_all : (P : ℕ → Type 0) (test : List ℕ → Bool) (table : List (List ℕ × ℕ)) → AllByRecursion (λ entry. P entry.1) table → IfSome (lookup test table) P
lookup_all P test [] all = tt
lookup_all P test (entry ∷ table) all = elim (test entry.0) as (λ b. IfSome (cond b (Some entry.1) (lookup test table)) P) [ true ↦ all.0 | false ↦ lookup_all P test table all.1 ]

-- What holds of each register that may be set up holds of the one of a name.
pub register_all : (P : ℕ → Type 0) (name : List ℕ) → AllByRecursion (λ entry. P entry.1) setup_registers → IfSome (register_at name) P
register_all P name all = lookup_all P (bytes_eq name) setup_registers all

-- A register that may be set up lies in bank 0 or 1.
pub register_below : (name : List ℕ) → IfSome (register_at name) (λ address. address < 256)
register_below name = register_all (λ address. address < 256) name (lit< tt, (lit< tt, (lit< tt, (lit< tt, (lit< tt, (lit< tt, (lit< tt, (lit< tt, (lit< tt, (lit< tt, (lit< tt, (lit< tt, (lit< tt, (lit< tt, (lit< tt, (lit< tt, (lit< tt, (lit< tt, (lit< tt, (lit< tt, (lit< tt, (lit< tt, (lit< tt, (lit< tt, (lit< tt, (lit< tt, (lit< tt, (lit< tt, (lit< tt, (lit< tt, (lit< tt, tt)))))))))))))))))))))))))))))))
