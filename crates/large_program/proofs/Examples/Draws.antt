-- Draws, definitions and arrivals of the numbers 0, 7 and 4294967295. The values were computed from the rule by a script in
-- another language.
use Rattle.std.specs.Prelude.{◌≡◌, true, false, codes, refl, ◌∷◌, []}
use Rattle.std.specs.Fmt.{digits}
use Rattle.frp_tree.specs.declared.syntax.Lit.TheVariants as lit
use Rattle.frp_tree.specs.declared.syntax.Ty.TheVariants as ty
use Rattle.frp_tree.specs.declared.syntax.BinOp.TheVariants.{Add, BitXor, Lt}
use Rattle.frp_tree.specs.Tree.{Binary, Const, If, Name, Reactive}
use Rattle.large_program.specs.Draws.{after_draws, draw, next}
use Rattle.large_program.specs.LargePrograms.{nth_definition}
use Rattle.large_program.specs.Arrivals.{arrivals_below, boundary_of}

number_after_0 : next 0 ≡ 1013904223
number_after_0 = refl

number_after_7 : next 7 ≡ 1025555898
number_after_7 = refl

-- The number wraps.
number_after_the_greatest : next 4294967295 ≡ 1012239698
number_after_the_greatest = refl

first_draw_of_7 : draw 7 1 11 ≡ 6
unfolding after_draws
first_draw_of_7 = refl

first_draw_of_the_greatest : draw 4294967295 1 11 ≡ 1
unfolding after_draws
first_draw_of_the_greatest = refl

-- v0 of 7, and its v1, whose second clause compares.
first_of_7 : nth_definition 7 0 ≡ record {
  name = codes "v0";
  ty = ty.U8;
  behaviour = Reactive (lit.Plain 0) (
      record { event = codes "E6"; expr = Binary Add (Name (codes "v0")) (Const (lit.Plain 150)); later = true }
      ∷ record { event = codes "E2"; expr = Binary Add (Name (codes "v0")) (Const (lit.Plain 57)); later = false } ∷ []);
}
unfolding after_draws digits
first_of_7 = refl

second_of_7 : nth_definition 7 1 ≡ record {
  name = codes "v1";
  ty = ty.U16;
  behaviour = Reactive (lit.Wide 1) (
      record { event = codes "E8"; expr = Binary BitXor (Name (codes "v1")) (Name (codes "v1")); later = false }
      ∷ record { event = codes "E1"; expr = If (Binary Lt (Name (codes "v1")) (Const (lit.Wide 51))) (Name (codes "v1")) (Const (lit.Wide 51)); later = false } ∷ []);
}
unfolding after_draws digits
second_of_7 = refl

-- The first three arrivals of 7: the first draws its source alone, and each later one its boundary and then its source.
first_arrivals_of_7 : arrivals_below 7 3 ≡ record { at = 1000; source = 7 } ∷ record { at = 1203; source = 1 } ∷ record { at = 1676; source = 8 } ∷ []
unfolding after_draws boundary_of
first_arrivals_of_7 = refl
