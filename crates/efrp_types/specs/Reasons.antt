-- The fault that a reason tells of a name; and which operators give a bool.
use Rattle.std.specs.Prelude.{ℕ, Bool, true, false, List}
use Rattle.frp_tree.specs.declared.syntax.BinOp.{BinOp}
use Rattle.frp_tree.specs.declared.syntax.BinOp.TheVariants.{Or, And, Eq, Ne, Lt, Le, Gt, Ge, BitOr, BitXor, BitAnd, Add, Sub, Mul, Div, Rem}
use Rattle.efrp_types.specs.declared.reasons.Reason.{Reason}
use Rattle.efrp_types.specs.declared.reasons.Reason.TheVariants as reason
use Rattle.efrp_types.specs.declared.faults.CheckFault.{CheckFault}
use Rattle.efrp_types.specs.declared.faults.CheckFault.TheVariants.{Twice, UnknownSource, SourceTwice, BadPriority, BadRegister, OutputTwice, UnknownEvent, UnknownName, TableUse, LiteralRange, BadShift, TypeOf}

abbrev pub fault_of : Reason → List ℕ → CheckFault
fault_of reason.Twice name = Twice name
fault_of reason.UnknownSource name = UnknownSource name
fault_of reason.SourceTwice name = SourceTwice name
fault_of (reason.BadPriority n) name = BadPriority name n
fault_of reason.BadRegister name = BadRegister name
fault_of reason.OutputTwice name = OutputTwice name
fault_of reason.UnknownEvent name = UnknownEvent name
fault_of reason.UnknownName name = UnknownName name
fault_of reason.TableUse name = TableUse name
fault_of reason.LiteralRange name = LiteralRange name
fault_of reason.BadShift name = BadShift name
fault_of (reason.TypeOf wanted found) name = TypeOf name wanted found

abbrev pub gives_bool : BinOp → Bool
gives_bool Or = true
gives_bool And = true
gives_bool Eq = true
gives_bool Ne = true
gives_bool Lt = true
gives_bool Le = true
gives_bool Gt = true
gives_bool Ge = true
gives_bool BitOr = false
gives_bool BitXor = false
gives_bool BitAnd = false
gives_bool Add = false
gives_bool Sub = false
gives_bool Mul = false
gives_bool Div = false
gives_bool Rem = false
