use Rattle.std.proofs.Common.{◌≡◌, ◌++◌, drop}
use Rattle.code_acts.specs.Codes.{bank_after, code, place_of}
use Rattle.code_acts.proofs.emitting.instructions.Given as goal

-- the code so far, with that of the acts that are left, is the whole; and so is the bank behind it
abbrev pub invariant-loop-act : goal.invariant-loop-act
invariant-loop-act l = record {
  code : l.code ++ code (place_of l.places) l.now (drop l.act-index l.acts) ≡ code (place_of l.places) l.fn.bank l.acts;
  bank : bank_after (place_of l.places) l.now (drop l.act-index l.acts) ≡ bank_after (place_of l.places) l.fn.bank l.acts;
}
