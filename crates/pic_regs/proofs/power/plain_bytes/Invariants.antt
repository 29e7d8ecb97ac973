use Rattle.std.proofs.Common.{◌≡◌, ℕ, ◌<◌, length, get_or}
use Rattle.pic_regs.specs.Bytes.{bits}
use Rattle.pic_regs.specs.Start.{plain_start}
use Rattle.pic_regs.proofs.power.plain_bytes.Given as goal

abbrev pub invariant-loop-address : goal.invariant-loop-address
invariant-loop-address l = record {
  length : length l.plain ≡ 512;
  bytes : (k : ℕ) → k < l.address → bits (get_or l.plain k 0) ≡ plain_start l.fn.start k;
}
