use Rattle.std.proofs.Common.{◌≡◌, ◌<◌, ◌^◌, drop}
use Rattle.std.specs.List.{list_all}
use Rattle.text_parts.specs.Bytes.{is_digit}
use Rattle.text_parts.specs.Numbers.{value_after}
use Rattle.frp_tool.proofs.requests.seed.Given as goal

-- what is left ends in the same value, and decides whether all are digits
abbrev pub invariant-loop-digit : goal.invariant-loop-digit
invariant-loop-digit l = record {
  value : value_after 10 l.value (drop l.digit-index l.digits) ≡ value_after 10 0 l.digits;
  digits : list_all is_digit (drop l.digit-index l.digits) ≡ list_all is_digit l.digits;
  small : l.value < 10 ^ l.digit-index;
}
