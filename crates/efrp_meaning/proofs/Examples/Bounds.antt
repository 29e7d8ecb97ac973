-- The bounds of small programs, as numbers.
use Rattle.std.specs.Prelude.{◌≡◌, codes, refl}
use Rattle.efrp_meaning.specs.Bounds.{off, boot, body, scratch_bytes, table_words, words_bound, ram_bound, response, settle_bound}
use Rattle.efrp_meaning.proofs.Examples.Programs.{counter, division, two_counters, three_priorities, motor, greatest_level, sampled_division, wave, low, high, tick}

pub counter_off : off counter ≡ 108
counter_off = refl

pub counter_boot : boot counter ≡ 56
counter_boot = refl

pub counter_body : body counter tick ≡ 32
counter_body = refl

pub counter_response : response counter tick ≡ 356
counter_response = refl

pub counter_words : words_bound counter ≡ 308
counter_words = refl

pub counter_ram : ram_bound counter ≡ 11
counter_ram = refl

pub counter_settle : settle_bound counter ≡ 586
counter_settle = refl

pub division_off : off division ≡ 136
division_off = refl

pub division_body_low : body division low ≡ 820
division_body_low = refl

pub division_body_high : body division high ≡ 68
division_body_high = refl

pub division_response_low : response division low ≡ 1228
division_response_low = refl

pub division_words : words_bound division ≡ 1352
division_words = refl

pub division_ram : ram_bound division ≡ 22
division_ram = refl

pub division_settle : settle_bound division ≡ 3818
division_settle = refl

pub motor_off : off motor ≡ 186
motor_off = refl

pub motor_boot : boot motor ≡ 88
motor_boot = refl

pub motor_body_slow : body motor (codes "Slow") ≡ 424
motor_body_slow = refl

pub motor_body_tick : body motor tick ≡ 204
motor_body_tick = refl

pub motor_body_up : body motor (codes "Up") ≡ 266
motor_body_up = refl

pub motor_words : words_bound motor ≡ 2056
motor_words = refl

pub motor_ram : ram_bound motor ≡ 56
motor_ram = refl

pub motor_settle : settle_bound motor ≡ 6546
motor_settle = refl

pub motor_body_down : body motor (codes "Down") ≡ 266
motor_body_down = refl

pub two_counters_off : off two_counters ≡ 124
two_counters_off = refl

pub two_counters_body_low : body two_counters low ≡ 26
two_counters_body_low = refl

pub two_counters_body_high : body two_counters high ≡ 26
two_counters_body_high = refl

pub two_counters_settle : settle_bound two_counters ≡ 1206
two_counters_settle = refl

pub three_priorities_settle : settle_bound three_priorities ≡ 16910
three_priorities_settle = refl

-- An input weighs 6 and has a byte of scratch where an event needs it.
pub greatest_level_body : body greatest_level tick ≡ 84
greatest_level_body = refl

pub greatest_level_scratch : scratch_bytes greatest_level tick ≡ 8
greatest_level_scratch = refl

pub greatest_level_words : words_bound greatest_level ≡ 360
greatest_level_words = refl

pub greatest_level_ram : ram_bound greatest_level ≡ 15
greatest_level_ram = refl

pub greatest_level_settle : settle_bound greatest_level ≡ 742
greatest_level_settle = refl

pub sampled_division_body_high : body sampled_division high ≡ 68
sampled_division_body_high = refl

pub sampled_division_scratch_high : scratch_bytes sampled_division high ≡ 6
sampled_division_scratch_high = refl

-- 820 as without the input, and 48 for the sum, 12 for the conversion, 6 for the name and 6 for the input.
pub sampled_division_body_low : body sampled_division low ≡ 892
sampled_division_body_low = refl

-- A table has a word for each byte of an entry, and 16 more for each byte.
pub wave_body : body wave tick ≡ 72
wave_body = refl

pub wave_tables : table_words wave ≡ 21
wave_tables = refl

pub wave_words : words_bound wave ≡ 369
wave_words = refl

pub wave_ram : ram_bound wave ≡ 12
wave_ram = refl

pub wave_settle : settle_bound wave ≡ 706
wave_settle = refl
