-- What a map of the counting program may list. Its setups are of PORTB and TRISB, and its output is on PORTB.
use Rattle.std.specs.Prelude.{ℕ, ◌<◌, true, Option, Some, None}
use Rattle.std.proofs.Common.{◌≡◌, refl, arith, subst, ap, sym, ◌∙◌}
use Rattle.pic_regs.specs.Map.{canonical}
use Rattle.firmware_promises.specs.MapNames.{is_listed}
use Rattle.firmware_promises.specs.Firmware.{ListsRightly, may_be_written}
use Rattle.promise_examples.proofs.Logs.Stories.{counting}
use Rattle.promise_examples.proofs.Logs.ReportsSides.{listing}

-- A map that lists one address lists no other.
one_alone : (a x : ℕ) → is_listed (listing a a) x ≡ true → a ≡ x
one_alone a x e = grind arith

one_is_right : (a : ℕ) → canonical a ≡ Some a → may_be_written counting a ≡ true → ListsRightly counting (listing a a)
one_is_right a c w x h e = subst (λ y. (canonical y ≡ Some y) × (may_be_written counting y ≡ true)) (one_alone a x e) (c, w)

-- General RAM, STATUS and PCL, and PORTB and TRISB may be listed.
pub ram_may : ListsRightly counting (listing 0x020 0x020)
ram_may = one_is_right 0x020 refl refl

pub shared_ram_may : ListsRightly counting (listing 0x07F 0x07F)
shared_ram_may = one_is_right 0x07F refl refl

pub last_ram_may : ListsRightly counting (listing 0x1EF 0x1EF)
last_ram_may = one_is_right 0x1EF refl refl

pub pcl_may : ListsRightly counting (listing 0x002 0x002)
pcl_may = one_is_right 0x002 refl refl

pub status_may : ListsRightly counting (listing 0x003 0x003)
status_may = one_is_right 0x003 refl refl

pub port_may : ListsRightly counting (listing 0x006 0x006)
port_may = one_is_right 0x006 refl refl

pub tris_may : ListsRightly counting (listing 0x086 0x086)
tris_may = one_is_right 0x086 refl refl

-- The address that there is, or 0.
abbrev number : Option ℕ → ℕ
number None = 0
number (Some address) = address

not_lowest : (low a : ℕ) → low < a → canonical a ≡ Some low → canonical a ≡ Some a → ⊥
not_lowest low a h e f = let same : low ≡ a = ap number (sym e ∙ f) in omega arith

-- FSR may not, nor PORTC, TRISC and T1CON, nor an address that is not the lowest of its register: 0F0h is 070h, 106h PORTB and
-- 083h STATUS.
pub fsr_may_not : ListsRightly counting (listing 0x004 0x004) → ⊥
fsr_may_not it = let e = (it 0x004 (omega arith) refl).1 in cc

pub other_port_may_not : ListsRightly counting (listing 0x007 0x007) → ⊥
other_port_may_not it = let e = (it 0x007 (omega arith) refl).1 in cc

pub other_tris_may_not : ListsRightly counting (listing 0x087 0x087) → ⊥
other_tris_may_not it = let e = (it 0x087 (omega arith) refl).1 in cc

pub timer_may_not : ListsRightly counting (listing 0x010 0x010) → ⊥
timer_may_not it = let e = (it 0x010 (omega arith) refl).1 in cc

pub second_ram_may_not : ListsRightly counting (listing 0x0F0 0x0F0) → ⊥
second_ram_may_not it = not_lowest 0x070 0x0F0 (omega arith) refl (it 0x0F0 (omega arith) refl).0

pub second_port_may_not : ListsRightly counting (listing 0x106 0x106) → ⊥
second_port_may_not it = not_lowest 0x006 0x106 (omega arith) refl (it 0x106 (omega arith) refl).0

pub second_status_may_not : ListsRightly counting (listing 0x083 0x083) → ⊥
second_status_may_not it = not_lowest 0x003 0x083 (omega arith) refl (it 0x083 (omega arith) refl).0

-- Each address of a range counts, the first and the last too: 01Fh is ADCON0, and beyond 07Fh lies INDF again.
pub first_counts : ListsRightly counting (listing 0x01F 0x06F) → ⊥
first_counts it = let e = (it 0x01F (omega arith) refl).1 in cc

pub last_counts : ListsRightly counting (listing 0x020 0x080) → ⊥
last_counts it = not_lowest 0x000 0x080 (omega arith) refl (it 0x080 (omega arith) refl).0
