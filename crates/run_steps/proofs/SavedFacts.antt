-- What a run has saved stays, over arrivals and where its frame and the enables stay.
use Rattle.std.proofs.Common.{◌≡◌, ℕ, true, sym, ap, subst, ◌∙◌}
use Rattle.pic_regs.specs.declared.places.Place.{Place}
use Rattle.pic_regs.specs.declared.places.Place.TheVariants as place
use Rattle.pic_regs.specs.Bytes.{Byte}
use Rattle.pic_regs.specs.Places.{reg_of}
use Rattle.pic_regs.specs.Registers.{Registers, read}
use Rattle.pic_machine.specs.Chip.{Chip}
use Rattle.code_steps.specs.Between.{Alone}
use Rattle.firmware_parts.specs.Layout.{Layout}
use Rattle.firmware_parts.specs.Contexts.{SameEnables}
use Rattle.scratch_commit.specs.Enables.{with_enables_of}
use Rattle.scratch_commit.specs.Laws.{HasEnableBits}
use Rattle.scratch_commit.specs.Plans.{Plan, frame_in}
use Rattle.run_steps.specs.Premises.{InFrame, IsFrameIn}
use Rattle.run_steps.specs.Saved.{SavedBy, HasBank, masked_in}

-- Registers that have the enables of others, by each of them.
pub record Enabled (m s : Registers) : Type 0 where
  pub peie : m.intcon.b6 ≡ s.intcon.b6
  pub t0ie : m.intcon.b5 ≡ s.intcon.b5
  pub inte : m.intcon.b4 ≡ s.intcon.b4
  pub pie1 : m.pie1 ≡ s.pie1
  pub pie2 : m.pie2 ≡ s.pie2

pub enabled_of : (m s : Registers) → with_enables_of m s ≡ s → Enabled m s
enabled_of m s same = record {
  peie = ap (λ (r : Registers). r.intcon.b6) same;
  t0ie = ap (λ (r : Registers). r.intcon.b5) same;
  inte = ap (λ (r : Registers). r.intcon.b4) same;
  pie1 = ap (λ (r : Registers). r.pie1) same;
  pie2 = ap (λ (r : Registers). r.pie2) same;
}

pub with_enabled : (m s : Registers) → Enabled m s → with_enables_of m s ≡ s
with_enabled m s each = λ j. record s {
  intcon = record s.intcon { b6 = each.peie j; b5 = each.t0ie j; b4 = each.inte j };
  pie1 = each.pie1 j;
  pie2 = each.pie2 j;
}

-- A byte of the frame is read the same where it is the same.
pub frame_read : (l : Layout) (e : ℕ) (c d : Registers) → ((address : ℕ) → l.frame e address ≡ true → d.plain address ≡ c.plain address) → (p : Place) → InFrame l e p
    → read (reg_of p) d ≡ read (reg_of p) c
frame_read l e c d same p its =
    let at : p ≡ place.Plain its.0 = its.1 in
    ap (λ (q : Place). read (reg_of q) d) at ∙ same its.0 its.2 ∙ sym (ap (λ (q : Place). read (reg_of q) c) at)

pub saved_stays : (l : Layout) (e : ℕ) (plan : Plan) → IsFrameIn l e (frame_in plan) → (x c d : Chip) → SavedBy l plan x c → SameEnables c d
    → ((address : ℕ) → l.frame e address ≡ true → d.regs.plain address ≡ c.regs.plain address) → SavedBy l plan x d
saved_stays l e plan in_frame x c d saved same bytes =
    let each = enabled_of (masked_in plan x.regs) c.regs saved.masked in
    let reads = frame_read l e c.regs d.regs bytes in record {
      low = saved.low;
      below = saved.below;
      at = saved.at;
      usual = saved.usual;
      idle = saved.idle;
      masked = with_enabled (masked_in plan x.regs) d.regs (record {
        peie = each.peie ∙ sym same.peie;
        t0ie = each.t0ie ∙ sym same.t0ie;
        inte = each.inte ∙ sym same.inte;
        pie1 = each.pie1 ∙ sym same.pie1;
        pie2 = each.pie2 ∙ sym same.pie2;
      });
      kept = record {
        intcon = λ p is. subst (λ (y : Byte). HasEnableBits y x.regs.intcon) (sym (reads p (in_frame.intcon p is))) (saved.kept.intcon p is);
        pie1 = λ p is. reads p (in_frame.pie1 p is) ∙ saved.kept.pie1 p is;
        pie2 = λ p is. reads p (in_frame.pie2 p is) ∙ saved.kept.pie2 p is;
      };
      status = λ p is. subst (HasBank x) (sym (reads p (in_frame.status p is))) (saved.status p is);
      pclath = λ p is. reads p (in_frame.pclath p is) ∙ saved.pclath p is;
    }

-- Over arrivals all of this stays.
pub same_alone : (c d : Chip) → Alone c d → SameEnables c d
same_alone c d r = record {
  peie = ap (λ (y : Chip). y.regs.intcon.b6) r.only;
  t0ie = ap (λ (y : Chip). y.regs.intcon.b5) r.only;
  inte = ap (λ (y : Chip). y.regs.intcon.b4) r.only;
  pie1 = ap (λ (y : Chip). y.regs.pie1) r.only;
  pie2 = ap (λ (y : Chip). y.regs.pie2) r.only;
}

pub saved_alone : (l : Layout) (e : ℕ) (plan : Plan) → IsFrameIn l e (frame_in plan) → (x c d : Chip) → Alone c d → SavedBy l plan x c → SavedBy l plan x d
saved_alone l e plan in_frame x c d r saved =
    saved_stays l e plan in_frame x c d saved (same_alone c d r) (λ address its. ap (λ (y : Chip). y.regs.plain address) r.only)
