use Rattle.std.proofs.Common.{◌++◌, map, string_bytes, sym, ap, subst, ◌∙◌}
use Rattle.std.specs.List.{AllByRecursion}
use Rattle.wave_text.specs.Signals.{HasPlace, level_in, next}
use Rattle.wave_text.specs.Waves.{moment}
use Rattle.wave_text.proofs.DrawFacts.{drawn-more}
use Rattle.wave_text.proofs.waves.Wave.draw.Goals as goal

pub next_signals-requires : goal.next_signals-requires
next_signals-requires c = subst (AllByRecursion HasPlace) (sym c.as_slice.ensures.value) c.requires

pub write_changes-requires : goal.write_changes-requires
write_changes-requires c = rw (c.as_slice-3.ensures.value, c.as_slice-4.ensures.value, c.in_ok-now.ensures.same, c.as_slice.ensures.value)

pub returns : goal.returns
returns c = λ m log n k at end seen chip so.
    drawn-more m log n k c.args.time c.args.last (string_bytes c.write_level_change.new.text) c.args.self.now _ at end
    (c.in_ok-now.ensures.is (log k) seen chip ∙ ap (map (next (log k))) c.as_slice.ensures.value) (c.level_in-level.ensures ∙ ap level_in c.as_slice-2.ensures.value)
    (c.in_ok-write_level_change.ensures ∙ rw (c.in_ok-write_changes.ensures, c.new-changes.ensures.bytes, c.as_slice-3.ensures.value, c.as_slice-4.ensures.value))
    (c.in_ok-write_moment.ensures ∙ ap (λ ch. string_bytes c.args.self.now.text ++ moment c.args.last c.args.time ch) c.as_str.ensures.value) so
