use Rattle.std.proofs.Common.{◌≡◌, ◌<◌, List, ℕ, ◌++◌, append_assoc}
use Rattle.std.proofs.lemmas.List.Elements.{All-drop}
use Rattle.hex_file.proofs.writer.push_data.Goals as goal

-- What is written goes over from what is left to the text.
moved : (new old prefix behind left all : List ℕ) → new ≡ old ++ prefix → left ≡ prefix ++ behind → old ++ left ≡ all → new ++ behind ≡ all
moved new old prefix behind left all text parts before = cc (append_assoc old prefix behind)

pub loop-rest-preserved : goal.loop-rest-preserved
loop-rest-preserved c =
    let loop = c.loop-rest in
    let text = rw c.split_at.ensures.front at c.in_ok-push_words.ensures in
    record {
      low = rw c.split_at.ensures.back (All-drop (λ w. w.address < 8192) c.record_len.result loop.rest.now loop.invariant.low);
      written = rw c.split_at.ensures.back (moved _ _ _ _ _ _ text c.record_len.ensures.records loop.invariant.written);
    }
