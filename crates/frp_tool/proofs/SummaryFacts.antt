-- Equal numbers have equal summaries.
use Rattle.std.proofs.Common.{◌≡◌, ℕ, ◌∙◌, ap}
use Rattle.map_file.specs.declared.maps.Map.{Map}
use Rattle.frp_tool.specs.Lines.{summary_of}

pub summary_same : (m m' : Map) (words words' ram ram' settle settle' : ℕ) → m ≡ m' → words ≡ words' → ram ≡ ram' → settle ≡ settle' → summary_of m words ram settle ≡ summary_of m' words' ram' settle'
summary_same m m' words words' ram ram' settle settle' a b c d =
    ap (λ (x : Map). summary_of x words ram settle) a ∙ ap (λ (x : ℕ). summary_of m' x ram settle) b ∙ ap (λ (x : ℕ). summary_of m' words' x settle) c ∙ ap (λ (x : ℕ). summary_of m' words' ram' x) d
