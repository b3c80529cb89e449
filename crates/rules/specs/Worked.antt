-- Worked paragraphs with their levels.
use Rattle.std.specs.Prelude.{◌≡◌, ℕ, List, [], ◌∷◌}
use Rattle.rules.specs.declared.classes.Class.{Class}
use Rattle.rules.specs.declared.classes.Class.TheVariants.{L, R, AL, EN, ES, ET, AN, CS, NSM, WS}
use Rattle.rules.specs.declared.classes.Direction.{Direction}
use Rattle.rules.specs.declared.classes.Direction.TheVariants.{Left, FirstStrong}
use Rattle.rules.specs.Rules.{base_direction, base_level, levels}

-- the levels of a paragraph with this direction
abbrev pub levels_in : Direction → List Class → List ℕ
levels_in d cs = levels (base_direction d cs) cs

-- twelve paragraphs
abbrev pub Worked : Type 0
Worked =
    (base_level (base_direction FirstStrong []) ≡ 0)
    × (levels_in FirstStrong (R ∷ WS ∷ L ∷ []) ≡ 1 ∷ 1 ∷ 2 ∷ [])
    × (levels_in Left (R ∷ WS ∷ L ∷ []) ≡ 1 ∷ 0 ∷ 0 ∷ [])
    × (levels_in Left (L ∷ WS ∷ EN ∷ []) ≡ 0 ∷ 0 ∷ 0 ∷ [])
    × (levels_in Left (AL ∷ EN ∷ CS ∷ EN ∷ []) ≡ 1 ∷ 2 ∷ 2 ∷ 2 ∷ [])
    × (levels_in Left (R ∷ EN ∷ CS ∷ CS ∷ EN ∷ []) ≡ 1 ∷ 2 ∷ 1 ∷ 1 ∷ 2 ∷ [])
    × (levels_in Left (AL ∷ EN ∷ ES ∷ EN ∷ []) ≡ 1 ∷ 2 ∷ 1 ∷ 2 ∷ [])
    × (levels_in Left (R ∷ ET ∷ ET ∷ EN ∷ []) ≡ 1 ∷ 2 ∷ 2 ∷ 2 ∷ [])
    × (levels_in Left (AL ∷ ET ∷ EN ∷ []) ≡ 1 ∷ 1 ∷ 2 ∷ [])
    × (levels_in Left (R ∷ EN ∷ CS ∷ NSM ∷ EN ∷ []) ≡ 1 ∷ 2 ∷ 1 ∷ 1 ∷ 2 ∷ [])
    × (levels_in Left (NSM ∷ R ∷ []) ≡ 0 ∷ 1 ∷ [])
    × (levels_in Left (L ∷ AN ∷ EN ∷ []) ≡ 0 ∷ 2 ∷ 0 ∷ [])
