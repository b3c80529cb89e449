-- Places by the weights of single elements.
use Rattle.std.specs.Prelude.{ℕ, ◌+◌, ◌-◌, cond, List, [], ◌∷◌, nat_lt}
use Rattle.tree.specs.Measures.{Operations}

-- the weight of one element
abbrev pub weight_of : {E T : Type 0} → Operations E T → E → ℕ
weight_of k e = k.weight (k.of e)

-- the first place at which the weights so far exceed w
abbrev pub over : {E : Type 0} → (E → ℕ) → ℕ → List E → ℕ
over f w [] = 0
over f w (x ∷ xs) = cond (nat_lt w (f x)) 0 (1 + over f (w - f x) xs)
