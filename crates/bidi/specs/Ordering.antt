-- What ordering the places of a paragraph answers and leaves.
use Rattle.std.specs.Prelude.{ℕ, Bool, cond, List, ◌++◌, length, drop, Ok, Err, Result, nat_le}
use Rattle.rules.specs.Order.{L2}
use Rattle.bidi.specs.declared.fault.Fault.{Fault}
use Rattle.bidi.specs.declared.fault.Fault.TheVariants.{Short}

-- a place at level k or above
abbrev pub at_least : (ℕ → ℕ) → ℕ → ℕ → Bool
at_least level k p = nat_le k (level p)

-- the list has room for each place
abbrev pub order_answer : List ℕ → List ℕ → Result (Unit {0}) Fault
order_answer levels list = cond (nat_le (length levels) (length list)) (Ok tt) (Err Short)

-- the list then: the visual order, and the rest as it was; nothing is touched where it is too short
abbrev pub order_list : List ℕ → List ℕ → List ℕ
order_list levels list = cond (nat_le (length levels) (length list)) (L2 levels ++ drop (length levels) list) list
