-- The visual order of a whole paragraph in the caller's list, and its levels in the caller's bytes.
use Rattle.std.specs.Prelude.{ℕ, cond, List, ◌++◌, length, drop, Ok, Err, Result, nat_lt}
use Rattle.tree.specs.Plain.{accepted}
use Rattle.rules.specs.Order.{L2}
use Rattle.paragraph.specs.Faults.{Refusal, plain}

-- both have room for each of n items; the list is looked at first
abbrev pub order_answer : ℕ → ℕ → ℕ → Result (Unit {0}) Refusal
order_answer n list scratch = cond (nat_lt list n) (Err (plain 15)) (cond (nat_lt scratch n) (Err (plain 16)) (Ok tt))

-- a buffer with n values written at its front, and as it was behind them
abbrev pub overwritten : ℕ → List ℕ → List ℕ → List ℕ
overwritten n values buffer = values ++ drop n buffer

-- the list then: the places in visual order
abbrev pub ordered : List ℕ → List ℕ → List ℕ → List ℕ
ordered levels list scratch = accepted (order_answer (length levels) (length list) (length scratch)) (overwritten (length levels) (L2 levels) list) list

-- the scratch then: the levels
abbrev pub levelled : List ℕ → List ℕ → List ℕ → List ℕ
levelled levels list scratch = accepted (order_answer (length levels) (length list) (length scratch)) (overwritten (length levels) levels scratch) scratch
