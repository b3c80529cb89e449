-- What is answered for the column of an item.
use Rattle.std.specs.Prelude.{ℕ, cond, List, length, take, Ok, Err, Result, nat_le, nat_lt}
use Rattle.rules.specs.Order.{at, column_of}
use Rattle.bidi.specs.declared.fault.Fault.{Fault}
use Rattle.bidi.specs.declared.fault.Fault.TheVariants.{Short, Place, Level}
use Rattle.bidi.specs.declared.item.Item.{Item}
use Rattle.bidi.specs.Items.{widths}
use Rattle.bidi.specs.Sums.{held}

-- the column of an item that is there, where its level is at most 2
abbrev pub column_in : List ℕ → List ℕ → ℕ → Result ℕ Fault
column_in levels widths p = cond (nat_le (at levels p) 2) (Ok (held (column_of levels widths p))) (Err Level)

-- that, where there is a level for each item, and such an item
abbrev pub column_answer : List ℕ → List Item → ℕ → Result ℕ Fault
column_answer levels items p =
    cond (nat_le (length items) (length levels)) (cond (nat_lt p (length items)) (column_in (take (length items) levels) (widths items) p) (Err Place)) (Err Short)
