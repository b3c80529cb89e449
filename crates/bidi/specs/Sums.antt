-- The two measures of items: columns and contexts.
use Rattle.std.specs.Prelude.{ℕ, ◌+◌, min}
use Rattle.tree.specs.Measures.{Operations}
use Rattle.bidi.specs.declared.columns.Columns.{Columns}
use Rattle.bidi.specs.declared.contexts.Contexts.{Contexts}
use Rattle.bidi.specs.declared.item.Item.{Item}
use Rattle.bidi.specs.Joins.{left_of, right_of, strong_of, left_join, right_join, strong_join}

-- a number held at the greatest that 32 bits have
abbrev pub held : ℕ → ℕ
held n = min 4294967295 n

-- columns: the sum of widths
abbrev pub column_ops : Operations Item Columns
column_ops = record {
  unit = record { width = 0 };
  of = λ e. record { width = e.width };
  join = λ a b. record { width = held (a.width + b.width) };
  weight = λ a. a.width;
}

-- contexts: what a part does to left contexts, to right contexts, its first strong class, and how many items it has
abbrev pub context_ops : Operations Item Contexts
context_ops = record {
  unit = record { left = 0; right = 0; strong = 0; count = 0 };
  of = λ e. record { left = left_of e.class; right = right_of e.class; strong = strong_of e.class; count = 1 };
  join = λ a b. record { left = left_join a.left b.left; right = right_join a.right b.right; strong = strong_join a.strong b.strong; count = held (a.count + b.count) };
  weight = λ a. a.count;
}
