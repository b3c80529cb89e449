-- The measure of a paragraph's tree: columns, and contexts beside them.
use Rattle.tree.specs.Measures.{Operations}
use Rattle.tree.specs.Pairs.{pair_ops}
use Rattle.tree.specs.declared.pair.Pair.{Pair}
use Rattle.bidi.specs.Sums.{column_ops, context_ops}
use Rattle.bidi.specs.declared.columns.Columns.{Columns}
use Rattle.bidi.specs.declared.contexts.Contexts.{Contexts}
use Rattle.bidi.specs.declared.item.Item.{Item}

-- joins columns and contexts side by side, and weighs as the columns
abbrev pub total_ops : Operations Item (Pair Columns Contexts)
total_ops = pair_ops column_ops context_ops
