use Rattle.std.proofs.Common.{decimal, string_bytes}
use Rattle.listing.specs.Text.{columns_from}
use Rattle.listing.proofs.Spacing.{Spacing}
use Rattle.listing.proofs.listing.add_columns.Given as goal

abbrev pub invariant-loop-place : goal.invariant-loop-place
invariant-loop-place l = Spacing decimal (string_bytes l.initial.text) (columns_from l.levels l.items) (string_bytes l.text) l.place
