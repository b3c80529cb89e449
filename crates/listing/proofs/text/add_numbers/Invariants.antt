use Rattle.std.proofs.Common.{◌≡◌, ℕ, List, Some, string_bytes}
use Rattle.listing.proofs.Spacing.{Spacing}
use Rattle.listing.proofs.text.add_numbers.Given as goal

abbrev pub invariant-loop-number : goal.invariant-loop-number
invariant-loop-number g l =
    (written : _ → List ℕ) → ((n : _) → g.N.Display.output n ≡ Some (written n)) → Spacing written (string_bytes l.initial.text) l.numbers (string_bytes l.text) l.number-index
