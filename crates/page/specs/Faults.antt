-- The refusals of a page.
use Rattle.std.specs.Prelude.{ℕ}
use Rattle.tree.specs.Plain as tree
use Rattle.page.specs.declared.fault.PageFault.{PageFault}
use Rattle.page.specs.declared.fault.PageFault.TheVariants.{Lines, Tree}

-- the number of each refusal
abbrev pub number : PageFault → ℕ
number Lines = 31
number (Tree f) = tree.number f
