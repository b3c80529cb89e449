use Rattle.std.proofs.Common.{length, refl, ap, arith}
use Rattle.pages.proofs.Pieces.{some_left}
use Rattle.pages.proofs.parse.one.Goals as goal

pub returns-then-is_some : goal.returns-then-is_some
returns-then-is_some c = (refl, λ e. omega (arith, ap length c.in_ok-first.ensures, some_left c.in_ok-first.rest c.if-is_some.ensures))
