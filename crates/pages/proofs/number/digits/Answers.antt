use Rattle.std.proofs.Common.{arith, rules}
use Rattle.pages.proofs.Digits.{room}
use Rattle.pages.proofs.number.digits.Goals as goal

pub overflow_mul-n : goal.overflow_mul-n
overflow_mul-n c = let h = room _ _ c.loop-b.invariant.1 (omega arith) in search rules

pub overflow_add-n : goal.overflow_add-n
overflow_add-n c = let h = room _ _ c.loop-b.invariant.1 (omega arith) in search rules
