use Rattle.std.proofs.Common.{◌≡◌, ◌^◌, ◌<◌, drop}
use Rattle.pages.specs.Numbers.{read_on}
use Rattle.pages.proofs.number.digits.Given as goal

abbrev pub invariant-loop-b : goal.invariant-loop-b
invariant-loop-b l = (read_on l.n (drop l.b-index l.bytes) ≡ read_on 0 l.bytes) × (l.n < 10 ^ l.b-index)
