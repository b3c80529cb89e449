use Rattle.std.proofs.Common.{[]}
use Rattle.rules.proofs.AlongOrder.{items_stay}
use Rattle.rules.proofs.LowestOdd.{lowest_odd}
use Rattle.rules.proofs.Reversing.{turned_all, cut_at}
use Rattle.rules.proofs.TwoReversals.{two_reversals}
use Rattle.rules.proofs.claims.order_laws_stand.Goals as goal

pub returns : goal.returns
returns c = record {
  reversal = λ level k. (λ ps h. turned_all level k ps [] h, cut_at level k);
  items = items_stay;
  odd = lowest_odd;
  two = two_reversals;
}
