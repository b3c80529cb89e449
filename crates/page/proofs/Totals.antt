-- The totals that a page's tree stores are right.
use mathlib.Core.Logic.{∥∥₁_elim}
use base.Stored.{Coded, Coded-set, coded_ℕ, coded×, coded_via}
use Rattle.tree.specs.Trees.{shape, TotalsRight}
use Rattle.tree.specs.declared.tree.Tree.{Tree}
use Rattle.tree.proofs.Wholes.{totalled_prop}
use Rattle.page.specs.Sums.{page_ops}
use Rattle.page.specs.declared.entry.Entry.{Entry}
use Rattle.page.specs.declared.sums.PageSums.{PageSums}
use Rattle.page.specs.declared.page.Page.{Page}

sums_coded : Coded PageSums
sums_coded = coded_via (coded× coded_ℕ coded_ℕ) (λ s. (s.lines, s.hits)) (λ x y p. λ i. record { lines = (p i).0; hits = (p i).1 })

right_prop : (t : Tree Entry PageSums) → IsProp (TotalsRight page_ops t)
unfolding TotalsRight
right_prop t = totalled_prop page_ops (Coded-set sums_coded) (shape t)

pub right : (p : Page) → TotalsRight page_ops p.tree.now
right p = ∥∥₁_elim p.totals (right_prop p.tree.now) (λ h. h)
