-- The totals that a paragraph's tree stores are right, so what it tells of a stretch is what the items of the stretch give.
use Rattle.std.proofs.Common.{◌≡◌, ℕ, ◌≤◌, leb, List, [], ◌∷◌, length, Ok, Err, refl, ap}
use mathlib.Core.Logic.{∥∥₁_elim}
use base.Stored.{Coded, Coded-set, coded_ℕ, coded×, coded_via}
use Rattle.std.specs.List.{between}
use Rattle.std.proofs.lemmas.Bool.{le-leb, and_from, cond-true}
use Rattle.tree.specs.Measures.{Operations, total_of}
use Rattle.tree.specs.Pairs.{pair_ops}
use Rattle.tree.specs.Plain.{fits, total_answer}
use Rattle.tree.specs.Trees.{shape, TotalsRight}
use Rattle.tree.specs.declared.pair.Pair.{Pair}
use Rattle.tree.specs.declared.tree.Tree.{Tree}
use Rattle.tree.proofs.Wholes.{totalled_prop}
use Rattle.bidi.specs.declared.columns.Columns.{Columns}
use Rattle.bidi.specs.declared.contexts.Contexts.{Contexts}
use Rattle.bidi.specs.declared.item.Item.{Item}
use Rattle.paragraph.specs.Totals.{total_ops}
use Rattle.paragraph.specs.declared.paragraph.Paragraph.{Paragraph}

total_coded : Coded (Pair Columns Contexts)
total_coded =
    coded_via (coded× coded_ℕ (coded× coded_ℕ (coded× coded_ℕ (coded× coded_ℕ coded_ℕ))))
    (λ t. (t.first.width, (t.second.left, (t.second.right, (t.second.strong, t.second.count)))))
    (λ x y p. λ i. record { first = record { width = (p i).0 }; second = record { left = (p i).1.0; right = (p i).1.1.0; strong = (p i).1.1.1.0; count = (p i).1.1.1.1 } })

right_prop : (t : Tree Item (Pair Columns Contexts)) → IsProp (TotalsRight total_ops t)
unfolding TotalsRight
right_prop t = totalled_prop total_ops (Coded-set total_coded) (shape t)

pub stored_right : (p : Paragraph) → TotalsRight total_ops p.tree.now
stored_right p = ∥∥₁_elim p.totals (right_prop p.tree.now) (λ h. h)

-- the two sides of a pair's total
pub first_total : {E A B : Type 0} (k : Operations E A) (l : Operations E B) (xs : List E) → (total_of (pair_ops k l) xs).first ≡ total_of k xs
first_total k l [] = refl
first_total k l (x ∷ xs) = ap (k.join (k.of x)) (first_total k l xs)

pub second_total : {E A B : Type 0} (k : Operations E A) (l : Operations E B) (xs : List E) → (total_of (pair_ops k l) xs).second ≡ total_of l xs
second_total k l [] = refl
second_total k l (x ∷ xs) = ap (l.join (l.of x)) (second_total k l xs)

module _ {E T : Type 0} (k : Operations E T) (xs : List E) (first end : ℕ) (h : first ≤ end) (h' : end ≤ length xs) where
  -- a stretch that is there has its total
  pub total_there : total_answer k xs first end ≡ Ok (total_of k (between first end xs))
  total_there = cond-true (fits xs first end) (Ok (total_of k (between first end xs))) (Err 3) (and_from (leb first end) (leb end (length xs)) (le-leb first end h) (le-leb end (length xs) h'))
