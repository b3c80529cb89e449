-- What ordering a whole paragraph answers, case by case, and what the two buffers then hold.
use Rattle.std.proofs.Common.{◌≡◌, ℕ, ◌<◌, ◌≤◌, ltb, List, length, Ok, Err, sym, ap, ◌∙◌}
use Rattle.std.proofs.lemmas.Bool.{lt-ltb, le-ltb, cond-true, cond-false}
use Rattle.tree.specs.Plain.{accepted}
use Rattle.rules.specs.Order.{L2}
use Rattle.paragraph.specs.Faults.{plain}
use Rattle.paragraph.specs.Ordering.{order_answer, overwritten, ordered, levelled}

module _ (levels list scratch : List ℕ) where
  pub order_short : length list < length levels → (Err (plain 15) ≡ order_answer (length levels) (length list) (length scratch)) × (list ≡ ordered levels list scratch) × (scratch ≡ levelled levels list scratch)
  order_short h =
      let a = sym (cond-true (ltb (length list) (length levels)) (Err (plain 15)) _ (lt-ltb (length list) (length levels) h)) in
      (a, ap (λ r. accepted r (overwritten (length levels) (L2 levels) list) list) a, ap (λ r. accepted r (overwritten (length levels) levels scratch) scratch) a)

  module _ (h : length levels ≤ length list) where
    pub order_no_scratch : length scratch < length levels → (Err (plain 16) ≡ order_answer (length levels) (length list) (length scratch)) × (list ≡ ordered levels list scratch) × (scratch ≡ levelled levels list scratch)
    order_no_scratch k =
        let a = sym (cond-false (ltb (length list) (length levels)) (Err (plain 15)) _ (le-ltb (length list) (length levels) h) ∙ cond-true (ltb (length scratch) (length levels)) (Err (plain 16)) (Ok tt) (lt-ltb (length scratch) (length levels) k)) in
        (a, ap (λ r. accepted r (overwritten (length levels) (L2 levels) list) list) a, ap (λ r. accepted r (overwritten (length levels) levels scratch) scratch) a)

    pub order_done : length levels ≤ length scratch → (Ok tt ≡ order_answer (length levels) (length list) (length scratch)) × (overwritten (length levels) (L2 levels) list ≡ ordered levels list scratch) × (overwritten (length levels) levels scratch ≡ levelled levels list scratch)
    order_done k =
        let a = sym (cond-false (ltb (length list) (length levels)) (Err (plain 15)) _ (le-ltb (length list) (length levels) h) ∙ cond-false (ltb (length scratch) (length levels)) (Err (plain 16)) (Ok tt) (le-ltb (length scratch) (length levels) k)) in
        (a, ap (λ r. accepted r (overwritten (length levels) (L2 levels) list) list) a, ap (λ r. accepted r (overwritten (length levels) levels scratch) scratch) a)
