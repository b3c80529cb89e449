-- Two measures of one element type, side by side.
use Rattle.std.specs.Prelude.{◌≡◌}
use Rattle.tree.specs.Measures.{Operations, Lawful, Laws, unit, of, join}
use Rattle.tree.specs.declared.pair.Pair.{Pair}

-- joins side by side, and weighs as its first
abbrev pub pair_ops : {E A B : Type 0} → Operations E A → Operations E B → Operations E (Pair A B)
pair_ops k l = record {
  unit = record { first = k.unit; second = l.unit };
  of = λ e. record { first = k.of e; second = l.of e };
  join = λ x y. record { first = k.join x.first y.first; second = l.join x.second y.second };
  weight = λ x. k.weight x.first;
}

same : {A B : Type 0} {a a' : A} {b b' : B} → a ≡ a' → b ≡ b' → ◌≡◌ {A = Pair A B} (record { first = a; second = b }) (record { first = a'; second = b' })
same p q = λ i. record { first = p i; second = q i }

module _ {E A B : Type 0} (k : Operations E A) (l : Operations E B) where
  pub first_lawful : (x : Pair A B) → Lawful (pair_ops k l) x → Lawful k x.first
  first_lawful _ unit = unit
  first_lawful _ (of e) = of e
  first_lawful _ (join a b p q) = join a.first b.first (first_lawful a p) (first_lawful b q)

  pub second_lawful : (x : Pair A B) → Lawful (pair_ops k l) x → Lawful l x.second
  second_lawful _ unit = unit
  second_lawful _ (of e) = of e
  second_lawful _ (join a b p q) = join a.second b.second (second_lawful a p) (second_lawful b q)

  -- a pair is lawful where both its measures are
  pub pair_laws : Laws k → Laws l → Laws (pair_ops k l)
  pair_laws h h' = record {
    left = λ x p. same (h.left _ (first_lawful x p)) (h'.left _ (second_lawful x p));
    right = λ x p. same (h.right _ (first_lawful x p)) (h'.right _ (second_lawful x p));
    assoc = λ x y z p q r. same (h.assoc _ _ _ (first_lawful x p) (first_lawful y q) (first_lawful z r)) (h'.assoc _ _ _ (second_lawful x p) (second_lawful y q) (second_lawful z r));
    none = h.none;
    small = h.small;
    sum = λ x y p q. h.sum _ _ (first_lawful x p) (first_lawful y q);
  }
