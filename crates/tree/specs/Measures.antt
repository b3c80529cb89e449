-- What a measure is: how the elements of a list are summed up in one total.
use Rattle.std.specs.Prelude.{◌≡◌, ℕ, ◌+◌, ◌≤◌, min, List, [], ◌∷◌}

-- the four operations by which totals in T sum up elements of E
pub record Operations (E T : Type 0) : Type 0 where
  pub unit : T
  pub of : E → T
  pub join : T → T → T
  pub weight : T → ℕ

-- the lawful totals: the unit, the total of an element, and what joins two lawful ones
pub data Lawful {E T : Type 0} (k : Operations E T) : T → Type 0 where
  unit : Lawful k k.unit
  of : (e : E) → Lawful k (k.of e)
  join : (a b : T) → Lawful k a → Lawful k b → Lawful k (k.join a b)

-- the laws of a measure, over lawful totals
pub record Laws {E T : Type 0} (k : Operations E T) : Type 0 where
  pub left : (a : T) → Lawful k a → k.join k.unit a ≡ a
  pub right : (a : T) → Lawful k a → k.join a k.unit ≡ a
  pub assoc : (a b c : T) → Lawful k a → Lawful k b → Lawful k c → k.join (k.join a b) c ≡ k.join a (k.join b c)
  pub none : k.weight k.unit ≡ 0
  pub small : (e : E) → k.weight (k.of e) ≤ 65535
  pub sum : (a b : T) → Lawful k a → Lawful k b → k.weight (k.join a b) ≡ min 4294967295 (k.weight a + k.weight b)

-- the total of a list: the totals of its elements, joined first to last
abbrev pub total_of : {E T : Type 0} → Operations E T → List E → T
total_of k [] = k.unit
total_of k (x ∷ xs) = k.join (k.of x) (total_of k xs)
