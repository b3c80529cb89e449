-- The laws of both measures. Those of contexts are computed over the numbers that parts have.
use Rattle.std.specs.Prelude.{◌≡◌, ℕ, ◌+◌, ◌≤◌, Bool, true, false, ◌&&◌, ◌||◌, T, List, [], ◌∷◌, ◌==◌, refl}
use Rattle.std.proofs.Math.Path.{subst⁻¹}
use Rattle.std.proofs.Common.{arith, eqb→eq}
use Rattle.tree.specs.Measures.{Lawful, Laws, unit, of, join}
use Rattle.rules.specs.declared.contexts.Left.{Left}
use Rattle.rules.specs.declared.contexts.Right.{Right}
use Rattle.rules.specs.Finite.{all, alike, at as at_value, every_left, at_left, every_right, at_right, fst, snd, same, classes, strongs, sides, kinds, nexts, bools, firsts}
use Rattle.bidi.specs.declared.columns.Columns.{Columns}
use Rattle.bidi.specs.declared.contexts.Contexts.{Contexts}
use Rattle.bidi.specs.Actions.{left_at, right_at, act_left, act_right}
use Rattle.bidi.specs.Joins.{left_of, right_of, strong_of, left_join, right_join, strong_join}
use Rattle.bidi.specs.Sums.{held, column_ops, context_ops}

-- sums held at their greatest
none_more : (n : ℕ) → n ≤ 4294967295 → held (0 + n) ≡ n
none_more n h = omega arith

no_more : (n : ℕ) → n ≤ 4294967295 → held (n + 0) ≡ n
no_more n h = omega arith

held_assoc : (m n k : ℕ) → held (held (m + n) + k) ≡ held (m + held (n + k))
held_assoc m n k = omega arith

-- columns
pub narrow : (a : Columns) → Lawful column_ops a → a.width ≤ 4294967295
narrow _ unit = omega arith
narrow _ (of e) = omega (arith, e.narrow)
narrow _ (join a b p q) = omega arith

pub column_laws : Laws column_ops
column_laws = record {
  left = λ a p i. record { width = none_more a.width (narrow a p) i };
  right = λ a p i. record { width = no_more a.width (narrow a p) i };
  assoc = λ a b c p q r i. record { width = held_assoc a.width b.width c.width i };
  none = refl;
  small = λ e. omega (arith, e.narrow);
  sum = λ a b p q. refl;
}

-- a test at every number of a list gives the fact at each
abbrev member : ℕ → List ℕ → Bool
member n [] = false
member n (x ∷ xs) = n == x || member n xs

split : (b c : Bool) (P : Type 0) → (T b → P) → (T c → P) → T (b || c) → P
split true c P f g t = f tt
split false c P f g t = g t

at : (f : ℕ → Bool) (xs : List ℕ) → T (all f xs) → (n : ℕ) → T (member n xs) → T (f n)
at f [] t n m = absurd m
at f (x ∷ xs) t n m =
    split (n == x) (member n xs) (T (f n))
    (λ e. subst⁻¹ (λ (k : ℕ). T (f k)) (eqb→eq n x e) (fst (f x) (all f xs) t))
    (λ u. at f xs (snd (f x) (all f xs) t) n u)
    m

at₂ : (f : ℕ → ℕ → Bool) (xs : List ℕ) → T (all (λ a. all (f a) xs) xs) → (a b : ℕ) → T (member a xs) → T (member b xs) → T (f a b)
at₂ f xs t a b p q = at (f a) xs (at (λ x. all (f x) xs) xs t a p) b q

-- the numbers that parts have
abbrev lefts : List ℕ
lefts = 0 ∷ 25 ∷ 30 ∷ 31 ∷ 41 ∷ 46 ∷ 60 ∷ 61 ∷ 62 ∷ 63 ∷ 64 ∷ 68 ∷ 73 ∷ 76 ∷ 77 ∷ 78 ∷ 79 ∷ 89 ∷ 94 ∷ 96 ∷ 100 ∷ 105 ∷ 108 ∷ 109 ∷ 110 ∷ 111 ∷ 116 ∷ 128 ∷ 148 ∷ []

abbrev rights : List ℕ
rights = 0 ∷ 3 ∷ 11 ∷ 27 ∷ 42 ∷ 43 ∷ 53 ∷ 55 ∷ 59 ∷ []

abbrev firsts_of : List ℕ
firsts_of = 0 ∷ 1 ∷ 2 ∷ 3 ∷ []

-- joining stays among them, changes nothing at 0, and is associative
record Joins (f : ℕ → ℕ → ℕ) (xs : List ℕ) : Type 0 where
  closed : (a b : ℕ) → T (member a xs) → T (member b xs) → T (member (f a b) xs)
  before : (a : ℕ) → T (member a xs) → f 0 a ≡ a
  behind : (a : ℕ) → T (member a xs) → f a 0 ≡ a
  assoc : (a b c : ℕ) → T (member a xs) → T (member b xs) → T (member c xs) → f (f a b) c ≡ f a (f b c)

abbrev neutral : (ℕ → ℕ → ℕ) → ℕ → Bool
neutral f a = f 0 a == a && f a 0 == a

abbrev associative : (ℕ → ℕ → ℕ) → ℕ → ℕ → ℕ → Bool
associative f a b c = f (f a b) c == f a (f b c)

joins : (f : ℕ → ℕ → ℕ) (xs : List ℕ)
    → T (all (λ a. all (λ b. member (f a b) xs) xs) xs)
    → T (all (neutral f) xs)
    → T (all (λ a. all (λ b. all (associative f a b) xs) xs) xs)
    → Joins f xs
joins f xs t u v = record {
  closed = at₂ (λ a b. member (f a b) xs) xs t;
  before = λ a p. eqb→eq (f 0 a) a (fst (f 0 a == a) _ (at (neutral f) xs u a p));
  behind = λ a p. eqb→eq (f a 0) a (snd (f 0 a == a) _ (at (neutral f) xs u a p));
  assoc = λ a b c p q r. eqb→eq (f (f a b) c) (f a (f b c)) (at (associative f a b) xs (at₂ (λ a b. all (associative f a b) xs) xs v a b p q) c r);
}

left_joins : Joins left_join lefts
left_joins = joins left_join lefts tt tt tt

right_joins : Joins right_join rights
right_joins = joins right_join rights tt tt tt

strong_joins : Joins strong_join firsts_of
strong_joins = joins strong_join firsts_of tt tt tt

-- lawful totals have such numbers
pub record Reached (a : Contexts) : Type 0 where
  left : T (member a.left lefts)
  right : T (member a.right rights)
  strong : T (member a.strong firsts_of)
  count : a.count ≤ 4294967295

pub reached : (a : Contexts) → Lawful context_ops a → Reached a
reached _ unit = record { left = tt; right = tt; strong = tt; count = omega arith }
reached _ (of e) = record {
  left = at_value classes (λ c. member (left_of c) lefts) tt e.class;
  right = at_value classes (λ c. member (right_of c) rights) tt e.class;
  strong = at_value classes (λ c. member (strong_of c) firsts_of) tt e.class;
  count = omega arith;
}
reached _ (join a b p q) =
    let x = reached a p in
    let y = reached b q in
    record {
      left = left_joins.closed a.left b.left x.left y.left;
      right = right_joins.closed a.right b.right x.right y.right;
      strong = strong_joins.closed a.strong b.strong x.strong y.strong;
      count = omega arith;
    }

pub context_laws : Laws context_ops
context_laws = record {
  left = λ a p. let x = reached a p in λ i. record {
    left = left_joins.before a.left x.left i;
    right = right_joins.before a.right x.right i;
    strong = strong_joins.before a.strong x.strong i;
    count = none_more a.count x.count i;
  };
  right = λ a p. let x = reached a p in λ i. record {
    left = left_joins.behind a.left x.left i;
    right = right_joins.behind a.right x.right i;
    strong = strong_joins.behind a.strong x.strong i;
    count = no_more a.count x.count i;
  };
  assoc = λ a b c p q r. let x = reached a p in let y = reached b q in let z = reached c r in λ i. record {
    left = left_joins.assoc a.left b.left c.left x.left y.left z.left i;
    right = right_joins.assoc a.right b.right c.right x.right y.right z.right i;
    strong = strong_joins.assoc a.strong b.strong c.strong x.strong y.strong z.strong i;
    count = held_assoc a.count b.count c.count i;
  };
  none = refl;
  small = λ e. omega arith;
  sum = λ a b p q. refl;
}

-- two contexts with the same fields
abbrev same_left : Left → Left → Bool
same_left l m = alike strongs l.strong m.strong && (alike sides l.side m.side && alike kinds l.kind m.kind)

left_same : (l m : Left) → T (same_left l m) → l ≡ m
left_same l m t =
    let u = snd (alike strongs l.strong m.strong) _ t in
    λ i. record {
      strong = same strongs l.strong m.strong (fst (alike strongs l.strong m.strong) _ t) i;
      side = same sides l.side m.side (fst (alike sides l.side m.side) _ u) i;
      kind = same kinds l.kind m.kind (snd (alike sides l.side m.side) _ u) i;
    }

abbrev same_right : Right → Right → Bool
same_right r s = alike nexts r.next s.next && (alike bools r.leads s.leads && alike firsts r.first s.first)

right_same : (r s : Right) → T (same_right r s) → r ≡ s
right_same r s t =
    let u = snd (alike nexts r.next s.next) _ t in
    λ i. record {
      next = same nexts r.next s.next (fst (alike nexts r.next s.next) _ t) i;
      leads = same bools r.leads s.leads (fst (alike bools r.leads s.leads) _ u) i;
      first = same firsts r.first s.first (snd (alike bools r.leads s.leads) _ u) i;
    }

-- a joining acts as the one part after the other
abbrev left_turns : ℕ → ℕ → Left → Bool
left_turns a b l = same_left (act_left (left_at (left_join a b)) l) (act_left (left_at b) (act_left (left_at a) l))

pub turn_left : (a b : Contexts) → Lawful context_ops a → Lawful context_ops b → (l : Left)
    → act_left (left_at (left_join a.left b.left)) l ≡ act_left (left_at b.left) (act_left (left_at a.left) l)
turn_left a b p q l =
    left_same _ _
    (at_left (left_turns a.left b.left) (at₂ (λ a b. every_left (left_turns a b)) lefts tt a.left b.left (reached a p).left (reached b q).left) l)

abbrev right_turns : ℕ → ℕ → Right → Bool
right_turns a b r = same_right (act_right (right_at (right_join a b)) r) (act_right (right_at a) (act_right (right_at b) r))

pub turn_right : (a b : Contexts) → Lawful context_ops a → Lawful context_ops b → (r : Right)
    → act_right (right_at (right_join a.right b.right)) r ≡ act_right (right_at a.right) (act_right (right_at b.right) r)
turn_right a b p q r =
    right_same _ _
    (at_right (right_turns a.right b.right) (at₂ (λ a b. every_right (right_turns a b)) rights tt a.right b.right (reached a p).right (reached b q).right) r)
