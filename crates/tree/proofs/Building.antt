-- A part built from its two halves.
use Rattle.std.proofs.Common.{◌≡◌, ℕ, zero, suc, ◌+◌, ◌-◌, ◌/◌, ◌^◌, ◌<◌, ◌≤◌, List, [], ◌∷◌, ◌++◌, length, take, drop, Some, None, Option, sym, refl, ap, ◌∙◌, ap₂, ⊎_elim, arith, pow_pos, pow_mono}
use native.Mathlib.Nat.{pow-succ'}
use Rattle.std.specs.List.{slice_get, between}
use Rattle.std.proofs.lemmas.List.{length-take-le}
use Rattle.std.proofs.lemmas.Bool.{cases_lt}
use Rattle.tree.specs.Building.{Even, Built}
use Rattle.tree.specs.Measures.{Operations}
use Rattle.tree.specs.Shapes.{Shape, leaf, node, tall, size, elements, uses, one}
use Rattle.tree.specs.Surgery.{joined, Split, Becomes}
use Rattle.tree.specs.declared.row.Row.{Row}
use Rattle.tree.proofs.Held.{tall_size}
use Rattle.tree.proofs.Stretches.{between_none, between_left, between_both}
use Rattle.tree.proofs.Writing.{one_here, one_else, spared, after}

-- a lower power has a lower exponent
pow_less : (i j : ℕ) → 2 ^ i < 2 ^ j → i < j
pow_less i j h = ⊎_elim (λ (l : i < j). l) (λ (l : j ≤ i). let b = pow_mono l in absurd (omega arith)) (cases_lt i j)

module _ {E T : Type 0} where
  pub even_leaf : Even {E = E} {T = T} leaf
  even_leaf = record { balance = tt; high = omega arith; low = λ h. absurd (omega arith) }

  -- of two even parts the smaller is no higher, and one that is larger by one is higher by one at most
  lower : (a b : Shape E T) → Even a → Even b → size b ≤ size a → tall b ≤ tall a
  lower a b u v h =
      ⊎_elim
      (λ (l : 0 < size b).
      let x = v.low l in
      let y = u.high in
      let z = pow-succ' 2 (tall a) in
      let w = pow_less (tall b) (suc (tall a)) (omega arith) in
      omega arith)
      (λ (l : size b ≤ 0). let t = tall_size b in omega arith)
      (cases_lt 0 (size b))

  higher : (a b : Shape E T) → Even a → Even b → size a ≤ size b + 1 → tall a ≤ tall b + 1
  higher a b u v h =
      ⊎_elim
      (λ (l : 0 < size a).
      let x = u.low l in
      let y = v.high in
      let z = pow-succ' 2 (tall b) in
      let p = pow_pos (suc (tall b)) in
      let q = pow-succ' 2 (suc (tall b)) in
      let w = pow_less (tall a) (suc (suc (tall b))) (omega arith) in
      omega arith)
      (λ (l : size a ≤ 0). let t = tall_size a in omega arith)
      (cases_lt 0 (size a))

  pub even_node : (a : Shape E T) (i : ℕ) (e : E) (t : T) (b : Shape E T) → Even a → Even b → size b ≤ size a → size a ≤ size b + 1 → Even (node a i e t b)
  even_node a i e t b u v h h' =
      let le = lower a b u v h in
      let ge = higher a b u v h' in
      let top : tall (node a i e t b) ≡ suc (tall a) = omega arith in
      let two = ap (λ n. 2 ^ n) top ∙ pow-succ' 2 (tall a) in
      let x = u.high in
      record {
        balance = (ge, omega arith, u.balance, v.balance);
        high = omega arith;
        low = λ _. ⊎_elim
            (λ (l : 0 < size a). let y = u.low l in omega arith)
            (λ (l : size a ≤ 0).
            let f = tall_size a in
            let z : tall a ≡ 0 = omega arith in
            let y = ap (λ n. 2 ^ n) z in
            omega arith)
            (cases_lt 0 (size a));
      }

nth_cut : {E : Type 0} (xs : List E) (m : ℕ) (x : E) → slice_get xs m ≡ Some x → xs ≡ take m xs ++ (x ∷ drop (suc m) xs)
nth_cut [] m x h = let z : ◌≡◌ {A = ℕ} 0 1 = cc in absurd (omega arith)
nth_cut (y ∷ ys) zero x h = let e : y ≡ x = cc in ap (λ z. z ∷ ys) e
nth_cut (y ∷ ys) (suc m) x h = ap (λ l. y ∷ l) (nth_cut ys m x h)

-- a stretch cut at a place of it
between_cut : {E : Type 0} (xs : List E) (first m end : ℕ) (x : E) → first ≤ m → m < end → end ≤ length xs → slice_get xs m ≡ Some x → between first m xs ++ (x ∷ between (m + 1) end xs) ≡ between first end xs
between_cut xs first m end x h l w at =
    let front = take m xs in
    let back = drop (suc m) xs in
    let cut = nth_cut xs m x at in
    let n = length-take-le m xs (omega arith) in
    let g = end - (m + 1) in
    let some : g - 0 ≡ end - (m + 1) = omega arith in
    let more : suc m ≡ m + 1 = omega arith in
    let left : between first m xs ≡ between first (length front) front =
    ap (between first m) cut ∙ between_left front x back first m h (omega arith) ∙ ap (λ i. between first i front) (sym n) in
    let right : between (m + 1) end xs ≡ between 0 g back = ap (λ i. take i (drop (m + 1) xs)) (sym some) ∙ ap (λ i. take (g - 0) (drop i xs)) (sym more) in
    ap₂ (λ a b. a ++ (x ∷ b)) left right ∙ sym (ap (between first end) cut ∙ between_both front x back first end g (omega arith) (omega arith))

module _ {E T : Type 0} (k : Operations E T) (xs : List E) where
  pub built_none : (rows : List (Row E T)) (first end : ℕ) → first ≡ end → Built k rows rows xs first end None leaf
  built_none rows first end h = record {
    becomes = record { under = record { linked = refl; held = tt; few = omega arith }; kept = λ n z. refl };
    list = sym (between_none xs first end h);
    many = omega arith;
    before = λ n l. refl;
    behind = λ n l. refl;
    once = λ n. omega arith;
    even = even_leaf;
    totals = tt;
  }

  module _ {old mid rows : List (Row E T)} {first end m next : ℕ} {left right : Option ℕ} (a b : Shape E T) (l : Built k old mid xs first m left a) (r : Built k mid rows xs next end right b) (next-is : next ≡ m + 1) (ordered : first ≤ m) (below : m < end) where
    apart : (n : ℕ) → uses a n + one m n + uses b n ≤ 1
    apart n =
        ⊎_elim
        (λ (h : n < m). let x = r.before n (omega arith) in let y = one_else m n (λ e. omega arith) in let z = l.once n in omega arith)
        (λ (h : m ≤ n). let x = l.behind n h in
        ⊎_elim
        (λ (g : m < n). let y = one_else m n (λ e. omega arith) in let z = r.once n in omega arith)
        (λ (g : n ≤ m). let e : m ≡ n = omega arith in let y = one_here m n e in let z = r.before n (omega arith) in omega arith)
        (cases_lt m n))
        (cases_lt n m)

    pub built_split : m < length rows → end ≤ 4096 → Split rows left m right a b
    built_split at few =
        let p = l.many in
        let q = r.many in
        record {
          on_left = spared a r.becomes (λ n. let x = apart n in omega arith) l.becomes.under;
          on_right = r.becomes.under;
          apart = apart;
          at = at;
          few = omega arith;
        }

    pub built_node : {last : List (Row E T)} (x : E) → slice_get xs m ≡ Some x → end ≤ length xs → m ≡ first + (end - first) / 2 → Becomes rows last (Some m) (joined k a m x b) → Built k old last xs first end (Some m) (joined k a m x b)
    built_node x at w half t =
        let p = l.many in
        let q = r.many in
        record {
          becomes = after _ l.becomes (after _ r.becomes t (λ n z. omega arith)) (λ n z. omega arith);
          list = ap (λ s. s ++ (x ∷ elements b)) l.list ∙ ap (λ s. between first m xs ++ (x ∷ s)) r.list ∙ ap (λ n. between first m xs ++ (x ∷ between n end xs)) next-is ∙ between_cut xs first m end x ordered below w at;
          many = omega arith;
          before = λ n h. let u = l.before n h in let v = r.before n (omega arith) in let y = one_else m n (λ e. omega arith) in omega arith;
          behind = λ n h. let u = l.behind n (omega arith) in let v = r.behind n h in let y = one_else m n (λ e. omega arith) in omega arith;
          once = apart;
          even = even_node a m x _ b l.even r.even (omega arith) (omega arith);
          totals = (refl, l.totals, r.totals);
        }
