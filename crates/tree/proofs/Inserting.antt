-- Inserting, over shapes and over rows. Assumes nothing.
use Rattle.std.proofs.Common.{◌≡◌, ℕ, ◌+◌, ◌-◌, ◌<◌, ◌≤◌, leb, List, length, None, Option, sym, refl, ap, ◌∙◌, subst, arith}
use Rattle.std.proofs.lemmas.Bool.{le-leb, lt-leb, cond-true, cond-false}
use Rattle.tree.specs.declared.row.Row.{Row}
use Rattle.tree.specs.Measures.{Operations}
use Rattle.tree.specs.Shapes.{Shape, leaf, node, size, uses, one}
use Rattle.tree.specs.Surgery.{joined, Split, Becomes, Fresh, rebalanced, inserted_at}
use Rattle.tree.proofs.Held.{Opened}
use Rattle.tree.proofs.Writing.{spared, after}
use Rattle.tree.proofs.Shaping.{alike, more}

module _ {E T : Type 0} (k : Operations E T) {rows : List (Row E T)} {link : Option ℕ} {place fresh i : ℕ} {row : Row E T} {s : Shape E T} (w : Fresh rows link place fresh s) (o : Opened rows i row s) where
  parts : (n : ℕ) → uses o.a n + one i n + uses o.b n + one fresh n ≤ 1
  parts n = let p = w.apart n in let q = ap (λ s. uses s n) o.is in omega arith

  room : size o.a + 1 + size o.b < 4096
  room = let p = w.room in let q = ap size o.is in omega arith

  pub go_left : place ≤ size o.a → Fresh rows row.left place fresh o.a
  go_left h = record {
    under = o.left;
    apart = λ n. let p = parts n in omega arith;
    at = w.at;
    within = h;
    room = let p = room in omega arith;
  }

  pub go_right : (p : ℕ) → size o.a < place → p ≡ place - size o.a - 1 → Fresh rows row.right p fresh o.b
  go_right p h is = record {
    under = o.right;
    apart = λ n. let p = parts n in omega arith;
    at = w.at;
    within = let p = w.within in let q = ap size o.is in omega arith;
    room = let p = room in omega arith;
  }

  pub level_left : {mid : List (Row E T)} {l : Option ℕ} (p : ℕ) (x : E) → length mid ≡ length rows → Becomes rows mid l (inserted_at k o.a p fresh x) → Split mid l i row.right (inserted_at k o.a p fresh x) o.b
  level_left p x long t =
      let m = more k o.a p fresh x in
      record {
        on_left = t.under;
        on_right = spared o.b t (λ n. let q = parts n in let r = m.rows n in omega arith) o.right;
        apart = λ n. let q = parts n in let r = m.rows n in omega arith;
        at = let q = o.at in omega arith;
        few = let q = room in let r = m.many in omega arith;
      }

  pub level_right : {mid : List (Row E T)} {l : Option ℕ} (p : ℕ) (x : E) → length mid ≡ length rows → Becomes rows mid l (inserted_at k o.b p fresh x) → Split mid row.left i l o.a (inserted_at k o.b p fresh x)
  level_right p x long t =
      let m = more k o.b p fresh x in
      record {
        on_left = spared o.a t (λ n. let q = parts n in let r = m.rows n in omega arith) o.left;
        on_right = t.under;
        apart = λ n. let q = parts n in let r = m.rows n in omega arith;
        at = let q = o.at in omega arith;
        few = let q = room in let r = m.many in omega arith;
      }

  pub done_left : {mid last : List (Row E T)} {l r : Option ℕ} (x : E) → place ≤ size o.a → Becomes rows mid l (inserted_at k o.a place fresh x) → Becomes mid last r (rebalanced k (inserted_at k o.a place fresh x) i row.element o.b) → Becomes rows last r (inserted_at k s place fresh x)
  done_left {mid} {last} {l} {r} x h t v =
      let m = alike k (inserted_at k o.a place fresh x) i row.element o.b in
      subst (Becomes rows last r)
      (sym (ap (λ s. inserted_at k s place fresh x) o.is ∙ cond-true (leb place (size o.a)) _ _ (le-leb _ _ h)))
      (after _ t v (λ n z. let q = m.rows n in omega arith))

  pub done_right : {mid last : List (Row E T)} {l r : Option ℕ} (p : ℕ) (x : E) → size o.a < place → p ≡ place - size o.a - 1 → Becomes rows mid l (inserted_at k o.b p fresh x) → Becomes mid last r (rebalanced k o.a i row.element (inserted_at k o.b p fresh x)) → Becomes rows last r (inserted_at k s place fresh x)
  done_right {mid} {last} {l} {r} p x h is t v =
      let m = alike k o.a i row.element (inserted_at k o.b p fresh x) in
      subst (Becomes rows last r)
      (sym (ap (λ s. inserted_at k s place fresh x) o.is ∙ cond-false (leb place (size o.a)) _ _ (lt-leb _ _ h) ∙ ap (λ q. rebalanced k o.a i row.element (inserted_at k o.b q fresh x)) (sym is)))
      (after _ t v (λ n z. let q = m.rows n in omega arith))

module _ {E T : Type 0} (k : Operations E T) {rows : List (Row E T)} {link : Option ℕ} {place fresh : ℕ} where
  pub first : (s : Shape E T) → link ≡ None → Fresh rows link place fresh s → Split rows None fresh None leaf leaf
  first s is w = record {
    on_left = record { linked = refl; held = tt; few = omega arith };
    on_right = record { linked = refl; held = tt; few = omega arith };
    apart = λ n. let p = w.apart n in omega arith;
    at = w.at;
    few = omega arith;
  }

  pub done_first : (s : Shape E T) (x : E) → link ≡ None → Fresh rows link place fresh s → inserted_at k s place fresh x ≡ joined k leaf fresh x leaf
  done_first leaf x is w = refl
  done_first (node a i e t b) x is w = let h = w.under.linked in let z : ◌≡◌ {A = ℕ} 0 1 = cc in absurd (omega arith)
