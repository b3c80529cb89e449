-- Removing, over shapes and over rows. Assumes nothing.
use Rattle.std.proofs.Common.{◌≡◌, ℕ, suc, ◌+◌, ◌-◌, ◌<◌, ◌≤◌, eqb, ltb, List, length, Some, Option, sym, refl, ap, ◌∙◌, subst, ⊎_elim, arith}
use Rattle.std.specs.List.{slice_get}
use Rattle.std.proofs.lemmas.Bool.{cases_eq, cases_lt, cond_both, cond-true, cond-false, lt-ltb, le-ltb, eq-eqb, ne_eqb}
use Rattle.tree.specs.declared.row.Row.{Row}
use Rattle.tree.specs.Measures.{Operations}
use Rattle.tree.specs.Shapes.{Shape, leaf, node, size, Under, uses, one, Rep, elements}
use Rattle.tree.specs.Surgery.{Split, Becomes, Loose, Sides, rebalanced, rest, merged, removed_at, last_row, last_of, row_in}
use Rattle.tree.specs.Changes.{Removes}
use Rattle.tree.specs.declared.remove.Detached.{Detached}
use Rattle.tree.proofs.Held.{Opened, nth_within, nth_left, nth_right, length-elements}
use Rattle.tree.proofs.Writing.{spared, after, one_here, one_else}
use Rattle.tree.proofs.Shaping.{alike}

-- what taking the row f out leaves
pub record Fewer {E T : Type 0} (s t : Shape E T) (f : ℕ) : Type 0 where
  pub rows : (n : ℕ) → uses s n ≡ uses t n + one f n
  pub many : size s ≡ size t + 1

module _ {E T : Type 0} (k : Operations E T) where
  pub fewer : (a : Shape E T) (i : ℕ) (e : E) (t : T) (b : Shape E T) → Fewer (node a i e t b) (rest k (node a i e t b)) (last_row i b)
  fewer a i e t leaf = record { rows = λ n. omega arith; many = omega arith }
  fewer a i e t (node c j f u g) =
      let r = fewer c j f u g in
      let m = alike k a i e (rest k (node c j f u g)) in
      record {
        rows = λ n. let p = r.rows n in let q = m.rows n in omega arith;
        many = let p = r.many in let q = m.many in omega arith;
      }

  rest_there : {rows : List (Row E T)} {link : Option ℕ} {j : ℕ} (a : Shape E T) (i : ℕ) (e : E) (t : T) (b : Shape E T) → link ≡ Some j → Under rows link b → rest k (node a i e t b) ≡ rebalanced k a i e (rest k b)
  rest_there a i e t leaf is w = let l = w.linked in let z : ◌≡◌ {A = ℕ} 0 1 = cc in absurd (omega arith)
  rest_there a i e t (node c j f u g) is w = refl

  less : {rows : List (Row E T)} {link : Option ℕ} {j : ℕ} (b : Shape E T) → link ≡ Some j → Under rows link b → ((n : ℕ) → uses (rest k b) n ≤ uses b n) × (size (rest k b) ≤ size b)
  less leaf is w = (λ n. omega arith, omega arith)
  less (node c j f u g) is w = let r = fewer c j f u g in (λ n. let p = r.rows n in omega arith, let p = r.many in omega arith)

  module _ {rows : List (Row E T)} {link : Option ℕ} {i : ℕ} {row : Row E T} {s : Shape E T} (w : Loose rows link s) (o : Opened rows i row s) where
    pub loose_right : Loose rows row.right o.b
    loose_right = record { under = o.right; apart = λ n. let p = w.apart n in let q = ap (λ x. uses x n) o.is in omega arith }

    pub loose_left : Loose rows row.left o.a
    loose_left = record { under = o.left; apart = λ n. let p = w.apart n in let q = ap (λ x. uses x n) o.is in omega arith }

    pub level_rest : {mid : List (Row E T)} {l : Option ℕ} {j : ℕ} → row.right ≡ Some j → length mid ≡ length rows → Becomes rows mid l (rest k o.b) → Split mid row.left i l o.a (rest k o.b)
    level_rest is long t =
        let m = less o.b is o.right in
        let f = w.under.few in
        let z = ap size o.is in
        let y = m.1 in
        record {
          on_left = spared o.a t (λ n. let p = w.apart n in let q = ap (λ x. uses x n) o.is in let r = m.0 n in omega arith) o.left;
          on_right = t.under;
          apart = λ n. let p = w.apart n in let q = ap (λ x. uses x n) o.is in let r = m.0 n in omega arith;
          at = let p = o.at in omega arith;
          few = omega arith;
        }

    pub done_rest : {mid last : List (Row E T)} {l r : Option ℕ} {j : ℕ} → row.right ≡ Some j → Becomes rows mid l (rest k o.b) → Becomes mid last r (rebalanced k o.a i row.element (rest k o.b)) → Becomes rows last r (rest k s)
    done_rest {mid} {last} {l} {r} is t v =
        let m = alike k o.a i row.element (rest k o.b) in
        subst (Becomes rows last r) (sym (ap (rest k) o.is ∙ rest_there o.a i row.element row.total o.b is o.right))
        (after _ t v (λ n z. let q = m.rows n in omega arith))

-- a row in use lies within the rows
pub used_within : {E T : Type 0} (rows : List (Row E T)) (s : Shape E T) (n : ℕ) → Rep rows s → 0 < uses s n → n < length rows
used_within rows leaf n h p = absurd (omega arith)
used_within rows (node a i e t b) n h p =
    ⊎_elim (λ q. used_within rows a n h.1 q)
    (λ q. ⊎_elim (λ same. let z = nth_within rows i _ h.0 in omega arith)
    (λ other. let o = one_else i n other in used_within rows b n h.2 (omega arith)) (cases_eq i n)) (cases_lt 0 (uses a n))

module _ {E T : Type 0} (k : Operations E T) {rows : List (Row E T)} where
  pub sides_loose : {left right : Option ℕ} {a b : Shape E T} → Sides rows left right a b → Loose rows left a
  sides_loose w = record { under = w.on_left; apart = λ n. let p = w.apart n in omega arith }

  pub merge_split : {left right l : Option ℕ} {mid : List (Row E T)} {m j : ℕ} (a b : Shape E T) → left ≡ Some j → Sides rows left right a b → length mid ≡ length rows → Becomes rows mid l (rest k a) → m ≡ last_row 0 a → Split mid l m right (rest k a) b
  merge_split leaf b is w long t at = let l = w.on_left.linked in let z : ◌≡◌ {A = ℕ} 0 1 = cc in absurd (omega arith)
  merge_split {m} (node a i e u c) b is w long t at =
      let f = fewer k a i e u c in
      let s = node a i e u c in
      let many = f.many in
      let few = w.few in
      let o = one_here (last_row i c) (last_row i c) refl in
      let here = f.rows (last_row i c) in
      let fits = used_within rows s (last_row i c) w.on_left.held (omega arith) in
      record {
        on_left = t.under;
        on_right = spared b t (λ n. let p = w.apart n in let q = f.rows n in omega arith) w.on_right;
        apart = λ n. let p = w.apart n in let q = f.rows n in let r = ap (λ x. one x n) at in omega arith;
        at = omega arith;
        few = omega arith;
      }

  pub merge_done : {left right l r : Option ℕ} {mid last : List (Row E T)} {m j : ℕ} (x : E) (a b : Shape E T) → left ≡ Some j → Sides rows left right a b → Becomes rows mid l (rest k a) → m ≡ last_row 0 a → ((d : E) → x ≡ last_of d a) → Becomes mid last r (rebalanced k (rest k a) m x b) → Becomes rows last r (merged k a b)
  merge_done x leaf b is w t at named v = let l = w.on_left.linked in let z : ◌≡◌ {A = ℕ} 0 1 = cc in absurd (omega arith)
  merge_done {r} {mid} {last} {m} x (node a i e u c) b is w t at named v =
      let q = alike k (rest k (node a i e u c)) m x b in
      subst (Becomes rows last r) (ap (λ y. rebalanced k (rest k (node a i e u c)) y x b) at ∙ ap (λ y. rebalanced k (rest k (node a i e u c)) (last_row i c) y b) (named e))
      (after _ t v (λ n z. let p = q.rows n in omega arith))

module _ {E T : Type 0} (k : Operations E T) where
  merged_like : (a b : Shape E T) → ((n : ℕ) → uses (merged k a b) n ≡ uses a n + uses b n) × (size (merged k a b) ≡ size a + size b)
  merged_like leaf b = (λ n. omega arith, omega arith)
  merged_like (node a i e t c) b =
      let f = fewer k a i e t c in
      let m = alike k (rest k (node a i e t c)) (last_row i c) (last_of e c) b in
      (λ n. let p = f.rows n in let q = m.rows n in omega arith, let p = f.many in let q = m.many in omega arith)

  lessen : (s : Shape E T) (p : ℕ) → ((n : ℕ) → uses (removed_at k s p) n ≤ uses s n) × (size (removed_at k s p) ≤ size s)
  lessen leaf p = (λ n. omega arith, omega arith)
  lessen (node a i e t b) p =
      let l = lessen a p in
      let r = lessen b (p - size a - 1) in
      let z = l.1 in
      let y = r.1 in
      let P : Shape E T → Type 0 = λ x. ((n : ℕ) → uses x n ≤ uses (node a i e t b) n) × (size x ≤ size (node a i e t b)) in
      cond_both (ltb p (size a)) _ _ P
      (λ _. let m = alike k (removed_at k a p) i e b in (λ n. let u = m.rows n in let v = l.0 n in omega arith, let u = m.many in omega arith))
      (λ _. cond_both (eqb p (size a)) _ _ P
      (λ _. let m = merged_like a b in let w = m.1 in (λ n. let u = m.0 n in omega arith, omega arith))
      (λ _. let m = alike k a i e (removed_at k b (p - size a - 1)) in (λ n. let u = m.rows n in let v = r.0 n in omega arith, let u = m.many in omega arith)))

  module _ {rows : List (Row E T)} {link : Option ℕ} {i : ℕ} {row : Row E T} {s : Shape E T} (w : Loose rows link s) (o : Opened rows i row s) where
    pub left_level : {mid : List (Row E T)} {l : Option ℕ} (p : ℕ) → length mid ≡ length rows → Becomes rows mid l (removed_at k o.a p) → Split mid l i row.right (removed_at k o.a p) o.b
    left_level p long t =
        let m = lessen o.a p in
        let f = w.under.few in
        let z = ap size o.is in
        let y = m.1 in
        record {
          on_left = t.under;
          on_right = spared o.b t (λ n. let a = w.apart n in let q = ap (λ x. uses x n) o.is in let r = m.0 n in omega arith) o.right;
          apart = λ n. let a = w.apart n in let q = ap (λ x. uses x n) o.is in let r = m.0 n in omega arith;
          at = let a = o.at in omega arith;
          few = omega arith;
        }

    pub right_level : {mid : List (Row E T)} {l : Option ℕ} (p : ℕ) → length mid ≡ length rows → Becomes rows mid l (removed_at k o.b p) → Split mid row.left i l o.a (removed_at k o.b p)
    right_level p long t =
        let m = lessen o.b p in
        let f = w.under.few in
        let z = ap size o.is in
        let y = m.1 in
        record {
          on_left = spared o.a t (λ n. let a = w.apart n in let q = ap (λ x. uses x n) o.is in let r = m.0 n in omega arith) o.left;
          on_right = t.under;
          apart = λ n. let a = w.apart n in let q = ap (λ x. uses x n) o.is in let r = m.0 n in omega arith;
          at = let a = o.at in omega arith;
          few = omega arith;
        }

    pub both_sides : Sides rows row.left row.right o.a o.b
    both_sides =
        let f = w.under.few in
        let z = ap size o.is in
        record {
          on_left = o.left;
          on_right = o.right;
          apart = λ n. let a = w.apart n in let q = ap (λ x. uses x n) o.is in omega arith;
          few = omega arith;
        }

    -- the shape left, and the row given up, by where the place lies
    pub out_left : (p : ℕ) → p < size o.a → (removed_at k s p ≡ rebalanced k (removed_at k o.a p) i row.element o.b) × (row_in s p ≡ row_in o.a p)
    out_left p h =
        let t = lt-ltb p (size o.a) h in
        (ap (λ x. removed_at k x p) o.is ∙ cond-true (ltb p (size o.a)) _ _ t, ap (λ x. row_in x p) o.is ∙ cond-true (ltb p (size o.a)) _ _ t)

    pub out_here : (p : ℕ) → p ≡ size o.a → (removed_at k s p ≡ merged k o.a o.b) × (row_in s p ≡ i)
    out_here p h =
        let t = le-ltb p (size o.a) (omega arith) in
        let u = eq-eqb p (size o.a) h in (
          ap (λ x. removed_at k x p) o.is ∙ cond-false (ltb p (size o.a)) _ _ t ∙ cond-true (eqb p (size o.a)) _ _ u,
          ap (λ x. row_in x p) o.is ∙ cond-false (ltb p (size o.a)) _ _ t ∙ cond-true (eqb p (size o.a)) _ _ u,
        )

    pub out_right : (p q : ℕ) → size o.a < p → q ≡ p - size o.a - 1 → (removed_at k s p ≡ rebalanced k o.a i row.element (removed_at k o.b q)) × (row_in s p ≡ row_in o.b q)
    out_right p q h is =
        let t = le-ltb p (size o.a) (omega arith) in
        let u = ne_eqb p (size o.a) (λ e. omega arith) in (
          ap (λ x. removed_at k x p) o.is ∙ cond-false (ltb p (size o.a)) _ _ t ∙ cond-false (eqb p (size o.a)) _ _ u ∙ ap (λ x. rebalanced k o.a i row.element (removed_at k o.b x)) (sym is),
          ap (λ x. row_in x p) o.is ∙ cond-false (ltb p (size o.a)) _ _ t ∙ cond-false (eqb p (size o.a)) _ _ u ∙ ap (row_in o.b) (sym is),
        )

    pub removed_left : {mid last : List (Row E T)} {r : ℕ} {d : Detached E} (p : ℕ) → p < size o.a → Removes k rows mid o.a p d → Becomes mid last (Some r) (rebalanced k (removed_at k o.a p) i row.element o.b) → Removes k rows last s p (record { rest = Some r; row = d.row; element = d.element })
    removed_left {mid} {last} {r} p h t v =
        let n = length-elements o.a in
        let e = out_left p h in
        record {
          left = subst (Becomes rows last (Some r)) (sym e.0) (after _ t.left v (λ n z. let q = (alike k (removed_at k o.a p) i row.element o.b).rows n in omega arith));
          from = t.from ∙ sym e.1;
          told = ap (λ x. slice_get (elements x) p) o.is ∙ nth_left (elements o.a) _ p (omega arith) ∙ t.told;
        }

    pub removed_here : {last : List (Row E T)} {r : Option ℕ} (p : ℕ) → p ≡ size o.a → Becomes rows last r (merged k o.a o.b) → Removes k rows last s p (record { rest = r; row = i; element = row.element })
    removed_here {last} {r} p h v =
        let n = length-elements o.a in
        let e = out_here p h in
        record {
          left = subst (Becomes rows last r) (sym e.0) v;
          from = sym e.1;
          told = ap (λ x. slice_get (elements x) p) o.is ∙ nth_right (elements o.a) _ p 0 (omega arith);
        }

    pub removed_right : {mid last : List (Row E T)} {r : ℕ} {d : Detached E} (p q : ℕ) → size o.a < p → q ≡ p - size o.a - 1 → Removes k rows mid o.b q d → Becomes mid last (Some r) (rebalanced k o.a i row.element (removed_at k o.b q)) → Removes k rows last s p (record { rest = Some r; row = d.row; element = d.element })
    removed_right {mid} {last} {r} p q h is t v =
        let n = length-elements o.a in
        let e = out_right p q h is in
        record {
          left = subst (Becomes rows last (Some r)) (sym e.0) (after _ t.left v (λ n z. let q = (alike k o.a i row.element (removed_at k o.b q)).rows n in omega arith));
          from = t.from ∙ sym e.1;
          told = ap (λ x. slice_get (elements x) p) o.is ∙ nth_right (elements o.a) _ p (suc q) (omega arith) ∙ t.told;
        }

fewer_by : {E T : Type 0} {s x y : Shape E T} {m n : ℕ} → x ≡ y → m ≡ n → Fewer s y n → Fewer s x m
fewer_by {s} {y} {m} p q f = record { rows = λ n. ap (λ z. z) (f.rows n) ∙ sym (ap (λ z. uses z n + one m n) p ∙ ap (λ z. uses y n + one z n) q); many = f.many ∙ sym (ap (λ z. size z + 1) p) }

module _ {E T : Type 0} (k : Operations E T) where
  -- a removal gives up the one row
  pub taken : (s : Shape E T) (p : ℕ) → p < size s → Fewer s (removed_at k s p) (row_in s p)
  taken leaf p h = absurd (omega arith)
  taken (node a i e t b) p h =
      ⊎_elim
      (λ d. let x = lt-ltb p (size a) d in
      let r = taken a p d in
      let m = alike k (removed_at k a p) i e b in
      let u = m.many in let v = r.many in
      fewer_by (cond-true (ltb p (size a)) _ _ x) (cond-true (ltb p (size a)) _ _ x) (record { rows = λ n. let u = m.rows n in let v = r.rows n in omega arith; many = omega arith }))
      (λ d. let x = le-ltb p (size a) d in
      ⊎_elim
      (λ q. let y = eq-eqb p (size a) q in
      let m = merged_like k a b in
      let u = m.1 in
      fewer_by (cond-false (ltb p (size a)) _ _ x ∙ cond-true (eqb p (size a)) _ _ y) (cond-false (ltb p (size a)) _ _ x ∙ cond-true (eqb p (size a)) _ _ y) (record { rows = λ n. let u = m.0 n in omega arith; many = omega arith }))
      (λ q. let y = ne_eqb p (size a) q in
      let d' : size a < p = ⊎_elim (λ z. z) (λ z. absurd (q (omega arith))) (cases_lt (size a) p) in
      let r = taken b (p - size a - 1) (omega arith) in
      let m = alike k a i e (removed_at k b (p - size a - 1)) in
      let u = m.many in let v = r.many in
      fewer_by (cond-false (ltb p (size a)) _ _ x ∙ cond-false (eqb p (size a)) _ _ y) (cond-false (ltb p (size a)) _ _ x ∙ cond-false (eqb p (size a)) _ _ y) (record { rows = λ n. let u = m.rows n in let v = r.rows n in omega arith; many = omega arith }))
      (cases_eq p (size a)))
      (cases_lt p (size a))
