-- The two rotations, over rows. Assumes nothing.
use Rattle.std.proofs.Common.{◌≡◌, ℕ, ◌+◌, ◌<◌, ◌≤◌, leb, List, length, Some, None, Option, sym, refl, ap, ◌∙◌, subst, arith}
use Rattle.std.proofs.lemmas.Bool.{le-leb, lt-leb, cond-true, cond-false}
use Rattle.tree.specs.declared.row.Row.{Row}
use Rattle.tree.specs.Measures.{Operations}
use Rattle.tree.specs.Shapes.{Shape, leaf, node, tall, size, Under, uses, one}
use Rattle.tree.specs.Surgery.{joined, Split, Becomes, rotate_right, rotate_left, double_right, double_left}
use Rattle.tree.proofs.Held.{Opened}
use Rattle.tree.proofs.Writing.{spared, after}

module _ {E T : Type 0} (k : Operations E T) {rows : List (Row E T)} {left right : Option ℕ} {i l : ℕ} {row : Row E T} {a b : Shape E T} (w : Split rows left i right a b) (o : Opened rows l row a) where
  parts : (n : ℕ) → uses o.a n + one l n + uses o.b n + one i n + uses b n ≤ 1
  parts n = let p = w.apart n in let q = ap (λ s. uses s n) o.is in omega arith

  enough : size o.a + 1 + size o.b + 1 + size b ≤ 4096
  enough = let p = w.few in let q = ap size o.is in omega arith

  -- once to the right
  pub single_1 : Split rows row.right i right o.b b
  single_1 = record {
    on_left = o.right;
    on_right = w.on_right;
    apart = λ n. let p = parts n in omega arith;
    at = w.at;
    few = let p = enough in omega arith;
  }

  pub single_2 : {mid : List (Row E T)} {e : E} → length mid ≡ length rows → Becomes rows mid (Some i) (joined k o.b i e b) → Split mid row.left l (Some i) o.a (joined k o.b i e b)
  single_2 {mid} {e} long t = record {
    on_left = spared o.a t (λ n. let p = parts n in omega arith) o.left;
    on_right = t.under;
    apart = λ n. let p = parts n in omega arith;
    at = let p = o.at in omega arith;
    few = let p = enough in omega arith;
  }

  pub single_all : {one_on last : List (Row E T)} (e : E) → tall o.b ≤ tall o.a → Becomes rows one_on (Some i) (joined k o.b i e b) → Becomes one_on last (Some l) (joined k o.a l row.element (joined k o.b i e b)) → Becomes rows last (Some l) (rotate_right k a i e b)
  single_all {one_on} {last} e h t v =
      subst (λ s. Becomes rows last (Some l) s)
      (sym (ap (λ s. rotate_right k s i e b) o.is ∙ cond-true (leb (tall o.b) (tall o.a)) _ _ (le-leb _ _ h)))
      (after (joined k o.a l row.element (joined k o.b i e b)) t v (λ n z. omega arith))

  -- twice
  module _ {m : ℕ} {mid : Row E T} (q : Opened rows m mid o.b) where
    pieces : (n : ℕ) → uses o.a n + one l n + uses q.a n + one m n + uses q.b n + one i n + uses b n ≤ 1
    pieces n = let p = parts n in let r = ap (λ s. uses s n) q.is in omega arith

    plenty : size o.a + 1 + size q.a + 1 + size q.b + 1 + size b ≤ 4096
    plenty = let p = enough in let r = ap size q.is in omega arith

    pub double_1 : Split rows row.left l mid.left o.a q.a
    double_1 = record {
      on_left = o.left;
      on_right = q.left;
      apart = λ n. let p = pieces n in omega arith;
      at = o.at;
      few = let p = plenty in omega arith;
    }

    pub double_2 : {one_on : List (Row E T)} {f : E} → length one_on ≡ length rows → Becomes rows one_on (Some l) (joined k o.a l f q.a) → Split one_on mid.right i right q.b b
    double_2 long t = record {
      on_left = spared q.b t (λ n. let p = pieces n in omega arith) q.right;
      on_right = spared b t (λ n. let p = pieces n in omega arith) w.on_right;
      apart = λ n. let p = pieces n in omega arith;
      at = let p = w.at in omega arith;
      few = let p = plenty in omega arith;
    }

    pub double_3 : {one_on two_on : List (Row E T)} {e f : E} → length two_on ≡ length rows → Becomes rows one_on (Some l) (joined k o.a l f q.a) → Becomes one_on two_on (Some i) (joined k q.b i e b) → Split two_on (Some l) m (Some i) (joined k o.a l f q.a) (joined k q.b i e b)
    double_3 {one_on} {two_on} {e} {f} long t v = record {
      on_left = spared (joined k o.a l f q.a) v (λ n. let p = pieces n in omega arith) t.under;
      on_right = v.under;
      apart = λ n. let p = pieces n in omega arith;
      at = let p = q.at in omega arith;
      few = let p = plenty in omega arith;
    }

    pub double_all : {one_on two_on last : List (Row E T)} (e : E) → tall o.a < tall o.b → Becomes rows one_on (Some l) (joined k o.a l row.element q.a) → Becomes one_on two_on (Some i) (joined k q.b i e b) → Becomes two_on last (Some m) (joined k (joined k o.a l row.element q.a) m mid.element (joined k q.b i e b)) → Becomes rows last (Some m) (rotate_right k a i e b)
    double_all {one_on} {two_on} {last} e h t v x =
        let whole = joined k (joined k o.a l row.element q.a) m mid.element (joined k q.b i e b) in
        let apart : rotate_right k (node o.a l row.element row.total o.b) i e b ≡ whole =
        cond-false (leb (tall o.b) (tall o.a)) _ _ (lt-leb _ _ h) ∙ ap (λ s. double_right k o.a l row.element s i e b) q.is in
        subst (λ s. Becomes rows last (Some m) s)
        (sym (ap (λ s. rotate_right k s i e b) o.is ∙ apart))
        (record {
          under = x.under;
          kept = λ n z. x.kept n (omega arith) ∙ v.kept n (omega arith) ∙ t.kept n (omega arith);
        })

pub right_of_none : {E T : Type 0} (k : Operations E T) {rows : List (Row E T)} {left : Option ℕ} (i : ℕ) (e : E) (a b : Shape E T) → left ≡ None → Under rows left a → rotate_right k a i e b ≡ joined k a i e b
right_of_none k i e leaf b is w = refl
right_of_none k i e (node c l f t d) b is w = let h = w.linked in let z : ◌≡◌ {A = ℕ} 0 1 = cc in absurd (omega arith)

-- the same to the left
module _ {E T : Type 0} (k : Operations E T) {rows : List (Row E T)} {left right : Option ℕ} {i l : ℕ} {row : Row E T} {a b : Shape E T} (w : Split rows left i right a b) (o : Opened rows l row b) where
  lparts : (n : ℕ) → uses a n + one i n + uses o.a n + one l n + uses o.b n ≤ 1
  lparts n = let p = w.apart n in let q = ap (λ s. uses s n) o.is in omega arith

  lenough : size a + 1 + size o.a + 1 + size o.b ≤ 4096
  lenough = let p = w.few in let q = ap size o.is in omega arith

  pub lsingle_1 : Split rows left i row.left a o.a
  lsingle_1 = record {
    on_left = w.on_left;
    on_right = o.left;
    apart = λ n. let p = lparts n in omega arith;
    at = w.at;
    few = let p = lenough in omega arith;
  }

  pub lsingle_2 : {mid : List (Row E T)} {e : E} → length mid ≡ length rows → Becomes rows mid (Some i) (joined k a i e o.a) → Split mid (Some i) l row.right (joined k a i e o.a) o.b
  lsingle_2 {mid} {e} long t = record {
    on_left = t.under;
    on_right = spared o.b t (λ n. let p = lparts n in omega arith) o.right;
    apart = λ n. let p = lparts n in omega arith;
    at = let p = o.at in omega arith;
    few = let p = lenough in omega arith;
  }

  pub lsingle_all : {one_on last : List (Row E T)} (e : E) → tall o.a ≤ tall o.b → Becomes rows one_on (Some i) (joined k a i e o.a) → Becomes one_on last (Some l) (joined k (joined k a i e o.a) l row.element o.b) → Becomes rows last (Some l) (rotate_left k a i e b)
  lsingle_all {one_on} {last} e h t v =
      subst (λ s. Becomes rows last (Some l) s)
      (sym (ap (rotate_left k a i e) o.is ∙ cond-true (leb (tall o.a) (tall o.b)) _ _ (le-leb _ _ h)))
      (after (joined k (joined k a i e o.a) l row.element o.b) t v (λ n z. omega arith))

  module _ {m : ℕ} {mid : Row E T} (q : Opened rows m mid o.a) where
    lpieces : (n : ℕ) → uses a n + one i n + uses q.a n + one m n + uses q.b n + one l n + uses o.b n ≤ 1
    lpieces n = let p = lparts n in let r = ap (λ s. uses s n) q.is in omega arith

    lplenty : size a + 1 + size q.a + 1 + size q.b + 1 + size o.b ≤ 4096
    lplenty = let p = lenough in let r = ap size q.is in omega arith

    pub ldouble_1 : Split rows mid.right l row.right q.b o.b
    ldouble_1 = record {
      on_left = q.right;
      on_right = o.right;
      apart = λ n. let p = lpieces n in omega arith;
      at = o.at;
      few = let p = lplenty in omega arith;
    }

    pub ldouble_2 : {one_on : List (Row E T)} {f : E} → length one_on ≡ length rows → Becomes rows one_on (Some l) (joined k q.b l f o.b) → Split one_on left i mid.left a q.a
    ldouble_2 long t = record {
      on_left = spared a t (λ n. let p = lpieces n in omega arith) w.on_left;
      on_right = spared q.a t (λ n. let p = lpieces n in omega arith) q.left;
      apart = λ n. let p = lpieces n in omega arith;
      at = let p = w.at in omega arith;
      few = let p = lplenty in omega arith;
    }

    pub ldouble_3 : {one_on two_on : List (Row E T)} {e f : E} → length two_on ≡ length rows → Becomes rows one_on (Some l) (joined k q.b l f o.b) → Becomes one_on two_on (Some i) (joined k a i e q.a) → Split two_on (Some i) m (Some l) (joined k a i e q.a) (joined k q.b l f o.b)
    ldouble_3 {one_on} {two_on} {e} {f} long t v = record {
      on_left = v.under;
      on_right = spared (joined k q.b l f o.b) v (λ n. let p = lpieces n in omega arith) t.under;
      apart = λ n. let p = lpieces n in omega arith;
      at = let p = q.at in omega arith;
      few = let p = lplenty in omega arith;
    }

    pub ldouble_all : {one_on two_on last : List (Row E T)} (e : E) → tall o.b < tall o.a → Becomes rows one_on (Some l) (joined k q.b l row.element o.b) → Becomes one_on two_on (Some i) (joined k a i e q.a) → Becomes two_on last (Some m) (joined k (joined k a i e q.a) m mid.element (joined k q.b l row.element o.b)) → Becomes rows last (Some m) (rotate_left k a i e b)
    ldouble_all {one_on} {two_on} {last} e h t v x =
        let whole = joined k (joined k a i e q.a) m mid.element (joined k q.b l row.element o.b) in
        let apart : rotate_left k a i e (node o.a l row.element row.total o.b) ≡ whole =
        cond-false (leb (tall o.a) (tall o.b)) _ _ (lt-leb _ _ h) ∙ ap (λ s. double_left k a i e s l row.element o.b) q.is in
        subst (λ s. Becomes rows last (Some m) s)
        (sym (ap (rotate_left k a i e) o.is ∙ apart))
        (record {
          under = x.under;
          kept = λ n z. x.kept n (omega arith) ∙ v.kept n (omega arith) ∙ t.kept n (omega arith);
        })

pub left_of_none : {E T : Type 0} (k : Operations E T) {rows : List (Row E T)} {right : Option ℕ} (i : ℕ) (e : E) (a b : Shape E T) → right ≡ None → Under rows right b → rotate_left k a i e b ≡ joined k a i e b
left_of_none k i e a leaf is w = refl
left_of_none k i e a (node c l f t d) is w = let h = w.linked in let z : ◌≡◌ {A = ℕ} 0 1 = cc in absurd (omega arith)
