-- Another element at a place, over shapes, rows and lists.
use Rattle.std.proofs.Common.{◌≡◌, ℕ, zero, suc, ◌+◌, ◌-◌, ◌<◌, ◌≤◌, eqb, ltb, List, [], ◌∷◌, ◌++◌, length, get_or, take, drop, set, Some, Option, sym, refl, ap, ◌∙◌, subst, append_assoc, arith, length-drop}
use Rattle.std.proofs.lemmas.List.{drop-drop, take_more, length-take-le, set_split}
use Rattle.std.proofs.lemmas.Bool.{ltb-true, ltb-false, eqb-true, eqb-false, lt-ltb, le-ltb, eq-eqb, ne_eqb, cond-true, cond-false, cond_both}
use Rattle.tree.specs.declared.row.Row.{Row}
use Rattle.tree.specs.Changes.{TreeIn}
use Rattle.tree.specs.Measures.{Operations}
use Rattle.tree.specs.Plain.{spliced}
use Rattle.tree.specs.Shapes.{Shape, leaf, node, top, tall, size, elements, Balanced, Totalled, uses, one}
use Rattle.tree.specs.Surgery.{joined, Split, Becomes, Loose, changed_at}
use Rattle.tree.specs.declared.row.Heads.{Heads}
use Rattle.tree.proofs.Held.{Opened, length-elements}
use Rattle.tree.proofs.Wholes.{chain_keep}
use Rattle.tree.proofs.Writing.{spared, after}

-- what another element keeps of a part
pub record Same {E T : Type 0} (s t : Shape E T) : Type 0 where
  pub rows : (n : ℕ) → uses t n ≡ uses s n
  pub many : size t ≡ size s
  pub high : tall t ≡ tall s
  pub link : top t ≡ top s

set_left : {X : Type 0} (xs ys : List X) (i : ℕ) (x : X) → i < length xs → set (xs ++ ys) i x ≡ set xs i x ++ ys
set_left [] ys i x h = absurd (omega arith)
set_left (y ∷ xs) ys zero x h = refl
set_left (y ∷ xs) ys (suc i) x h = ap (λ l. y ∷ l) (set_left xs ys i x (omega arith))

set_right : {X : Type 0} (xs ys : List X) (i j : ℕ) (x : X) → i ≡ length xs + j → set (xs ++ ys) i x ≡ xs ++ set ys j x
set_right [] ys i j x h = let e : i ≡ j = omega arith in ap (λ n. set ys n x) e
set_right (y ∷ xs) ys zero j x h = absurd (omega arith)
set_right (y ∷ xs) ys (suc i) j x h = ap (λ l. y ∷ l) (set_right xs ys i j x (omega arith))

module _ {E T : Type 0} (k : Operations E T) where
  pub same : (s : Shape E T) (p : ℕ) (x : E) → Same s (changed_at k s p x)
  same leaf p x = record { rows = λ n. refl; many = refl; high = refl; link = refl }
  same (node a i e t b) p x =
      let l = same a p x in
      let r = same b (p - size a - 1) x in
      cond_both (ltb p (size a)) _ _ (λ y. Same (node a i e t b) y)
      (λ _. let u = l.many in let v = l.high in record { rows = λ n. let w = l.rows n in omega arith; many = omega arith; high = omega arith; link = refl })
      (λ _. cond_both (eqb p (size a)) _ _ (λ y. Same (node a i e t b) y)
      (λ _. record { rows = λ n. refl; many = refl; high = refl; link = refl })
      (λ _. let u = r.many in let v = r.high in record { rows = λ n. let w = r.rows n in omega arith; many = omega arith; high = omega arith; link = refl }))

  pub balanced_changed : (s : Shape E T) (p : ℕ) (x : E) → Balanced s → Balanced (changed_at k s p x)
  balanced_changed leaf p x h = tt
  balanced_changed (node a i e t b) p x h =
      let u = h.0 in
      let v = h.1 in
      let l = (same a p x).high in
      let r = (same b (p - size a - 1) x).high in
      cond_both (ltb p (size a)) _ _ Balanced
      (λ _. (omega arith, omega arith, balanced_changed a p x h.2, h.3))
      (λ _. cond_both (eqb p (size a)) _ _ Balanced (λ _. h) (λ _. (omega arith, omega arith, h.2, balanced_changed b (p - size a - 1) x h.3)))

  pub totalled_changed : (s : Shape E T) (p : ℕ) (x : E) → Totalled k s → Totalled k (changed_at k s p x)
  totalled_changed leaf p x h = tt
  totalled_changed (node a i e t b) p x h =
      cond_both (ltb p (size a)) _ _ (Totalled k)
      (λ _. (refl, totalled_changed a p x h.1, h.2))
      (λ _. cond_both (eqb p (size a)) _ _ (Totalled k) (λ _. (refl, h.1, h.2)) (λ _. (refl, h.1, totalled_changed b (p - size a - 1) x h.2)))

  pub list_changed : (s : Shape E T) (p : ℕ) (x : E) → elements (changed_at k s p x) ≡ set (elements s) p x
  list_changed leaf p x = refl
  list_changed (node a i e t b) p x =
      let n = length-elements a in
      let rest = e ∷ elements b in
      cond_both (ltb p (size a)) _ _ (λ y. elements y ≡ set (elements a ++ rest) p x)
      (λ q. let h = ltb-true p (size a) q in ap (λ l. l ++ rest) (list_changed a p x) ∙ sym (set_left (elements a) rest p x (omega arith)))
      (λ q. let h = ltb-false p (size a) q in cond_both (eqb p (size a)) _ _ (λ y. elements y ≡ set (elements a ++ rest) p x)
      (λ u. let v = eqb-true p (size a) u in sym (set_right (elements a) rest p 0 x (omega arith)))
      (λ u. let v = eqb-false p (size a) u in ap (λ l. elements a ++ (e ∷ l)) (list_changed b (p - size a - 1) x) ∙ sym (set_right (elements a) rest p (suc (p - size a - 1)) x (further p (size a) (length (elements a)) h v n))))
    where
      further : (p m l : ℕ) → m ≤ p → (p ≡ m → ⊥) → l ≡ m → p ≡ l + suc (p - m - 1)
      further p m l h v n = omega arith

  module _ {rows : List (Row E T)} {link : Option ℕ} {i : ℕ} {row : Row E T} {s : Shape E T} (w : Loose rows link s) (o : Opened rows i row s) (p : ℕ) (x : E) where
    parts : (n : ℕ) → uses o.a n + one i n + uses o.b n ≤ 1
    parts n = let q = w.apart n in let r = ap (λ y. uses y n) o.is in omega arith

    room : size o.a + 1 + size o.b ≤ 4096
    room = let q = w.under.few in let r = ap size o.is in omega arith

    pub set_split_left : {mid : List (Row E T)} → length mid ≡ length rows → Becomes rows mid row.left (changed_at k o.a p x) → Split mid row.left i row.right (changed_at k o.a p x) o.b
    set_split_left long t =
        let m = same o.a p x in
        let q = room in
        let z = m.many in
        let at = o.at in
        record {
          on_left = t.under;
          on_right = spared o.b t (λ n. let q = parts n in let r = m.rows n in omega arith) o.right;
          apart = λ n. let q = parts n in let r = m.rows n in omega arith;
          at = omega arith;
          few = omega arith;
        }

    pub set_split_right : {mid : List (Row E T)} → length mid ≡ length rows → Becomes rows mid row.right (changed_at k o.b p x) → Split mid row.left i row.right o.a (changed_at k o.b p x)
    set_split_right long t =
        let m = same o.b p x in
        let q = room in
        let z = m.many in
        let at = o.at in
        record {
          on_left = spared o.a t (λ n. let q = parts n in let r = m.rows n in omega arith) o.left;
          on_right = t.under;
          apart = λ n. let q = parts n in let r = m.rows n in omega arith;
          at = omega arith;
          few = omega arith;
        }

    pub set_split_here : Split rows row.left i row.right o.a o.b
    set_split_here = record { on_left = o.left; on_right = o.right; apart = parts; at = o.at; few = room }

    pub set_left_done : {mid last : List (Row E T)} → p < size o.a → link ≡ Some i → Becomes rows mid row.left (changed_at k o.a p x) → Becomes mid last (Some i) (joined k (changed_at k o.a p x) i row.element o.b) → Becomes rows last link (changed_at k s p x)
    set_left_done {mid} {last} h is t v =
        subst (λ y. Becomes rows last y (changed_at k s p x)) (sym is)
        (subst (Becomes rows last (Some i)) (sym (ap (λ y. changed_at k y p x) o.is ∙ cond-true (ltb p (size o.a)) _ _ (lt-ltb p (size o.a) h)))
        (after _ t v (λ n z. omega arith)))

    pub set_here_done : {last : List (Row E T)} → p ≡ size o.a → link ≡ Some i → Becomes rows last (Some i) (joined k o.a i x o.b) → Becomes rows last link (changed_at k s p x)
    set_here_done {last} h is v =
        subst (λ y. Becomes rows last y (changed_at k s p x)) (sym is)
        (subst (Becomes rows last (Some i)) (sym (ap (λ y. changed_at k y p x) o.is ∙ cond-false (ltb p (size o.a)) _ _ (le-ltb p (size o.a) (omega arith)) ∙ cond-true (eqb p (size o.a)) _ _ (eq-eqb p (size o.a) h))) v)

  module _ {rows : List (Row E T)} {link : Option ℕ} {i : ℕ} {row : Row E T} {s : Shape E T} (w : Loose rows link s) (o : Opened rows i row s) (p q : ℕ) (x : E) where
    pub set_right_done : {mid last : List (Row E T)} → size o.a < p → q ≡ p - size o.a - 1 → link ≡ Some i → Becomes rows mid row.right (changed_at k o.b q x) → Becomes mid last (Some i) (joined k o.a i row.element (changed_at k o.b q x)) → Becomes rows last link (changed_at k s p x)
    set_right_done {mid} {last} h e is t v =
        subst (λ y. Becomes rows last y (changed_at k s p x)) (sym is)
        (subst (Becomes rows last (Some i))
        (sym (ap (λ y. changed_at k y p x) o.is ∙ cond-false (ltb p (size o.a)) _ _ (le-ltb p (size o.a) (omega arith)) ∙ cond-false (eqb p (size o.a)) _ _ (ne_eqb p (size o.a) (λ z. omega arith)) ∙ ap (λ y. joined k o.a i row.element (changed_at k o.b y x)) (sym e)))
        (after _ t v (λ n z. omega arith)))

  -- the whole tree afterwards
  pub whole_set : {old rows : List (Row E T)} {h : Heads} (s : Shape E T) (f : List ℕ) (p : ℕ) (x : E) → TreeIn old h s f → Becomes old rows h.root (changed_at k s p x) → length rows ≡ length old → TreeIn rows h (changed_at k s p x) f
  whole_set {old} {rows} {h} s f p x w t long =
      let m = same s p x in
      let pool = w.pool in
      let z = m.many in
      record {
        under = t.under;
        balance = balanced_changed s p x w.balance;
        pool = record {
          chain = chain_keep old rows f h.free (λ n q. t.kept n (let a = pool.apart n in let b = m.rows n in omega arith)) pool.chain;
          apart = λ n. let a = pool.apart n in let b = m.rows n in omega arith;
          low = λ n q. let a = pool.low n q in let b = m.rows n in omega arith;
          tallied = let a = pool.tallied in omega arith;
          long = let a = pool.long in omega arith;
          small = pool.small;
        };
        counted = let a = w.counted in omega arith;
      }

-- one element more is written over
pub set_more : {E : Type 0} (xs ys : List E) (p i : ℕ) (d : E) (at : ℕ) (y : E) → p + length ys ≤ length xs → i < length ys → y ≡ get_or ys i d → at ≡ p + i → set (spliced xs p (p + i) (take i ys)) at y ≡ spliced xs p (p + (i + 1)) (take (i + 1) ys)
set_more xs ys p i d at y h l is e =
    let a = take p xs in
    let b = take i ys in
    let rest = drop (p + i) xs in
    let la = length-take-le p xs (omega arith) in
    let lb = length-take-le i ys (omega arith) in
    let lr = length-drop (p + i) xs in
    let end : p + i + 1 ≡ p + (i + 1) = omega arith in
    set_right a (b ++ rest) at i y (omega arith)
    ∙ ap (λ m. a ++ m)
    (set_right b rest i 0 y (omega arith) ∙ ap (λ m. b ++ m) (set_split rest 0 y (omega arith) ∙ ap (λ m. y ∷ m) (drop-drop 1 (p + i) xs)) ∙ sym (append_assoc b (y ∷ []) (drop (p + i + 1) xs))
    ∙ ap (λ m. m ++ drop (p + i + 1) xs) (ap (λ z. b ++ (z ∷ [])) is ∙ sym (take_more ys i d l)) ∙ ap (λ n. take (i + 1) ys ++ drop n xs) end)
