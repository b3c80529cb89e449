-- Reading a place below a link. Assumes nothing.
use Rattle.std.proofs.Common.{◌≡◌, ℕ, suc, ◌+◌, ◌-◌, ◌<◌, ◌≤◌, eqb, ltb, List, ◌∷◌, Some, Option, ap, ◌∙◌, arith}
use mathlib.Core.Logic.{∥∥₁_elim}
use native.Mathlib.Bridge.{le_prop}
use Rattle.std.specs.List.{slice_get}
use Rattle.std.proofs.lemmas.Bool.Decides.{nat_tests}
use Rattle.std.proofs.lemmas.Bool.{lt-ltb, le-ltb, eq-eqb, ne_eqb, cond-true, cond-false}
use Rattle.tree.specs.declared.row.Row.{Row}
use Rattle.tree.specs.Shapes.{Shape, leaf, node, tall, size, elements, Under, depth}
use Rattle.tree.specs.Surgery.{height_at}
use Rattle.tree.proofs.Held.{nth_left, nth_right, length-elements, opened, height_is}

abbrev pub Reads : {E T : Type 0} → Shape E T → ℕ → E → ℕ → Type 0
Reads s p x d = (slice_get (elements s) p ≡ Some x) × (d ≡ depth s p)

module _ {E T : Type 0} (a : Shape E T) (i : ℕ) (e : E) (t : T) (b : Shape E T) (p : ℕ) where
  pub read_left : (x : E) (d : ℕ) → p < size a → Reads a p x d → Reads (node a i e t b) p x (d + 1)
  read_left x d h r =
      let n = length-elements a in
      let u = lt-ltb p (size a) h in (
        nth_left (elements a) (e ∷ elements b) p (omega arith) ∙ r.0,
        rw (cond-true (ltb p (size a)) (depth a p) _ u) (let q = r.1 in omega arith),
      )

  pub read_here : p ≡ size a → Reads (node a i e t b) p e 1
  read_here h =
      let n = length-elements a in
      let u = le-ltb p (size a) (omega arith) in
      let f = eq-eqb p (size a) h in (
        nth_right (elements a) (e ∷ elements b) p 0 (omega arith),
        rw (cond-false (ltb p (size a)) (depth a p) _ u, cond-true {A = ℕ} (eqb p (size a)) 0 _ f),
      )

  pub read_right : (x : E) (d : ℕ) → size a < p → Reads b (p - size a - 1) x d → Reads (node a i e t b) p x (d + 1)
  read_right x d h r =
      let n = length-elements a in
      let u = le-ltb p (size a) (omega arith) in
      let f = ne_eqb p (size a) (λ q. omega arith) in (
        nth_right (elements a) (e ∷ elements b) p (suc (p - size a - 1)) (omega arith) ∙ r.0,
        rw (cond-false (ltb p (size a)) (depth a p) _ u, cond-false {A = ℕ} (eqb p (size a)) 0 _ f) (let q = r.1 in omega arith),
      )

pub depth_within : {E T : Type 0} (s : Shape E T) (p : ℕ) → depth s p ≤ size s
depth_within leaf p = omega arith
depth_within (node a i e t b) p =
    let l = depth_within a p in
    let r = depth_within b (p - size a - 1) in
    grind (arith, nat_tests)

module _ {E T : Type 0} {rows : List (Row E T)} {link : Option ℕ} {i : ℕ} {row : Row E T} where
  -- the two sides are lower
  pub lower : {P : Shape E T → Type 0} {t : ℕ} → link ≡ Some i → slice_get rows i ≡ Some row → ∥ ((s : Shape E T) × Under rows link s × P s) ∥₁ → height_at rows link ≡ t → (height_at rows row.left < t) × (height_at rows row.right < t)
  lower {P} {t} is at some m =
      let both : (w : (s : Shape E T) × Under rows link s × P s) → (height_at rows row.left < t) × (height_at rows row.right < t) =
      λ w.
      let o = opened w.0 is at w.1 in
      let h : height_at rows link ≡ tall (node o.a i row.element row.total o.b) = height_is w.0 w.1 ∙ ap tall o.is in
      let l = height_is o.a o.left in
      let r = height_is o.b o.right in
      (omega arith, omega arith) in
      (∥∥₁_elim some le_prop (λ w. (both w).0), ∥∥₁_elim some le_prop (λ w. (both w).1))
