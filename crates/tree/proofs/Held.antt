-- What the rows below a link hold. Assumes nothing.
use Rattle.std.proofs.Common.{◌≡◌, ℕ, zero, suc, ◌+◌, ◌<◌, ◌≤◌, List, [], ◌∷◌, ◌++◌, length, Some, None, Option, sym, refl, ap, ◌∙◌, arith, length-append}
use mathlib.Core.Logic.{∥∥₁_elim}
use native.Mathlib.Bridge.{le_prop}
use Rattle.std.specs.List.{slice_get}
use Rattle.tree.specs.declared.row.Row.{Row}
use Rattle.tree.specs.Shapes.{Shape, leaf, node, tall, size, elements, row_of, Under}
use Rattle.tree.specs.Surgery.{height_at, row_height}

pub nth_within : {X : Type 0} (xs : List X) (i : ℕ) (x : X) → slice_get xs i ≡ Some x → i < length xs
nth_within [] i x e = let z : ◌≡◌ {A = ℕ} 0 1 = cc in omega arith
nth_within (y ∷ ys) zero x e = omega arith
nth_within (y ∷ ys) (suc i) x e = let h = nth_within ys i x e in omega arith

pub nth_left : {X : Type 0} (xs ys : List X) (i : ℕ) → i < length xs → slice_get (xs ++ ys) i ≡ slice_get xs i
nth_left [] ys i h = absurd (omega arith)
nth_left (x ∷ xs) ys zero h = refl
nth_left (x ∷ xs) ys (suc i) h = nth_left xs ys i (omega arith)

pub nth_right : {X : Type 0} (xs ys : List X) (i k : ℕ) → i ≡ length xs + k → slice_get (xs ++ ys) i ≡ slice_get ys k
nth_right [] ys i k h = let e : i ≡ k = omega arith in ap (slice_get ys) e
nth_right (x ∷ xs) ys zero k h = absurd (omega arith)
nth_right (x ∷ xs) ys (suc i) k h = nth_right xs ys i k (omega arith)

pub length-elements : {E T : Type 0} (s : Shape E T) → length (elements s) ≡ size s
length-elements leaf = refl
length-elements (node a i e t b) =
    let p = length-elements a in
    let q = length-elements b in
    let r = length-append (elements a) (e ∷ elements b) in
    omega arith

-- a link that leads to a row
pub record Opened {E T : Type 0} (rows : List (Row E T)) (i : ℕ) (r : Row E T) (s : Shape E T) : Type 0 where
  pub a : Shape E T
  pub b : Shape E T
  pub is : s ≡ node a i r.element r.total b
  pub at : i < length rows
  pub row : r ≡ row_of a r.element r.total b
  pub left : Under rows r.left a
  pub right : Under rows r.right b

module _ {E T : Type 0} {rows : List (Row E T)} {link : Option ℕ} where
  pub opened : {i : ℕ} {r : Row E T} (s : Shape E T) → link ≡ Some i → slice_get rows i ≡ Some r → Under rows link s → Opened rows i r s
  opened leaf is at w = let l = w.linked in let z : ◌≡◌ {A = ℕ} 0 1 = cc in absurd (omega arith)
  opened {i} {r} (node a n e t b) is at w =
      let l = w.linked in
      let same : n ≡ i = cc in
      let h = w.held.0 in
      let row : r ≡ row_of a e t b = cc in
      let named : e ≡ r.element = sym (ap (λ (x : Row E T). x.element) row) in
      let summed : t ≡ r.total = sym (ap (λ (x : Row E T). x.total) row) in
      record {
        a = a;
        b = b;
        is = ap (λ n. node a n e t b) same ∙ ap (λ x. node a i x t b) named ∙ ap (λ x. node a i r.element x b) summed;
        at = nth_within rows i r at;
        row = row ∙ ap (λ x. row_of a x t b) named ∙ ap (λ x. row_of a r.element x b) summed;
        left = record { linked = ap (λ (x : Row E T). x.left) row; held = w.held.1; few = let f = w.few in omega arith };
        right = record { linked = ap (λ (x : Row E T). x.right) row; held = w.held.2; few = let f = w.few in omega arith };
      }

  pub within : {i : ℕ} (s : Shape E T) → link ≡ Some i → Under rows link s → i < length rows
  within leaf is w = let l = w.linked in let z : ◌≡◌ {A = ℕ} 0 1 = cc in absurd (omega arith)
  within {i} (node a n e t b) is w =
      let l = w.linked in
      let same : n ≡ i = cc in
      let h = nth_within rows n _ w.held.0 in
      omega arith

  pub within_of : {P : Shape E T → Type 0} {i : ℕ} → link ≡ Some i → ∥ ((s : Shape E T) × Under rows link s × P s) ∥₁ → i < length rows
  within_of {P} {i} is some = ∥∥₁_elim some le_prop (λ w. within w.0 is w.1)

  pub height_is : (s : Shape E T) → Under rows link s → height_at rows link ≡ tall s
  height_is leaf w = ap (height_at rows) w.linked
  height_is (node a n e t b) w = ap (height_at rows) w.linked ∙ ap row_height w.held.0

  pub no_place : {p : ℕ} → link ≡ None → (s : Shape E T) → Under rows link s → p < size s → ⊥
  no_place is leaf w h = omega arith
  no_place is (node a n e t b) w h = let l = w.linked in let z : ◌≡◌ {A = ℕ} 0 1 = cc in omega arith

pub tall_size : {E T : Type 0} (s : Shape E T) → tall s ≤ size s
tall_size leaf = omega arith
tall_size (node a i e t b) = let p = tall_size a in let q = tall_size b in omega arith
