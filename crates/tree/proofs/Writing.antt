-- What a write to the rows leaves. Assumes nothing.
use Rattle.std.proofs.Common.{◌≡◌, ℕ, zero, suc, ◌+◌, ◌<◌, ◌≤◌, eqb, List, [], ◌∷◌, length, set, Some, Option, refl, ap, ◌∙◌, arith}
use Rattle.std.specs.List.{slice_get}
use Rattle.std.proofs.lemmas.Bool.{eq-eqb, ne_eqb, cond-true, cond-false}
use Rattle.tree.specs.declared.row.Row.{Row}
use Rattle.tree.specs.Shapes.{Shape, leaf, node, row_of, Rep, Under, uses, one}
use Rattle.tree.specs.Surgery.{Split, Becomes}

pub one_here : (i n : ℕ) → i ≡ n → one i n ≡ 1
unfolding one
one_here i n h = cond-true {A = ℕ} (eqb i n) 1 0 (eq-eqb i n h)

pub one_else : (i n : ℕ) → (i ≡ n → ⊥) → one i n ≡ 0
unfolding one
one_else i n h = cond-false {A = ℕ} (eqb i n) 1 0 (ne_eqb i n h)

-- a row that a shape does not use is not i
pub unused : (i n : ℕ) → one i n ≡ 0 → i ≡ n → ⊥
unused i n z h = let o = one_here i n h in omega arith

pub nth_set_here : {X : Type 0} (xs : List X) (i : ℕ) (x : X) → i < length xs → slice_get (set xs i x) i ≡ Some x
nth_set_here [] i x h = absurd (omega arith)
nth_set_here (y ∷ ys) zero x h = refl
nth_set_here (y ∷ ys) (suc i) x h = nth_set_here ys i x (omega arith)

pub nth_set_else : {X : Type 0} (xs : List X) (i n : ℕ) (x : X) → (i ≡ n → ⊥) → slice_get (set xs i x) n ≡ slice_get xs n
nth_set_else [] i n x h = refl
nth_set_else (y ∷ ys) zero zero x h = absurd (h refl)
nth_set_else (y ∷ ys) zero (suc n) x h = refl
nth_set_else (y ∷ ys) (suc i) zero x h = refl
nth_set_else (y ∷ ys) (suc i) (suc n) x h = nth_set_else ys i n x (λ e. h (ap suc e))

module _ {E T : Type 0} (old rows : List (Row E T)) where
  pub keep : (s : Shape E T) → ((n : ℕ) → 0 < uses s n → slice_get rows n ≡ slice_get old n) → Rep old s → Rep rows s
  keep leaf same h = tt
  keep (node a i e t b) same h =
      let o = one_here i i refl in (
        same i (omega arith) ∙ h.0,
        keep a (λ n p. same n (omega arith)) h.1,
        keep b (λ n p. same n (omega arith)) h.2,
      )

module _ {E T : Type 0} {old rows : List (Row E T)} where
  -- what is apart from what was put below a link stands as it stood
  pub spared : {link other : Option ℕ} {s : Shape E T} (x : Shape E T) → Becomes old rows link s → ((n : ℕ) → uses x n + uses s n ≤ 1) → Under old other x → Under rows other x
  spared {s} x t apart w = record {
    linked = w.linked;
    held = keep old rows x (λ n p. t.kept n (let q = apart n in omega arith)) w.held;
    few = w.few;
  }

  pub wrote : {left right : Option ℕ} {i : ℕ} (a b : Shape E T) (e : E) (t : T) → Split old left i right a b → rows ≡ set old i (row_of a e t b) → Becomes old rows (Some i) (node a i e t b)
  wrote {i} a b e t w is =
      let o = one_here i i refl in
      let same : (n : ℕ) → one i n ≡ 0 → slice_get rows n ≡ slice_get old n = λ n z. ap (λ r. slice_get r n) is ∙ nth_set_else old i n _ (unused i n z) in
      record {
        under = record {
          linked = refl;
          held = (
            ap (λ r. slice_get r i) is ∙ nth_set_here old i _ w.at,
            keep old rows a (λ n p. same n (let q = w.apart n in omega arith)) w.on_left.held,
            keep old rows b (λ n p. same n (let q = w.apart n in omega arith)) w.on_right.held,
          );
          few = w.few;
        };
        kept = λ n z. same n (omega arith);
      }

module _ {E T : Type 0} {old mid rows : List (Row E T)} where
  pub after : {l link : Option ℕ} {s : Shape E T} (x : Shape E T) → Becomes old mid l s → Becomes mid rows link x → ((n : ℕ) → uses x n ≡ 0 → uses s n ≡ 0) → Becomes old rows link x
  after x t v less = record {
    under = v.under;
    kept = λ n z. v.kept n z ∙ t.kept n (less n z);
  }
