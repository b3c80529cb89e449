-- One element more out of a stretch, and one more into it.
use Rattle.std.proofs.Common.{◌≡◌, ℕ, zero, suc, ◌+◌, ◌-◌, ◌<◌, ◌≤◌, List, [], ◌∷◌, ◌++◌, length, get_or, take, drop, Some, sym, refl, ap, ◌∙◌, ap₂, append_assoc, arith, length-append, length-drop}
use Rattle.std.specs.List.{slice_get, between}
use Rattle.std.proofs.lemmas.Slice.{between_to_end}
use Rattle.std.proofs.lemmas.List.{take_at, drop_at, drop-drop, take_more, take-append-drop, length-take-le}
use Rattle.tree.specs.Plain.{after_remove, after_insert, spliced}
use Rattle.tree.proofs.Plains.{remove_found, insert_fits}
use Rattle.tree.proofs.Stretches.{take_past, drop_past}

nth_some : {X : Type 0} (xs : List X) (i : ℕ) → i < length xs → (x : X) × (slice_get xs i ≡ Some x)
nth_some [] i h = absurd (omega arith)
nth_some (x ∷ xs) zero h = (x, refl)
nth_some (x ∷ xs) (suc i) h = nth_some xs i (omega arith)

module _ {E : Type 0} (xs : List E) (first n : ℕ) (h : first ≤ n) (h' : n < length xs) where
  ahead : length (take first xs) ≡ first
  ahead = length-take-le first xs (omega arith)

  -- taking out at `first` drops one more of what follows
  pub remove_more : after_remove (spliced xs first n []) first ≡ spliced xs first (n + 1) []
  remove_more =
      let ys = take first xs ++ drop n xs in
      let a = ahead in
      let l = length-append (take first xs) (drop n xs) in
      let m = length-drop n xs in
      let f = nth_some ys first (omega arith) in
      sym (remove_found ys first f.0 f.1).1
      ∙ ap (λ x. x ++ drop (suc first) ys) (take_at (take first xs) (drop n xs) first a)
      ∙ ap (λ x. take first xs ++ x) (let e : suc first ≡ first + 1 = omega arith in ap (λ i. drop i ys) e ∙ sym (drop-drop 1 first ys) ∙ ap (drop 1) (drop_at (take first xs) (drop n xs) first a) ∙ drop-drop 1 n xs)

module _ {E : Type 0} (room : ℕ) (xs ys : List E) (p i : ℕ) (h : p ≤ length xs) (h' : i < length ys) (r : length xs + length ys ≤ room) where
  -- putting in behind those that were put in
  pub insert_more : (d : E) (at : ℕ) (y : E) → y ≡ get_or ys i d → at ≡ p + i → after_insert room (spliced xs p p (take i ys)) at y ≡ spliced xs p p (take (i + 1) ys)
  insert_more d at y is e =
      let a = take p xs ++ take i ys in
      let zs = take p xs ++ (take i ys ++ drop p xs) in
      let lp = length-take-le p xs h in
      let li = length-take-le i ys (omega arith) in
      let la = length-append (take p xs) (take i ys) in
      let ld = length-drop p xs in
      let lr = length-append (take i ys) (drop p xs) in
      let lz = length-append (take p xs) (take i ys ++ drop p xs) in
      let re : zs ≡ a ++ drop p xs = sym (append_assoc (take p xs) (take i ys) (drop p xs)) in
      sym (insert_fits room zs at y (omega arith) (omega arith)).1
      ∙ ap (λ l. take at l ++ (y ∷ drop at l)) re
      ∙ ap (λ l. l ++ (y ∷ drop at (a ++ drop p xs))) (take_at a (drop p xs) at (omega arith))
      ∙ ap (λ l. a ++ (y ∷ l)) (drop_at a (drop p xs) at (omega arith))
      ∙ append_assoc (take p xs) (take i ys) (y ∷ drop p xs)
      ∙ ap (λ l. take p xs ++ l) (sym (append_assoc (take i ys) (y ∷ []) (drop p xs)) ∙ ap (λ l. l ++ drop p xs) (ap (λ x. take i ys ++ (x ∷ [])) is ∙ sym (take_more ys i d h')))

-- what is taken out first and put in then is a splice
pub splice_splice : {E : Type 0} (xs ys : List E) (first end : ℕ) → first ≤ length xs → spliced (spliced xs first end []) first first ys ≡ spliced xs first end ys
splice_splice xs ys first end h =
    let l = length-take-le first xs h in
    ap (λ x. x ++ (ys ++ drop first (take first xs ++ drop end xs))) (take_at (take first xs) (drop end xs) first l)
    ∙ ap (λ x. take first xs ++ (ys ++ x)) (drop_at (take first xs) (drop end xs) first l)

-- what is written over first, and the rest of the stretch replaced then, is a splice
pub splice_on : {E : Type 0} (xs ys zs : List E) (first next end : ℕ) → next ≡ first + length ys → next ≤ end → end ≤ length xs → spliced (spliced xs first next ys) next end zs ≡ spliced xs first end (ys ++ zs)
splice_on xs ys zs first next end is h h' =
    let a = take first xs in
    let l = length-take-le first xs (omega arith) in
    let rest = drop next xs in
    let far : next + (end - next) ≡ end = omega arith in
    let front = take_past a (ys ++ rest) next (length ys) (omega arith) ∙ ap (λ m. a ++ m) (take_at ys rest (length ys) refl) in
    let back =
    drop_past a (ys ++ rest) end (length ys + (end - next)) (omega arith) ∙ drop_past ys rest (length ys + (end - next)) (end - next) refl
    ∙ drop-drop (end - next) next xs ∙ ap (λ n. drop n xs) far in
    ap₂ (λ m r. m ++ (zs ++ r)) front back ∙ append_assoc a ys _ ∙ ap (λ m. a ++ m) (sym (append_assoc ys zs _))

-- a list cut in two
pub halves : {E : Type 0} (ys : List E) (n : ℕ) → between 0 n ys ++ between n (length ys) ys ≡ ys
halves ys n =
    let e : n - 0 ≡ n = omega arith in
    ap₂ (λ a b. a ++ b) (ap (λ m. take m ys) e) (between_to_end ys n (length ys) (omega arith)) ∙ take-append-drop n ys

pub length-splice : {E : Type 0} (xs ys : List E) (first end : ℕ) → first ≤ end → end ≤ length xs → length (spliced xs first end ys) ≡ length xs - (end - first) + length ys
length-splice xs ys first end h h' =
    let a = length-append (take first xs) (ys ++ drop end xs) in
    let b = length-append ys (drop end xs) in
    let c = length-take-le first xs (omega arith) in
    let d = length-drop end xs in
    omega arith
