-- What the soundness of the rows gives: the elements, the totals and the depths of the one tree that stands in them.
use Rattle.std.proofs.Common.{◌≡◌, ℕ, ◌+◌, ◌-◌, ◌^◌, ◌<◌, ◌≤◌, min, List, length, take, drop, set, Some, sym, ap, ◌∙◌, subst, arith}
use mathlib.Core.List.{is_set}
use mathlib.Core.Logic.{∥∥₁_elim, ∥∥₁_map}
use native.Mathlib.Bridge.{le_prop}
use Rattle.std.specs.List.{slice_get, insert, remove}
use Rattle.tree.specs.Measures.{Operations, Laws, unit, total_of}
use Rattle.tree.specs.Plain.{first_over}
use Rattle.tree.specs.Shapes.{Shape, elements, depth, top_total, Totalled, Sound, shape_of}
use Rattle.tree.specs.Sides.{TotalsBeside, Around}
use Rattle.tree.specs.Surgery.{part_of}
use Rattle.tree.specs.Weights.{over, weight_of}
use Rattle.tree.specs.Changes.{Insertion, Removal, Setting}
use Rattle.tree.specs.Trees.{least, places_at}
use Rattle.tree.specs.declared.row.Row.{Row}
use Rattle.tree.specs.declared.row.Heads.{Heads}
use Rattle.tree.specs.declared.row.Part.{Part}
use Rattle.tree.proofs.Held.{length-elements}
use Rattle.tree.proofs.Shaping.{list_put, totalled_insert}
use Rattle.tree.proofs.Shrinking.{list_out, totalled_out}
use Rattle.tree.proofs.Setting.{list_changed, totalled_changed}
use Rattle.tree.proofs.Totals.{sum_lawful, mark_is}
use Rattle.tree.proofs.Weighing.{over_first}
use Rattle.tree.proofs.Depths.{least_at, sparse}
use Rattle.tree.proofs.Wholes.{whole_shape, totalled_prop, as_list, from_list}

-- the tree that the heads name in the rows is sound
abbrev pub Stands : {E T : Type 0} → List (Row E T) → Heads → Type 0
Stands rows h = ∥ (Sound rows h.root h.free h.used h.count) ∥₁

-- its shape
abbrev pub shape_in : {E T : Type 0} → List (Row E T) → Heads → Shape E T
shape_in rows h = shape_of rows h.root

module _ {E T : Type 0} {rows : List (Row E T)} {h : Heads} (some : Stands rows h) where
  -- what is at most one number whichever shape stands there
  pub number_is : (f : Shape E T → ℕ) (n : ℕ) → ((w : Sound rows h.root h.free h.used h.count) → f w.0 ≡ n) → f (shape_in rows h) ≡ n
  number_is f n all =
      let le : f (shape_in rows h) ≤ n = ∥∥₁_elim some le_prop (λ w. let a = all w in let b = ap f (whole_shape w.0 w.2) in omega arith) in
      let ge : n ≤ f (shape_in rows h) = ∥∥₁_elim some le_prop (λ w. let a = all w in let b = ap f (whole_shape w.0 w.2) in omega arith) in
      omega arith

  pub count_is : h.count ≡ length (elements (shape_in rows h))
  count_is = sym (number_is (λ s. length (elements s)) h.count (λ w. length-elements w.0 ∙ sym w.2.counted))

  pub count_fits : h.count ≤ min 4096 (length rows)
  count_fits = ∥∥₁_elim some le_prop (λ w. let a = w.2.counted in let b = w.2.pool.tallied in let c = w.2.pool.long in let d = w.2.pool.small in omega arith)

  pub deep_enough : (p : ℕ) → least (depth (shape_in rows h) p) ≤ length (elements (shape_in rows h))
  deep_enough p = ∥∥₁_elim some le_prop (λ w.
      let s = whole_shape w.0 w.2 in
      let a = least_at w.0 p w.2.balance in
      let b = length-elements w.0 in
      let c = ap (λ x. least (depth x p)) s in
      let d = ap (λ x. length (elements x)) s in
      omega arith)

  pub sparse_enough : (k : ℕ) → places_at (depth (shape_in rows h)) k (length (elements (shape_in rows h))) ≤ 2 ^ (k - 1)
  sparse_enough k = let a = sparse (shape_in rows h) k in let b = ap (places_at (depth (shape_in rows h)) k) (length-elements (shape_in rows h)) in omega arith

-- an element is found in one way
pub found_is : {E T : Type 0} {rows : List (Row E T)} {h : Heads} → IsSet E → Stands rows h → (p : ℕ) (x : E) → ((w : Sound rows h.root h.free h.used h.count) → slice_get (elements w.0) p ≡ Some x) → slice_get (elements (shape_in rows h)) p ≡ Some x
found_is {E} {rows} {h} is_a_set some p x all =
    from_list _ x (∥∥₁_elim some (is_set is_a_set _ _) (λ w. ap (λ s. as_list (slice_get (elements s) p)) (whole_shape w.0 w.2) ∙ ap as_list (all w)))

module _ {E T : Type 0} {k : Operations E T} (laws : Laws k) {rows : List (Row E T)} {h : Heads} (some : Stands rows h) (is_a_set : IsSet T) (p : ℕ) (r : T × E × T) (all : (w : Sound rows h.root h.free h.used h.count) → Around k w.0 p k.unit k.unit r) (t : Totalled k (shape_in rows h)) where
  both_sides : (w : Sound rows h.root h.free h.used h.count) → TotalsBeside k (shape_in rows h) p k.unit k.unit r.0 r.2
  both_sides w = let s = whole_shape w.0 w.2 in subst (λ x. TotalsBeside k x p k.unit k.unit r.0 r.2) (sym s) ((all w).sides (subst (Totalled k) s t) unit unit)

  pub before_is : r.0 ≡ total_of k (take p (elements (shape_in rows h)))
  before_is = ∥∥₁_elim some (is_a_set _ _) (λ w. (both_sides w).0 ∙ laws.left _ (sum_lawful laws (take p (elements (shape_in rows h)))))

  pub behind_is : r.2 ≡ total_of k (drop (p + 1) (elements (shape_in rows h)))
  behind_is = ∥∥₁_elim some (is_a_set _ _) (λ w. (both_sides w).1 ∙ laws.right _ (sum_lawful laws (drop (p + 1) (elements (shape_in rows h)))))

module _ {E T : Type 0} (k : Operations E T) {old rows : List (Row E T)} {was is : Heads} {place : ℕ} {x : E} (some : Stands old was) where
  pub sound_inserted : Insertion k old rows was is place x → Stands rows is
  sound_inserted t = ∥∥₁_map some (λ w. let r = t w.0 w.1 w.2 in (_, r.1, r.2))

  pub elements_inserted : IsSet E → place ≤ was.count → Insertion k old rows was is place x → elements (shape_in rows is) ≡ insert (elements (shape_in old was)) place x
  elements_inserted is_a_set h t = ∥∥₁_elim some (is_set is_a_set _ _) (λ w.
      let r = t w.0 w.1 w.2 in
      let n = w.2.counted in
      ap elements (whole_shape _ r.2) ∙ list_put k w.0 place r.0 x (omega arith) ∙ sym (ap (λ s. insert (elements s) place x) (whole_shape w.0 w.2)))

  pub totals_inserted : IsSet T → Insertion k old rows was is place x → Totalled k (shape_in old was) → Totalled k (shape_in rows is)
  totals_inserted is_a_set t h = ∥∥₁_elim some (totalled_prop k is_a_set _) (λ w.
      let r = t w.0 w.1 w.2 in
      subst (Totalled k) (sym (whole_shape _ r.2)) (totalled_insert k w.0 place r.0 x (subst (Totalled k) (whole_shape w.0 w.2) h)))

  pub sound_removed : Removal k old rows was is place x → Stands rows is
  sound_removed t = ∥∥₁_map some (λ w. let r = (t w.0 w.1 w.2).0 in (_, r.0, r.1))

  pub elements_removed : IsSet E → place < was.count → Removal k old rows was is place x → elements (shape_in rows is) ≡ remove (elements (shape_in old was)) place
  elements_removed is_a_set h t = ∥∥₁_elim some (is_set is_a_set _ _) (λ w.
      let r = (t w.0 w.1 w.2).0 in
      let n = w.2.counted in
      ap elements (whole_shape _ r.1) ∙ list_out k w.0 place (omega arith) ∙ sym (ap (λ s. remove (elements s) place) (whole_shape w.0 w.2)))

  pub totals_removed : IsSet T → Removal k old rows was is place x → Totalled k (shape_in old was) → Totalled k (shape_in rows is)
  totals_removed is_a_set t h = ∥∥₁_elim some (totalled_prop k is_a_set _) (λ w.
      let r = (t w.0 w.1 w.2).0 in
      subst (Totalled k) (sym (whole_shape _ r.1)) (totalled_out k w.0 place (subst (Totalled k) (whole_shape w.0 w.2) h)))

  pub found_removed : IsSet E → Removal k old rows was is place x → slice_get (elements (shape_in old was)) place ≡ Some x
  found_removed is_a_set t = found_is {rows = old} is_a_set some place x (λ w. (t w.0 w.1 w.2).1)

module _ {E T : Type 0} (k : Operations E T) {old rows : List (Row E T)} {h : Heads} {place : ℕ} {x : E} (some : Stands old h) where
  pub sound_set : Setting k old rows h place x → Stands rows h
  sound_set t = ∥∥₁_map some (λ w. (_, w.1, t w.0 w.1 w.2))

  pub elements_set : IsSet E → Setting k old rows h place x → elements (shape_in rows h) ≡ set (elements (shape_in old h)) place x
  elements_set is_a_set t = ∥∥₁_elim some (is_set is_a_set _ _) (λ w.
      ap elements (whole_shape _ (t w.0 w.1 w.2)) ∙ list_changed k w.0 place x ∙ sym (ap (λ s. set (elements s) place x) (whole_shape w.0 w.2)))

  pub totals_set : IsSet T → Setting k old rows h place x → Totalled k (shape_in old h) → Totalled k (shape_in rows h)
  totals_set is_a_set t u = ∥∥₁_elim some (totalled_prop k is_a_set _) (λ w.
      subst (Totalled k) (sym (whole_shape _ (t w.0 w.1 w.2))) (totalled_changed k w.0 place x (subst (Totalled k) (whole_shape w.0 w.2) u)))

module _ {E T : Type 0} {k : Operations E T} (laws : Laws k) {rows : List (Row E T)} {h : Heads} (some : Stands rows h) (t : Totalled k (shape_in rows h)) where
  few_elements : length (elements (shape_in rows h)) ≤ 4096
  few_elements = ∥∥₁_elim some le_prop (λ w.
      let a = ap (λ s. length (elements s)) (whole_shape w.0 w.2) in
      let b = length-elements w.0 in
      let c = w.2.under.few in
      omega arith)

  -- the weight that the root stores is that of all elements
  pub weight_in : (p : Part T) → ((w : Sound rows h.root h.free h.used h.count) → p ≡ part_of k w.0) → k.weight p.total ≡ k.weight (total_of k (elements (shape_in rows h)))
  weight_in p all =
      let same : (w : Sound rows h.root h.free h.used h.count) → k.weight p.total ≡ k.weight (top_total k (shape_in rows h)) =
      λ w. ap (λ x. k.weight x.total) (all w) ∙ ap (λ s. k.weight (top_total k s)) (sym (whole_shape w.0 w.2)) in
      let le : k.weight p.total ≤ k.weight (top_total k (shape_in rows h)) = ∥∥₁_elim some le_prop (λ w. let e = same w in omega arith) in
      let ge : k.weight (top_total k (shape_in rows h)) ≤ k.weight p.total = ∥∥₁_elim some le_prop (λ w. let e = same w in omega arith) in
      let e = ap k.weight (mark_is laws (shape_in rows h) t) in
      omega arith

  -- the place that was sought by single weights is the first whose elements up to it weigh more
  pub place_in : (w r : ℕ) → ((x : Sound rows h.root h.free h.used h.count) → Totalled k x.0 → r ≡ over (weight_of k) w (elements x.0)) → r ≡ first_over k w k.unit (elements (shape_in rows h))
  place_in w r all =
      let z = laws.none in
      let n = few_elements in
      let a : over (weight_of k) w (elements (shape_in rows h)) ≡ r = number_is {h = h} some (λ s. over (weight_of k) w (elements s)) r (λ x. sym (all x (subst (Totalled k) (whole_shape x.0 x.2) t))) in
      let b = over_first laws w k.unit (elements (shape_in rows h)) unit (omega arith) (omega arith) in
      let e : w - k.weight k.unit ≡ w = omega arith in
      sym (b ∙ ap (λ m. over (weight_of k) m (elements (shape_in rows h))) e ∙ a)
