-- The classes of a stretch of items are a stretch of the classes.
use Rattle.std.proofs.Common.{◌≡◌, ℕ, zero, suc, ◌+◌, ◌-◌, List, [], ◌∷◌, ◌++◌, map, length, get_or, take, drop, Some, None, Ok, Err, Option, Result, sym, refl, ap, ◌∙◌, arith}
use lib.ListN.{length-map}
use Rattle.std.specs.List.{slice_get, between}
use Rattle.std.proofs.lemmas.List.{map-append}
use Rattle.std.proofs.lemmas.Slice.{between_is, between_to_end}
use Rattle.tree.specs.Measures.{Operations, total_of}
use Rattle.tree.specs.Plain.{spliced, found, with_sides, around_answer}
use Rattle.bidi.specs.Items.{classes}
use Rattle.bidi.specs.declared.item.Item.{Item}

module _ {X Y : Type 0} (f : X → Y) where
  pub map-take : (n : ℕ) (xs : List X) → map f (take n xs) ≡ take n (map f xs)
  map-take zero xs = refl
  map-take (suc n) [] = refl
  map-take (suc n) (x ∷ xs) = ap (λ l. f x ∷ l) (map-take n xs)

  pub map-drop : (n : ℕ) (xs : List X) → map f (drop n xs) ≡ drop n (map f xs)
  map-drop zero xs = refl
  map-drop (suc n) [] = refl
  map-drop (suc n) (x ∷ xs) = map-drop n xs

  pub map-between : (i j : ℕ) (xs : List X) → map f (between i j xs) ≡ between i j (map f xs)
  map-between i j xs = map-take (j - i) (drop i xs) ∙ ap (take (j - i)) (map-drop i xs)

  pub map-spliced : (xs ys : List X) (i j : ℕ) → map f (spliced xs i j ys) ≡ spliced (map f xs) i j (map f ys)
  map-spliced xs ys i j =
      map-append f (take i xs) (ys ++ drop j xs) ∙ ap (λ l. l ++ map f (ys ++ drop j xs)) (map-take i xs)
      ∙ ap (λ l. take i (map f xs) ++ l) (map-append f ys (drop j xs) ∙ ap (λ l. map f ys ++ l) (map-drop j xs))

  pub map_at : (xs : List X) (i : ℕ) (d : Y) (x : X) → slice_get xs i ≡ Some x → f x ≡ get_or (map f xs) i d
  map_at [] i d x e = let z : ◌≡◌ {A = ℕ} 0 1 = cc in absurd (omega arith)
  map_at (y ∷ ys) zero d x e = let z : y ≡ x = cc in ap f (sym z)
  map_at (y ∷ ys) (suc i) d x e = map_at ys i d x e

pub length-classes : (items : List Item) → length (classes items) ≡ length items
length-classes items = length-map items (λ i. i.class)

pub classes_front : (items : List Item) (n : ℕ) → classes (between 0 n items) ≡ take n (classes items)
classes_front items n = let e : n - 0 ≡ n = omega arith in map-between (λ i. i.class) 0 n items ∙ ap (λ m. take m (classes items)) e

pub classes_rest : (items : List Item) (i n : ℕ) → n ≡ length items → classes (between i n items) ≡ drop i (classes items)
classes_rest items i n h = ap classes (between_to_end items i n (omega arith)) ∙ map-drop (λ i. i.class) i items

pub classes_between : (items : List Item) (i j : ℕ) → classes (between i j items) ≡ drop i (take j (classes items))
classes_between items i j = map-between (λ i. i.class) i j items ∙ between_is (classes items) i j

-- the three parts of an answer, or others
parts_in : {E T : Type 0} → T × E × T → Result (T × E × T) ℕ → T × E × T
parts_in d (Ok q) = q
parts_in d (Err n) = d

-- an element that was told between two totals is the one there, and the totals are those of its two sides
pub around_is : {E T : Type 0} (k : Operations E T) (xs : List E) (p : ℕ) (r : T × E × T) → Ok r ≡ around_answer k xs p → (slice_get xs p ≡ Some r.1) × (r.0 ≡ total_of k (take p xs)) × (r.2 ≡ total_of k (drop (p + 1) xs))
unfolding parts_in
around_is {E} k xs p r h = go (slice_get xs p) h
  where
    go : (o : Option E) → Ok r ≡ with_sides k xs p (found o) → (o ≡ Some r.1) × (r.0 ≡ total_of k (take p xs)) × (r.2 ≡ total_of k (drop (p + 1) xs))
    go None h = let z : ◌≡◌ {A = ℕ} 0 1 = cc in absurd (omega arith)
    go (Some y) h = let e = ap (parts_in r) h in (ap (λ (z : E). Some z) (sym (ap (λ q. q.1) e)), ap (λ q. q.0) e, ap (λ q. q.2) e)
