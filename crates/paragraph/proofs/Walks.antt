-- Contexts along a list, and where they agree.
use Rattle.std.proofs.Common.{◌≡◌, ℕ, ◌+◌, ◌-◌, ◌<◌, ◌≤◌, List, [], ◌∷◌, ◌++◌, length, get_or, take, drop, sym, refl, ap, ◌∙◌, ap₂, ⊎_elim, arith}
use Rattle.std.proofs.lemmas.List.{take-append-drop, drop-drop, take_more, drop_more, take-take, drop-take, get_or-take, get_or-drop}
use Rattle.std.proofs.lemmas.Bool.{cases_lt}
use Rattle.rules.specs.Contexts.{after, before, level_at}
use Rattle.rules.specs.declared.classes.Class.{Class}
use Rattle.rules.specs.declared.classes.Side.{Side}
use Rattle.rules.specs.declared.contexts.Left.{Left}
use Rattle.rules.specs.declared.contexts.Right.{Right}
use Rattle.paragraph.specs.Steps.{none, left, right, level_in}
use Rattle.paragraph.specs.Edges.{Other}

left_append : (l : Left) (xs ys : List Class) → left l (xs ++ ys) ≡ left (left l xs) ys
left_append l [] ys = refl
left_append l (x ∷ xs) ys = left_append (after l x) xs ys

right_append : (r : Right) (xs ys : List Class) → right r (xs ++ ys) ≡ right (right r ys) xs
right_append r [] ys = refl
right_append r (x ∷ xs) ys = ap (before x) (right_append r xs ys)

-- one item more
pub left_more : (l : Left) (xs : List Class) (i : ℕ) → i < length xs → left l (take (i + 1) xs) ≡ after (left l (take i xs)) (get_or xs i none)
left_more l xs i h = ap (left l) (take_more xs i none h) ∙ left_append l (take i xs) (get_or xs i none ∷ [])

pub right_more : (r : Right) (xs : List Class) (i : ℕ) → i < length xs → right r (drop i xs) ≡ before (get_or xs i none) (right r (drop (i + 1) xs))
right_more r xs i h = ap (right r) (drop_more xs i none h)

-- a stretch more
left_on : (l : Left) (xs : List Class) (i n : ℕ) → left l (take (i + n) xs) ≡ left (left l (take i xs)) (take n (drop i xs))
left_on l xs i n = ap (left l) (take_on xs i n) ∙ left_append l (take i xs) (take n (drop i xs))
  where
    take_on : (xs : List Class) (i n : ℕ) → take (i + n) xs ≡ take i xs ++ take n (drop i xs)
    take_on xs i n =
        sym (take-append-drop i (take (i + n) xs))
        ∙ ap₂ (λ (us vs : List Class). us ++ vs) (take-take i (i + n) xs (omega arith)) (drop-take i n xs)

right_on : (r : Right) (xs : List Class) (i n : ℕ) → right r (drop i xs) ≡ right (right r (drop (i + n) xs)) (take n (drop i xs))
right_on r xs i n =
    ap (right r) (sym (take-append-drop n (drop i xs)))
    ∙ right_append r (take n (drop i xs)) (drop n (drop i xs))
    ∙ ap (λ (zs : List Class). right (right r zs) (take n (drop i xs))) (drop-drop n i xs)

-- where right contexts agree they agree further left, and left contexts further right
pub right_agree : (r r' : Right) (xs : List Class) (i k : ℕ) → k ≤ i → right r (drop i xs) ≡ right r' (drop i xs) → right r (drop k xs) ≡ right r' (drop k xs)
right_agree r r' xs i k h e =
    let s : k + (i - k) ≡ i = omega arith in
    right_on r xs k (i - k)
    ∙ ap (λ (c : Right). right c (take (i - k) (drop k xs))) (ap (λ (n : ℕ). right r (drop n xs)) s ∙ e ∙ sym (ap (λ (n : ℕ). right r' (drop n xs)) s))
    ∙ sym (right_on r' xs k (i - k))

pub left_agree : (l l' : Left) (xs : List Class) (i k : ℕ) → i ≤ k → left l (take i xs) ≡ left l' (take i xs) → left l (take k xs) ≡ left l' (take k xs)
left_agree l l' xs i k h e =
    let s : k ≡ i + (k - i) = omega arith in
    ap (λ (n : ℕ). left l (take n xs)) s
    ∙ left_on l xs i (k - i)
    ∙ ap (λ (c : Left). left c (take (k - i) (drop i xs))) e
    ∙ sym (left_on l' xs i (k - i))
    ∙ sym (ap (λ (n : ℕ). left l' (take n xs)) s)

-- so no item further left, or right, has another level
same_level : (b : Side) {l l' : Left} {x x' : Class} {r r' : Right} → l ≡ l' → x ≡ x' → r ≡ r' → level_at b l x r ≡ level_at b l' x' r'
same_level b p q s = λ t. level_at b (p t) (q t) (s t)

pub none_below : (b : Side) (l : Left) (r r' : Right) (xs : List Class) (i : ℕ) → right r (drop i xs) ≡ right r' (drop i xs) → (k : ℕ) → Other b l r b l r' xs k → i ≤ k
none_below b l r r' xs i e k o =
    ⊎_elim (λ (h : k < i). absurd (o.1 (same_level b {l = left l (take k xs)} {x = get_or xs k none} refl refl (right_agree r r' xs i (k + 1) (omega arith) e)))) (λ h. h) (cases_lt k i)

pub none_above : (b : Side) (l l' : Left) (r : Right) (xs : List Class) (i : ℕ) → left l (take i xs) ≡ left l' (take i xs) → (k : ℕ) → Other b l r b l' r xs k → k < i
none_above b l l' r xs i e k o =
    ⊎_elim (λ h. h) (λ h. absurd (o.1 (same_level b {x = get_or xs k none} {r = right r (drop (k + 1) xs)} (left_agree l l' xs i k h e) refl refl))) (cases_lt k i)

-- the level in a part is the level in the whole
right_part : (r : Right) (xs : List Class) (i n p : ℕ) → i + n ≡ p → right r (drop i xs) ≡ right (right r (drop p xs)) (drop i (take p xs))
right_part r xs i n p e =
    right_on r xs i n
    ∙ ap (right (right r (drop (i + n) xs))) (sym (drop-take i n xs))
    ∙ ap (λ (p : ℕ). right (right r (drop p xs)) (drop i (take p xs))) e

pub in_front : (b : Side) (l : Left) (r : Right) (xs : List Class) (p i : ℕ) → i < p → level_in b l r xs i ≡ level_in b l (right r (drop p xs)) (take p xs) i
in_front b l r xs p i h =
    same_level b (ap (left l) (sym (take-take i p xs (omega arith)))) (sym (get_or-take p xs i none h))
    (right_part r xs (i + 1) (p - (i + 1)) p (omega arith))

pub in_rest : (b : Side) (l : Left) (r : Right) (xs : List Class) (p k : ℕ) → level_in b l r xs (p + k) ≡ level_in b (left l (take p xs)) r (drop p xs) k
in_rest b l r xs p k =
    let e : p + k + 1 ≡ p + (k + 1) = omega arith in
    same_level b (left_on l xs p k) (sym (get_or-drop p xs k none))
    (ap (λ (n : ℕ). right r (drop n xs)) e ∙ ap (right r) (sym (drop-drop (k + 1) p xs)))
