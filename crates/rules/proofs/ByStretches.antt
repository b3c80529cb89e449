-- Columns by stretches of places.
use Rattle.std.proofs.Common.{◌≡◌, ℕ, zero, suc, ◌+◌, ◌-◌, ◌<◌, ◌≤◌, List, [], ◌∷◌, ◌++◌, length, get_or, take, drop, sum_by, sum, sym, refl, ap, ◌∙◌, subst, ⊎_elim, arith}
use Rattle.std.specs.List.{AllByRecursion}
use Rattle.std.proofs.lemmas.List.{drop_more}
use Rattle.std.proofs.lemmas.List.Sums.{sum_by-cons}
use Rattle.std.proofs.lemmas.Bool.{cases_lt}
use Rattle.rules.specs.Order.{places, reordered, highest, at, L2}
use Rattle.rules.specs.Order.{before, column_of}
use Rattle.rules.specs.Stretches.{span, Stretch, ColumnsByStretches, WidthsAreSums, width_between}
use Rattle.rules.proofs.Reversing.{Begins, Ends}
use Rattle.rules.proofs.TwoReversals.{begun_above}
use Rattle.rules.proofs.AroundItem.{Apart, twice}
use Rattle.rules.proofs.Higher.{higher, all_levels, column_in, at_level_zero, at_level_one, at_level_two}

places_add : (s m n : ℕ) → places s (m + n) ≡ places s m ++ places (s + m) n
places_add s zero n =
    let e : 0 + n ≡ n = omega arith in
    let f : s ≡ s + 0 = omega arith in
    ap (places s) e ∙ ap (λ i. places i n) f
places_add s (suc m) n =
    let e : suc m + n ≡ suc (m + n) = omega arith in
    let f : suc s + m ≡ s + suc m = omega arith in
    ap (places s) e ∙ ap (λ l. s ∷ l) (places_add (suc s) m n ∙ ap (λ i. places (suc s) m ++ places i n) f)

pub places_more : (n : ℕ) → places 0 (n + 1) ≡ places 0 n ++ (n ∷ [])
places_more n = let e : 0 + n ≡ n = omega arith in places_add 0 n 1 ∙ ap (λ m. places 0 n ++ (m ∷ [])) e

pub span_cut : (i j m : ℕ) → i ≤ j → j ≤ m → span i m ≡ span i j ++ span j m
span_cut i j m h k =
    let e : m - i ≡ (j - i) + (m - j) = omega arith in
    let f : i + (j - i) ≡ j = omega arith in
    ap (places i) e ∙ places_add i (j - i) (m - j) ∙ ap (λ s. span i j ++ places s (m - j)) f

pub span_head : (i m : ℕ) → i < m → span i m ≡ i ∷ span (suc i) m
span_head i m h = let e : m - i ≡ suc (m - suc i) = omega arith in ap (places i) e

pub span_none : (i m : ℕ) → m ≤ i → span i m ≡ []
span_none i m h = let e : m - i ≡ 0 = omega arith in ap (places i) e

all_places : (P : ℕ → Type 0) (s n : ℕ) → ((i : ℕ) → s ≤ i → i < s + n → P i) → AllByRecursion P (places s n)
all_places P s zero h = tt
all_places P s (suc n) h = (h s (omega arith) (omega arith), all_places P (suc s) n (λ i u v. h i (omega arith) (omega arith)))

pub all_span : (P : ℕ → Type 0) (i j : ℕ) → ((n : ℕ) → i ≤ n → n < j → P n) → AllByRecursion P (span i j)
all_span P i j h = all_places P i (j - i) (λ n u v. h n u (omega arith))

pub apart_below : (p i : ℕ) → i ≤ p → (s : ℕ) → Apart p (span s i)
apart_below p i h s = all_span (λ q. p ≡ q → ⊥) s i (λ n u v e. omega arith)

pub apart_above : (p i j : ℕ) → p < i → Apart p (span i j)
apart_above p i j h = all_span (λ q. p ≡ q → ⊥) i j (λ n u v e. omega arith)

module _ (level : ℕ → ℕ) (k : ℕ) where
  ends_span : (a c : ℕ) → a ≤ c → ((i : ℕ) → suc i ≡ c → level i < k) → Ends level k (span a c)
  ends_span a zero h low = subst (Ends level k) (sym (span_none a 0 (omega arith))) Ends.none
  ends_span a (suc c) h low =
      ⊎_elim
      (λ lt. subst (Ends level k) (sym (span_cut a c (suc c) (omega arith) (omega arith) ∙ ap (λ l. span a c ++ l) (span_head c (suc c) (omega arith) ∙ ap (λ l. c ∷ l) (span_none (suc c) (suc c) (omega arith))))) (Ends.last (span a c) c (low c refl)))
      (λ le. subst (Ends level k) (sym (span_none a (suc c) le)) Ends.none)
      (cases_lt a (suc c))

  begins_span : (b n : ℕ) → (b < n → level b < k) → Begins level k (span b n)
  begins_span b n low =
      ⊎_elim
      (λ lt. subst (Begins level k) (sym (span_head b n lt)) (low lt))
      (λ le. subst (Begins level k) (sym (span_none b n le)) tt)
      (cases_lt b n)

-- the stretch of level 2 lies within that of level 1
module _ (levels : List ℕ) (p a b c d : ℕ) (s : Stretch levels 1 p a b) (t : Stretch levels 2 p c d) where
  nested_left : a ≤ c
  nested_left = at a refl
    where
      at : (n : ℕ) → a ≡ n → a ≤ c
      at zero e = omega arith
      at (suc n) e =
          ⊎_elim
          (λ lt. absurd (omega (arith, s.left n (sym e), t.high n (omega arith) (omega (arith, s.from, t.to)))))
          (λ le. le)
          (cases_lt c a)

  nested_right : d ≤ b
  nested_right =
      ⊎_elim
      (λ lt. absurd (omega (arith, s.right (omega (arith, t.ends)), t.high b (omega (arith, s.to, t.from)) lt)))
      (λ le. le)
      (cases_lt b d)

pub columns_by_stretches : ColumnsByStretches
unfolding L2
columns_by_stretches levels widths p inside =
    let n : ℕ = length levels in
    let level : ℕ → ℕ = at levels in
    let w : ℕ → ℕ = at widths in
    let next : suc p ≡ p + 1 = omega arith in
    let all : n ≡ n - 0 = omega arith in
    let m : ℕ = highest levels in
    let above : 2 + m ≡ suc (suc m) = omega arith in
    let in_order : (l : List ℕ) → span 0 n ≡ l → column_of levels widths p ≡ column_in level w p m l =
    λ l e. ap (λ v. sum_by w (before p v)) (sym (begun_above levels 2 (places 0 n)) ∙ ap (λ k. reordered level k (places 0 n)) above ∙ all_levels level m (places 0 n) ∙ ap (λ v. twice level (higher level m v)) (ap (places 0) all ∙ e)) in (
      λ e.
          in_order (span 0 p ++ (p ∷ span (suc p) n)) (span_cut 0 p n (omega arith) (omega arith) ∙ ap (λ l. span 0 p ++ l) (span_head p n inside))
          ∙ at_level_zero level w p m (span 0 p) (span (suc p) n) (omega arith) (apart_below p p (omega arith) 0),
      λ a b e s.
          let f : a ≤ p = s.from in
          let g : p < b = s.to in
          let h : b ≤ n = s.ends in
          let mid : span a b ≡ span a p ++ (p ∷ span (suc p) b) = span_cut a p b f (omega arith) ∙ ap (λ l. span a p ++ l) (span_head p b g) in
          in_order (span 0 a ++ ((span a p ++ (p ∷ span (suc p) b)) ++ span b n))
          (span_cut 0 a n (omega arith) (omega arith) ∙ ap (λ l. span 0 a ++ l) (span_cut a b n (omega arith) h ∙ ap (λ l. l ++ span b n) mid))
          ∙ at_level_one level w p m (ends_span level 1 0 a (omega arith) s.left) (span a p) (span (suc p) b) (span b n) (begins_span level 1 b n s.right) (omega arith)
          (subst (AllByRecursion (λ z. 1 ≤ level z)) mid (all_span (λ z. 1 ≤ level z) a b s.high))
          (apart_below p a f 0) (apart_above p (suc p) b (omega arith))
          ∙ ap (λ i. width_between widths 0 a + width_between widths i b) next,
      λ a b c d e s t.
          let f : a ≤ p = s.from in
          let g : p < b = s.to in
          let h : b ≤ n = s.ends in
          let f2 : c ≤ p = t.from in
          let g2 : p < d = t.to in
          let h2 : d ≤ n = t.ends in
          let ac : a ≤ c = nested_left levels p a b c d s t in
          let db : d ≤ b = nested_right levels p a b c d s t in
          let mid : span c d ≡ span c p ++ (p ∷ span (suc p) d) = span_cut c p d f2 (omega arith) ∙ ap (λ l. span c p ++ l) (span_head p d g2) in
          let whole : span a b ≡ span a c ++ ((span c p ++ (p ∷ span (suc p) d)) ++ span d b) =
          span_cut a c b ac (omega arith) ∙ ap (λ l. span a c ++ l) (span_cut c d b (omega arith) db ∙ ap (λ l. l ++ span d b) mid) in
          in_order (span 0 a ++ ((span a c ++ ((span c p ++ (p ∷ span (suc p) d)) ++ span d b)) ++ span b n))
          (span_cut 0 a n (omega arith) (omega arith) ∙ ap (λ l. span 0 a ++ l) (span_cut a b n (omega arith) h ∙ ap (λ l. l ++ span b n) whole))
          ∙ at_level_two level w p m (ends_span level 1 0 a (omega arith) s.left) (ends_span level 2 a c ac t.left) (span c p) (span (suc p) d) (span d b) (span b n)
          (begins_span level 2 d b (λ lt. t.right (omega arith))) (begins_span level 1 b n s.right) (omega arith)
          (subst (AllByRecursion (λ z. 1 ≤ level z)) whole (all_span (λ z. 1 ≤ level z) a b s.high))
          (subst (AllByRecursion (λ z. 2 ≤ level z)) mid (all_span (λ z. 2 ≤ level z) c d t.high))
          (apart_below p a f 0) (apart_above p d b g2) (apart_below p p (omega arith) c),
    )

-- widths by places are widths by parts of the list
sum-places : (xs : List ℕ) (i n : ℕ) → i + n ≤ length xs → sum_by (at xs) (places i n) ≡ sum (take n (drop i xs))
sum-places xs i zero h = refl
sum-places xs i (suc n) h =
    let lt : i < length xs = omega arith in
    let next : i + 1 ≡ suc i = omega arith in
    sum_by-cons (at xs) i (places (suc i) n)
    ∙ ap (λ m. get_or xs i 0 + m) (sum-places xs (suc i) n (omega arith) ∙ ap (λ j. sum (take n (drop j xs))) (sym next))
    ∙ sym (sum_by-cons (λ x. x) (get_or xs i 0) (take n (drop (i + 1) xs)))
    ∙ ap (λ l. sum (take (suc n) l)) (sym (drop_more xs i 0 lt))

pub widths_are_sums : WidthsAreSums
widths_are_sums widths i j h k = sum-places widths i (j - i) (omega arith)
