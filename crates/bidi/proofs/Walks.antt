-- What the walks over levels and widths find.
use Rattle.std.proofs.Common.{◌≡◌, ℕ, Bool, suc, ◌+◌, ◌-◌, leb, sum, take, drop, reverse, ◌<◌, ◌≤◌, List, [], ◌∷◌, length, get_or, sum_by, sym, ap, ◌∙◌, subst, ⊎_elim, arith}
use Rattle.std.proofs.lemmas.Bool.{cases_lt, leb-true, leb-false}
use Rattle.std.proofs.lemmas.List.Sums.{sum_by-cons, sum-map, prefix_len-le-length, prefix_len_passes, prefix_len_stops}
use Rattle.bidi.specs.declared.item.Item.{Item}
use Rattle.std.proofs.lemmas.Slice.{between_from_start}
use Rattle.bidi.specs.Items.{widths}
use Rattle.bidi.specs.Sums.{held}
use Rattle.std.specs.List.{fold, between, prefix_len}
use Rattle.std.proofs.lemmas.List.{get_or-reverse, get_or-take, get_or-drop, length-map, length-take, length-drop, length-reverse, take-map, drop-map}
use Rattle.rules.specs.Stretches.{Stretch, width_between}
use Rattle.rules.proofs.ByStretches.{widths_are_sums}

-- two walks from a place find the stretch around it
pub around : (levels : List ℕ) (k p a b : ℕ) → p < length levels → k ≤ get_or levels p 0
    → a ≤ p → ((i : ℕ) → a ≤ i → i < p → k ≤ get_or levels i 0) → ((i : ℕ) → suc i ≡ a → get_or levels i 0 < k)
    → p ≤ b → b ≤ length levels → ((i : ℕ) → p ≤ i → i < b → k ≤ get_or levels i 0) → (b < length levels → get_or levels b 0 < k)
    → Stretch levels k p a b
around levels k p a b inside here ap' before left pb bn after right =
    record {
      from = ap';
      to =
          ⊎_elim
          (λ lt. lt)
          (λ le. let e : b ≡ p = omega arith in absurd (omega (arith, right (omega arith), subst (λ n. k ≤ get_or levels n 0) (sym e) here)))
          (cases_lt p b);
      ends = bn;
      high = λ i u v. ⊎_elim (λ lt. before i u lt) (λ le. after i le v) (cases_lt i p);
      left = left;
      right = right;
    }

held_from : (items : List Item) (a : ℕ) → fold (λ b (i : Item). held (b + i.width)) (held a) items ≡ held (a + sum_by (λ i. i.width) items)
held_from [] a = ap held (omega arith)
held_from (i ∷ items) a =
    let one : held (held a + i.width) ≡ held (a + i.width) = omega arith in
    ap (λ b. fold (λ b (i : Item). held (b + i.width)) b items) one
    ∙ held_from items (a + i.width)
    ∙ ap held (omega (arith, sum_by-cons (λ (i : Item). i.width) i items))

-- widths added one by one
pub held_sum : (items : List Item) → fold (λ b (i : Item). held (b + i.width)) 0 items ≡ held (sum (widths items))
held_sum items =
    held_from items 0 ∙ ap held (omega (arith, sum-map (λ (i : Item). i.width) items))

-- the widths of a part of the items
pub part_width : (items : List Item) (i j : ℕ) → i ≤ j → j ≤ length items → sum (widths (between i j items)) ≡ width_between (widths items) i j
part_width items i j h k =
    ap sum (sym (take-map (λ (i : Item). i.width) (j - i) (drop i items)) ∙ ap (take (j - i)) (sym (drop-map (λ (i : Item). i.width) i items)))
    ∙ sym (widths_are_sums (widths items) i j h (omega (arith, length-map items (λ i. i.width))))

pub front_width : (items : List Item) (j : ℕ) → j ≤ length items → sum (widths (take j items)) ≡ width_between (widths items) 0 j
front_width items j k = ap (λ l. sum (widths l)) (sym (between_from_start items j)) ∙ part_width items 0 j (omega arith) k

-- a stretch at a higher level ends no later
pub ends_within : (levels : List ℕ) (j k p a b c d : ℕ) → j ≤ k → Stretch levels j p a b → Stretch levels k p c d → d ≤ b
ends_within levels j k p a b c d h s t =
    ⊎_elim
    (λ lt. absurd (omega (arith, s.right (omega (arith, t.ends)), t.high b (omega (arith, t.from, s.to)) lt)))
    (λ le. le)
    (cases_lt b d)

module _ (levels : List ℕ) (k p : ℕ) (inside : p < length levels) where
  abbrev test : ℕ → Bool
  test l = leb k l

  abbrev back : List ℕ
  back = reverse (take p levels)

  long : length (take p levels) ≡ p
  long = length-take p levels ∙ omega arith

  back_at : (i j : ℕ) → suc (i + j) ≡ p → get_or back j 0 ≡ get_or levels i 0
  back_at i j e =
      get_or-reverse (take p levels) j 0 (omega (arith, long))
      ∙ ap (λ n. get_or (take p levels) n 0) (omega (arith, long))
      ∙ get_or-take p levels i 0 (omega arith)

  -- two counts of what is high, back from a place and on from it, make the stretch around it
  pub stretch_around : (n m : ℕ) → k ≤ get_or levels p 0 → n ≡ prefix_len test back → m ≡ prefix_len test (drop p levels) → Stretch levels k p (p - n) (p + m)
  stretch_around n m here e f =
      let few : n ≤ p = omega (arith, prefix_len-le-length test back, length-reverse (take p levels), long, e) in
      let rest : length (drop p levels) ≡ length levels - p = length-drop p levels in
      let some : m ≤ length levels - p = omega (arith, prefix_len-le-length test (drop p levels), rest, f) in
      around levels k p (p - n) (p + m) inside here
      (omega arith)
      (λ i u v. let j : ℕ = p - suc i in leb-true k (get_or levels i 0) (ap test (sym (back_at i j (omega arith))) ∙ prefix_len_passes test back j 0 (omega arith)))
      (λ i u. leb-false k (get_or levels i 0) (ap test (sym (back_at i n (omega arith)) ∙ ap (λ j. get_or back j 0) e) ∙ prefix_len_stops test back 0 (omega (arith, length-reverse (take p levels), long))))
      (omega arith)
      (omega arith)
      (λ i u v. let j : ℕ = i - p in
      let there : p + j ≡ i = omega arith in
      leb-true k (get_or levels i 0) (ap test (ap (λ a. get_or levels a 0) (sym there) ∙ sym (get_or-drop p levels j 0)) ∙ prefix_len_passes test (drop p levels) j 0 (omega arith)))
      (λ u. leb-false k (get_or levels (p + m) 0) (ap test (sym (get_or-drop p levels m 0) ∙ ap (λ j. get_or (drop p levels) j 0) f) ∙ prefix_len_stops test (drop p levels) 0 (omega (arith, rest))))
