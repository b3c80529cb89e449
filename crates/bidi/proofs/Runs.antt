-- One sequence at a time, as the code reverses them.
use Rattle.std.proofs.Common.{◌≡◌, ℕ, suc, ◌+◌, ◌-◌, ◌<◌, ◌≤◌, List, [], ◌∷◌, ◌++◌, reverse, length, get_or, take, drop, sym, ap, ◌∙◌, subst, ap₂, ⊎_elim, append_assoc, append-nil, arith}
use mathlib.Core.List.{reverse_aux}
use Rattle.std.specs.List.{prefix_len}
use Rattle.std.proofs.lemmas.Bool.{le-leb, lt-leb, cases_lt}
use Rattle.std.proofs.lemmas.List.{take_all, drop_all, drop-drop, drop_at, take_at, take_more, drop_more, get_or-drop, length-append, length-reverse, length-take, length-drop}
use Rattle.rules.specs.Order.{turned, reversed}
use Rattle.bidi.specs.Ordering.{at_least}
use Rattle.rules.proofs.Reversing.{turned_high, turned_low}

module _ (level : ℕ → ℕ) (k : ℕ) where
  leading_high : (x : ℕ) (xs : List ℕ) → k ≤ level x → prefix_len (at_least level k) (x ∷ xs) ≡ suc (prefix_len (at_least level k) xs)
  leading_high x xs h = rw (le-leb k (level x) h) (omega arith)

  leading_low : (x : ℕ) (xs : List ℕ) → level x < k → prefix_len (at_least level k) (x ∷ xs) ≡ 0
  leading_low x xs h = rw (lt-leb k (level x) h)

  -- the first sequence, and then the rest
  pub turned_run : (xs run : List ℕ)
      → turned level k run xs ≡ reverse_aux (take (prefix_len (at_least level k) xs) xs) run ++ reversed level k (drop (prefix_len (at_least level k) xs) xs)
  turned_run [] run = sym (append-nil run)
  turned_run (x ∷ xs) run =
      ⊎_elim
      (λ low. turned_low level k run x xs low ∙ ap (λ l. run ++ l) (sym (turned_low level k [] x xs low)) ∙ ap (λ n. reverse_aux (take n (x ∷ xs)) run ++ reversed level k (drop n (x ∷ xs))) (sym (leading_low x xs low)))
      (λ high. turned_high level k run x xs high ∙ turned_run xs (x ∷ run) ∙ ap (λ n. reverse_aux (take n (x ∷ xs)) run ++ reversed level k (drop n (x ∷ xs))) (sym (leading_high x xs high)))
      (cases_lt (level x) k)

  -- what follows the first sequence is low
  pub past_run : (xs : List ℕ) → prefix_len (at_least level k) xs < length xs → level (get_or xs (prefix_len (at_least level k) xs) 0) < k
  past_run [] h = absurd (omega arith)
  past_run (x ∷ xs) h =
      ⊎_elim
      (λ low. subst (λ n. level (get_or (x ∷ xs) n 0) < k) (sym (leading_low x xs low)) low)
      (λ high. subst (λ n. level (get_or (x ∷ xs) n 0) < k) (sym (leading_high x xs high)) (past_run xs (omega (arith, leading_high x xs high))))
      (cases_lt (level x) k)

  -- the list after the sequence that begins at i is reversed: what the code has yet to do makes the same list
  module _ (xs ys : List ℕ) (i r : ℕ) (within : r ≤ length xs) (end : r ≡ i + prefix_len (at_least level k) (drop i xs))
      (is : ys ≡ take i xs ++ (reverse (take (r - i) (drop i xs)) ++ drop r xs)) where
    done : List ℕ
    done = take i xs ++ reverse (take (r - i) (drop i xs))

    split : ys ≡ done ++ drop r xs
    unfolding done
    split = is ∙ sym (append_assoc (take i xs) (reverse (take (r - i) (drop i xs))) (drop r xs))

    long : length done ≡ r
    unfolding done
    long = simp (length-append, length-reverse, length-take, length-drop) (omega arith)

    left_over : drop r ys ≡ drop r xs
    left_over = ap (drop r) split ∙ drop_at done (drop r xs) r long

    pub run_step : take r ys ++ reversed level k (drop r ys) ≡ take i xs ++ reversed level k (drop i xs)
    unfolding done
    run_step =
        let m : ℕ = prefix_len (at_least level k) (drop i xs) in
        let e : r - i ≡ m = omega arith in
        ap₂ (λ a b. a ++ reversed level k b) (ap (take r) split ∙ take_at done (drop r xs) r long) (left_over ∙ ap (λ n. drop n xs) end ∙ sym (drop-drop m i xs))
        ∙ append_assoc (take i xs) (reverse (take (r - i) (drop i xs))) (reversed level k (drop m (drop i xs)))
        ∙ ap (λ n. take i xs ++ (reverse (take n (drop i xs)) ++ reversed level k (drop m (drop i xs)))) e
        ∙ ap (λ l. take i xs ++ l) (sym (turned_run (drop i xs) []))

    pub low_step : r < length ys → take (r + 1) ys ++ reversed level k (drop (r + 1) ys) ≡ take r ys ++ reversed level k (drop r ys)
    low_step lt =
        let m : ℕ = prefix_len (at_least level k) (drop i xs) in
        let same : length ys ≡ length xs = ap length split ∙ length-append done (drop r xs) ∙ omega (arith, long, length-drop r xs) in
        let here : level (get_or xs (i + m) 0) < k = subst (λ x. level x < k) (get_or-drop i xs m 0) (past_run (drop i xs) (omega (arith, length-drop i xs))) in
        let zero_more : r + 0 ≡ r = omega arith in
        let read : (l : List ℕ) → get_or (drop r l) 0 0 ≡ get_or l r 0 = λ l. get_or-drop r l 0 0 ∙ ap (λ n. get_or l n 0) zero_more in
        let x-is : get_or ys r 0 ≡ get_or xs (i + m) 0 = sym (read ys) ∙ ap (λ l. get_or l 0 0) left_over ∙ read xs ∙ ap (λ n. get_or xs n 0) end in
        let low : level (get_or ys r 0) < k = subst (λ x. level x < k) (sym x-is) here in
        ap (λ l. l ++ reversed level k (drop (r + 1) ys)) (take_more ys r 0 lt)
        ∙ append_assoc (take r ys) (get_or ys r 0 ∷ []) (reversed level k (drop (r + 1) ys))
        ∙ ap (λ l. take r ys ++ l) (sym (turned_low level k [] (get_or ys r 0) (drop (r + 1) ys) low) ∙ ap (reversed level k) (sym (drop_more ys r 0 lt)))

    -- the item that follows the sequence stays where it is
    pub next_step : take (r + 1) ys ++ reversed level k (drop (r + 1) ys) ≡ take i xs ++ reversed level k (drop i xs)
    next_step =
        ⊎_elim
        (λ lt. low_step lt)
        (λ le. ap₂ (λ a b. a ++ reversed level k b) (take_all (r + 1) ys (omega arith) ∙ sym (take_all r ys le)) (drop_all (r + 1) ys (omega arith) ∙ sym (drop_all r ys le)))
        (cases_lt r (length ys))
        ∙ run_step
