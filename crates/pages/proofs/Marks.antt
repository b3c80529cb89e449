-- Where the first mark is.
use Rattle.std.proofs.Common.{◌≡◌, ℕ, ◌+◌, ◌<◌, ◌≤◌, Bool, true, false, cond, not, ltb, List, [], ◌∷◌, length, drop, Some, None, refl, ap, arith, length-drop, ltb-true, ltb-false, le-ltb, lt-ltb, position, ◌==◌}
use Rattle.std.specs.List.{position_or_len}
use Rattle.pages.specs.Lines.{first_at, behind}

-- as many bytes as stand before it are no mark
first_is : (m : ℕ) (bs : List ℕ) → first_at m bs ≡ position_or_len (λ b. b == m) bs
first_is m [] = refl
first_is m (b ∷ bs) = step (b == m) (first_is m bs)
  where
    step : (t : Bool) → first_at m bs ≡ position_or_len (λ b. b == m) bs → cond t 0 (first_at m bs + 1) ≡ cond (not t) (1 + position_or_len (λ b. b == m) bs) 0
    step true h = refl
    step false h = omega arith

module _ (m : ℕ) (bs : List ℕ) where
  pub behind_some : first_at m bs < length bs → behind m bs ≡ Some (drop (first_at m bs + 1) bs)
  behind_some h = rw (lt-ltb (first_at m bs) (length bs) h)

  pub behind_none : length bs ≤ first_at m bs → behind m bs ≡ None
  behind_none h = rw (le-ltb (first_at m bs) (length bs) h)

  -- the place that was told is that of the first mark, and lies in the bytes
  pub place_is : (n : ℕ) → position (λ b. b == m) bs ≡ Some n → (n ≡ first_at m bs) × (n < length bs)
  place_is n e =
      let first = position_or_len (λ b. b == m) bs in
      let same = first_is m bs in
      step (ltb first (length bs)) refl e (omega arith)
    where
      step : (t : Bool) → ltb (position_or_len (λ b. b == m) bs) (length bs) ≡ t → cond t (Some (position_or_len (λ b. b == m) bs)) None ≡ Some n → first_at m bs ≡ position_or_len (λ b. b == m) bs → (n ≡ first_at m bs) × (n < length bs)
      step true h e same =
          let k = ltb-true (position_or_len (λ b. b == m) bs) (length bs) h in
          let q : position_or_len (λ b. b == m) bs ≡ n = cc in
          (omega arith, omega arith)
      step false h e same = let z : ◌≡◌ {A = ℕ} 0 1 = cc in absurd (omega arith)

  pub place_none : position (λ b. b == m) bs ≡ None → length bs ≤ first_at m bs
  place_none e =
      let same = first_is m bs in
      step (ltb (position_or_len (λ b. b == m) bs) (length bs)) refl e same
    where
      step : (t : Bool) → ltb (position_or_len (λ b. b == m) bs) (length bs) ≡ t → cond t (Some (position_or_len (λ b. b == m) bs)) None ≡ None → first_at m bs ≡ position_or_len (λ b. b == m) bs → length bs ≤ first_at m bs
      step true h e same = let z : ◌≡◌ {A = ℕ} 0 1 = cc in absurd (omega arith)
      step false h e same = let k = ltb-false (position_or_len (λ b. b == m) bs) (length bs) h in omega arith

  pub behind_less : (r : List ℕ) → behind m bs ≡ Some r → length r < length bs
  behind_less r e = step (ltb (first_at m bs) (length bs)) refl e
    where
      step : (t : Bool) → ltb (first_at m bs) (length bs) ≡ t → cond t (Some (drop (first_at m bs + 1) bs)) None ≡ Some r → length r < length bs
      step true h e =
          let k = ltb-true (first_at m bs) (length bs) h in
          let q : drop (first_at m bs + 1) bs ≡ r = cc in
          omega (arith, ap length q, length-drop (first_at m bs + 1) bs)
      step false h e = let z : ◌≡◌ {A = ℕ} 0 1 = cc in absurd (omega arith)
