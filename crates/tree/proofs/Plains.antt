-- What the plain list answers, case by case, and what it then holds.
use Rattle.std.proofs.Common.{◌≡◌, ℕ, ◌<◌, ◌≤◌, true, false, ltb, leb, List, length, Some, Ok, Err, sym, ap, ◌∙◌}
use Rattle.std.specs.List.{slice_get, insert, remove}
use Rattle.std.proofs.lemmas.Option.{slice_get_past}
use Rattle.std.proofs.lemmas.Bool.{lt-ltb, le-ltb, le-leb, lt-leb, cond-true, cond-false, and_right, and_from}
use Rattle.tree.specs.Plain.{accepted, found, with_depth, fits, insert_answer, after_insert, remove_answer, after_remove}

module _ {E : Type 0} (room : ℕ) (xs : List E) (p : ℕ) (x : E) where
  pub insert_no_place : length xs < p → (Err 1 ≡ insert_answer room xs p) × (xs ≡ after_insert room xs p x)
  insert_no_place h =
      let a = cond-true (ltb (length xs) p) (Err 1) _ (lt-ltb (length xs) p h) in
      (sym a, sym (ap (λ r. accepted r (insert xs p x) xs) a))

  pub insert_full : p ≤ length xs → room ≤ length xs → (Err 2 ≡ insert_answer room xs p) × (xs ≡ after_insert room xs p x)
  insert_full h h' =
      let a = cond-false (ltb (length xs) p) (Err 1) _ (le-ltb (length xs) p h) ∙ cond-true (leb room (length xs)) (Err 2) (Ok tt) (le-leb room (length xs) h') in
      (sym a, sym (ap (λ r. accepted r (insert xs p x) xs) a))

  pub insert_fits : p ≤ length xs → length xs < room → (Ok tt ≡ insert_answer room xs p) × (insert xs p x ≡ after_insert room xs p x)
  insert_fits h h' =
      let a = cond-false (ltb (length xs) p) (Err 1) _ (le-ltb (length xs) p h) ∙ cond-false (leb room (length xs)) (Err 2) (Ok tt) (lt-leb room (length xs) h') in
      (sym a, sym (ap (λ r. accepted r (insert xs p x) xs) a))

module _ {E : Type 0} (xs : List E) (p : ℕ) where
  pub remove_no_place : length xs ≤ p → (Err 1 ≡ remove_answer xs p) × (xs ≡ after_remove xs p)
  remove_no_place h = let a = ap found (slice_get_past xs p h) in (sym a, sym (ap (λ r. accepted r (remove xs p) xs) a))

  pub remove_found : (x : E) → slice_get xs p ≡ Some x → (Ok x ≡ remove_answer xs p) × (remove xs p ≡ after_remove xs p)
  remove_found x h = let a = ap found h in (sym a, sym (ap (λ r. accepted r (remove xs p) xs) a))

  pub read_found : (x : E) (d e : ℕ) → slice_get xs p ≡ Some x → d ≡ e → Ok (x, e) ≡ with_depth d (found (slice_get xs p))
  read_found x d e h is = sym (ap (λ o. with_depth d (found o)) h ∙ ap (λ n. Ok (x, n)) is)

module _ {E : Type 0} (xs : List E) (first end : ℕ) where
  pub fits_not_within : length xs < end → fits xs first end ≡ false
  fits_not_within h = and_right (leb first end) (leb end (length xs)) (lt-leb end (length xs) h)

  pub fits_both : first ≤ end → end ≤ length xs → fits xs first end ≡ true
  fits_both h h' = and_from (leb first end) (leb end (length xs)) (le-leb first end h) (le-leb end (length xs) h')
