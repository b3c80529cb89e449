-- Values listed one by one.
use Rattle.std.proofs.Common.{◌≡◌, ℕ, ◌+◌, ◌<◌, ◌≤◌, List, ◌∷◌, ◌++◌, length, get_or, drop, sym, ap, ◌∙◌, append_assoc, append-nil}
use Rattle.std.proofs.lemmas.List.{at_drop_more, at_drop_all}
use Rattle.listing.specs.Text.{spaced_texts}

module _ {X : Type 0} (written : X → List ℕ) where
  -- the text t, with what is left to list, is the text e with all
  abbrev pub Spacing : List ℕ → List X → List ℕ → ℕ → Type 0
  Spacing e xs t i = t ++ spaced_texts written (drop i xs) ≡ e ++ spaced_texts written xs

  pub spaced_more : (e : List ℕ) (xs : List X) (t u : List ℕ) (i : ℕ) (d : X) → i < length xs → u ≡ t ++ (32 ∷ written (get_or xs i d)) → Spacing e xs t i → Spacing e xs u (i + 1)
  spaced_more e xs t u i d lt is inv =
      ap (λ l. l ++ spaced_texts written (drop (i + 1) xs)) is
      ∙ append_assoc t (32 ∷ written (get_or xs i d)) (spaced_texts written (drop (i + 1) xs))
      ∙ ap (λ l. t ++ l) (sym (at_drop_more (spaced_texts written) xs i d lt))
      ∙ inv

  pub spaced_all : (e : List ℕ) (xs : List X) (t : List ℕ) (i : ℕ) → length xs ≤ i → Spacing e xs t i → t ≡ e ++ spaced_texts written xs
  spaced_all e xs t i le inv = sym (append-nil t) ∙ ap (λ l. t ++ l) (sym (at_drop_all (spaced_texts written) xs i le)) ∙ inv
