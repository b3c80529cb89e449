-- One change or one question more, written behind what was written.
use Rattle.std.proofs.Common.{◌≡◌, ℕ, ◌+◌, ◌<◌, List, [], ◌∷◌, ◌++◌, map, length, take, drop, set, sym, refl, ap, ◌∙◌, arith}
use Rattle.std.proofs.lemmas.List.{map-append, take_more_set, drop-set-lt, drop-drop}
use Rattle.tree.specs.History.{change_answer, after_change, after_all, answers_all}
use Rattle.tree.specs.declared.request.Change.{Change}

module _ {E : Type 0} (room : ℕ) where
  pub after_more : (xs : List E) (cs : List (Change E)) (c : Change E) → after_all room xs (cs ++ (c ∷ [])) ≡ after_change room (after_all room xs cs) c
  after_more xs [] c = refl
  after_more xs (d ∷ cs) c = after_more (after_change room xs d) cs c

  pub answers_more : (xs : List E) (cs : List (Change E)) (c : Change E) → answers_all room xs (cs ++ (c ∷ [])) ≡ answers_all room xs cs ++ (change_answer room (after_all room xs cs) c ∷ [])
  answers_more xs [] c = refl
  answers_more xs (d ∷ cs) c = ap (λ l. change_answer room xs d ∷ l) (answers_more (after_change room xs d) cs c)

module _ {X Y : Type 0} (f : X → Y) (l : List X) (i : ℕ) (x : X) (h : i < length l) where
  -- what is read of the entries written so far
  pub mapped_more : {ys : List Y} → map f (take i l) ≡ ys → map f (take (i + 1) (set l i x)) ≡ ys ++ (f x ∷ [])
  mapped_more e = ap (map f) (take_more_set l i x h) ∙ map-append f (take i l) (x ∷ []) ∙ ap (λ y. y ++ (f x ∷ [])) e

-- the entries behind are as they were
pub spare_more : {X : Type 0} (l old : List X) (i : ℕ) (x : X) → drop i l ≡ drop i old → drop (i + 1) (set l i x) ≡ drop (i + 1) old
spare_more l old i x e = drop-set-lt (i + 1) l i x (omega arith) ∙ sym (drop-drop 1 i l) ∙ ap (drop 1) e ∙ drop-drop 1 i old
