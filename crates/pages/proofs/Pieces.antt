-- The first piece of bytes, and the others.
use Rattle.std.proofs.Common.{◌≡◌, ℕ, suc, ◌+◌, ◌<◌, ◌≤◌, Bool, true, false, cond, eqb, ltb, List, [], ◌∷◌, length, take, drop, is_some, Some, None, Option, sym, refl, ap, ◌∙◌, add-one, arith, Bor, ltb-false, ltb-true}
use mathlib.Core.Bool.{false≢true}
use Rattle.std.specs.Option.{option_map}
use Rattle.std.proofs.lemmas.List.{take_all}
use Rattle.pages.specs.Lines.{pieces, longer, first_at, behind, fields_in, lines_in, fields_left, lines_left}
use Rattle.pages.proofs.Marks.{behind_some, behind_none}

-- bytes before the first of some pieces
abbrev onto : List ℕ → List (List ℕ) → List (List ℕ)
onto [] ps = ps
onto (b ∷ bs) ps = longer b (onto bs ps)

module _ (m : ℕ) (end : List (List ℕ)) where
  -- a mark ends the first piece
  pub pieces_some : (bs : List ℕ) → first_at m bs < length bs → pieces m end bs ≡ take (first_at m bs) bs ∷ pieces m end (drop (first_at m bs + 1) bs)
  pieces_some [] h = absurd (omega arith)
  pieces_some (b ∷ bs) h = step (eqb b m) h (pieces_some bs)
    where
      step : (t : Bool) → cond t 0 (first_at m bs + 1) < suc (length bs) → (first_at m bs < length bs → pieces m end bs ≡ take (first_at m bs) bs ∷ pieces m end (drop (first_at m bs + 1) bs)) → cond t ([] ∷ pieces m end bs) (longer b (pieces m end bs)) ≡ take (cond t 0 (first_at m bs + 1)) (b ∷ bs) ∷ pieces m end (drop (cond t 0 (first_at m bs + 1) + 1) (b ∷ bs))
      step true h ih = refl
      step false h ih = ap (longer b) (ih (omega arith)) ∙ simp add-one

  -- with no mark all bytes stand before what follows the last
  pub pieces_none : (bs : List ℕ) → length bs ≤ first_at m bs → pieces m end bs ≡ onto bs end
  pieces_none [] h = refl
  pieces_none (b ∷ bs) h = step (eqb b m) h (pieces_none bs)
    where
      step : (t : Bool) → suc (length bs) ≤ cond t 0 (first_at m bs + 1) → (length bs ≤ first_at m bs → pieces m end bs ≡ onto bs end) → cond t ([] ∷ pieces m end bs) (longer b (pieces m end bs)) ≡ longer b (onto bs end)
      step true h ih = absurd (omega arith)
      step false h ih = ap (longer b) (ih (omega arith))

onto_empty : (bs : List ℕ) → onto bs ([] ∷ []) ≡ bs ∷ []
onto_empty [] = refl
onto_empty (b ∷ bs) = ap (longer b) (onto_empty bs)

onto_none : (b : ℕ) (bs : List ℕ) → onto (b ∷ bs) [] ≡ (b ∷ bs) ∷ []
onto_none b [] = refl
onto_none b (d ∷ bs) = ap (longer b) (onto_none d bs)

-- the first field, and those behind its tab
pub fields_cut : (bs : List ℕ) → fields_in bs ≡ take (first_at 9 bs) bs ∷ fields_left (behind 9 bs)
fields_cut bs = step (ltb (first_at 9 bs) (length bs)) refl
  where
    step : (t : Bool) → ltb (first_at 9 bs) (length bs) ≡ t → fields_in bs ≡ take (first_at 9 bs) bs ∷ fields_left (behind 9 bs)
    step true e =
        let h = ltb-true (first_at 9 bs) (length bs) e in
        pieces_some 9 ([] ∷ []) bs h ∙ ap (λ o. take (first_at 9 bs) bs ∷ fields_left o) (sym (behind_some 9 bs h))
    step false e =
        let h = ltb-false (first_at 9 bs) (length bs) e in
        pieces_none 9 ([] ∷ []) bs h ∙ onto_empty bs ∙ ap (λ l. l ∷ []) (sym (take_all (first_at 9 bs) bs h)) ∙ ap (λ o. take (first_at 9 bs) bs ∷ fields_left o) (sym (behind_none 9 bs h))

-- the first line of a text that is not empty, and those behind its line feed
pub lines_cut : (bs : List ℕ) → 0 < length bs → lines_in bs ≡ take (first_at 10 bs) bs ∷ lines_left (behind 10 bs)
lines_cut [] some = absurd (omega arith)
lines_cut (b ∷ bs) some = step (ltb (first_at 10 (b ∷ bs)) (length (b ∷ bs))) refl
  where
    text : List ℕ
    text = b ∷ bs

    step : (t : Bool) → ltb (first_at 10 text) (length text) ≡ t → lines_in text ≡ take (first_at 10 text) text ∷ lines_left (behind 10 text)
    step true e =
        let h = ltb-true (first_at 10 text) (length text) e in
        pieces_some 10 [] text h ∙ ap (λ o. take (first_at 10 text) text ∷ lines_left o) (sym (behind_some 10 text h))
    step false e =
        let h = ltb-false (first_at 10 text) (length text) e in
        pieces_none 10 [] text h ∙ onto_none b bs ∙ ap (λ l. l ∷ []) (sym (take_all (first_at 10 text) text h)) ∙ ap (λ o. take (first_at 10 text) text ∷ lines_left o) (sym (behind_none 10 text h))

-- where something is left, so is a field
pub some_left : (o : Option (Bor (List ℕ))) → true ≡ is_some o → 1 ≤ length (fields_left (option_map (λ x. x.now) o))
some_left None e = absurd (false≢true (sym e))
some_left (Some r) e = rw (fields_cut r.now) (omega arith)
