-- A field of items, read two bytes at a time.
use Rattle.std.proofs.Common.{◌≡◌, ℕ, suc, List, [], ◌∷◌, ◌++◌, length, get_or, Some, Ok, Err, Result, sym, refl, ap, ◌∙◌, append_assoc, arith}
use Rattle.listing.specs.declared.refusal.Refusal.{Refusal}
use Rattle.listing.specs.Lines.{Reading, item_read, item_then, items_read, onto}

onto_onto : (xs ys : List Reading) (r : Result (List Reading) Refusal) → onto xs (onto ys r) ≡ onto (xs ++ ys) r
onto_onto xs ys (Ok zs) = ap Ok (sym (append_assoc xs ys zs))
onto_onto xs ys (Err e) = refl

two : (pair : List ℕ) → length pair ≡ 2 → pair ≡ get_or pair 0 0 ∷ (get_or pair 1 0 ∷ [])
two [] e = absurd (omega arith)
two (a ∷ []) e = absurd (omega arith)
two (a ∷ (b ∷ [])) e = refl
two (a ∷ (b ∷ (c ∷ cs))) e = absurd (omega arith)

-- two bytes that are an item, before those behind
pub good : (bytes pair behind : List ℕ) (p : ℕ) (xs : List Reading) (x : Reading) → bytes ≡ pair ++ behind → length pair ≡ 2
    → item_read (get_or pair 0 0) (get_or pair 1 0) ≡ Some x
    → onto xs (items_read p bytes) ≡ onto (xs ++ (x ∷ [])) (items_read (suc p) behind)
good bytes pair behind p xs x split long e =
    ap (λ l. onto xs (items_read p l)) (split ∙ ap (λ l. l ++ behind) (two pair long))
    ∙ ap (λ o. onto xs (item_then p o (items_read (suc p) behind))) e
    ∙ onto_onto xs (x ∷ []) (items_read (suc p) behind)
