-- The columns of resolved items, one by one.
use Rattle.std.proofs.Common.{◌≡◌, ℕ, zero, suc, ◌+◌, ◌<◌, ◌≤◌, true, ltb, leb, List, length, get_or, Ok, refl, ap, ◌∙◌, arith}
use Rattle.std.specs.List.{AllByRecursion}
use Rattle.std.proofs.ByRecursion.{All-get_or}
use Rattle.std.proofs.lemmas.List.{length-map, get_or-map, take_all}
use Rattle.std.proofs.lemmas.Bool.{le-leb, lt-ltb, cond-true}
use Rattle.bidi.specs.declared.item.Item.{Item}
use Rattle.bidi.specs.Columning.{column_answer, column_in}
use Rattle.bidi.specs.Items.{widths}
use Rattle.bidi.specs.Sums.{held}
use Rattle.rules.specs.Order.{places, column_of}
use Rattle.listing.specs.Text.{columns_from}

-- with a level of at most 2 for each item, the column is told
pub answered : (levels : List ℕ) (items : List Item) (p : ℕ) → length levels ≡ length items → AllByRecursion (λ l. l ≤ 2) levels → p < length items
    → column_answer levels items p ≡ Ok (held (column_of levels (widths items) p))
answered levels items p long low lt =
    let fits : leb (length items) (length levels) ≡ true = le-leb (length items) (length levels) (omega arith) in
    let there : ltb p (length items) ≡ true = lt-ltb p (length items) lt in
    let here : leb (get_or levels p 0) 2 ≡ true = le-leb (get_or levels p 0) 2 (All-get_or (λ l. l ≤ 2) levels p 0 (omega arith) low) in
    cond-true _ _ _ fits
    ∙ cond-true _ _ _ there
    ∙ ap (λ ls. column_in ls (widths items) p) (take_all (length items) levels (omega arith))
    ∙ cond-true _ _ _ here

length-places : (first count : ℕ) → length (places first count) ≡ count
length-places first zero = refl
length-places first (suc n) = ap suc (length-places (suc first) n)

getD_places : (first count p : ℕ) → p < count → get_or (places first count) p 0 ≡ first + p
getD_places first zero p h = absurd (omega arith)
getD_places first (suc n) zero h = omega arith
getD_places first (suc n) (suc p) h = omega (arith, getD_places (suc first) n p (omega arith))

pub length-columns : (levels : List ℕ) (items : List Item) → length (columns_from levels items) ≡ length items
length-columns levels items = length-map (places 0 (length items)) (λ p. held (column_of levels (widths items) p)) ∙ length-places 0 (length items)

pub column_at : (levels : List ℕ) (items : List Item) (p : ℕ) → p < length items → get_or (columns_from levels items) p 0 ≡ held (column_of levels (widths items) p)
column_at levels items p lt =
    let place : get_or (places 0 (length items)) p 0 ≡ p = omega (arith, getD_places 0 (length items) p lt) in
    get_or-map (λ p. held (column_of levels (widths items) p)) (places 0 (length items)) p 0 0 (omega (arith, length-places 0 (length items)))
    ∙ ap (λ q. held (column_of levels (widths items) q)) place
