-- Few entries never reach the bound at which page sums are held, so seeking a weight counts lines down.
use Rattle.std.proofs.Common.{◌≡◌, ℕ, ◌+◌, ◌-◌, ◌*◌, ◌≤◌, min, Bool, true, false, cond, ltb, leb, List, [], ◌∷◌, length, drop, Ok, Err, Result, refl, ap, ◌∙◌, one-add, arith, ltb-false, ltb-true, le-ltb, lt-ltb, le-leb}
use borrow.Author.Tests.{lt-leb}
use Rattle.std.specs.List.{slice_get, between}
use Rattle.tree.specs.Measures.{total_of}
use Rattle.std.proofs.lemmas.List.{take_all}
use Rattle.tree.specs.Plain.{found, first_over, seek_answer, with_depth, total_answer}
use Rattle.page.specs.Sums.{page_ops}
use Rattle.page.specs.Pages.{find_answer, lines_of, hits_of}
use Rattle.page.specs.declared.entry.Entry.{Entry}
use Rattle.page.specs.declared.sums.PageSums.{PageSums}

lines_le : (xs : List Entry) → lines_of xs ≤ length xs * 65535
lines_le [] = omega arith
lines_le (x ∷ xs) = let f = x.shown in let h = lines_le xs in omega arith

hits_le : (xs : List Entry) → hits_of xs ≤ length xs * 65535
hits_le [] = omega arith
hits_le (x ∷ xs) = let f = x.shown in let h = hits_le xs in omega arith

-- the total of few entries is not held
pub total_is : (xs : List Entry) → length xs ≤ 4096 → total_of page_ops xs ≡ record { lines = lines_of xs; hits = hits_of xs }
total_is [] few = refl
total_is (x ∷ xs) few =
    let ih = total_is xs (omega arith) in
    let l : min 4294967295 (x.lines + lines_of xs) ≡ x.lines + lines_of xs = omega (arith, lines_le (x ∷ xs)) in
    let h : min 4294967295 (x.hits + hits_of xs) ≡ x.hits + hits_of xs = omega (arith, hits_le (x ∷ xs)) in
    ap (page_ops.join (page_ops.of x)) ih ∙ (λ i. record { lines = l i; hits = h i })

-- a line leads to its entry, where the entries before xs sum up to t
abbrev Leads : ℕ → List Entry → PageSums → Type 0
Leads w xs t =
    t.lines ≤ w → t.lines + lines_of xs ≤ 4294967295
    → cond (leb (t.lines + lines_of xs) w) (Err 4) (found (slice_get xs (first_over page_ops w t xs))) ≡ find_answer xs (w - t.lines)

one_more : (w : ℕ) (x : Entry) (xs : List Entry) (t : PageSums) → Leads w xs (page_ops.join t (page_ops.of x)) → Leads w (x ∷ xs) t
one_more w x xs t ih le fit = step (ltb w next.lines) refl
  where
    next : PageSums
    next = page_ops.join t (page_ops.of x)

    step : (b : Bool) → ltb w next.lines ≡ b → cond (leb (t.lines + (x.lines + lines_of xs)) w) (Err 4) (found (slice_get (x ∷ xs) (first_over page_ops w t (x ∷ xs)))) ≡ find_answer (x ∷ xs) (w - t.lines)
    step true e =
        let h = ltb-true w next.lines e in
        let u : leb (t.lines + (x.lines + lines_of xs)) w ≡ false = lt-leb (t.lines + (x.lines + lines_of xs)) w (omega arith) in
        let v : ltb (w - t.lines) x.lines ≡ true = lt-ltb (w - t.lines) x.lines (omega arith) in
        simp (e, u, v)
    step false e =
        let h = ltb-false w next.lines e in
        let v : ltb (w - t.lines) x.lines ≡ false = le-ltb (w - t.lines) x.lines (omega arith) in
        let s : next.lines + lines_of xs ≡ t.lines + (x.lines + lines_of xs) = omega arith in
        let d : w - next.lines ≡ w - t.lines - x.lines = omega arith in
        simp (e, v, one-add) (simp (s, d) at (ih (omega arith) (omega arith)))

leads : (w : ℕ) (xs : List Entry) (t : PageSums) → Leads w xs t
leads w [] t le fit = rw (le-leb (t.lines + 0) w (omega arith))
leads w (x ∷ xs) t le fit = one_more w x xs t (leads w xs (page_ops.join t (page_ops.of x))) le fit

-- what is read at the place that was sought
abbrev pub looked_up : List Entry → Result ℕ ℕ → Result Entry ℕ
looked_up xs (Ok p) = found (slice_get xs p)
looked_up xs (Err n) = Err n

pub find_is : (xs : List Entry) (w : ℕ) → length xs ≤ 4096 → looked_up xs (seek_answer page_ops xs w) ≡ find_answer xs w
find_is xs w few =
    let b = lines_le xs in
    let n : 0 + lines_of xs ≡ (total_of page_ops xs).lines = omega (arith, ap (λ t. t.lines) (total_is xs few)) in
    let z : w - 0 ≡ w = omega arith in
    either (leb (total_of page_ops xs).lines w) ∙ simp (n, z) at (leads w xs page_ops.unit (omega arith) (omega arith))
  where
    p : ℕ
    p = first_over page_ops w page_ops.unit xs

    either : (b : Bool) → looked_up xs (cond b (Err 4) (Ok p)) ≡ cond b (Err 4) (found (slice_get xs p))
    either true = refl
    either false = refl

-- what was read, without its depth
abbrev pub shallow : Result (Entry × ℕ) ℕ → Result Entry ℕ
shallow (Ok x) = Ok x.0
shallow (Err n) = Err n

shallow_is : (d : ℕ) (r : Result Entry ℕ) → shallow (with_depth d r) ≡ r
shallow_is d (Ok x) = refl
shallow_is d (Err n) = refl

-- seeking a line and reading there finds its entry
pub read_is : (xs : List Entry) (w p d : ℕ) (r : Result (Entry × ℕ) ℕ) → length xs ≤ 4096 → Ok p ≡ seek_answer page_ops xs w → r ≡ with_depth d (found (slice_get xs p)) → shallow r ≡ find_answer xs w
read_is xs w p d r few sought read = ap shallow read ∙ shallow_is d (found (slice_get xs p)) ∙ ap (looked_up xs) sought ∙ find_is xs w few

-- the total from the first place to the last is that of all entries
pub whole_is : (xs : List Entry) (n : ℕ) (s : PageSums) → length xs ≤ 4096 → n ≡ length xs → Ok s ≡ total_answer page_ops xs 0 n → s ≡ record { lines = lines_of xs; hits = hits_of xs }
whole_is xs n s few all told =
    let a : leb 0 n ≡ true = le-leb 0 n (omega arith) in
    let b : leb n (length xs) ≡ true = le-leb n (length xs) (omega arith) in
    let t : between 0 n xs ≡ xs = take_all (n - 0) (drop 0 xs) (omega arith) in
    let e : Ok s ≡ Ok (total_of page_ops xs) = simp (a, b, t) at told in
    let q : s ≡ total_of page_ops xs = cc in
    q ∙ total_is xs few
