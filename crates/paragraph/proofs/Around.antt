-- The stretch of levels around an item, and what gives its column.
use Rattle.std.proofs.Common.{◌≡◌, ℕ, ◌<◌, ◌≤◌, ◌≢◌, Bool, true, false, ltb, List, length, get_or, Ok, sym, ◌∙◌, subst, ⊎_elim, arith}
use Rattle.std.proofs.lemmas.Option.{slice_get_within}
use Rattle.std.proofs.lemmas.Bool.{cases_lt, lt-ltb, cond-true}
use Rattle.tree.specs.Trees.{depth_in}
use Rattle.rules.specs.Order.{at, column_of}
use Rattle.bidi.specs.Items.{widths}
use Rattle.bidi.specs.declared.item.Item.{Item}
use Rattle.paragraph.specs.Asking.{ReadAnswer, column_answer}
use Rattle.rules.specs.Stretches.{Stretch}
use Rattle.paragraph.specs.Paragraphs.{items_of, levels_in}
use Rattle.paragraph.specs.Runs.{StretchOf, RunOf}
use Rattle.paragraph.specs.declared.span.Span.{Span}
use Rattle.paragraph.specs.declared.paragraph.Paragraph.{Paragraph}
use Rattle.paragraph.proofs.Levels.{length-levels}
use Rattle.paragraph.proofs.Stretched.{map_at}

-- the stretch around a place whose own level passes the test
module _ (levels : List ℕ) (Answers : ℕ → Bool → Type 0) (place : ℕ) (s : Span) (around : StretchOf levels Answers place s) (inside : place < length levels) (here : Answers (get_or levels place 0) false → ⊥) where
  pub reaches : place < s.end
  reaches =
      let a = around.to in
      ⊎_elim (λ (h : place < s.end). h)
      (λ (h : s.end ≤ place). let e : s.end ≡ place = omega arith in absurd (here (subst (λ k. Answers (get_or levels k 0) false) e (around.right (omega arith)))))
      (cases_lt place s.end)

  -- where the test is for a level or above
  pub stretch_around : (k : ℕ) → ((n : ℕ) → Answers n true → k ≤ n) → ((n : ℕ) → Answers n false → n < k) → Stretch levels k place s.first s.end
  stretch_around k passed failed = record {
    from = around.from;
    to = reaches;
    ends = around.ends;
    high = λ i u v. passed _ (around.passed i u v);
    left = λ i e. failed _ (around.left i e);
    right = λ h. failed _ (around.right h);
  }

  -- where the test is for one level
  pub run_around : (level : ℕ) → ((n : ℕ) → Answers n true → n ≡ level) → ((n : ℕ) → Answers n false → n ≢ level) → RunOf levels place (record { first = s.first; end = s.end; level = level })
  run_around level passed failed = record {
    from = around.from;
    to = reaches;
    ends = around.ends;
    same = λ i u v. passed _ (around.passed i u v);
    left = λ i e. failed _ (around.left i e);
    right = λ h. failed _ (around.right h);
  }

-- an item that was read at a place is there, and the answer is its column beside its width
module _ (p : Paragraph) (place : ℕ) (x : Item) (e : ℕ) (read : ReadAnswer (items_of p) (depth_in p.tree.now place) place (Ok (x, e))) where
  pub place_there : place < length (items_of p)
  place_there = slice_get_within (items_of p) place x read.0

  pub column_told : (n : ℕ) → n ≡ column_of (levels_in p) (widths (items_of p)) place → Ok (n, x.width) ≡ column_answer (levels_in p) (widths (items_of p)) place
  column_told n is =
      let h = place_there in
      let l = length-levels p.direction (items_of p) in
      let w = map_at (λ i. i.width) (items_of p) place 0 x read.0 in
      (λ t. Ok (is t, w t)) ∙ sym (cond-true (ltb place (length (levels_in p))) (Ok (column_of (levels_in p) (widths (items_of p)) place, at (widths (items_of p)) place)) _ (lt-ltb place (length (levels_in p)) (omega arith)))
