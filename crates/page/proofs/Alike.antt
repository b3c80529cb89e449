-- Entries with the same numbers are the same, and so are pages over the same tree.
use Rattle.std.proofs.Common.{◌≡◌, ◌≤◌, min, max, true, cond, length, Ok, Err, sym, refl, ap, ◌∙◌, arith, le-leb}
use mathlib.Core.HLevel.{is_prop→PathP}
use mathlib.Core.Logic.{∥∥₁_prop}
use native.Mathlib.Bridge.{le_prop}
use Rattle.tree.specs.Trees.{elements_of, TotalsRight}
use Rattle.page.specs.Sums.{page_ops}
use Rattle.page.specs.Entries.{in_range, entry_of, entry_answer}
use Rattle.page.specs.declared.entry.Entry.{Entry}
use Rattle.page.specs.declared.fault.PageFault.TheVariants.{Lines}
use Rattle.page.specs.declared.page.Page.{Page}

alike : (e f : Entry) → e.key ≡ f.key → e.lines ≡ f.lines → e.hits ≡ f.hits → e ≡ f
alike e f k l h = λ i. record {
  key = k i;
  lines = l i;
  hits = h i;
  shown = is_prop→PathP (λ j. (1 ≤ l j) × (l j ≤ 65535) × (h j ≤ 65535)) (λ j p q. λ m. (le_prop p.0 q.0 m, le_prop p.1 q.1 m, le_prop p.2 q.2 m)) e.shown f.shown i;
}

-- an entry is the entry of its numbers
pub entry_is : (e : Entry) → e ≡ entry_of e.key e.lines e.hits
unfolding entry_of
entry_is e =
    let f = e.shown in
    let l : e.lines ≡ max 1 (min 65535 e.lines) = omega arith in
    let h : e.hits ≡ min 65535 e.hits = omega arith in
    alike e (entry_of e.key e.lines e.hits) refl l h

-- its lines are in range
pub ranged : (e : Entry) → in_range e.lines ≡ true
ranged e = let f = e.shown in rw (le-leb 1 e.lines f.0, le-leb e.lines 65535 f.1)

-- so it can be made from its numbers
pub entered : (e : Entry) → Ok e ≡ entry_answer e.key e.lines e.hits
entered e = ap Ok (entry_is e) ∙ sym (ap (λ b. cond b (Ok (entry_of e.key e.lines e.hits)) (Err Lines)) (ranged e))

pub same_page : (p q : Page) → p.tree ≡ q.tree → p ≡ q
same_page p q e = λ i. record {
  tree = e i;
  totals = is_prop→PathP (λ j. ∥ TotalsRight page_ops (e j).now ∥₁) (λ j. ∥∥₁_prop) p.totals q.totals i;
  few = is_prop→PathP (λ j. length (elements_of (e j).now) ≤ 4096) (λ j. le_prop) p.few q.few i;
}
