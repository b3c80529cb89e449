-- The lines and hits of many entries.
use Rattle.std.specs.Prelude.{◌≡◌, ℕ, ◌+◌, ◌≤◌, min, refl}
use Rattle.std.proofs.Common.{arith}
use Rattle.tree.specs.Measures.{Operations, Lawful, Laws, unit, of, join}
use Rattle.page.specs.declared.entry.Entry.{Entry}
use Rattle.page.specs.declared.sums.PageSums.{PageSums}

abbrev sums : ℕ → ℕ → PageSums
sums l h = record { lines = l; hits = h }

-- two numbers added, and held at 4,294,967,295
abbrev held : ℕ → ℕ → ℕ
held m n = min 4294967295 (m + n)

-- lines and hits are added side by side; the lines are the weight
abbrev pub page_ops : Operations Entry PageSums
page_ops = record {
  unit = sums 0 0;
  of = λ e. sums e.lines e.hits;
  join = λ a b. sums (held a.lines b.lines) (held a.hits b.hits);
  weight = λ a. a.lines;
}

same : {l m h k : ℕ} → l ≡ m → h ≡ k → sums l h ≡ sums m k
same p q = λ i. sums (p i) (q i)

pub bounded : (a : PageSums) → Lawful page_ops a → (a.lines ≤ 4294967295) × (a.hits ≤ 4294967295)
bounded _ unit = (omega arith, omega arith)
bounded _ (of e) = let f = e.shown in (omega arith, omega arith)
bounded _ (join a b p q) = (omega arith, omega arith)

-- page sums are a measure
pub page_laws : Laws page_ops
page_laws = record {
  left = λ a p. let h = bounded a p in same (omega arith) (omega arith);
  right = λ a p. let h = bounded a p in same (omega arith) (omega arith);
  assoc = λ a b c p q r. same (omega arith) (omega arith);
  none = refl;
  small = λ e. let f = e.shown in omega arith;
  sum = λ a b p q. refl;
}
