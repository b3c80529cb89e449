-- A place lies in one run.
use Rattle.std.proofs.Common.{◌≡◌, ℕ, suc, ◌-◌, ◌<◌, ◌≤◌, List, sym, ◌∙◌, ⊎_elim, arith}
use Rattle.std.proofs.lemmas.Bool.{cases_lt}
use Rattle.paragraph.specs.Runs.{RunOf, RunIsUnique}
use Rattle.paragraph.specs.declared.run.Run.{Run}

module _ (levels : List ℕ) (p : ℕ) where
  same_level : (r s : Run) → RunOf levels p r → RunOf levels p s → r.level ≡ s.level
  same_level r s h k = sym (h.same p h.from h.to) ∙ k.same p k.from k.to

  -- no run begins before another, or ends behind it
  not_before : (r s : Run) → RunOf levels p r → RunOf levels p s → s.first ≤ r.first
  not_before r s h k =
      ⊎_elim (λ (l : r.first < s.first).
      let a = k.from in let b = h.to in let e : suc (s.first - 1) ≡ s.first = omega arith in
      absurd (k.left (s.first - 1) e (h.same (s.first - 1) (omega arith) (omega arith) ∙ same_level r s h k)))
      (λ (l : s.first ≤ r.first). l) (cases_lt r.first s.first)

  not_behind : (r s : Run) → RunOf levels p r → RunOf levels p s → r.end ≤ s.end
  not_behind r s h k =
      ⊎_elim (λ (l : s.end < r.end).
      let a = h.ends in let b = k.to in let c = h.from in
      absurd (k.right (omega arith) (h.same s.end (omega arith) l ∙ same_level r s h k)))
      (λ (l : r.end ≤ s.end). l) (cases_lt s.end r.end)

pub run_is_unique : RunIsUnique
run_is_unique levels p r s h k =
    let a = not_before levels p r s h k in
    let b = not_before levels p s r k h in
    let c = not_behind levels p r s h k in
    let d = not_behind levels p s r k h in
    let first : r.first ≡ s.first = omega arith in
    let end : r.end ≡ s.end = omega arith in
    λ i. record { first = first i; end = end i; level = same_level levels p r s h k i }
