use Rattle.std.proofs.Common.{◌+◌, ◌≤◌, ap, arith}
use mathlib.Core.Logic.{∥∥₁_elim, ∥∥₁_map}
use native.Mathlib.Bridge.{le_prop}
use Rattle.tree.proofs.Held.{tall_size}
use Rattle.tree.proofs.balance.row_over.Given as given
use Rattle.tree.proofs.balance.row_over.Goals as goal

pub part_of-before-requires : goal.part_of-before-requires
part_of-before-requires g c = ∥∥₁_map c.requires (λ w. (w.0, w.2, tt))

pub part_of-after-requires : goal.part_of-after-requires
part_of-after-requires g c = ∥∥₁_map c.requires (λ w. (w.1, w.3, tt))

pub overflow_add-result : goal.overflow_add-result
overflow_add-result g c =
    let h : c.max.result ≤ 4096 = ∥∥₁_elim c.requires le_prop (λ w.
    let p = ap (λ r. r.height) (c.part_of-before.ensures w.0 w.2) in
    let q = ap (λ r. r.height) (c.part_of-after.ensures w.1 w.3) in
    let x = tall_size w.0 in
    let y = tall_size w.1 in
    let z = w.4 in
    let m = c.max.ensures in
    omega arith) in omega arith

bound : (g : given.Over) (c : goal.After-max g) → c.part_of-before.result.count + 1 + c.part_of-after.result.count ≤ 4096
bound g c = ∥∥₁_elim c.requires le_prop (λ w.
    let p = ap (λ r. r.count) (c.part_of-before.ensures w.0 w.2) in
    let q = ap (λ r. r.count) (c.part_of-after.ensures w.1 w.3) in
    let z = w.4 in
    omega arith)

pub overflow_add-result-2 : goal.overflow_add-result-2
overflow_add-result-2 g c = let b = bound g c in omega arith

pub overflow_add-result-3 : goal.overflow_add-result-3
overflow_add-result-3 g c = let b = bound g c in omega arith
