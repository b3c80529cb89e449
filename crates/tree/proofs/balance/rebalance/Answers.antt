use Rattle.std.proofs.Common.{◌≤◌, ap, arith}
use mathlib.Core.Logic.{∥∥₁_elim, ∥∥₁_map}
use native.Mathlib.Bridge.{le_prop}
use Rattle.tree.proofs.Held.{tall_size}
use Rattle.tree.proofs.balance.rebalance.Goals as goal

pub extent_of-before-requires : goal.extent_of-before-requires
extent_of-before-requires g c = ∥∥₁_map c.requires (λ w. (w.0, w.2.on_left, tt))

pub extent_of-after-requires : goal.extent_of-after-requires
extent_of-after-requires g c = ∥∥₁_map c.requires (λ w. (w.1, w.2.on_right, tt))

pub overflow_add-after : goal.overflow_add-after
overflow_add-after g c =
    let h : c.extent_of-after.result.height ≤ 4096 = ∥∥₁_elim c.requires le_prop (λ w.
    let p = c.extent_of-after.ensures.height w.1 w.2.on_right in
    let q = tall_size w.1 in
    let f = w.2.few in
    omega arith) in
    omega arith

pub overflow_add-before : goal.overflow_add-before
overflow_add-before g c =
    let h : c.extent_of-before.result.height ≤ 4096 = ∥∥₁_elim c.requires le_prop (λ w.
    let p = c.extent_of-before.ensures.height w.0 w.2.on_left in
    let q = tall_size w.0 in
    let f = w.2.few in
    omega arith) in
    omega arith
