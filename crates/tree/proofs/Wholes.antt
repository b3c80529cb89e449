-- The whole tree: its shape read off the rows, and its free rows. Assumes nothing.
use Rattle.std.proofs.Common.{◌≡◌, ℕ, zero, suc, ◌+◌, ◌-◌, ◌<◌, ◌≤◌, List, [], ◌∷◌, length, set, Some, None, Option, sym, refl, ap, ◌∙◌, subst, ⊎_elim, arith, length-set}
use mathlib.Core.HLevel.{Unit-prop}
use Rattle.std.specs.List.{slice_get}
use Rattle.std.proofs.lemmas.Bool.{cases_eq}
use Rattle.tree.specs.declared.row.Row.{Row}
use Rattle.tree.specs.Measures.{Operations}
use Rattle.tree.specs.Shapes.{Shape, leaf, node, top, tall, size, Totalled, Under, uses, one, times, Chain, Pool, Whole, grown, shape_at, shape_of}
use Rattle.tree.specs.Surgery.{Becomes, Fresh, Loose, inserted_at, removed_at, row_in}
use Rattle.tree.proofs.Held.{nth_within, tall_size}
use Rattle.tree.proofs.Writing.{one_here, one_else, nth_set_here, nth_set_else, keep}
use Rattle.tree.proofs.Shaping.{more}
use Rattle.tree.proofs.Balancing.{grown_put}
use Rattle.tree.proofs.Removing.{taken, used_within}
use Rattle.tree.proofs.Shrinking.{shrunk_out}

module _ {E T : Type 0} {rows : List (Row E T)} where
  pub shape_found : {link : Option ℕ} (d : ℕ) (s : Shape E T) → Under rows link s → tall s ≤ d → shape_at d rows link ≡ s
  shape_found zero leaf w h = refl
  shape_found zero (node a i e t b) w h = absurd (omega arith)
  shape_found (suc d) leaf w h = ap (shape_at (suc d) rows) w.linked
  shape_found {link} (suc d) (node a i e t b) w h =
      let f = w.few in
      let l = shape_found {link = top a} d a (record { linked = refl; held = w.held.1; few = omega arith }) (omega arith) in
      let r = shape_found {link = top b} d b (record { linked = refl; held = w.held.2; few = omega arith }) (omega arith) in
      ap (shape_at (suc d) rows) w.linked ∙ ap (grown (shape_at d rows) i) w.held.0 ∙ ap (λ x. node x i e t (shape_at d rows (top b))) l ∙ ap (λ x. node a i e t x) r

  pub whole_shape : {root free : Option ℕ} {used count : ℕ} (s : Shape E T) {f : List ℕ} → Whole rows root free used count s f → shape_of rows root ≡ s
  whole_shape s w =
      let p = w.pool.tallied in
      let q = w.pool.long in
      let r = tall_size s in
      shape_found (length rows) s w.under (omega arith)

  pub take_some : {free : Option ℕ} {used m i : ℕ} {u : ℕ → ℕ} (r : Row E T) (f : List ℕ) → free ≡ Some i → slice_get rows i ≡ Some r → Pool rows free used u m f → (left : List ℕ) × Pool rows r.left used (λ n. u n + one i n) (m + 1) left
  take_some r [] is at w = let p = w.chain in let z : ◌≡◌ {A = ℕ} 0 1 = cc in absurd (omega arith)
  take_some {i} {u} r (j ∷ f) is at w =
      let p = w.chain.0 in
      let same : j ≡ i = cc in
      let reach : slice_get rows i ≡ Some w.chain.1.0 = subst (λ n. slice_get rows n ≡ Some w.chain.1.0) same w.chain.1.1 in
      let here : w.chain.1.0 ≡ r = cc in
      let alike : (n : ℕ) → one j n ≡ one i n = λ n. ap (λ x. one x n) same in
      let t = w.tallied in (
        f,
        record {
          chain = subst (λ (x : Row E T). Chain rows x.left f) here w.chain.1.2;
          apart = λ n. let a = w.apart n in let b = alike n in omega arith;
          low = λ n h. let a = w.low n h in let b = alike n in omega arith;
          tallied = omega arith;
          long = w.long;
          small = w.small;
        },
      )

  pub free_within : {free : Option ℕ} {used m i : ℕ} {u : ℕ → ℕ} (f : List ℕ) → free ≡ Some i → Pool rows free used u m f → i < length rows
  free_within [] is w = let p = w.chain in let z : ◌≡◌ {A = ℕ} 0 1 = cc in absurd (omega arith)
  free_within {i} (j ∷ f) is w =
      let p = w.chain.0 in
      let same : j ≡ i = cc in
      let h = nth_within rows j _ w.chain.1.1 in
      omega arith

  pub take_none : {free : Option ℕ} {used m : ℕ} {u : ℕ → ℕ} (f : List ℕ) → free ≡ None → Pool rows free used u m f → m < 4096 → m < length rows → (used < length rows) × (used < 4096) × Pool rows None (used + 1) (λ n. u n + one used n) (m + 1) []
  take_none {used} {m} {u} [] is w few fits =
      let t = w.tallied in
      let past = w.low used (omega arith) in (
        omega arith,
        omega arith,
        record {
          chain = refl;
          apart = λ n. ⊎_elim (λ e. let a = one_here used n e in let b = subst (λ x. u x + 0 ≡ 0) e past in omega arith) (λ e. let a = one_else used n e in let b = w.apart n in omega arith) (cases_eq used n);
          low = λ n h. let a = one_else used n (λ e. omega arith) in let b = w.low n (omega arith) in omega arith;
          tallied = omega arith;
          long = omega arith;
          small = omega arith;
        },
      )
  take_none (j ∷ f) is w few fits = let p = w.chain.0 in let z : ◌≡◌ {A = ℕ} 0 1 = cc in absurd (omega arith)

module _ {E T : Type 0} (old rows : List (Row E T)) where
  pub chain_keep : (f : List ℕ) (link : Option ℕ) → ((n : ℕ) → 0 < times f n → slice_get rows n ≡ slice_get old n) → Chain old link f → Chain rows link f
  chain_keep [] link same h = h
  chain_keep (i ∷ f) link same h =
      let o = one_here i i refl in
      (h.0, (h.1.0, same i (omega arith) ∙ h.1.1, chain_keep f h.1.0.left (λ n p. same n (omega arith)) h.1.2))

module _ {E T : Type 0} (k : Operations E T) (place fresh : ℕ) (s : Shape E T) (f left : List ℕ) where
  -- the tree before, a row taken, and the tree below the root afterwards
  pub whole_put : {old rows : List (Row E T)} {root free free' r : Option ℕ} {used used' count : ℕ} (x : E) → Whole old root free used count s f → Pool old free' used' (λ n. uses s n + one fresh n) (size s + 1) left → Becomes old rows r (inserted_at k s place fresh x) → length rows ≡ length old → Whole rows r free' used' (count + 1) (inserted_at k s place fresh x) left
  whole_put {old} {rows} {root} {free} {free'} x w p t long =
      let m = more k s place fresh x in
      record {
        under = t.under;
        balance = (grown_put k s place fresh x w.balance).balance;
        pool = record {
          chain = chain_keep old rows left free' (λ n h. t.kept n (let a = p.apart n in let b = m.rows n in omega arith)) p.chain;
          apart = λ n. let a = p.apart n in let b = m.rows n in omega arith;
          low = λ n h. let a = p.low n h in let b = m.rows n in omega arith;
          tallied = let a = p.tallied in let b = m.many in omega arith;
          long = let a = p.long in omega arith;
          small = p.small;
        };
        counted = let a = w.counted in let b = m.many in omega arith;
      }

  pub fresh_for : {old : List (Row E T)} {root free free' : Option ℕ} {used used' count : ℕ} → Whole old root free used count s f → Pool old free' used' (λ n. uses s n + one fresh n) (size s + 1) left → fresh < length old → place ≤ count → count < 4096 → Fresh old root place fresh s
  fresh_for w p at h few = record {
    under = w.under;
    apart = λ n. let a = p.apart n in omega arith;
    at = at;
    within = let a = w.counted in omega arith;
    room = let a = w.counted in omega arith;
  }

-- totals of a set are right in one way at most
pub totalled_prop : {E T : Type 0} (k : Operations E T) → IsSet T → (s : Shape E T) → IsProp (Totalled k s)
totalled_prop k h leaf = Unit-prop
totalled_prop k h (node a i e t b) = λ x y. λ j. (h _ _ x.0 y.0 j, totalled_prop k h a x.1 y.1 j, totalled_prop k h b x.2 y.2 j)

abbrev pub as_list : {E : Type 0} → Option E → List E
as_list None = []
as_list (Some x) = x ∷ []

pub from_list : {E : Type 0} (o : Option E) (x : E) → as_list o ≡ x ∷ [] → o ≡ Some x
from_list {E} None x h = let z : ◌≡◌ {A = Option E} None (Some x) = cc in z
from_list (Some y) x h = cc

pub whole_empty : {E T : Type 0} (rows : List (Row E T)) → Whole rows None None 0 0 leaf []
whole_empty rows = record {
  under = record { linked = refl; held = tt; few = omega arith };
  balance = tt;
  pool = record { chain = refl; apart = λ n. omega arith; low = λ n h. omega arith; tallied = omega arith; long = omega arith; small = omega arith };
  counted = refl;
}

-- a removal: the rows after the surgery, the given-up row chained before the others
module _ {E T : Type 0} (k : Operations E T) (place : ℕ) (s : Shape E T) (f : List ℕ) where
  pub loose_for : {old : List (Row E T)} {root free : Option ℕ} {used count : ℕ} → Whole old root free used count s f → Loose old root s
  loose_for w = record { under = w.under; apart = λ n. let a = w.pool.apart n in omega arith }

  pub gone_within : {old : List (Row E T)} {root free : Option ℕ} {used count gone : ℕ} → place < size s → Whole old root free used count s f → gone ≡ row_in s place → gone < length old
  gone_within {old} {gone} h w is =
      let m = (taken k s place h).rows gone ∙ ap (λ x. uses (removed_at k s place) gone + one x gone) (sym is) in
      let here = one_here gone gone refl in
      used_within old s gone w.under.held (omega arith)

  pub whole_out : {old mid rows : List (Row E T)} {root free top : Option ℕ} {used count gone : ℕ} {row : Row E T} → place < size s → Whole old root free used count s f → Becomes old mid top (removed_at k s place) → length mid ≡ length old → gone ≡ row_in s place → slice_get mid gone ≡ Some row → rows ≡ set mid gone (record { element = row.element; left = free; right = row.right; height = row.height; count = row.count; total = row.total }) → Whole rows top (Some gone) used (count - 1) (removed_at k s place) (gone ∷ f)
  whole_out {old} {mid} {rows} {root} {free} {top} {used} {count} {gone} {row} h w t same is at set_is =
      let m = taken k s place h in
      let fewer : (n : ℕ) → uses s n ≡ uses (removed_at k s place) n + one gone n = λ n. m.rows n ∙ ap (λ x. uses (removed_at k s place) n + one x n) (sym is) in
      let many = m.many in
      let here = one_here gone gone refl in
      let used_here = fewer gone in
      let kept : (n : ℕ) → (gone ≡ n → ⊥) → slice_get rows n ≡ slice_get mid n = λ n ne. ap (λ r. slice_get r n) set_is ∙ nth_set_else mid gone n _ ne in
      let p = w.pool in
      record {
        under = record {
          linked = t.under.linked;
          held = keep mid rows (removed_at k s place) (λ n q. kept n (λ e. let a = p.apart n in let b = fewer n in let c = one_here gone n e in omega arith)) t.under.held;
          few = t.under.few;
        };
        balance = (shrunk_out k s place w.balance).balance;
        pool = record {
          chain = (refl, (_, ap (λ r. slice_get r gone) set_is ∙ nth_set_here mid gone _ (nth_within mid gone row at), chain_keep old rows f free (λ n q. let a = p.apart n in let b = fewer n in kept n (λ e. let c = one_here gone n e in omega arith) ∙ t.kept n (omega arith)) p.chain));
          apart = λ n. let a = p.apart n in let b = fewer n in omega arith;
          low = λ n q. let a = p.low n q in let b = fewer n in omega arith;
          tallied = let a = p.tallied in omega arith;
          long = let a = p.long in let b = ap length set_is ∙ length-set mid gone _ in omega arith;
          small = p.small;
        };
        counted = let a = w.counted in omega arith;
      }
