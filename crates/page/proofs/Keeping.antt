-- What a page keeps: at most 4,096 entries, and everything where it refuses.
use Rattle.std.proofs.Common.{◌≡◌, ℕ, ◌<◌, ◌≤◌, Bool, true, false, cond, ltb, leb, List, length, Ok, Err, sym, refl, ap, arith, ltb-false, leb-false}
use Rattle.std.specs.List.{insert}
use Rattle.std.proofs.lemmas.List.Edits.{length-insert}
use Rattle.tree.specs.Plain.{accepted, insert_answer, after_insert}
use Rattle.tree.specs.Trees.{capacity_of}
use Rattle.tree.specs.declared.tree.Tree.{Tree}
use Rattle.page.specs.Entries.{in_range, entry_of}
use Rattle.page.specs.Pages.{put_answer, after_put}
use Rattle.page.specs.declared.entry.Entry.{Entry}

pub capacity_le : {E T : Type 0} (t : Tree E T) → capacity_of t ≤ 4096
unfolding capacity_of
capacity_le t = omega arith

module _ {E : Type 0} where
  -- an insertion adds at most one, and that only where there is room
  pub few_insert : (room : ℕ) (xs : List E) (p : ℕ) (x : E) → room ≤ 4096 → length xs ≤ 4096 → length (after_insert room xs p x) ≤ 4096
  few_insert room xs p x r h = go (ltb (length xs) p) (leb room (length xs)) (ltb-false (length xs) p) (leb-false room (length xs))
    where
      go : (b c : Bool) → (b ≡ false → p ≤ length xs) → (c ≡ false → length xs < room) → length (accepted {A = Unit {0}} {B = ℕ} (cond b (Err 1) (cond c (Err 2) (Ok (tt {0})))) (insert xs p x) xs) ≤ 4096
      go true c u v = h
      go false true u v = h
      go false false u v = let a = u refl in let k = v refl in rw (length-insert xs p x a) (omega arith)

module _ (room : ℕ) (xs : List Entry) (place key lines hits : ℕ) where
  -- lines in range are left to the insertion
  pub put_inserts : in_range lines ≡ true → insert_answer room xs place ≡ put_answer room xs place lines
  put_inserts h = sym (ap (λ b. cond b (insert_answer room xs place) (Err 31)) h)

  pub put_keeps : (n : ℕ) → Err n ≡ put_answer room xs place lines → xs ≡ after_put room xs place key lines hits
  put_keeps n e = ap (λ r. accepted r (insert xs place (entry_of key lines hits)) xs) e
