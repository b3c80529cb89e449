-- What the plain paragraph answers to an edit, case by case, and what a paragraph keeps.
use Rattle.std.proofs.Common.{◌≡◌, ℕ, ◌+◌, ◌-◌, ◌<◌, ◌≤◌, Bool, true, false, cond, ltb, leb, List, ◌++◌, length, take, drop, Some, None, Ok, Err, Option, Result, sym, refl, ap, ◌∙◌, arith, length-append, length-drop}
use mathlib.Core.HLevel.{is_prop→PathP}
use mathlib.Core.Logic.{∥∥₁_prop}
use native.Mathlib.Bridge.{le_prop}
use Rattle.std.proofs.lemmas.List.{length-take-le}
use Rattle.std.proofs.lemmas.Bool.{lt-ltb, le-ltb, le-leb, ltb-true, ltb-false, leb-true, and_parts, and_from, cond-true, cond-false}
use Rattle.tree.specs.Plain.{accepted, fits, spliced, replace_answer, after_replace}
use Rattle.tree.specs.Trees.{elements_of, capacity_of, TotalsRight}
use Rattle.tree.specs.declared.tree.Tree.{Tree}
use Rattle.bidi.specs.declared.item.Item.{Item}
use Rattle.paragraph.specs.Faults.{Refusal, plain}
use Rattle.paragraph.specs.Totals.{total_ops}
use Rattle.paragraph.specs.Plain.{first_wide, unless_wide, edit_answer, after_edit}
use Rattle.paragraph.specs.declared.paragraph.Paragraph.{Paragraph}

pub same_paragraph : (p q : Paragraph) → p.tree ≡ q.tree → p.direction ≡ q.direction → p ≡ q
same_paragraph p q e d = λ i. record {
  tree = e i;
  direction = d i;
  totals = is_prop→PathP (λ j. ∥ TotalsRight total_ops (e j).now ∥₁) (λ j. ∥∥₁_prop) p.totals q.totals i;
  few = is_prop→PathP (λ j. length (elements_of (e j).now) ≤ 4096) (λ j. le_prop) p.few q.few i;
}

module _ {E : Type 0} (xs ys : List E) (first end : ℕ) where
  pub length-spliced : first ≤ end → end ≤ length xs → length (spliced xs first end ys) ≡ length xs - (end - first) + length ys
  length-spliced h h' =
      let a = length-append (take first xs) (ys ++ drop end xs) in
      let b = length-append ys (drop end xs) in
      let c = length-take-le first xs (omega arith) in
      let d = length-drop end xs in
      omega arith

  -- a replacement never exceeds the room
  few_replace : (room : ℕ) → room ≤ 4096 → length xs ≤ 4096 → length (after_replace room xs first end ys) ≤ 4096
  few_replace room r h = go (fits xs first end) (ltb room (length xs - (end - first) + length ys)) (λ e. and_parts (leb first end) (leb end (length xs)) e) (ltb-false room (length xs - (end - first) + length ys))
    where
      go : (b c : Bool) → (b ≡ true → (leb first end ≡ true) × (leb end (length xs) ≡ true)) → (c ≡ false → length xs - (end - first) + length ys ≤ room) → length (accepted {A = Unit {0}} {B = ℕ} (cond b (cond c (Err 2) (Ok (tt {0}))) (Err 3)) (spliced xs first end ys) xs) ≤ 4096
      go false c u v = h
      go true true u v = h
      go true false u v =
          let w = u refl in
          let a = leb-true first end w.0 in
          let b = leb-true end (length xs) w.1 in
          let k = v refl in
          let l = length-spliced a b in
          omega arith

pub few_after : {E T : Type 0} (t : Tree E T) (xs ys : List E) (first end : ℕ) → length xs ≤ 4096 → length (after_replace (capacity_of t) xs first end ys) ≤ 4096
unfolding capacity_of
few_after t xs ys first end h = few_replace xs ys first end (capacity_of t) (omega arith) h

-- where no item is too wide the later answer counts
not_wide : (o : Option ℕ) (later : Result (Unit {0}) Refusal) → Ok tt ≡ unless_wide o (Ok tt) → unless_wide o later ≡ later
not_wide None later e = refl
not_wide (Some p) later e = let z : ◌≡◌ {A = ℕ} 0 1 = cc in absurd (omega arith)

-- what the tree answers to the replacement of a stretch that is there
module _ {E : Type 0} (room : ℕ) (xs ys : List E) (first end : ℕ) (h : first ≤ end) (h' : end ≤ length xs) where
  there : replace_answer room xs first end ys ≡ cond (ltb room (length xs - (end - first) + length ys)) (Err 2) (Ok tt)
  there = cond-true (fits xs first end) _ (Err 3) (and_from (leb first end) (leb end (length xs)) (le-leb first end h) (le-leb end (length xs) h'))

  pub replace_refused : (n : ℕ) → Err n ≡ replace_answer room xs first end ys → (2 ≡ n) × (room < length xs - (end - first) + length ys)
  replace_refused n e = go (ltb room (length xs - (end - first) + length ys)) refl (e ∙ there)
    where
      go : (c : Bool) → ltb room (length xs - (end - first) + length ys) ≡ c → ◌≡◌ {A = Result (Unit {0}) ℕ} (Err n) (cond c (Err 2) (Ok tt)) → (2 ≡ n) × (room < length xs - (end - first) + length ys)
      go true q e = let z : 2 ≡ n = cc in (z, ltb-true room (length xs - (end - first) + length ys) q)
      go false q e = let z : ◌≡◌ {A = ℕ} 0 1 = cc in absurd (omega arith)

  pub replace_accepted : Ok tt ≡ replace_answer room xs first end ys → (length xs - (end - first) + length ys ≤ room) × (after_replace room xs first end ys ≡ spliced xs first end ys)
  replace_accepted e = (go (ltb room (length xs - (end - first) + length ys)) refl (e ∙ there), sym (ap (λ q. accepted q (spliced xs first end ys) xs) e))
    where
      go : (c : Bool) → ltb room (length xs - (end - first) + length ys) ≡ c → ◌≡◌ {A = Result (Unit {0}) ℕ} (Ok tt) (cond c (Err 2) (Ok tt)) → length xs - (end - first) + length ys ≤ room
      go true q e = let z : ◌≡◌ {A = ℕ} 0 1 = cc in absurd (omega arith)
      go false q e = ltb-false room (length xs - (end - first) + length ys) q

module _ (room : ℕ) (xs : List Item) (place removed : ℕ) (new : List Item) where
  kept : (r : Refusal) → Err r ≡ edit_answer room xs place removed new → xs ≡ after_edit room xs place removed new
  kept r e = ap (λ q. accepted q (spliced xs place (place + removed) new) xs) e

  module _ (h : place ≤ length xs) where
    past_place : edit_answer room xs place removed new ≡ cond (ltb (length xs - place) removed) (Err (plain 12)) (unless_wide (first_wide new) (cond (ltb room (length xs - removed + length new)) (Err (plain 2)) (Ok tt)))
    past_place = cond-false (ltb (length xs) place) (Err (plain 11)) _ (le-ltb (length xs) place h)

    module _ (k : removed ≤ length xs - place) where
      past_removed : edit_answer room xs place removed new ≡ unless_wide (first_wide new) (cond (ltb room (length xs - removed + length new)) (Err (plain 2)) (Ok tt))
      past_removed = past_place ∙ cond-false (ltb (length xs - place) removed) (Err (plain 12)) _ (le-ltb (length xs - place) removed k)

      module _ (narrow : Ok tt ≡ unless_wide (first_wide new) (Ok tt)) where
        past_width : edit_answer room xs place removed new ≡ cond (ltb room (length xs - removed + length new)) (Err (plain 2)) (Ok tt)
        past_width = past_removed ∙ not_wide (first_wide new) _ narrow

        pub edit_full : room < length xs - removed + length new → (Err (plain 2) ≡ edit_answer room xs place removed new) × (xs ≡ after_edit room xs place removed new)
        edit_full l = let a = sym (past_width ∙ cond-true (ltb room (length xs - removed + length new)) (Err (plain 2)) (Ok tt) (lt-ltb room (length xs - removed + length new) l)) in (a, kept (plain 2) a)

        pub edit_done : length xs - removed + length new ≤ room → (Ok tt ≡ edit_answer room xs place removed new) × (spliced xs place (place + removed) new ≡ after_edit room xs place removed new)
        edit_done l =
            let a = sym (past_width ∙ cond-false (ltb room (length xs - removed + length new)) (Err (plain 2)) (Ok tt) (le-ltb room (length xs - removed + length new) l)) in
            (a, ap (λ q. accepted q (spliced xs place (place + removed) new) xs) a)
