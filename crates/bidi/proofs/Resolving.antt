-- Both passes of resolving, step by step.
use Rattle.std.proofs.Common.{◌≡◌, ℕ, zero, suc, ◌+◌, ◌<◌, ◌≤◌, ◌≢◌, List, [], ◌∷◌, ◌++◌, length, get_or, take, drop, set, sym, refl, ap, ◌∙◌, ap₂, arith}
use Rattle.std.proofs.lemmas.List.{drop_more, take_more, take_more_set, take_all, take-append-drop, map-append, length-map, length-take, get_or-set_other}
use Rattle.tree.specs.Measures.{total_of}
use Rattle.rules.specs.declared.classes.Class.{Class}
use Rattle.rules.specs.declared.classes.Side.{Side}
use Rattle.rules.specs.declared.contexts.Left.{Left}
use Rattle.rules.specs.declared.contexts.Right.{Right}
use Rattle.rules.specs.Contexts.{start, after, after_all, end}
use Rattle.rules.specs.Rules.{levels}
use Rattle.rules.specs.Claims.{left_of, right_of as right_context, IsLevel}
use Rattle.rules.proofs.ByContexts.{levels_are_low_lem}
use Rattle.bidi.specs.declared.item.Item.{Item}
use Rattle.bidi.specs.Actions.{act_right, right_at}
use Rattle.bidi.specs.Items.{classes}
use Rattle.bidi.specs.Resolving.{behind}
use Rattle.bidi.specs.Sums.{context_ops}
use Rattle.bidi.proofs.Acting.{right_acts}

-- the pass from the right has come down to i
pub record Gathered (items : List Item) (i : ℕ) (bytes : List ℕ) (right strong : ℕ) : Type 0 where
  pub on_right : right ≡ (total_of context_ops (drop i items)).right
  pub on_strong : strong ≡ (total_of context_ops (drop i items)).strong
  pub written : drop i bytes ≡ behind (drop i items)

-- what stands at a place after that pass
behind_at : (items : List Item) (i : ℕ) → i < length items → get_or (behind items) i 0 ≡ (total_of context_ops (drop (suc i) items)).right
behind_at [] i h = absurd (omega arith)
behind_at (e ∷ es) zero h = refl
behind_at (e ∷ es) (suc i) h = behind_at es i (omega arith)

pub length_behind : (items : List Item) → length (behind items) ≡ length items
length_behind [] = refl
length_behind (e ∷ es) = ap suc (length_behind es)

after_push : (l : Left) (cs : List Class) (c : Class) → after_all l (cs ++ (c ∷ [])) ≡ after (after_all l cs) c
after_push l [] c = refl
after_push l (x ∷ xs) c = after_push (after l x) xs c

-- the pass from the left has come to i
pub record Settled (base : Side) (items : List Item) (i : ℕ) (bytes : List ℕ) (left : Left) : Type 0 where
  pub on_left : left ≡ left_of base (classes (take i items))
  pub front : take i bytes ≡ take i (levels base (classes items))
  pub rest : (k : ℕ) → i ≤ k → get_or bytes k 0 ≡ get_or (behind items) k 0

length-levels : (base : Side) (items : List Item) → length (levels base (classes items)) ≡ length items
length-levels base items = (levels_are_low_lem base (classes items)).0 ∙ length-map items (λ i. i.class)

module _ (base : Side) (items : List Item) (i : ℕ) (bytes : List ℕ) (left : Left) (d : Item) (h : i < length items) (k : i < length bytes) (s : Settled base items i bytes left) where
  abbrev e : Item
  e = get_or items i d

  behind_here : get_or bytes i 0 ≡ (total_of context_ops (drop (i + 1) items)).right
  behind_here =
      let next : suc i ≡ i + 1 = omega arith in
      s.rest i (omega arith) ∙ behind_at items i h ∙ ap (λ n. (total_of context_ops (drop n items)).right) next

  -- the byte gives the right context
  pub right_here : act_right (right_at (get_or bytes i 0)) (end base) ≡ right_context base (classes (drop (i + 1) items))
  right_here = ap (λ n. act_right (right_at n) (end base)) behind_here ∙ right_acts (drop (i + 1) items) (end base)

  around : items ≡ take i items ++ (e ∷ drop (i + 1) items)
  around = sym (take-append-drop i items) ∙ ap (λ l. take i items ++ l) (drop_more items i d h)

  -- the level between the contexts is the rules' level here
  pub level_here : (n : ℕ) (r : Right) → r ≡ right_context base (classes (drop (i + 1) items)) → IsLevel base left e.class r n
      → n ≡ get_or (levels base (classes items)) i 0
  level_here n r on_right told =
      let long : length (classes (take i items)) ≡ i = length-map (take i items) (λ i. i.class) ∙ length-take i items ∙ omega arith in
      told (classes (take i items)) (classes (drop (i + 1) items)) s.on_left on_right
      ∙ ap₂ (λ cs m. get_or (levels base cs) m 0) (sym (map-append (λ i. i.class) (take i items) (e ∷ drop (i + 1) items)) ∙ sym (ap classes around)) long

  pub settled_more : (n : ℕ) → n ≡ get_or (levels base (classes items)) i 0 → Settled base items (i + 1) (set bytes i n) (after left e.class)
  settled_more n level = record {
    on_left =
        ap (λ l. after l e.class) s.on_left
        ∙ sym (after_push (start base) (classes (take i items)) e.class)
        ∙ ap (after_all (start base)) (sym (map-append (λ i. i.class) (take i items) (e ∷ [])) ∙ sym (ap classes (take_more items i d h)));
    front =
        take_more_set bytes i n k
        ∙ ap₂ (λ (xs : List ℕ) (x : ℕ). xs ++ (x ∷ [])) s.front level
        ∙ sym (take_more (levels base (classes items)) i 0 (omega (arith, length-levels base items)));
    rest = λ j u. let apart : j ≢ i = omega arith in get_or-set_other bytes i j n 0 apart ∙ s.rest j (omega arith);
  }

pub settled_all : (base : Side) (items : List Item) (i : ℕ) (bytes : List ℕ) (left : Left) → length items ≤ i → length bytes ≡ length items
    → Settled base items i bytes left → bytes ≡ levels base (classes items)
settled_all base items i bytes left h k s =
    sym (take_all i bytes (omega arith)) ∙ s.front ∙ take_all i (levels base (classes items)) (omega (arith, length-levels base items))
