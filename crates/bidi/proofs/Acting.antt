-- A total acts as its items do, one by one.
use Rattle.std.proofs.Common.{◌≡◌, ℕ, List, [], ◌∷◌, refl, ap, ◌∙◌}
use Rattle.tree.specs.Measures.{Lawful, total_of, unit, of, join}
use Rattle.rules.specs.declared.classes.Class.{Class}
use Rattle.rules.specs.declared.classes.Class.TheVariants.{L, R, AL, EN, ES, ET, AN, CS, NSM, S, WS, ON}
use Rattle.rules.specs.declared.contexts.Left.{Left}
use Rattle.rules.specs.declared.contexts.Right.{Right}
use Rattle.rules.specs.Contexts.{after, after_all, before, before_all}
use Rattle.rules.specs.Rules.{P2}
use Rattle.bidi.specs.declared.item.Item.{Item}
use Rattle.bidi.specs.Actions.{left_at, right_at, act_left, act_right, strong_at}
use Rattle.bidi.specs.Items.{classes}
use Rattle.bidi.specs.Joins.{left_of, right_of, strong_of, strong_join}
use Rattle.bidi.specs.Sums.{context_ops}
use Rattle.bidi.specs.Laws.{turn_left, turn_right}
use Rattle.bidi.specs.Claims.{left_behind, right_before, JoinsActInTurn}

left_item : (c : Class) (l : Left) → act_left (left_at (left_of c)) l ≡ after l c
left_item L l = refl
left_item R l = refl
left_item AL l = refl
left_item EN l = refl
left_item ES l = refl
left_item ET l = refl
left_item AN l = refl
left_item CS l = refl
left_item NSM l = refl
left_item S l = refl
left_item WS l = refl
left_item ON l = refl

right_item : (c : Class) (r : Right) → act_right (right_at (right_of c)) r ≡ before c r
right_item L r = refl
right_item R r = refl
right_item AL r = refl
right_item EN r = refl
right_item ES r = refl
right_item ET r = refl
right_item AN r = refl
right_item CS r = refl
right_item NSM r = refl
right_item S r = refl
right_item WS r = refl
right_item ON r = refl

strong_item : (c : Class) (cs : List Class) (n : ℕ) → strong_at n ≡ P2 cs → strong_at (strong_join (strong_of c) n) ≡ P2 (c ∷ cs)
strong_item L cs n h = refl
strong_item R cs n h = refl
strong_item AL cs n h = refl
strong_item EN cs n h = h
strong_item ES cs n h = h
strong_item ET cs n h = h
strong_item AN cs n h = h
strong_item CS cs n h = h
strong_item NSM cs n h = h
strong_item S cs n h = h
strong_item WS cs n h = h
strong_item ON cs n h = h

lawful : (es : List Item) → Lawful context_ops (total_of context_ops es)
lawful [] = unit
lawful (e ∷ es) = join _ _ (of e) (lawful es)

pub left_acts : (es : List Item) (l : Left) → left_behind (total_of context_ops es) l ≡ after_all l (classes es)
left_acts [] l = refl
left_acts (e ∷ es) l =
    turn_left _ _ (of e) (lawful es) l ∙ ap (left_behind (total_of context_ops es)) (left_item e.class l) ∙ left_acts es (after l e.class)

pub right_acts : (es : List Item) (r : Right) → right_before (total_of context_ops es) r ≡ before_all (classes es) r
right_acts [] r = refl
right_acts (e ∷ es) r =
    turn_right _ _ (of e) (lawful es) r
    ∙ ap (act_right (right_at (right_of e.class))) (right_acts es r)
    ∙ right_item e.class (before_all (classes es) r)

pub strong_acts : (es : List Item) → strong_at (total_of context_ops es).strong ≡ P2 (classes es)
strong_acts [] = refl
strong_acts (e ∷ es) = strong_item e.class (classes es) (total_of context_ops es).strong (strong_acts es)

pub in_turn : JoinsActInTurn
in_turn a b p q = (turn_left a b p q, turn_right a b p q)
