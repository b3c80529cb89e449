-- The levels by the rules are the levels by contexts, in every paragraph.
use Rattle.std.proofs.Common.{◌≡◌, ℕ, suc, ◌≤◌, Bool, true, false, cond, not, ◌&&◌, ◌||◌, T, leb, List, [], ◌∷◌, ◌++◌, map, length, get_or, sym, refl, ap, ◌∙◌, ap₂, eqb→eq, leb→le}
use mathlib.Core.Path.{subst⁻¹}
use Rattle.std.specs.List.{AllByRecursion}
use Rattle.rules.specs.declared.classes.Class.{Class}
use Rattle.rules.specs.declared.classes.Class.TheVariants.{L, R, EN, ET}
use Rattle.rules.specs.declared.classes.Side.{Side}
use Rattle.rules.specs.declared.classes.Side.TheVariants.{L as side_L, R as side_R}
use Rattle.rules.specs.declared.contexts.Left.{Left}
use Rattle.rules.specs.declared.contexts.Right.{Right}
use Rattle.rules.specs.Classes.{is, is_neutral, letter}
use Rattle.rules.specs.Rules.{W1, W2, W3, W4, W6, W7, N1, N2, joins, next, leads_to_EN, ahead, I, levels}
use Rattle.rules.specs.Contexts.{after, after_all, start, next_of, facing, settled, level_at}
use Rattle.rules.specs.Claims.{right_of, LevelsByContexts, LevelsAreLow}
use Rattle.rules.specs.Finite.{every, at, at₂, alike, met, fst, snd, same, is_false, classes, sides, bools}
use Rattle.rules.proofs.Passes.{w5, W5ByFlag, n12, N1N2Once, side_after}
use Rattle.rules.proofs.Ahead.{class_of, stays, weak, front, back, leads_right, sees}
use Rattle.rules.proofs.Step.{fits, at_W1, at_W3, strong_after, at_W5, at_W6, at_W7, at_N, class_next, x1, x3, s', join, y, e', z7, t', from_ET, looks, keeps, agrees, good, one_item}

-- the levels of the items, each by its contexts
abbrev by_context : Side → Left → List Class → List ℕ
by_context b l [] = []
by_context b l (c ∷ cs) = level_at b l c (right_of b cs) ∷ by_context b (after l c) cs

-- W4 sees of the next item what the right context holds
next_right : (b : Side) (cs : List Class) → (right_of b cs).next ≡ next_of (next (letter b) cs)
next_right side_L [] = refl
next_right side_R [] = refl
next_right b (c ∷ cs) = refl

next_front : (b : Side) (x s : Class) (cs : List Class) → next (letter b) (front x s cs) ≡ at_W3 s (at_W1 x (next (letter b) cs))
next_front side_L x s [] = refl
next_front side_R x s [] = refl
next_front b x s (c ∷ cs) = refl

abbrev join_as : Class → Class → Class → Class → Bool
join_as s x q n = joins q (at_W3 s x) (at_W3 (strong_after s x) (at_W1 x n))

abbrev join_same : Class → Class → Class → Class → Bool
join_same s x q n = alike bools (join_as s x q n) (join_as s x q (class_next (next_of n)))

join_right : (b : Side) (s x q : Class) (cs : List Class) → joins q (at_W3 s x) (next (letter b) (front x (strong_after s x) cs)) ≡ join_as s x q (class_next (right_of b cs).next)
join_right b s x q cs =
    ap (joins q (at_W3 s x)) (next_front b x (strong_after s x) cs)
    ∙ same bools _ _ (at₂ classes classes (join_same s x) (at₂ classes classes (λ s x. every classes λ q. every classes (join_same s x q)) tt s x) q (next (letter b) cs))
    ∙ ap (λ n. join_as s x q (class_next n)) (sym (next_right b cs))

-- only what is looked at counts
look_W5 : (a v e k k' : Bool) → (T v → k ≡ k') → (a || (v && (e || k))) ≡ (a || (v && (e || k')))
look_W5 a true e k k' h = ap (λ k. a || (e || k)) (h tt)
look_W5 a false e k k' h = refl

look_N : (v : Bool) (b d z g g' : Class) → (T v → g ≡ g') → cond v (cond (is d g) d b) z ≡ cond v (cond (is d g') d b) z
look_N true b d z g g' h = ap (λ g. cond (is d g) d b) (h tt)
look_N false b d z g g' h = refl

-- the rules from the states that they have come to
abbrev run : Side → Class → Class → Class → Bool → Class → Side → List Class → List ℕ
run b s p q e t d cs = map (I b) (n12 b d (back b s t e q (W1 p cs)))

-- the same at an item of class w after W1 and x after W3, where W4 came to j and W5 to e
abbrev from_item : Side → Class → Class → Side → Class → Class → Class → List Class → Bool → Bool → List ℕ
from_item b s t d q x w cs j e =
    let z = at_W6 e (cond j q x) in
    I b (at_N b d (at_W7 t z) (ahead (letter b) (back b s (strong_after t z) e x (W1 w cs)))) ∷ run b s w x e (strong_after t z) (side_after d (at_W7 t z)) cs

from_step : (b : Side) (s p q : Class) (e : Bool) (t : Class) (d : Side) (c : Class) (cs : List Class) → run b s p q e t d (c ∷ cs)
    ≡ from_item b (strong_after s (at_W1 p c)) t d q (at_W3 s (at_W1 p c)) (at_W1 p c) cs
    (joins q (at_W3 s (at_W1 p c)) (next (letter b) (front (at_W1 p c) (strong_after s (at_W1 p c)) cs)))
    (at_W5 e (cond (joins q (at_W3 s (at_W1 p c)) (next (letter b) (front (at_W1 p c) (strong_after s (at_W1 p c)) cs))) q (at_W3 s (at_W1 p c))) (leads_to_EN (W4 (at_W3 s (at_W1 p c)) (letter b) (front (at_W1 p c) (strong_after s (at_W1 p c)) cs))))
from_step b s p q e t d c cs = refl

module _ (b : Side) (l : Left) (c : Class) (cs : List Class) (p : Class) (e : Bool) (d : Side) (ok : T (good l c (right_of b cs) p e d)) where
  abbrev r : Right
  r = right_of b cs

  -- the last strong class
  abbrev S0 : Class
  S0 = class_of l.strong

  abbrev X : Class
  X = x1 l c r p e d

  abbrev X3 : Class
  X3 = x3 l c r p e d

  abbrev S' : Class
  S' = s' l c r p e d

  abbrev Y : Class
  Y = y l c r p e d

  abbrev E' : Bool
  E' = e' l c r p e d

  abbrev Z7 : Class
  Z7 = z7 l c r p e d

  abbrev T' : Class
  T' = t' l c r p e d

  abbrev Q : Class
  Q = at_W3 S0 p

  abbrev D' : Side
  D' = side_after d Z7

  abbrev fit : Bool
  fit = fits (after l c) r X E' D'

  -- what the test gives
  ok_ET : T (from_ET l c r p e d)
  ok_ET = fst (from_ET l c r p e d) _ ok

  ok_1 : T (looks l c r p e d && (keeps l c r p e d && every sides (agrees l c r p e d)))
  ok_1 = snd (from_ET l c r p e d) _ ok

  ok_2 : T (keeps l c r p e d && every sides (agrees l c r p e d))
  ok_2 = snd (looks l c r p e d) _ ok_1

  ok_keeps : T (is S' (class_of (after l c).strong) && (is X3 (at_W3 S' X) && (is T' (W3 S') && fit)))
  ok_keeps = fst (keeps l c r p e d) _ ok_2

  ok_3 : T (is X3 (at_W3 S' X) && (is T' (W3 S') && fit))
  ok_3 = snd (is S' (class_of (after l c).strong)) _ ok_keeps

  ok_4 : T (is T' (W3 S') && fit)
  ok_4 = snd (is X3 (at_W3 S' X)) _ ok_3

  pub fit_kept : T (fits (after l c) r X E' D')
  fit_kept = snd (is T' (W3 S')) fit ok_4

  -- W4, W5 and N1 look ahead as the right context does
  join_is : joins Q X3 (next (letter b) (front X S' cs)) ≡ join l c r p e d
  join_is = join_right b S0 X Q cs

  terminators : (x : Class) → T (is x ET) → leads_to_EN (W4 (at_W3 S0 x) (letter b) (front x (strong_after S0 x) cs)) ≡ (r.leads && stays l.strong)
  terminators x h = subst⁻¹ (λ (x : Class). leads_to_EN (W4 (at_W3 S0 x) (letter b) (front x (strong_after S0 x) cs)) ≡ (r.leads && stays l.strong)) (same classes x ET h) (leads_right b l.strong cs)

  e_is : at_W5 e Y (leads_to_EN (W4 X3 (letter b) (front X S' cs))) ≡ E'
  e_is = look_W5 (is Y EN) (is Y ET) e _ (r.leads && stays l.strong) (λ u. terminators X (met (is Y ET) (λ _. is X ET) ok_ET u))

  ahead_is : T (is_neutral Z7) → ahead (letter b) (back b S' T' E' X3 (W1 X cs)) ≡ letter (facing l.strong r.first)
  ahead_is u =
      let a : T (weak X && (not E' && (is X3 X && (is T' (W3 S0) && is S' S0)))) = met (is_neutral Z7) _ (fst (looks l c r p e d) _ ok_1) u in
      let a1 = snd (weak X) _ a in
      let a2 = snd (not E') _ a1 in
      let a3 = snd (is X3 X) _ a2 in
      let pe : E' ≡ false = is_false E' (fst (not E') _ a1) in
      let px : X3 ≡ X = same classes X3 X (fst (is X3 X) _ a2) in
      let pt : T' ≡ W3 S0 = same classes T' (W3 S0) (fst (is T' (W3 S0)) _ a3) in
      let ps : S' ≡ S0 = same classes S' S0 (snd (is T' (W3 S0)) _ a3) in
      (λ i. ahead (letter b) (back b (ps i) (pt i) (pe i) (px i) (W1 X cs))) ∙ sees b l.strong X (fst (weak X) _ a) cs

  level_is : I b (at_N b d Z7 (ahead (letter b) (back b S' T' E' X3 (W1 X cs)))) ≡ level_at b l c r
  level_is =
      ap (I b) (look_N (is_neutral Z7) (letter b) (letter d) Z7 _ _ ahead_is)
      ∙ eqb→eq _ _ (at sides (agrees l c r p e d) (snd (keeps l c r p e d) _ ok_2) b)

  pub one_more : run b (class_of (after l c).strong) X (at_W3 (class_of (after l c).strong) X) E' (W3 (class_of (after l c).strong)) D' cs ≡ by_context b (after l c) cs
      → run b S0 p Q e (W3 S0) d (c ∷ cs) ≡ by_context b l (c ∷ cs)
  one_more ih =
      let ps : S' ≡ class_of (after l c).strong = same classes S' _ (fst (is S' (class_of (after l c).strong)) _ ok_keeps) in
      let px : X3 ≡ at_W3 S' X = same classes X3 (at_W3 S' X) (fst (is X3 (at_W3 S' X)) _ ok_3) in
      let pt : T' ≡ W3 S' = same classes T' (W3 S') (fst (is T' (W3 S')) fit ok_4) in
      from_step b S0 p Q e (W3 S0) d c cs
      ∙ ap₂ (from_item b S' (W3 S0) d Q X3 X cs) join_is (ap (λ j. at_W5 e (cond j Q X3) (leads_to_EN (W4 X3 (letter b) (front X S' cs)))) join_is ∙ e_is)
      ∙ ap₂ (λ (n : ℕ) (ns : List ℕ). n ∷ ns) level_is
      ((λ i. run b S' X (px i) E' (pt i) D' cs) ∙ (λ i. run b (ps i) X (at_W3 (ps i) X) E' (W3 (ps i)) D' cs) ∙ ih)

by_contexts : (b : Side) (cs : List Class) (l : Left) (p : Class) (e : Bool) (d : Side) → T (fits l (right_of b cs) p e d)
    → run b (class_of l.strong) p (at_W3 (class_of l.strong) p) e (W3 (class_of l.strong)) d cs ≡ by_context b l cs
by_contexts b [] l p e d h = refl
by_contexts b (c ∷ cs) l p e d h =
    let g = one_item l c (right_of b cs) p e d h in
    one_more b l c cs p e d g (by_contexts b cs (after l c) (at_W1 p c) _ _ (fit_kept b l c cs p e d g))

-- the whole paragraph
abbrev up_to_W4 : Side → List Class → List Class
up_to_W4 b cs = W4 (letter b) (letter b) (map W3 (W2 (letter b) (W1 (letter b) cs)))

one_pass : (b : Side) (cs : List Class) → levels b cs ≡ map (I b) (n12 b b (W7 (letter b) (map W6 (w5 (is (letter b) EN) (up_to_W4 b cs)))))
unfolding levels
one_pass b cs =
    ap (map (I b))
    (ap (λ ys. map (N2 b) (N1 (letter b) (letter b) (W7 (letter b) (map W6 ys)))) (W5ByFlag (letter b) (up_to_W4 b cs))
    ∙ N1N2Once b b (W7 (letter b) (map W6 (w5 (is (letter b) EN) (up_to_W4 b cs)))))

whole : (b : Side) (cs : List Class) → levels b cs ≡ by_context b (start b) cs
whole side_L cs = one_pass side_L cs ∙ by_contexts side_L cs (start side_L) L false side_L tt
whole side_R cs = one_pass side_R cs ∙ by_contexts side_R cs (start side_R) R false side_R tt

place : (b : Side) (l : Left) (xs : List Class) (c : Class) (ys : List Class) → get_or (by_context b l (xs ++ (c ∷ ys))) (length xs) 0 ≡ level_at b (after_all l xs) c (right_of b ys)
place b l [] c ys = refl
place b l (x ∷ xs) c ys = place b (after l x) xs c ys

pub levels_by_contexts : LevelsByContexts
levels_by_contexts b xs c ys = ap (λ ns. get_or ns (length xs) 0) (whole b (xs ++ (c ∷ ys))) ∙ place b (start b) xs c ys

-- one level an item, at most 2
as_many : (b : Side) (l : Left) (cs : List Class) → length (by_context b l cs) ≡ length cs
as_many b l [] = refl
as_many b l (c ∷ cs) = ap suc (as_many b (after l c) cs)

low : (b : Side) (c : Class) → I b c ≤ 2
low b c = leb→le (I b c) 2 (at₂ sides classes (λ b c. leb (I b c) 2) tt b c)

all_low : (b : Side) (l : Left) (cs : List Class) → AllByRecursion (λ n. n ≤ 2) (by_context b l cs)
all_low b l [] = tt
all_low b l (c ∷ cs) = (low b (settled b l c (right_of b cs)), all_low b (after l c) cs)

pub levels_are_low_lem : LevelsAreLow
levels_are_low_lem b cs =
    (ap length (whole b cs) ∙ as_many b (start b) cs, subst⁻¹ (AllByRecursion (λ n. n ≤ 2)) (whole b cs) (all_low b (start b) cs))
