-- One item: the states of the rules fit its left context, and fit it again behind the item. By one test over all of them.
use Rattle.std.proofs.Common.{Bool, cond, not, ◌&&◌, ◌||◌, T, eqb}
use Rattle.rules.specs.declared.classes.Class.{Class}
use Rattle.rules.specs.declared.classes.Class.TheVariants.{L, AL, EN, ET, AN, NSM, ON}
use Rattle.rules.specs.declared.classes.Side.{Side}
use Rattle.rules.specs.declared.classes.Side.TheVariants.{R as side_R}
use Rattle.rules.specs.declared.contexts.Kind.{Kind}
use Rattle.rules.specs.declared.contexts.Kind.TheVariants.{Strong as is_strong, European, Arabic, Terminator, Joined, Neutral}
use Rattle.rules.specs.declared.contexts.Left.{Left}
use Rattle.rules.specs.declared.contexts.Next.{Next}
use Rattle.rules.specs.declared.contexts.Next.TheVariants.{European as next_EN, Arabic as next_AN, Other as next_other}
use Rattle.rules.specs.declared.contexts.Right.{Right}
use Rattle.rules.specs.Classes.{is, is_neutral, letter}
use Rattle.rules.specs.Classes.{is_strong as strong_class}
use Rattle.rules.specs.Rules.{W3, W6, joins, I}
use Rattle.rules.specs.Contexts.{before, after, facing, number_side, level_at}
use Rattle.rules.specs.Finite.{every, at, at₂, alike, when, met, fst, snd, classes, sides, bools, nexts, every_left, at_left, every_right, at_right}
use Rattle.rules.proofs.Passes.{side_after}
use Rattle.rules.proofs.Ahead.{class_of, stays, weak}

-- the rules at one item of class c, each from what it has come to
abbrev pub at_W1 : Class → Class → Class
at_W1 p c = cond (is c NSM) p c

abbrev pub at_W3 : Class → Class → Class
at_W3 s x = W3 (cond (is x EN && is s AL) AN x)

abbrev pub strong_after : Class → Class → Class
strong_after s x = cond (strong_class x) x s

abbrev pub at_W5 : Bool → Class → Bool → Bool
at_W5 e y leads = is y EN || (is y ET && (e || leads))

abbrev pub at_W6 : Bool → Class → Class
at_W6 e y = W6 (cond e EN y)

abbrev pub at_W7 : Class → Class → Class
at_W7 t z = cond (is z EN && is t L) L z

abbrev pub at_N : Side → Side → Class → Class → Class
at_N b d z g = cond (is_neutral z) (cond (is (letter d) g) (letter d) (letter b)) z

-- a class that the next item could have
abbrev pub class_next : Next → Class
class_next next_EN = EN
class_next next_AN = AN
class_next next_other = ON

-- the class p, after W1, of the item before fits the left context
abbrev class_fits : Kind → Left → Class → Bool
class_fits is_strong l p = is p (class_of l.strong)
class_fits European l p = is p EN && stays l.strong
class_fits Arabic l p = is p AN || (is p EN && not (stays l.strong))
class_fits Terminator l p = is p ET
class_fits Joined l p = is p ET && stays l.strong
class_fits Neutral l p = weak p && not (is p ET)

-- so do e, whether that item is EN after W5, and d, the direction that N1 sees before
abbrev natural : Left → Bool
natural l = alike sides l.side (number_side l.strong)

abbrev state_fits : Kind → Left → Right → Bool → Side → Bool
state_fits is_strong l r e d = not e && (natural l && alike sides d l.side)
state_fits European l r e d = e && (natural l && alike sides d l.side)
state_fits Arabic l r e d = not e && (alike sides l.side side_R && alike sides d side_R)
state_fits Terminator l r e d = (not e && alike sides d l.side) || (r.leads && stays l.strong)
state_fits Joined l r e d = e && (natural l && alike sides d l.side)
state_fits Neutral l r e d = (not e || alike nexts r.next next_EN) && alike sides d l.side

abbrev pub fits : Left → Right → Class → Bool → Side → Bool
fits l r p e d = class_fits l.kind l p && state_fits l.kind l r e d

-- the item of class c between the left context l and the right context r
module _ (l : Left) (c : Class) (r : Right) (p : Class) (e : Bool) (d : Side) where
  -- after W1
  abbrev pub x1 : Class
  x1 = at_W1 p c

  -- after W3
  abbrev pub x3 : Class
  x3 = at_W3 (class_of l.strong) x1

  -- the last strong class, for W2
  abbrev pub s' : Class
  s' = strong_after (class_of l.strong) x1

  -- whether W4 joins it to the numbers around it
  abbrev pub join : Bool
  join = joins (at_W3 (class_of l.strong) p) x3 (at_W3 s' (at_W1 x1 (class_next r.next)))

  -- after W4
  abbrev pub y : Class
  y = cond join (at_W3 (class_of l.strong) p) x3

  -- whether it is EN after W5
  abbrev pub e' : Bool
  e' = at_W5 e y (r.leads && stays l.strong)

  -- after W6
  abbrev pub z6 : Class
  z6 = at_W6 e' y

  -- after W7
  abbrev pub z7 : Class
  z7 = at_W7 (W3 (class_of l.strong)) z6

  -- the last strong class, for W7
  abbrev pub t' : Class
  t' = strong_after (W3 (class_of l.strong)) z6

  -- W5 looks ahead only from a terminator
  abbrev pub from_ET : Bool
  from_ET = when (is y ET) λ _. is x1 ET

  -- N1 looks ahead only from states that the lemmas on what is ahead speak of
  abbrev pub looks : Bool
  looks = when (is_neutral z7) λ _. weak x1 && (not e' && (is x3 x1 && (is t' (W3 (class_of l.strong)) && is s' (class_of l.strong))))

  -- the states fit the left context behind the item
  abbrev pub keeps : Bool
  keeps = is s' (class_of (after l c).strong) && (is x3 (at_W3 s' x1) && (is t' (W3 s') && fits (after l c) r x1 e' (side_after d z7)))

  -- the rules' level is that of the contexts
  abbrev pub agrees : Side → Bool
  agrees b = eqb (I b (at_N b d z7 (letter (facing l.strong r.first)))) (level_at b l c r)

  abbrev pub good : Bool
  good = from_ET && (looks && (keeps && every sides agrees))

abbrev good_right : Class → Left → Class → Bool → Side → Right → Bool
good_right c l p e d r = when (state_fits l.kind l (before c r) e d) λ _. good l c r p e d

abbrev good_left : Class → Left → Class → Bool
good_left c l p = when (class_fits l.kind l p) λ _. every bools λ e. every sides λ d. every_right (good_right c l p e d)

all_good : (c : Class) → T (every_left λ l. every classes (good_left c l))
all_good c = at classes (λ c. every_left λ l. every classes (good_left c l)) tt c

pub one_item : (l : Left) (c : Class) (r : Right) (p : Class) (e : Bool) (d : Side) → T (fits l (before c r) p e d) → T (good l c r p e d)
one_item l c r p e d h =
    let fit = class_fits l.kind l p in
    met (state_fits l.kind l (before c r) e d) (λ _. good l c r p e d)
    (at_right (good_right c l p e d)
    (at₂ bools sides (λ e d. every_right (good_right c l p e d))
    (met fit (λ _. every bools λ e. every sides λ d. every_right (good_right c l p e d))
    (at classes (good_left c l) (at_left (λ l. every classes (good_left c l)) (all_good c) l) p)
    (fst fit _ h))
    e d)
    r)
    (snd fit _ h)
