-- The rules of the Unicode Bidirectional Algorithm (UAX #9, before Unicode 6.3) for a paragraph that is one level run.
-- Each rule is one definition, over all items, under the standard's name; `levels` runs them in the standard's order.
-- In a rule that looks back, `before` is the class of the item before, at first sor; one that looks ahead is given eor.
use Rattle.std.specs.Prelude.{ℕ, Bool, false, cond, ◌&&◌, ◌||◌, List, [], ◌∷◌, map, Some, None, Option}
use Rattle.rules.specs.declared.classes.Class.{Class}
use Rattle.rules.specs.declared.classes.Class.TheVariants.{L, R, AL, EN, ES, ET, AN, CS, NSM, ON}
use Rattle.rules.specs.declared.classes.Strong.{Strong}
use Rattle.rules.specs.declared.classes.Strong.TheVariants.{L as strong_L, R as strong_R, AL as strong_AL}
use Rattle.rules.specs.declared.classes.Side.{Side}
use Rattle.rules.specs.declared.classes.Side.TheVariants.{L as side_L, R as side_R}
use Rattle.rules.specs.declared.classes.Direction.{Direction}
use Rattle.rules.specs.declared.classes.Direction.TheVariants.{Left, Right, FirstStrong}
use Rattle.rules.specs.Classes.{is, is_strong, is_neutral, letter}

-- P2: the first strong item
abbrev pub P2 : List Class → Option Strong
P2 [] = None
P2 (c ∷ cs) = cond (is c L) (Some strong_L) (cond (is c R) (Some strong_R) (cond (is c AL) (Some strong_AL) (P2 cs)))

-- P3: right-to-left if that is R or AL, and left-to-right otherwise
abbrev pub P3 : Option Strong → Side
P3 None = side_L
P3 (Some strong_L) = side_L
P3 (Some strong_R) = side_R
P3 (Some strong_AL) = side_R

-- the base direction of a paragraph
abbrev pub base_direction : Direction → List Class → Side
base_direction Left cs = side_L
base_direction Right cs = side_R
base_direction FirstStrong cs = P3 (P2 cs)

-- its base level
abbrev pub base_level : Side → ℕ
base_level side_L = 0
base_level side_R = 1

-- W1: a nonspacing mark takes the class of the item before
abbrev pub W1 : Class → List Class → List Class
W1 before [] = []
W1 before (c ∷ cs) = let d = cond (is c NSM) before c in d ∷ W1 d cs

-- W2: a European number becomes an Arabic one if the nearest strong class before it is AL
abbrev pub W2 : Class → List Class → List Class
W2 strong [] = []
W2 strong (c ∷ cs) = cond (is c EN && is strong AL) AN c ∷ W2 (cond (is_strong c) c strong) cs

-- W3: AL becomes R
abbrev pub W3 : Class → Class
W3 c = cond (is c AL) R c

-- the class of the next item
abbrev pub next : Class → List Class → Class
next eor [] = eor
next eor (c ∷ cs) = c

-- a single ES between two EN, or a single CS between two EN or two AN
abbrev pub joins : Class → Class → Class → Bool
joins before c after = ((is c ES && is before EN) || (is c CS && (is before EN || is before AN))) && is before after

-- W4: it becomes that number
abbrev pub W4 : Class → Class → List Class → List Class
W4 before eor [] = []
W4 before eor (c ∷ cs) = cond (joins before c (next eor cs)) before c ∷ W4 c eor cs

-- past the terminators stands a European number
abbrev pub leads_to_EN : List Class → Bool
leads_to_EN [] = false
leads_to_EN (c ∷ cs) = cond (is c ET) (leads_to_EN cs) (is c EN)

-- W5: a sequence of terminators with a European number on either end of it becomes European numbers
abbrev pub W5 : Class → List Class → List Class
W5 before [] = []
W5 before (c ∷ cs) = let d = cond (is c ET && (is before EN || leads_to_EN cs)) EN c in d ∷ W5 d cs

-- W6: the remaining separators and terminators become ON
abbrev pub W6 : Class → Class
W6 c = cond (is c ES || (is c ET || is c CS)) ON c

-- W7: a European number becomes L if the nearest strong class before it is L
abbrev pub W7 : Class → List Class → List Class
W7 strong [] = []
W7 strong (c ∷ cs) = cond (is c EN && is strong L) L c ∷ W7 (cond (is_strong c) c strong) cs

-- in N1 numbers count as R
abbrev pub side : Class → Class
side c = cond (is c L) L R

-- the direction of the first item that is not neutral
abbrev pub ahead : Class → List Class → Class
ahead eor [] = eor
ahead eor (c ∷ cs) = cond (is_neutral c) (ahead eor cs) (side c)

-- N1: a sequence of neutrals with one direction on both ends of it takes that direction
abbrev pub N1 : Class → Class → List Class → List Class
N1 before eor [] = []
N1 before eor (c ∷ cs) =
    cond (is_neutral c && is before (ahead eor cs)) before c ∷ N1 (cond (is_neutral c) before (side c)) eor cs

-- N2: the remaining neutrals take the base direction
abbrev pub N2 : Side → Class → Class
N2 base c = cond (is_neutral c) (letter base) c

-- I1, at base level 0: R goes up one level, numbers two
abbrev pub I1 : Class → ℕ
I1 c = cond (is c L) 0 (cond (is c R) 1 2)

-- I2, at base level 1: L and numbers go up one level
abbrev pub I2 : Class → ℕ
I2 c = cond (is c R) 1 2

-- the one that the base level calls for
abbrev pub I : Side → Class → ℕ
I side_L = I1
I side_R = I2

-- the levels of the items, from their classes
unfoldable pub levels : Side → List Class → List ℕ
levels base cs =
    let sor = letter base in
    let eor = letter base in
    let after_W1 = W1 sor cs in
    let after_W2 = W2 sor after_W1 in
    let after_W3 = map W3 after_W2 in
    let after_W4 = W4 sor eor after_W3 in
    let after_W5 = W5 sor after_W4 in
    let after_W6 = map W6 after_W5 in
    let after_W7 = W7 sor after_W6 in
    let after_N1 = N1 sor eor after_W7 in
    let after_N2 = map (N2 base) after_N1 in
    map (I base) after_N2
