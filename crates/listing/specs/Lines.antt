-- How a line is read: a direction's letter, a tab, and items of a class letter and a digit each.
use Rattle.std.specs.Prelude.{◌≡◌, ℕ, suc, ◌-◌, cond, ◌&&◌, ◌⊎◌, List, [], ◌∷◌, ◌++◌, Some, None, Ok, Err, Option, Result, ◌==◌, nat_le}
use Rattle.rules.specs.declared.classes.Class.{Class}
use Rattle.rules.specs.declared.classes.Class.TheVariants.{L, R, AL, EN, ES, ET, AN, CS, NSM, S, WS, ON}
use Rattle.rules.specs.declared.classes.Direction.{Direction}
use Rattle.rules.specs.declared.classes.Direction.TheVariants.{Left, Right, FirstStrong}
use Rattle.bidi.specs.declared.item.Item.{Item}
use Rattle.listing.specs.declared.refusal.Refusal.{Refusal}
use Rattle.listing.specs.declared.refusal.Refusal.TheVariants.{Fields, Direction as no_direction, Item as no_item, Memory}

-- the first of two where n is the code m, else the second
abbrev pub by_code : {X : Type 0} → ℕ → ℕ → X → X → X
by_code n m x y = cond (n == m) x y

-- the directions of the letters L, R and F
abbrev pub direction_of : ℕ → Option Direction
direction_of n = by_code n 76 (Some Left) (by_code n 82 (Some Right) (by_code n 70 (Some FirstStrong) None))

-- the classes of the letters C, M, G, W and O
abbrev later_class : ℕ → Option Class
later_class n = by_code n 67 (Some CS) (by_code n 77 (Some NSM) (by_code n 71 (Some S) (by_code n 87 (Some WS) (by_code n 79 (Some ON) None))))

-- the classes of the letters L, R, A, E, S, T, N, and those above
abbrev pub class_of : ℕ → Option Class
class_of n = by_code n 76 (Some L) (by_code n 82 (Some R) (by_code n 65 (Some AL) (by_code n 69 (Some EN) (by_code n 83 (Some ES) (by_code n 84 (Some ET) (by_code n 78 (Some AN) (later_class n)))))))

-- what is read of an item: its class and its width
abbrev pub Reading : Type 0
Reading = Class × ℕ

-- that of an item
abbrev pub reading : Item → Reading
reading i = (i.class, i.width)

-- a class with a width, where there is one
abbrev pub with_width : ℕ → Option Class → Option Reading
with_width w None = None
with_width w (Some c) = Some (c, w)

-- an item of a class letter and a digit
abbrev pub item_read : ℕ → ℕ → Option Reading
item_read letter digit = cond (nat_le 48 digit && nat_le digit 57) (with_width (digit - 48) (class_of letter)) None

-- readings before those that follow, unless these are refused
abbrev pub onto : List Reading → Result (List Reading) Refusal → Result (List Reading) Refusal
onto xs (Ok ys) = Ok (xs ++ ys)
onto xs (Err e) = Err e

-- the item at position p, and those behind it
abbrev pub item_then : ℕ → Option Reading → Result (List Reading) Refusal → Result (List Reading) Refusal
item_then p None rest = Err (no_item p)
item_then p (Some x) rest = onto (x ∷ []) rest

-- the items from position p on
abbrev pub items_read : ℕ → List ℕ → Result (List Reading) Refusal
items_read p [] = Ok []
items_read p (letter ∷ []) = Err (no_item p)
items_read p (letter ∷ (digit ∷ bytes)) = item_then p (item_read letter digit) (items_read (suc p) bytes)

-- a direction, and the items behind it
abbrev pub direction_then : Option Direction → Result (List Reading) Refusal → Result (Direction × List Reading) Refusal
direction_then None items = Err no_direction
direction_then (Some d) (Ok xs) = Ok (d, xs)
direction_then (Some d) (Err e) = Err e

-- a line: two fields, the first of one letter
abbrev pub line_read : List ℕ → Result (Direction × List Reading) Refusal
line_read [] = Err Fields
line_read (letter ∷ []) = Err Fields
line_read (letter ∷ (tab ∷ bytes)) = cond (tab == 9) (direction_then (direction_of letter) (items_read 0 bytes)) (Err Fields)

-- a refusal is the one that is due, unless memory ran out
abbrev pub Refused : {X : Type 0} → Result X Refusal → Refusal → Type 0
Refused due e = (e ≡ Memory) ⊎ (due ≡ Err e)
