-- Words for classes, in which the rules are written.
use Rattle.std.specs.Prelude.{ℕ, Bool, ◌||◌, ◌==◌}
use Rattle.rules.specs.declared.classes.Class.{Class}
use Rattle.rules.specs.declared.classes.Class.TheVariants.{L, R, AL, EN, ES, ET, AN, CS, NSM, S, WS, ON}
use Rattle.rules.specs.declared.classes.Side.{Side}
use Rattle.rules.specs.declared.classes.Side.TheVariants.{L as side_L, R as side_R}

-- a number for each class, to tell them apart
abbrev pub rank : Class → ℕ
rank L = 0
rank R = 1
rank AL = 2
rank EN = 3
rank ES = 4
rank ET = 5
rank AN = 6
rank CS = 7
rank NSM = 8
rank S = 9
rank WS = 10
rank ON = 11

-- c is the class d
abbrev pub is : Class → Class → Bool
is c d = rank c == rank d

-- L, R or AL
abbrev pub is_strong : Class → Bool
is_strong c = is c L || (is c R || is c AL)

-- S, WS or ON
abbrev pub is_neutral : Class → Bool
is_neutral c = is c S || (is c WS || is c ON)

-- the strong class of a direction
abbrev pub letter : Side → Class
letter side_L = L
letter side_R = R
