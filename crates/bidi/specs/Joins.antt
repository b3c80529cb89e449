-- The numbers of one item, and of two parts side by side.
use Rattle.std.specs.Prelude.{ℕ, ◌+◌, ◌-◌, ◌*◌, ◌/◌, ◌%◌, ◌^◌, cond, ◌==◌, bit_and, bit_or}
use Rattle.rules.specs.declared.classes.Class.{Class}
use Rattle.rules.specs.declared.classes.Class.TheVariants.{L, R, AL, EN, ES, ET, AN, CS, NSM, S, WS, ON}

-- three fields in one number
abbrev pub fields : ℕ → ℕ → ℕ → ℕ
fields x y z = x + 4 * y + 16 * z

-- one item on left contexts: its strong class, its side, its kind
abbrev pub left_of : Class → ℕ
left_of L = fields 1 2 1
left_of R = fields 2 3 1
left_of AL = fields 3 3 1
left_of EN = fields 0 1 7
left_of ES = fields 0 0 6
left_of ET = fields 0 0 8
left_of AN = fields 0 3 3
left_of CS = fields 0 0 6
left_of NSM = fields 0 0 0
left_of S = fields 0 0 6
left_of WS = fields 0 0 6
left_of ON = fields 0 0 6

-- one item on right contexts: what the next item is, whether it leads to a number, its direction
abbrev pub right_of : Class → ℕ
right_of L = fields 3 2 1
right_of R = fields 3 2 2
right_of AL = fields 3 2 2
right_of EN = fields 1 1 3
right_of ES = fields 3 2 0
right_of ET = fields 3 0 0
right_of AN = fields 2 2 2
right_of CS = fields 3 2 0
right_of NSM = fields 3 0 0
right_of S = fields 3 2 0
right_of WS = fields 3 2 0
right_of ON = fields 3 2 0

-- its strong class
abbrev pub strong_of : Class → ℕ
strong_of L = 1
strong_of R = 2
strong_of AL = 3
strong_of EN = 0
strong_of ES = 0
strong_of ET = 0
strong_of AN = 0
strong_of CS = 0
strong_of NSM = 0
strong_of S = 0
strong_of WS = 0
strong_of ON = 0

-- the k-th of the sixteen small numbers that one number holds
abbrev pub picked : ℕ → ℕ → ℕ
picked menu k = bit_and (menu / 2 ^ (4 * k)) 15

-- the side after two parts, where s is the first one's strong class: the first one's, that of a number, or the second one's
abbrev pub side_join : ℕ → ℕ → ℕ → ℕ
side_join s a b = picked (a + 16 * picked 0x3321 s + 0x3200) b

-- the kind after two parts: the first one's, the second one's own, that of a number, of a terminator, or of both in turn
abbrev pub kind_join : ℕ → ℕ → ℕ → ℕ
kind_join s a b = picked (a + 0x6543210 + 0x10000000 * picked 0x3227 s + 0x100000000 * picked 0x9894544548 a + 0x1000000000 * picked 0x4559 s) b

-- on left contexts: a part with a strong class leaves nothing of what came before it
abbrev pub left_join : ℕ → ℕ → ℕ
left_join a b = cond (b % 4 == 0) (fields (a % 4) (side_join (a % 4) (a / 4 % 4) (b / 4 % 4) % 4) (kind_join (a % 4) (a / 16) (b / 16))) b

-- the bits of the fields in which a does not keep
abbrev pub mask : ℕ → ℕ
mask a = bit_and (bit_or a (a / 2)) 21 * 3

-- on right contexts: the fields of a, and those of b where a keeps
abbrev pub right_join : ℕ → ℕ → ℕ
right_join a b = bit_or (bit_and a (mask a)) (bit_and b (63 - mask a))

-- the first strong class
abbrev pub strong_join : ℕ → ℕ → ℕ
strong_join a b = cond (a == 0) b a
