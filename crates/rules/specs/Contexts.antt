-- What an item's level depends on: a context gathered from the items before it, and one from the items after it.
use Rattle.std.specs.Prelude.{ℕ, Bool, true, false, cond, List, [], ◌∷◌}
use Rattle.rules.specs.declared.classes.Class.{Class}
use Rattle.rules.specs.declared.classes.Class.TheVariants.{L, R, AL, EN, ES, ET, AN, CS, NSM, S, WS, ON}
use Rattle.rules.specs.declared.classes.Strong.{Strong}
use Rattle.rules.specs.declared.classes.Strong.TheVariants.{L as strong_L, R as strong_R, AL as strong_AL}
use Rattle.rules.specs.declared.classes.Side.{Side}
use Rattle.rules.specs.declared.classes.Side.TheVariants.{L as side_L, R as side_R}
use Rattle.rules.specs.declared.contexts.Kind.{Kind}
use Rattle.rules.specs.declared.contexts.Kind.TheVariants.{Strong as is_strong, European, Arabic, Terminator, Joined, Neutral}
use Rattle.rules.specs.declared.contexts.Left.{Left}
use Rattle.rules.specs.declared.contexts.Next.{Next}
use Rattle.rules.specs.declared.contexts.Next.TheVariants.{European as next_EN, Arabic as next_AN, Other as next_other}
use Rattle.rules.specs.declared.contexts.First.{First}
use Rattle.rules.specs.declared.contexts.First.TheVariants.{L as first_L, R as first_R, European as first_EN}
use Rattle.rules.specs.declared.contexts.Right.{Right}
use Rattle.rules.specs.Classes.{letter}
use Rattle.rules.specs.Rules.{I}

-- the strong class of a direction
abbrev pub strong_of : Side → Strong
strong_of side_L = strong_L
strong_of side_R = strong_R

-- the direction of a European number after a strong class: L after L, else R
abbrev pub number_side : Strong → Side
number_side strong_L = side_L
number_side strong_R = side_R
number_side strong_AL = side_R

-- the kind of a European number after a strong class: Arabic after AL
abbrev pub number_kind : Strong → Kind
number_kind strong_L = European
number_kind strong_R = European
number_kind strong_AL = Arabic

-- the kind of a terminator after an item of this kind: joined to a European number, or loose
abbrev pub terminated : Kind → Kind
terminated is_strong = Terminator
terminated European = Joined
terminated Arabic = Terminator
terminated Terminator = Terminator
terminated Joined = Joined
terminated Neutral = Terminator

-- the left context at the start of a paragraph: as after sor
abbrev pub start : Side → Left
start base = record { strong = strong_of base; side = base; kind = is_strong }

-- the left context after one item more
abbrev pub after : Left → Class → Left
after l L = record { strong = strong_L; side = side_L; kind = is_strong }
after l R = record { strong = strong_R; side = side_R; kind = is_strong }
after l AL = record { strong = strong_AL; side = side_R; kind = is_strong }
after l EN = record { strong = l.strong; side = number_side l.strong; kind = number_kind l.strong }
after l ES = record { strong = l.strong; side = l.side; kind = Neutral }
after l ET = record { strong = l.strong; side = l.side; kind = terminated l.kind }
after l AN = record { strong = l.strong; side = side_R; kind = Arabic }
after l CS = record { strong = l.strong; side = l.side; kind = Neutral }
after l NSM = l
after l S = record { strong = l.strong; side = l.side; kind = Neutral }
after l WS = record { strong = l.strong; side = l.side; kind = Neutral }
after l ON = record { strong = l.strong; side = l.side; kind = Neutral }

-- the left context after these items
abbrev pub after_all : Left → List Class → Left
after_all l [] = l
after_all l (c ∷ cs) = after_all (after l c) cs

-- the first strong or number at the end of a paragraph: eor
abbrev pub first_of : Side → First
first_of side_L = first_L
first_of side_R = first_R

-- the right context at the end of a paragraph
abbrev pub end : Side → Right
end base = record { next = next_other; leads = false; first = first_of base }

-- what the next item is
abbrev pub next_of : Class → Next
next_of L = next_other
next_of R = next_other
next_of AL = next_other
next_of EN = next_EN
next_of ES = next_other
next_of ET = next_other
next_of AN = next_AN
next_of CS = next_other
next_of NSM = next_other
next_of S = next_other
next_of WS = next_other
next_of ON = next_other

-- whether skipping terminators and marks leads to a European number
abbrev pub leads_before : Class → Bool → Bool
leads_before L leads = false
leads_before R leads = false
leads_before AL leads = false
leads_before EN leads = true
leads_before ES leads = false
leads_before ET leads = leads
leads_before AN leads = false
leads_before CS leads = false
leads_before NSM leads = leads
leads_before S leads = false
leads_before WS leads = false
leads_before ON leads = false

-- the first strong or number
abbrev pub first_before : Class → First → First
first_before L first = first_L
first_before R first = first_R
first_before AL first = first_R
first_before EN first = first_EN
first_before ES first = first
first_before ET first = first
first_before AN first = first_R
first_before CS first = first
first_before NSM first = first
first_before S first = first
first_before WS first = first
first_before ON first = first

-- the right context before one item more
abbrev pub before : Class → Right → Right
before c r = record { next = next_of c; leads = leads_before c r.leads; first = first_before c r.first }

-- the right context before these items
abbrev pub before_all : List Class → Right → Right
before_all [] r = r
before_all (c ∷ cs) r = before c (before_all cs r)

-- the class, after the rules, of a European number
abbrev pub number : Strong → Class
number strong_L = L
number strong_R = EN
number strong_AL = AN

-- the direction that stands behind a neutral
abbrev pub facing : Strong → First → Side
facing s first_L = side_L
facing s first_R = side_R
facing s first_EN = number_side s

-- the direction of a neutral between two directions: theirs if they are one, else the base direction
abbrev pub agreed : Side → Side → Side → Side
agreed base side_L side_L = side_L
agreed base side_L side_R = base
agreed base side_R side_L = base
agreed base side_R side_R = side_R

-- the class, after the rules, of an item that stays neutral up to N1
abbrev pub between : Side → Left → Right → Class
between base l r = letter (agreed base l.side (facing l.strong r.first))

-- of a terminator with no European number before it, which W5 joins to one that follows
abbrev pub loose : Strong → Bool → Class → Class
loose strong_L leads c = cond leads L c
loose strong_R leads c = cond leads EN c
loose strong_AL leads c = c

-- of a separator after a European number, which W4 joins to one that follows
abbrev pub in_European : Strong → Next → Class → Class
in_European s next_EN c = number s
in_European s next_AN c = c
in_European s next_other c = c

-- W2 makes a European number an Arabic one
abbrev pub after_AL : Strong → Class → Class
after_AL strong_L c = c
after_AL strong_R c = c
after_AL strong_AL c = AN

-- of a common separator after an Arabic number, which W4 joins to one that follows
abbrev pub in_Arabic : Strong → Next → Class → Class
in_Arabic s next_EN c = after_AL s c
in_Arabic s next_AN c = AN
in_Arabic s next_other c = c

-- of an ES after an item of this kind
abbrev pub at_ES : Kind → Strong → Next → Class → Class
at_ES is_strong s n c = c
at_ES European s n c = in_European s n c
at_ES Arabic s n c = c
at_ES Terminator s n c = c
at_ES Joined s n c = c
at_ES Neutral s n c = c

-- of a CS
abbrev pub at_CS : Kind → Strong → Next → Class → Class
at_CS is_strong s n c = c
at_CS European s n c = in_European s n c
at_CS Arabic s n c = in_Arabic s n c
at_CS Terminator s n c = c
at_CS Joined s n c = c
at_CS Neutral s n c = c

-- of an ET
abbrev pub at_ET : Kind → Strong → Bool → Class → Class
at_ET is_strong s leads c = loose s leads c
at_ET European s leads c = number s
at_ET Arabic s leads c = loose s leads c
at_ET Terminator s leads c = loose s leads c
at_ET Joined s leads c = number s
at_ET Neutral s leads c = loose s leads c

-- of an NSM: what one item more of that kind would be, but that it does not part numbers
abbrev pub at_NSM : Kind → Strong → Bool → Class → Class
at_NSM is_strong s leads c = letter (number_side s)
at_NSM European s leads c = number s
at_NSM Arabic s leads c = AN
at_NSM Terminator s leads c = loose s leads c
at_NSM Joined s leads c = number s
at_NSM Neutral s leads c = c

-- the class of an item after the rules up to N2
abbrev pub settled : Side → Left → Class → Right → Class
settled base l L r = L
settled base l R r = R
settled base l AL r = R
settled base l EN r = number l.strong
settled base l ES r = at_ES l.kind l.strong r.next (between base l r)
settled base l ET r = at_ET l.kind l.strong r.leads (between base l r)
settled base l AN r = AN
settled base l CS r = at_CS l.kind l.strong r.next (between base l r)
settled base l NSM r = at_NSM l.kind l.strong r.leads (between base l r)
settled base l S r = between base l r
settled base l WS r = between base l r
settled base l ON r = between base l r

-- its level
abbrev pub level_at : Side → Left → Class → Right → ℕ
level_at base l c r = I base (settled base l c r)
