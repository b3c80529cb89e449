-- What a part of a paragraph does to a context, read from its numbers.
use Rattle.std.specs.Prelude.{ℕ, ◌/◌, ◌%◌, Bool, true, false, cond, Some, None, Option, ◌==◌}
use Rattle.rules.specs.declared.classes.Class.TheVariants.{EN, ET}
use Rattle.rules.specs.declared.classes.Strong.{Strong}
use Rattle.rules.specs.declared.classes.Strong.TheVariants.{L as strong_L, R as strong_R, AL as strong_AL}
use Rattle.rules.specs.declared.classes.Side.{Side}
use Rattle.rules.specs.declared.classes.Side.TheVariants.{L as side_L, R as side_R}
use Rattle.rules.specs.declared.contexts.Kind.{Kind}
use Rattle.rules.specs.declared.contexts.Kind.TheVariants.{Strong as is_strong, European, Arabic, Terminator, Joined, Neutral}
use Rattle.rules.specs.declared.contexts.Left.{Left}
use Rattle.rules.specs.declared.contexts.Next.{Next}
use Rattle.rules.specs.declared.contexts.Next.TheVariants.{European as next_EN, Arabic as next_AN, Other as next_other}
use Rattle.rules.specs.declared.contexts.First.{First}
use Rattle.rules.specs.declared.contexts.First.TheVariants.{L as first_L, R as first_R, European as first_EN}
use Rattle.rules.specs.declared.contexts.Right.{Right}
use Rattle.rules.specs.Contexts.{after}
use Rattle.bidi.specs.declared.actions.SideEffect.{SideEffect}
use Rattle.bidi.specs.declared.actions.SideEffect.TheVariants.{Keep as keep_side, Number as side_number, To as to_side}
use Rattle.bidi.specs.declared.actions.KindEffect.{KindEffect}
use Rattle.bidi.specs.declared.actions.KindEffect.TheVariants.{Keep as keep_kind, To as to_kind, Number as kind_number, Terminator as ended, NumberTerminator as number_ended}
use Rattle.bidi.specs.declared.actions.LeftAction.{LeftAction}
use Rattle.bidi.specs.declared.actions.RightAction.{RightAction}

-- the strong class that a number stands for
abbrev pub strong_at : ℕ → Option Strong
strong_at n = cond (n == 0) None (cond (n == 1) (Some strong_L) (cond (n == 2) (Some strong_R) (Some strong_AL)))

-- what happens to the side
abbrev pub side_at : ℕ → SideEffect
side_at n = cond (n == 0) keep_side (cond (n == 1) side_number (cond (n == 2) (to_side side_L) (to_side side_R)))

-- what happens to the kind, by the numbers that follow those of the kinds
abbrev loose_kind_at : ℕ → KindEffect
loose_kind_at n = cond (n == 7) kind_number (cond (n == 8) ended number_ended)

-- what happens to the kind
abbrev pub kind_at : ℕ → KindEffect
kind_at n = cond (n == 0) keep_kind (cond (n == 1) (to_kind is_strong) (cond (n == 2) (to_kind European) (cond (n == 3) (to_kind Arabic) (cond (n == 4) (to_kind Terminator) (cond (n == 5) (to_kind Joined) (cond (n == 6) (to_kind Neutral) (loose_kind_at n)))))))

-- what the next item is
abbrev pub next_at : ℕ → Option Next
next_at n = cond (n == 0) None (cond (n == 1) (Some next_EN) (cond (n == 2) (Some next_AN) (Some next_other)))

-- whether terminators and marks lead to a European number
abbrev pub leads_at : ℕ → Option Bool
leads_at n = cond (n == 0) None (cond (n == 1) (Some true) (Some false))

-- the first strong item or number
abbrev pub first_at : ℕ → Option First
first_at n = cond (n == 0) None (cond (n == 1) (Some first_L) (cond (n == 2) (Some first_R) (Some first_EN)))

-- the action on left contexts that a number stands for
abbrev pub left_at : ℕ → LeftAction
left_at n = record { strong = strong_at (n % 4); side = side_at (n / 4 % 4); kind = kind_at (n / 16) }

-- the action on right contexts that a number stands for
abbrev pub right_at : ℕ → RightAction
right_at n = record { next = next_at (n % 4); leads = leads_at (n / 4 % 4); first = first_at (n / 16) }

-- the new value where there is one, else the old
abbrev pub replaced : {X : Type 0} → Option X → X → X
replaced None x = x
replaced (Some y) x = y

-- the side after a part: kept, that of a European number, or its own
abbrev pub act_side : SideEffect → Left → Side
act_side keep_side l = l.side
act_side side_number l = (after l EN).side
act_side (to_side d) l = d

-- the kind after a part: kept, its own, or that of a European number, of a terminator, or of both in turn
abbrev pub act_kind : KindEffect → Left → Kind
act_kind keep_kind l = l.kind
act_kind (to_kind k) l = k
act_kind kind_number l = (after l EN).kind
act_kind ended l = (after l ET).kind
act_kind number_ended l = (after (after l EN) ET).kind

-- the left context after a part
abbrev pub act_left : LeftAction → Left → Left
act_left a l = record { strong = replaced a.strong l.strong; side = act_side a.side l; kind = act_kind a.kind l }

-- the right context before a part
abbrev pub act_right : RightAction → Right → Right
act_right a r = record { next = replaced a.next r.next; leads = replaced a.leads r.leads; first = replaced a.first r.first }
