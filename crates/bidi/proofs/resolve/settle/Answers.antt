use Rattle.std.proofs.Common.{◌≡◌, ℕ, subst, ◌<◌, length, get_or, refl, ap, ◌∙◌, arith}
use Rattle.std.proofs.lemmas.List.{length-set}
use Rattle.rules.specs.Claims.{IsLevel}
use Rattle.rules.specs.Contexts.{after}
use Rattle.bidi.specs.declared.item.Item.{Item}
use Rattle.bidi.specs.Actions.{act_right, right_at}
use Rattle.bidi.proofs.Resolving.{length_behind, right_here, level_here, settled_more, settled_all}
use Rattle.bidi.proofs.resolve.settle.Goals as goal

pub loop-place-init : goal.loop-place-init
loop-place-init c = (
  ap length c.requires ∙ length_behind c.args.items.now,
  record { on_left = c.start-left.ensures; front = refl; rest = λ k u. ap (λ l. get_or l k 0) c.requires },
)

pub loop-place-preserved : goal.loop-place-preserved
loop-place-preserved c =
    let base = c.args.base in
    let items = c.args.items.now in
    let i : ℕ = c.loop-place.place in
    let bytes = c.loop-place.bytes in
    let left = c.loop-place.left in
    let d = c.index-items-place.result in
    let e = get_or items i d in
    let h : i < length items = omega arith in
    let k : i < length bytes = omega (arith, c.loop-place.invariant.0) in
    let s = c.loop-place.invariant.1 in
    let right_is = c.before_part.ensures ∙ ap (act_right (right_at (get_or bytes i 0))) c.end-end.ensures ∙ right_here base items i bytes left d h k s in
    let is : d ≡ e = c.index-items-place.is in
    let rules : IsLevel base left e.class c.before_part.result c.level.result =
    subst (λ (x : Item). IsLevel base left x.class c.before_part.result c.level.result) is c.level.ensures.rules in
    let told = level_here base items i bytes left d h k s c.level.result c.before_part.result right_is rules in
    let more = settled_more base items i bytes left d h k s c.level.result told in (
      length-set bytes i c.level.result ∙ c.loop-place.invariant.0,
      record { on_left = c.after-left.ensures ∙ ap (λ (x : Item). after left x.class) is ∙ more.on_left; front = more.front; rest = more.rest },
    )

pub returns : goal.returns
returns c = settled_all c.args.base c.args.items.now c.loop-place.place c.loop-place.bytes c.loop-place.left (omega arith) c.loop-place.invariant.0 c.loop-place.invariant.1
