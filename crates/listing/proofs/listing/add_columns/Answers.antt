use Rattle.std.proofs.Common.{◌≡◌, ℕ, ◌<◌, ◌∷◌, ◌++◌, length, Ok, string_bytes, decimal, sym, ap, ◌∙◌, arith, rules}
use Rattle.bidi.specs.Items.{widths}
use Rattle.bidi.specs.Sums.{held}
use Rattle.rules.specs.Order.{column_of}
use Rattle.listing.specs.Text.{columns_from}
use Rattle.listing.proofs.Columns.{answered, column_at, length-columns}
use Rattle.listing.proofs.Spacing.{spaced_more, spaced_all}
use Rattle.listing.proofs.listing.add_columns.Goals as goal

pub loop-place-preserved : goal.loop-place-preserved
loop-place-preserved c =
    let levels = c.args.levels.now in
    let items = c.args.items.now in
    let p : ℕ = c.loop-place.place in
    let lt : p < length items = omega arith in
    let told : c.column.result ≡ Ok (held (column_of levels (widths items) p)) = c.column.ensures ∙ answered levels items p c.requires.0 c.requires.1 lt in
    let found : c.column.result ≡ Ok c.unwrap-start.result = c.unwrap-start.ensures in
    let same : c.unwrap-start.result ≡ held (column_of levels (widths items) p) = cc in
    let wrote : string_bytes c.write.new.self ≡ string_bytes c.loop-place.text ++ (32 ∷ decimal c.unwrap-start.result) = search rules in
    spaced_more decimal (string_bytes c.args.text.now) (columns_from levels items) (string_bytes c.loop-place.text) (string_bytes c.write.new.self) p 0
    (omega (arith, length-columns levels items))
    (wrote ∙ ap (λ n. string_bytes c.loop-place.text ++ (32 ∷ decimal n)) (same ∙ sym (column_at levels items p lt)))
    c.loop-place.invariant

pub returns : goal.returns
returns c =
    let ns = columns_from c.args.levels.now c.args.items.now in
    spaced_all decimal (string_bytes c.args.text.now) ns (string_bytes c.loop-place.text) c.loop-place.place (omega (arith, length-columns c.args.levels.now c.args.items.now)) c.loop-place.invariant
