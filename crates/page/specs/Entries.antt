-- Entries from numbers.
use Rattle.std.specs.Prelude.{ℕ, min, max, Bool, cond, ◌&&◌, Ok, Err, Result, nat_le}
use Rattle.std.proofs.Common.{arith}
use Rattle.page.specs.declared.entry.Entry.{Entry}
use Rattle.page.specs.declared.fault.PageFault.{PageFault}
use Rattle.page.specs.declared.fault.PageFault.TheVariants.{Lines}

-- as many lines as an entry can take
abbrev pub in_range : ℕ → Bool
in_range lines = nat_le 1 lines && nat_le lines 65535

-- the entry of a key, and of lines and hits, which are brought into their range where they are out of it
unfoldable pub entry_of : ℕ → ℕ → ℕ → Entry
entry_of key lines hits = record { key = key; lines = max 1 (min 65535 lines); hits = min 65535 hits; shown = (omega arith, omega arith, omega arith) }

-- an entry, or the refusal of lines that are out of range
abbrev pub entry_answer : ℕ → ℕ → ℕ → Result Entry PageFault
entry_answer key lines hits = cond (in_range lines) (Ok (entry_of key lines hits)) (Err Lines)
