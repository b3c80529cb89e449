use Rattle.std.proofs.Common.{length, string_bytes}
use Rattle.page.specs.Pages.{entries_of, room_of}
use Rattle.pages.proofs.Sofar.{Sofar}
use Rattle.pages.proofs.session.run.Given as goal

abbrev pub invariant-loop-rest : goal.invariant-loop-rest
invariant-loop-rest l = Sofar (room_of l.initial.page) (entries_of l.initial.page) l.text (room_of l.page) (entries_of l.page) l.done l.refused l.rest (string_bytes l.printed)

abbrev pub decreases-loop-rest : goal.decreases-loop-rest
decreases-loop-rest l = length l.rest
