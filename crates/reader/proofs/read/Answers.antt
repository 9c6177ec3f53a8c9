-- `read`: the refusals in their order, then the reading with its counts.
use Rattle.call.proofs.ReadEnds.{too_long, no-entries, reads}
use Rattle.reader.proofs.read.Goals as goal

pub returns-then-capture-gt-CAPTURE_MOST : goal.returns-then-capture-gt-CAPTURE_MOST
returns-then-capture-gt-CAPTURE_MOST c = let z = c.args in too_long z.capture.now z.list.now c.if-capture-gt-CAPTURE_MOST.true

pub returns-then-list-capture : goal.returns-then-list-capture
returns-then-list-capture c = let z = c.args in no-entries z.capture.now z.list.now c.if-capture-gt-CAPTURE_MOST.false c.if-list-capture.true

pub returns : goal.returns
returns c =
    let z = c.args in
    let h = c.read_in.ensures in
    reads z.capture.now z.list.now c.if-capture-gt-CAPTURE_MOST.false c.if-list-capture.false _ _ (λ i. record { result = 0; entries = h.entries_are i; skipped = h.skipped_is i; unread = h.unread_is i }) h.writes
