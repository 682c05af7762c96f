-- `listing::line::put_record`: a note's line or a container's. Assumes nothing.
use Rattle.std.proofs.Common.{ap}
use Rattle.recording.specs.Record.{says_content, record_from}
use Rattle.listing.proofs.Pieces.{record_note, record_holds}
use Rattle.listing.proofs.line.put_record.Goals as goal

pub put_note-requires : goal.put_note-requires
put_note-requires c = rw (record_note c.args.place (record_from c.args.x) (ap says_content c.in-None.is)) at c.requires.1

pub put_container-requires : goal.put_container-requires
put_container-requires c = (c.requires.0, rw (record_holds c.args.place (record_from c.args.x) (ap says_content c.in-Some.is)) at c.requires.1)

pub returns-in-None : goal.returns-in-None
returns-in-None c = rw (record_note c.args.place (record_from c.args.x) (ap says_content c.in-None.is)) c.put_note.ensures

pub returns-in-Some : goal.returns-in-Some
returns-in-Some c = rw (record_holds c.args.place (record_from c.args.x) (ap says_content c.in-Some.is)) c.put_container.ensures
