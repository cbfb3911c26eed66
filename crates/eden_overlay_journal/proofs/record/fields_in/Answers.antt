use Rattle.std.proofs.Common.{rules}
use Rattle.eden_overlay_journal.proofs.FieldsRead.{fields_back}
use Rattle.eden_overlay_journal.proofs.record.fields_in.Goals as goal

pub returns : goal.returns
returns c = fields_back c.args.front.now c.in_ok-note.note c.number_at.result c.number_at-2.result c.number_at-3.result record {
  as_long = search rules;
  note_is = search rules;
  number_is = c.number_at.ensures;
  when_is = c.number_at-2.ensures;
  len_is = c.number_at-3.ensures;
}
