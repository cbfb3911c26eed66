use Rattle.mountd.proofs.server.answer_from.Goals as goal

pub returns : goal.returns
returns g c = record {
  source = (c.args.source, c.answer_objects.new.source);
  reader = (c.args.reader, c.answer_objects.new.reader);
  writer = (c.args.writer, c.answer_objects.new.writer);
  served = c.answer_objects.ensures;
}
