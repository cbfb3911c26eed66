use Rattle.std.proofs.lemmas.List.Elements.{All-more}
use Rattle.eden_wire.specs.declared.word.Word.TheVariants as word
use Rattle.eden_wire.proofs.Words.{IsOther, is_other, no_word_is}
use Rattle.eden_wire.proofs.word.read_word.Goals as goal

pub words-preserved : goal.words-preserved
words-preserved c = All-more (IsOther c.args.text.now) _ c.words.word-index word.Kind c.words-test.true c.words.invariant (is_other _ _ _ c.text.ensures c.if-eq.ensures)

pub returns : goal.returns
returns c = no_word_is c.args.text.now c.words.word-index c.words-test.false c.words.invariant
