use Rattle.std.proofs.Common.{ap, sym, ◌∙◌}
use Rattle.shed_meaning.specs.Words.{reading}
use Rattle.shed_cli.proofs.WordsRead.{other_count, two_words}
use Rattle.shed_cli.proofs.words.read_words.Goals as goal

pub returns : goal.returns
returns c =
    c.module_named.ensures
    ∙ ap reading (sym (two_words c.args.words.now c.index-words-0.result c.index-words-1.result c.as_str.result.now c.as_str-2.result.now c.if-words-ne2.false c.index-words-0.is c.index-words-1.is c.as_str.ensures.value c.as_str-2.ensures.value))

pub returns-then-words-ne2 : goal.returns-then-words-ne2
returns-then-words-ne2 c = other_count c.args.words.now c.if-words-ne2.true
