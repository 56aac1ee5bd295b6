use Rattle.shed_cli.proofs.WordsRead.{stem_stripped, stem_whole}
use Rattle.shed_cli.proofs.words.stem.Goals as goal

pub returns-in-Some : goal.returns-in-Some
returns-in-Some c =
    let s = c.in-Some.ensures.cases in
    stem_stripped c.args.word.now c.in-Some.name.now s.0 s.1.1 s.2

pub returns-in-None : goal.returns-in-None
returns-in-None c = stem_whole c.args.word.now c.in-None.ensures.cases
