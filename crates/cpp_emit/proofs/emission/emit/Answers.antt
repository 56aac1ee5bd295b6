use Rattle.std.proofs.Common.{sym, subst}
use Rattle.py_built.specs.PlainTrees.{plain as plain_source}
use Rattle.cpp_emit.specs.Law.{IsTranslation}
use Rattle.cpp_emit.proofs.EmissionTranslates.{emission_translates}
use Rattle.cpp_emit.proofs.emission.emit.Goals as goal

pub returns-in-Ok-clause-translates : goal.returns-in-Ok-clause-translates
returns-in-Ok-clause-translates c sure =
    let name = c.args.name.now in
    let body = plain_source c.args.module.now in
    subst (IsTranslation name body) (sym c.in-Ok.ensures) (emission_translates name body sure)
