use Rattle.std.proofs.Common.{◌≡◌, [], Some, true, ap, ◌∙◌, subst}
use Rattle.std.specs.Prelude.{IfOk, IfErr}
use Rattle.shed_base.specs.Names.{with_texts}
use Rattle.py_tokens.specs.Names.{names_in}
use Rattle.py_syntax.specs.Grammar.{IsModule}
use Rattle.py_syntax.specs.Heights.{IsShallow}
use Rattle.py_meaning.specs.Rules.{are_reads_sure}
use Rattle.py_meaning.specs.Built.{built_body, unbuilt, first_place}
use Rattle.py_lexer.specs.PlainTokens.{plain_place, plain_tokens as text_tokens}
use Rattle.py_table.specs.PlainTokens.{plain_tokens}
use Rattle.py_recogniser.specs.Refused.{IsParseRefused}
use Rattle.py_ast.specs.PlainTrees.{plain as plain_whole}
use Rattle.py_built.specs.PlainTrees.{plain}
use Rattle.shed_source.proofs.SourceRead.{fault_of_refusal, source_read, fault_unexpected, fault_outside, fault_too_deep, fault_unbuilt}
use Rattle.shed_source.proofs.source.read_source.Goals as goal

pub returns-in-Err : goal.returns-in-Err
returns-in-Err c =
    record {
      source = tt;
      fault = fault_of_refusal c.args.text.now c.in-Err.refusal c.in_ok-bad_token-in-Err.field-0 c.in-Err.ensures.refused c.in_ok-bad_token-in-Err.ensures;
    }

pub returns-in-Err-Unexpected-clause-fault : goal.returns-in-Err-Unexpected-clause-fault
returns-in-Err-Unexpected-clause-fault c =
    let names = c.lex.new.names in
    let ts = c.in-Ok.tokens.items in
    let numbering = c.in-Ok.ensures.numbered ∙ ap (λ first. with_texts first (names_in (text_tokens names ts))) c.in_ok-names.ensures.texts in
    let refused = subst (λ us. IsParseRefused names us c.in-Err-Unexpected.field-0) c.deref.ensures.value c.in-Err-Unexpected.ensures.refused in
    let said = c.in_ok-unexpected-in-Err-Unexpected.ensures in
    fault_unexpected c.args.text.now names ts c.in-Ok.ensures.tokens numbering c.in-Ok.ensures.held c.in-Err-Unexpected.place c.in-Err-Unexpected.found c.in_ok-unexpected-in-Err-Unexpected.field-0
    (subst (IsParseRefused names ts) c.in-Err-Unexpected.field-0-is refused) said.0 said.1 said.2

pub returns-in-Err-Outside-clause-fault : goal.returns-in-Err-Outside-clause-fault
returns-in-Err-Outside-clause-fault c =
    let names = c.lex.new.names in
    let ts = c.in-Ok.tokens.items in
    let numbering = c.in-Ok.ensures.numbered ∙ ap (λ first. with_texts first (names_in (text_tokens names ts))) c.in_ok-names.ensures.texts in
    let refused = subst (λ us. IsParseRefused names us c.in-Err-Outside.field-0) c.deref.ensures.value c.in-Err-Outside.ensures.refused in
    let said = c.in_ok-outside-in-Err-Outside.ensures in
    fault_outside c.args.text.now names ts c.in-Ok.ensures.tokens numbering c.in-Ok.ensures.held c.in-Err-Outside.place c.in-Err-Outside.construct c.in_ok-outside-in-Err-Outside.field-0
    (subst (IsParseRefused names ts) c.in-Err-Outside.field-0-is refused) said.0 said.1 said.2

pub returns-in-Err-TooDeep-clause-fault : goal.returns-in-Err-TooDeep-clause-fault
returns-in-Err-TooDeep-clause-fault c =
    let names = c.lex.new.names in
    let ts = c.in-Ok.tokens.items in
    let numbering = c.in-Ok.ensures.numbered ∙ ap (λ first. with_texts first (names_in (text_tokens names ts))) c.in_ok-names.ensures.texts in
    let refused = subst (λ us. IsParseRefused names us c.in-Err-TooDeep.field-0) c.deref.ensures.value c.in-Err-TooDeep.ensures.refused in
    let said = c.in_ok-too_deep-in-Err-TooDeep.ensures in
    fault_too_deep c.args.text.now names ts c.in-Ok.ensures.tokens numbering c.in-Ok.ensures.held c.in-Err-TooDeep.place c.in_ok-too_deep-in-Err-TooDeep.field-0
    (subst (IsParseRefused names ts) c.in-Err-TooDeep.field-0-is refused) said.0 said.1 said.2

pub returns-in-Ok-2-clause-source : goal.returns-in-Ok-2-clause-source
returns-in-Ok-2-clause-source c =
    let names = c.lex.new.names in
    let ts = c.in-Ok.tokens.items in
    let numbering = c.in-Ok.ensures.numbered ∙ ap (λ first. with_texts first (names_in (text_tokens names ts))) c.in_ok-names.ensures.texts in
    let tree = plain_whole c.in-Ok-parse.module in
    let spelt = subst (λ us. IsModule tree (plain_tokens names us) × IsShallow tree) c.deref.ensures.value c.in-Ok-parse.ensures.tree in
    let built = subst (λ r. IfOk r (λ m. (built_body names tree ≡ Some (plain m)) × (are_reads_sure [] (plain m) ≡ true))) c.in-Ok-2.is c.in_ok-built.ensures.built in
    source_read c.args.text.now names ts c.in-Ok.ensures.tokens numbering c.in-Ok.ensures.held tree (plain c.in-Ok-2.built) spelt built

pub returns-clause-fault : goal.returns-clause-fault
returns-clause-fault c =
    let names = c.lex.new.names in
    let ts = c.in-Ok.tokens.items in
    let numbering = c.in-Ok.ensures.numbered ∙ ap (λ first. with_texts first (names_in (text_tokens names ts))) c.in_ok-names.ensures.texts in
    let tree = plain_whole c.in-Ok-parse.module in
    let spelt = subst (λ us. IsModule tree (plain_tokens names us) × IsShallow tree) c.deref.ensures.value c.in-Ok-parse.ensures.tree in
    let first = subst (λ r. IfErr r (λ p. first_place (unbuilt names [] tree) ≡ Some (plain_place p))) c.in-Err-2.is c.in_ok-built.ensures.place in
    let said = c.in_ok-unbuilt-in-Err-2.ensures in
    fault_unbuilt c.args.text.now names ts c.in-Ok.ensures.tokens numbering c.in-Ok.ensures.held tree c.in-Err-2.place c.in_ok-unbuilt-in-Err-2.field-0 spelt first said.0 said.1 said.2
