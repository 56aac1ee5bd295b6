-- The parts that are built stand for themselves.
use Rattle.std.proofs.Common.{◌≡◌, ℕ, List, [], ◌∷◌, sym, ap, ◌∙◌, subst}
use Rattle.grammars.specs.Run.{Done, run}
use Rattle.py_syntax.specs.Token.{Token}
use Rattle.py_syntax.specs.Tree.{Body}
use Rattle.py_syntax.specs.Build.{PBody, Parts}
use Rattle.py_syntax.specs.Grammar.{IsModule}
use Rattle.py_syntax.specs.Table.{table, sets}
use Rattle.py_syntax.specs.Laws.{goal, start}
use Rattle.py_syntax.proofs.TableLaws.{run_builds_tree}
use Rattle.parser_parts.specs.PlainParts.{parts_of}
use Rattle.parser_parts.proofs.Stacks.{parts_of-nothing}
use Rattle.parser_parts.specs.declared.parts.Part.{Part}

pub starts_empty : (texts : List (List ℕ)) (parts : List Part) → parts ≡ [] → parts_of texts parts ≡ start
starts_empty texts parts e = ap (parts_of texts) e ∙ parts_of-nothing texts

body_is : (b c : Body) (v w : Parts) → PBody b ∷ v ≡ PBody c ∷ w → c ≡ b
body_is b c v w e = (cc)

-- the body that is left at the end is the module
pub built_module : (ts : List Token) (w : Parts) (b : Body) (v : Parts) → w ≡ PBody b ∷ v
    → ((n : ℕ) × (u : Parts) × (w ≡ u) × (run table sets n goal start ts ≡ Done u)) → IsModule b ts
built_module ts w b v e r =
    let t = run_builds_tree r.0 ts r.1 r.3 in
    subst (λ (c : Body). IsModule c ts) (body_is b t.0 v [] (sym e ∙ r.2 ∙ t.1)) t.2

pub ruleset stands = (parts_of-nothing)
