use Rattle.std.proofs.Common.{[], sym, ap, ◌∙◌}
use Rattle.std.specs.Option.{unwrap_or, option_copied}
use Rattle.std.proofs.lemmas.Option.{unwrap_or-slice_get}
use Rattle.py_built.proofs.names.text_at.Goals as goal

pub returns-in-None : goal.returns-in-None
returns-in-None c =
    ap (λ o. unwrap_or (option_copied o) []) (sym c.in-None.is) ∙ ap (λ o. unwrap_or o []) c.text.ensures.text ∙ unwrap_or-slice_get c.args.names.now c.args.name.0 []
