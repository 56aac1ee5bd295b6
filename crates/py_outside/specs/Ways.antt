-- Where runs have come, and what is found.
use Rattle.std.specs.Prelude.{◌≡◌, List, ◌⊎◌, Option, Some, None}
use Rattle.py_syntax.specs.Token.{Token}
use Rattle.py_constructs.specs.Construct as meaning
use Rattle.py_constructs.specs.Values as values
use Rattle.py_constructs.specs.Table.{Symbol, Addition}
use Rattle.py_constructs.specs.OneStep.{Halted, Finished, one_step, OnWay}
use Rattle.py_constructs.specs.Search.{Best, best}
use Rattle.py_constructs.specs.Standing.{Finding, finding}
use Rattle.py_lexer.specs.PlainTokens.{plain_place}
use Rattle.py_outside.specs.PlainConstructs.{plain_construct}
use Rattle.py_outside.specs.PlainValues.{plain_numbered}
use Rattle.py_outside.specs.declared.construct.Construct.{Construct}
use Rattle.py_outside.specs.declared.item.Numbered.{Numbered}
use Rattle.shed_base.specs.declared.place.Place.{Place}

-- a run has come here with each construct, since it has used none
abbrev pub OnAllWays : List Token → List Symbol → values.Value → List Token → Type 0
OnAllWays ts symbols v rest = (c : meaning.Construct) → OnWay c ts symbols v rest

abbrev pub plain_best : Option (Construct × Numbered) → Option Best
plain_best None = None
plain_best (Some (c, head)) = Some (best (plain_construct c) (plain_numbered head))

abbrev pub plain_finding : Option (Construct × Place) → Option Finding
plain_finding None = None
plain_finding (Some (c, p)) = Some (finding (plain_construct c) (plain_place p))

-- it goes no further, with these additions
abbrev pub HasEnded : List Addition → List Symbol → values.Value → List Token → Type 0
HasEnded more symbols v ts = (one_step more symbols v ts ≡ Halted) ⊎ (one_step more symbols v ts ≡ Finished)
