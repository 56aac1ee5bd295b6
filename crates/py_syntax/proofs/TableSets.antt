-- One token of sight decides in the table, and each nonterminal derives something.
use Rattle.std.proofs.Common.{◌≡◌, true, refl}
use Rattle.grammars.specs.Sets.{is_decided, is_start, is_completable, have_specimens}
use Rattle.py_syntax.specs.Table.{Nonterminal, Module, table, sets}
use Rattle.py_syntax.specs.Laws.{goal}

pub decided : (x : Nonterminal) → is_decided table sets x ≡ true
decided Module = refl
decided _ = refl

pub completable : (x : Nonterminal) → is_completable table sets x ≡ true
completable Module = refl
completable _ = refl

pub goal_decided : is_start sets goal ≡ true
goal_decided = refl

pub goal_has_specimens : have_specimens table sets goal ≡ true
goal_has_specimens = refl
