-- What is stated of each small program in the files ProgramVectorsPlain and ProgramVectorsBlocks: which tree its text is,
-- what its runs and the runs of its C++ come to, and the whole text of each file that is written for it.
use Rattle.std.proofs.Common.{◌≡◌, ℕ, zero, suc, List, [], ◌∷◌, ◌++◌, codes}
use Rattle.runs.specs.Run.{Ending, Gives, ComesTo}
use Rattle.py_meaning.specs.Name.{Name}
use Rattle.py_meaning.specs.Tree.{Body}
use Rattle.py_meaning.specs.Program.{Program as Source}
use Rattle.py_meaning.specs.Machine.{machine as source_machine, start as source_start}
use Rattle.py_meaning.specs.Source.{IsSource}
use Rattle.cpp_meaning.specs.Text.{File}
use Rattle.cpp_meaning.specs.Tree.{Program}
use Rattle.cpp_meaning.specs.Machine.{machine, start}
use Rattle.shed_meaning.specs.Headline.{written}
use Rattle.shed_meaning.specs.Outcome.{program}
use Rattle.cpp_emit.specs.Emit.{emit}

-- ---- runs

-- what a run writes and how it ends: with so many ticks, or with so many and with any number more
pub data Outcome : Type 0 where
  With : (ticks : ℕ) → (output : List ℕ) → (ending : Ending) → Outcome
  WithAtLeast : (ticks : ℕ) → (output : List ℕ) → (ending : Ending) → Outcome

-- n and k more
abbrev pub beyond : ℕ → ℕ → ℕ
beyond zero k = k
beyond (suc n) k = suc (beyond n k)

-- with n ticks the module and its C++ write this and end so
abbrev pub BothCome : Source → Program → List ℕ → ℕ → List ℕ → Ending → Type 0
BothCome P C input n out ending = ComesTo (source_machine P) n (source_start P input) (Gives out ending) × ComesTo (machine C) n (start C input) (Gives out ending)

-- whatever is to be read, both have each of these outcomes
abbrev pub BothHave : Source → Program → List Outcome → Type 0
BothHave P C [] = Unit {0}
BothHave P C (With n out ending ∷ outcomes) = ((input : List ℕ) → BothCome P C input n out ending) × BothHave P C outcomes
BothHave P C (WithAtLeast n out ending ∷ outcomes) = ((input : List ℕ) (k : ℕ) → BothCome P C input (beyond n k) out ending) × BothHave P C outcomes

-- ---- files

-- the texts of a program's files but for `shed-forward.hpp`, whose text is always the same
pub record Texts : Type 0 where
  pub header : List ℕ
  pub source : List ℕ
  pub makefile : List ℕ
  pub types : List ℕ

-- the files of a module, in the order in which they are written
abbrev pub files_with : Name → Texts → List File
files_with name texts =
    record { name = codes "shed-forward.hpp"; bytes = codes "#pragma once\n#include \"shed-support.hpp\"\n" }
    ∷ record { name = name ++ codes ".hpp"; bytes = texts.header } ∷ record { name = name ++ codes ".cpp"; bytes = texts.source }
    ∷ record { name = codes "Makefile"; bytes = texts.makefile } ∷ record { name = name ++ codes ".types"; bytes = texts.types } ∷ []

-- ---- a whole program

-- The text is a module, and this is its tree. The runs of the module, and those of the C++ that is emitted for it, have these
-- outcomes. And these are the texts of what is written.
pub record Shown (name : Name) (text : List ℕ) (body : Body) (outcomes : List Outcome) (texts : Texts) : Type 0 where
  pub is_source : IsSource text body
  pub runs : BothHave (program name body) (emit name body) outcomes
  pub files : written (program name body) (emit name body) ≡ files_with name texts
