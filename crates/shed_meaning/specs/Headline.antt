-- The headline: what ties a program to the C++ that is written for it.
use Rattle.std.specs.Prelude.{◌≡◌, ℕ, List, [], ◌∷◌, ◌++◌, Some}
use Rattle.runs.specs.Run.{Wrong, SameRuns}
use Rattle.runs.specs.Moment.{moment_at, NeverEnds}
use Rattle.py_meaning.specs.Value.{Value, IsWhole}
use Rattle.py_meaning.specs.Program.{Program as Source, Global}
use Rattle.py_meaning.specs.Machine.{Moment, machine as source_machine, start as source_start}
use Rattle.cpp_meaning.specs.Tree.{Program}
use Rattle.cpp_meaning.specs.Typing.{IsTyped}
use Rattle.cpp_meaning.specs.Text.{File, files_of}
use Rattle.cpp_meaning.specs.Machine.{machine, start}
use Rattle.shed_meaning.specs.Layout.{Lays}
use Rattle.shed_meaning.specs.Table.{table, makefile}

-- the files of a program whose C++ is C, in the order in which they are written
abbrev pub written : Source → Program → List File
written P C = files_of C ++ makefile P ∷ table P ∷ []

-- C is the C++ of the program P, and these are the files that are written for it: the headline's five parts
pub record Headline (P : Source) (C : Program) (written_files : List File) : Type 0 where
  -- the C++ files are the one text of C, and beside them stand the makefile and the types table
  pub files : written_files ≡ written P C
  -- the C++ is well typed, and laid out as the table says
  pub typed : IsTyped C × Lays P C
  -- for every input and every n, after n ticks both runs have the same output and the same ending
  pub same_runs : (input : List ℕ) → SameRuns (source_machine P) (source_start P input) (machine C) (start C input)
  -- no run of the source meets an operation that has no case
  pub never_wrong : (input : List ℕ) → NeverEnds (source_machine P) (source_start P input) Wrong
  -- at every moment of the source run each global holds a whole number, as the table's {int} says
  pub moments : (input : List ℕ) (k : ℕ) (m : Moment) → moment_at (source_machine P) k (source_start P input) ≡ Some m → (g : Global) (v : Value) → m.world.globals g ≡ Some v → IsWhole v
