-- What the emission keeps.
use Rattle.std.specs.Prelude.{◌≡◌, [], true}
use Rattle.py_meaning.specs.Name.{Name}
use Rattle.py_meaning.specs.Tree.{Body}
use Rattle.py_meaning.specs.Rules.{are_reads_sure}
use Rattle.cpp_meaning.specs.Tree.{Program as CppProgram}
use Rattle.shed_meaning.specs.Headline.{written, Headline}
use Rattle.shed_meaning.specs.Outcome.{program}
use Rattle.cpp_emit.specs.Emit.{emit}

-- this tree is the C++ of a module of this name and body, with the files that are its text
abbrev pub IsTranslation : Name → Body → CppProgram → Type 0
IsTranslation name body C = Headline (program name body) C (written (program name body) C)

abbrev pub EmissionTranslates : Type 0
EmissionTranslates = (name : Name) (body : Body) → are_reads_sure [] body ≡ true → IsTranslation name body (emit name body)
