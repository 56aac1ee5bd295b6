-- Which declarations the C++ of a program has: each global of the types table with the C++ type of its kind, in the order
-- of first bindings, the body of the module, and no other but temporaries.
use Rattle.std.specs.Prelude.{◌≡◌, ℕ, List, [], ◌∷◌, ◌++◌}
use Rattle.py_meaning.specs.Name.{Name}
use Rattle.py_meaning.specs.Binding.{names_bound}
use Rattle.cpp_meaning.specs.Tree.{Int32, ZeroNumber, Declare, Assign, Perform, If, IfElse, While, Block, none, more, Declaration, Extern, BodyHead, Definition, Variable, Body as BodyDefinition, Main, Module, Program}
use Rattle.py_meaning.specs.Program.{Program as Source}
use Rattle.shed_meaning.specs.EmittedName.{global_name, body_name, temporary_name}

-- the externs of a module's globals, whose kind is int
abbrev pub externs : ℕ → List Name → List Declaration
externs owner [] = []
externs owner (x ∷ names) = Extern Int32 (global_name owner x) ∷ externs owner names

abbrev pub variables : ℕ → List Name → List Definition
variables owner [] = []
variables owner (x ∷ names) = Variable Int32 (global_name owner x) ZeroNumber ∷ variables owner names

-- each local of a body is a temporary
abbrev pub HasTemporariesAlone : Block → Type 0
HasTemporariesAlone none = Unit {0}
HasTemporariesAlone (more (Declare t x z) rest) = (n : ℕ) × (x ≡ temporary_name n) × HasTemporariesAlone rest
HasTemporariesAlone (more (Assign x v) rest) = HasTemporariesAlone rest
HasTemporariesAlone (more (Perform v) rest) = HasTemporariesAlone rest
HasTemporariesAlone (more (If e body) rest) = HasTemporariesAlone body × HasTemporariesAlone rest
HasTemporariesAlone (more (IfElse e body other) rest) = HasTemporariesAlone body × HasTemporariesAlone other × HasTemporariesAlone rest
HasTemporariesAlone (more (While e body) rest) = HasTemporariesAlone body × HasTemporariesAlone rest

-- the module of a program whose body is this block
abbrev pub laid_out : Name → List Name → Block → Module
laid_out name names block =
    record {
      name = name;
      header = externs 0 names ++ BodyHead (body_name name) ∷ [];
      source = variables 0 names ++ BodyDefinition (body_name name) block ∷ Main (body_name name) ∷ [];
    }

pub record Lays (P : Source) (C : Program) : Type 0 where
  pub block : Block
  pub temporaries : HasTemporariesAlone block
  pub modules : C.modules ≡ laid_out P.main.name (names_bound P.main.body) block ∷ []
