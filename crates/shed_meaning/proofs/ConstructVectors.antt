-- Worked texts: which construct stands in them, and where.
use Rattle.std.proofs.Common.{◌≡◌, ℕ, List, take, drop, Some, None, refl, codes}
use Rattle.std.specs.Fmt.{digits}
use Rattle.py_tokens.specs.Token.{Place}
use Rattle.py_syntax.specs.Laws.{IsLongestFront}
use Rattle.py_constructs.specs.Construct as c
use Rattle.py_constructs.specs.Construct.{Construct, constructs}
use Rattle.py_constructs.specs.Search.{best}
use Rattle.py_constructs.specs.Trial.{search}
use Rattle.py_constructs.proofs.Trial.{search_law}
use Rattle.py_meaning.specs.Source.{grammar_tokens}
use Rattle.py_meaning.proofs.SourceVectors.{at, tokens, longest_front}
use Rattle.shed_meaning.specs.Fault.{IsOutside}

-- the first bad token is the one with the number k, and the head the one with the number n
stands : (k n : ℕ) (text : List ℕ) (p : Place) (c : Construct) → IsLongestFront (take k (grammar_tokens (tokens text))) (drop k (grammar_tokens (tokens text)))
    → search constructs 400 (grammar_tokens (tokens text)) k None ≡ Some (Some (best c (record { number = n; place = p }))) → IsOutside (tokens text) p c
stands k n text p c longest e =
    record { count = k; longest = longest; found = search_law 400 (grammar_tokens (tokens text)) k (Some (best c (record { number = n; place = p }))) e }

a_float : IsOutside (tokens (codes "x = 1.5\n")) (at 1 5) c.Float
unfolding lib.Utf8.encode digits
a_float = stands 2 2 (codes "x = 1.5\n") (at 1 5) c.Float (longest_front 400 2 (codes "x = 1.5\n") refl) refl

a_imaginary : IsOutside (tokens (codes "f(2j)\n")) (at 1 3) c.Imaginary
unfolding lib.Utf8.encode digits
a_imaginary = stands 2 2 (codes "f(2j)\n") (at 1 3) c.Imaginary (longest_front 400 2 (codes "f(2j)\n") refl) refl

a_bytes : IsOutside (tokens (codes "x = b'a'\n")) (at 1 5) c.Bytes
unfolding lib.Utf8.encode digits
a_bytes = stands 2 2 (codes "x = b'a'\n") (at 1 5) c.Bytes (longest_front 400 2 (codes "x = b'a'\n") refl) refl

a_fstring : IsOutside (tokens (codes "x = 'a' f'b'\n")) (at 1 9) c.FormattedText
unfolding lib.Utf8.encode digits
a_fstring = stands 3 3 (codes "x = 'a' f'b'\n") (at 1 9) c.FormattedText (longest_front 400 3 (codes "x = 'a' f'b'\n") refl) refl

a_division : IsOutside (tokens (codes "x = 1 / 2\n")) (at 1 7) c.Division
unfolding lib.Utf8.encode digits
a_division = stands 3 3 (codes "x = 1 / 2\n") (at 1 7) c.Division (longest_front 400 3 (codes "x = 1 / 2\n") refl) refl

a_matmul : IsOutside (tokens (codes "x @= y\n")) (at 1 3) c.MatrixProduct
unfolding lib.Utf8.encode digits
a_matmul = stands 1 1 (codes "x @= y\n") (at 1 3) c.MatrixProduct (longest_front 400 1 (codes "x @= y\n") refl) refl

a_decorator : IsOutside (tokens (codes "@f\n")) (at 1 1) c.Decorator
unfolding lib.Utf8.encode digits
a_decorator = stands 0 0 (codes "@f\n") (at 1 1) c.Decorator (longest_front 400 0 (codes "@f\n") refl) refl

a_lambda : IsOutside (tokens (codes "f = lambda x: x\n")) (at 1 5) c.Lambda
unfolding lib.Utf8.encode digits
a_lambda = stands 2 2 (codes "f = lambda x: x\n") (at 1 5) c.Lambda (longest_front 400 2 (codes "f = lambda x: x\n") refl) refl

a_nested_def : IsOutside (tokens (codes "def f():\n    def g():\n")) (at 2 5) c.NestedDefinition
unfolding lib.Utf8.encode digits
a_nested_def = stands 7 7 (codes "def f():\n    def g():\n") (at 2 5) c.NestedDefinition (longest_front 400 7 (codes "def f():\n    def g():\n") refl) refl

a_nested_class : IsOutside (tokens (codes "class A:\n    class B:\n")) (at 2 5) c.NestedClass
unfolding lib.Utf8.encode digits
a_nested_class = stands 5 5 (codes "class A:\n    class B:\n") (at 2 5) c.NestedClass (longest_front 400 5 (codes "class A:\n    class B:\n") refl) refl

a_star_parameter : IsOutside (tokens (codes "def f(a, *b): pass\n")) (at 1 10) c.StarParameter
unfolding lib.Utf8.encode digits
a_star_parameter = stands 5 5 (codes "def f(a, *b): pass\n") (at 1 10) c.StarParameter (longest_front 400 5 (codes "def f(a, *b): pass\n") refl) refl

a_star_argument : IsOutside (tokens (codes "f(a, *b)\n")) (at 1 6) c.StarArgument
unfolding lib.Utf8.encode digits
a_star_argument = stands 4 4 (codes "f(a, *b)\n") (at 1 6) c.StarArgument (longest_front 400 4 (codes "f(a, *b)\n") refl) refl

a_method_keyword : IsOutside (tokens (codes "x.f(a=1)\n")) (at 1 6) c.MethodKeyword
unfolding lib.Utf8.encode digits
a_method_keyword = stands 5 5 (codes "x.f(a=1)\n") (at 1 6) c.MethodKeyword (longest_front 400 5 (codes "x.f(a=1)\n") refl) refl

a_annotation : IsOutside (tokens (codes "x: a\n")) (at 1 2) c.Annotation
unfolding lib.Utf8.encode digits
a_annotation = stands 1 1 (codes "x: a\n") (at 1 2) c.Annotation (longest_front 400 1 (codes "x: a\n") refl) refl

a_class_attribute : IsOutside (tokens (codes "class A:\n    x = 1\n")) (at 2 7) c.ClassAttribute
unfolding lib.Utf8.encode digits
a_class_attribute = stands 5 6 (codes "class A:\n    x = 1\n") (at 2 7) c.ClassAttribute (longest_front 400 5 (codes "class A:\n    x = 1\n") refl) refl

a_several_bases : IsOutside (tokens (codes "class A(B, C): pass\n")) (at 1 10) c.SeveralBases
unfolding lib.Utf8.encode digits
a_several_bases = stands 4 4 (codes "class A(B, C): pass\n") (at 1 10) c.SeveralBases (longest_front 400 4 (codes "class A(B, C): pass\n") refl) refl

a_class_keyword : IsOutside (tokens (codes "class A(b=c): pass\n")) (at 1 10) c.ClassKeyword
unfolding lib.Utf8.encode digits
a_class_keyword = stands 4 4 (codes "class A(b=c): pass\n") (at 1 10) c.ClassKeyword (longest_front 400 4 (codes "class A(b=c): pass\n") refl) refl

a_slice_step : IsOutside (tokens (codes "x[1:2:3]\n")) (at 1 6) c.SliceStep
unfolding lib.Utf8.encode digits
a_slice_step = stands 5 5 (codes "x[1:2:3]\n") (at 1 6) c.SliceStep (longest_front 400 5 (codes "x[1:2:3]\n") refl) refl

a_slice_target : IsOutside (tokens (codes "x[1:2] = y\n")) (at 1 2) c.SliceTarget
unfolding lib.Utf8.encode digits
a_slice_target = stands 6 1 (codes "x[1:2] = y\n") (at 1 2) c.SliceTarget (longest_front 400 6 (codes "x[1:2] = y\n") refl) refl

a_slice_among_targets : IsOutside (tokens (codes "x, y[:] = z\n")) (at 1 5) c.SliceTarget
unfolding lib.Utf8.encode digits
a_slice_among_targets = stands 6 3 (codes "x, y[:] = z\n") (at 1 5) c.SliceTarget (longest_front 400 6 (codes "x, y[:] = z\n") refl) refl

a_slice_deleted : IsOutside (tokens (codes "del x[1:2]\n")) (at 1 6) c.SliceTarget
unfolding lib.Utf8.encode digits
a_slice_deleted = stands 7 2 (codes "del x[1:2]\n") (at 1 6) c.SliceTarget (longest_front 400 7 (codes "del x[1:2]\n") refl) refl

a_loop_else : IsOutside (tokens (codes "while x: pass\nelse: pass\n")) (at 2 1) c.LoopElse
unfolding lib.Utf8.encode digits
a_loop_else = stands 5 5 (codes "while x: pass\nelse: pass\n") (at 2 1) c.LoopElse (longest_front 400 5 (codes "while x: pass\nelse: pass\n") refl) refl

a_try_else : IsOutside (tokens (codes "try: pass\nexcept A: pass\nelse: pass\n")) (at 3 1) c.TryElse
unfolding lib.Utf8.encode digits
a_try_else = stands 9 9 (codes "try: pass\nexcept A: pass\nelse: pass\n") (at 3 1) c.TryElse (longest_front 400 9 (codes "try: pass\nexcept A: pass\nelse: pass\n") refl) refl

a_finally : IsOutside (tokens (codes "try: pass\nfinally: pass\n")) (at 2 1) c.Finally
unfolding lib.Utf8.encode digits
a_finally = stands 4 4 (codes "try: pass\nfinally: pass\n") (at 2 1) c.Finally (longest_front 400 4 (codes "try: pass\nfinally: pass\n") refl) refl

a_with : IsOutside (tokens (codes "with x: pass\n")) (at 1 1) c.With
unfolding lib.Utf8.encode digits
a_with = stands 0 0 (codes "with x: pass\n") (at 1 1) c.With (longest_front 400 0 (codes "with x: pass\n") refl) refl

a_async : IsOutside (tokens (codes "async def f(): pass\n")) (at 1 1) c.Async
unfolding lib.Utf8.encode digits
a_async = stands 0 0 (codes "async def f(): pass\n") (at 1 1) c.Async (longest_front 400 0 (codes "async def f(): pass\n") refl) refl

a_await : IsOutside (tokens (codes "await x\n")) (at 1 1) c.Await
unfolding lib.Utf8.encode digits
a_await = stands 0 0 (codes "await x\n") (at 1 1) c.Await (longest_front 400 0 (codes "await x\n") refl) refl

a_nonlocal : IsOutside (tokens (codes "nonlocal x\n")) (at 1 1) c.Nonlocal
unfolding lib.Utf8.encode digits
a_nonlocal = stands 0 0 (codes "nonlocal x\n") (at 1 1) c.Nonlocal (longest_front 400 0 (codes "nonlocal x\n") refl) refl

a_yield_expression : IsOutside (tokens (codes "x = yield y\n")) (at 1 5) c.YieldExpression
unfolding lib.Utf8.encode digits
a_yield_expression = stands 2 2 (codes "x = yield y\n") (at 1 5) c.YieldExpression (longest_front 400 2 (codes "x = yield y\n") refl) refl

a_yield_from : IsOutside (tokens (codes "yield from x\n")) (at 1 7) c.YieldFrom
unfolding lib.Utf8.encode digits
a_yield_from = stands 1 1 (codes "yield from x\n") (at 1 7) c.YieldFrom (longest_front 400 1 (codes "yield from x\n") refl) refl

a_generator_expression : IsOutside (tokens (codes "f(x for x in y)\n")) (at 1 5) c.GeneratorExpression
unfolding lib.Utf8.encode digits
a_generator_expression = stands 3 3 (codes "f(x for x in y)\n") (at 1 5) c.GeneratorExpression (longest_front 400 3 (codes "f(x for x in y)\n") refl) refl

a_set_comprehension : IsOutside (tokens (codes "{x for x in y}\n")) (at 1 4) c.SetComprehension
unfolding lib.Utf8.encode digits
a_set_comprehension = stands 2 2 (codes "{x for x in y}\n") (at 1 4) c.SetComprehension (longest_front 400 2 (codes "{x for x in y}\n") refl) refl

a_dict_comprehension : IsOutside (tokens (codes "{x: y for x in z}\n")) (at 1 7) c.DictComprehension
unfolding lib.Utf8.encode digits
a_dict_comprehension = stands 4 4 (codes "{x: y for x in z}\n") (at 1 7) c.DictComprehension (longest_front 400 4 (codes "{x: y for x in z}\n") refl) refl

a_walrus : IsOutside (tokens (codes "if x := y: pass\n")) (at 1 6) c.Walrus
unfolding lib.Utf8.encode digits
a_walrus = stands 2 2 (codes "if x := y: pass\n") (at 1 6) c.Walrus (longest_front 400 2 (codes "if x := y: pass\n") refl) refl

a_star_import : IsOutside (tokens (codes "from a import *\n")) (at 1 15) c.StarImport
unfolding lib.Utf8.encode digits
a_star_import = stands 3 3 (codes "from a import *\n") (at 1 15) c.StarImport (longest_front 400 3 (codes "from a import *\n") refl) refl

a_relative_import : IsOutside (tokens (codes "from . import a\n")) (at 1 6) c.RelativeImport
unfolding lib.Utf8.encode digits
a_relative_import = stands 1 1 (codes "from . import a\n") (at 1 6) c.RelativeImport (longest_front 400 1 (codes "from . import a\n") refl) refl

a_dotted_import : IsOutside (tokens (codes "import a.b\n")) (at 1 9) c.DottedImport
unfolding lib.Utf8.encode digits
a_dotted_import = stands 2 2 (codes "import a.b\n") (at 1 9) c.DottedImport (longest_front 400 2 (codes "import a.b\n") refl) refl

a_nested_import : IsOutside (tokens (codes "if x: import a\n")) (at 1 7) c.NestedImport
unfolding lib.Utf8.encode digits
a_nested_import = stands 3 3 (codes "if x: import a\n") (at 1 7) c.NestedImport (longest_front 400 3 (codes "if x: import a\n") refl) refl

a_bare_raise : IsOutside (tokens (codes "raise\n")) (at 1 1) c.BareRaise
unfolding lib.Utf8.encode digits
a_bare_raise = stands 1 0 (codes "raise\n") (at 1 1) c.BareRaise (longest_front 400 1 (codes "raise\n") refl) refl

a_raise_from : IsOutside (tokens (codes "raise x from y\n")) (at 1 9) c.RaiseFrom
unfolding lib.Utf8.encode digits
a_raise_from = stands 2 2 (codes "raise x from y\n") (at 1 9) c.RaiseFrom (longest_front 400 2 (codes "raise x from y\n") refl) refl

a_except_tuple : IsOutside (tokens (codes "try: pass\nexcept (A, B): pass\n")) (at 2 8) c.ExceptTuple
unfolding lib.Utf8.encode digits
a_except_tuple = stands 5 5 (codes "try: pass\nexcept (A, B): pass\n") (at 2 8) c.ExceptTuple (longest_front 400 5 (codes "try: pass\nexcept (A, B): pass\n") refl) refl

a_del_name : IsOutside (tokens (codes "del x, y\n")) (at 1 1) c.DeleteName
unfolding lib.Utf8.encode digits
a_del_name = stands 2 0 (codes "del x, y\n") (at 1 1) c.DeleteName (longest_front 400 2 (codes "del x, y\n") refl) refl

a_nested_target : IsOutside (tokens (codes "(x, (y, z)) = a\n")) (at 1 5) c.NestedTarget
unfolding lib.Utf8.encode digits
a_nested_target = stands 9 3 (codes "(x, (y, z)) = a\n") (at 1 5) c.NestedTarget (longest_front 400 9 (codes "(x, (y, z)) = a\n") refl) refl

a_bracket_before_targets : IsOutside (tokens (codes "(x, y), z = a\n")) (at 1 1) c.NestedTarget
unfolding lib.Utf8.encode digits
a_bracket_before_targets = stands 7 0 (codes "(x, y), z = a\n") (at 1 1) c.NestedTarget (longest_front 400 7 (codes "(x, y), z = a\n") refl) refl

a_bracket_in_a_loop : IsOutside (tokens (codes "for (x, (y, z)) in a: pass\n")) (at 1 5) c.NestedTarget
unfolding lib.Utf8.encode digits
a_bracket_in_a_loop = stands 4 1 (codes "for (x, (y, z)) in a: pass\n") (at 1 5) c.NestedTarget (longest_front 400 4 (codes "for (x, (y, z)) in a: pass\n") refl) refl

a_starred_target : IsOutside (tokens (codes "*a, b = x\n")) (at 1 1) c.StarredTarget
unfolding lib.Utf8.encode digits
a_starred_target = stands 0 0 (codes "*a, b = x\n") (at 1 1) c.StarredTarget (longest_front 400 0 (codes "*a, b = x\n") refl) refl

a_ellipsis : IsOutside (tokens (codes "x = ...\n")) (at 1 5) c.Ellipsis
unfolding lib.Utf8.encode digits
a_ellipsis = stands 2 2 (codes "x = ...\n") (at 1 5) c.Ellipsis (longest_front 400 2 (codes "x = ...\n") refl) refl
