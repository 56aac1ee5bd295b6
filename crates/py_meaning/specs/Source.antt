-- Which texts are modules of the language that is built today, and what module each of them is.
use Rattle.std.specs.Prelude.{◌≡◌, ℕ, List, [], map, true, Some, nat_lt}
use Rattle.std.specs.List.{list_all}
use Rattle.runs.specs.Number.{W32}
use Rattle.shed_base.specs.Names.{special_texts, with_texts}
use Rattle.py_tokens.specs.Token as texts
use Rattle.py_tokens.specs.Names.{names_in}
use Rattle.py_tokens.specs.Tokens.{tokens_of}
use Rattle.py_syntax.specs.Token.{Kind, TName, TKeyword, TOperator, TNumber, TText, TFloat, TImaginary, TBytes, TFormatted, TNewline, TIndent, TDedent, Token, At}
use Rattle.py_syntax.specs.Kinds.{place_among}
use Rattle.py_syntax.specs.Tree as whole
use Rattle.py_syntax.specs.Grammar.{IsModule}
use Rattle.py_syntax.specs.Heights.{IsShallow}
use Rattle.py_meaning.specs.Name.{Name}
use Rattle.py_meaning.specs.Tree.{Body}
use Rattle.py_meaning.specs.Rules.{are_reads_sure}
use Rattle.py_meaning.specs.Built.{built_body}

-- the texts that the names of a module stand for: the special ones, and then those of its tokens, each once
abbrev pub names_of : List texts.Token → List Name
names_of ts = with_texts special_texts (names_in ts)

-- a token as the grammar sees it: a name is the number of its text
abbrev pub numbered_kind : List Name → texts.Kind → Kind
numbered_kind names (texts.TName x) = TName (list_all (λ b. nat_lt b 128) x) (place_among names x)
numbered_kind names (texts.TKeyword s) = TKeyword s
numbered_kind names (texts.TOperator s) = TOperator s
numbered_kind names (texts.TNumber n) = TNumber n
numbered_kind names (texts.TText t) = TText t
numbered_kind names texts.TFloat = TFloat
numbered_kind names texts.TImaginary = TImaginary
numbered_kind names texts.TBytes = TBytes
numbered_kind names texts.TFormatted = TFormatted
numbered_kind names texts.TNewline = TNewline
numbered_kind names texts.TIndent = TIndent
numbered_kind names texts.TDedent = TDedent

abbrev pub numbered : List Name → texts.Token → Token
numbered names t = At t.place (numbered_kind names t.kind)

-- the tokens of a text as the grammar sees them
abbrev pub grammar_tokens : List texts.Token → List Token
grammar_tokens ts = map (numbered (names_of ts)) ts

-- the text's tokens, which spell this tree
pub record IsText (text : List ℕ) (tree : whole.Body) (names : List Name) : Type 0 where
  pub tokens : List texts.Token
  pub lexed : tokens_of 0 W32 text ≡ texts.Tokens tokens
  pub numbering : names ≡ names_of tokens
  pub spelt : IsModule tree (grammar_tokens tokens)
  pub shallow : IsShallow tree

-- the text is that of a tree whose forms are built, and which reads no name that may be unset
pub record IsSource (text : List ℕ) (body : Body) : Type 0 where
  pub tree : whole.Body
  pub names : List Name
  pub read : IsText text tree names
  pub built : built_body names tree ≡ Some body
  pub sure : are_reads_sure [] body ≡ true

-- the most bytes of a module
abbrev pub most_bytes : ℕ
most_bytes = 1048576
